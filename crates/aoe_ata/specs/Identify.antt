-- The identify page (ATA/ATAPI Command Set, "IDENTIFY DEVICE data"): 256 words, each with its low byte first.
use Rattle.std.specs.Prelude.{ℕ, zero, suc, ◌+◌, ◌*◌, ◌/◌, ◌%◌, ◌^◌, min, Bool, not, ◌&&◌, ◌==◌, List, [], ◌∷◌, ◌++◌, length, take, drop, replicate, codes, Option, Some, None, if◌then◌else◌, slice_index}
use Rattle.std.specs.Int.{bit_at}
use Rattle.aoe_ata.specs.Serial.{filled}

-- the bytes of words
abbrev pub word_bytes : List ℕ → List ℕ
word_bytes [] = []
word_bytes (w ∷ ws) = w % 256 ∷ w / 256 ∷ word_bytes ws

-- the words of a text of an even length: the first byte of two is the high one
abbrev pub text_words : List ℕ → List ℕ
text_words (high ∷ low ∷ text) = (high * 256 + low) ∷ text_words text
text_words _ = []

-- the n words of a number, the low one first
abbrev pub number_words : ℕ → ℕ → List ℕ
number_words zero x = []
number_words (suc n) x = x % 2 ^ 16 ∷ number_words n (x / 2 ^ 16)

-- the words that say something, each with the number of the first: serial number, firmware, model, sectors have addresses,
-- the sectors that 28 bits reach, the feature sets that are there, those that are on, all sectors
abbrev pub named_words : ℕ → List ℕ → List (ℕ × List ℕ)
named_words total serial =
    (10, text_words serial)
    ∷ (23, text_words (filled 8 (codes "AOE1")))
    ∷ (27, text_words (filled 40 (codes "AoE shelf")))
    ∷ (49, 0x0200 ∷ [])
    ∷ (60, number_words 2 (min total 0x0fffffff))
    ∷ (83, 0x7400 ∷ [])
    ∷ (86, 0x3400 ∷ [])
    ∷ (100, number_words 4 total)
    ∷ []

-- a list with a piece laid over it, from the place n on
abbrev pub laid : List ℕ → ℕ → List ℕ → List ℕ
laid under n piece = take n under ++ piece ++ drop (n + length piece) under

abbrev pub all_laid : List ℕ → List (ℕ × List ℕ) → List ℕ
all_laid under [] = under
all_laid under (piece ∷ pieces) = all_laid (laid under piece.0 piece.1) pieces

-- the 256 words: all others are zero
abbrev pub page_words : ℕ → List ℕ → List ℕ
page_words total serial = all_laid (replicate 256 0) (named_words total serial)

-- the bytes of the page
unfoldable pub page : ℕ → List ℕ → List ℕ
page total serial = word_bytes (page_words total serial)

-- word n of a page
abbrev pub word : List ℕ → ℕ → ℕ
word bytes n = slice_index bytes (2 * n) + 256 * slice_index bytes (2 * n + 1)

abbrev pub has_bit : ℕ → ℕ → Bool
has_bit w k = bit_at w k == 1

-- the number of sectors that a page declares: 48 bits where word 83 is valid (its bits 15 and 14 are 0 and 1) and has bit 10,
-- else the words 60 and 61 where word 49 has bit 9
unfoldable pub declared : List ℕ → Option ℕ
declared bytes =
    if not (has_bit (word bytes 83) 15) && has_bit (word bytes 83) 14 && has_bit (word bytes 83) 10
    then Some (word bytes 100 + 2 ^ 16 * word bytes 101 + 2 ^ 32 * word bytes 102)
    else if has_bit (word bytes 49) 9
    then Some (word bytes 60 + 2 ^ 16 * word bytes 61)
    else None
