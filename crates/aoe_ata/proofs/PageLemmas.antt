-- The words of a page, and their bytes.
use Rattle.std.proofs.Common.{◌≡◌, ℕ, zero, suc, ◌+◌, ◌*◌, ◌/◌, ◌%◌, ◌^◌, ◌<◌, ◌≤◌, List, [], ◌∷◌, ◌++◌, length, get_or, drop, take, replicate, Some, refl, sym, ap, ◌∙◌, arith, lit≤}
use Rattle.std.specs.Prelude.{min, codes}
use Rattle.std.specs.Int.{w16, w32, w64, to_le_bytes}
use Rattle.std.proofs.lemmas.Nat.{div-mul-add, mod-mul-add}
use Rattle.aoe_ata.specs.Serial.{filled}
use Rattle.aoe_ata.proofs.LaidLemmas.{length-laid, laid-more, get-laid_before, get-laid_in}
use Rattle.aoe_ata.specs.Identify.{word_bytes, text_words, number_words, laid, page_words, page, word, declared}

-- a word is two bytes
take-word_bytes : (n : ℕ) (ws : List ℕ) → take (2 * n) (word_bytes ws) ≡ word_bytes (take n ws)
take-word_bytes zero ws = refl
take-word_bytes (suc n) [] = let e : 2 * suc n ≡ suc (suc (2 * n)) = omega arith in rw e refl
take-word_bytes (suc n) (w ∷ ws) = let e : 2 * suc n ≡ suc (suc (2 * n)) = omega arith in
    rw e (ap (λ (l : List ℕ). w % 256 ∷ w / 256 ∷ l) (take-word_bytes n ws))

drop-word_bytes : (n : ℕ) (ws : List ℕ) → drop (2 * n) (word_bytes ws) ≡ word_bytes (drop n ws)
drop-word_bytes zero ws = refl
drop-word_bytes (suc n) [] = let e : 2 * suc n ≡ suc (suc (2 * n)) = omega arith in rw e refl
drop-word_bytes (suc n) (w ∷ ws) = let e : 2 * suc n ≡ suc (suc (2 * n)) = omega arith in rw e (drop-word_bytes n ws)

word_bytes-append : (vs ws : List ℕ) → word_bytes (vs ++ ws) ≡ word_bytes vs ++ word_bytes ws
word_bytes-append [] ws = refl
word_bytes-append (v ∷ vs) ws = ap (λ (l : List ℕ). v % 256 ∷ v / 256 ∷ l) (word_bytes-append vs ws)

length-word_bytes : (ws : List ℕ) → length (word_bytes ws) ≡ 2 * length ws
length-word_bytes [] = refl
length-word_bytes (w ∷ ws) = let rest : length (word_bytes ws) ≡ 2 * length ws = length-word_bytes ws in omega arith

-- words laid over words are their bytes laid over bytes
word_bytes-laid : (ws vs : List ℕ) (n : ℕ) → laid (word_bytes ws) (2 * n) (word_bytes vs) ≡ word_bytes (laid ws n vs)
word_bytes-laid ws vs n =
    let long : 2 * n + length (word_bytes vs) ≡ 2 * (n + length vs) = omega (arith, length-word_bytes vs) in
    ap (λ (l : List ℕ). l ++ word_bytes vs ++ drop (2 * n + length (word_bytes vs)) (word_bytes ws)) (take-word_bytes n ws)
    ∙ ap (λ (k : ℕ). word_bytes (take n ws) ++ word_bytes vs ++ drop k (word_bytes ws)) long
    ∙ ap (λ (l : List ℕ). word_bytes (take n ws) ++ word_bytes vs ++ l) (drop-word_bytes (n + length vs) ws)
    ∙ ap (λ (l : List ℕ). l ++ word_bytes (drop (n + length vs) ws)) (sym (word_bytes-append (take n ws) vs))
    ∙ sym (word_bytes-append (take n ws ++ vs) (drop (n + length vs) ws))

-- the bytes of a page are those of its words
record HasWords (bytes ws : List ℕ) : Type 0 where
  are : bytes ≡ word_bytes ws

-- one more piece on a page
laid-step : (before after piece ws vs : List ℕ) (n : ℕ) → HasWords before ws → piece ≡ word_bytes vs → after ≡ laid before (2 * n) piece
    → HasWords after (laid ws n vs)
laid-step before after piece ws vs n words piece-is after-is = record {
  are = after-is
      ∙ ap (λ (l : List ℕ). laid l (2 * n) piece) words.are
      ∙ ap (λ (l : List ℕ). laid (word_bytes ws) (2 * n) l) piece-is
      ∙ word_bytes-laid ws vs n;
}

-- one more pair of a text
text-pair : (i : ℕ) (text : List ℕ) → 2 * i + 1 < length text → ((k : ℕ) → get_or text k 0 < 256)
    → word_bytes (text_words (take (2 * (i + 1)) text)) ≡ word_bytes (text_words (take (2 * i) text)) ++ get_or text (2 * i + 1) 0 ∷ get_or text (2 * i) 0 ∷ []
text-pair i [] inside small = absurd (omega arith)
text-pair i (a ∷ []) inside small = absurd (omega arith)
text-pair zero (a ∷ b ∷ text) inside small = let low : b < 256 = small 1 in rw (mod-mul-add a 256 b low, div-mul-add a 256 b low) refl
text-pair (suc i) (a ∷ b ∷ text) inside small =
    let here : 2 * suc i ≡ suc (suc (2 * i)) = omega arith in
    let more : 2 * (suc i + 1) ≡ suc (suc (2 * (i + 1))) = omega arith in
    let odd : suc (suc (2 * i)) + 1 ≡ suc (suc (2 * i + 1)) = omega arith in
    let rest = text-pair i text (omega arith) (λ k. small (suc (suc k))) in
    rw (more, here, odd) (ap (λ (l : List ℕ). (a * 256 + b) % 256 ∷ (a * 256 + b) / 256 ∷ l) rest)

length-text : (i : ℕ) (text : List ℕ) → 2 * i ≤ length text → length (word_bytes (text_words (take (2 * i) text))) ≡ 2 * i
length-text zero text inside = refl
length-text (suc i) [] inside = absurd (omega arith)
length-text (suc i) (a ∷ []) inside = absurd (omega arith)
length-text (suc i) (a ∷ b ∷ text) inside =
    let here : 2 * suc i ≡ suc (suc (2 * i)) = omega arith in
    let rest : length (word_bytes (text_words (take (2 * i) text))) ≡ 2 * i = length-text i text (omega arith) in
    rw here (ap (λ (k : ℕ). suc (suc k)) rest)

length-text_words : (n : ℕ) (text : List ℕ) → length text ≡ 2 * n → length (text_words text) ≡ n
length-text_words zero [] long = refl
length-text_words zero (a ∷ text) long = absurd (omega arith)
length-text_words (suc n) [] long = absurd (omega arith)
length-text_words (suc n) (a ∷ []) long = absurd (omega arith)
length-text_words (suc n) (a ∷ b ∷ text) long = ap suc (length-text_words n text (omega arith))

-- word n of the bytes of words
word-word_bytes : (ws : List ℕ) (n : ℕ) → word (word_bytes ws) n ≡ get_or ws n 0
word-word_bytes [] n = refl
word-word_bytes (w ∷ ws) zero = omega arith
word-word_bytes (w ∷ ws) (suc n) =
    let here : 2 * suc n ≡ suc (suc (2 * n)) = omega arith in
    let odd : suc (suc (2 * n)) + 1 ≡ suc (suc (2 * n + 1)) = omega arith in
    rw (here, odd) (word-word_bytes ws n)

-- what words must be there for a number of sectors to be declared
record Declares (ws : List ℕ) (total : ℕ) : Type 0 where
  supported : get_or ws 83 0 ≡ 0x7400
  low : get_or ws 100 0 ≡ total % 2 ^ 16
  middle : get_or ws 101 0 ≡ total / 2 ^ 16 % 2 ^ 16
  high : get_or ws 102 0 ≡ total / 2 ^ 16 / 2 ^ 16 % 2 ^ 16

declared-word_bytes : (ws : List ℕ) (total : ℕ) → total ≤ 2 ^ 40 → Declares ws total → declared (word_bytes ws) ≡ Some total
unfolding declared
declared-word_bytes ws total small d =
    let supported : word (word_bytes ws) 83 ≡ 0x7400 = word-word_bytes ws 83 ∙ d.supported in
    let low : word (word_bytes ws) 100 ≡ total % 2 ^ 16 = word-word_bytes ws 100 ∙ d.low in
    let middle : word (word_bytes ws) 101 ≡ total / 2 ^ 16 % 2 ^ 16 = word-word_bytes ws 101 ∙ d.middle in
    let high : word (word_bytes ws) 102 ≡ total / 2 ^ 16 / 2 ^ 16 % 2 ^ 16 = word-word_bytes ws 102 ∙ d.high in
    rw supported (ap (λ (n : ℕ). Some n) (omega arith))

-- one more pair of a text on a page
pub pair-laid : (page before after text : List ℕ) (n i : ℕ) → 2 * n + length text ≤ length page → 2 * i + 1 < length text → ((k : ℕ) → get_or text k 0 < 256)
    → before ≡ laid page (2 * n) (word_bytes (text_words (take (2 * i) text)))
    → after ≡ laid before (2 * (n + i)) (get_or text (2 * i + 1) 0 ∷ get_or text (2 * i) 0 ∷ [])
    → after ≡ laid page (2 * n) (word_bytes (text_words (take (2 * (i + 1)) text)))
pair-laid page before after text n i room inside small before-is after-is =
    let long : length (word_bytes (text_words (take (2 * i) text))) ≡ 2 * i = length-text i text (omega arith) in
    after-is
    ∙ ap (λ (l : List ℕ). laid l (2 * (n + i)) (get_or text (2 * i + 1) 0 ∷ get_or text (2 * i) 0 ∷ [])) before-is
    ∙ laid-more page (word_bytes (text_words (take (2 * i) text))) (get_or text (2 * i + 1) 0 ∷ get_or text (2 * i) 0 ∷ []) (2 * n) (2 * (n + i)) (omega arith)
    (omega arith)
    ∙ ap (λ (l : List ℕ). laid page (2 * n) l) (sym (text-pair i text inside small))

low-byte : (n : ℕ) → n % 2 ^ 16 % 256 ≡ n % 256
low-byte n = omega arith

high-byte : (n : ℕ) → n % 2 ^ 16 / 256 ≡ n / 256 % 256
high-byte n = omega arith

cons-same : (x y : ℕ) (xs ys : List ℕ) → x ≡ y → xs ≡ ys → x ∷ xs ≡ y ∷ ys
cons-same x y xs ys first rest = cc

-- the two bytes of a word of a number, and the others
word-same : (n m : ℕ) (xs ys : List ℕ) → m ≡ n / 256 → xs ≡ ys → n % 256 ∷ m % 256 ∷ xs ≡ n % 2 ^ 16 % 256 ∷ n % 2 ^ 16 / 256 ∷ ys
word-same n m xs ys next rest =
    cons-same _ _ _ _ (sym (low-byte n)) (cons-same _ _ _ _ (ap (λ (k : ℕ). k % 256) next ∙ sym (high-byte n)) rest)

-- the bytes of a number are those of its words
to_le_bytes-4 : (n : ℕ) → to_le_bytes w32 n ≡ word_bytes (number_words 2 n)
to_le_bytes-4 n = word-same n (n / 2 ^ 8) _ _ refl (word-same (n / 2 ^ 16) (n / 2 ^ 24) _ _ (omega arith) refl)

to_le_bytes-8 : (n : ℕ) → to_le_bytes w64 n ≡ word_bytes (number_words 4 n)
to_le_bytes-8 n =
    let second : n / 2 ^ 32 ≡ n / 2 ^ 16 / 2 ^ 16 = omega arith in
    let third : n / 2 ^ 48 ≡ n / 2 ^ 16 / 2 ^ 16 / 2 ^ 16 = omega arith in
    rw (second, third) (
    word-same n (n / 2 ^ 8) _ _ refl (
    word-same (n / 2 ^ 16) (n / 2 ^ 24) _ _ (omega arith) (
    word-same (n / 2 ^ 16 / 2 ^ 16) (n / 2 ^ 40) _ _ (omega arith) (
    word-same (n / 2 ^ 16 / 2 ^ 16 / 2 ^ 16) (n / 2 ^ 56) _ _ (omega arith) refl))))

record IsPageLong (ws : List ℕ) : Type 0 where
  long : length ws ≡ 256

-- a piece leaves a page its 256 words
lays : (ws piece : List ℕ) (n k : ℕ) → IsPageLong ws → length piece ≡ k → n + k ≤ 256 → IsPageLong (laid ws n piece)
lays ws piece n k page-long short inside =
    let long : length ws ≡ 256 = page-long.long in
    record { long = length-laid ws piece n (omega arith) ∙ long }

long-before : (a b c d e : List ℕ) → length a ≡ 10 → length b ≡ 4 → length c ≡ 20 → length d ≡ 1 → length e ≡ 2
    → IsPageLong (laid (laid (laid (laid (laid (replicate 256 0) 10 a) 23 b) 27 c) 49 d) 60 e)
long-before a b c d e la lb lc ld le =
    let start : IsPageLong (replicate 256 0) = record { long = refl } in
    lays _ e 60 2 (lays _ d 49 1 (lays _ c 27 20 (lays _ b 23 4 (lays _ a 10 10 start la (lit≤ tt)) lb (lit≤ tt)) lc (lit≤ tt)) ld (lit≤ tt)) le (lit≤ tt)

-- the last three pieces say what is declared
last-declare : (first : List ℕ) (total : ℕ) → IsPageLong first
    → Declares (laid (laid (laid first 83 (0x7400 ∷ [])) 86 (0x3400 ∷ [])) 100 (number_words 4 total)) total
last-declare first total first-long =
    let long : length first ≡ 256 = first-long.long in
    let one : List ℕ = laid first 83 (0x7400 ∷ []) in
    let two : List ℕ = laid (laid first 83 (0x7400 ∷ [])) 86 (0x3400 ∷ []) in
    let one-long : length (laid first 83 (0x7400 ∷ [])) ≡ 256 = length-laid first (0x7400 ∷ []) 83 (omega arith) ∙ long in
    let two-long : length (laid (laid first 83 (0x7400 ∷ [])) 86 (0x3400 ∷ [])) ≡ 256 =
    length-laid (laid first 83 (0x7400 ∷ [])) (0x3400 ∷ []) 86 (omega arith) ∙ one-long in
    record {
      supported =
          get-laid_before two (number_words 4 total) 100 83 (omega arith) (omega arith)
          ∙ get-laid_before one (0x3400 ∷ []) 86 83 (omega arith) (omega arith)
          ∙ get-laid_in first (0x7400 ∷ []) 83 0 (omega arith) (omega arith);
      low = get-laid_in two (number_words 4 total) 100 0 (omega arith) (omega arith);
      middle = get-laid_in two (number_words 4 total) 100 1 (omega arith) (omega arith);
      high = get-laid_in two (number_words 4 total) 100 2 (omega arith) (omega arith);
    }

pub declared-page : (total : ℕ) (serial : List ℕ) → total ≤ 2 ^ 40 → length serial ≡ 20 → declared (page total serial) ≡ Some total
unfolding page
declared-page total serial small long =
    declared-word_bytes (page_words total serial) total small
    (last-declare _ total (long-before (text_words serial) _ _ _ (number_words 2 (min total 0x0fffffff))
    (length-text_words 10 serial long) refl refl refl refl))

-- a page of which each piece was laid in turn
pub page-is : (total : ℕ) (serial a b c d e f g h : List ℕ)
    → a ≡ laid (replicate 512 0) 20 (word_bytes (text_words serial))
    → b ≡ laid a 46 (word_bytes (text_words (filled 8 (codes "AOE1"))))
    → c ≡ laid b 54 (word_bytes (text_words (filled 40 (codes "AoE shelf"))))
    → d ≡ laid c 98 (to_le_bytes w16 0x0200)
    → e ≡ laid d 120 (to_le_bytes w32 (min total 0x0fffffff))
    → f ≡ laid e 166 (to_le_bytes w16 0x7400)
    → g ≡ laid f 172 (to_le_bytes w16 0x3400)
    → h ≡ laid g 200 (to_le_bytes w64 total)
    → h ≡ page total serial
unfolding page
page-is total serial a b c d e f g h a-is b-is c-is d-is e-is f-is g-is h-is =
    let start : HasWords (replicate 512 0) (replicate 256 0) = record { are = refl } in
    let pa = laid-step _ a _ _ (text_words serial) 10 start refl a-is in
    let pb = laid-step _ b _ _ (text_words (filled 8 (codes "AOE1"))) 23 pa refl b-is in
    let pc = laid-step _ c _ _ (text_words (filled 40 (codes "AoE shelf"))) 27 pb refl c-is in
    let pd = laid-step _ d _ _ (0x0200 ∷ []) 49 pc refl d-is in
    let pe = laid-step _ e _ _ (number_words 2 (min total 0x0fffffff)) 60 pd (to_le_bytes-4 (min total 0x0fffffff)) e-is in
    let pf = laid-step _ f _ _ (0x7400 ∷ []) 83 pe refl f-is in
    let pg = laid-step _ g _ _ (0x3400 ∷ []) 86 pf refl g-is in
    (laid-step _ h _ _ (number_words 4 total) 100 pg (to_le_bytes-8 total) h-is).are
