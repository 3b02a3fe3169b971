-- Numbers in either byte order.
use Rattle.std.proofs.Common.{◌≡◌, ℕ, ◌^◌, ◌<◌, Bool, true, false, List, length, get_or, refl, arith}
use Rattle.std.specs.Int.{w16, w32, from_be_bytes, from_le_bytes}
use Rattle.std.proofs.lemmas.Nat.{be_bytes_2, be_bytes_4, le_bytes_2, le_bytes_4, from_be_bytes-to_be_bytes_4, from_le_bytes-to_le_bytes_4}
use Rattle.aoe_pcap.specs.Capture.{half, half_of, word, word_of}

-- a number comes back from its bytes
pub word-back : (big : Bool) (n : ℕ) → n < 2 ^ 32 → word_of big (word big n) ≡ n
unfolding word word_of
word-back true n small = from_be_bytes-to_be_bytes_4 n small
word-back false n small = from_le_bytes-to_le_bytes_4 n small

-- bytes come back from the number that they spell
pub word-again : (big : Bool) (f : List ℕ) → length f ≡ 4 → ((i : ℕ) → get_or f i 0 < 256) → word big (word_of big f) ≡ f
unfolding word word_of
word-again true f four small = be_bytes_4 f (from_be_bytes w32 f) four small refl
word-again false f four small = le_bytes_4 f (from_le_bytes w32 f) four small refl

pub half-again : (big : Bool) (f : List ℕ) → length f ≡ 2 → ((i : ℕ) → get_or f i 0 < 256) → half big (half_of big f) ≡ f
unfolding half half_of
half-again true f two small = be_bytes_2 f (from_be_bytes w16 f) two small refl
half-again false f two small = le_bytes_2 f (from_le_bytes w16 f) two small refl

-- four bytes spell a number below 2^32
pub word-small : (big : Bool) (f : List ℕ) → ((i : ℕ) → get_or f i 0 < 256) → word_of big f < 2 ^ 32
unfolding word_of
word-small true f small = omega (arith, small 0, small 1, small 2, small 3)
word-small false f small = omega (arith, small 0, small 1, small 2, small 3)
