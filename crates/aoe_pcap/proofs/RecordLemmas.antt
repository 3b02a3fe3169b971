-- A record is its numbers and bytes.
use Rattle.std.proofs.Common.{◌≡◌, ℕ, ◌^◌, ◌<◌, ◌≤◌, ◌+◌, Bool, true, false, List, [], ◌∷◌, ◌++◌, length, length-append, append_assoc, get_or, map, take, drop, refl, sym, ap, subst, ◌∙◌, arith, inl, inr}
use Rattle.std.specs.Prelude.{All}
use Rattle.std.specs.List.{flat_map}
use Rattle.std.proofs.Math.Seq.{take-add}
use Rattle.std.proofs.lemmas.List.{take_all, length-take-le, length-drop}
use Rattle.std.proofs.lemmas.List.Elements.{All-head, All-tail, All-map}
use Rattle.aoe_frame.proofs.PieceLemmas.{part-small}
use Rattle.aoe_io.proofs.StreamLemmas.{same-front}
use Rattle.aoe_pcap.specs.Capture.{FileHead, IsCapture, IsCut, IsPacket, Packet, claimed, head_bytes, packet_bytes, packet_of, record_head, word, word_of, written_head}
use Rattle.aoe_pcap.proofs.HeadLemmas.{length-head, one-head}
use Rattle.aoe_pcap.proofs.NumberLemmas.{word-again, word-back, word-small}

pub length-record_head : (big : Bool) (seconds fraction captured original : ℕ) → length (record_head big seconds fraction captured original) ≡ 16
unfolding record_head word
length-record_head true seconds fraction captured original = refl
length-record_head false seconds fraction captured original = refl

pub length-packet : (big : Bool) (p : Packet) → length (packet_bytes big p) ≡ 16 + length p.captured
length-packet big p =
    let front = length-record_head big p.seconds p.fraction (length p.captured) p.original in
    omega (arith, front, length-append (record_head big p.seconds p.fraction (length p.captured) p.original) p.captured)

-- the numbers in front of a packet's bytes
record Numbers (big : Bool) (f : List ℕ) (seconds fraction captured original : ℕ) : Type 0 where
  seconds_is : word_of big (take 4 f) ≡ seconds
  fraction_is : word_of big (take 4 (drop 4 f)) ≡ fraction
  captured_is : word_of big (take 4 (drop 8 f)) ≡ captured
  original_is : word_of big (take 4 (drop 12 f)) ≡ original

numbers : (big : Bool) (s f c o : ℕ) → s < 2 ^ 32 → f < 2 ^ 32 → c < 2 ^ 32 → o < 2 ^ 32 → Numbers big (record_head big s f c o) s f c o
unfolding record_head word word_of
numbers true s f c o ss sf sc so = record {
  seconds_is = word-back true s ss;
  fraction_is = word-back true f sf;
  captured_is = word-back true c sc;
  original_is = word-back true o so;
}
numbers false s f c o ss sf sc so = record {
  seconds_is = word-back false s ss;
  fraction_is = word-back false f sf;
  captured_is = word-back false c sc;
  original_is = word-back false o so;
}

-- what a record claims
pub claimed-is : (big : Bool) (s f c o : ℕ) (rest : List ℕ) → c < 2 ^ 32 → claimed big (record_head big s f c o ++ rest) ≡ c
unfolding record_head word word_of
claimed-is true s f c o rest small = word-back true c small
claimed-is false s f c o rest small = word-back false c small

pieces : (f : List ℕ) → take 16 f ≡ take 4 f ++ take 4 (drop 4 f) ++ take 4 (drop 8 f) ++ take 4 (drop 12 f)
pieces f =
    let eight : take 8 f ≡ take 4 f ++ take 4 (drop 4 f) = take-add 4 4 f in
    let twelve : take 12 f ≡ take 8 f ++ take 4 (drop 8 f) = take-add 8 4 f in
    let all : take 16 f ≡ take 12 f ++ take 4 (drop 12 f) = take-add 12 4 f in
    cc

-- sixteen bytes are the head of a record, of which these are the last two numbers
pub record Headed (big : Bool) (f : List ℕ) (captured original : ℕ) : Type 0 where
  pub seconds : ℕ
  pub fraction : ℕ
  pub seconds_small : seconds < 2 ^ 32
  pub fraction_small : fraction < 2 ^ 32
  pub bytes : f ≡ record_head big seconds fraction captured original

pub headed : (big : Bool) (f : List ℕ) (captured original : ℕ) → length f ≡ 16 → All (λ b. b < 2 ^ 8) f
    → captured ≡ word_of big (take 4 (drop 8 f)) → original ≡ word_of big (take 4 (drop 12 f)) → Headed big f captured original
unfolding record_head
headed big f captured original long small captured_is original_is =
    let small_at : (k i : ℕ) → get_or (take 4 (drop k f)) i 0 < 256 = λ k i. part-small f 4 k small i in
    let again : (k : ℕ) → k + 4 ≤ 16 → word big (word_of big (take 4 (drop k f))) ≡ take 4 (drop k f) =
    λ k inside. word-again big (take 4 (drop k f)) (length-take-le 4 (drop k f) (omega (arith, long, inside, length-drop k f))) (small_at k) in
    let all : f ≡ take 16 f = sym (take_all 16 f (omega (arith, long))) in
    record {
      seconds = word_of big (take 4 f);
      fraction = word_of big (take 4 (drop 4 f));
      seconds_small = word-small big (take 4 f) (small_at 0);
      fraction_small = word-small big (take 4 (drop 4 f)) (small_at 4);
      bytes = all ∙ pieces f ∙ rw (captured_is, original_is, again 0 (omega arith), again 4 (omega arith), again 8 (omega arith), again 12 (omega arith)) refl;
    }

-- no two records begin the same bytes

pub record Same (p q : Packet) (rest other : List ℕ) : Type 0 where
  pub packet : p ≡ q
  pub behind : rest ≡ other

same-packet : (p q : Packet) → p.seconds ≡ q.seconds → p.fraction ≡ q.fraction → p.original ≡ q.original → p.captured ≡ q.captured → p ≡ q
same-packet p q s f o c =
    let of : ℕ → ℕ → ℕ → List ℕ → Packet = λ s f o c. record { seconds = s; fraction = f; original = o; captured = c } in
    let all : of p.seconds p.fraction p.original p.captured ≡ of q.seconds q.fraction q.original q.captured = rw (s, f, o, c) refl in
    all

pub one-record : (big : Bool) (p q : Packet) (rest other : List ℕ) → IsPacket p → IsPacket q
    → packet_bytes big p ++ rest ≡ packet_bytes big q ++ other → Same p q rest other
one-record big p q rest other p_is q_is e =
    let front : Packet → List ℕ = λ r. record_head big r.seconds r.fraction (length r.captured) r.original in
    let fronts =
    length-record_head big p.seconds p.fraction (length p.captured) p.original
    ∙ sym (length-record_head big q.seconds q.fraction (length q.captured) q.original) in
    let split : front p ++ (p.captured ++ rest) ≡ front q ++ (q.captured ++ other) =
    sym (append_assoc (front p) p.captured rest) ∙ e ∙ append_assoc (front q) q.captured other in
    let parts = same-front (front p) (front q) (p.captured ++ rest) (q.captured ++ other) fronts split in
    let one = numbers big p.seconds p.fraction (length p.captured) p.original p_is.seconds p_is.fraction (omega (arith, p_is.captured)) p_is.original in
    let two = numbers big q.seconds q.fraction (length q.captured) q.original q_is.seconds q_is.fraction (omega (arith, q_is.captured)) q_is.original in
    let at : (k : ℕ) → word_of big (take 4 (drop k (front p))) ≡ word_of big (take 4 (drop k (front q))) =
    λ k. ap (λ f. word_of big (take 4 (drop k f))) parts.0 in
    let bytes = same-front p.captured q.captured rest other (sym one.captured_is ∙ at 8 ∙ two.captured_is) parts.1 in
    record {
      packet = same-packet p q (sym one.seconds_is ∙ at 0 ∙ two.seconds_is) (sym one.fraction_is ∙ at 4 ∙ two.fraction_is)
          (sym one.original_is ∙ at 12 ∙ two.original_is) bytes.0;
      behind = bytes.1;
    }

one-list : (big : Bool) (ps qs : List Packet) → All IsPacket ps → All IsPacket qs → flat_map (packet_bytes big) ps ≡ flat_map (packet_bytes big) qs → ps ≡ qs
one-list big [] [] all each e = refl
one-list big [] (q ∷ qs) all each e =
    absurd (omega (arith, length-packet big q, length-append (packet_bytes big q) (flat_map (packet_bytes big) qs), ap length e))
one-list big (p ∷ ps) [] all each e =
    absurd (omega (arith, length-packet big p, length-append (packet_bytes big p) (flat_map (packet_bytes big) ps), ap length e))
one-list big (p ∷ ps) (q ∷ qs) all each e =
    let s = one-record big p q (flat_map (packet_bytes big) ps) (flat_map (packet_bytes big) qs) (All-head IsPacket p ps all) (All-head IsPacket q qs each) e in
    let rest = one-list big ps qs (All-tail IsPacket p ps all) (All-tail IsPacket q qs each) s.behind in
    rw (s.packet, rest) refl

pub one-capture : (bytes : List ℕ) (h g : FileHead) (ps qs : List Packet) → IsCapture bytes h ps → IsCapture bytes g qs → (h ≡ g) × (ps ≡ qs)
one-capture bytes h g ps qs one two =
    let whole = sym one.spelled ∙ two.spelled in
    let parts = same-front (head_bytes h) (head_bytes g) _ _ (length-head h ∙ sym (length-head g)) whole in
    let heads : h ≡ g = one-head h g one.fits two.fits parts.0 in
    let order : g.big ≡ h.big = ap (λ (x : FileHead). x.big) (sym heads) in
    let P : Bool → Type 0 = λ big. flat_map (packet_bytes h.big) ps ≡ flat_map (packet_bytes big) qs in
    (heads, one-list h.big ps qs one.each two.each (subst P order parts.1))

-- bytes that begin with a record aren't cut
pub record-whole : (big : Bool) (p : Packet) (rest : List ℕ) → IsPacket p → IsCut big (packet_bytes big p ++ rest) → ⊥
record-whole big p rest is cut =
    let front = record_head big p.seconds p.fraction (length p.captured) p.original in
    let P : List ℕ → Type 0 = λ f. claimed big f ≡ length p.captured in
    let claim : P (packet_bytes big p ++ rest) =
    subst P (sym (append_assoc front p.captured rest))
    (claimed-is big p.seconds p.fraction (length p.captured) p.original (p.captured ++ rest) (omega (arith, is.captured))) in
    let long = length-packet big p in
    let more = length-append (packet_bytes big p) rest in
    elim cut.cut [
      | inl short ↦ omega (arith, short, long, more)
      | inr (inl above) ↦ omega (arith, above, claim, is.captured)
      | inr (inr short) ↦ omega (arith, short, claim, long, more)
    ]

-- what is written is a file

packet-fits : (f : List ℕ) → length f ≤ 9018 → IsPacket (packet_of f)
packet-fits f few = record { seconds = omega arith; fraction = omega arith; original = omega (arith, few); captured = omega (arith, few) }

all-fit : (fs : List (List ℕ)) → All (λ f. length f ≤ 9018) fs → All (λ f. IsPacket (packet_of f)) fs
all-fit fs few k d inside = packet-fits _ (few k d inside)

each-written : (fs : List (List ℕ)) → flat_map (λ f. packet_bytes false (packet_of f)) fs ≡ flat_map (packet_bytes false) (map packet_of fs)
each-written [] = refl
each-written (f ∷ fs) = ap (λ (t : List ℕ). packet_bytes false (packet_of f) ++ t) (each-written fs)

pub written-capture : (fs : List (List ℕ)) → All (λ f. length f ≤ 9018) fs
    → IsCapture (head_bytes written_head ++ flat_map (λ f. packet_bytes false (packet_of f)) fs) written_head (map packet_of fs)
written-capture fs few = record {
  fits = record { zone = omega arith; accuracy = omega arith; snap_length = omega arith };
  each = All-map IsPacket packet_of fs (all-fit fs few);
  spelled = ap (λ (t : List ℕ). head_bytes written_head ++ t) (each-written fs);
}
