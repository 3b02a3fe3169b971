-- What a source gave of a record, and inputs that end within one.
use Rattle.std.proofs.Common.{◌≡◌, ℕ, ◌^◌, ◌<◌, ◌≤◌, ◌+◌, Bool, List, [], ◌++◌, length, length-append, sym, ap, subst, ◌∙◌, arith, inr, Option, Some, None}
use Rattle.std.specs.Prelude.{IfSome, nat_lt, if◌then◌else◌}
use Rattle.aoe_io.specs.Bytes.{Gave}
use Rattle.aoe_io.proofs.BytesLemmas.{Gave-then}
use Rattle.aoe_pcap.specs.declared.reader.Record.{Record}
use Rattle.aoe_pcap.specs.Capture.{GaveRecord, IsCut, claimed, kind, record_head}
use Rattle.aoe_pcap.proofs.RecordLemmas.{claimed-is, length-record_head}

pub cut-bytes : (big : Bool) (a b : Option (List ℕ)) (s f c o : ℕ) → c < 2 ^ 32 → Gave a b (record_head big s f c o)
    → IfSome b (λ left. length left < c) → IfSome a (IsCut big)
cut-bytes big None b s f c o small gave short = tt
cut-bytes big (Some x) None s f c o small gave short = absurd (cc)
cut-bytes big (Some x) (Some y) s f c o small gave short =
    let front = record_head big s f c o in
    let whole : x ≡ front ++ y = cc in
    let long : length x ≡ 16 + length y = ap length whole ∙ length-append front y ∙ ap (λ n. n + length y) (length-record_head big s f c o) in
    let claim : claimed big x ≡ c = ap (claimed big) whole ∙ claimed-is big s f c o y small in
    record { begun = λ e. omega (arith, long, ap length e); cut = inr (inr (omega (arith, long, claim, short))) }

-- a source that gave the numbers of a record and then its bytes gave the record
pub gave-record : (big : Bool) (a b c : Option (List ℕ)) (s f n o : ℕ) (bytes frame : List ℕ) (came : Record)
    → s < 2 ^ 32 → f < 2 ^ 32 → o < 2 ^ 32 → n ≤ 262144 → length bytes ≡ n
    → Gave a b (record_head big s f n o) → Gave b c bytes → came ≡ kind n o → frame ≡ (if nat_lt 9018 n then [] else bytes) → GaveRecord big a c came frame
gave-record big a b c s f n o bytes frame came ss sf so few long first second kind_is frame_is =
    let P : ℕ → Type 0 = λ m. Gave a b (record_head big s f m o) in
    let Q : ℕ → Type 0 = λ m. came ≡ kind m o in
    let R : ℕ → Type 0 = λ m. frame ≡ (if nat_lt 9018 m then [] else bytes) in
    record {
      packet = record { seconds = s; fraction = f; original = o; captured = bytes };
      fits = record { seconds = ss; fraction = sf; original = so; captured = omega (arith, few, long) };
      gave = Gave-then a b c (record_head big s f (length bytes) o) bytes (subst P (sym long) first) second;
      kind_is = subst Q (sym long) kind_is;
      frame_is = subst R (sym long) frame_is;
    }
