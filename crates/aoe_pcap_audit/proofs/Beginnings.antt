-- A file that was written is read as it was written.
use Rattle.std.proofs.Common.{◌≡◌, ℕ, List, [], ◌∷◌, ◌++◌, length, length-append, reverse, Bool, Option, Some, None, refl, sym, ap, subst, ◌∙◌, append_assoc, arith}
use Rattle.std.specs.Prelude.{All}
use Rattle.std.specs.List.{flat_map}
use Rattle.std.proofs.lemmas.Option.{same_Some}
use Rattle.std.proofs.lemmas.List.Elements.{All-head, All-tail}
use Rattle.aoe_io.proofs.StreamLemmas.{same-front}
use Rattle.aoe_pcap.specs.Capture.{FileHead, IsCapture, IsPacket, Packet, head_bytes, packet_bytes}
use Rattle.aoe_pcap.proofs.HeadLemmas.{length-head, one-head}
use Rattle.aoe_pcap.proofs.RecordLemmas.{length-packet, one-record}
use Rattle.aoe_pcap_audit.specs.Records.{HasRead}

-- packets are the first of others, and these bytes are those of the rest
pub record AreFirst (big : Bool) (ps qs : List Packet) (rest : List ℕ) : Type 0 where
  pub more : List Packet
  pub whole : qs ≡ ps ++ more
  pub left : rest ≡ flat_map (packet_bytes big) more

pub first-packets : (big : Bool) (ps qs : List Packet) (rest : List ℕ) → All IsPacket ps → All IsPacket qs
    → flat_map (packet_bytes big) ps ++ rest ≡ flat_map (packet_bytes big) qs → AreFirst big ps qs rest
first-packets big [] qs rest all each e = record { more = qs; whole = refl; left = e }
first-packets big (p ∷ ps) [] rest all each e =
    absurd (omega (
      arith,
      length-packet big p,
      length-append (packet_bytes big p) (flat_map (packet_bytes big) ps),
      length-append (packet_bytes big p ++ flat_map (packet_bytes big) ps) rest,
      ap length e,
    ))
first-packets big (p ∷ ps) (q ∷ qs) rest all each e =
    let split : packet_bytes big p ++ (flat_map (packet_bytes big) ps ++ rest) ≡ packet_bytes big q ++ flat_map (packet_bytes big) qs =
    sym (append_assoc (packet_bytes big p) (flat_map (packet_bytes big) ps) rest) ∙ e in
    let s = one-record big p q _ _ (All-head IsPacket p ps all) (All-head IsPacket q qs each) split in
    let f = first-packets big ps qs rest (All-tail IsPacket p ps all) (All-tail IsPacket q qs each) s.behind in
    record { more = f.more; whole = (λ i. sym s.packet i ∷ f.whole i); left = f.left }

-- what was read of a file that has these packets
pub record IsPartOf (big : Bool) (ps qs : List Packet) (middle : Option (List ℕ)) : Type 0 where
  pub rest : List ℕ
  pub left : middle ≡ Some rest
  pub first : AreFirst big (reverse ps) qs rest

module _ (bytes : List ℕ) (g : FileHead) (qs : List Packet) (file : IsCapture bytes g qs) where
  part-of : (head : FileHead) (ps : List Packet) (read rest : List ℕ) → IsCapture read head (reverse ps) → bytes ≡ read ++ rest
      → (head ≡ g) × AreFirst g.big (reverse ps) qs rest
  part-of head ps read rest c e =
      let FM : List ℕ = flat_map (packet_bytes head.big) (reverse ps) in
      let split : head_bytes head ++ (FM ++ rest) ≡ head_bytes g ++ flat_map (packet_bytes g.big) qs =
      sym (append_assoc (head_bytes head) FM rest) ∙ ap (λ (l : List ℕ). l ++ rest) (sym c.spelled) ∙ sym e ∙ file.spelled in
      let parts = same-front (head_bytes head) (head_bytes g) _ _ (length-head head ∙ sym (length-head g)) split in
      let same : head ≡ g = one-head head g c.fits file.fits parts.0 in
      let P : Bool → Type 0 = λ b. flat_map (packet_bytes b) (reverse ps) ++ rest ≡ flat_map (packet_bytes g.big) qs in
      (same, first-packets g.big (reverse ps) qs rest c.each file.each (subst P (ap (λ (x : FileHead). x.big) same) parts.1))

  pub read-part : (head : FileHead) (ps : List Packet) (middle : Option (List ℕ)) → HasRead (Some bytes) middle head ps
      → (head ≡ g) × IsPartOf g.big ps qs middle
  read-part head ps None r = absurd (let e : Some bytes ≡ None = r.gave in cc)
  read-part head ps (Some rest) r =
      let e : Some bytes ≡ Some (r.bytes ++ rest) = r.gave in
      let p = part-of head ps r.bytes rest r.capture (same_Some bytes (r.bytes ++ rest) e) in
      (p.0, record { rest = rest; left = refl; first = p.1 })
