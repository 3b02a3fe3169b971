-- A part of a judged capture is judged so far.
use Rattle.std.proofs.Common.{◌≡◌, ◌≤◌, ◌+◌, ◌-◌, ◌++◌, ℕ, List, [], ◌∷◌, length, length-append, map, take, drop, refl, sym, ap, subst, ◌∙◌, arith, append_assoc, inl, inr}
use Rattle.std.proofs.Math.Seq.{drop-append-add}
use Rattle.std.proofs.lemmas.Bool.{cases_lt}
use Rattle.std.proofs.lemmas.List.{length-drop, length-map, map-append, take-append-drop}
use Rattle.aoe_lists.specs.Settings.{Settings}
use Rattle.aoe_target.specs.History.{AllAllowed, Met}
use Rattle.aoe_target.specs.Law.{Fate, cut, ignored, replied, silent}
use Rattle.aoe_target.specs.declared.station.Station.{Station}
use Rattle.aoe_audit.specs.Captured.{Packet, class_of, replies, requests, with_reply, with_request}
use Rattle.aoe_audit.specs.Judged.{Explains, IsJudgedSoFar, IsUncut, first_of, frame_met, frame_of_packet, replies_in, reply_in, start}
use Rattle.aoe_audit.specs.declared.class.Class.{Class}
use Rattle.aoe_audit.specs.declared.class.Class.TheVariants.{Other, Short, Request, Reply}
use Rattle.aoe_audit.proofs.Histories.{allowed-rest, replies-append, same-end, uncut-rest}

-- requests and replies of two parts

with_request-append : (k : Class) (p : Packet) (more rest : List Packet) → with_request k p (more ++ rest) ≡ with_request k p more ++ rest
with_request-append Other p more rest = refl
with_request-append Short p more rest = refl
with_request-append Request p more rest = refl
with_request-append Reply p more rest = refl

with_reply-append : (k : Class) (p : Packet) (more rest : List Packet) → with_reply k p (more ++ rest) ≡ with_reply k p more ++ rest
with_reply-append Other p more rest = refl
with_reply-append Short p more rest = refl
with_reply-append Request p more rest = refl
with_reply-append Reply p more rest = refl

module _ (station : Station) where
  requests-append : (more c : List Packet) → requests station (more ++ c) ≡ requests station more ++ requests station c
  requests-append [] c = refl
  requests-append (p ∷ more) c =
      ap (λ l. with_request (class_of station p) p l) (requests-append more c)
      ∙ with_request-append (class_of station p) p (requests station more) (requests station c)

  packets-append : (more c : List Packet) → replies station (more ++ c) ≡ replies station more ++ replies station c
  packets-append [] c = refl
  packets-append (p ∷ more) c =
      ap (λ l. with_reply (class_of station p) p l) (packets-append more c)
      ∙ with_reply-append (class_of station p) p (replies station more) (replies station c)

-- a beginning of a history with so many replies

one-reply : (fate : Fate) → length (reply_in fate) ≤ 1
one-reply ignored = omega arith
one-reply silent = omega arith
one-reply cut = omega arith
one-reply (replied e reply) = omega arith

until : (k : ℕ) (h : List Met) → k ≤ length (replies_in h) → (more : List Met) × (rest : List Met) × (h ≡ more ++ rest) × (length (replies_in rest) ≡ k)
until k [] le = ([], [], refl, omega (arith, le))
until k (m ∷ h) le = elim (cases_lt (length (replies_in h)) k) [
  | inl all ↦ ([], m ∷ h, refl, omega (arith, le, all, one-reply m.fate, length-append (reply_in m.fate) (replies_in h)))
  | inr fewer ↦ let s = until k h fewer in (m ∷ s.0, s.1, (λ i. m ∷ s.2 i), s.3)
]

-- so many entries of a history, where it is told by its beginning
first-enough : (n : ℕ) (h : List Met) → length h ≤ n → first_of n h ≡ h
first-enough n h le = (let nothing : length h - n ≡ 0 = omega (arith, le) in ap (λ k. drop k h) nothing)

first-behind : (n : ℕ) (more rest : List Met) → n ≤ length rest → first_of n (more ++ rest) ≡ first_of n rest
first-behind n more rest le =
    let size : length (more ++ rest) - n ≡ length more + (length rest - n) = omega (arith, le, length-append more rest) in
    ap (λ k. drop k (more ++ rest)) size ∙ drop-append-add more rest (length rest - n)

module _ (station : Station) (lists : Settings) (more c : List Packet) (h : List Met) (e : Explains station lists (more ++ c) [] h) where
  abbrev Part : Type 0
  Part = (front : List Met) × (rest : List Met) × (h ≡ front ++ rest) × (length (replies_in rest) ≡ length (replies station c))
      × (length rest ≤ length (requests station c))

  part : Part
  part =
      let n : ℕ = length (requests station c) in
      let began : List Met = first_of n h in
      let whole : h ≡ take (length h - n) h ++ began = sym (take-append-drop (length h - n) h) in
      let s = until (length (replies station c)) began (e.in_turn more c refl) in
      let size : length began ≡ length h - (length h - n) = length-drop (length h - n) h in (
        take (length h - n) h ++ s.0,
        s.1,
        whole ∙ (λ i. take (length h - n) h ++ s.2 i) ∙ sym (append_assoc (take (length h - n) h) s.0 s.1),
        s.3,
        omega (arith, size, ap length s.2, length-append s.0 s.1),
      )

  pub so-far : IsJudgedSoFar station lists c
  so-far = by part
    where
      by : Part → IsJudgedSoFar station lists c
      by p =
          let before : List Met = p.0 in
          let h0 : List Met = p.1 in
          let asked : List Packet = requests station c in
          let left : List Packet = take (length asked - length h0) asked in
          let front : List Packet = drop (length asked - length h0) asked in
          let parts : left ++ front ≡ asked = take-append-drop (length asked - length h0) asked in
          let size : length front ≡ length h0 = length-drop (length asked - length h0) asked ∙ (omega (arith, p.4)) in
          let M : List (List ℕ) = map frame_of_packet (requests station more) in
          let all : map frame_met before ++ map frame_met h0 ≡ (M ++ map frame_of_packet left) ++ map frame_of_packet front =
          sym (map-append frame_met before h0) ∙ (λ i. map frame_met (sym p.2 i)) ∙ e.frames
          ∙ (λ i. map frame_of_packet ((sym e.asked ∙ requests-append station more c) i))
          ∙ map-append frame_of_packet (requests station more) asked ∙ (λ i. M ++ map frame_of_packet (sym parts i))
          ∙ (λ i. M ++ map-append frame_of_packet left front i)
          ∙ sym (append_assoc M (map frame_of_packet left) (map frame_of_packet front)) in
          let told : replies_in before ++ replies_in h0 ≡ map frame_of_packet (replies station more) ++ map frame_of_packet (replies station c) =
          sym (replies-append before h0) ∙ (λ i. replies_in (sym p.2 i)) ∙ e.answered ∙ (λ i. map frame_of_packet (packets-append station more c i))
          ∙ map-append frame_of_packet (replies station more) (replies station c) in (
            left,
            h0,
            record {
              front = front;
              asked = sym parts;
              frames = same-end _ _ _ _ (length-map h0 frame_met ∙ sym size ∙ sym (length-map front frame_of_packet)) all;
              allowed = allowed-rest station (start lists) before h0 (subst (λ (l : List Met). AllAllowed station (start lists) l) p.2 e.allowed);
              uncut = uncut-rest before h0 (subst IsUncut p.2 e.uncut);
              answered = same-end _ _ _ _ (p.3 ∙ sym (length-map (replies station c) frame_of_packet)) told;
              in_turn = λ later packets is. turn before h0 p.2 p.3 later packets is;
            },
          )
        where
          turn : (before h0 : List Met) → h ≡ before ++ h0 → length (replies_in h0) ≡ length (replies station c) → (later packets : List Packet)
              → c ≡ later ++ packets
              → length (replies station packets) ≤ length (replies_in (first_of (length (requests station packets)) h0))
          turn before h0 whole count later packets is =
              let n : ℕ = length (requests station packets) in
              let joined : more ++ c ≡ (more ++ later) ++ packets = (λ i. more ++ is i) ∙ sym (append_assoc more later packets) in
              let came : length (replies station packets) ≤ length (replies_in (first_of n h)) = e.in_turn (more ++ later) packets joined in
              elim (cases_lt (length h0) n) [
                | inl fewer ↦
                    let enough : length (replies_in (first_of n h0)) ≡ length (replies_in h0) =
                    ap (λ l. length (replies_in l)) (first-enough n h0 (omega (arith, fewer))) in
                    let there : length (replies station c) ≡ length (replies station later) + length (replies station packets) =
                    ap (λ l. length (replies station l)) is ∙ ap length (packets-append station later packets)
                    ∙ length-append (replies station later) (replies station packets) in
                    omega (arith, enough, count, there)
                | inr enough ↦
                    let same : length (replies_in (first_of n h)) ≡ length (replies_in (first_of n h0)) =
                    ap (λ l. length (replies_in (first_of n l))) whole ∙ ap (λ l. length (replies_in l)) (first-behind n before h0 enough) in
                    omega (arith, came, same)
              ]
