-- Histories of which one is the beginning of another.
use Rattle.std.proofs.Common.{◌≡◌, ◌≤◌, ◌++◌, ℕ, List, [], ◌∷◌, length, length-append, map, drop, refl, sym, ap, subst, ◌∙◌, arith, append_assoc, inl, inr}
use Rattle.std.proofs.lemmas.Bool.{cases_lt}
use Rattle.std.proofs.lemmas.List.{append_cancel_right}
use Rattle.std.specs.Prelude.{get_or}
use Rattle.aoe_target.specs.Device.{State}
use Rattle.aoe_target.specs.History.{AllAllowed, Met, left_by}
use Rattle.aoe_target.specs.Law.{Allows, Fate}
use Rattle.aoe_target.specs.Verdict.{verdict}
use Rattle.aoe_target.specs.declared.station.Station.{Station}
use Rattle.aoe_audit.specs.Judged.{IsUncut, frame_met, replies_in, reply_in}
use Rattle.aoe_audit.proofs.Fates.{one-fate}

-- what may become of a frame behind a history
abbrev pub AllowedBy : Station → State → List Met → List ℕ → Fate → Type 0
AllowedBy station k h f fate = Allows station (left_by station k h) f (verdict station (left_by station k h).lists f) fate

module _ (station : Station) (k : State) where
  -- the frames and a beginning of the replies tell the history
  pub one-history : (g h : List Met) (x y gs : List (List ℕ)) → map frame_met g ≡ map frame_met h → AllAllowed station k g → AllAllowed station k h
      → IsUncut g → IsUncut h → gs ≡ x ++ replies_in g → gs ≡ y ++ replies_in h → g ≡ h
  one-history [] [] x y gs frames ag ah ug uh ex ey = refl
  one-history [] (n ∷ h) x y gs frames ag ah ug uh ex ey = absurd (cc)
  one-history (m ∷ g) [] x y gs frames ag ah ug uh ex ey = absurd (cc)
  one-history (m ∷ g) (n ∷ h) x y gs frames ag ah ug uh ex ey =
      let mine : gs ≡ (x ++ reply_in m.fate) ++ replies_in g = ex ∙ sym (append_assoc x (reply_in m.fate) (replies_in g)) in
      let other : gs ≡ (y ++ reply_in n.fate) ++ replies_in h = ey ∙ sym (append_assoc y (reply_in n.fate) (replies_in h)) in
      let rest : g ≡ h =
      one-history g h (x ++ reply_in m.fate) (y ++ reply_in n.fate) gs (ap (λ l. drop 1 l) frames) ag.1 ah.1 ug.1 uh.1 mine other in
      let frame : m.frame ≡ n.frame = ap (λ l. get_or l 0 m.frame) frames in
      let ends : x ++ reply_in m.fate ≡ y ++ reply_in n.fate =
      append_cancel_right _ _ (replies_in h) ((λ i. (x ++ reply_in m.fate) ++ replies_in (sym rest i)) ∙ sym mine ∙ other) in
      let allowed = subst (λ (l : List Met). AllowedBy station k l m.frame m.fate) rest ag.0 in
      let here = subst (λ (f : List ℕ). AllowedBy station k h f m.fate) frame allowed in
      let fate : m.fate ≡ n.fate = one-fate (verdict station (left_by station k h).lists n.frame) station
      (left_by station k h) n.frame m.fate n.fate x y here ah.0 ug.0 uh.0 ends in
      λ i. (record { frame = frame i; fate = fate i }) ∷ rest i

  pub allowed-rest : (more rest : List Met) → AllAllowed station k (more ++ rest) → AllAllowed station k rest
  allowed-rest [] rest a = a
  allowed-rest (m ∷ more) rest a = allowed-rest more rest a.1

pub uncut-rest : (more rest : List Met) → IsUncut (more ++ rest) → IsUncut rest
uncut-rest [] rest u = u
uncut-rest (m ∷ more) rest u = uncut-rest more rest u.1

pub replies-append : (more rest : List Met) → replies_in (more ++ rest) ≡ replies_in more ++ replies_in rest
replies-append [] rest = refl
replies-append (m ∷ more) rest = (λ i. reply_in m.fate ++ replies-append more rest i) ∙ sym (append_assoc (reply_in m.fate) (replies_in more) (replies_in rest))

-- a history with so many entries at its beginning
pub split : (n : ℕ) (h : List Met) → n ≤ length h → (more : List Met) × (rest : List Met) × (h ≡ more ++ rest) × (length rest ≡ n)
split n [] le = ([], [], refl, omega (arith, le))
split n (m ∷ h) le = elim (cases_lt (length h) n) [
  | inl whole ↦ ([], m ∷ h, refl, omega (arith, le, whole))
  | inr fits ↦ let s = split n h fits in (m ∷ s.0, s.1, (λ i. m ∷ s.2 i), s.3)
]

-- lists with the same end
pub same-end : {A : Type 0} (x y a b : List A) → length a ≡ length b → x ++ a ≡ y ++ b → a ≡ b
same-end [] [] a b len e = e
same-end [] (d ∷ y) a b len e = absurd (omega (arith, len, ap length e, length-append y b))
same-end (c ∷ x) [] a b len e = absurd (omega (arith, len, ap length e, length-append x a))
same-end (c ∷ x) (d ∷ y) a b len e = same-end x y a b len (ap (λ l. drop 1 l) e)
