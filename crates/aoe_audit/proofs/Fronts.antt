-- Histories that explain a capture, and one that explains it with one more record.
use Rattle.std.proofs.Common.{◌≡◌, ◌≤◌, ◌<◌, ◌+◌, ◌++◌, ◌⊎◌, ℕ, List, [], ◌∷◌, true, false, length, length-append, map, refl, sym, ap, subst, ◌∙◌, arith, append_assoc, inl, inr}
use Rattle.std.proofs.lemmas.Bool.{cases_lt}
use Rattle.std.proofs.lemmas.List.{append_cancel_right, length-map, map-append}
use Rattle.aoe_lists.specs.Settings.{Settings}
use Rattle.aoe_target.specs.History.{AllAllowed, Met, is_cut, left_by}
use Rattle.aoe_target.specs.Law.{Fate, replied}
use Rattle.aoe_target.specs.Verdict.{verdict}
use Rattle.aoe_target.specs.declared.heard.Effect.{Effect}
use Rattle.aoe_target.specs.declared.station.Station.{Station}
use Rattle.aoe_audit.specs.Captured.{Packet, replies, requests}
use Rattle.aoe_audit.specs.Judged.{Explains, IsJudged, IsUncut, answers, frame_met, frame_of_packet, replies_in, reply_in, start}
use Rattle.aoe_audit.proofs.Fates.{answered, last-same}
use Rattle.aoe_audit.proofs.Histories.{AllowedBy, allowed-rest, one-history, replies-append, same-end, split, uncut-rest}

module _ (station : Station) (lists : Settings) (c d : List Packet) (left other : List Packet) (h g : List Met) (e : Explains station lists c left h)
    (f : Explains station lists d other g) (same : requests station c ≡ requests station d) where
  -- the frames of the requests by either
  frames : map frame_of_packet left ++ map frame_met h ≡ map frame_of_packet other ++ map frame_met g
  frames =
      (λ i. map frame_of_packet left ++ e.frames i) ∙ sym (map-append frame_of_packet left e.front)
      ∙ ap (λ l. map frame_of_packet l) (sym e.asked ∙ same ∙ f.asked)
      ∙ map-append frame_of_packet other f.front ∙ (λ i. map frame_of_packet other ++ sym f.frames i)

  -- one of them begins as the other
  begins : (more rest : List Met) → g ≡ more ++ rest → length rest ≡ length h → (x y gs : List (List ℕ)) → gs ≡ x ++ replies_in h → gs ≡ y ++ replies_in rest
      → rest ≡ h
  begins more rest is len x y gs ex ey =
      let lengths : length (map frame_met h) ≡ length (map frame_met rest) = length-map h frame_met ∙ sym len ∙ sym (length-map rest frame_met) in
      let whole : map frame_of_packet left ++ map frame_met h ≡ (map frame_of_packet other ++ map frame_met more) ++ map frame_met rest =
      frames ∙ (λ i. map frame_of_packet other ++ map frame_met (is i)) ∙ (λ i. map frame_of_packet other ++ map-append frame_met more rest i)
      ∙ sym (append_assoc (map frame_of_packet other) (map frame_met more) (map frame_met rest)) in
      let ends : map frame_met h ≡ map frame_met rest = same-end _ _ _ _ lengths whole in
      let allowed = allowed-rest station (start lists) more rest (subst (λ (l : List Met). AllAllowed station (start lists) l) is f.allowed) in
      let uncut = uncut-rest more rest (subst IsUncut is f.uncut) in
      one-history station (start lists) rest h y x gs (sym ends) allowed e.allowed uncut e.uncut ey ex

  pub length-front : length h ≤ length (requests station c)
  length-front = omega (
    arith,
    sym (length-map h frame_met) ∙ ap length e.frames ∙ length-map e.front frame_of_packet,
    ap length e.asked
        ∙ length-append left e.front,
  )

  -- one request more, of which something became
  pub record Next : Type 0 where
    pub more : List Met
    pub met : Met
    pub whole : g ≡ more ++ met ∷ h
    pub left_is : map frame_of_packet left ≡ (map frame_of_packet other ++ map frame_met more) ++ met.frame ∷ []
    pub allowed : AllowedBy station (start lists) h met.frame met.fate
    pub uncut : is_cut met.fate ≡ false
    pub told : replies_in g ≡ (replies_in more ++ reply_in met.fate) ++ replies_in h

  pub next : length h < length g → (x : List (List ℕ)) → replies_in g ≡ x ++ replies_in h → Next
  next longer x is = by s.0 s.1 s.2 s.3
    where
      s : (more : List Met) × (rest : List Met) × (g ≡ more ++ rest) × (length rest ≡ length h + 1)
      s = split (length h + 1) g (omega (arith, longer))

      by : (more rest : List Met) → g ≡ more ++ rest → length rest ≡ length h + 1 → Next
      by more [] whole len = absurd (omega (arith, len))
      by more (m ∷ rest) whole len =
          let moved : g ≡ (more ++ m ∷ []) ++ rest = whole ∙ sym (append_assoc more (m ∷ []) rest) in
          let told : replies_in g ≡ (replies_in more ++ reply_in m.fate) ++ replies_in rest =
          ap replies_in whole ∙ replies-append more (m ∷ rest) ∙ sym (append_assoc (replies_in more) (reply_in m.fate) (replies_in rest)) in
          let is-h : rest ≡ h = begins (more ++ m ∷ []) rest moved (omega (arith, len)) x (replies_in more ++ reply_in m.fate) (replies_in g) is told in
          by-h more m rest whole told is-h
        where
          by-h : (more : List Met) (m : Met) (rest : List Met) → g ≡ more ++ m ∷ rest → replies_in g ≡ (replies_in more ++ reply_in m.fate) ++ replies_in rest
              → rest ≡ h → Next
          by-h more m rest whole told is-h =
              let whole-h : g ≡ more ++ m ∷ h = whole ∙ (λ i. more ++ m ∷ is-h i) in
              let all : AllAllowed station (start lists) (m ∷ h) =
              allowed-rest station (start lists) more (m ∷ h) (subst (λ (l : List Met). AllAllowed station (start lists) l) whole-h f.allowed) in
              let uncut : IsUncut (m ∷ h) = uncut-rest more (m ∷ h) (subst IsUncut whole-h f.uncut) in
              let F : List (List ℕ) = map frame_of_packet other in
              let M : List (List ℕ) = map frame_met more in
              let H : List (List ℕ) = map frame_met h in
              let ends : map frame_of_packet left ++ H ≡ ((F ++ M) ++ m.frame ∷ []) ++ H =
              frames ∙ (λ i. F ++ map frame_met (whole-h i)) ∙ (λ i. F ++ map-append frame_met more (m ∷ h) i) ∙ sym (append_assoc F M (m.frame ∷ H))
              ∙ sym (append_assoc (F ++ M) (m.frame ∷ []) H) in
              record {
                more = more;
                met = m;
                whole = whole-h;
                left_is = append_cancel_right _ _ H ends;
                allowed = all.0;
                uncut = uncut.0;
                told = told ∙ (λ i. (replies_in more ++ reply_in m.fate) ++ replies_in (is-h i));
              }

-- a history that isn't longer has no more replies
module _ (station : Station) (lists : Settings) (c d : List Packet) (left other : List Packet) (h g : List Met) (e : Explains station lists c left h)
    (f : Explains station lists d other g) (same : requests station c ≡ requests station d) (more : List (List ℕ)) where
  pub no-fewer : length g ≤ length h → replies_in g ≡ more ++ replies_in h → length more ≡ 0
  no-fewer shorter is =
      let s = split (length g) h shorter in
      let told : replies_in h ≡ replies_in s.0 ++ replies_in s.1 = ap replies_in s.2 ∙ replies-append s.0 s.1 in
      let front : s.1 ≡ g =
      begins station lists d c other left g h f e (sym same) s.0 s.1 s.2 s.3 [] (more ++ replies_in s.0) (replies_in g) refl
      (is ∙ (λ i. more ++ told i) ∙ sym (append_assoc more (replies_in s.0) (replies_in s.1))) in
      let all : replies_in g ≡ more ++ (replies_in s.0 ++ replies_in g) = is ∙ (λ i. more ++ told i)
      ∙ (λ i. more ++ (replies_in s.0 ++ replies_in (front i))) in
      omega (arith, ap length all, length-append more (replies_in s.0 ++ replies_in g), length-append (replies_in s.0) (replies_in g))

-- a request that waits, and what is known behind a history
module _ (station : Station) (lists : Settings) (c : List Packet) (h : List Met) where
  abbrev Answers : List ℕ → Type 0
  Answers f = answers station (left_by station (start lists) h).lists f ≡ true

  -- the law answers it: then a capture that ends isn't judged
  pub not-judged : (later : List Packet) (w : Packet) → Explains station lists c (later ++ w ∷ []) h → Answers w.frame → IsJudged station lists c → ⊥
  not-judged later w e asks judged =
      let g : List Met = judged.0 in
      let f : Explains station lists c [] g = judged.1 in
      let sizes : length g ≡ length (requests station c) = sym (length-map g frame_met) ∙ ap length f.frames ∙ length-map f.front frame_of_packet
      ∙ ap length (sym f.asked) in
      let mine : length (requests station c) ≡ length (later ++ w ∷ []) + length h =
      ap length e.asked ∙ length-append (later ++ w ∷ []) e.front
      ∙ ap (λ n. length (later ++ w ∷ []) + n) (sym (length-map e.front frame_of_packet) ∙ ap length (sym e.frames) ∙ length-map h frame_met) in
      let longer : length h < length g = omega (arith, sizes, mine, length-append later (w ∷ [])) in
      let told : replies_in g ≡ replies_in h = f.answered ∙ sym e.answered in
      let n = next station lists c c (later ++ w ∷ []) [] h g e f refl longer [] told in
      let frame : w.frame ≡ n.met.frame = last-same _ _ w.frame n.met.frame (sym (map-append frame_of_packet later (w ∷ [])) ∙ n.left_is) in
      let a = answered (verdict station (left_by station (start lists) h).lists n.met.frame) station
      (left_by station (start lists) h) n.met.frame n.met.fate n.allowed n.uncut
      (subst Answers frame asks) in
      let more : replies_in h ≡ (replies_in n.more ++ a.1 ∷ []) ++ replies_in h = sym told ∙ n.told
      ∙ (λ i. (replies_in n.more ++ reply_in (a.2 i)) ++ replies_in h) in
      omega (arith, ap length more, length-append (replies_in n.more ++ a.1 ∷ []) (replies_in h), length-append (replies_in n.more) (a.1 ∷ []))

  -- a reply more: its request is none that waits, or the first that the law answers and doesn't answer so
  abbrev pub IsStuck : List Packet → List ℕ → Type 0
  IsStuck left reply = (left ≡ []) ⊎ ((later : List Packet) × (w : Packet) × (left ≡ later ++ w ∷ []) × Answers w.frame
      × ((e : Effect) → AllowedBy station (start lists) h w.frame (replied e reply) → ⊥))

  pub stuck : (left other : List Packet) (p : Packet) (d : List Packet) (g : List Met) → requests station d ≡ requests station c
      → replies station d ≡ p ∷ replies station c → Explains station lists c left h → IsStuck left p.frame → Explains station lists d other g → ⊥
  stuck left other p d g same more e is f =
      let R : List (List ℕ) = replies_in h in
      let told : replies_in g ≡ (p.frame ∷ []) ++ R = f.answered ∙ ap (λ l. map frame_of_packet l) more ∙ (λ i. p.frame ∷ sym e.answered i) in
      elim (cases_lt (length h) (length g)) [
        | inr shorter ↦ absurd (omega (arith, no-fewer station lists c d left other h g e f (sym same) (p.frame ∷ []) shorter told))
        | inl longer ↦ by-next (next station lists c d left other h g e f (sym same) longer (p.frame ∷ []) told) told is
      ]
    where
      by-next : Next station lists c d left other h g e f (sym same) → replies_in g ≡ (p.frame ∷ []) ++ replies_in h → IsStuck left p.frame → ⊥
      by-next n told (inl empty) =
          let nothing : [] ≡ (map frame_of_packet other ++ map frame_met n.more) ++ n.met.frame ∷ [] = ap (λ l. map frame_of_packet l) (sym empty)
          ∙ n.left_is in
          omega (arith, ap length nothing, length-append (map frame_of_packet other ++ map frame_met n.more) (n.met.frame ∷ []))
      by-next n told (inr w) =
          let frame : w.1.frame ≡ n.met.frame =
          last-same _ _ w.1.frame n.met.frame (sym (map-append frame_of_packet w.0 (w.1 ∷ [])) ∙ ap (λ l. map frame_of_packet l) (sym w.2) ∙ n.left_is) in
          let a = answered (verdict station (left_by station (start lists) h).lists n.met.frame) station
          (left_by station (start lists) h) n.met.frame n.met.fate n.allowed n.uncut
          (subst Answers frame w.3) in
          let cut-off : (p.frame ∷ []) ++ replies_in h ≡ (replies_in n.more ++ a.1 ∷ []) ++ replies_in h =
          sym told ∙ n.told ∙ (λ i. (replies_in n.more ++ reply_in (a.2 i)) ++ replies_in h) in
          let reply : p.frame ≡ a.1 = last-same [] (replies_in n.more) p.frame a.1 (append_cancel_right _ _ (replies_in h) cut-off) in
          let allowed : AllowedBy station (start lists) h n.met.frame (replied a.0 a.1) =
          subst (λ (x : Fate). AllowedBy station (start lists) h n.met.frame x) a.2 n.allowed in
          let mine : AllowedBy station (start lists) h w.1.frame (replied a.0 p.frame) =
          subst (λ (x : List ℕ). AllowedBy station (start lists) h x (replied a.0 p.frame)) (sym frame)
          (subst (λ (x : List ℕ). AllowedBy station (start lists) h n.met.frame (replied a.0 x)) (sym reply) allowed) in
          w.4 a.0 mine
