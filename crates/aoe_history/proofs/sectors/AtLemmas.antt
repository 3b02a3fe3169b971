-- What holds of a sector of a slot for a host, after each entry but an arrival.
use Rattle.std.proofs.Common.{ℕ, ◌≡◌, ◌⊎◌, inl, inr, if◌then◌else◌, Bool, true, false, not, ◌&&◌, ◌||◌, List, [], ◌∷◌, Option, Some, None, is_some, refl, sym, ◌∙◌, arith}
use Rattle.std.proofs.lemmas.Bool.{not-false, not-true}
use Rattle.arrayvec.specs.ArrayVec.{ArrayVec}
use Rattle.aoe_base.specs.declared.counted.Lifetimes.{Lifetimes}
use Rattle.aoe_frame.specs.Header.{fields}
use Rattle.aoe_initiator.specs.HostLog.{Sending}
use Rattle.aoe_history.specs.declared.entry.Entry.{Entry}
use Rattle.aoe_history.specs.declared.entry.Entry.TheVariants.{Sent, Arrived}
use Rattle.aoe_history.specs.Commands.{submission, was_sent, writes}
use Rattle.aoe_history.specs.CommandView.{is_active, sends_of, was_done}
use Rattle.aoe_history.specs.Frames.{clock}
use Rattle.aoe_history.specs.Reading.{allowed, alone, safe, spoiled}
use Rattle.aoe_history.specs.Setup.{is_called, is_slot, HostSetup, SlotSetup}
use Rattle.aoe_history.specs.Slots.{known_after, marked_after, stores}
use Rattle.aoe_history.proofs.hosts.ApartLemmas.{one-write}
use Rattle.aoe_history.proofs.hosts.BaseLemmas.{live-by, now-sent, sent-cases, Base, Keeps}
use Rattle.aoe_history.proofs.hosts.BaseLemmas as base
use Rattle.aoe_history.proofs.hosts.GoneLemmas.{AreGone}
use Rattle.aoe_history.proofs.hosts.ReadyLemmas.{MayBeSent}
use Rattle.aoe_history.proofs.hosts.SendLemmas.{and-parts}
use Rattle.aoe_history.proofs.sectors.SectorLemmas.{begins, weaken, Sector}
use Rattle.aoe_history.proofs.LogicLemmas.{or-right, untrue}

-- a command flies; it is under way
abbrev pub IsFlying : HostSetup → List Entry → ℕ → Type 0
IsFlying host h c = (x : Sending) × (sends_of host h c ≡ Some x) × (was_done host h c ≡ false)

abbrev pub IsUnderWay : Lifetimes → HostSetup → List Entry → ℕ → Type 0
IsUnderWay life host h c = (x : Sending) × (sends_of host h c ≡ Some x) × (is_active life host h c x ≡ true)

-- the sector was stored to since a command was sent
abbrev pub landed : HostSetup → SlotSetup → List Entry → ℕ → ℕ → Bool
landed host slot [] s c = false
landed host slot (Arrived dev frame fate ∷ h) s c = (is_slot slot dev && stores fate s && is_some (sends_of host h c)) || landed host slot h s c
landed host slot (_ ∷ h) s c = landed host slot h s c

abbrev pub wr : HostSetup → SlotSetup → List Entry → ℕ → ℕ → Option (List ℕ)
wr host slot h s c = writes slot (submission host h c) s

abbrev pub At : Lifetimes → HostSetup → SlotSetup → List Entry → ℕ → Type 0
At life host slot h s =
    Sector (IsFlying host h) (IsUnderWay life host h) (wr host slot h s) (landed host slot h s) (known_after slot h s) (marked_after slot h s)
    (alone host slot h s)
    (safe host slot h s) (spoiled host slot h s) (allowed host slot h s)

-- SENT AND LANDED

pub some-there : (o : Option Sending) → is_some o ≡ true → (x : Sending) × (o ≡ Some x)
some-there o e = grind arith

or-some : (b : Bool) (x : Sending) (o : Option Sending) (t : Bool) → t ≡ is_some o → (b || t) ≡ is_some (if b then Some x else o)
or-some b x o t e = grind arith

pub sent-same : (host : HostSetup) (h : List Entry) (c : ℕ) → was_sent host h c ≡ is_some (sends_of host h c)
sent-same host [] c = refl
sent-same host (Sent name t number f ∷ h) c = or-some _ _ _ _ (sent-same host h c)
sent-same host (_ ∷ h) c = sent-same host h c

last-true : (a b c r : Bool) → ((a && b && c) || r) ≡ true → (c ≡ true) ⊎ (r ≡ true)
last-true a b c r e = grind arith

landed-sent : (host : HostSetup) (slot : SlotSetup) (h : List Entry) (s c : ℕ) → landed host slot h s c ≡ true → was_sent host h c ≡ true
landed-sent host slot [] s c e = absurd (cc)
landed-sent host slot (Sent name t number f ∷ h) s c e = or-right _ _ (landed-sent host slot h s c e)
landed-sent host slot (Arrived dev frame fate ∷ h) s c e = elim (last-true (is_slot slot dev) (stores fate s) _ _ e) [
  | inl p ↦ sent-same host h c ∙ p
  | inr q ↦ landed-sent host slot h s c q
]
landed-sent host slot (_ ∷ h) s c e = landed-sent host slot h s c e

-- ENTRIES THAT SEND NOTHING

pub not-before : {done done2 : Bool} → (done ≡ true → done2 ≡ true) → done2 ≡ false → done ≡ false
not-before {done} f e = untrue done (λ d. let x = f d in cc)

pub flying-active : (life : Lifetimes) (host : HostSetup) (h : List Entry) (c : ℕ) → IsFlying host h c → IsUnderWay life host h c
flying-active life host h c (x, e, d) = (x, e, rw d refl)

-- a sector is as it was, if it was so
module _ {life : Lifetimes} {host : HostSetup} {h n : List Entry} (k : Keeps host h n) (b : Base life host h) (slot : SlotSetup) (s : ℕ) where
  before : (c : ℕ) (v : List ℕ) → IsUnderWay life host h c → wr host slot n s c ≡ Some v → IsUnderWay life host h c × (wr host slot h s c ≡ Some v)
  before c v (x, e, a) w = ((x, e, a), rw (k.submissions c (b.bounds c x e).1) at w)

  pub quiet : {la : ℕ → Bool} {holds : Option (List ℕ)} {mark al sa sp : Bool} {may : Option (List (List ℕ))}
      → Sector (IsFlying host h) (IsUnderWay life host h) (wr host slot h s) la holds mark al sa sp may
      → Sector (IsFlying host n) (IsUnderWay life host n) (wr host slot n s) la holds mark al sa sp may
  quiet x = weaken x
      (λ c v (y, e, d) w. let f : IsFlying host h c = (y, sym (k.sends c) ∙ e, not-before (k.done c) d) in
      (f, (before c v (flying-active life host h c f) w).1))
      (λ c v (y, e, a) w. let l = live-by life.requests.0 (clock h) (clock n) y.last.0 _ _ k.time (k.done c) a in before c v (y, sym (k.sends c) ∙ e, l) w)

-- A SEND OF THE HOST'S

none-written : (wrote : ℕ → Option (List ℕ)) {c d : ℕ} {v : List ℕ} → d ≡ c → wrote c ≡ None → wrote d ≡ Some v → ⊥
none-written wrote p q r = cc

module _ {life : Lifetimes} {host : HostSetup} {h : List Entry} {name : ArrayVec ℕ} {c number : ℕ} {f : List ℕ} (mine : is_called host name ≡ true)
    (r : MayBeSent life host h c f)
    (reads : (fields f).tag ≡ r.tag) (b : Base life host h) (b2 : Base life host (Sent name c number f ∷ h)) (g2 : AreGone life host (Sent name c number f ∷ h))
    (slot : SlotSetup) (s : ℕ) (x : At life host slot h s) where
  abbrev n : List Entry
  n = Sent name c number f ∷ h

  -- what is so of a command that was sent is so of this one, or was so before
  this-or-old : (P : Sending → Type 0) (d : ℕ) → (y : Sending) × (sends_of host n d ≡ Some y) × P y
      → (d ≡ c) ⊎ ((y : Sending) × (sends_of host h d ≡ Some y) × P y)
  this-or-old P d (y, e, q) = elim (sent-cases life host h name c number f mine r reads d y e) [ inl p ↦ inl p.0 | inr o ↦ inr (y, o, q) ]

  flying-of : (d : ℕ) → IsFlying host n d → (d ≡ c) ⊎ IsFlying host h d
  flying-of d = this-or-old (λ y. was_done host h d ≡ false) d

  active-of : (d : ℕ) → IsUnderWay life host n d → (d ≡ c) ⊎ IsUnderWay life host h d
  active-of d = this-or-old (λ y. is_active life host h d y ≡ true) d

  -- a repeat is of a command that flew
  flew : was_sent host h c ≡ true → IsFlying host h c
  flew e = elim r.may [ inl first ↦ absurd (cc (sent-same host h c, first.unsent)) | inr again ↦ (again.before, again.sent, again.flying) ]

  now-flying : was_sent host h c ≡ false → IsFlying host n c
  now-flying e = (
    base.more host h c f c,
    now-sent life host h name c number f mine r reads,
    untrue (was_done host h c)
        (λ d. cc (b.done c d, sent-same host h c)),
  )

  none-landed : was_sent host h c ≡ false → (d : ℕ) (v w : List ℕ) → IsFlying host n d → wr host slot h s c ≡ Some v → wr host slot h s d ≡ Some w
      → landed host slot h s d ≡ false
  none-landed e d v w fl wc wd =
      let a = flying-active life host n d fl in
      let o = flying-active life host n c (now-flying e) in
      let same : d ≡ c = one-write life host n b2 g2 slot s d c a.0 o.0 w v a.1 o.1 a.2 o.2 wd wc in
      untrue (landed host slot h s d) (λ l. cc (landed-sent host slot h s d l))

  pub sent-at : At life host slot n s
  sent-at = go (is_called host name && not (was_sent host h c)) refl (wr host slot h s c) refl
    where
      go : (t : Bool) → (is_called host name && not (was_sent host h c)) ≡ t → (w : Option (List ℕ)) → wr host slot h s c ≡ w → At life host slot n s
      go false e w we =
          let again = flew (not-false _ (rw mine at e)) in
          rw e (weaken x (λ d v fl wd. (elim (flying-of d fl) [ inl p ↦ rw p again | inr o ↦ o ], wd))
          (λ d v a wd. (elim (active-of d a) [ inl p ↦ rw p (flying-active life host h c again) | inr o ↦ o ], wd)))
      go true e None we =
          rw (e, we) (weaken x (λ d v fl wd. (elim (flying-of d fl) [ inl p ↦ absurd (none-written (wr host slot h s) p we wd) | inr o ↦ o ], wd))
          (λ d v a wd. (elim (active-of d a) [ inl p ↦ absurd (none-written (wr host slot h s) p we wd) | inr o ↦ o ], wd)))
      go true e (Some v) we = rw (e, we) (begins x c v active-of we (λ d w fl wd. none-landed (not-true _ (and-parts _ _ e).1) d v w fl we wd))
