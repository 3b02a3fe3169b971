-- What the groups of recorded lines add to a history.
use Rattle.std.proofs.Common.{ℕ, suc, ◌≡◌, true, List, [], ◌∷◌, ◌++◌, Option, Some, None, ◌⊎◌, refl, sym, subst, ap, ◌∙◌, append_assoc, inl, inr}
use Rattle.arrayvec.specs.ArrayVec.{ArrayVec}
use Rattle.aoe_base.specs.declared.address.TargetId.{TargetId}
use Rattle.aoe_initiator.specs.declared.op.Op.{Op}
use Rattle.aoe_initiator.specs.declared.refusal.SubmitRefusal.{SubmitRefusal}
use Rattle.aoe_history.specs.declared.entry.Entry.{Entry}
use Rattle.aoe_history.specs.declared.entry.Entry.TheVariants.{Submitted, Refused, Ticked}
use Rattle.aoe_history.specs.Commands.{tickets}
use Rattle.aoe_history.specs.Frames.{clock}
use Rattle.aoe_history.specs.Groups.{submit_entry, submitted_as, Follows, Station, Turns}
use Rattle.aoe_history.specs.Groups.Act.{Hand, Submit, Tick}
use Rattle.aoe_history.specs.Setup.{HostSetup, Setup}
use Rattle.aoe_world.proofs.AddsLemmas.{adds-keep, adds-more, Adds}
use Rattle.aoe_world.proofs.GroupLemmas.{enters-adds, is_aside, turns-add}
use Rattle.aoe_live.specs.Tally.{submissions}

-- entries came that submit nothing and take no time
abbrev pub Aside : List Entry → List Entry → Type 0
Aside h m = Adds is_aside h m

-- LINES

-- a frame that is handed over
pub handed : (s : Setup) (frame : ℕ) (station : Station) (h m : List Entry) → Follows s (Hand frame station ∷ []) h m → Aside h m
handed s frame station h m (n, group, is) =
    subst (Adds is_aside h) (sym is)
    (adds-more is_aside h group.entered n (enters-adds s h (Hand frame station) group.got group.entered tt group.enters)
    (turns-add s s.hosts group.got group.entered n group.turns))

-- time that goes by
pub ticked : (s : Setup) (ms : ℕ) (h m : List Entry) → Follows s (Tick ms ∷ []) h m → Aside (Ticked ms ∷ h) m
ticked s ms h m (n, group, is) =
    let P : List Entry → Type 0 = λ k. Turns s s.hosts group.got k n in
    subst (Adds is_aside (Ticked ms ∷ h)) (sym is) (turns-add s s.hosts group.got (Ticked ms ∷ h) n (subst P group.enters.1 group.turns))

-- a command that is submitted, or refused
pub record Asked (dev : TargetId) (op : Op) (h m : List Entry) : Type 0 where
  pub entry : Entry
  pub aside : Aside (entry ∷ h) m
  pub is : ((name : ArrayVec ℕ) × (ticket : ℕ) × (entry ≡ Submitted name ticket dev op))
      ⊎ ((name : ArrayVec ℕ) × (refusal : SubmitRefusal) × (entry ≡ Refused name refusal))

submitted-is : (s : Setup) (host : HostSetup) (h : List Entry) (name : ArrayVec ℕ) (dev : TargetId) (op : Op) (refusal : Option SubmitRefusal)
    → ((n : ArrayVec ℕ) × (ticket : ℕ) × (submit_entry s host h name dev op refusal ≡ Submitted n ticket dev op))
    ⊎ ((n : ArrayVec ℕ) × (r : SubmitRefusal) × (submit_entry s host h name dev op refusal ≡ Refused n r))
submitted-is s host h name dev op None = inl (name, suc (tickets host h), refl)
submitted-is s host h name dev op (Some refusal) = inr (name, refusal, refl)

pub asked : (s : Setup) (name : ArrayVec ℕ) (dev : TargetId) (op : Op) (h m : List Entry) → Follows s (Submit name dev op ∷ []) h m → Asked dev op h m
asked s name dev op h m (n, group, is) =
    let host = group.enters.1.0 in
    let P : List Entry → Type 0 = λ k. Turns s s.hosts group.got k n in
    let e = submitted_as s host h name dev op in
    record {
      entry = e;
      aside = subst (Adds is_aside (e ∷ h)) (sym is) (turns-add s s.hosts group.got (e ∷ h) n (subst P group.enters.1.2 group.turns));
      is = submitted-is s host h name dev op _;
    }

-- WHAT THEY LEAVE

-- the clock and what was submitted
record Left (h m : List Entry) : Type 0 where
  clock_is : clock m ≡ clock h
  submissions_are : submissions m ≡ submissions h

one-leaves : (e : Entry) (k : List Entry) → is_aside e ≡ true → Left k (e ∷ k)
one-leaves (Submitted host ticket dev op) k t = absurd cc
one-leaves (Ticked ms) k t = absurd cc
one-leaves _ k t = record { clock_is = refl; submissions_are = refl }

leaves : (h m : List Entry) → Aside h m → Left h m
leaves h m a =
    adds-keep is_aside (Left h) (λ e k t x. let y = one-leaves e k t in
    record { clock_is = y.clock_is ∙ x.clock_is; submissions_are = y.submissions_are ∙ x.submissions_are }) h m a
    (record { clock_is = refl; submissions_are = refl })

pub aside-clock : (h m : List Entry) → Aside h m → clock m ≡ clock h
aside-clock h m a = (leaves h m a).clock_is

pub aside-submissions : (h m : List Entry) → Aside h m → submissions m ≡ submissions h
aside-submissions h m a = (leaves h m a).submissions_are

-- what came before them stays
pub aside-tail : (h m : List Entry) → Aside h m → (new : List Entry) × (m ≡ new ++ h)
aside-tail h m a = adds-keep is_aside (λ n. (new : List Entry) × (n ≡ new ++ h)) (λ e k t x. (e ∷ x.0, ap (λ l. e ∷ l) x.1)) h m a ([], refl)

-- behind one entry of whatever kind
pub tail-behind : (e : Entry) (h m : List Entry) → Aside (e ∷ h) m → (new : List Entry) × (m ≡ new ++ h)
tail-behind e h m a = let rest = aside-tail (e ∷ h) m a in (rest.0 ++ e ∷ [], rest.1 ∙ sym (append_assoc rest.0 (e ∷ []) h))
