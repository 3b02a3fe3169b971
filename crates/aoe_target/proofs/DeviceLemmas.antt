-- What is known of a device, and what a change of its lists leaves.
use Rattle.std.proofs.Common.{◌≡◌, ℕ, suc, List, ◌∷◌, Option, Some, None, refl, sym, subst, ◌∙◌, arith, inl, inr}
use Rattle.std.specs.Prelude.{◌⊎◌, Contains, IfSome}
use Rattle.std.specs.Option.{option_map}
use Rattle.aoe_disk.specs.State.{Contents, DiskState, BothTell}
use Rattle.aoe_keep.specs.Found.{AlwaysFinds, Finds}
use Rattle.aoe_keep.proofs.Offers.{finds_offered}
use Rattle.aoe_lists.specs.Settings.{Settings}
use Rattle.aoe_lists.specs.Step.{Step}
use Rattle.aoe_lists.specs.Step as step
use Rattle.aoe_target.specs.declared.heard.Effect.{Effect}
use Rattle.aoe_target.specs.declared.heard.Effect.TheVariants as effect
use Rattle.aoe_target.specs.declared.heard.Heard.{Heard}
use Rattle.aoe_target.specs.declared.heard.Heard.TheVariants as heard
use Rattle.aoe_target.specs.Device.{Device, State, Holds, MayStand, state_of}
use Rattle.aoe_target.specs.Law.{after_edit, after_step}
use Rattle.aoe_target.specs.Receive.{KeepsEdit, KeepsStep, fate_of}
use Rattle.aoe_target.specs.Sectors.{Agrees, sectors_of}
use Rattle.aoe_target.proofs.LawLemmas.{both_self}

finds_told : (P Q : Settings → Type 0) → ((l : Settings) → P l → Q l) → (x : Option Contents) → IfSome x (Finds P) → IfSome x (Finds Q)
finds_told P Q f None p = tt
finds_told P Q f (Some c) p = λ image left. let found = p image left in (found.0, found.1, f found.0 found.2)

-- a device whose lists every crash leaves
pub first_state : (d : Device) → AlwaysFinds d.keep d.lists → Holds d (state_of d)
first_state d finds = record {
  lists = refl;
  crash = finds_told (λ l. l ≡ d.lists) (MayStand (state_of d)) (λ l e. inl e) d.keep.contents finds;
  sectors = both_self (option_map sectors_of d.store.contents);
}

contains_later : (next : Settings) (offers : List Settings) (l : Settings) → Contains offers l → Contains (next ∷ offers) l
contains_later next offers l c = (suc c.0, omega (arith, c.1), c.2)

-- the old lists, the next ones, or lists that might stand before: each may stand after an edit that failed
offered : (old next : Settings) (k : State) (l : Settings) → old ≡ k.lists → (l ≡ old) ⊎ ((l ≡ next) ⊎ MayStand k l)
    → MayStand (record k { offers = next ∷ k.offers }) l
offered old next k l same (inl e) = inl (e ∙ same)
offered old next k l same (inr (inl e)) = inr (0, omega arith, sym e)
offered old next k l same (inr (inr (inl e))) = inl e
offered old next k l same (inr (inr (inr c))) = inr (contains_later next k.offers l c)

module _ (d d' : Device) (k : State) (h : Holds d k) (store : d'.store ≡ d.store) where
  sectors : BothTell Agrees (option_map sectors_of d'.store.contents) k.sectors
  sectors = let P : DiskState → Type 0 = λ s. BothTell Agrees (option_map sectors_of s.contents) k.sectors in subst P (sym store) h.sectors

  unedited : d'.lists ≡ d.lists → d'.keep ≡ d.keep → Holds d' k
  unedited lists keep =
      let P : DiskState → Type 0 = λ s. IfSome s.contents (Finds (MayStand k)) in
      record { lists = lists ∙ h.lists; crash = subst P (sym keep) h.crash; sectors = sectors }

  edited : (e : Effect) (next : Settings) → KeepsEdit next e d.lists d'.lists d.keep d'.keep → Holds d' (after_edit next e k)
  edited effect.Edited next kept = record {
    lists = kept.0;
    crash = finds_told (λ l. l ≡ next) (MayStand (after_edit next effect.Edited k)) (λ l e. inl e) d'.keep.contents kept.1;
    sectors = sectors;
  }
  edited effect.EditFault next kept = record {
    lists = kept.0 ∙ h.lists;
    crash = finds_told (λ l. (l ≡ d.lists) ⊎ ((l ≡ next) ⊎ MayStand k l)) (MayStand (after_edit next effect.EditFault k))
        (λ l. offered d.lists next k l h.lists) d'.keep.contents
        (finds_offered (MayStand k) d.lists next d.keep d'.keep h.crash kept.1);
    sectors = sectors;
  }
  edited effect.None next kept = absurd kept
  edited (effect.Wrote span) next kept = absurd kept
  edited effect.Synced next kept = absurd kept
  edited (effect.WriteFault span) next kept = absurd kept
  edited effect.ReadFault next kept = absurd kept
  edited effect.SyncFault next kept = absurd kept

  -- what a step of the lists leaves
  pub stepped : (s : Step) (r : Heard) (out : List ℕ) → KeepsStep s r d.lists d'.lists d.keep d'.keep → Holds d' (after_step s (fate_of r out) k)
  stepped step.Silent r out kept = unedited kept.0 kept.1
  stepped (step.Reply error args) r out kept = unedited kept.0 kept.1
  stepped (step.Change next args) (heard.Replied e) out kept = edited e next kept
  stepped (step.Change next args) heard.Ignored out kept = absurd kept
  stepped (step.Change next args) heard.Silent out kept = absurd kept
