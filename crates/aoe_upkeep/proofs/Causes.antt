-- When a keep is refused, and when its disk is said to have failed.
use Rattle.std.proofs.Common.{◌≡◌, ◌≢◌, ◌≤◌, ◌↔◌, ◌∙◌, ℕ, true, Option, Some, None, IfSome, Result, Ok, Err, ap, arith, refl, sym}
use Rattle.aoe_base.specs.Faults.{Rose}
use Rattle.aoe_disk.specs.State.{Contents, DiskState}
use Rattle.aoe_keep.specs.Found.{found}
use Rattle.aoe_keep.proofs.MountLemmas.{room-for-slots, told-found}
use Rattle.aoe_keep.specs.Keep.{IsRefused, Mounts}
use Rattle.aoe_keep.specs.declared.refusal.MountRefusal.{MountRefusal}
use Rattle.aoe_keep.specs.declared.refusal.MountRefusal.TheVariants as refusal
use Rattle.aoe_lists.specs.Settings.{Settings}
use Rattle.aoe_upkeep.specs.Upkeep.{IsCaused, is_disk_fault}
use Rattle.aoe_upkeep.specs.declared.stop.UpkeepStop.{UpkeepStop}
use Rattle.aoe_upkeep.specs.declared.stop.UpkeepStop.TheVariants as stop

-- a keep that wasn't mounted
abbrev kept-out : MountRefusal → Result Unit UpkeepStop
kept-out r = Err (stop.Keep r)

-- of an answer that isn't a bad slot's
not-bad : (ended : Result Unit UpkeepStop) (P : Type 0) (slot : ℕ) (a : Option Contents)
    → (ended ≡ Err (stop.Keep (refusal.BadKeep slot)) → ⊥)
    → IfSome a (λ c. P → found c.bytes ≡ Err slot → ⊥)
    → IfSome a (λ c. (ended ≡ Err (stop.Keep (refusal.BadKeep slot))) ↔ (P × (found c.bytes ≡ Err slot) × (ended ≢ Err (stop.Keep refusal.Failed))))
not-bad ended P slot None not never = tt
not-bad ended P slot (Some c) not never = (λ e. absurd (not e), λ x. absurd (never x.0 x.1))

-- lists that stand are no bad slot
no-bad : (lists : Settings) (slot : ℕ) (P : Type 0) (a : Option Contents) → IfSome a (λ c. found c.bytes ≡ Ok lists)
    → IfSome a (λ c. P → found c.bytes ≡ Err slot → ⊥)
no-bad lists slot P None stands = tt
no-bad lists slot P (Some c) stands = λ p bad. let r : (let x : Result Settings ℕ = Ok lists in x) ≡ Err slot = sym stands ∙ bad in absurd cc

module _ {D : Type 0} (state : D → DiskState) (disk disk' : D) where
  -- a keep that was mounted
  pub mounted-causes : (ended : Result Unit UpkeepStop) (m : DiskState) (lists : Settings) → Mounts (state disk) m lists
      → ((r : MountRefusal) → ended ≡ Err (stop.Keep r) → ⊥) → (is_disk_fault ended ≡ true → Rose (state disk).faults (state disk').faults)
      → IsCaused state ended disk disk'
  mounted-causes ended m lists mounts inside failed = record {
    small = λ sectors. (λ e. absurd (inside (refusal.TooSmall sectors) e), λ x. absurd (omega (arith, x.0, x.1, room-for-slots (state disk) m lists mounts)));
    bad = λ slot. not-bad ended (16 ≤ (state disk).sectors) slot (state disk).contents (inside (refusal.BadKeep slot))
        (no-bad lists slot (16 ≤ (state disk).sectors) (state disk).contents (told-found (Ok lists) (state disk).contents m.contents mounts.stands));
    failed = failed;
  }

  small-causes : (n : ℕ) → IsRefused state disk (refusal.TooSmall n) disk' → IsCaused state (Err (stop.Keep (refusal.TooSmall n))) disk disk'
  small-causes n x = record {
    small = λ sectors. (
      λ e. let same : n ≡ sectors = cc in
          (x.0 ∙ same, omega (arith, x.1, same)),
      λ s. ap (λ k. kept-out (refusal.TooSmall k)) (sym x.0 ∙ s.0),
    );
    bad = λ slot. not-bad (Err (stop.Keep (refusal.TooSmall n))) (16 ≤ (state disk).sectors) slot (state disk).contents (λ e. absurd cc)
        (few slot (state disk).contents);
    failed = λ e. absurd cc;
  }
    where
      few : (slot : ℕ) (a : Option Contents) → IfSome a (λ c. 16 ≤ (state disk).sectors → found c.bytes ≡ Err slot → ⊥)
      few slot None = tt
      few slot (Some c) = λ room bad. omega (arith, room, x.0, x.1)

  failed-causes : IsRefused state disk refusal.Failed disk' → IsCaused state (Err (stop.Keep refusal.Failed)) disk disk'
  failed-causes x = record {
    small = λ sectors. (λ e. absurd cc, λ s. absurd (omega (arith, s.0, s.1, x.0)));
    bad = λ slot. unread slot (state disk).contents;
    failed = λ e. x.2.run.cause;
  }
    where
      unread : (slot : ℕ) (a : Option Contents) → IfSome a (λ c. (kept-out refusal.Failed ≡ kept-out (refusal.BadKeep slot))
          ↔ ((16 ≤ (state disk).sectors) × (found c.bytes ≡ Err slot) × (kept-out refusal.Failed ≢ kept-out refusal.Failed)))
      unread slot None = tt
      unread slot (Some c) = (λ e. absurd cc, λ b. absurd (b.2 refl))

  bad-causes : (k : ℕ) → IsRefused state disk (refusal.BadKeep k) disk' → IsCaused state (Err (stop.Keep (refusal.BadKeep k))) disk disk'
  bad-causes k x = record {
    small = λ sectors. (λ e. absurd cc, λ s. absurd (omega (arith, s.0, s.1, x.0)));
    bad = λ slot. read slot (state disk).contents (told-found (Err k) (state disk).contents (state disk').contents x.1);
    failed = λ e. absurd cc;
  }
    where
      read : (slot : ℕ) (a : Option Contents) → IfSome a (λ c. found c.bytes ≡ Err k)
          → IfSome a (λ c. (kept-out (refusal.BadKeep k) ≡ kept-out (refusal.BadKeep slot))
          ↔ ((16 ≤ (state disk).sectors) × (found c.bytes ≡ Err slot) × (kept-out (refusal.BadKeep k) ≢ kept-out refusal.Failed)))
      read slot None is = tt
      read slot (Some c) is = (
        λ e. let same : k ≡ slot = cc in (x.0, is ∙ ap Err same, λ f. absurd cc),
        λ b. let r : (let y : Result Settings ℕ = Err k in y) ≡ Err slot = sym is ∙ b.1 in let same : k ≡ slot = cc in
            ap (λ j. kept-out (refusal.BadKeep j)) same,
      )

  -- a keep that wasn't
  pub refused-causes : (r : MountRefusal) → IsRefused state disk r disk' → IsCaused state (Err (stop.Keep r)) disk disk'
  refused-causes refusal.Failed x = failed-causes x
  refused-causes (refusal.TooSmall n) x = small-causes n x
  refused-causes (refusal.BadKeep k) x = bad-causes k x
