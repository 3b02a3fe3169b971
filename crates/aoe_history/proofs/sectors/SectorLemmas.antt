-- What holds of one sector of one device for one host, as values: how each kind of entry keeps it.
use Rattle.std.proofs.Common.{ℕ, ◌≡◌, ◌⊎◌, inl, inr, ◌&&◌, ◌||◌, not, Bool, true, false, if◌then◌else◌, List, [], ◌∷◌, Option, Some, None, arith}
use Rattle.std.specs.Option.{option_or}
use Rattle.aoe_history.specs.Reading.{also, IsAllowed}
use Rattle.aoe_history.proofs.hosts.SendLemmas.{and-parts}

-- flying and active: which commands of the host are under way; wr: what each writes to the sector; landed: whose data were stored
pub record Sector (flying active : ℕ → Type 0) (wr : ℕ → Option (List ℕ)) (landed : ℕ → Bool) (holds : Option (List ℕ)) (mark alone safe spoiled : Bool)
    (may : Option (List (List ℕ))) : Type 0 where
  pub lost : spoiled ≡ true → may ≡ None
  pub value : alone ≡ true → IsAllowed holds may
  pub own : (c : ℕ) (v : List ℕ) → alone ≡ true → flying c → wr c ≡ Some v → landed c ≡ true → spoiled ≡ false → holds ≡ Some v
  pub mine : (c : ℕ) (v : List ℕ) → active c → wr c ≡ Some v → IsAllowed (Some v) may
  pub clean : alone ≡ true → safe ≡ true → mark ≡ false
  pub still : alone ≡ true → safe ≡ true → (c : ℕ) (v : List ℕ) → active c → wr c ≡ Some v → ⊥

-- a command under way that writes v to the sector
pub record Writer (active : ℕ → Type 0) (wr : ℕ → Option (List ℕ)) (v : List ℕ) : Type 0 where
  pub ticket : ℕ
  pub under_way : active ticket
  pub writes_it : wr ticket ≡ Some v

pub allowed-also : (o : Option (List ℕ)) (v : List ℕ) (may : Option (List (List ℕ))) → IsAllowed o may → IsAllowed o (also (Some v) may)
allowed-also o v may a = grind arith

pub allowed-new : (v : List ℕ) (may : Option (List (List ℕ))) → IsAllowed (Some v) (also (Some v) may)
allowed-new v may = grind arith

pub none-allowed : (may : Option (List (List ℕ))) → IsAllowed None may → may ≡ None
none-allowed may a = grind arith

learnt : (o shown : Option (List ℕ)) (may : Option (List (List ℕ))) → IsAllowed o may → IsAllowed (option_or o shown) may
learnt o shown may a = grind arith

-- what isn't lost in a crash, or isn't marked, is as it was
calm : (safe mark : Bool) (left holds : Option (List ℕ)) → (not safe && mark) ≡ false → (safe ≡ true → mark ≡ false) → (if mark then left else holds) ≡ holds
calm safe mark left holds e clean = grind arith

module _ {flying active : ℕ → Type 0} {wr : ℕ → Option (List ℕ)} {landed : ℕ → Bool} {holds : Option (List ℕ)} {mark alone safe spoiled : Bool}
    {may : Option (List (List ℕ))} (s : Sector flying active wr landed holds mark alone safe spoiled may) where
  -- of the commands that write to the sector no more are under way
  pub weaken : {flying2 active2 : ℕ → Type 0} {wr2 : ℕ → Option (List ℕ)} → ((c : ℕ) (v : List ℕ) → flying2 c → wr2 c ≡ Some v → flying c × (wr c ≡ Some v))
      → ((c : ℕ) (v : List ℕ) → active2 c → wr2 c ≡ Some v → active c × (wr c ≡ Some v)) → Sector flying2 active2 wr2 landed holds mark alone safe spoiled may
  weaken f a = grind arith

  -- the same have landed
  pub landing : {landed2 : ℕ → Bool} → ((c : ℕ) → landed2 c ≡ landed c) → Sector flying active wr landed2 holds mark alone safe spoiled may
  landing l = grind arith

  -- the host's write of v begins, as c
  pub begins : {flying2 active2 : ℕ → Type 0} (c : ℕ) (v : List ℕ) → ((d : ℕ) → active2 d → (d ≡ c) ⊎ active d) → wr c ≡ Some v
      → ((d : ℕ) (w : List ℕ) → flying2 d → wr d ≡ Some w → landed d ≡ false)
      → Sector flying2 active2 wr landed holds mark alone false false (also (Some v) may)
  begins c v a wc l = record {
    lost = grind arith;
    value = λ al. allowed-also holds v may (s.value al);
    own = grind arith;
    mine = λ d w ac wd. elim (a d ac) [ inl e ↦ let same : w ≡ v = cc in rw same (allowed-new v may) | inr o ↦ allowed-also (Some w) v may (s.mine d w o wd) ];
    clean = grind arith;
    still = grind arith;
  }

  -- a write of v was acknowledged, as c
  pub settles : (c : ℕ) (v : List ℕ) → flying c → wr c ≡ Some v → landed c ≡ true → spoiled ≡ false → ((d : ℕ) (w : List ℕ) → active d → wr d ≡ Some w → d ≡ c)
      → Sector flying active wr landed holds mark alone safe spoiled (Some (v ∷ []))
  settles c v fc wc la sp one = grind arith

  -- a flush was acknowledged
  pub flushes : (alone ≡ true → mark ≡ false) → ((d : ℕ) (w : List ℕ) → active d → wr d ≡ Some w → ⊥)
      → Sector flying active wr landed holds mark alone true spoiled may
  flushes m none = grind arith

  -- an arrival stores v, of a frame of the host's where it is one
  pub stores : {landed2 : ℕ → Bool} {its : Bool} {v : List ℕ} → ((d : ℕ) → flying d → active d) → (its ≡ true → Writer active wr v)
      → ((c d : ℕ) (x w : List ℕ) → active c → active d → wr c ≡ Some x → wr d ≡ Some w → c ≡ d)
      → Sector flying active wr landed2 (Some v) true (its && alone) safe spoiled may
  stores {its = its} {v} fa it one = grind (arith, and-parts)

  -- an arrival breaks the sector, by a frame of the host's where it is one
  pub breaks_it : {landed2 : ℕ → Bool} {holds2 : Option (List ℕ)} {its : Bool} {v : List ℕ} → (its ≡ true → Writer active wr v)
      → Sector flying active wr landed2 holds2 true (its && alone) safe true None
  breaks_it {its = its} {v} it = grind (arith, and-parts)

  -- an arrival shows the sector
  pub learns : (shown : Option (List ℕ)) → Sector flying active wr landed (option_or holds shown) mark alone safe spoiled may
  learns shown = grind (arith, learnt)

  -- an arrival syncs the device
  pub syncs : Sector flying active wr landed holds false alone safe spoiled may
  syncs = grind arith

  -- a crash, by the sector's mark and safety
  pub crashes : (left : Option (List ℕ))
      → Sector flying active wr landed (if mark then left else holds) false alone safe ((not safe && mark) || spoiled)
      (if (not safe && mark) then None else may)
  crashes left = grind (arith, calm)
