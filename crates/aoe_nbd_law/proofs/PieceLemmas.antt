-- Lists of which each element is such, and the pieces of joined bytes.
use Rattle.std.proofs.Common.{ℕ, zero, suc, ◌≡◌, List, [], ◌∷◌, ◌++◌, drop, Some, refl, arith, inl, inr, Contains}
use Rattle.std.specs.Prelude.{slice_get}
use Rattle.std.specs.List.{remove, All}
use Rattle.std.proofs.lemmas.Option.{get_or_from_slice_get}
use Rattle.aoe_desk.specs.Desks.{change_at}
use Rattle.aoe_initiator.proofs.ListLemmas.{get-within, Contains-cons_cases}

abbrev pub Each : {A : Type 0} → (A → Type 0) → List A → Type 0
Each P [] = Unit {0}
Each P (x ∷ xs) = P x × Each P xs

pub each-map : {A : Type 0} (P Q : A → Type 0) → ((x : A) → P x → Q x) → (xs : List A) → Each P xs → Each Q xs
each-map P Q f [] all = tt
each-map P Q f (x ∷ xs) all = (f x all.0, each-map P Q f xs all.1)

pub each-push : {A : Type 0} (P : A → Type 0) (xs : List A) (x : A) → Each P xs → P x → Each P (xs ++ x ∷ [])
each-push P [] x all own = (own, tt)
each-push P (y ∷ xs) x all own = (all.0, each-push P xs x all.1 own)

each-drop : {A : Type 0} (P : A → Type 0) (xs : List A) (k : ℕ) → Each P xs → Each P (drop k xs)
each-drop P xs zero all = all
each-drop P [] (suc k) all = tt
each-drop P (x ∷ xs) (suc k) all = each-drop P xs k all.1

pub each-rest : {A : Type 0} (P : A → Type 0) (xs : List A) → Each P xs → Each P (drop 1 xs)
each-rest P xs all = each-drop P xs 1 all

pub each-remove : {A : Type 0} (P : A → Type 0) (xs : List A) (k : ℕ) → Each P xs → Each P (remove xs k)
each-remove P [] zero all = tt
each-remove P [] (suc k) all = tt
each-remove P (x ∷ xs) zero all = all.1
each-remove P (x ∷ xs) (suc k) all = (all.0, each-remove P xs k all.1)

pub each-change : {A : Type 0} (P Q : A → Type 0) (xs : List A) (k : ℕ) (f : A → A) → ((x : A) → P x → Q x)
    → ((x : A) → slice_get xs k ≡ Some x → P x → Q (f x)) → Each P xs → Each Q (change_at k f xs)
each-change P Q [] k f others own all = tt
each-change P Q (x ∷ xs) zero f others own all = (own x refl all.0, each-map P Q others xs all.1)
each-change P Q (x ∷ xs) (suc k) f others own all = (others x all.0, each-change P Q xs k f others own all.1)

pub change-get : {A : Type 0} (xs : List A) (k : ℕ) (f : A → A) (y : A) → slice_get (change_at k f xs) k ≡ Some y → (x : A) × (slice_get xs k ≡ Some x) × (f x ≡ y)
change-get [] k f y is = absurd (cc)
change-get (x ∷ xs) zero f y is = (x, refl, cc)
change-get (x ∷ xs) (suc k) f y is = change-get xs k f y is

pub each-get : {A : Type 0} (P : A → Type 0) (xs : List A) (k : ℕ) (x : A) → slice_get xs k ≡ Some x → Each P xs → P x
each-get P [] k x is all = absurd (cc)
each-get P (y ∷ xs) zero x is all = (let same : y ≡ x = cc in rw (← same) all.0)
each-get P (y ∷ xs) (suc k) x is all = each-get P xs k x is all.1

pub each-there : {A : Type 0} (P : A → Type 0) (xs : List A) (x : A) → Contains xs x → Each P xs → P x
each-there P [] x there all = absurd (omega (arith, there.1))
each-there P (y ∷ xs) x there all = elim (Contains-cons_cases y x xs there) [
  | inl same ↦ rw (← same) all.0
  | inr behind ↦ each-there P xs x behind all.1
]

pub all-get : {A : Type 0} (P : A → Type 0) (xs : List A) (k : ℕ) (x : A) → slice_get xs k ≡ Some x → All P xs → P x
all-get P xs k x is all = rw (get_or_from_slice_get xs k x x is) at (all k x (get-within xs k x is))
