-- A change is one to other settings.
use Rattle.std.proofs.Common.{◌≡◌, ◌≢◌, ◌&&◌, cond, ℕ, Bool, true, false, List, refl, sym, ap, subst, ◌∙◌}
use Rattle.std.proofs.Math.Bool.{and-true, beq}
use Rattle.std.specs.Cmp.{booleans_Decides}
use Rattle.std.specs.Str.{bytes_eq}
use Rattle.std.specs.Cmp.Lexicographic.{pointwise}
use Rattle.std.specs.Bool.{Decides}
use Rattle.std.proofs.lemmas.Bool.Decides.{Decides-and}
use Rattle.std.proofs.lemmas.Slice.Eq.{bytes_eq-Decides, slice_eq-Decides}
use Rattle.aoe_base.specs.declared.address.Mac.{Mac}
use Rattle.aoe_base.specs.Addresses.{same_address}
use Rattle.aoe_lists.specs.Settings.{Settings, same_settings}
use Rattle.aoe_lists.specs.Step.{Change, IfChange, reply_of, success_of}
use Rattle.aoe_base.proofs.AddressLemmas.{same_address-Decides}

same_addresses-refl : (list : List Mac) → pointwise same_address list list ≡ true
same_addresses-refl list = (slice_eq-Decides same_address-Decides list list (pointwise same_address list list) refl).1 refl

same_bytes-refl : (bytes : List ℕ) → bytes_eq bytes bytes ≡ true
same_bytes-refl bytes = (bytes_eq-Decides bytes bytes).1 refl

same_mark-refl : (t : Bool) → beq t t ≡ true
same_mark-refl true = refl
same_mark-refl false = refl

same_settings-refl : (s : Settings) → same_settings s s ≡ true
same_settings-refl s = rw (same_bytes-refl s.config, same_addresses-refl s.masks, same_addresses-refl s.reserves, same_mark-refl s.read_only) refl

true_or_false : true ≡ false → ⊥
true_or_false e = (cc)

-- settings of which one part is another are the same exactly where that part is
pub same_settings-config : (s : Settings) (config : List ℕ) → same_settings (record s { config = config }) s ≡ bytes_eq config s.config
same_settings-config s config =
    rw (same_addresses-refl s.masks, same_addresses-refl s.reserves, same_mark-refl s.read_only)
    (and-true (bytes_eq config s.config && true && true) ∙ and-true (bytes_eq config s.config && true) ∙ and-true (bytes_eq config s.config))

pub same_settings-masks : (s : Settings) (masks : List Mac) → same_settings (record s { masks = masks }) s ≡ pointwise same_address masks s.masks
same_settings-masks s masks =
    rw (same_bytes-refl s.config, same_addresses-refl s.reserves, same_mark-refl s.read_only)
    (and-true (pointwise same_address masks s.masks && true) ∙ and-true (pointwise same_address masks s.masks))

pub same_settings-reserves : (s : Settings) (reserves : List Mac) → same_settings (record s { reserves = reserves }) s
    ≡ pointwise same_address reserves s.reserves
same_settings-reserves s reserves =
    rw (same_bytes-refl s.config, same_addresses-refl s.masks, same_mark-refl s.read_only) (and-true (pointwise same_address reserves s.reserves))

pub IfChange-success_of : (old next : Settings) (args : List ℕ) → IfChange (success_of old next args) (λ n. n ≢ old)
IfChange-success_of old next args =
    at (same_settings next old) (λ e same. let P : Settings → Type 0 = λ s. same_settings s old ≡ false in
    true_or_false (sym (same_settings-refl old) ∙ subst P same e))
  where
    at : (t : Bool) → (t ≡ false → next ≢ old) → IfChange (cond t (reply_of args) (Change next args)) (λ n. n ≢ old)
    at true others = tt
    at false others = others refl

pub success_of-same : (old next : Settings) (args : List ℕ) → same_settings next old ≡ true → success_of old next args ≡ reply_of args
success_of-same old next args e = rw e refl

pub success_of-other : (old next : Settings) (args : List ℕ) → same_settings next old ≡ false → success_of old next args ≡ Change next args
success_of-other old next args e = rw e refl

same_addresses-Decides : (xs ys : List Mac) → Decides (pointwise same_address xs ys) (xs ≡ ys)
same_addresses-Decides xs ys = slice_eq-Decides same_address-Decides xs ys (pointwise same_address xs ys) refl

same_parts : (a b : Settings) → a.config ≡ b.config → a.masks ≡ b.masks → a.reserves ≡ b.reserves → a.read_only ≡ b.read_only → a ≡ b
same_parts a b config masks reserves mark = λ i. record { config = config i; masks = masks i; reserves = reserves i; read_only = mark i }

pub same_settings-Decides : (a b : Settings) → Decides (same_settings a b) (a ≡ b)
same_settings-Decides a b =
    let config = bytes_eq a.config b.config in
    let masks = pointwise same_address a.masks b.masks in
    let reserves = pointwise same_address a.reserves b.reserves in
    let two = Decides-and config masks (bytes_eq-Decides a.config b.config) (same_addresses-Decides a.masks b.masks) in
    let three = Decides-and (config && masks) reserves two (same_addresses-Decides a.reserves b.reserves) in
    let parts = Decides-and (config && masks && reserves) (beq a.read_only b.read_only) three (booleans_Decides a.read_only b.read_only) in (
      (λ e. let p = parts.0 e in same_parts a b p.0.0.0 p.0.0.1 p.0.1 p.1),
      (λ e. parts.1 (
        ((ap (λ (s : Settings). s.config) e, ap (λ (s : Settings). s.masks) e), ap (λ (s : Settings). s.reserves) e),
        ap (λ (s : Settings). s.read_only) e,
      )),
    )
