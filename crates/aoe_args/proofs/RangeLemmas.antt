-- The numbers of a device's name.
use Rattle.std.proofs.Common.{◌≡◌, ◌≤◌, ◌↔◌, ◌&&◌, ℕ, Bool, true, false, cond, length, Option, Some, None, nat_le, nat_lt, refl, arith}
use Rattle.std.specs.Prelude.{IfSome}
use Rattle.std.specs.List.{list_all}
use Rattle.std.specs.Char.{is_ascii_digit}
use Rattle.std.proofs.lemmas.Bool.Decides.{nat_tests}
use Rattle.clap.specs.Words.{Text}
use Rattle.aoe_base.specs.Decimal.{decimal_value, number_of}
use Rattle.aoe_base.specs.Names.{device_of, IsNameOf}
use Rattle.aoe_base.specs.declared.address.TargetId.{TargetId}
use Rattle.aoe_args.specs.Tools.{IsDevice}

-- a number that is read is at most the greatest
at_most : (a b c : Bool) (value most n : ℕ) → cond (a && b && c && nat_le value most) (Some value) None ≡ Some n → n ≤ most
at_most true true true value most n e = go (nat_le value most) refl e
  where
    go : (t : Bool) → nat_le value most ≡ t → cond t (Some value) None ≡ Some n → n ≤ most
    go true test e = let same : value ≡ n = cc in omega (arith, (let le : value ≤ most = grind (arith, nat_tests) in le), same)
    go false test e = cc
at_most true true false value most n e = cc
at_most true false c value most n e = cc
at_most false b c value most n e = cc

number_at_most : (text : Text) (most n : ℕ) → number_of text most ≡ Some n → n ≤ most
number_at_most text most n e = at_most (nat_lt 0 (length text)) (nat_le (length text) 20) (list_all is_ascii_digit text) (decimal_value text) most n e

-- a device that is read is one
pub is_device : (text : Text) → ((id : TargetId) (text : Text) → (device_of text ≡ Some id) ↔ IsNameOf id text) → IfSome (device_of text) IsDevice
is_device text law = go (device_of text) (λ id e. (law id text).0 e)
  where
    go : (o : Option TargetId) → ((id : TargetId) → o ≡ Some id → IsNameOf id text) → IfSome o IsDevice
    go None h = tt
    go (Some id) h =
        let name = h id refl in
        record { shelf = number_at_most name.shelf 65534 id.major name.major; slot = number_at_most name.slot 254 id.minor name.minor }
