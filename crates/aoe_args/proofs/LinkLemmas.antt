-- The two ends of `live`, from the values of its options.
use Rattle.std.proofs.Common.{ℕ, ◌≡◌, List, Option, Some, codes, refl, sym}
use Rattle.clap.specs.Words.{Row, Text, first_of}
use Rattle.aoe_args.specs.Values.{ends_of, two_ends, vxlan_of}

pub ends_read : (rows : List Row) (vxlan : Option ℕ) (one two one_tap two_tap : Option Text) → Some vxlan ≡ vxlan_of rows
    → one ≡ first_of (codes "one") rows → two ≡ first_of (codes "two") rows → one_tap ≡ first_of (codes "one-tap") rows
    → two_tap ≡ first_of (codes "two-tap") rows → ends_of vxlan one two one_tap two_tap ≡ two_ends rows
unfolding two_ends
ends_read rows vxlan one two one_tap two_tap v e1 e2 e3 e4 = rw (sym v, e1, e2, e3, e4) refl
