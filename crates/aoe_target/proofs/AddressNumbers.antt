-- Addresses that are compared as two numbers.
use Rattle.std.proofs.Common.{◌≡◌, ◌<◌, ◌^◌, ◌++◌, ◌&&◌, ◌==◌, ℕ, List, length, refl, sym, ap, subst, ◌∙◌}
use Rattle.std.specs.Prelude.{All, slice_range}
use Rattle.std.specs.Int.{w16, w32, from_be_bytes, to_be_bytes}
use Rattle.std.specs.Str.{bytes_eq}
use Rattle.std.proofs.lemmas.Bool.Decides.{same_from_decides, Decides-eqb, Decides-and, Decides-like}
use Rattle.std.proofs.lemmas.Nat.{be_bytes_2, be_bytes_4}
use Rattle.std.proofs.lemmas.Slice.Eq.{bytes_eq-Decides}
use Rattle.aoe_base.proofs.MacLemmas.{six-is}
use Rattle.aoe_frame.proofs.PieceLemmas.{each-small}

abbrev front : List ℕ → List ℕ
front a = slice_range a 0 4

abbrev back : List ℕ → List ℕ
back a = slice_range a 4 6

both_parts : (a : List ℕ) → length a ≡ 6 → a ≡ front a ++ back a
both_parts a six = let P : List ℕ → Type 0 = λ l. l ≡ front l ++ back l in subst P (sym (six-is a six)) refl

-- six bytes are the same where the number of the first four is, and that of the last two
pub numbers_tell : (a b : List ℕ) (x y z w : ℕ) → length a ≡ 6 → length b ≡ 6
    → All (λ b. b < 2 ^ 8) (front a) → All (λ b. b < 2 ^ 8) (front b) → All (λ b. b < 2 ^ 8) (back a) → All (λ b. b < 2 ^ 8) (back b)
    → x ≡ from_be_bytes w32 (front a) → y ≡ from_be_bytes w32 (front b) → z ≡ from_be_bytes w16 (back a) → w ≡ from_be_bytes w16 (back b)
    → ((x == y) && (z == w)) ≡ bytes_eq a b
numbers_tell a b x y z w six six' fa fb ba bb x_is y_is z_is w_is =
    let x_gives = be_bytes_4 (front a) x (ap (λ (l : List ℕ). length (front l)) (six-is a six)) (each-small (front a) fa) x_is in
    let y_gives = be_bytes_4 (front b) y (ap (λ (l : List ℕ). length (front l)) (six-is b six')) (each-small (front b) fb) y_is in
    let z_gives = be_bytes_2 (back a) z (ap (λ (l : List ℕ). length (back l)) (six-is a six)) (each-small (back a) ba) z_is in
    let w_gives = be_bytes_2 (back b) w (ap (λ (l : List ℕ). length (back l)) (six-is b six')) (each-small (back b) bb) w_is in
    let joined : (x ≡ y) × (z ≡ w) → a ≡ b = λ h.
    let fronts : front a ≡ front b = sym x_gives ∙ ap (to_be_bytes w32) h.0 ∙ y_gives in
    let backs : back a ≡ back b = sym z_gives ∙ ap (to_be_bytes w16) h.1 ∙ w_gives in
    both_parts a six ∙ (λ i. fronts i ++ backs i) ∙ sym (both_parts b six') in
    let parted : a ≡ b → (x ≡ y) × (z ≡ w) = λ e. (
      x_is ∙ ap (λ (l : List ℕ). from_be_bytes w32 (front l)) e ∙ sym y_is,
      z_is ∙ ap (λ (l : List ℕ). from_be_bytes w16 (back l)) e ∙ sym w_is,
    ) in
    same_from_decides ((x == y) && (z == w)) (bytes_eq a b)
    (Decides-like ((x == y) && (z == w)) joined parted (Decides-and (x == y) (z == w) (Decides-eqb x y) (Decides-eqb z w)))
    (bytes_eq-Decides a b)
