-- The data of INFO and GO is read as what it spells.
use Rattle.std.proofs.Common.{◌≡◌, ℕ, ◌+◌, ◌-◌, ◌*◌, ◌^◌, ◌<◌, List, [], ◌∷◌, ◌++◌, append_assoc, length, length-append, take, drop, Some, true, refl, ap, ◌∙◌, arith}
use Rattle.std.specs.Prelude.{nat_le, ◌==◌, slice_range}
use Rattle.std.specs.Int.{w16, w32, to_be_bytes, from_be_bytes}
use Rattle.std.specs.List.{flat_map}
use Rattle.std.proofs.lemmas.Bool.{eq-eqb, le-leb}
use Rattle.std.proofs.lemmas.List.{take_at, drop_at}
use Rattle.std.proofs.lemmas.Nat.{from_be_bytes-to_be_bytes_2, from_be_bytes-to_be_bytes_4}
use Rattle.aoe_nbd.specs.Options.{info_data, name_len}

length-infos : (infos : List ℕ) → length (flat_map (to_be_bytes w16) infos) ≡ 2 * length infos
length-infos [] = refl
length-infos (i ∷ infos) = let rest = length-infos infos in omega (arith, rest)

abbrev front : List ℕ → List ℕ
front name = to_be_bytes w32 (length name) ++ name

abbrev back : List ℕ → List ℕ
back infos = to_be_bytes w16 (length infos) ++ flat_map (to_be_bytes w16) infos

split : (name infos : List ℕ) → info_data name infos ≡ front name ++ back infos
split name infos = append_assoc (front name) (to_be_bytes w16 (length infos)) (flat_map (to_be_bytes w16) infos)

long : (name infos : List ℕ) → length (info_data name infos) ≡ length name + 6 + 2 * length infos
long name infos = omega (arith, ap length (split name infos), length-append (front name) (back infos), length-infos infos)

count-is : (name infos : List ℕ) → length infos < 2 ^ 16 → from_be_bytes w16 (slice_range (info_data name infos) (length name + 4) (length name + 6)) ≡ length infos
count-is name infos small =
    let size : length name + 6 - (length name + 4) ≡ 2 = omega arith in
    let at : length (front name) ≡ length name + 4 = omega arith in
    let behind : drop (length name + 4) (info_data name infos) ≡ back infos =
    ap (drop (length name + 4)) (split name infos) ∙ drop_at (front name) (back infos) (length name + 4) at in
    ap (λ k. from_be_bytes w16 (take k (drop (length name + 4) (info_data name infos)))) size
    ∙ ap (λ f. from_be_bytes w16 (take 2 f)) behind ∙ from_be_bytes-to_be_bytes_2 (length infos) small

pub name-back : (name infos : List ℕ) → length name < 2 ^ 32 → length infos < 2 ^ 16 → name_len (info_data name infos) ≡ Some (length name)
name-back name infos small few =
    let n = from_be_bytes-to_be_bytes_4 (length name) small in
    let all = long name infos in
    let count = count-is name infos few in
    let four : nat_le 4 (length (info_data name infos)) ≡ true = le-leb 4 (length (info_data name infos)) (omega (arith, all)) in
    let six : nat_le (length name + 6) (length (info_data name infos)) ≡ true = le-leb (length name + 6) (length (info_data name infos)) (omega (arith, all)) in
    let whole : (length (info_data name infos) == length name + 6 + 2 * length infos) ≡ true = eq-eqb (length (info_data name infos)) (length name + 6 + 2 * length infos) all in
    rw (n, count, four, six, whole) refl

pub name-is : (name infos : List ℕ) → slice_range (info_data name infos) 4 (length name + 4) ≡ name
name-is name infos =
    let size : length name + 4 - 4 ≡ length name = omega arith in
    ap (λ k. take k (drop 4 (info_data name infos))) size
    ∙ ap (λ f. take (length name) (drop 4 f)) (split name infos) ∙ take_at name (back infos) (length name) refl
