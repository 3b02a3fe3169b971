-- A crash and a sync of a disk in memory, sector by sector.
use Rattle.std.proofs.Common.{◌≡◌, ◌≢◌, ◌≤◌, ◌<◌, ◌+◌, ◌*◌, ◌==◌, ◌%◌, ◌^◌, ℕ, Bool, true, false, List, ◌++◌, length, take, drop, refl, arith, sym, ◌∙◌, ap, subst, inl, inr, length-append, length-drop}
use Rattle.std.proofs.lemmas.Bool.{cases_eq, both_ways, cond_both, ne_eqb}
use Rattle.std.proofs.lemmas.List.{length-take-le, drop_all, append-nil}
use Rattle.aoe_disk.specs.State.{with_piece, sector, is_loose, spoiled_sector}
use Rattle.aoe_disk.specs.Loss.{mixed, left_of, torn}
use Rattle.aoe_disk.specs.Memory.{AgreesWhereKept}
use Rattle.aoe_disk.specs.declared.loss.Loss.{Loss}
use Rattle.aoe_disk.specs.declared.loss.Loss.TheVariants.{Keep, Old, Torn, Mix}
use Rattle.aoe_disk.proofs.Pieces.{length-with_piece, length-spoiled_sector}
use Rattle.aoe_disk.proofs.Touching.{length-sector, sector-with_sector, sector-with_sector_other, image_same}

-- the image that a crash leaves, as far as sector k
pub record LeftTo (k : ℕ) (how : Loss) (now settled : List ℕ) (loose : List Bool) (image : List ℕ) : Type 0 where
  pub size : length image ≡ length now
  pub kept : (s : ℕ) → is_loose loose s ≡ false → sector image s ≡ sector now s
  pub lost : (s : ℕ) → s < k → is_loose loose s ≡ true → sector image s ≡ left_of how s (sector now s) (sector settled s)
  pub rest : (s : ℕ) → k ≤ s → sector image s ≡ sector now s

pub torn-with_piece : (now settled : List ℕ) → length now ≡ 512 → length settled ≡ 512 → with_piece now 256 (drop 256 settled) ≡ torn now settled
unfolding torn
torn-with_piece now settled en es =
    ap (λ (l : List ℕ). take 256 now ++ drop 256 settled ++ l) (drop_all (256 + length (drop 256 settled)) now (omega (arith, length-drop 256 settled)))
    ∙ append-nil (take 256 now ++ drop 256 settled)

length-torn : (now settled : List ℕ) → length now ≡ 512 → length settled ≡ 512 → length (torn now settled) ≡ 512
unfolding torn
length-torn now settled en es = omega (arith, length-append (take 256 now) (drop 256 settled), length-take-le 256 now (omega arith), length-drop 256 settled)

length-mixed : (choice : ℕ) (now settled : List ℕ) → length now ≡ 512 → length settled ≡ 512 → length (mixed choice now settled) ≡ 512
length-mixed choice now settled en es =
    cond_both (choice == 0) now _ (λ l. length l ≡ 512) (λ _. en)
    (λ _. cond_both (choice == 1) settled _ (λ l. length l ≡ 512) (λ _. es)
    (λ _. cond_both (choice == 2) (torn now settled) spoiled_sector (λ l. length l ≡ 512)
    (λ _. length-torn now settled en es) (λ _. length-spoiled_sector)))

pub mixed_spoils : (choice : ℕ) (now settled : List ℕ) → choice ≢ 0 → choice ≢ 1 → choice ≢ 2 → mixed choice now settled ≡ spoiled_sector
mixed_spoils choice now settled a b c = rw (ne_eqb choice 0 a, ne_eqb choice 1 b, ne_eqb choice 2 c) refl

pub length-left_of : (how : Loss) (s : ℕ) (now settled : List ℕ) → length now ≡ 512 → length settled ≡ 512 → length (left_of how s now settled) ≡ 512
length-left_of Keep s now settled en es = en
length-left_of Old s now settled en es = es
length-left_of Torn s now settled en es = length-torn now settled en es
length-left_of (Mix x) s now settled en es = length-mixed ((x + s) % 2 ^ 64 % 4) now settled en es

-- one sector more, which is loose
pub left_more : (k : ℕ) (how : Loss) (now settled : List ℕ) (loose : List Bool) (image : List ℕ) → 512 * k + 512 ≤ length now → 512 * k + 512 ≤ length settled
    → is_loose loose k ≡ true
    → LeftTo k how now settled loose image → LeftTo (k + 1) how now settled loose
    (with_piece image (512 * k) (left_of how k (sector image k) (sector settled k)))
left_more k how now settled loose image fn fs is left =
    let fits : 512 * k + 512 ≤ length image = omega (arith, left.size) in
    let piece = left_of how k (sector image k) (sector settled k) in
    let size : length piece ≡ 512 = length-left_of how k (sector image k) (sector settled k) (length-sector image k fits) (length-sector settled k fs) in
    record {
      size = length-with_piece image (512 * k) piece (omega (arith, size, fits)) ∙ left.size;
      kept = λ s e. sector-with_sector_other image piece k s size fits (λ same. both_ways (is_loose loose s) e (ap (is_loose loose) same ∙ is)) ∙ left.kept s e;
      lost = λ s l e. elim (cases_eq s k) [
        | inl same ↦ subst (λ t. sector (with_piece image (512 * k) piece) t ≡ left_of how t (sector now t) (sector settled t)) (sym same)
            (sector-with_sector image piece k size fits ∙ ap (λ (x : List ℕ). left_of how k x (sector settled k)) (left.rest k (omega arith)))
        | inr other ↦ sector-with_sector_other image piece k s size fits other ∙ left.lost s (omega arith) e
      ];
      rest = λ s l. sector-with_sector_other image piece k s size fits (λ same. omega (arith, same, l)) ∙ left.rest s (omega arith);
    }

-- one sector more, which isn't loose
pub left_past : (k : ℕ) (how : Loss) (now settled : List ℕ) (loose : List Bool) (image : List ℕ) → is_loose loose k ≡ false
    → LeftTo k how now settled loose image → LeftTo (k + 1) how now settled loose image
left_past k how now settled loose image is left = record {
  size = left.size;
  kept = left.kept;
  lost = λ s l e. elim (cases_eq s k) [
    | inl same ↦ absurd (both_ways (is_loose loose s) (ap (is_loose loose) same ∙ is) e)
    | inr other ↦ left.lost s (omega arith) e
  ];
  rest = λ s l. left.rest s (omega arith);
}

-- the image that a sync settles, as far as sector k
pub record SettledTo (k : ℕ) (now : List ℕ) (loose : List Bool) (settled : List ℕ) : Type 0 where
  pub size : length settled ≡ length now
  pub done : (s : ℕ) → s < k → sector settled s ≡ sector now s
  pub agrees : AgreesWhereKept loose now settled

pub settled_more : (k : ℕ) (now : List ℕ) (loose : List Bool) (settled : List ℕ) → 512 * k + 512 ≤ length now → SettledTo k now loose settled
    → SettledTo (k + 1) now loose (with_piece settled (512 * k) (sector now k))
settled_more k now loose settled fits so =
    let size : length (sector now k) ≡ 512 = length-sector now k fits in
    let fits' : 512 * k + 512 ≤ length settled = omega (arith, so.size) in
    let now_k : sector (with_piece settled (512 * k) (sector now k)) k ≡ sector now k = sector-with_sector settled (sector now k) k size fits' in
    let at_k : (s : ℕ) → s ≡ k → sector (with_piece settled (512 * k) (sector now k)) s ≡ sector now s =
    λ s same. subst (λ t. sector (with_piece settled (512 * k) (sector now k)) t ≡ sector now t) (sym same) now_k in
    record {
      size = length-with_piece settled (512 * k) (sector now k) (omega (arith, size, fits')) ∙ so.size;
      done = λ s l. elim (cases_eq s k) [
        | inl same ↦ at_k s same
        | inr other ↦ sector-with_sector_other settled (sector now k) k s size fits' other ∙ so.done s (omega arith)
      ];
      agrees = λ s e. elim (cases_eq s k) [
        | inl same ↦ at_k s same
        | inr other ↦ sector-with_sector_other settled (sector now k) k s size fits' other ∙ so.agrees s e
      ];
    }

pub settled_past : (k : ℕ) (now : List ℕ) (loose : List Bool) (settled : List ℕ) → is_loose loose k ≡ false → SettledTo k now loose settled
    → SettledTo (k + 1) now loose settled
settled_past k now loose settled is so = record {
  size = so.size;
  done = λ s l. elim (cases_eq s k) [
    | inl same ↦ so.agrees s (ap (is_loose loose) same ∙ is)
    | inr other ↦ so.done s (omega arith)
  ];
  agrees = so.agrees;
}

pub settled_all : (n : ℕ) (now : List ℕ) (loose : List Bool) (settled : List ℕ) → length now ≡ 512 * n → SettledTo n now loose settled → settled ≡ now
settled_all n now loose settled size so = image_same n settled now (so.size ∙ size) size so.done
