-- A request that is taken: as many parts wait as its block was cut into.
use Rattle.std.proofs.Common.{◌≡◌, ◌≤◌, ◌<◌, ◌+◌, ◌*◌, ◌/◌, ◌%◌, ℕ, suc, min, not, length, List, [], ◌∷◌, None, Result, Ok, Err, if◌then◌else◌, arith, refl, sym, ap, ◌∙◌, inl, inr}
use Rattle.std.specs.Prelude.{IfOk}
use Rattle.std.specs.List.{All}
use Rattle.std.proofs.lemmas.Bool.{cases_lt}
use Rattle.std.proofs.lemmas.Grind.{div_ceil_times}
use Rattle.std.proofs.lemmas.List.{length-append}
use Rattle.std.proofs.lemmas.List.Elements.{All-head, All-tail}
use Rattle.std.proofs.lemmas.Nat.{mul-le}
use Rattle.aoe_block.specs.Parts.{joined, AreFull, BlockState, IsCut, Part}
use Rattle.aoe_block.specs.declared.refusal.BlockRefusal.{BlockRefusal}
use Rattle.aoe_desk.specs.declared.flush.Flush.TheVariants.{No, Waiting}
use Rattle.aoe_desk.specs.declared.request.OpenRequest.{OpenRequest}
use Rattle.aoe_desk.specs.Desks.{opened, DeskState, HasRoom, IsKept, IsNew}
use Rattle.aoe_desk.proofs.KeptLemmas.{kept_opened}

-- how many sectors the parts have
abbrev sectors : List Part → ℕ
sectors [] = 0
sectors (p ∷ parts) = p.count + sectors parts

length-joined : (parts : List Part) → All (λ p. length p.bytes ≡ 512 * p.count) parts → length (joined parts) ≡ 512 * sectors parts
length-joined [] whole = refl
length-joined (p ∷ parts) whole =
    let here = All-head (λ (q : Part). length q.bytes ≡ 512 * q.count) p parts whole in
    let rest = length-joined parts (All-tail (λ (q : Part). length q.bytes ≡ 512 * q.count) p parts whole) in
    let both = length-append p.bytes (joined parts) in
    omega (arith, here, rest, both)

full-bounds : (max : ℕ) (parts : List Part) → 0 < max → AreFull max parts
    → (sectors parts ≤ length parts * max) × (length parts * max < sectors parts + max)
full-bounds max [] some full = (omega arith, omega (arith, some))
full-bounds max (p ∷ []) some full = let a = full.0 in let b = full.1 in (omega (arith, b), omega (arith, a))
full-bounds max (p ∷ q ∷ parts) some full =
    let rest = full-bounds max (q ∷ parts) some full.1 in
    let n = length (q ∷ parts) in
    let here = full.0 in
    let low = rest.0 in
    let high = rest.1 in
    let step : suc n * max ≡ max + n * max = omega arith in
    (omega (arith, here, low, step), omega (arith, here, high, step))

no_more : (count max a b : ℕ) → count ≤ a * max → b * max < count + max → b ≤ a
no_more count max a b low high = elim (cases_lt a b) [
  | inl less ↦ absurd (let le = mul-le (suc a) max b max (omega (arith, less)) (omega arith) in
      let step : suc a * max ≡ max + a * max = omega arith in
      omega (arith, low, high, le, step))
  | inr le ↦ le
]

pub parts_counted : (at max count parts : ℕ) (bytes : List ℕ) (cut : List Part) → 0 < max → parts ≡ count / max + min 1 (count % max)
    → length bytes ≡ 512 * count → IsCut at max bytes cut → parts ≡ length cut
parts_counted at max count parts bytes cut some is size c =
    let times = div_ceil_times count max some in
    let low : count ≤ parts * max = rw is times.0 in
    let high : parts * max < count + max = rw is times.1 in
    let bounds = full-bounds max cut some c.full in
    let sum = length-joined cut c.whole in
    let together = ap length c.together in
    let same : sectors cut ≡ count = omega (arith, sum, together, size) in
    let cut_low : count ≤ length cut * max = rw (← same) bounds.0 in
    let cut_high : length cut * max < count + max = rw (← same) bounds.1 in
    let more = no_more count max parts (length cut) low cut_high in
    let less = no_more count max (length cut) parts cut_low high in
    omega (arith, more, less)

pub whole_sectors : (n : ℕ) → n % 512 ≡ 0 → n ≡ 512 * (n / 512)
whole_sectors n whole = omega (arith, whole)

-- the request of a block that was cut
pub admitted : (r : OpenRequest) (at max count : ℕ) (bytes : List ℕ) → 0 < max → r.block.write ≡ not r.reads
    → r.parts ≡ count / max + min 1 (count % max) → r.flush ≡ (if r.lasts then Waiting else No) → r.under_way ≡ 0 → r.last.0 ≡ 0 → r.error ≡ None
    → r.room ≡ 512 * count → length bytes ≡ 512 * count → IsCut at max bytes r.block.parts → IsNew r.handle r.reads r.lasts at max bytes r
admitted r at max count bytes some write parts flush under_way last error room size cut = record {
  handle_is = refl;
  reads_is = refl;
  write_is = write;
  cut = cut;
  parts_is = parts_counted at max count r.parts bytes r.block.parts some parts size cut;
  lasts_is = refl;
  flush_is = flush;
  under_way_is = under_way;
  last_is = last;
  error_is = error;
  room_is = room ∙ sym size;
}

pub kept_admitted : {d : DeskState} {held_open held_replies out room_open room_replies at max : ℕ} {bytes : List ℕ}
    → IsKept d held_open held_replies out room_open room_replies → (r : OpenRequest) (count : ℕ) → HasRoom (512 * count) d → length bytes ≡ 512 * count
    → IsNew r.handle r.reads r.lasts at max bytes r → IsKept (opened r d) (held_open + 512 * count) held_replies out room_open room_replies
kept_admitted s r count room size new = rw (← size) (kept_opened s (rw size room) new)

-- a block as it is taken, from how it was cut
pub cut_of : (block : Result BlockState BlockRefusal) (at max count : ℕ) (bytes : List ℕ) → length bytes ≡ 512 * count
    → IfOk block (λ b. IsCut at max bytes b.parts)
    → IfOk block (λ b. (at : ℕ) × (bytes : List ℕ) × (length bytes ≡ 512 * count) × IsCut at max bytes b.parts)
cut_of (Ok b) at max count bytes size cut = (at, bytes, size, cut)
cut_of (Err e) at max count bytes size cut = tt
