-- Syncs of the sides, sector by sector.
use Rattle.std.proofs.Common.{◌≡◌, ◌<◌, ◌⊎◌, ◌||◌, ◌&&◌, ℕ, Bool, true, false, not, None, List, length, replicate, Ok, Err, is_err, if◌then◌else◌, refl, sym, ap, ◌∙◌, inl, inr, arith, ext_get_or}
use Rattle.std.proofs.lemmas.Bool.{both_ways, cases_Bool, cases_lt}
use Rattle.std.proofs.lemmas.List.{get_or_past, length-replicate, get_or-replicate}
use Rattle.aoe_disk.specs.State.{Contents, is_loose, sector}
use Rattle.aoe_disk.specs.Calls.{Settles, MaySettle, Syncs}
use Rattle.aoe_disk.specs.Sectors.{Calms}
use Rattle.aoe_disk.proofs.Pieces.{is_loose-replicate}
use Rattle.aoe_disk.proofs.Touching.{may_settle_calm, settles_calm}
use Rattle.aoe_mirror.specs.Sides.{Agree, is_loose_in, seen}
use Rattle.aoe_mirror.specs.Calls.{Answer}
use Rattle.aoe_mirror.proofs.Whole.{Fit, length-loose_of, loose_at, seen_at}

-- a sync by its answer

pub calm_by : (r : Answer) (a b : Contents) → Syncs r a b → Calms a b
calm_by (Ok v) a b s = settles_calm a b s
calm_by (Err e) a b s = may_settle_calm a b s

pub settled_by : (r : Answer) (a b : Contents) → is_err r ≡ false → Syncs r a b → Settles a b
settled_by (Ok v) a b ok s = s
settled_by (Err e) a b ok s = cc

pub calm_then : (a b c : Contents) → Calms a b → Calms b c → Calms a c
calm_then a b c t u = record { bytes = u.bytes ∙ t.bytes; marks = u.marks ∙ t.marks; kept = λ s e. u.kept s (t.kept s e) }

-- what a store tells that tells no settled bytes

pub calm_may : (a b : Contents) → a.settled ≡ None → b.settled ≡ None → Calms a b → MaySettle a b
calm_may a b na nb t = record {
  bytes = t.bytes;
  marks = t.marks;
  fewer = t.kept;
  settled = nb ∙ sym na;
  exact = λ some. let no : false ≡ true = rw na at some in cc;
}

pub none_loose : (marks : List Bool) (n : ℕ) → length marks ≡ n → ((s : ℕ) → is_loose marks s ≡ false) → marks ≡ replicate n false
none_loose marks n size clear = ext_get_or false marks (replicate n false) (size ∙ sym (length-replicate n false))
    (λ s _. clear s ∙ sym (is_loose-replicate n s))

pub calm_settles : (a b : Contents) → a.settled ≡ None → b.settled ≡ None → Calms a b → ((s : ℕ) → is_loose b.loose s ≡ false) → Settles a b
calm_settles a b na nb t clear = record { bytes = t.bytes; loose = none_loose b.loose (length a.loose) t.marks clear; settled = rw (na, nb) tt }

-- MORE IS STALE

-- whatever was stale is
pub record Grows (old new : List Bool) : Type 0 where
  pub size : length new ≡ length old
  pub more : (s : ℕ) → is_loose new s ≡ false → is_loose old s ≡ false

pub grows_refl : (stale : List Bool) → Grows stale stale
grows_refl stale = record { size = refl; more = λ s e. e }

pub grows_all : (stale : List Bool) → Grows stale (replicate (length stale) true)
grows_all stale = record {
  size = length-replicate (length stale) true;
  more = λ s off. elim (cases_lt s (length stale)) [
    | inl within ↦ absurd (both_ways _ off (get_or-replicate (length stale) s true false within))
    | inr past ↦ get_or_past stale s false past
  ];
}

pub grows_if : (b : Bool) (stale : List Bool) → Grows stale (if b then replicate (length stale) true else stale)
grows_if true stale = grows_all stale
grows_if false stale = grows_refl stale

-- TWO SIDES THAT ARE CALM

pub parts_in : (x y z : Bool) → (x || (y && not z)) ≡ false → (x ≡ false) × ((y ≡ false) ⊎ (z ≡ true))
parts_in false false z e = (refl, inl refl)
parts_in false true true e = (refl, inr refl)
parts_in false true false e = cc
parts_in true y z e = cc

pub in_from : (x y z : Bool) → x ≡ false → (y ≡ false) ⊎ (z ≡ true) → (x || (y && not z)) ≡ false
in_from x y z l f = elim f [
  | inl off ↦ rw (l, off) refl
  | inr on ↦ rw (l, on) (flat y)
]
  where
    flat : (b : Bool) → (false || (b && false)) ≡ false
    flat true = refl
    flat false = refl

module _ (sectors : ℕ) (stale stale' : List Bool) (p q : Contents × Contents) (fit : Fit sectors stale p) (lead : Calms p.0 q.0) (follower : Calms p.1 q.1)
    (grows : Grows stale stale') where
  lead_size : length q.0.loose ≡ length stale'
  lead_size = lead.marks ∙ fit.lead.marks ∙ sym (grows.size ∙ fit.marks)

  follower_size : length q.1.loose ≡ length stale'
  follower_size = follower.marks ∙ fit.follower.marks ∙ sym (grows.size ∙ fit.marks)

  still_stale : (s : ℕ) → is_loose stale s ≡ true → is_loose stale' s ≡ true
  still_stale s on = elim (cases_Bool (is_loose stale' s)) [
    | inl is ↦ is
    | inr off ↦ absurd (both_ways _ (grows.more s off) on)
  ]

  pub seen_now : (s : ℕ) → is_loose (seen stale' q).loose s ≡ is_loose_in stale' q.0.loose q.1.loose s
  seen_now s = loose_at stale' q.0.loose q.1.loose s lead_size follower_size

  pub seen_calm : Calms (seen stale p) (seen stale' q)
  seen_calm = record {
    bytes = lead.bytes;
    marks = length-loose_of stale' q.0.loose q.1.loose ∙ grows.size ∙ sym (length-loose_of stale p.0.loose p.1.loose);
    kept = λ s off.
        let was = parts_in (is_loose p.0.loose s) (is_loose p.1.loose s) (is_loose stale s) (sym (seen_at sectors stale p s fit) ∙ off) in
        seen_now s ∙ in_from (is_loose q.0.loose s) (is_loose q.1.loose s) (is_loose stale' s) (lead.kept s was.0) (elim was.1 [
          | inl quiet ↦ inl (follower.kept s quiet)
          | inr on ↦ inr (still_stale s on)
        ]);
  }

  pub agree_calm : (settled : Bool) → settled ≡ true → Agree settled stale p → Agree settled stale' q
  agree_calm settled is agree = record {
    same = λ s off. ap (λ (b : List ℕ). sector b s) follower.bytes ∙ agree.same s (grows.more s off) ∙ sym (ap (λ (b : List ℕ). sector b s) lead.bytes);
    unsettled = λ isnt s on. absurd (both_ways settled isnt is);
  }

-- nothing is loose where both sides are quiet, or the follower is stale
pub none_seen : (sectors : ℕ) (stale' : List Bool) (q : Contents × Contents) → length q.0.loose ≡ length stale' → length q.1.loose ≡ length stale'
    → ((s : ℕ) → is_loose q.0.loose s ≡ false)
    → ((s : ℕ) → s < length stale' → (is_loose q.1.loose s ≡ false) ⊎ (is_loose stale' s ≡ true)) → (s : ℕ) → is_loose (seen stale' q).loose s ≡ false
none_seen sectors stale' q l f lead follower s = loose_at stale' q.0.loose q.1.loose s l f
    ∙ in_from (is_loose q.0.loose s) (is_loose q.1.loose s) (is_loose stale' s) (lead s) (elim (cases_lt s (length stale')) [
      | inl within ↦ follower s within
      | inr past ↦ inl (get_or_past q.1.loose s false (omega arith))
    ])
