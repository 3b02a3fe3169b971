-- What is known of the sectors of a device.
use Rattle.std.specs.Prelude.{ℕ, ◌+◌, ◌-◌, ◌≡◌, ◌<◌, Bool, true, false, ◌&&◌, ◌||◌, ◌==◌, nat_le, nat_lt, List, Option, Some, None, IfSome, if◌then◌else◌, is_some}
use Rattle.std.specs.Option.{option_map, option_or}
use Rattle.aoe_base.specs.declared.sectors.Span.{Span}
use Rattle.aoe_disk.specs.State.{Contents, sector, is_loose, spoiled_sector}

-- what each sector holds where that is known, whether a crash may change it, what it held at the last sync, and
-- whether it is known what a failed call leaves: a failed write spoils its first sector and leaves the others, and
-- a failed sync leaves each mark
pub record Sectors : Type 0 where
  pub known : ℕ → Option (List ℕ)
  pub marks : ℕ → Bool
  pub settled : ℕ → Option (List ℕ)
  pub exact : Bool

-- of a store that tells its contents each sector is known
abbrev pub sectors_of : Contents → Sectors
sectors_of c = record {
  known = λ s. Some (sector c.bytes s);
  marks = λ s. is_loose c.loose s;
  settled = λ s. option_map (λ bytes. sector bytes s) c.settled;
  exact = is_some c.settled;
}

-- sector s is one of the span
abbrev pub in_span : Span → ℕ → Bool
in_span span s = nat_le span.at s && nat_lt s (span.at + span.count)

-- what data for the sectors of a span has for sector s
abbrev pub value_in : Span → List ℕ → ℕ → List ℕ
value_in span bytes s = sector bytes (s - span.at)

-- a write
abbrev pub puts : Span → List ℕ → Sectors → Sectors
puts span bytes k = record k {
  known = λ s. if in_span span s then Some (value_in span bytes s) else k.known s;
  marks = λ s. in_span span s || k.marks s;
}

-- what a failed write leaves in a sector of its span
abbrev pub left_by_fault : Bool → Bool → Option (List ℕ) → Option (List ℕ)
left_by_fault true true before = Some spoiled_sector
left_by_fault true false before = before
left_by_fault false is_first before = None

-- a failed write
abbrev pub spoils : Span → Sectors → Sectors
spoils span k = record k {
  known = λ s. if in_span span s then left_by_fault k.exact (s == span.at) (k.known s) else k.known s;
  marks = λ s. in_span span s || k.marks s;
}

-- a read, which makes known what wasn't
abbrev pub learns : Span → List ℕ → Sectors → Sectors
learns span bytes k = record k {
  known = λ s. option_or (k.known s) (if in_span span s then Some (value_in span bytes s) else None);
}

-- a sync
abbrev pub settles : Sectors → Sectors
settles k = record k { marks = λ s. false; settled = k.known }

-- data that was read for the sectors of a span has the value of each that is known
abbrev pub Tells : Span → List ℕ → Sectors → Type 0
Tells span bytes k = (i : ℕ) → i < span.count → IfSome (k.known (span.at + i)) (λ v. sector bytes i ≡ v)

-- both say the same of each sector
pub record Same (a b : Sectors) : Type 0 where
  pub known : (s : ℕ) → a.known s ≡ b.known s
  pub marks : (s : ℕ) → a.marks s ≡ b.marks s
  pub settled : (s : ℕ) → a.settled s ≡ b.settled s
  pub exact : a.exact ≡ b.exact

-- a has each value that b knows, and each of its marks is one of b; and they are the same where b knows what failed calls leave
pub record Agrees (a b : Sectors) : Type 0 where
  pub known : (s : ℕ) → IfSome (b.known s) (λ v. a.known s ≡ Some v)
  pub marks : (s : ℕ) → b.marks s ≡ false → a.marks s ≡ false
  pub exact : b.exact ≡ true → Same a b
