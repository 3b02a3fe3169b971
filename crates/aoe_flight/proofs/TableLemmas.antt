-- What the orders of the commands say of them.
use Rattle.std.proofs.Common.{ℕ, ◌≡◌, ◌≢◌, ◌<◌, ◌≤◌, not, Bool, true, false, List, Some, None, refl, sym, ap, ◌∙◌, arith, nat_eq, if◌then◌else◌}
use Rattle.std.specs.Prelude.{slice_get, slice_index_or, All, Contains}
use Rattle.std.specs.List.{find}
use Rattle.std.proofs.lemmas.Bool.{eq-eqb, false_from_ne_true, ne_eqb, true≢false}
use Rattle.std.proofs.lemmas.Bool.Decides.{nat_tests}
use Rattle.slab.specs.Slab.{get, values, Slab}
use Rattle.aoe_flight.specs.declared.order.Entry.{Entry}
use Rattle.aoe_flight.specs.declared.outstanding.Outstanding.{Outstanding}
use Rattle.aoe_sorted.specs.Order.{before, AreInOrder}
use Rattle.aoe_sorted.proofs.RankLemmas.{head-least}
use Rattle.aoe_flight.specs.Order.{entry_at, rank_of}
use Rattle.aoe_flight.specs.Outstanding.{flies_as, flies_with, is_due, is_expired, is_older, is_over, is_taken, precedes, IsFirst}
use Rattle.aoe_flight.specs.Table.{by_due, by_first, by_tag, by_ticket, each, flies, rests, IsFirstSlot, IsOrderOf}
use Rattle.aoe_flight.proofs.EntryLemmas.{at-least, head-there, none-there}
use Rattle.aoe_flight.proofs.IndexLemmas.{command-of, entry-of, same-command}
use Rattle.aoe_flight.proofs.ValueLemmas.{all-held, any-held, find-at, find-none, held-at, none-held}

by-number : (ticket k : ℕ) (d : Outstanding) → flies_as ticket d ≡ true → by_ticket k d ≡ entry_at ticket k
by-number ticket k d passes = grind (arith, nat_tests)

flies-ticket : (ticket : ℕ) (d : Outstanding) → flies_as ticket d ≡ true → flies d ≡ true
flies-ticket ticket d passes = grind arith

pub no-slot : (slab : Slab Outstanding) (entries : List Entry) (ticket k : ℕ) (d : Outstanding) → IsOrderOf slab flies by_ticket entries
    → ¬ (Contains entries (entry_at ticket k)) → get slab k ≡ Some d → flies_as ticket d ≡ false
no-slot slab entries ticket k d o out at = false_from_ne_true _ (λ passes.
    out (rw (← by-number ticket k d passes) (entry-of o k d at (flies-ticket ticket d passes))))

pub first-slot : (slab : Slab Outstanding) (entries : List Entry) (ticket from slot : ℕ) (c : Outstanding) → IsOrderOf slab flies by_ticket entries
    → Contains entries (entry_at ticket slot) → from ≤ slot
    → ((k : ℕ) → from ≤ k → k < slot → ¬ (Contains entries (entry_at ticket k))) → get slab slot ≡ Some c → IsFirstSlot (flies_as ticket) slab from slot c
first-slot slab entries ticket from slot c o there behind first at =
    let held = command-of o (entry_at ticket slot) there in
    let one : held.command ≡ c = same-command slab slot held.command c held.there at in
    let flying : not c.finished ≡ true = ap flies (sym one) ∙ held.passes in
    let number : c.ticket.0 ≡ ticket = ap (λ (d : Outstanding). d.ticket.0) (sym one) ∙ sym (ap (λ (e : Entry). e.at) held.is) in
    record {
      there = at;
      passes = rw (flying, eq-eqb c.ticket.0 ticket number) refl;
      behind = behind;
      first = λ k d from_k below at_k. no-slot slab entries ticket k d o (first k from_k below) at_k;
    }

pub slot-held : {slab : Slab Outstanding} {test : Outstanding → Bool} {entry : ℕ → Outstanding → Entry} {entries : List Entry} (e : Entry)
    → IsOrderOf slab test entry entries → Contains entries e → get slab e.slot ≢ None
slot-held e o there none = let held = command-of o e there in let both : Some held.command ≡ None = sym held.there ∙ none in absurd cc

pub head-held : {slab : Slab Outstanding} {test : Outstanding → Bool} {entry : ℕ → Outstanding → Entry} {entries : List Entry} (e : Entry)
    → IsOrderOf slab test entry entries → slice_get entries 0 ≡ Some e → get slab e.slot ≢ None
head-held {entries = entries} e o head = slot-held e o (head-there entries e head)

-- the flying command with a ticket, by its slot
pub ticket-found : (slab : Slab Outstanding) (ticket slot : ℕ) (c : Outstanding) → IsFirstSlot (flies_as ticket) slab 0 slot c
    → Some c ≡ find (flies_as ticket) (values slab)
ticket-found slab ticket slot c first =
    sym (find-at (flies_as ticket) slab.slots slot c first.there first.passes (λ j d below at. first.first j d (omega arith) below at))

pub ticket-none : (slab : Slab Outstanding) (ticket : ℕ) → ((k : ℕ) (c : Outstanding) → 0 ≤ k → get slab k ≡ Some c → flies_as ticket c ≡ false)
    → None ≡ find (flies_as ticket) (values slab)
ticket-none slab ticket none = sym (find-none (flies_as ticket) slab.slots (λ k c at. none k c (omega arith) at))

by-tagged : (tag k : ℕ) (d : Outstanding) → flies_with tag d ≡ true → by_tag k d ≡ entry_at tag k
by-tagged tag k d passes = grind (arith, nat_tests)

no-tagged : (slab : Slab Outstanding) (entries : List Entry) (tag k : ℕ) (d : Outstanding) → IsOrderOf slab each by_tag entries
    → ¬ (Contains entries (entry_at tag k)) → get slab k ≡ Some d → flies_with tag d ≡ false
no-tagged slab entries tag k d o out at = false_from_ne_true _ (λ passes. out (rw (← by-tagged tag k d passes) (entry-of o k d at refl)))

no-tie : (b : Bool) → ◌≡◌ {A = ℕ} 0 (if b then 1 else 0) → not b ≡ true
no-tie b is = grind arith

pub tag-found : (slab : Slab Outstanding) (entries : List Entry) (tag slot : ℕ) (c : Outstanding) → IsOrderOf slab each by_tag entries
    → Contains entries (entry_at tag slot)
    → ((k : ℕ) → 0 ≤ k → k < slot → ¬ (Contains entries (entry_at tag k))) → get slab slot ≡ Some c → Some c ≡ find (flies_with tag) (values slab)
tag-found slab entries tag slot c o there first at =
    let held = command-of o (entry_at tag slot) there in
    let one : held.command ≡ c = same-command slab slot held.command c held.there at in
    let is : entry_at tag slot ≡ by_tag slot c = held.is ∙ ap (by_tag slot) one in
    let flying : not c.finished ≡ true = no-tie c.finished (ap (λ (e : Entry). e.tie) is) in
    let number : c.flying.tag ≡ tag = sym (ap (λ (e : Entry). e.at) is) in
    sym (find-at (flies_with tag) slab.slots slot c at (rw (flying, eq-eqb c.flying.tag tag number) refl)
    (λ j d below at_j. no-tagged slab entries tag j d o (first j (omega arith) below) at_j))

pub tag-none : (slab : Slab Outstanding) (entries : List Entry) (tag : ℕ) → IsOrderOf slab each by_tag entries
    → ((k : ℕ) → 0 ≤ k → ¬ (Contains entries (entry_at tag k))) → None ≡ find (flies_with tag) (values slab)
tag-none slab entries tag o none = sym (find-none (flies_with tag) slab.slots (λ k d at. no-tagged slab entries tag k d o (none k (omega arith)) at))

taken-found : (slab : Slab Outstanding) (entries : List Entry) (tag : ℕ) (e : Entry) → IsOrderOf slab each by_tag entries
    → Contains entries e → e.at ≡ tag → true ≡ is_taken (values slab) tag
taken-found slab entries tag e o there at =
    let held = command-of o e there in
    let number : held.command.flying.tag ≡ tag = sym (ap (λ (f : Entry). f.at) held.is) ∙ at in
    sym (any-held (λ d. nat_eq d.flying.tag tag) slab.slots e.slot held.command held.there (eq-eqb held.command.flying.tag tag number))

taken-none : (slab : Slab Outstanding) (entries : List Entry) (tag : ℕ) → IsOrderOf slab each by_tag entries
    → ((e : Entry) → Contains entries e → e.at ≢ tag) → false ≡ is_taken (values slab) tag
taken-none slab entries tag o none = sym (none-held (λ d. nat_eq d.flying.tag tag) slab.slots (λ k d at.
    ne_eqb _ _ (none (by_tag k d) (entry-of o k d at refl))))

pub taken-is : (slab : Slab Outstanding) (entries : List Entry) (tag : ℕ) (b : Bool) → IsOrderOf slab each by_tag entries
    → (b ≡ true → (e : Entry) × Contains entries e × (e.at ≡ tag)) → (b ≡ false → (e : Entry) → Contains entries e → e.at ≢ tag)
    → b ≡ is_taken (values slab) tag
taken-is slab entries tag true o some none = let found = some refl in taken-found slab entries tag found.0 o found.1 found.2
taken-is slab entries tag false o some none = taken-none slab entries tag o (none refl)

-- where none passes, for want of an entry
pub none-pass : {slab : Slab Outstanding} {test : Outstanding → Bool} {entry : ℕ → Outstanding → Entry} {entries : List Entry} (passes : Outstanding → Bool)
    → ((c : Outstanding) → passes c ≡ true → test c ≡ true) → IsOrderOf slab test entry entries → slice_get entries 0 ≡ None
    → All (λ c. passes c ≡ false) (values slab)
none-pass {slab} {test} {entry} {entries} passes wider o none = all-held (λ c. passes c ≡ false) slab.slots (λ k c at.
    false_from_ne_true _ (λ is. none-there entries (entry k c) none (entry-of o k c at (wider c is))))

-- the command of the first entry
head-of : (slab : Slab Outstanding) (test : Outstanding → Bool) (entry : ℕ → Outstanding → Entry) (entries : List Entry) (e : Entry) (c : Outstanding)
    → IsOrderOf slab test entry entries → slice_get entries 0 ≡ Some e → get slab e.slot ≡ Some c → (e ≡ entry e.slot c) × (test c ≡ true)
head-of slab test entry entries e c o head at =
    let held = command-of o e (head-there entries e head) in
    let one : held.command ≡ c = same-command slab e.slot held.command c held.there at in
    (held.is ∙ ap (entry e.slot) one, ap test (sym one) ∙ held.passes)

-- where the first of an order doesn't pass, none passes
pub none-past : {slab : Slab Outstanding} {test : Outstanding → Bool} {entry : ℕ → Outstanding → Entry} {entries : List Entry} (passes : Outstanding → Bool)
    (e : Entry) (c : Outstanding)
    → ((d : Outstanding) → passes d ≡ true → test d ≡ true) → IsOrderOf slab test entry entries → AreInOrder rank_of entries
    → slice_get entries 0 ≡ Some e → get slab e.slot ≡ Some c
    → ((k : ℕ) (d : Outstanding) → get slab k ≡ Some d → test c ≡ true → (entry e.slot c).at ≤ (entry k d).at → passes d ≡ false)
    → All (λ c. passes c ≡ false) (values slab)
none-past {slab} {test} {entry} {entries} passes e c wider o order head at out = all-held (λ c. passes c ≡ false) slab.slots (λ k d at_d.
    false_from_ne_true _ (λ is.
    let first = head-of slab test entry entries e c o head at in
    let least = at-least e (entry k d) (head-least rank_of entries e (entry k d) order head (entry-of o k d at_d (wider d is))) in
    let none = out k d at_d first.1 (omega (arith, ap (λ (f : Entry). f.at) first.0)) in
    true≢false (sym is ∙ none)))

pub over-rests : (rest now : ℕ) (c : Outstanding) → is_over rest now c ≡ true → rests c ≡ true
over-rests rest now c is = grind arith

pub over-past : (rest now : ℕ) (c d : Outstanding) → c.finished ≡ true → is_over rest now c ≡ false → c.flying.last.0 ≤ d.flying.last.0
    → is_over rest now d ≡ false
over-past rest now c d finished out later = grind (arith, nat_tests)

expired-past : (dead now : ℕ) (c d : Outstanding) → flies c ≡ true → is_expired dead now c ≡ false → is_older d c ≡ false
    → is_expired dead now d ≡ false
expired-past dead now c d flying out later = grind (arith, nat_tests)

pub expired-flying : (dead now : ℕ) (c : Outstanding) → is_expired dead now c ≡ true → flies c ≡ true
expired-flying dead now c is = grind arith

pub due-flying : (now : ℕ) (c : Outstanding) → is_due now c ≡ true → flies c ≡ true
due-flying now c is = grind arith

due-past : (now : ℕ) (c d : Outstanding) → flies c ≡ true → d.flying.last.0 ≤ now → is_due now c ≡ false → precedes d c ≡ false → is_due now d ≡ false
due-past now c d flying past out later = grind (arith, nat_tests)

pub before-precedes : (k j : ℕ) (o c : Outstanding) → before (rank_of (by_due k o)) (rank_of (by_due j c)) ≡ false → precedes o c ≡ false
before-precedes k j o c out = grind arith

pub before-older : (k j : ℕ) (o c : Outstanding) → before (rank_of (by_first k o)) (rank_of (by_first j c)) ≡ false → is_older o c ≡ false
before-older k j o c out = grind arith

-- the command of the first entry is the first of those that pass
pub first-held : {slab : Slab Outstanding} {test : Outstanding → Bool} {entry : ℕ → Outstanding → Entry} {entries : List Entry}
    (ahead : Outstanding → Outstanding → Bool) (e : Entry) (c : Outstanding)
    → ((k j : ℕ) (o d : Outstanding) → before (rank_of (entry k o)) (rank_of (entry j d)) ≡ false → ahead o d ≡ false) → IsOrderOf slab test entry entries
    → AreInOrder rank_of entries → slice_get entries 0 ≡ Some e → get slab e.slot ≡ Some c → IsFirst test ahead (values slab) c
first-held {slab} {test} {entry} {entries} ahead e c goes_on o order head at =
    let is = head-of slab test entry entries e c o head at in
    record {
      there = held-at slab.slots e.slot c at;
      passes = is.1;
      least = all-held (λ other. test other ≡ true → ahead other c ≡ false) slab.slots (λ k d at_k passes.
          goes_on k e.slot d c (rw (is.0) at (head-least rank_of entries e (entry k d) order head (entry-of o k d at_k passes))));
    }

-- where a narrower test goes on
pub all-passing : {test : Outstanding → Bool} (commands : List Outstanding) (narrow : Outstanding → Bool)
    → ((c : Outstanding) → narrow c ≡ true → test c ≡ true) → All (λ c. test c ≡ false) commands → All (λ c. narrow c ≡ false) commands
all-passing commands narrow wider none = λ k d below. false_from_ne_true _ (λ is. true≢false (sym (wider (slice_index_or commands k d) is) ∙ none k d below))

pub first-passing : {test : Outstanding → Bool} {ahead : Outstanding → Outstanding → Bool} {commands : List Outstanding} {c : Outstanding}
    (narrow : Outstanding → Bool) → ((d : Outstanding) → narrow d ≡ true → test d ≡ true) → narrow c ≡ true → IsFirst test ahead commands c
    → IsFirst narrow ahead commands c
first-passing {commands = commands} narrow wider passes first = record {
  there = first.there;
  passes = passes;
  least = λ k d below is. first.least k d below (wider (slice_index_or commands k d) is);
}

-- where the one that is due first isn't due, none is
pub due-all : {commands : List Outstanding} (now : ℕ) (c : Outstanding) → is_due now c ≡ false → All (λ d. d.flying.last.0 ≤ now) commands
    → IsFirst flies precedes commands c → All (λ d. is_due now d ≡ false) commands
due-all {commands} now c out past first = λ k d below. let e = slice_index_or commands k d in false_from_ne_true _ (λ is.
    true≢false (sym is ∙ due-past now c e first.passes (past k d below) out (first.least k d below (due-flying now e is))))

pub expired-all : {commands : List Outstanding} (dead now : ℕ) (c : Outstanding) → is_expired dead now c ≡ false
    → IsFirst flies is_older commands c → All (λ d. is_expired dead now d ≡ false) commands
expired-all {commands} dead now c out first = λ k d below. let e = slice_index_or commands k d in false_from_ne_true _ (λ is.
    true≢false (sym is ∙ expired-past dead now c e first.passes out (first.least k d below (expired-flying dead now e is))))

pub tag-held : (slab : Slab Outstanding) (entries : List Entry) (tag slot : ℕ) → IsOrderOf slab each by_tag entries
    → Contains entries (entry_at tag slot)
    → ((k : ℕ) → 0 ≤ k → k < slot → ¬ (Contains entries (entry_at tag k))) → get slab slot ≡ find (flies_with tag) (values slab)
tag-held slab entries tag slot o there first =
    let held = command-of o (entry_at tag slot) there in
    held.there ∙ tag-found slab entries tag slot held.command o there first held.there
