-- What keeps a command back among those that pass a test.
use Rattle.std.proofs.Common.{ℕ, ◌≡◌, ◌&&◌, ◌||◌, ◌++◌, not, Bool, true, false, List, [], ◌∷◌, max, None, inl, inr, ◌∙◌, arith, nat_eq, nat_le}
use Rattle.std.specs.Prelude.{All}
use Rattle.std.specs.List.{find, list_any}
use Rattle.std.proofs.lemmas.Bool.{cases_lt, le-leb, lt-leb}
use Rattle.std.proofs.lemmas.List.{append_assoc}
use Rattle.std.proofs.lemmas.List.Folds.{list_any_none}
use Rattle.aoe_hold.specs.declared.command.Command.{Command}
use Rattle.aoe_hold.specs.declared.keys.Key.{Key}
use Rattle.aoe_hold.specs.declared.queue.Keeper.{Keeper}
use Rattle.aoe_hold.specs.declared.queue.Keeper.TheVariants.{Blocker, Clear}
use Rattle.aoe_hold.specs.Commands.{conflict}
use Rattle.aoe_hold.specs.Queue.{blocks, is_blocked, lingers, IsFree, IsKeeperOf, Knows}
use Rattle.aoe_hold.proofs.ListLemmas.{any-alike, any-or, any-weaker, none-any}
use Rattle.aoe_hold.proofs.StageLemmas.{find-none}

-- where none passes the test
pub free-none : (life : ℕ) (test : Command → Bool) (commands : List Command) (c : Command) → All (λ e. test e ≡ false) commands → IsFree life 0 test commands c
free-none life test commands c out = record {
  free = list_any_none (λ e. test e && blocks c e) commands (λ k d below. rw (out k d below));
  some = λ now before. absurd (omega arith);
  none = λ now after. list_any_none (λ e. test e && lingers life now c e) commands (λ k d below. rw (out k d below));
}

pub free-missing : (life ticket : ℕ) (commands : List Command) (c : Command) → find (λ e. nat_eq e.ticket.0 ticket) commands ≡ None
    → IsFree life 0 (λ e. nat_eq e.ticket.0 ticket) commands c
free-missing life ticket commands c missing =
    free-none life (λ e. nat_eq e.ticket.0 ticket) commands c (find-none (λ e. nat_eq e.ticket.0 ticket) commands missing)

pub free-one : {commands : List Command} {e : Command} (ticket life from : ℕ) (c : Command)
    → ((p : Command → Bool) → list_any (λ d. nat_eq d.ticket.0 ticket && p d) commands ≡ p e) → blocks c e ≡ false
    → ((now : ℕ) → lingers life now c e ≡ not (nat_le from now)) → IsFree life from (λ d. nat_eq d.ticket.0 ticket) commands c
free-one {commands} {e} ticket life from c one out late = record {
  free = one (blocks c) ∙ out;
  some = λ now before.
      any-weaker (λ d. nat_eq d.ticket.0 ticket) (λ d. lingers life now c d) commands (rw (one (λ d. lingers life now c d), late now, lt-leb from now before));
  none = λ now after. rw (one (λ d. lingers life now c d), late now, le-leb from now after);
}

any-either : (first second p : Command → Bool) (commands : List Command) → list_any (λ e. first e && p e) commands ≡ false
    → list_any (λ e. second e && p e) commands ≡ false → list_any (λ e. (first e || second e) && p e) commands ≡ false
any-either first second p commands a b =
    any-alike _ (λ e. (first e && p e) || (second e && p e)) (λ e. grind arith) commands
    ∙ rw (any-or (λ e. first e && p e) (λ e. second e && p e) commands, a, b)

pub free-or : {life from more : ℕ} {first second : Command → Bool} {commands : List Command} {c : Command} (next : ℕ) → next ≡ max from more
    → IsFree life from first commands c → IsFree life more second commands c → IsFree life next (λ e. first e || second e) commands c
free-or {life} {from} {more} {first} {second} {commands} {c} next is a b = record {
  free = any-either first second (blocks c) commands a.free b.free;
  some = λ now before. elim (cases_lt now from) [
    | inl early ↦ a.some now early
    | inr late ↦ b.some now (omega arith)
  ];
  none = λ now after. any-either first second (λ e. lingers life now c e) commands (a.none now (omega arith)) (b.none now (omega arith));
}

any-fewer : (test other p : Command → Bool) (commands : List Command) → All (λ e. other e ≡ true → p e ≡ true → test e ≡ true) commands
    → list_any (λ e. test e && p e) commands ≡ false → list_any (λ e. other e && p e) commands ≡ false
any-fewer test other p commands each none = list_any_none (λ e. other e && p e) commands (λ k d below.
    grind (arith, each k d below, none-any (λ x. test x && p x) commands none k d below))

block-conflict : (c e : Command) → blocks c e ≡ true → conflict e c ≡ true
block-conflict c e is = grind arith

linger-conflict : (life now : ℕ) (c e : Command) → lingers life now c e ≡ true → conflict e c ≡ true
linger-conflict life now c e is = grind arith

-- where each of the others that conflicts passes the test too
free-narrow : {life from : ℕ} {test : Command → Bool} {commands : List Command} {c : Command} (other : Command → Bool)
    → All (λ e. other e ≡ true → conflict e c ≡ true → test e ≡ true) commands → IsFree life from test commands c → IsFree life from other commands c
free-narrow {life} {from} {test} {commands} {c} other each f = record {
  free = any-fewer test other (blocks c) commands (λ k d below is blocked. each k d below is (block-conflict c _ blocked)) f.free;
  some = f.some;
  none = λ now after.
      any-fewer test other (λ e. lingers life now c e) commands (λ k d below is late. each k d below is (linger-conflict life now c _ late)) (f.none now after);
}

-- where all that conflict pass the test
pub free-all : {life from : ℕ} {test : Command → Bool} {commands : List Command} {c : Command} (latest : ℕ)
    → All (λ e. conflict e c ≡ true → test e ≡ true) commands → IsFree life from test commands c
    → (is_blocked commands c ≡ false) × Knows life latest commands (record { command = c; from = from })
free-all {life} {from} {test} {commands} {c} latest each f =
    let all = free-narrow (λ e. true) (λ k d below is. each k d below) f in (
      all.free,
      λ now later. elim (cases_lt now from) [
        | inl early ↦ rw (all.some now early, lt-leb from now early)
        | inr late ↦ rw (all.none now late, le-leb from now late)
      ],
    )

abbrev pub HasTicketOf : List Key → Command → Bool
HasTicketOf keys e = list_any (λ k. nat_eq e.ticket.0 k.ticket.0) keys

-- so far the keys from the end on, and one more
pub walked-more : {life from more : ℕ} {commands : List Command} {c : Command} (next : ℕ) (all rest left done : List Key) (k : Key)
    → rest ≡ left ++ k ∷ [] → next ≡ max from more → all ≡ rest ++ done
    → IsFree life from (HasTicketOf done) commands c → IsFree life more (λ e. nat_eq e.ticket.0 k.ticket.0) commands c
    → (walked : List Key) × (all ≡ left ++ walked) × IsFree life next (HasTicketOf walked) commands c
walked-more next all rest left done k last is parts before one =
    (k ∷ done, rw (parts, last) (append_assoc left (k ∷ []) done), free-or next (omega arith) one before)

pub narrowed : (life : ℕ) (test : Command → Bool) (commands : List Command) (c : Command) (other : Command → Bool) (keeper : Keeper)
    → All (λ e. other e ≡ true → conflict e c ≡ true → test e ≡ true) commands → IsKeeperOf life test commands c keeper
    → IsKeeperOf life other commands c keeper
narrowed life test commands c other (Blocker ticket) each is = is
narrowed life test commands c other (Clear from) each is = free-narrow other each is
