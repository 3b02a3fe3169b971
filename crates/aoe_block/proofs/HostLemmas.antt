-- What never changes of a host, and how many of its commands pass a test.
use Rattle.std.proofs.Common.{ℕ, ◌≡◌, ◌≤◌, ◌+◌, Bool, true, false, List, [], ◌∷◌, ◌++◌, length, map, refl, arith, inl, inr}
use Rattle.std.specs.Prelude.{All, Contains}
use Rattle.std.specs.List.{count_by}
use Rattle.std.proofs.lemmas.List.Sums.{count_by-le-length}
use Rattle.std.proofs.lemmas.List.Elements.{All-head, All-tail}
use Rattle.aoe_base.proofs.CountLemmas.{count-cons, count-no, count-yes}
use Rattle.aoe_base.proofs.CommonLemmas.{one-at-most}
use Rattle.aoe_initiator.specs.Host.{Ascends, Host, IsSame}
use Rattle.aoe_base.specs.declared.counted.PathNo.{PathNo}
use Rattle.aoe_base.specs.declared.counted.Ticket.{Ticket}
use Rattle.aoe_initiator.specs.HostLog.{after_send, at_ticket, clock, commands, path_log, Event, HostCommand}
use Rattle.aoe_initiator.specs.HostLog.Event.{Sends}
use Rattle.aoe_paths.specs.PathLog.{timeout_on}
use Rattle.std.proofs.lemmas.List.{length-map}
use Rattle.aoe_initiator.proofs.ListLemmas.{Contains-cons_cases}

pub same-self : (a : Host) → IsSame a a
same-self a = record { ports = refl; life = refl; room = refl; dead = refl; devices = refl }

-- how many pass a test after a change
pub count-fewer : {A : Type 0} (p : A → Bool) (f : A → A) → ((x : A) → p (f x) ≡ true → p x ≡ true) → (xs : List A) → count_by p (map f xs) ≤ count_by p xs
count-fewer p f fewer [] = omega arith
count-fewer p f fewer (x ∷ xs) =
    omega (arith, count-cons p (f x) (map f xs), count-cons p x xs, one-at-most (p (f x)) (p x) (fewer x), count-fewer p f fewer xs)

pub count-one-fewer : {A : Type 0} (p : A → Bool) (f : A → A) → ((x : A) → p (f x) ≡ true → p x ≡ true) → (xs : List A) (c : A) → Contains xs c → p c ≡ true
    → p (f c) ≡ false
    → count_by p (map f xs) + 1 ≤ count_by p xs
count-one-fewer p f fewer [] c there passes fails = absurd (omega (arith, there.1))
count-one-fewer p f fewer (x ∷ xs) c there passes fails = elim (Contains-cons_cases x c xs there) [
  | inl same ↦ omega (arith, count-yes p x xs (rw same passes), count-no p (f x) (map f xs) (rw same fails), count-fewer p f fewer xs)
  | inr behind ↦
      omega (arith, count-cons p (f x) (map f xs), count-cons p x xs, one-at-most (p (f x)) (p x) (fewer x), count-one-fewer p f fewer xs c behind passes fails)
]

pub count-has : {A : Type 0} (p : A → Bool) (xs : List A) (c : A) → Contains xs c → p c ≡ true → 1 ≤ count_by p xs
count-has p [] c there passes = absurd (omega (arith, there.1))
count-has p (x ∷ xs) c there passes = elim (Contains-cons_cases x c xs there) [
  | inl same ↦ omega (arith, count-yes p x xs (rw same passes))
  | inr behind ↦ omega (arith, count-cons p x xs, count-has p xs c behind passes)
]

-- one more at the end
pub count-end : {A : Type 0} (p : A → Bool) (xs : List A) (x : A) → count_by p (xs ++ x ∷ []) ≤ count_by p xs + 1
count-end p [] x = omega (arith, count_by-le-length p (x ∷ []))
count-end p (y ∷ xs) x = omega (arith, count-cons p y (xs ++ x ∷ []), count-cons p y xs, count-end p xs x)

-- as many commands as tickets at most
pub few-commands : (n last : ℕ) (cs : List HostCommand) → n ≤ last → Ascends n cs → All (λ c. c.ticket.0 ≤ last) cs → n + length cs ≤ last
few-commands n last [] within up all = omega arith
few-commands n last (c ∷ cs) within up all =
    omega (arith, up.0, few-commands c.ticket.0 last cs (All-head (λ x. x.ticket.0 ≤ last) c cs all) up.1 (All-tail (λ x. x.ticket.0 ≤ last) c cs all))

-- a frame leaves as many commands
pub many-sent : (ticket : Ticket) (tag : ℕ) (path : PathNo) (log : List Event) → length (commands (Sends ticket tag path ∷ log)) ≡ length (commands log)
many-sent ticket tag path log =
    length-map (commands log) (at_ticket ticket (after_send tag (record { 0 = clock log }) path (λ n. timeout_on (path_log log n) path.0)))
