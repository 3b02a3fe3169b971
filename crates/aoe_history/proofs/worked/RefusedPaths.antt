-- What hosts that choose paths wrongly would do is refused.
use Rattle.std.proofs.Common.{ℕ, ◌≡◌, ◌||◌, ◌∙◌, Bool, true, false, not, List, ◌∷◌, Option, Some, None, refl, sym, ap, arith, slice_index, Contains, nat_eq}
use Rattle.std.specs.List.{list_all}
use Rattle.std.proofs.lemmas.Bool.{eq-eqb, eqb-true}
use Rattle.aoe_base.specs.declared.counted.PathNo.{PathNo}
use Rattle.aoe_initiator.specs.HostLaw.{spelled, IsQuiet}
use Rattle.aoe_initiator.specs.HostLog.{HostCommand}
use Rattle.aoe_initiator.specs.Request.{request}
use Rattle.aoe_initiator.specs.Response.{answer}
use Rattle.aoe_target.specs.Reply.{spelled as reply_spelled}
use Rattle.aoe_history.specs.declared.entry.Entry.{Entry}
use Rattle.aoe_history.specs.declared.entry.Entry.TheVariants.{Sent, Ticked}
use Rattle.aoe_history.specs.Commands.{commands_of, host_after}
use Rattle.aoe_history.specs.Example.{a}
use Rattle.aoe_history.specs.HostLaw.{IsSent}
use Rattle.aoe_history.specs.Lawful.{MayCome}
use Rattle.aoe_history.specs.PathCases.{almost_grown, due, grown, measured, missed, other_submitted, read_on, two_host, two_paths}
use Rattle.aoe_history.specs.Setup.{HostSetup, Setup}
use Rattle.aoe_history.specs.Slots.{zero_sector}
use Rattle.aoe_history.proofs.worked.CaseLemmas.{nth_sent, or-of, passes, path_for}
use Rattle.aoe_history.proofs.worked.Refused.{is-not-sent}

-- each command with a ticket passes a test
of-ticket : (test : HostCommand → Bool) (cs : List HostCommand) (c : ℕ) (x : HostCommand) → list_all (λ y. not (nat_eq y.ticket.0 c) || test y) cs ≡ true
    → Contains cs x
    → x.ticket.0 ≡ c → test x ≡ true
of-ticket test cs c x e there is = or-of _ _ (passes (λ (y : HostCommand). not (nat_eq y.ticket.0 c) || test y) cs x e there) (eq-eqb x.ticket.0 c is)

-- the port that a frame goes to, by its number
abbrev port_to : List ℕ → ℕ
port_to f = slice_index f 5

abbrev port_of : Option (List ℕ) → ℕ
port_of None = 0
port_of (Some f) = port_to f

-- a command is sent to the port that the path that is next for it goes to
sent-to : (s : Setup) (host : HostSetup) (h : List Entry) (c number path to : ℕ) (bytes : List ℕ)
    → list_all (λ x. not (nat_eq x.ticket.0 c) || nat_eq (path_for s host h x).0 path) (commands_of host h) ≡ true
    → ((tag : ℕ) → list_all (λ x. not (nat_eq x.ticket.0 c) || nat_eq (port_of (spelled (host_after s host h) x (record { 0 = path }) tag)) to)
    (commands_of host h) ≡ true)
    → IsSent s host h c number bytes → port_to bytes ≡ to
sent-to s host h c number path to bytes next goes x =
    let its = of-ticket (λ y. nat_eq (path_for s host h y).0 path) _ c x.path.command next x.path.there (ap (λ t. t.0) x.path.ticket ∙ x.ticket_is) in
    let on : x.sent.path ≡ record { 0 = path } = ap (λ n. let p : PathNo = record { 0 = n } in p) (x.path.next ∙ eqb-true _ _ its) in
    let at = of-ticket (λ y. nat_eq (port_of (spelled (host_after s host h) y (record { 0 = path }) x.sent.tag)) to) _ c x.frame.command
    (goes x.sent.tag) x.frame.there
    (ap (λ t. t.0) x.frame.ticket ∙ x.ticket_is) in
    ap port_of (sym x.frame.bytes) ∙ ap (λ p. port_of (spelled (host_after s host h) x.frame.command p x.sent.tag)) on ∙ eqb-true _ _ at

differ : ◌≡◌ {A = ℕ} 1 2 → ⊥
differ e = omega (arith, e)

-- a host that sends on one path, though there are two
pub one-path : (number tag : ℕ) → MayCome two_paths other_submitted (Sent a 2 number (read_on 0 1 tag)) → ⊥
unfolding request
one-path number tag x = differ (sent-to two_paths two_host other_submitted 2 number 1 2 (read_on 0 1 tag) refl (λ t. refl) x)

-- a host that repeats on the path whose answer it missed
pub same-path : (number tag : ℕ) → MayCome two_paths due (Sent a 1 number (read_on 0 0 tag)) → ⊥
unfolding request
same-path number tag x = differ (sent-to two_paths two_host due 1 number 1 2 (read_on 0 0 tag) refl (λ t. refl) x)

-- a host that doesn't mark the path of the frame before a repeat
pub unmarked : (number tag : ℕ) → MayCome two_paths missed (Sent a 2 number (read_on 0 1 tag)) → ⊥
unfolding request
unmarked number tag x = differ (sent-to two_paths two_host missed 2 number 1 2 (read_on 0 1 tag) refl (λ t. refl) x)

-- a host that takes a trip from the first frame of a command that was sent twice, and one that takes it from the last
pub from-first : IsQuiet (host_after two_paths two_host (Ticked 1000 ∷ measured)) (commands_of two_host (Ticked 1000 ∷ measured)) → ⊥
unfolding request reply_spelled answer zero_sector
from-first q = let e : true ≡ false = q.nothing_due 1 (nth_sent two_host (Ticked 1000 ∷ measured) 1) (omega arith) in cc

pub from-last : (number : ℕ) (bytes : List ℕ) → MayCome two_paths (Ticked 999 ∷ measured) (Sent a 2 number bytes) → ⊥
unfolding request reply_spelled answer zero_sector
from-last number bytes x = is-not-sent two_paths two_host (Ticked 999 ∷ measured) 2 number bytes refl refl x

-- a host whose wait doesn't grow, and one whose wait grows too much
pub steady : (number : ℕ) (bytes : List ℕ) → MayCome two_paths almost_grown (Sent a 1 number bytes) → ⊥
unfolding request
steady number bytes x = is-not-sent two_paths two_host almost_grown 1 number bytes refl refl x

pub slow : IsQuiet (host_after two_paths two_host grown) (commands_of two_host grown) → ⊥
unfolding request
slow q = let e : true ≡ false = q.nothing_due 0 (nth_sent two_host grown 0) (omega arith) in cc
