-- Hosts of which nothing is said, hosts in time that goes by, and a host of which nothing was said yet.
use Rattle.std.proofs.Common.{ℕ, ◌≤◌, ◌≡◌, true, false, List, [], ◌∷◌, Option, Some, None, refl, sym, ◌∙◌, arith}
use Rattle.std.proofs.lemmas.Bool.{both_ways}
use Rattle.std.specs.Prelude.{IfSome}
use Rattle.std.proofs.lemmas.Option.{IfSome_then}
use Rattle.aoe_history.specs.declared.entry.Entry.{Entry}
use Rattle.aoe_history.specs.declared.entry.Entry.TheVariants.{Ticked}
use Rattle.aoe_history.specs.Commands.{log_of, tickets}
use Rattle.aoe_history.specs.Frames.{clock}
use Rattle.aoe_history.specs.Groups.{Got}
use Rattle.aoe_history.specs.HostLaw.{IsAnswered}
use Rattle.aoe_history.specs.Setup.{HostSetup, Setup}
use Rattle.aoe_sim_hosts.specs.Host.{is_apart, is_told, log_with, told_of, Awaits, IsHost, IsSettled, SimHost, TellsSame}
use Rattle.aoe_sim_hosts.proofs.Commands.{answer-later}
use Rattle.aoe_sim_hosts.proofs.Leaves.{leaves, path-left, Leaves}
use Rattle.aoe_sim_hosts.proofs.Same.{advanced, tells-itself}
use Rattle.aoe_initiator.specs.declared.outcome.Outcome.{Outcome}
use Rattle.aoe_initiator.specs.Host.{Matches}
use Rattle.aoe_initiator.specs.HostLog.Event.{Advances}

settled-left : (s : Setup) (host : HostSetup) (h n : List Entry) (x : SimHost) → Leaves host h n → IsSettled s host h x → IsSettled s host n x
settled-left s host h n x l y = record { is = y.is; last = y.last ∙ sym l.count; time = y.time ∙ sym l.time; matches = rw l.log y.matches; waiting = y.waiting }

-- an entry that says nothing of a settled host leaves it settled
pub settled-apart : (s : Setup) (host : HostSetup) (e : Entry) (h : List Entry) (x : SimHost) → is_apart host e ≡ true → IsSettled s host h x
    → IsSettled s host (e ∷ h) x
settled-apart s host e h x away = settled-left s host h (e ∷ h) x (leaves host h e away)

log-left : (host : HostSetup) (got : Option Got) (h n : List Entry) → Leaves host h n → log_with host got n ≡ log_with host got h
log-left host None h n l = l.log
log-left host (Some g) h n l = rw (path-left host h n g.ticket g.outcome (l.submissions g.ticket) l.response, l.log)

answered-left : (s : Setup) (host : HostSetup) (h n : List Entry) (t : ℕ) (o : Outcome) → Leaves host h n → IsAnswered s host h t o → IsAnswered s host n t o
answered-left s host h n t o l a = let r = a.response in record {
  number = a.number;
  bytes = a.bytes;
  fresh = l.arrives s.life a.number a.bytes a.fresh;
  response = record {
    command = r.command;
    there = rw l.log r.there;
    ticket_is = r.ticket_is;
    answer = r.answer;
    says = answer-later s host n h r.command a.bytes ∙ r.says;
    gives = r.gives;
  };
}

awaits-left : (s : Setup) (host : HostSetup) (got : Option Got) (h n : List Entry) (x : SimHost) → Leaves host h n → Awaits s host got h x
    → Awaits s host got n x
awaits-left s host got h n x l y = record {
  is = y.is;
  last = y.last ∙ sym l.count;
  past = rw l.time y.past;
  log = y.log;
  matches = y.matches;
  same = rw (l.time, log-left host got h n l) y.same;
  waiting = y.waiting;
  response = IfSome_then got y.response (λ g answered told. answered-left s host h n g.ticket g.outcome l (answered told));
}

-- an entry that says nothing of a host that awaits its turn leaves it so
pub awaits-apart : (s : Setup) (host : HostSetup) (got : Option Got) (e : Entry) (h : List Entry) (x : SimHost) → is_apart host e ≡ true
    → Awaits s host got h x → Awaits s host got (e ∷ h) x
awaits-apart s host got e h x away = awaits-left s host got h (e ∷ h) x (leaves host h e away)

from-settled : (s : Setup) (host : HostSetup) (got : Option Got) (h n : List Entry) (x : SimHost) → IsSettled s host h x → tickets host n ≡ tickets host h
    → clock h ≤ clock n → TellsSame (Advances (record { 0 = clock n }) ∷ log_of host h) (log_with host got n) → told_of host got ≡ []
    → IfSome got (λ g. is_told host g ≡ true → IsAnswered s host n g.ticket g.outcome) → Awaits s host got n x
from-settled s host got h n x y count past same none response = record {
  is = y.is;
  last = y.last ∙ sym count;
  past = omega (arith, y.time);
  log = log_of host h;
  matches = y.matches;
  same = same;
  waiting = y.waiting ∙ sym none;
  response = response;
}

still : {s : Setup} {host : HostSetup} {h : List Entry} {x : SimHost} → IsSettled s host h x
    → TellsSame (Advances (record { 0 = clock h }) ∷ log_of host h) (log_of host h)
still {host = host} {h} y = advanced (log_of host h) (clock h) (sym y.matches.time ∙ y.time)

-- a settled host awaits its turn, with nothing to tell
pub awaits-settled : (s : Setup) (host : HostSetup) (h : List Entry) (x : SimHost) → IsSettled s host h x → Awaits s host None h x
awaits-settled s host h x y = from-settled s host None h h x y refl (omega arith) (still y) refl tt

-- and where the response was another host's
pub awaits-other : (s : Setup) (host : HostSetup) (got : Got) (h : List Entry) (x : SimHost) → is_told host got ≡ false → IsSettled s host h x
    → Awaits s host (Some got) h x
awaits-other s host got h x other y =
    from-settled s host (Some got) h h x y refl (omega arith) (rw other (still y)) (rw other) (λ told. absurd (both_ways _ other told))

-- time goes by
pub awaits-ticked : (s : Setup) (host : HostSetup) (ms : ℕ) (h : List Entry) (x : SimHost) → IsSettled s host h x → Awaits s host None (Ticked ms ∷ h) x
awaits-ticked s host ms h x y = from-settled s host None h (Ticked ms ∷ h) x y refl (omega arith) (tells-itself _) refl tt

-- a host of which nothing was said yet
pub settled-new : (s : Setup) (host : HostSetup) (x : SimHost) → IsHost s host x → x.core.clock ≡ 0 → x.core.last_ticket ≡ 0 → x.core.waiting ≡ []
    → Matches [] x.core → IsSettled s host [] x
settled-new s host x is time last waiting matches = record { is = is; last = last; time = time; matches = matches; waiting = waiting }
