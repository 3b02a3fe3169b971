use Rattle.std.proofs.Common.{◌≡◌, ◌<◌, ℕ, false, get_or}
use Rattle.std.specs.VecDeque.{deque_capacity}
use Rattle.aoe_desk.specs.declared.request.OpenRequest.{OpenRequest}
use Rattle.aoe_desk.specs.Requests.{owns}
use Rattle.aoe_desk.proofs.desk.settle_in.Given as goal

-- none of the requests so far owns the command, and nothing changed
abbrev pub invariant-requests : goal.invariant-requests
invariant-requests l = record {
  done : l.done ≡ l.fn.done;
  items : l.requests.items ≡ l.fn.requests.items;
  capacity : deque_capacity l.requests ≡ deque_capacity l.fn.requests;
  none : (j : ℕ) (x : OpenRequest) → j < l.k → owns l.fn.done.ticket.0 (get_or l.fn.requests.items j x) ≡ false;
}
