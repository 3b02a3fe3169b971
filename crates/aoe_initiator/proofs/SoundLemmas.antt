-- What is true of what a host keeps stays true.
use Rattle.std.proofs.Common.{ℕ, zero, suc, ◌≡◌, ◌+◌, ◌<◌, ◌≤◌, List, [], ◌∷◌, ◌++◌, length, map, Option, arith}
use Rattle.std.proofs.lemmas.List.Edits.{length-remove}
use Rattle.std.specs.Prelude.{All}
use Rattle.std.specs.List.{remove}
use Rattle.std.specs.Option.{ForSome}
use Rattle.std.proofs.lemmas.List.{length-append, length-map}
use Rattle.std.proofs.lemmas.List.Elements.{All-map, All-nil, All-push, All-weaker}
use Rattle.aoe_base.specs.declared.address.Mac.{Mac}
use Rattle.aoe_base.specs.declared.counted.Millis.{Millis}
use Rattle.aoe_base.specs.declared.counted.PathNo.{PathNo}
use Rattle.aoe_base.specs.declared.counted.Ticket.{Ticket}
use Rattle.aoe_base.proofs.CommonLemmas.{All-remove}
use Rattle.aoe_hold.specs.declared.command.Command.{Command}
use Rattle.aoe_flight.specs.FlightTable.{FlightTable}
use Rattle.aoe_initiator.specs.declared.device.Arrival.{Arrival}
use Rattle.aoe_initiator.specs.declared.device.Device.{Device}
use Rattle.aoe_initiator.specs.declared.outcome.Done.{Done}
use Rattle.aoe_initiator.specs.declared.pending.Pending.{Pending}
use Rattle.aoe_initiator.specs.Devices.{change_at, device_at, device_finished, device_sent}
use Rattle.aoe_initiator.specs.Host.{IsAttached, IsInOrder, IsSendable, IsConsistent}
use Rattle.aoe_initiator.proofs.DeviceLemmas.{device_entered, length-change_at, All-change_at}

up-to : (o : Option ℕ) (last later : ℕ) → last ≤ later → ForSome o (λ g. g ≤ last) → ForSome o (λ g. g ≤ later)
up-to o last later more is = λ g at. omega (arith, more, is g at)

attached-later : (now last later last_later : ℕ) (d : Device) → now ≤ later → last ≤ last_later → IsAttached now last d → IsAttached later last_later d
attached-later now last later last_later d more above a = record {
  port = a.port;
  total = a.total;
  max = a.max;
  time = omega (arith, a.time, more);
  ticket = up-to d.holds.greatest last last_later above a.ticket;
}

attached-at : (now last : ℕ) (d : Device) → IsAttached now last d → IsAttached now last (device_at now d)
attached-at now last d a = record { port = a.port; total = a.total; max = a.max; time = omega arith; ticket = a.ticket }

attached-sent : (last : ℕ) (t : Ticket) (now : Millis) (missed : Option PathNo) (path : PathNo) (d : Device) → IsAttached now.0 last d
    → IsAttached now.0 last (device_sent t now missed path d)
attached-sent last t now missed path d a = record { port = a.port; total = a.total; max = a.max; time = omega arith; ticket = a.ticket }

attached-finished : (now last : ℕ) (t : Ticket) (came : Option Arrival) (d : Device) → IsAttached now last d → IsAttached now last (device_finished t came d)
attached-finished now last t came d a = record { port = a.port; total = a.total; max = a.max; time = a.time; ticket = a.ticket }

attached-entered : (now last : ℕ) (c : Command) (d : Device) → c.ticket.0 ≤ last → IsAttached now last d → IsAttached now last (device_entered c d)
attached-entered now last c d below a = record {
  port = a.port;
  total = a.total;
  max = a.max;
  time = a.time;
  ticket = λ g at. let same : c.ticket.0 ≡ g = cc in omega (arith, same, below);
}

pub times-of : (now last : ℕ) (devices : List Device) → All (IsAttached now last) devices → All (λ d. d.holds.latest ≤ now) devices
times-of now last devices all = All-weaker (IsAttached now last) (λ d. d.holds.latest ≤ now) (λ d a. a.time) devices all

ready-more : (n m : ℕ) (pending : List Pending) → n ≤ m → All (IsSendable n) pending → All (IsSendable m) pending
ready-more n m pending more all =
    All-weaker (IsSendable n) (IsSendable m)
    (λ p ready. record { inside = omega (arith, ready.inside, more); spelled = ready.spelled; room = ready.room }) pending all

ordered-remove : (xs : List Pending) (i : ℕ) → i < length xs → IsInOrder xs → IsInOrder (remove xs i)
ordered-remove [] i inside order = absurd (omega (arith, inside))
ordered-remove (x ∷ xs) zero inside order = order.1
ordered-remove (x ∷ xs) (suc i) inside order =
    let below : i < length xs = omega (arith, inside) in
    (All-remove (λ later. x.ticket.0 < later.ticket.0) xs i below order.0, ordered-remove xs i below order.1)

ordered-push : (xs : List Pending) (p : Pending) (last : ℕ) → IsInOrder xs → All (λ q. q.ticket.0 ≤ last) xs → last < p.ticket.0 → IsInOrder (xs ++ p ∷ [])
ordered-push [] p last order given new = (All-nil (λ later. p.ticket.0 < later.ticket.0), tt)
ordered-push (x ∷ xs) p last order given new =
    let here = given 0 x (omega arith) in (
      All-push (λ later. x.ticket.0 < later.ticket.0) xs p order.0 (omega (arith, here, new)),
      ordered-push xs p last order.1 (λ k d below. given (suc k) d (omega (arith, below))) new,
    )

-- what a step leaves of a consistent host
module _ {ports : List Mac} {now last : ℕ} {flight : FlightTable} {devices : List Device} {pending : List Pending} {waiting : List Done} {capacity : ℕ}
    (s : IsConsistent ports now last flight devices pending waiting capacity) where
  -- a frame of a command was sent
  pub sound-sent : (n : ℕ) (t : Ticket) (missed : Option PathNo) (path : PathNo) (after : FlightTable) → after.latest ≤ now
      → IsConsistent ports now last after (change_at n (device_sent t (record { 0 = now }) missed path) devices) pending waiting capacity
  sound-sent n t missed path after time =
      let sent : Device → Device = device_sent t (record { 0 = now }) missed path in
      let same : length (change_at n sent devices) ≡ length devices = length-change_at n sent devices in
      record {
        port = s.port;
        differ = s.differ;
        time = time;
        attached = All-change_at (IsAttached now last) n sent devices (attached-sent last t (record { 0 = now }) missed path) s.attached;
        ready = ready-more (length devices) (length (change_at n sent devices)) pending (omega (arith, same)) s.ready;
        order = s.order;
        given = s.given;
        reserved = s.reserved;
      }

  -- the devices went on to the time
  pub sound-cleared : IsConsistent ports now last flight (map (device_at now) devices) pending waiting capacity
  sound-cleared =
      let same : length (map (device_at now) devices) ≡ length devices = length-map devices (device_at now) in
      record {
        port = s.port;
        differ = s.differ;
        time = s.time;
        attached = All-map (IsAttached now last) (device_at now) devices
            (All-weaker (IsAttached now last) (λ d. IsAttached now last (device_at now d)) (attached-at now last) devices s.attached);
        ready = ready-more (length devices) (length (map (device_at now) devices)) pending (omega (arith, same)) s.ready;
        order = s.order;
        given = s.given;
        reserved = s.reserved;
      }

  -- the command at a place ended, and its outcome waits
  pub sound-closed : (n at : ℕ) (t : Ticket) (came : Option Arrival) (done : Done) (after : FlightTable) → after.latest ≤ now → at < length pending
      → IsConsistent ports now last after (change_at n (device_finished t came) devices) (remove pending at) (waiting ++ done ∷ []) capacity
  sound-closed n at t came done after time inside =
      let same : length (change_at n (device_finished t came) devices) ≡ length devices = length-change_at n (device_finished t came) devices in
      let one_more : length (waiting ++ done ∷ []) ≡ length waiting + 1 = length-append waiting (done ∷ []) in
      record {
        port = s.port;
        differ = s.differ;
        time = time;
        attached = All-change_at (IsAttached now last) n (device_finished t came) devices (attached-finished now last t came) s.attached;
        ready = ready-more (length devices) (length (change_at n (device_finished t came) devices)) (remove pending at) (omega (arith, same))
            (All-remove (IsSendable (length devices)) pending at inside s.ready);
        order = ordered-remove pending at inside s.order;
        given = All-remove (λ p. p.ticket.0 ≤ last) pending at inside s.given;
        reserved = omega (arith, s.reserved, length-remove pending at inside, one_more);
      }

  -- a device was attached
  pub sound-attached : (d : Device) → IsAttached now last d → IsConsistent ports now last flight (devices ++ d ∷ []) pending waiting capacity
  sound-attached d new =
      let one_more : length (devices ++ d ∷ []) ≡ length devices + 1 = length-append devices (d ∷ []) in
      record {
        port = s.port;
        differ = s.differ;
        time = s.time;
        attached = All-push (IsAttached now last) devices d s.attached new;
        ready = ready-more (length devices) (length (devices ++ d ∷ [])) pending (omega (arith, one_more)) s.ready;
        order = s.order;
        given = s.given;
        reserved = s.reserved;
      }

  -- a command was submitted, with the next ticket
  pub sound-submitted : (n : ℕ) (c : Command) (p : Pending) (room : ℕ) → c.ticket.0 ≡ last + 1 → p.ticket.0 ≡ last + 1 → IsSendable (length devices) p
      → length waiting + length pending + 1 ≤ room
      → IsConsistent ports now (last + 1) flight (change_at n (device_entered c) devices) (pending ++ p ∷ []) waiting room
  sound-submitted n c p room ticket_is new ready roomy =
      let same : length (change_at n (device_entered c) devices) ≡ length devices = length-change_at n (device_entered c) devices in
      let one_more : length (pending ++ p ∷ []) ≡ length pending + 1 = length-append pending (p ∷ []) in
      let later : All (IsAttached now (last + 1)) devices =
      All-weaker (IsAttached now last) (IsAttached now (last + 1)) (λ d a. attached-later now last now (last + 1) d (omega arith) (omega arith) a) devices
      s.attached in
      record {
        port = s.port;
        differ = s.differ;
        time = s.time;
        attached = All-change_at (IsAttached now (last + 1)) n (device_entered c) devices
            (λ d a. attached-entered now (last + 1) c d (omega (arith, ticket_is)) a) later;
        ready = All-push (IsSendable (length (change_at n (device_entered c) devices))) pending p
            (ready-more (length devices) (length (change_at n (device_entered c) devices)) pending (omega (arith, same)) s.ready)
            (record { inside = omega (arith, ready.inside, same); spelled = ready.spelled; room = ready.room });
        order = ordered-push pending p last s.order s.given (omega (arith, new));
        given = All-push (λ q. q.ticket.0 ≤ last + 1) pending p
            (All-weaker (λ q. q.ticket.0 ≤ last) (λ q. q.ticket.0 ≤ last + 1) (λ q below. omega (arith, below)) pending s.given) (omega (arith, new));
        reserved = omega (arith, roomy, one_more);
      }
