-- What the paths to the devices of a host recall after each step.
use Rattle.std.proofs.Common.{ℕ, zero, suc, ◌≡◌, ◌≢◌, ◌<◌, cond, Bool, true, false, List, [], ◌∷◌, ◌++◌, length, map, Option, Some, None, inl, inr, refl, sym, ap, subst, ◌∙◌, arith, nat_eq}
use Rattle.std.specs.Prelude.{option_map, slice_get, All, Contains, IfSome}
use Rattle.std.proofs.lemmas.Bool.{cases_Bool, eq-eqb, eqb-true, ne_eqb}
use Rattle.std.proofs.lemmas.List.Elements.{All-cons, All-contains, All-head, All-nil, All-tail}
use Rattle.std.proofs.lemmas.Option.{slice_get-map}
use Rattle.aoe_base.specs.declared.address.Mac.{Mac}
use Rattle.aoe_base.specs.declared.counted.DeviceNo.{DeviceNo}
use Rattle.aoe_base.specs.declared.counted.Millis.{Millis}
use Rattle.aoe_base.specs.declared.counted.PathNo.{PathNo}
use Rattle.aoe_base.specs.declared.counted.Ticket.{Ticket}
use Rattle.aoe_paths.specs.PathLog.{next_of, timeout_on, PathEvent, Recalls}
use Rattle.aoe_paths.specs.PathLog.PathEvent.{Answered, Chosen}
use Rattle.aoe_paths.specs.PathTable.{new_paths, pair_at, path_count, PathTable}
use Rattle.aoe_paths.proofs.RecallLemmas.{next-recalled, recalls-answered, recalls-chosen, recalls-missed, recalls-new, timeout-recalled}
use Rattle.aoe_initiator.specs.declared.device.Arrival.{Arrival}
use Rattle.aoe_initiator.specs.declared.device.Device.{Device}
use Rattle.aoe_initiator.specs.Devices.{after_choice, change_at, device_at, device_finished, device_sent, marks_after, IsRoute}
use Rattle.aoe_initiator.specs.declared.device.Route.{Route}
use Rattle.aoe_initiator.specs.declared.op.Op.{Op}
use Rattle.aoe_initiator.specs.Host.{Ascends, HasPaths, Host, Matches}
use Rattle.aoe_initiator.specs.HostLaw.{paths_to, spelled_for}
use Rattle.aoe_initiator.specs.HostLog.{after_end, after_frame, after_response, after_send, at_ticket, clock, commands, is_at, missed_by, path_log, submitted, trip_of, with_ticket, Event, HostCommand, Sending}
use Rattle.aoe_initiator.specs.HostLog.Event.{Advances, Ends, Sends, Submits}
use Rattle.aoe_initiator.specs.Request.{request}
use Rattle.aoe_initiator.proofs.ListLemmas.{Contains-cons_cases}
use Rattle.aoe_initiator.proofs.LogLemmas.{ascends-all, end-keeps, kept-device, send-keeps, Keeps}

-- ---- one device of many

pub slice-changed : (k : ℕ) (change : Device → Device) (devices : List Device)
    → slice_get (change_at k change devices) k ≡ option_map change (slice_get devices k)
slice-changed k change [] = refl
slice-changed zero change (d ∷ devices) = refl
slice-changed (suc k) change (d ∷ devices) = slice-changed k change devices

slice-others : (n k : ℕ) (change : Device → Device) (devices : List Device) → n ≢ k → slice_get (change_at k change devices) n ≡ slice_get devices n
slice-others n k change [] other = refl
slice-others zero zero change (d ∷ devices) other = absurd (other refl)
slice-others (suc n) zero change (d ∷ devices) other = refl
slice-others zero (suc k) change (d ∷ devices) other = refl
slice-others (suc n) (suc k) change (d ∷ devices) other = slice-others n k change devices (λ same. other (ap suc same))

-- each device has its paths
abbrev pub HaveAll : List Mac → List Event → List Device → Type 0
HaveAll ports log devices = (n : ℕ) → IfSome (slice_get devices n) (HasPaths ports (path_log log n))

if-some-map : (o : Option Device) (f : Device → Device) (P Q : Device → Type 0) → ((d : Device) → P d → Q (f d)) → IfSome o P → IfSome (option_map f o) Q
if-some-map None f P Q each p = tt
if-some-map (Some d) f P Q each p = each d p

-- what happened at one device leaves the others
have-changed : (ports : List Mac) (log later : List Event) (k : ℕ) (change : Device → Device) (devices : List Device)
    → ((n : ℕ) → n ≢ k → path_log later n ≡ path_log log n)
    → ((d : Device) → HasPaths ports (path_log log k) d → HasPaths ports (path_log later k) (change d)) → HaveAll ports log devices
    → HaveAll ports later (change_at k change devices)
have-changed ports log later k change devices others here have n = elim (cases_Bool (nat_eq n k)) [
  | inl same ↦
      let is : n ≡ k = eqb-true n k same in
      rw is (rw (slice-changed k change devices)
      (if-some-map (slice_get devices k) change (HasPaths ports (path_log log k)) (HasPaths ports (path_log later k)) here (have k)))
  | inr out ↦
      let other : n ≢ k = λ same. (let is : nat_eq n k ≡ true = eq-eqb n k same in absurd cc) in
      rw (slice-others n k change devices other) (rw (others n other) (have n))
]

-- a change that leaves what is known of a device and its paths
pub have-kept : (ports : List Mac) (log later : List Event) (k : ℕ) (change : Device → Device) (devices : List Device)
    → ((n : ℕ) → path_log later n ≡ path_log log n)
    → ((d : Device) → (change d).about ≡ d.about) → ((d : Device) → (change d).paths ≡ d.paths) → HaveAll ports log devices
    → HaveAll ports later (change_at k change devices)
have-kept ports log later k change devices same about paths have =
    have-changed ports log later k change devices (λ n other. same n) here have
  where
    here : (d : Device) → HasPaths ports (path_log log k) d → HasPaths ports (path_log later k) (change d)
    here d has = rw (same k) (record { locals = rw (paths d) has.locals; remotes = rw (paths d, about d) has.remotes; recalls = rw (paths d) has.recalls })

pub have-at : (ports : List Mac) (log : List Event) (now : ℕ) (devices : List Device) → HaveAll ports log devices
    → HaveAll ports log (map (device_at now) devices)
have-at ports log now devices have n =
    let P : Option Device → Type 0 = λ o. IfSome o (HasPaths ports (path_log log n)) in
    subst P (sym (slice_get-map (device_at now) devices n))
    (if-some-map (slice_get devices n) (device_at now) (HasPaths ports (path_log log n)) (HasPaths ports (path_log log n))
    (λ d has. record { locals = has.locals; remotes = has.remotes; recalls = has.recalls }) (have n))

-- ---- the command of an event

pub found-one : (n : ℕ) (cs : List HostCommand) (c : HostCommand) (t : Ticket) → Ascends n cs → Contains cs c → c.ticket.0 ≡ t.0 → with_ticket t cs ≡ Some c
found-one n [] c t up there is = absurd (omega (arith, there.1))
found-one n (x ∷ cs) c t up there is = elim (Contains-cons_cases x c cs there) [
  | inl same ↦
      let here : nat_eq x.ticket.0 t.0 ≡ true = eq-eqb x.ticket.0 t.0 (ap (λ (e : HostCommand). e.ticket.0) same ∙ is) in
      rw here (ap (λ (e : HostCommand). Some e) same)
  | inr behind ↦
      let above : x.ticket.0 < c.ticket.0 = All-contains (λ y. x.ticket.0 < y.ticket.0) cs c (ascends-all x.ticket.0 cs up.1) behind in
      let other : nat_eq x.ticket.0 t.0 ≡ false = ne_eqb x.ticket.0 t.0 (λ equal. absurd (omega (arith, above, equal, is))) in
      rw other (found-one x.ticket.0 cs c t up.1 behind is)
]

-- ---- a send

-- the path of the frame before
abbrev pub path_before : Option Sending → Option PathNo
path_before sends = option_map (λ s. s.path) sends

-- where an answer was missed, the path is marked
recalls-marked : (table : PathTable) (happened : List PathEvent) (sends : Option Sending) → Recalls table happened
    → Recalls (record table { marks = marks_after (path_before sends) table.marks }) (missed_by sends happened)
recalls-marked table happened None r = r
recalls-marked table happened (Some s) r = recalls-missed table happened s.path.0 r

recalls-routed : (table : PathTable) (happened : List PathEvent) (sends : Option Sending) (path : PathNo) → Recalls table happened
    → Recalls (after_choice (path_before sends) path table) (Chosen path.0 ∷ missed_by sends happened)
recalls-routed table happened sends path r =
    recalls-chosen (record table { marks = marks_after (path_before sends) table.marks }) (missed_by sends happened) path.0
    (recalls-marked table happened sends r)

pub have-sent : (ports : List Mac) (log : List Event) (c : HostCommand) (t : Ticket) (tag : ℕ) (now : Millis) (path : PathNo) (devices : List Device)
    → with_ticket t (commands log) ≡ Some c → HaveAll ports log devices
    → HaveAll ports (Sends t tag path ∷ log) (change_at c.device.0 (device_sent t now (path_before c.sends) path) devices)
have-sent ports log c t tag now path devices found have =
    have-changed ports log (Sends t tag path ∷ log) c.device.0 (device_sent t now (path_before c.sends) path) devices elsewhere here have
  where
    elsewhere : (n : ℕ) → n ≢ c.device.0 → path_log (Sends t tag path ∷ log) n ≡ path_log log n
    elsewhere n other =
        let away : is_at n c ≡ false = ne_eqb c.device.0 n (λ same. other (sym same)) in
        rw (found, away) refl

    here : (d : Device) → HasPaths ports (path_log log c.device.0) d → HasPaths ports (path_log (Sends t tag path ∷ log) c.device.0)
        (device_sent t now (path_before c.sends) path d)
    here d has =
        let at_it : is_at c.device.0 c ≡ true = eq-eqb c.device.0 c.device.0 refl in
        let is : path_log (Sends t tag path ∷ log) c.device.0 ≡ Chosen path.0 ∷ missed_by c.sends (path_log log c.device.0) = rw (found, at_it) refl in
        rw is (record { locals = has.locals; remotes = has.remotes; recalls = recalls-routed d.paths (path_log log c.device.0) c.sends path has.recalls })

-- how long an answer on a path to each device is waited for
abbrev pub timeouts_on : List Event → PathNo → ℕ → ℕ
timeouts_on log path n = timeout_on (path_log log n) path.0

-- ---- a route, as the log has it

pub has-paths : (host : Host) (log : List Event) (n : ℕ) (d : Device) → Matches log host → slice_get host.devices n ≡ Some d
    → HasPaths host.ports (path_log log n) d
has-paths host log n d m there = let P : Option Device → Type 0 = λ o. IfSome o (HasPaths host.ports (path_log log n)) in subst P there (m.paths n)

pub route-spelled : (host : Host) (op : Op) (n : DeviceNo) (happened : List PathEvent) (d : Device) (missed : Option PathNo) (route : Route) (tag : ℕ)
    (frame : List ℕ) → HasPaths host.ports happened d → slice_get host.devices n.0 ≡ Some d
    → IsRoute d missed route → frame ≡ request route.flush op route.target route.remote route.local tag → spelled_for host op n route.path tag ≡ Some frame
route-spelled host op n happened d missed route tag frame has there routed bytes =
    let pair : pair_at host.ports d.about.remotes.items route.path.0 ≡ Some (route.local, route.remote) = rw (← has.locals, ← has.remotes) routed.pair in
    rw (there, pair, bytes, routed.flush, routed.target) refl

pub route-next : (host : Host) (n : ℕ) (happened : List PathEvent) (d : Device) (sends : Option Sending) (route : Route) → HasPaths host.ports happened d
    → slice_get host.devices n ≡ Some d
    → IsRoute d (path_before sends) route → route.path.0 ≡ next_of (paths_to host n) (missed_by sends happened)
route-next host n happened d sends route has there routed =
    let table : PathTable = record d.paths { marks = marks_after (path_before sends) d.paths.marks } in
    let count : path_count d.paths ≡ paths_to host n = rw (there, has.locals, has.remotes) refl in
    routed.next ∙ next-recalled table (missed_by sends happened) (recalls-marked d.paths happened sends has.recalls)
    ∙ ap (λ (k : ℕ). next_of k (missed_by sends happened)) count

pub route-timeout : (ports : List Mac) (happened : List PathEvent) (d : Device) (missed : Option PathNo) (route : Route) → HasPaths ports happened d
    → IsRoute d missed route → route.timeout.0 ≡ timeout_on happened route.path.0
route-timeout ports happened d missed route has routed = routed.timeout ∙ timeout-recalled d.paths happened route.path.0 has.recalls routed.inside

-- ---- an end

-- the response that came on a path, if one did
abbrev pub arrival_on : ℕ → Option PathNo → Option Sending → Option Arrival
arrival_on now path sends = option_map (λ p. record { path = p; trip = trip_of now sends }) path

pub have-ended : (ports : List Mac) (log : List Event) (c : HostCommand) (t : Ticket) (path : Option PathNo) (devices : List Device)
    → with_ticket t (commands log) ≡ Some c → HaveAll ports log devices
    → HaveAll ports (Ends t path ∷ log) (change_at c.device.0 (device_finished t (arrival_on (clock log) path c.sends)) devices)
have-ended ports log c t None devices found have =
    have-kept ports log (Ends t None ∷ log) c.device.0 (device_finished t None) devices (λ n. refl) (λ d. refl) (λ d. refl) have
have-ended ports log c t (Some path) devices found have =
    have-changed ports log (Ends t (Some path) ∷ log) c.device.0 (device_finished t (arrival_on (clock log) (Some path) c.sends)) devices elsewhere here have
  where
    elsewhere : (n : ℕ) → n ≢ c.device.0 → path_log (Ends t (Some path) ∷ log) n ≡ path_log log n
    elsewhere n other =
        let away : is_at n c ≡ false = ne_eqb c.device.0 n (λ same. other (sym same)) in
        rw (found, away) refl

    here : (d : Device) → HasPaths ports (path_log log c.device.0) d → HasPaths ports (path_log (Ends t (Some path) ∷ log) c.device.0)
        (device_finished t (arrival_on (clock log) (Some path) c.sends) d)
    here d has =
        let at_it : is_at c.device.0 c ≡ true = eq-eqb c.device.0 c.device.0 refl in
        let is : path_log (Ends t (Some path) ∷ log) c.device.0 ≡ Answered path.0 (trip_of (clock log) c.sends) ∷ path_log log c.device.0 =
        rw (found, at_it) refl in
        rw is (record {
          locals = has.locals;
          remotes = has.remotes;
          recalls = recalls-answered d.paths (path_log log c.device.0) path.0 (trip_of (clock log) c.sends) has.recalls;
        })

-- ---- an attachment

-- the command that is found is at no device from a number on
below-found : (n : ℕ) (cs : List HostCommand) (t : Ticket) (c : HostCommand) → All (λ x. x.device.0 < n) cs → with_ticket t cs ≡ Some c → c.device.0 < n
below-found n [] t c all is = absurd cc
below-found n (x ∷ cs) t c all is = at (nat_eq x.ticket.0 t.0) is (below-found n cs t c (All-tail (λ y. y.device.0 < n) x cs all))
  where
    at : (b : Bool) → cond b (Some x) (with_ticket t cs) ≡ Some c → (with_ticket t cs ≡ Some c → c.device.0 < n) → c.device.0 < n
    at true same behind =
        let here : x ≡ c = cc in
        omega (arith, All-head (λ y. y.device.0 < n) x cs all, ap (λ (e : HostCommand). e.device.0) here)
    at false rest behind = behind rest

-- the devices of commands before a change
below-before : (n : ℕ) (t : Ticket) (change : HostCommand → HostCommand) (cs : List HostCommand) → Keeps change
    → All (λ x. x.device.0 < n) (map (at_ticket t change) cs) → All (λ x. x.device.0 < n) cs
below-before n t change [] keeps all = All-nil (λ x. x.device.0 < n)
below-before n t change (c ∷ cs) keeps all =
    All-cons (λ x. x.device.0 < n) c cs
    (omega (
      arith,
      All-head (λ x. x.device.0 < n) (at_ticket t change c) (map (at_ticket t change) cs) all,
      ap (λ (d : DeviceNo). d.0)
          (kept-device t change c keeps),
    ))
    (below-before n t change cs keeps (All-tail (λ x. x.device.0 < n) (at_ticket t change c) (map (at_ticket t change) cs) all))

below-front : (n : ℕ) (cs : List HostCommand) (c : HostCommand) → All (λ x. x.device.0 < n) (cs ++ c ∷ []) → All (λ x. x.device.0 < n) cs
below-front n [] c all = All-nil (λ x. x.device.0 < n)
below-front n (x ∷ cs) c all = All-cons (λ y. y.device.0 < n) x cs (All-head (λ y. y.device.0 < n) x (cs ++ c ∷ []) all)
    (below-front n cs c (All-tail (λ y. y.device.0 < n) x (cs ++ c ∷ []) all))

-- nothing happened on the paths to a device without commands
nothing-happened : (n : ℕ) (log : List Event) → All (λ c. c.device.0 < n) (commands log) → path_log log n ≡ []
nothing-happened n [] all = refl
nothing-happened n (Submits t device op ∷ log) all = nothing-happened n log (below-front n (commands log) (submitted t device op) all)
nothing-happened n (Sends t tag path ∷ log) all = at (with_ticket t (commands log)) refl (nothing-happened n log before)
  where
    before : All (λ c. c.device.0 < n) (commands log)
    before =
        let timeouts : ℕ → ℕ = λ m. timeout_on (path_log log m) path.0 in
        below-before n t (after_send tag (record { 0 = clock log }) path timeouts) (commands log) (send-keeps tag (record { 0 = clock log }) path timeouts) all

    at : (o : Option HostCommand) → with_ticket t (commands log) ≡ o → path_log log n ≡ [] → after_frame n path o (path_log log n) ≡ []
    at None is earlier = earlier
    at (Some c) is earlier =
        let away : is_at n c ≡ false = ne_eqb c.device.0 n (λ same. absurd (omega (arith, same, below-found n (commands log) t c before is))) in
        rw away earlier
nothing-happened n (Ends t path ∷ log) all = at path (with_ticket t (commands log)) refl (nothing-happened n log before)
  where
    before : All (λ c. c.device.0 < n) (commands log)
    before = below-before n t after_end (commands log) end-keeps all

    at : (p : Option PathNo) (o : Option HostCommand) → with_ticket t (commands log) ≡ o → path_log log n ≡ []
        → after_response n p (clock log) o (path_log log n) ≡ []
    at None o is earlier = earlier
    at (Some p) None is earlier = earlier
    at (Some p) (Some c) is earlier =
        let away : is_at n c ≡ false = ne_eqb c.device.0 n (λ same. absurd (omega (arith, same, below-found n (commands log) t c before is))) in
        rw away earlier
nothing-happened n (Advances now ∷ log) all = nothing-happened n log all

slice-pushed : (devices : List Device) (d : Device) (n : ℕ) (P : ℕ → Device → Type 0) → ((m : ℕ) → IfSome (slice_get devices m) (P m)) → P (length devices) d
    → IfSome (slice_get (devices ++ d ∷ []) n) (P n)
slice-pushed [] d zero P each new = new
slice-pushed [] d (suc n) P each new = tt
slice-pushed (x ∷ devices) d zero P each new = each zero
slice-pushed (x ∷ devices) d (suc n) P each new = slice-pushed devices d n (λ m. P (suc m)) (λ m. each (suc m)) new

pub have-attached : (ports : List Mac) (log : List Event) (devices : List Device) (d : Device) → All (λ c. c.device.0 < length devices) (commands log)
    → d.paths ≡ new_paths ports d.about.remotes.items
    → HaveAll ports log devices → HaveAll ports log (devices ++ d ∷ [])
have-attached ports log devices d below fresh have n =
    let none : path_log log (length devices) ≡ [] = nothing-happened (length devices) log below in
    let new : HasPaths ports (path_log log (length devices)) d = record {
      locals = ap (λ (t : PathTable). t.locals) fresh;
      remotes = ap (λ (t : PathTable). t.remotes) fresh;
      recalls = rw (fresh, none) (recalls-new ports d.about.remotes.items);
    } in
    slice-pushed devices d n (λ m. HasPaths ports (path_log log m)) have new
