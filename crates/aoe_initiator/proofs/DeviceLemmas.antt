-- What the devices of a host recall after each step.
use Rattle.std.proofs.Common.{ℕ, zero, suc, ◌≡◌, ◌≢◌, ◌+◌, ◌<◌, ◌≤◌, Bool, true, false, List, [], ◌∷◌, ◌++◌, length, map, take, drop, get_or, set, Option, Some, None, refl, sym, ap, subst, ◌∙◌, arith, min, nat_le, nat_lt, ◌||◌, ◌^◌, cond, add-one, zero-add, append-nil, append_assoc}
use Rattle.std.specs.Prelude.{slice_get, All, Contains, IfNone, IfSome}
use Rattle.std.specs.Option.{option_map_or}
use Rattle.std.proofs.lemmas.Bool.{lt-leb, lt-ltb, ltb-false, ltb-true, or_left}
use Rattle.std.proofs.lemmas.Bool.Decides.{nat_tests}
use Rattle.std.proofs.lemmas.List.{take_all}
use Rattle.std.proofs.lemmas.List.Elements.{All-append, All-cons, All-head, All-tail, All-weaker, Contains-append_left, Contains-append_right}
use Rattle.aoe_base.specs.declared.counted.DeviceNo.{DeviceNo}
use Rattle.aoe_base.specs.declared.counted.Millis.{Millis}
use Rattle.aoe_base.specs.declared.counted.PathNo.{PathNo}
use Rattle.aoe_base.specs.declared.counted.Ticket.{Ticket}
use Rattle.aoe_hold.specs.declared.command.Command.{Command}
use Rattle.aoe_hold.specs.Commands.{after_stage, clear_tickets, live, stage_finished, stage_sent, unsent_count}
use Rattle.aoe_hold.specs.HoldTable.{after_finish, after_send, at_time, new_command, with_command, HoldTable, Recalls}
use Rattle.aoe_hold.proofs.LiveLemmas.{count-same, live-live, live-same, recalls-after_stage, recalls-enter}
use Rattle.aoe_initiator.specs.declared.device.Arrival.{Arrival}
use Rattle.aoe_initiator.specs.declared.device.Device.{Device}
use Rattle.aoe_initiator.specs.declared.op.Op.{Op}
use Rattle.aoe_initiator.specs.Devices.{all_clear, change_at, device_at, device_finished, device_sent, lower_of, IsLowest}
use Rattle.aoe_initiator.specs.Host.{RecallAll}
use Rattle.aoe_initiator.specs.HostLog.{after_end, after_send as command_sent, at_ticket, entered_at, submitted, HostCommand}
use Rattle.aoe_initiator.specs.Op.{kind_of, span_of}
use Rattle.aoe_initiator.proofs.LogLemmas.{end-keeps, entered-elsewhere, entered-ended, entered-others, entered-sent, entered-submitted, send-keeps}

-- ---- one device

hold-sent : (t : HoldTable) (entered : List Command) (ticket : ℕ) (now : Millis) → t.latest ≤ now.0 → Recalls t entered
    → Recalls (after_send t ticket now) (after_stage ticket (stage_sent now) entered)
hold-sent t entered ticket now later recalls = recalls-after_stage t.life t.latest now.0 ticket (stage_sent now) t.commands entered later (λ last. refl) recalls

hold-finished : (t : HoldTable) (entered : List Command) (ticket : ℕ) → Recalls t entered
    → Recalls (after_finish t ticket) (after_stage ticket stage_finished entered)
hold-finished t entered ticket recalls = recalls-after_stage t.life t.latest t.latest ticket stage_finished t.commands entered (omega arith)
    (λ last. refl) recalls

hold-at : (t : HoldTable) (entered : List Command) (now : ℕ) → t.latest ≤ now → Recalls t entered → Recalls (at_time t now) entered
hold-at t entered now later recalls = live-same t.life t.latest now t.commands entered later recalls

hold-entered : (t : HoldTable) (entered : List Command) (c : Command) → Recalls t entered → Recalls (with_command t c) (entered ++ c ∷ [])
hold-entered t entered c recalls = recalls-enter t.life t.latest c (live t.life t.latest t.commands) entered
    (live-live t.life t.latest t.latest t.commands (omega arith) ∙ recalls)

recalls-of : (t : HoldTable) (one other : List Command) → one ≡ other → Recalls t one → Recalls t other
recalls-of t one other same recalls = recalls ∙ ap (live t.life t.latest) same

-- ---- all devices

pub length-change_at : (n : ℕ) (change : Device → Device) (devices : List Device) → length (change_at n change devices) ≡ length devices
length-change_at n change [] = refl
length-change_at zero change (d ∷ devices) = refl
length-change_at (suc n) change (d ∷ devices) = ap suc (length-change_at n change devices)

pub about-change_at : (n : ℕ) (change : Device → Device) (devices : List Device) → ((d : Device) → (change d).about ≡ d.about)
    → map (λ (d : Device). d.about) (change_at n change devices) ≡ map (λ (d : Device). d.about) devices
about-change_at n change [] keeps = refl
about-change_at zero change (d ∷ devices) keeps = rw (keeps d) refl
about-change_at (suc n) change (d ∷ devices) keeps = rw (about-change_at n change devices keeps) refl

pub All-change_at : (P : Device → Type 0) (n : ℕ) (change : Device → Device) (devices : List Device) → ((d : Device) → P d → P (change d)) → All P devices
    → All P (change_at n change devices)
All-change_at P n change [] keeps all = all
All-change_at P zero change (d ∷ devices) keeps all = All-cons P (change d) devices (keeps d (All-head P d devices all)) (All-tail P d devices all)
All-change_at P (suc n) change (d ∷ devices) keeps all = All-cons P d (change_at n change devices) (All-head P d devices all)
    (All-change_at P n change devices keeps (All-tail P d devices all))

-- an element that was read and changed is put back
pub set-change_at : (devices : List Device) (n : ℕ) (d : Device) (change : Device → Device) → n < length devices → d ≡ get_or devices n d
    → set devices n (change d) ≡ change_at n change devices
set-change_at [] n d change inside read = absurd (omega (arith, inside))
set-change_at (x ∷ devices) zero d change inside read = rw read refl
set-change_at (x ∷ devices) (suc n) d change inside read = ap (λ (l : List Device). x ∷ l) (set-change_at devices n d change (omega (arith, inside)) read)

-- ---- a send

recall-elsewhere : (life n : ℕ) (t : Ticket) (tag : ℕ) (now : Millis) (path : PathNo) (ts : ℕ → ℕ) (cs : List HostCommand) (devices : List Device)
    → All (λ x. x.ticket.0 ≡ t.0 → x.device.0 < n) cs
    → RecallAll life cs n devices → RecallAll life (map (at_ticket t (command_sent tag now path ts)) cs) n devices
recall-elsewhere life n t tag now path ts cs [] before recalls = recalls
recall-elsewhere life n t tag now path ts cs (d ∷ devices) before recalls = (
  recalls.0,
  recalls-of d.holds _ _ (sym (entered-others n t (command_sent tag now path ts) cs (send-keeps tag now path ts)
      (All-weaker (λ x. x.ticket.0 ≡ t.0 → x.device.0 < n) (λ x. x.ticket.0 ≡ t.0 → x.device.0 ≢ n)
      (λ x less same at_n. absurd (omega (arith, less same, at_n))) cs before))) recalls.1,
  recall-elsewhere life (n + 1) t tag now path ts cs devices
      (All-weaker (λ x. x.ticket.0 ≡ t.0 → x.device.0 < n) (λ x. x.ticket.0 ≡ t.0 → x.device.0 < n + 1) (λ x less same. omega (arith, less same)) cs before)
      recalls.2,
)

pub recall-sent : (life n k : ℕ) (t : Ticket) (tag : ℕ) (now : Millis) (path : PathNo) (ts : ℕ → ℕ) (missed : Option PathNo) (cs : List HostCommand)
    (devices : List Device) → All (λ x. x.ticket.0 ≡ t.0 → x.device.0 ≡ n + k) cs → All (λ x. x.ticket.0 ≡ t.0 → x.done ≡ false) cs
    → All (λ d. d.holds.latest ≤ now.0) devices → RecallAll life cs n devices
    → RecallAll life (map (at_ticket t (command_sent tag now path ts)) cs) n (change_at k (device_sent t now missed path) devices)
recall-sent life n k t tag now path ts missed cs [] place open_ times recalls = recalls
recall-sent life n zero t tag now path ts missed cs (d ∷ devices) place open_ times recalls = (
  recalls.0,
  recalls-of (after_send d.holds t.0 now) _ _ (sym (entered-sent n t tag now path ts cs open_))
      (hold-sent d.holds (entered_at n cs) t.0 now (All-head (λ e. e.holds.latest ≤ now.0) d devices times) recalls.1),
  recall-elsewhere life (n + 1) t tag now path ts cs devices
      (All-weaker (λ x. x.ticket.0 ≡ t.0 → x.device.0 ≡ n + zero) (λ x. x.ticket.0 ≡ t.0 → x.device.0 < n + 1) (λ x is same. omega (arith, is same)) cs place)
      recalls.2,
)
recall-sent life n (suc k) t tag now path ts missed cs (d ∷ devices) place open_ times recalls = (
  recalls.0,
  recalls-of d.holds _ _ (sym (entered-others n t (command_sent tag now path ts) cs (send-keeps tag now path ts)
      (All-weaker (λ x. x.ticket.0 ≡ t.0 → x.device.0 ≡ n + suc k) (λ x. x.ticket.0 ≡ t.0 → x.device.0 ≢ n)
      (λ x is same at_n. absurd (omega (arith, is same, at_n))) cs place))) recalls.1,
  recall-sent life (n + 1) k t tag now path ts missed cs devices
      (All-weaker (λ x. x.ticket.0 ≡ t.0 → x.device.0 ≡ n + suc k) (λ x. x.ticket.0 ≡ t.0 → x.device.0 ≡ n + 1 + k)
      (λ x is same. omega (arith, is same)) cs place)
      open_ (All-tail (λ e. e.holds.latest ≤ now.0) d devices times) recalls.2,
)

-- ---- an end

recall-elsewhere-ended : (life n : ℕ) (t : Ticket) (cs : List HostCommand) (devices : List Device) → All (λ x. x.ticket.0 ≡ t.0 → x.device.0 < n) cs
    → RecallAll life cs n devices → RecallAll life (map (at_ticket t after_end) cs) n devices
recall-elsewhere-ended life n t cs [] before recalls = recalls
recall-elsewhere-ended life n t cs (d ∷ devices) before recalls = (
  recalls.0,
  recalls-of d.holds _ _ (sym (entered-others n t after_end cs end-keeps
      (All-weaker (λ x. x.ticket.0 ≡ t.0 → x.device.0 < n) (λ x. x.ticket.0 ≡ t.0 → x.device.0 ≢ n)
      (λ x less same at_n. absurd (omega (arith, less same, at_n))) cs before))) recalls.1,
  recall-elsewhere-ended life (n + 1) t cs devices
      (All-weaker (λ x. x.ticket.0 ≡ t.0 → x.device.0 < n) (λ x. x.ticket.0 ≡ t.0 → x.device.0 < n + 1) (λ x less same. omega (arith, less same)) cs before)
      recalls.2,
)

pub recall-ended : (life n k : ℕ) (t : Ticket) (came : Option Arrival) (cs : List HostCommand) (devices : List Device)
    → All (λ x. x.ticket.0 ≡ t.0 → x.device.0 ≡ n + k) cs → RecallAll life cs n devices
    → RecallAll life (map (at_ticket t after_end) cs) n (change_at k (device_finished t came) devices)
recall-ended life n k t came cs [] place recalls = recalls
recall-ended life n zero t came cs (d ∷ devices) place recalls = (
  recalls.0,
  recalls-of (after_finish d.holds t.0) _ _ (sym (entered-ended n t cs)) (hold-finished d.holds (entered_at n cs) t.0 recalls.1),
  recall-elsewhere-ended life (n + 1) t cs devices
      (All-weaker (λ x. x.ticket.0 ≡ t.0 → x.device.0 ≡ n + zero) (λ x. x.ticket.0 ≡ t.0 → x.device.0 < n + 1) (λ x is same. omega (arith, is same)) cs place)
      recalls.2,
)
recall-ended life n (suc k) t came cs (d ∷ devices) place recalls = (
  recalls.0,
  recalls-of d.holds _ _ (sym (entered-others n t after_end cs end-keeps
      (All-weaker (λ x. x.ticket.0 ≡ t.0 → x.device.0 ≡ n + suc k) (λ x. x.ticket.0 ≡ t.0 → x.device.0 ≢ n)
      (λ x is same at_n. absurd (omega (arith, is same, at_n))) cs place))) recalls.1,
  recall-ended life (n + 1) k t came cs devices
      (All-weaker (λ x. x.ticket.0 ≡ t.0 → x.device.0 ≡ n + suc k) (λ x. x.ticket.0 ≡ t.0 → x.device.0 ≡ n + 1 + k)
      (λ x is same. omega (arith, is same)) cs place) recalls.2,
)

-- ---- a submission

abbrev pub device_entered : Command → Device → Device
device_entered c d = record d { holds = with_command d.holds c }

recall-elsewhere-entered : (life n : ℕ) (cs : List HostCommand) (t : Ticket) (device : DeviceNo) (op : Op) (devices : List Device) → device.0 < n
    → RecallAll life cs n devices → RecallAll life (cs ++ submitted t device op ∷ []) n devices
recall-elsewhere-entered life n cs t device op [] before recalls = recalls
recall-elsewhere-entered life n cs t device op (d ∷ devices) before recalls = (
  recalls.0,
  recalls-of d.holds _ _ (sym (entered-elsewhere n cs t device op (λ at_n. absurd (omega (arith, before, at_n))))) recalls.1,
  recall-elsewhere-entered life (n + 1) cs t device op devices (omega (arith, before)) recalls.2,
)

pub recall-entered : (life n k : ℕ) (cs : List HostCommand) (t : Ticket) (device : DeviceNo) (op : Op) (devices : List Device) → device.0 ≡ n + k
    → RecallAll life cs n devices
    → RecallAll life (cs ++ submitted t device op ∷ []) n (change_at k (device_entered (new_command t (kind_of op) (span_of op))) devices)
recall-entered life n k cs t device op [] place recalls = recalls
recall-entered life n zero cs t device op (d ∷ devices) place recalls = (
  recalls.0,
  recalls-of (with_command d.holds (new_command t (kind_of op) (span_of op))) _ _ (sym (entered-submitted n cs t device op (omega (arith, place))))
      (hold-entered d.holds (entered_at n cs) (new_command t (kind_of op) (span_of op)) recalls.1),
  recall-elsewhere-entered life (n + 1) cs t device op devices (omega (arith, place)) recalls.2,
)
recall-entered life n (suc k) cs t device op (d ∷ devices) place recalls = (
  recalls.0,
  recalls-of d.holds _ _ (sym (entered-elsewhere n cs t device op (λ at_n. absurd (omega (arith, place, at_n))))) recalls.1,
  recall-entered life (n + 1) k cs t device op devices (omega (arith, place)) recalls.2,
)

-- ---- time

pub recall-at : (life n now : ℕ) (cs : List HostCommand) (devices : List Device) → All (λ d. d.holds.latest ≤ now) devices → RecallAll life cs n devices
    → RecallAll life cs n (map (device_at now) devices)
recall-at life n now cs [] times recalls = recalls
recall-at life n now cs (d ∷ devices) times recalls = (
  recalls.0,
  hold-at d.holds (entered_at n cs) now (All-head (λ e. e.holds.latest ≤ now) d devices times) recalls.1,
  recall-at life (n + 1) now cs devices (All-tail (λ e. e.holds.latest ≤ now) d devices times) recalls.2,
)

-- ---- the lowest ticket of a clear command

lower-append : (xs ys : List ℕ) (a b : Option Ticket) → IsLowest xs a → IsLowest ys b → IsLowest (xs ++ ys) (lower_of a b)
lower-append xs ys None None la lb = rw (la, lb) refl
lower-append xs ys None (Some b) la lb = let P : List ℕ → Type 0 = λ l. IsLowest (l ++ ys) (Some b) in subst P (sym la) lb
lower-append xs ys (Some a) None la lb = rw (lb, append-nil xs) la
lower-append xs ys (Some a) (Some b) la lb = at (nat_lt b.0 a.0) refl
  where
    at : (t : Bool) → nat_lt b.0 a.0 ≡ t → IsLowest (xs ++ ys) (cond t (Some b) (Some a))
    at true is =
        let less : b.0 < a.0 = ltb-true b.0 a.0 is in (
          Contains-append_right xs ys b.0 lb.0,
          All-append (λ other. b.0 ≤ other) xs ys
              (All-weaker (λ other. a.0 ≤ other) (λ other. b.0 ≤ other) (λ other above. omega (arith, less, above)) xs la.1) lb.1,
        )
    at false is =
        let le : a.0 ≤ b.0 = ltb-false b.0 a.0 is in (
          Contains-append_left xs ys a.0 la.0,
          All-append (λ other. a.0 ≤ other) xs ys la.1
              (All-weaker (λ other. b.0 ≤ other) (λ other. a.0 ≤ other) (λ other above. omega (arith, le, above)) ys lb.1),
        )

recall-get : (life n : ℕ) (cs : List HostCommand) (devices : List Device) (i : ℕ) (d : Device) → i < length devices → RecallAll life cs n devices
    → ((get_or devices i d).holds.life ≡ life) × Recalls (get_or devices i d).holds (entered_at (n + i) cs)
recall-get life n cs [] i d inside recalls = absurd (omega (arith, inside))
recall-get life n cs (x ∷ devices) zero d inside recalls =
    let same : n ≡ n + zero = omega arith in
    (recalls.0, rw (← same) recalls.1)
recall-get life n cs (x ∷ devices) (suc i) d inside recalls =
    let rest = recall-get life (n + 1) cs devices i d (omega (arith, inside)) recalls.2 in
    let same : n + 1 + i ≡ n + suc i = omega arith in
    (rest.0, rw (← same) rest.1)

clear-more : (life now n : ℕ) (cs : List HostCommand) (devices : List Device) (i : ℕ) → i < length devices
    → all_clear life now cs n (take (suc i) devices) ≡ all_clear life now cs n (take i devices) ++ clear_tickets life now (entered_at (n + i) cs)
clear-more life now n cs [] i inside = absurd (omega (arith, inside))
clear-more life now n cs (x ∷ devices) zero inside =
    let same : n + zero ≡ n = omega arith in
    rw same (append-nil (clear_tickets life now (entered_at n cs)))
clear-more life now n cs (x ∷ devices) (suc i) inside =
    let rest = clear-more life now (n + 1) cs devices i (omega (arith, inside)) in
    let same : n + suc i ≡ n + 1 + i = omega arith in
    rw (same, rest) (sym (append_assoc (clear_tickets life now (entered_at n cs)) (all_clear life now cs (n + 1) (take i devices))
    (clear_tickets life now (entered_at (n + 1 + i) cs))))

-- one more device has its turn
pub mapped-get : (f : Device → Device) (xs : List Device) (i : ℕ) (d : Device) → i < length xs → get_or (map f (take i xs) ++ drop i xs) i d ≡ get_or xs i d
mapped-get f [] i d inside = absurd (omega (arith, inside))
mapped-get f (x ∷ xs) zero d inside = refl
mapped-get f (x ∷ xs) (suc i) d inside = mapped-get f xs i d (omega (arith, inside))

mapped-set : (f : Device → Device) (xs : List Device) (i : ℕ) (d : Device) → i < length xs
    → set (map f (take i xs) ++ drop i xs) i (f (get_or xs i d)) ≡ map f (take (suc i) xs) ++ drop (suc i) xs
mapped-set f [] i d inside = absurd (omega (arith, inside))
mapped-set f (x ∷ xs) zero d inside = refl
mapped-set f (x ∷ xs) (suc i) d inside = ap (λ (l : List Device). f x ∷ l) (mapped-set f xs i d (omega (arith, inside)))

-- the item of a loop, as the devices had it before
pub item-before : (f : Device → Device) (xs items : List Device) (i : ℕ) (item : Device) → items ≡ map f (take i xs) ++ drop i xs → item ≡ get_or items i item
    → i < length xs → item ≡ get_or xs i item
item-before f xs items i item is read inside = read ∙ ap (λ (l : List Device). get_or l i item) is ∙ mapped-get f xs i item inside

pub items-after : (f : Device → Device) (xs items : List Device) (i : ℕ) (item new : Device) → items ≡ map f (take i xs) ++ drop i xs
    → item ≡ get_or items i item → i < length xs → new ≡ f item
    → set items i new ≡ map f (take (i + 1) xs) ++ drop (i + 1) xs
items-after f xs items i item new is read inside changed =
    let before = item-before f xs items i item is read inside in
    let next : i + 1 ≡ suc i = add-one i in
    let made : new ≡ f (get_or xs i item) = changed ∙ ap f before in
    rw (next, is, made) (mapped-set f xs i item inside)

pub lowest-after : (xs : List Device) (i now : ℕ) (item : Device) (lowest found after : Option Ticket) → i < length xs → item ≡ get_or xs i item
    → ((life : ℕ) (cs : List HostCommand) → RecallAll life cs 0 xs → IsLowest (all_clear life now cs 0 (take i xs)) lowest)
    → ((entered : List Command) → Recalls item.holds entered → IsLowest (clear_tickets item.holds.life now entered) found)
    → after ≡ lower_of lowest found
    → (life : ℕ) (cs : List HostCommand) → RecallAll life cs 0 xs → IsLowest (all_clear life now cs 0 (take (i + 1) xs)) after
lowest-after xs i now item lowest found after inside read before here is life cs recalls =
    let known = recall-get life 0 cs xs i item inside recalls in
    let zero_more : 0 + i ≡ i = zero-add i in
    let of_item = rw (← read) at known in
    let found_is : IsLowest (clear_tickets life now (entered_at (0 + i) cs)) found = rw (← of_item.0) (here (entered_at (0 + i) cs) of_item.1) in
    let next : i + 1 ≡ suc i = add-one i in
    rw (next, is) (rw (clear-more life now 0 cs xs i inside)
    (lower-append (all_clear life now cs 0 (take i xs)) (clear_tickets life now (entered_at (0 + i) cs)) lowest found (before life cs recalls) found_is))

-- what the search at one device gives
pub lowest-of : (table : HoldTable) (now : ℕ) (found : Option Ticket) → IfSome found
    (λ ticket. (entered : List Command) → Recalls table entered → Contains (clear_tickets table.life now entered) ticket.0)
    → IfSome found (λ ticket. (entered : List Command) → Recalls table entered → All (λ other. ticket.0 ≤ other) (clear_tickets table.life now entered))
    → IfNone found ((entered : List Command) → Recalls table entered → clear_tickets table.life now entered ≡ [])
    → (entered : List Command) → Recalls table entered → IsLowest (clear_tickets table.life now entered) found
lowest-of table now None clear lowest none entered recalls = none entered recalls
lowest-of table now (Some ticket) clear lowest none entered recalls = (clear entered recalls, lowest entered recalls)

-- ---- what is held

pub held-recalled : (life : ℕ) (cs : List HostCommand) (n k : ℕ) (devices : List Device) → RecallAll life cs n devices → k < length devices
    → option_map_or (λ (d : Device). unsent_count d.holds.commands) (slice_get devices k) 0 ≡ unsent_count (entered_at (n + k) cs)
held-recalled life cs n k [] recalls inside = absurd (omega (arith, inside))
held-recalled life cs n zero (d ∷ devices) recalls inside =
    let same : n + zero ≡ n = omega arith in
    rw same (count-same d.holds.life d.holds.latest d.holds.commands (entered_at n cs) recalls.1)
held-recalled life cs n (suc k) (d ∷ devices) recalls inside =
    let same : n + suc k ≡ n + 1 + k = omega arith in
    rw same (held-recalled life cs (n + 1) k devices recalls.2 (omega (arith, inside)))

-- ---- from when on a command is clear

-- from a time on one of the first devices has a clear command, and not before
abbrev pub ClearFrom : List Device → List Device → ℕ → Type 0
ClearFrom devices first from = (life : ℕ) (cs : List HostCommand) → RecallAll life cs 0 devices → (now : ℕ) → All (λ d. d.holds.latest ≤ now) devices
    → now < 2 ^ 64 → nat_lt 0 (length (all_clear life now cs 0 first)) ≡ nat_le from now

pub clear-none : (devices : List Device) → ClearFrom devices [] 340282366920938463463374607431768211455
clear-none devices life cs recalls now times small = sym (lt-leb 340282366920938463463374607431768211455 now (omega (arith, small)))

some-append : (xs ys : List ℕ) → nat_lt 0 (length (xs ++ ys)) ≡ (nat_lt 0 (length xs) || nat_lt 0 (length ys))
some-append [] ys = refl
some-append (x ∷ xs) ys = lt-ltb 0 _ (omega arith) ∙ sym (or_left _ (nat_lt 0 (length ys)) (lt-ltb 0 _ (omega arith)))

min-le : (a b now : ℕ) → nat_le (min a b) now ≡ (nat_le a now || nat_le b now)
min-le a b now = grind (arith, nat_tests)

joined : (xs ys : List ℕ) (a b now : ℕ) → nat_lt 0 (length xs) ≡ nat_le a now → nat_lt 0 (length ys) ≡ nat_le b now
    → nat_lt 0 (length (xs ++ ys)) ≡ nat_le (min a b) now
joined xs ys a b now one other = some-append xs ys ∙ rw (one, other) (sym (min-le a b now))

pub clear-more-from : (devices : List Device) (i : ℕ) (item : Device) (from here next : ℕ) → i < length devices → item ≡ get_or devices i item
    → ClearFrom devices (take i devices) from
    → ((entered : List Command) → Recalls item.holds entered → (now : ℕ) → item.holds.latest ≤ now → now < 2 ^ 64
    → nat_lt 0 (length (clear_tickets item.holds.life now entered)) ≡ nat_le here now)
    → next ≡ min from here → ClearFrom devices (take (i + 1) devices) next
clear-more-from devices i item from here next inside read before here_is is life cs recalls now times small =
    let known = rw (← read) at (recall-get life 0 cs devices i item inside recalls) in
    let late : item.holds.latest ≤ now = rw (← read) at (times i item inside) in
    let entered = entered_at (0 + i) cs in
    let found : nat_lt 0 (length (clear_tickets life now entered)) ≡ nat_le here now = rw (← known.0) (here_is entered known.1 now late small) in
    let place : i + 1 ≡ suc i = add-one i in
    rw (place, is) (rw (clear-more life now 0 cs devices i inside)
    (joined (all_clear life now cs 0 (take i devices)) (clear_tickets life now entered) from here now (before life cs recalls now times small) found))

pub clear-whole : (devices : List Device) (i from : ℕ) → length devices ≤ i → ClearFrom devices (take i devices) from → ClearFrom devices devices from
clear-whole devices i from least is = rw (take_all i devices least) at is
