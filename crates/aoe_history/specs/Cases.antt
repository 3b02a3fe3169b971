-- Worked histories, the latest entry first.
use Rattle.std.specs.Prelude.{ℕ, List, [], ◌∷◌, true, false, drop, None, Some}
use Rattle.aoe_disk.specs.declared.loss.Loss.{Loss}
use Rattle.aoe_disk.specs.declared.loss.Loss.TheVariants.{Keep, Old, Torn}
use Rattle.aoe_disk.specs.Loss.{left_of}
use Rattle.aoe_ata.specs.declared.reply.AtaOutcome.TheVariants.{Done as Good, Aborted}
use Rattle.aoe_frame.specs.Header.{fields}
use Rattle.aoe_base.specs.declared.refusal.AoeError.TheVariants.{TargetIsReserved}
use Rattle.aoe_initiator.specs.declared.op.Op.TheVariants.{Read, Write, Flush, Masks, Reserve}
use Rattle.aoe_initiator.specs.declared.outcome.Outcome.TheVariants.{Read as ReadOutcome, Written, Flushed, Told, AtaError, AoeError, GaveUp}
use Rattle.aoe_lists.specs.Settings.{empty_settings}
use Rattle.aoe_target.specs.declared.heard.Effect.TheVariants.{None as NoEffect, Wrote, Synced, Edited, WriteFault}
use Rattle.aoe_target.specs.Reply.{repeated, spelled}
use Rattle.aoe_history.specs.declared.entry.Entry.{Entry}
use Rattle.aoe_history.specs.declared.entry.Entry.TheVariants.{Submitted, Sent, Injected, Arrived, Took, Done, Ticked, Lost, Armed, Crashed}
use Rattle.aoe_history.specs.declared.entry.Fate.TheVariants.{Cut, Replied}
use Rattle.aoe_script.specs.declared.event.Which.TheVariants.{Store}
use Rattle.aoe_history.specs.Example.{a, ask, b, device, full, port, show, slot, span, tell}
use Rattle.aoe_history.specs.Groups.{Act, Crash, Hand, Host, Shelf, Submit, Tick}
use Rattle.aoe_history.specs.Slots.{zero_sector}

-- THE CENTRAL CASE: a write is acknowledged, a flush waits until no frame of the write can arrive, and then a crash changes
-- nothing that the host reads

abbrev pub write_frame : List ℕ
write_frame = ask 10 (Write 3 (full 0x5a)) 1

abbrev pub flush_frame : List ℕ
flush_frame = ask 10 Flush 2

abbrev pub read_frame : ℕ → List ℕ
read_frame tag = ask 10 (Read (span 3)) tag

abbrev pub stored : List Entry
stored =
    Arrived device 1 (Replied (Wrote (span 3)) 2 (tell write_frame Good)) ∷ Sent a 1 1 write_frame ∷ Submitted a 1 device (Write 3 (full 0x5a)) ∷ []

-- the write is acknowledged
abbrev pub acknowledged : List Entry
acknowledged = Done a 1 Written ∷ Took a 2 false ∷ stored

-- a flush waits for as long as a frame of the write can arrive, and one millisecond more
abbrev pub almost_waited : List Entry
almost_waited = Ticked 2000 ∷ Submitted a 2 device Flush ∷ acknowledged

abbrev pub waited : List Entry
waited = Ticked 1 ∷ almost_waited

abbrev pub flush_sent : List Entry
flush_sent = Lost 1 ∷ Sent a 2 3 flush_frame ∷ waited

-- it is acknowledged, the slot loses its power, and the sector is read
abbrev pub flushed : List Entry
flushed = Done a 2 Flushed ∷ Took a 4 false ∷ Arrived device 3 (Replied Synced 4 (tell flush_frame Good)) ∷ flush_sent

abbrev pub central_case : List Entry
central_case =
    Done a 3 (ReadOutcome (full 0x5a)) ∷ Took a 6 false ∷ Arrived device 5 (Replied NoEffect 6 (show (read_frame 3) (full 0x5a)))
    ∷ Sent a 3 5 (read_frame 3) ∷ Submitted a 3 device (Read (span 3)) ∷ Crashed device empty_settings Old ∷ Lost 1 ∷ flushed

-- the acts that it comes of
abbrev pub central_acts : List Act
central_acts =
    Submit a device (Write 3 (full 0x5a)) ∷ Hand 1 (Shelf 1) ∷ Hand 2 (Host a) ∷ Submit a device Flush ∷ Tick 2000 ∷ Tick 1 ∷ Hand 1 (Shelf 1) ∷ Hand 3 (Shelf 1)
    ∷ Hand 4 (Host a) ∷ Hand 1 (Shelf 1) ∷ Crash 1 Old ∷ Submit a device (Read (span 3)) ∷ Hand 5 (Shelf 1) ∷ Hand 6 (Host a) ∷ []

-- A LATE ACKNOWLEDGEMENT: the slot loses its power before the host hears of its write

abbrev pub torn_sector : List ℕ
torn_sector = left_of Torn 3 (full 0x5a) zero_sector

abbrev pub late_acknowledgement : List Entry
late_acknowledgement =
    Done a 2 (ReadOutcome torn_sector) ∷ Took a 4 false ∷ Arrived device 3 (Replied NoEffect 4 (show (read_frame 2) torn_sector))
    ∷ Sent a 2 3 (read_frame 2) ∷ Submitted a 2 device (Read (span 3)) ∷ Done a 1 Written ∷ Took a 2 false ∷ Crashed device empty_settings Torn ∷ stored

-- A STOP IN A FLUSH, of which a crash leaves what its mode says

abbrev pub left_sector : Loss → List ℕ
left_sector how = left_of how 3 (full 0x5a) zero_sector

abbrev pub stopped : Loss → List Entry
stopped how =
    Crashed device empty_settings how ∷ Arrived device 3 Cut ∷ Sent a 2 3 flush_frame ∷ Submitted a 2 device Flush ∷ Ticked 2001
    ∷ Armed device Store 1 (Some how) ∷ acknowledged

abbrev pub stopped_flush : Loss → List Entry
stopped_flush how =
    Done a 3 (ReadOutcome (left_sector how)) ∷ Took a 5 false ∷ Arrived device 4 (Replied NoEffect 5 (show (read_frame 3) (left_sector how)))
    ∷ Sent a 3 4 (read_frame 3) ∷ Submitted a 3 device (Read (span 3)) ∷ stopped how

-- A STALE RESPONSE: a read is repeated, and the responses to both of its frames come again later

abbrev pub first_read : ℕ → List ℕ
first_read tag = ask 10 (Read (span 0)) tag

abbrev pub second_write : List ℕ
second_write = ask 10 (Write 0 (full 0x22)) 2

abbrev pub read_twice : List Entry
read_twice =
    Done a 1 (ReadOutcome zero_sector) ∷ Took a 4 false ∷ Arrived device 3 (Replied NoEffect 4 (show (first_read 1) zero_sector)) ∷ Sent a 1 3 (first_read 1)
    ∷ Ticked 1000 ∷ Lost 2 ∷ Arrived device 1 (Replied NoEffect 2 (show (first_read 1) zero_sector)) ∷ Sent a 1 1 (first_read 1)
    ∷ Submitted a 1 device (Read (span 0)) ∷ []

abbrev pub stale_response : List Entry
stale_response =
    Done a 3 (ReadOutcome (full 0x22)) ∷ Took a 8 false ∷ Arrived device 7 (Replied NoEffect 8 (show (first_read 3) (full 0x22))) ∷ Took a 2 true
    ∷ Sent a 3 7 (first_read 3) ∷ Submitted a 3 device (Read (span 0)) ∷ Took a 4 true ∷ Done a 2 Written ∷ Took a 6 false
    ∷ Arrived device 5 (Replied (Wrote (span 0)) 6 (tell second_write Good)) ∷ Took a 2 true ∷ Sent a 2 5 second_write
    ∷ Submitted a 2 device (Write 0 (full 0x22)) ∷ read_twice

-- A REFUSAL AFTER AN EFFECT: a write is done, and its repeat comes when another host has the reservation

abbrev pub early_write : List ℕ
early_write = ask 10 (Write 0 (full 0x11)) 1

abbrev pub reserve_frame : List ℕ
reserve_frame = ask 11 (Reserve 2 (record { items = port 11 ∷ [] })) 1

abbrev pub release_frame : List ℕ
release_frame = ask 11 (Reserve 2 (record { items = [] })) 2

abbrev pub late_read : List ℕ
late_read = ask 10 (Read (span 0)) 2

-- the arguments of a reply that tells the reserve list
abbrev pub reserved_args : List ℕ
reserved_args = 2 ∷ 1 ∷ (port 11).0

abbrev pub released_args : List ℕ
released_args = 2 ∷ 0 ∷ []

abbrev pub reserved : List Entry
reserved =
    Done b 1 (Told (record { items = reserved_args })) ∷ Took b 4 false
    ∷ Arrived device 3 (Replied Edited 4 (spelled slot.station (fields reserve_frame) None reserved_args)) ∷ Sent b 1 3 reserve_frame
    ∷ Submitted b 1 device (Reserve 2 (record { items = port 11 ∷ [] })) ∷ Lost 2
    ∷ Arrived device 1 (Replied (Wrote (span 0)) 2 (tell early_write Good)) ∷ Sent a 1 1 early_write ∷ Submitted a 1 device (Write 0 (full 0x11)) ∷ []

abbrev pub refused_repeat : List Entry
refused_repeat =
    Done a 1 (AoeError 6) ∷ Took a 6 false
    ∷ Arrived device 5 (Replied NoEffect 6 (spelled slot.station (fields early_write) (Some TargetIsReserved) (repeated early_write))) ∷ Sent a 1 5 early_write
    ∷ Ticked 1000 ∷ reserved

abbrev pub refusal_after_effect : List Entry
refusal_after_effect =
    Done a 2 (ReadOutcome (full 0x11)) ∷ Took a 10 false ∷ Arrived device 9 (Replied NoEffect 10 (show late_read (full 0x11))) ∷ Sent a 2 9 late_read
    ∷ Submitted a 2 device (Read (span 0)) ∷ Done b 2 (Told (record { items = released_args })) ∷ Took b 8 false
    ∷ Arrived device 7 (Replied Edited 8 (spelled slot.station (fields release_frame) None released_args)) ∷ Sent b 2 7 release_frame ∷ Ticked 1001
    ∷ Submitted b 2 device (Reserve 2 (record { items = [] })) ∷ refused_repeat

-- GIVING UP, and A FAILED WRITE

abbrev pub ones_frame : List ℕ
ones_frame = ask 10 (Write 0 (full 0x01)) 1

abbrev pub giving_up : List Entry
giving_up =
    Done a 1 (GaveUp (record { 0 = 0 }) (record { 0 = 180000 })) ∷ Ticked 180000 ∷ Sent a 1 1 ones_frame ∷ Submitted a 1 device (Write 0 (full 0x01)) ∷ []

abbrev pub failed_write : List Entry
failed_write =
    Done a 1 (AtaError 0x41 0x04) ∷ Took a 2 false ∷ Arrived device 1 (Replied (WriteFault (span 0)) 2 (tell ones_frame Aborted)) ∷ Sent a 1 1 ones_frame
    ∷ Submitted a 1 device (Write 0 (full 0x01)) ∷ Armed device Store 1 None ∷ []

-- A CACHE: a crash leaves of a store with a cache what it had at its last sync, and of one without what was written

abbrev pub crashed_write : List Entry
crashed_write = Sent a 2 3 (read_frame 2) ∷ Submitted a 2 device (Read (span 3)) ∷ Crashed device empty_settings Keep ∷ acknowledged

abbrev pub read_after_crash : List ℕ → List Entry
read_after_crash bytes =
    Done a 2 (ReadOutcome bytes) ∷ Took a 4 false ∷ Arrived device 3 (Replied NoEffect 4 (show (read_frame 2) bytes)) ∷ crashed_write

-- WHAT WRONG HOSTS AND SHELVES WOULD DO

-- a second write of a sector whose first was acknowledged
abbrev pub second_submitted : List Entry
second_submitted = Submitted a 2 device (Write 3 (full 0x22)) ∷ acknowledged

-- a read beside it
abbrev pub beside_submitted : List Entry
beside_submitted = Submitted a 2 device (Read (span 0)) ∷ acknowledged

-- a frame that says what the reply to the write says, and comes from elsewhere
abbrev pub forged : List ℕ
forged = spelled (record slot.station { ports = record { items = port 99 ∷ [] } }) (record (fields write_frame) { dst = port 99 }) None (drop 24 (tell write_frame Good))

abbrev pub forged_response : List Entry
forged_response = Injected 2 forged ∷ Sent a 1 1 write_frame ∷ Submitted a 1 device (Write 3 (full 0x5a)) ∷ []

-- a write that waits to be sent, and one that waits too long for its response
abbrev pub write_submitted : List Entry
write_submitted = Submitted a 1 device (Write 3 (full 0x5a)) ∷ []

abbrev pub write_sent : List Entry
write_sent = Sent a 1 1 write_frame ∷ write_submitted

abbrev pub write_due : List Entry
write_due = Ticked 1000 ∷ write_sent

-- the write of a host that another one's reservation keeps out, and of one that the mask list keeps out
abbrev pub kept_out : List Entry
kept_out = Sent a 1 5 early_write ∷ Ticked 1000 ∷ reserved

abbrev pub mask_frame : List ℕ
mask_frame = ask 11 (Masks true (record { items = record { add = true; mac = port 11 } ∷ [] })) 1

abbrev pub masked_out : List Entry
masked_out = Sent a 1 3 early_write ∷ Arrived device 1 (Replied Edited 2 []) ∷ Sent b 1 1 mask_frame ∷ []

-- a store that is armed for its k-th call, and a write
abbrev pub armed : ℕ → List Entry
armed k = Sent a 1 1 ones_frame ∷ Submitted a 1 device (Write 0 (full 0x01)) ∷ Armed device Store k None ∷ []
