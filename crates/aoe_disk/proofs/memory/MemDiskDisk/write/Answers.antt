use Rattle.std.proofs.Common.{◌≡◌, ◌*◌, ◌/◌, ℕ, length, ap, subst, sym}
use Rattle.std.specs.Bool.{OnTrue}
use Rattle.aoe_base.specs.Faults.{Rose}
use Rattle.aoe_disk.specs.State.{spoiled_sector}
use Rattle.aoe_disk.specs.Calls.{IsRange, MovesOn}
use Rattle.aoe_disk.specs.Memory.{schedule_of}
use Rattle.aoe_disk.proofs.Pieces.{stored_marks, stored_piece}
use Rattle.aoe_disk.proofs.MemoryCalls.{piece_fits, sector_fits, memory_put, memory_spoiled, memory_writes, memory_fails_to_write}
use Rattle.aoe_disk.proofs.memory.MemDiskDisk.write.Goals as goal

pub invariant_of-self : goal.invariant_of-self
invariant_of-self c =
    let count : length c.self.inside.loose.items ≡ length c.args.self.now.loose = ap (λ m. length m.loose) c.self.view_is in
    let range : IsRange c.args.at (length c.args.piece.now) (length c.self.inside.loose.items) =
    subst (λ (n : ℕ). IsRange c.args.at (length c.args.piece.now) n) (sym count) c.requires in
    let loose = stored_marks _ _ _ _ c.args.at (length c.args.piece.now / 512) c.self.inside.loose.ok.0 c.deref_mut.ensures.value c.mark.ensures range.within in
    let bytes = stored_piece _ _ _ spoiled_sector _ (512 * c.args.at) c.self.inside.bytes.ok.0 c.deref_mut-then-spoils.ensures.value c.spoil_at.ensures
    (sector_fits _ _ _ _ _ c.self.invariant c.args.at c.args.piece.now range _ _ c.fails-spoils.ensures.arming) in
    rw (loose, bytes) (memory_spoiled _ _ _ _ _ c.self.invariant c.args.at c.args.piece.now range _ _ c.fails-spoils.ensures.arming)

pub returns-then-spoils-clause-writes : goal.returns-then-spoils-clause-writes
returns-then-spoils-clause-writes c =
    let count : length c.self.inside.loose.items ≡ length c.args.self.now.loose = ap (λ m. length m.loose) c.self.view_is in
    let range : IsRange c.args.at (length c.args.piece.now) (length c.self.inside.loose.items) =
    subst (λ (n : ℕ). IsRange c.args.at (length c.args.piece.now) n) (sym count) c.requires in
    let loose = stored_marks _ _ _ _ c.args.at (length c.args.piece.now / 512) c.self.inside.loose.ok.0 c.deref_mut.ensures.value c.mark.ensures range.within in
    let bytes = stored_piece _ _ _ spoiled_sector _ (512 * c.args.at) c.self.inside.bytes.ok.0 c.deref_mut-then-spoils.ensures.value c.spoil_at.ensures
    (sector_fits _ _ _ _ _ c.self.invariant c.args.at c.args.piece.now range _ _ c.fails-spoils.ensures.arming) in
    let moves = subst (λ b. MovesOn 1 b c.self.inside.meter.faults c.fails-spoils.new.self.faults
    (schedule_of c.self.inside.meter.arming c.self.inside.meter.out) (schedule_of c.fails-spoils.new.self.arming c.fails-spoils.new.self.out))
    c.if-spoils.true c.fails-spoils.ensures.moves in
    let cause = subst (λ b. OnTrue b (Rose c.self.inside.meter.faults c.fails-spoils.new.self.faults)) c.if-spoils.true c.fails-spoils.ensures.cause in
    rw (← c.self.view_is, loose, bytes)
    (memory_fails_to_write _ _ _ _ _ c.self.invariant c.args.at c.args.piece.now range _ _ c.fails-spoils.ensures.arming _ c.self.inside.meter.calls _
    c.fails-spoils.new.self.calls c.fails-spoils.ensures.later (record {}) cause moves)

pub invariant_of-self-2 : goal.invariant_of-self-2
invariant_of-self-2 c =
    let count : length c.self.inside.loose.items ≡ length c.args.self.now.loose = ap (λ m. length m.loose) c.self.view_is in
    let range : IsRange c.args.at (length c.args.piece.now) (length c.self.inside.loose.items) =
    subst (λ (n : ℕ). IsRange c.args.at (length c.args.piece.now) n) (sym count) c.requires in
    let loose = stored_marks _ _ _ _ c.args.at (length c.args.piece.now / 512) c.self.inside.loose.ok.0 c.deref_mut.ensures.value c.mark.ensures range.within in
    let bytes = stored_piece _ _ _ c.args.piece.now _ (512 * c.args.at) c.self.inside.bytes.ok.0 c.deref_mut-2.ensures.value c.write_at.ensures
    (piece_fits _ _ _ _ _ c.self.invariant c.args.at c.args.piece.now range _ _ c.fails-spoils.ensures.arming) in
    rw (loose, bytes) (memory_put _ _ _ _ _ c.self.invariant c.args.at c.args.piece.now range _ _ c.fails-spoils.ensures.arming)

pub returns-clause-writes : goal.returns-clause-writes
returns-clause-writes c =
    let count : length c.self.inside.loose.items ≡ length c.args.self.now.loose = ap (λ m. length m.loose) c.self.view_is in
    let range : IsRange c.args.at (length c.args.piece.now) (length c.self.inside.loose.items) =
    subst (λ (n : ℕ). IsRange c.args.at (length c.args.piece.now) n) (sym count) c.requires in
    let loose = stored_marks _ _ _ _ c.args.at (length c.args.piece.now / 512) c.self.inside.loose.ok.0 c.deref_mut.ensures.value c.mark.ensures range.within in
    let bytes = stored_piece _ _ _ c.args.piece.now _ (512 * c.args.at) c.self.inside.bytes.ok.0 c.deref_mut-2.ensures.value c.write_at.ensures
    (piece_fits _ _ _ _ _ c.self.invariant c.args.at c.args.piece.now range _ _ c.fails-spoils.ensures.arming) in
    let moves = subst (λ b. MovesOn 1 b c.self.inside.meter.faults c.fails-spoils.new.self.faults
    (schedule_of c.self.inside.meter.arming c.self.inside.meter.out) (schedule_of c.fails-spoils.new.self.arming c.fails-spoils.new.self.out))
    c.if-spoils.false c.fails-spoils.ensures.moves in
    rw (← c.self.view_is, loose, bytes)
    (memory_writes _ _ _ _ _ c.self.invariant c.args.at c.args.piece.now range _ _ c.fails-spoils.ensures.arming _ c.self.inside.meter.calls _
    c.fails-spoils.new.self.calls c.fails-spoils.ensures.later tt moves)
