use Rattle.aoe_lists.specs.Settings.{empty_settings}
use Rattle.aoe_sim_shelves.proofs.SeatLemmas.{marked_zeros, mounted_zeros, zeros_found, zeros_sectors}
use Rattle.aoe_sim_shelves.proofs.seat.new_keep.Goals as goal
use Rattle.aoe_sim_shelves.proofs.seat.new_keep.Goals.{then-read_only, else-read_only}

pub mount-keep-requires-clause-lists : goal.mount-keep-requires-clause-lists
mount-keep-requires-clause-lists c = (empty_settings, rw c.in-Ok.ensures (zeros_found 8192))

pub returns : goal.returns
returns c =
    let size = zeros_sectors 16 c.in-Ok.disk c.in-Ok.ensures in
    let mounted = mounted_zeros 8192 {keep = c.mount-keep.result} c.in-Ok.ensures size c.mount-keep.ensures.mounted c.mount-keep.ensures.stands in
    elim c.if-read_only.branch [
      | then-read_only w ↦
          let m = w.mark.ensures in
          rw (w.keep-is, w.if-read_only.true) (marked_zeros mounted m.lists m.finds m.sectors m.unarmed m.place)
      | else-read_only w ↦ rw (w.keep-is, w.if-read_only.false) mounted
    ]
