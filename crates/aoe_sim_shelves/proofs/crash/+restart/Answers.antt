use Rattle.std.proofs.Common.{◌≡◌, length, ap, ◌∙◌, arith}
use Rattle.aoe_cache.specs.declared.any.AnyStore.{AnyStore}
use Rattle.aoe_disk.specs.Memory.{Memory}
use Rattle.aoe_keep.specs.Keep.{Kept}
use Rattle.aoe_sim_shelves.proofs.FrontLemmas.{front_apart, front_targets, last_target, length_last, restart_last, restart_minor}
use Rattle.aoe_sim_shelves.proofs.SeatLemmas.{last_name, not_refused, seated_again}
use Rattle.aoe_sim_shelves.proofs.crash.+restart.Goals as goal

pub restart-requires : goal.restart-requires
restart-requires t c =
    let k = c.in-Some-take_last.ensures.takes in
    let front = c.take_last.new.self.targets in (
      omega (arith, ap length k.1, length_last front k.0, c.decreases),
      rw c.in-Some-take_last.ensures.rest (front_targets c.args.shelf.now front k.0 k.1 c.requires),
    )

pub mount-keep-requires-clause-lists : goal.mount-keep-requires-clause-lists
mount-keep-requires-clause-lists t c =
    let k = c.in-Some-take_last.ensures.takes in
    let own : c.close.result ≡ k.0.keep.disk = c.close.ensures ∙ ap (λ (p : AnyStore Memory × Kept Memory). p.1.disk) k.2 in
    let left = rw own at c.lose.ensures.allowed in
    let lists = (last_target c.args.shelf.now c.take_last.new.self.targets k.0 k.1 c.requires).holds.crash c.lose.result.bytes left in
    (lists.0, lists.1)

pub seat-requires-clause-minor : goal.seat-requires-clause-minor
seat-requires-clause-minor t c =
    let k = c.in-Some-take_last.ensures.takes in
    let name = last_name _ c.take_last.new.self.targets k.0 c.in-Some.slot c.id-minor.result k.1
    (omega (arith, c.count.ensures.count, c.in-Some.ensures.1)) c.id-minor.ensures in
    rw name (last_target c.args.shelf.now c.take_last.new.self.targets k.0 k.1 c.requires).minor

pub seat-requires-clause-taken : goal.seat-requires-clause-taken
seat-requires-clause-taken t c =
    let shelf = c.args.shelf.now in
    let front = c.take_last.new.self.targets in
    let k = c.in-Some-take_last.ensures.takes in
    let name = last_name _ front k.0 c.in-Some.slot c.id-minor.result k.1
    (omega (arith, c.count.ensures.count, c.in-Some.ensures.1)) c.id-minor.ensures in
    not_refused c.restart.new.shelf.targets c.id-minor.result.minor
    (omega (arith, ap length k.1, length_last front k.0, c.restart.ensures.restarts.count, c.count.ensures.count, c.count.ensures.bound))
    (rw name (restart_minor c.restart.ensures.restarts k.0.station.id.minor (front_apart shelf front k.0 k.1 c.requires)))

pub returns-clause-restarts : goal.returns-clause-restarts
returns-clause-restarts t c =
    let front = c.take_last.new.self.targets in
    let k = c.in-Some-take_last.ensures.takes in
    let r = c.restart.new.shelf in
    let name = last_name _ front k.0 c.in-Some.slot c.id-minor.result k.1
    (omega (arith, c.count.ensures.count, c.in-Some.ensures.1)) c.id-minor.ensures in
    let disk : c.close.result ≡ k.0.keep.disk = c.close.ensures ∙ ap (λ (p : AnyStore Memory × Kept Memory). p.1.disk) k.2 in
    let store : c.in-Some-take_last.store ≡ k.0.store = ap (λ (p : AnyStore Memory × Kept Memory). p.0) k.2 in
    restart_last r k.1 c.seat.ensures c.restart.ensures.restarts
    (seated_again c.args.shelf.now r c.id-minor.result.minor c.reopen.result c.lose.result c.mount-keep.result
    (last_target c.args.shelf.now front k.0 k.1 c.requires) (rw c.in-Some-take_last.ensures.rest at c.restart.ensures.rest) (ap (λ z. z.minor) name)
    (rw store at c.reopen.ensures) (rw disk at c.lose.ensures) c.mount-keep.ensures.mounted)
