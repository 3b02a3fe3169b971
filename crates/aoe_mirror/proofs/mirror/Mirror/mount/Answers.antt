use Rattle.std.proofs.Common.{◌≡◌, ◌∙◌, Some, ap, arith, length, not, replicate, rules}
use Rattle.aoe_base.specs.Sizes.{scratch_bytes}
use Rattle.aoe_mirror.specs.Mirror.{ReadsMark}
use Rattle.aoe_mirror.proofs.Cleaning.{mounted_alike, mounted_marked, mounted_names}
use Rattle.aoe_mirror.proofs.mirror.Mirror.mount.Goals as goal

pub new-requires-clause-named : goal.new-requires-clause-named
new-requires-clause-named g c = mounted_names (g.D.Disk.state c.args.mark) (g.D.Disk.state c.read_mark.new.disk) c.in-Ok-Some.found
    (rw c.in-Ok-Some.field-0-is at c.in-Ok-Some.ensures.reads)

pub new-requires-clause-alike : goal.new-requires-clause-alike
new-requires-clause-alike g c =
    let state = g.D.Disk.state in
    let first = c.sectors-first.ensures.count in
    let second = c.sectors-second.ensures.count in
    let sizes : (state c.args.two).sectors ≡ (state c.args.one).sectors = omega (arith, c.if-first-second.false, first, second) in
    rw (c.in-Ok.ensures, first) (mounted_alike (state c.args.one) (state c.args.two) (state c.args.mark) (state c.read_mark.new.disk) c.in-Ok-Some.found.side
    c.in-Ok-Some.found.is_clean (rw c.in-Ok-Some.field-0-is at c.in-Ok-Some.ensures.reads) c.requires.truly c.requires.alike (state c.args.one).sectors
    c.sectors-first.ensures.disk.shape (rw sizes at c.sectors-second.ensures.disk.shape))

pub invariant_of-result : goal.invariant_of-result
invariant_of-result g c =
    let state = g.D.Disk.state in
    let clean = c.in-Ok-Some.found.is_clean in
    let size : length c.in-Ok-from_elem.scratch.items ≡ scratch_bytes = search rules in
    let reads : ReadsMark (Some c.in-Ok-Some.found) (state c.args.mark) (state c.read_mark.new.disk) =
    rw c.in-Ok-Some.field-0-is at c.in-Ok-Some.ensures.reads in
    record {
      mirror = c.new.ensures.mirror;
      marked = mounted_marked state c.new.result c.args.one c.args.two (state c.args.mark) clean c.new.ensures.one c.new.ensures.two c.new.ensures.settled
          (c.new.ensures.stale ∙ c.in-Ok.ensures ∙ ap (λ n. replicate n (not clean)) c.sectors-first.ensures.count)
          (rw (c.new.ensures.side, c.new.ensures.mark) reads) c.requires.truly c.requires.alike;
      scratch = size;
    }

pub returns-clause-mounts : goal.returns-clause-mounts
returns-clause-mounts g c =
    let state = g.D.Disk.state in
    let clean = c.in-Ok-Some.found.is_clean in
    let reads : ReadsMark (Some c.in-Ok-Some.found) (state c.args.mark) (state c.read_mark.new.disk) =
    rw c.in-Ok-Some.field-0-is at c.in-Ok-Some.ensures.reads in
    record {
      size = omega (arith, c.if-first-second.false, c.sectors-first.ensures.count, c.sectors-second.ensures.count);
      room = omega (arith, c.if-sectors-eq0.false, c.sectors.ensures.count);
      side_one = c.new.ensures.one;
      side_two = c.new.ensures.two;
      clean = clean;
      reads = rw (c.new.ensures.side, c.new.ensures.mark) reads;
      stale = c.new.ensures.stale ∙ c.in-Ok.ensures ∙ ap (λ n. replicate n (not clean)) c.sectors-first.ensures.count;
      settled = c.new.ensures.settled;
    }
