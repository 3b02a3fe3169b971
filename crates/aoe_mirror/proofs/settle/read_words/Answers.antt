use Rattle.std.proofs.Common.{◌≡◌, IfSome, Some, None, arith}
use Rattle.aoe_disk.specs.State.{Contents}
use Rattle.aoe_mirror.specs.Mirror.{ReadsMark}
use Rattle.aoe_mirror.specs.Names.{names_at}
use Rattle.aoe_mirror.proofs.Settling.{no_names, none_read, words_read}
use Rattle.aoe_mirror.proofs.settle.read_words.Goals as goal

pub returns-in-Ok-None-clause-reads : goal.returns-in-Ok-None-clause-reads
returns-in-Ok-None-clause-reads g c =
    let state = g.D.Disk.state in
    let reads : ReadsMark None (state c.args.disk.now) (state c.read_mark.new.disk) = rw c.in-Ok-None.field-0-is at c.in-Ok-None.ensures.reads in
    record { side = tt; room = tt; known = tt; words = none_read (state c.read_mark.new.disk) c.in-Ok-None.ensures.quiet reads.names }

pub returns-in-Ok-Some-read_names-clause-reads : goal.returns-in-Ok-Some-read_names-clause-reads
returns-in-Ok-Some-read_names-clause-reads g c =
    let state = g.D.Disk.state in
    let mid = state c.read_mark.new.disk in
    let found = c.in-Ok-Some.found in
    let names = c.in-Ok-Some-read_names.names in
    let reads : ReadsMark (Some found) (state c.args.disk.now) mid = rw c.in-Ok-Some.field-0-is at c.in-Ok-Some.ensures.reads in
    let is : IfSome mid.contents (λ (x : Contents). Some names ≡ names_at x.bytes) =
    rw c.in-Ok-Some-read_names.field-0-is at c.in-Ok-Some-read_names.ensures.names in
    let size = c.read_names.ensures.called.later.sectors in
    record {
      side = reads.side;
      room = λ on. let low = reads.room on in omega (arith, size, low);
      known = rw c.in-Ok-Some-read_names.field-0-is at c.in-Ok-Some-read_names.ensures.known;
      words = words_read (Some found) (Some names) mid (state c.read_names.new.disk) c.in-Ok-Some.ensures.quiet reads.names is c.read_names.ensures.same;
    }

pub returns-in-Ok-None-read_names-clause-reads : goal.returns-in-Ok-None-read_names-clause-reads
returns-in-Ok-None-read_names-clause-reads g c =
    let state = g.D.Disk.state in
    let mid = state c.read_mark.new.disk in
    let found = c.in-Ok-Some.found in
    let reads : ReadsMark (Some found) (state c.args.disk.now) mid = rw c.in-Ok-Some.field-0-is at c.in-Ok-Some.ensures.reads in
    let is : IfSome mid.contents (λ (x : Contents). no_names ≡ names_at x.bytes) =
    rw c.in-Ok-None-read_names.field-0-is at c.in-Ok-None-read_names.ensures.names in
    record {
      side = tt;
      room = tt;
      known = tt;
      words = words_read (Some found) no_names mid (state c.read_names.new.disk) c.in-Ok-Some.ensures.quiet reads.names is c.read_names.ensures.same;
    }
