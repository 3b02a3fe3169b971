use Rattle.std.proofs.Common.{IfSome, Some, ◌∙◌, sym}
use Rattle.aoe_mirror.specs.Names.{HoldsWords, ReadsWords}
use Rattle.aoe_mirror.proofs.Settling.{crash_whole, crashes_calm, others_whole, said_clean, said_names, said_side, settled_whole, spares_calm, spares_whole, truly_calm, truly_whole}
use Rattle.aoe_mirror.proofs.settle.settle_mark.Goals as goal

pub returns-in-Ok-None-clause-crash : goal.returns-in-Ok-None-clause-crash
returns-in-Ok-None-clause-crash g c =
    crashes_calm c.args.named.now c.args.lead_other (g.D.Disk.state c.args.mark.now) (g.D.Disk.state c.read_words.new.disk) c.read_words.ensures.calm

pub returns-in-Err-clause-crash : goal.returns-in-Err-clause-crash
returns-in-Err-clause-crash g c =
    crashes_calm c.args.named.now c.args.lead_other (g.D.Disk.state c.args.mark.now) (g.D.Disk.state c.read_words.new.disk) c.read_words.ensures.calm

pub returns-in-Err-words_after-clause-crash : goal.returns-in-Err-words_after-clause-crash
returns-in-Err-words_after-clause-crash g c =
    crashes_calm c.args.named.now c.args.lead_other (g.D.Disk.state c.args.mark.now) (g.D.Disk.state c.read_words.new.disk) c.read_words.ensures.calm

pub returns-in-Err-words_after-clause-truly : goal.returns-in-Err-words_after-clause-truly
returns-in-Err-words_after-clause-truly g c = λ one two. truly_calm (g.D.Disk.state c.args.mark.now) (g.D.Disk.state c.read_words.new.disk) one two c.read_words.ensures.calm

pub write_words-requires-clause-named : goal.write_words-requires-clause-named
write_words-requires-clause-named g c =
    let reads : ReadsWords (Some c.in-Ok-Some.words) (g.D.Disk.state c.read_words.new.disk) = rw c.in-Ok-Some.field-0-is at c.in-Ok-Some.ensures.reads in
    said_side c.in-Ok-Some.words (g.D.Disk.state c.read_words.new.disk) reads.words

pub write_words-requires-clause-says : goal.write_words-requires-clause-says
write_words-requires-clause-says g c =
    let reads : ReadsWords (Some c.in-Ok-Some.words) (g.D.Disk.state c.read_words.new.disk) = rw c.in-Ok-Some.field-0-is at c.in-Ok-Some.ensures.reads in
    said_clean c.in-Ok-Some.words (g.D.Disk.state c.read_words.new.disk) reads.words

pub write_words-requires-clause-names : goal.write_words-requires-clause-names
write_words-requires-clause-names g c =
    let reads : ReadsWords (Some c.in-Ok-Some.words) (g.D.Disk.state c.read_words.new.disk) = rw c.in-Ok-Some.field-0-is at c.in-Ok-Some.ensures.reads in
    said_names c.in-Ok-Some.words (g.D.Disk.state c.read_words.new.disk) reads.words

pub returns-in-Ok-write_words-clause-settles : goal.returns-in-Ok-write_words-clause-settles
returns-in-Ok-write_words-clause-settles g c =
    let reads : ReadsWords (Some c.in-Ok-Some.words) (g.D.Disk.state c.read_words.new.disk) = rw c.in-Ok-Some.field-0-is at c.in-Ok-Some.ensures.reads in
    let holds : IfSome (g.D.Disk.state c.write_words.new.disk).contents (HoldsWords (g.D.Disk.state c.args.mark.now).sectors c.in-Ok.after) =
    rw c.read_words.ensures.called.later.sectors at c.in-Ok-write_words.ensures.holds in
    settled_whole c.args.named.now c.args.lead_other c.in-Ok-Some.words c.in-Ok.after (sym c.words_after.ensures.words ∙ c.in-Ok.is)
    (g.D.Disk.state c.args.mark.now) (g.D.Disk.state c.read_words.new.disk) (g.D.Disk.state c.write_words.new.disk) c.read_words.ensures.calm reads.words
    c.write_words.ensures.safe (g.D.Disk.state c.args.mark.now).sectors holds

pub returns-in-Ok-write_words-clause-others : goal.returns-in-Ok-write_words-clause-others
returns-in-Ok-write_words-clause-others g c =
    let reads : ReadsWords (Some c.in-Ok-Some.words) (g.D.Disk.state c.read_words.new.disk) = rw c.in-Ok-Some.field-0-is at c.in-Ok-Some.ensures.reads in
    others_whole c.args.named.now c.args.lead_other c.in-Ok-Some.words c.in-Ok.after (sym c.words_after.ensures.words ∙ c.in-Ok.is)
    (g.D.Disk.state c.args.mark.now) (g.D.Disk.state c.read_words.new.disk) (g.D.Disk.state c.write_words.new.disk) c.read_words.ensures.calm reads.words
    c.write_words.ensures.safe

pub returns-in-Ok-write_words-clause-crash : goal.returns-in-Ok-write_words-clause-crash
returns-in-Ok-write_words-clause-crash g c =
    let reads : ReadsWords (Some c.in-Ok-Some.words) (g.D.Disk.state c.read_words.new.disk) = rw c.in-Ok-Some.field-0-is at c.in-Ok-Some.ensures.reads in
    crash_whole c.args.named.now c.args.lead_other c.in-Ok-Some.words c.in-Ok.after (sym c.words_after.ensures.words ∙ c.in-Ok.is)
    (g.D.Disk.state c.args.mark.now) (g.D.Disk.state c.read_words.new.disk) (g.D.Disk.state c.write_words.new.disk) c.read_words.ensures.calm reads.words
    c.write_words.ensures.safe

pub returns-in-Ok-write_words-clause-truly : goal.returns-in-Ok-write_words-clause-truly
returns-in-Ok-write_words-clause-truly g c =
    let reads : ReadsWords (Some c.in-Ok-Some.words) (g.D.Disk.state c.read_words.new.disk) = rw c.in-Ok-Some.field-0-is at c.in-Ok-Some.ensures.reads in
    truly_whole c.args.named.now c.args.lead_other c.in-Ok-Some.words c.in-Ok.after (sym c.words_after.ensures.words ∙ c.in-Ok.is)
    (g.D.Disk.state c.args.mark.now) (g.D.Disk.state c.read_words.new.disk) (g.D.Disk.state c.write_words.new.disk) c.read_words.ensures.calm reads.words
    c.write_words.ensures.safe

pub returns-in-Err-write_words-clause-others : goal.returns-in-Err-write_words-clause-others
returns-in-Err-write_words-clause-others g c =
    let reads : ReadsWords (Some c.in-Ok-Some.words) (g.D.Disk.state c.read_words.new.disk) = rw c.in-Ok-Some.field-0-is at c.in-Ok-Some.ensures.reads in
    others_whole c.args.named.now c.args.lead_other c.in-Ok-Some.words c.in-Ok.after (sym c.words_after.ensures.words ∙ c.in-Ok.is)
    (g.D.Disk.state c.args.mark.now) (g.D.Disk.state c.read_words.new.disk) (g.D.Disk.state c.write_words.new.disk) c.read_words.ensures.calm reads.words
    c.write_words.ensures.safe

pub returns-in-Err-write_words-clause-crash : goal.returns-in-Err-write_words-clause-crash
returns-in-Err-write_words-clause-crash g c =
    let reads : ReadsWords (Some c.in-Ok-Some.words) (g.D.Disk.state c.read_words.new.disk) = rw c.in-Ok-Some.field-0-is at c.in-Ok-Some.ensures.reads in
    crash_whole c.args.named.now c.args.lead_other c.in-Ok-Some.words c.in-Ok.after (sym c.words_after.ensures.words ∙ c.in-Ok.is)
    (g.D.Disk.state c.args.mark.now) (g.D.Disk.state c.read_words.new.disk) (g.D.Disk.state c.write_words.new.disk) c.read_words.ensures.calm reads.words
    c.write_words.ensures.safe

pub returns-in-Err-write_words-clause-truly : goal.returns-in-Err-write_words-clause-truly
returns-in-Err-write_words-clause-truly g c =
    let reads : ReadsWords (Some c.in-Ok-Some.words) (g.D.Disk.state c.read_words.new.disk) = rw c.in-Ok-Some.field-0-is at c.in-Ok-Some.ensures.reads in
    truly_whole c.args.named.now c.args.lead_other c.in-Ok-Some.words c.in-Ok.after (sym c.words_after.ensures.words ∙ c.in-Ok.is)
    (g.D.Disk.state c.args.mark.now) (g.D.Disk.state c.read_words.new.disk) (g.D.Disk.state c.write_words.new.disk) c.read_words.ensures.calm reads.words
    c.write_words.ensures.safe

pub returns-in-Ok-None-clause-spares : goal.returns-in-Ok-None-clause-spares
returns-in-Ok-None-clause-spares g c =
    spares_calm c.args.named.now c.args.lead_other (g.D.Disk.state c.args.mark.now) (g.D.Disk.state c.read_words.new.disk) c.read_words.ensures.calm

pub returns-in-Err-clause-spares : goal.returns-in-Err-clause-spares
returns-in-Err-clause-spares g c =
    spares_calm c.args.named.now c.args.lead_other (g.D.Disk.state c.args.mark.now) (g.D.Disk.state c.read_words.new.disk) c.read_words.ensures.calm

pub returns-in-Err-words_after-clause-spares : goal.returns-in-Err-words_after-clause-spares
returns-in-Err-words_after-clause-spares g c =
    spares_calm c.args.named.now c.args.lead_other (g.D.Disk.state c.args.mark.now) (g.D.Disk.state c.read_words.new.disk) c.read_words.ensures.calm

pub returns-in-Ok-write_words-clause-spares : goal.returns-in-Ok-write_words-clause-spares
returns-in-Ok-write_words-clause-spares g c =
    let reads : ReadsWords (Some c.in-Ok-Some.words) (g.D.Disk.state c.read_words.new.disk) = rw c.in-Ok-Some.field-0-is at c.in-Ok-Some.ensures.reads in
    spares_whole c.args.named.now c.args.lead_other c.in-Ok-Some.words c.in-Ok.after (sym c.words_after.ensures.words ∙ c.in-Ok.is)
    (g.D.Disk.state c.args.mark.now) (g.D.Disk.state c.read_words.new.disk) (g.D.Disk.state c.write_words.new.disk) c.read_words.ensures.calm reads.words
    c.write_words.ensures.safe c.write_words.ensures.spares

pub returns-in-Err-write_words-clause-spares : goal.returns-in-Err-write_words-clause-spares
returns-in-Err-write_words-clause-spares g c =
    let reads : ReadsWords (Some c.in-Ok-Some.words) (g.D.Disk.state c.read_words.new.disk) = rw c.in-Ok-Some.field-0-is at c.in-Ok-Some.ensures.reads in
    spares_whole c.args.named.now c.args.lead_other c.in-Ok-Some.words c.in-Ok.after (sym c.words_after.ensures.words ∙ c.in-Ok.is)
    (g.D.Disk.state c.args.mark.now) (g.D.Disk.state c.read_words.new.disk) (g.D.Disk.state c.write_words.new.disk) c.read_words.ensures.calm reads.words
    c.write_words.ensures.safe c.write_words.ensures.spares
