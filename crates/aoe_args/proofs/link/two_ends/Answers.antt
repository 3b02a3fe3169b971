-- Each option has its value.
use Rattle.std.proofs.Common.{◌∙◌}
use Rattle.clap.specs.Words.{found_of, rows_of}
use Rattle.aoe_args.proofs.LinkLemmas.{ends_read}
use Rattle.aoe_args.proofs.link.two_ends.Goals as goal

pub returns : goal.returns
returns c =
    c.ends_of.ensures
    ∙ ends_read (rows_of (found_of c.args.found.now)) c.in_ok-vxlan.vxlan _ _ _ _ c.in_ok-vxlan.ensures c.text.ensures c.text-2.ensures
    c.text-3.ensures c.text-4.ensures
