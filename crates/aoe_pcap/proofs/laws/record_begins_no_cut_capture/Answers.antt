use Rattle.std.proofs.Common.{arith, ap, length, length-append}
use Rattle.aoe_pcap.specs.Capture.{packet_bytes}
use Rattle.aoe_pcap.proofs.RecordLemmas.{length-packet, record-whole}
use Rattle.aoe_pcap.proofs.laws.record_begins_no_cut_capture.Goals as goal

pub returns : goal.returns
returns c big p rest is = (λ e. omega (arith, length-packet big p, length-append (packet_bytes big p) rest, ap length e), record-whole big p rest is)
