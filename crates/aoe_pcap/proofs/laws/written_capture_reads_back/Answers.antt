use Rattle.aoe_pcap.proofs.RecordLemmas.{written-capture}
use Rattle.aoe_pcap.proofs.laws.written_capture_reads_back.Goals as goal

pub returns-clause-capture : goal.returns-clause-capture
returns-clause-capture c frames few = written-capture frames few
