use Rattle.aoe_pcap.proofs.RecordLemmas.{one-capture}
use Rattle.aoe_pcap.proofs.laws.capture_has_one_list_of_packets.Goals as goal

pub returns : goal.returns
returns c bytes h g ps qs one two = one-capture bytes h g ps qs one two
