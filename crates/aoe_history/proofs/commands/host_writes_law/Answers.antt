use Rattle.aoe_history.proofs.hosts.ApartLemmas.{none-beside-flush, none-beside-read, one-write}
use Rattle.aoe_history.proofs.hosts.HostLemmas.{holds-of}
use Rattle.aoe_history.proofs.commands.host_writes_law.Goals as goal

pub returns-clause-one_write : goal.returns-clause-one_write
returns-clause-one_write c = λ s host h x. one-write s.life host h (holds-of s host h x).base (holds-of s host h x).gone

pub returns-clause-none_beside_flush : goal.returns-clause-none_beside_flush
returns-clause-none_beside_flush c = λ s host h x. none-beside-flush s.life host h (holds-of s host h x).base (holds-of s host h x).gone

pub returns-clause-none_beside_read : goal.returns-clause-none_beside_read
returns-clause-none_beside_read c = λ s host h x. none-beside-read s.life host h (holds-of s host h x).base (holds-of s host h x).gone
