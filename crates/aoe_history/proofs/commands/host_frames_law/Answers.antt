use Rattle.std.proofs.Common.{List, ◌≡◌, false}
use Rattle.aoe_frame.specs.Header.{is_response}
use Rattle.aoe_net.specs.Network.{SentFrame}
use Rattle.aoe_history.specs.declared.entry.Entry.{Entry}
use Rattle.aoe_history.specs.CommandView.{IsSentFor}
use Rattle.aoe_history.specs.Lawful.{HasHost}
use Rattle.aoe_history.specs.Setup.{HostSetup, Setup}
use Rattle.aoe_history.proofs.hosts.ApartLemmas.{arriving-active}
use Rattle.aoe_history.proofs.hosts.AskedLemmas.{understood}
use Rattle.aoe_history.proofs.hosts.HostLemmas.{holds-of}
use Rattle.aoe_history.proofs.hosts.SentLemmas.{host-there, request-kind}
use Rattle.aoe_history.proofs.commands.host_frames_law.Goals as goal

-- a frame of a command is a request
asks : (s : Setup) (host : HostSetup) (h : List Entry) → HasHost s host h → (frame : SentFrame) → IsSentFor host h frame → is_response frame.bytes ≡ false
asks s host h run frame x = request-kind s host _ _ x.sending.tag frame.bytes run.setup (host-there s run.name host run.called).0 x.request

pub returns-clause-requests : goal.returns-clause-requests
returns-clause-requests c = λ s host h x. (holds-of s host h x).frames

pub returns-clause-active : goal.returns-clause-active
returns-clause-active c = λ s host h run number frame e fresh x. arriving-active s.life host h number frame (asks s host h run frame x) e fresh x

pub returns-clause-kind : goal.returns-clause-kind
returns-clause-kind c = asks

pub returns-clause-understood : goal.returns-clause-understood
returns-clause-understood c = understood
