-- What a turn of a link brings to a host.
use Rattle.std.proofs.Common.{ℕ, ◌≡◌, true, false, List, [], ◌∷◌, Option, Some, None, refl, drop}
use Rattle.std.proofs.lemmas.List.{append-nil}
use Rattle.aoe_base.specs.declared.counted.Ticket.{Ticket}
use Rattle.aoe_initiator.specs.declared.step.Taken.TheVariants.{Finished, Stale}
use Rattle.aoe_initiator.specs.Host.{Host, IsSame, Matches}
use Rattle.aoe_initiator.specs.HostLaw.{Takes}
use Rattle.aoe_initiator.specs.HostLog.{Event}
use Rattle.aoe_initiator.specs.Response.{outcome_of}
use Rattle.aoe_io.specs.Link.{Turn, Turned, came}
use Rattle.aoe_block.specs.Exchange.{HearsOne}

module _ {host host' : Host} {start turned' : ℕ} {given given' : Option (List Turn)} (frame : List ℕ)
    (turned : Turned start turned' given given' (came frame ∷ []))
    (held : IsSame host host' × (host'.clock ≡ host.clock) × (host'.last_ticket ≡ host.last_ticket))
    (no_tag : host'.flight.last_tag ≡ host.flight.last_tag) where
  pub hears-answer : {ticket : Ticket} → ((log : List Event) → Matches log host → Takes host frame log (Finished ticket) host')
      → HearsOne true host host' start turned' given given'
  hears-answer {ticket} takes = record {
    brought = came frame;
    turned_by = turned;
    hears = λ base log same m.
        let (command, answer, path, there, own, answers, comes, waiting, matches) = takes log m in (
          Some record { ticket = ticket; path = path; outcome = outcome_of answer (drop 24 frame) },
          record {
            host = host;
            at = record { same = same; time = m.time };
            command = command;
            answer = answer;
            there = there;
            ticket = own;
            answers = answers;
            came = comes;
            says = refl;
          },
          matches,
          waiting,
          refl,
        );
    held = record { same = held.0; last = held.2 };
    tag = no_tag;
  }

  pub hears-stale : ((log : List Event) → Matches log host → Takes host frame log Stale host') → HearsOne false host host' start turned' given given'
  hears-stale takes = record {
    brought = came frame;
    turned_by = turned;
    hears = λ base log same m.
        let t = takes log m in (
          None,
          record { host = host; at = record { same = same; time = m.time }; none_answered = t.0 },
          rw t.1 m,
          rw (t.1, append-nil),
          refl,
        );
    held = record { same = held.0; last = held.2 };
    tag = no_tag;
  }
