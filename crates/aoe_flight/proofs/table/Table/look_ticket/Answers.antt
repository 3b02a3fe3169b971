use Rattle.aoe_flight.proofs.TableLemmas.{ticket-found, ticket-none}
use Rattle.aoe_flight.proofs.table.Table.look_ticket.Goals as goal

pub returns-in-Some-clause-value : goal.returns-in-Some-clause-value
returns-in-Some-clause-value g c = ticket-found c.args.self.now c.args.ticket.0 c.in-Some.field-0-0 c.in-Some.command c.in-Some.ensures.some

pub returns-in-None-clause-value : goal.returns-in-None-clause-value
returns-in-None-clause-value g c = ticket-none c.args.self.now c.args.ticket.0 c.in-None.ensures.none
