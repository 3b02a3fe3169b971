use Rattle.std.proofs.Common.{ℕ, Some, ◌∙◌, ap, arith, rules, refl, inl}
use Rattle.aoe_frame.specs.declared.header.Header.{Header}
use Rattle.aoe_frame.specs.Header.{Fits}
use Rattle.aoe_initiator.proofs.RequestLemmas.{read-padded}
use Rattle.aoe_initiator.proofs.request.write_request.Goals as goal

pub returns-clause-read : goal.returns-clause-read
returns-clause-read c =
    let header : ℕ → Header = λ command. record {
      dst = c.args.remote;
      src = c.args.local;
      version = 1;
      flags = 0;
      error = 0;
      id = c.args.id;
      command = command;
      tag = c.args.tag;
    } in
    let fits : Fits (header c.command.result) =
    record { dst = search rules; src = search rules; version = omega arith; flags = inl refl; major = omega arith; tag = omega arith } in
    read-padded _ _ _ _ _ c.write_header.ensures.bytes c.append_arguments.ensures c.pad.ensures fits
    ∙ ap (λ command. Some (header command)) c.command.ensures
