use Rattle.std.proofs.Common.{◌≡◌, ◌∙◌, Result, Err, ap, arith, inl, inr, refl, sym}
use Rattle.std.specs.Prelude.{◌↔◌}
use Rattle.aoe_tools.specs.declared.end.ToolRefusal.{ToolRefusal}
use Rattle.aoe_tools.specs.declared.end.ToolRefusal.TheVariants as tool
use Rattle.aoe_tools.specs.declared.lookup.Device.{Device}
use Rattle.aoe.specs.Tools.{tool_status}
use Rattle.aoe.specs.declared.status.Status.{Status}
use Rattle.aoe.specs.declared.status.Status.TheVariants as status
use Rattle.aoe.proofs.Blame.{retold}
use Rattle.aoe.proofs.nbd.run_nbd.Goals as goal

-- the status tells of the link what the refusal told
told-link : (r : ToolRefusal) → tool_status r ≡ status.LinkFault 0 → r ≡ tool.LinkFault
told-link tool.LinkFault e = refl
told-link tool.NoMemory e = absurd cc
told-link (tool.Unanswered n) e = absurd cc
told-link (tool.Refused r) e = absurd cc

abbrev IsLinkFault : Result Device ToolRefusal → Type 0
IsLinkFault found = found ≡ Err tool.LinkFault

asked-link : (s : Status) (r : ToolRefusal) → s ≡ tool_status r → (s ≡ status.LinkFault 0) ↔ IsLinkFault (Err r)
asked-link s r is = (λ told. ap Err (told-link r (sym is ∙ told)), λ e. let same : r ≡ tool.LinkFault = cc in is ∙ ap tool_status same)

pub returns-in-Err-clause-link : goal.returns-in-Err-clause-link
returns-in-Err-clause-link g c = retold _ _ (asked-link _ c.in-Err.refusal c.tool_status.ensures) _ _ c.in-Err.ensures.link

pub returns-in-Err-clause-run : goal.returns-in-Err-clause-run
returns-in-Err-clause-run g c = record {
  first = c.now-first.result;
  later = g.C.Clock.answers c.now-first.new.self;
  answered = record { least_is = c.now-first.ensures.least; told = c.now-first.ensures.told };
  found = _;
  mid = _;
  finds = rw c.ask_of-ask.ensures at c.in-Err.ensures.finds;
  serves = (c.tool_status.ensures, record { door_is = refl; link_is = refl; clock_is = refl });
}

pub returns-then-device-eq0-clause-run : goal.returns-then-device-eq0-clause-run
returns-then-device-eq0-clause-run g c = record {
  first = c.now-first.result;
  later = g.C.Clock.answers c.now-first.new.self;
  answered = record { least_is = c.now-first.ensures.least; told = c.now-first.ensures.told };
  found = _;
  mid = _;
  finds = rw c.ask_of-ask.ensures at c.in-Ok.ensures.finds;
  serves = inl (c.if-device-eq0.true, refl, record { door_is = refl; link_is = refl; clock_is = refl });
}

pub returns-clause-run : goal.returns-clause-run
returns-clause-run g c = record {
  first = c.now-first.result;
  later = g.C.Clock.answers c.now-first.new.self;
  answered = record { least_is = c.now-first.ensures.least; told = c.now-first.ensures.told };
  found = _;
  mid = _;
  finds = rw c.ask_of-ask.ensures at c.in-Ok.ensures.finds;
  serves = inr (omega (arith, c.if-device-eq0.false), c.serve_device.ensures.serves);
}
