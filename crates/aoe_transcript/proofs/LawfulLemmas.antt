-- What lawful histories have can be printed.
use Rattle.std.proofs.Common.{◌≡◌, ◌∙◌, ℕ, List, [], ◌∷◌, Option, Some, None, ap, arith}
use Rattle.std.specs.Prelude.{slice_get, All, IsSomeAnd}
use Rattle.std.specs.Option.{option_and_then}
use Rattle.std.proofs.lemmas.Bool.Decides.{nat_tests}
use Rattle.std.proofs.lemmas.List.Elements.{All-cons, All-head, All-nil, All-tail}
use Rattle.aoe_base.specs.declared.address.TargetId.{TargetId}
use Rattle.aoe_initiator.specs.declared.device.Attached.{Attached}
use Rattle.aoe_initiator.specs.declared.device.Device.{Device}
use Rattle.aoe_initiator.specs.declared.op.Op.{Op}
use Rattle.aoe_initiator.specs.declared.op.Op.TheVariants.{Read, Write}
use Rattle.aoe_initiator.specs.declared.refusal.SubmitRefusal.{SubmitRefusal}
use Rattle.aoe_initiator.specs.declared.refusal.SubmitRefusal.TheVariants.{NoMemory}
use Rattle.aoe_initiator.specs.Host.{Host}
use Rattle.aoe_initiator.specs.HostLaw.{held_at, op_refusal, or_backlog, submit_refusal}
use Rattle.aoe_history.specs.declared.entry.Entry.{Entry}
use Rattle.aoe_history.specs.declared.entry.Entry.TheVariants.{Submitted, Refused}
use Rattle.aoe_history.specs.Commands.{host_after}
use Rattle.aoe_history.specs.HostLaw.{IsRefused}
use Rattle.aoe_history.specs.Lawful.{IsLawful, MayCome}
use Rattle.aoe_history.specs.Setup.{host_called, HostSetup, Setup}
use Rattle.aoe_transcript.specs.Print.{CanPrint, HasCause, IsFromLine}

-- ---- no host refuses because it is out of memory

ops : (about : Attached) (op : Op) → op_refusal about op ≡ Some NoMemory → ⊥
ops about (Read span) e = grind (arith, nat_tests)
ops about (Write at bytes) e = grind (arith, nat_tests)
ops about _ e = absurd cc

devices : (op : Op) (device : Option Device) → option_and_then (λ (d : Device). op_refusal d.about op) device ≡ Some NoMemory → ⊥
devices op None e = absurd cc
devices op (Some d) e = ops d.about op e

backlogs : (held : ℕ) (refusal : Option SubmitRefusal) → (refusal ≡ Some NoMemory → ⊥) → or_backlog held refusal ≡ Some NoMemory → ⊥
backlogs held (Some refusal) other e = other e
backlogs held None other e = grind (arith, nat_tests)

submits : (host : Host) (n : ℕ) (op : Op) → submit_refusal host n op ≡ Some NoMemory → ⊥
submits host n op e =
    backlogs (held_at host n) (option_and_then (λ (d : Device). op_refusal d.about op) (slice_get host.devices n)) (devices op (slice_get host.devices n)) e

refusal_cause : (s : Setup) (host : HostSetup) (h : List Entry) (dev : TargetId) (op : Op) (refusal : SubmitRefusal) → IsRefused s host h dev op refusal
    → HasCause refusal
refusal_cause s host h dev op refusal r e = submits (host_after s host h) r.device op (r.refused ∙ ap Some e)

refused : (s : Setup) (h : List Entry) (refusal : SubmitRefusal) (host : Option HostSetup)
    → IsSomeAnd host (λ host. (dev : TargetId) × (op : Op) × IsRefused s host h dev op refusal) → HasCause refusal
refused s h refusal None may = absurd may
refused s h refusal (Some host) may = refusal_cause s host h may.0 may.1 refusal may.2

-- ---- histories

one : (s : Setup) (h : List Entry) (e : Entry) → MayCome s h e → IsFromLine e → CanPrint e
one s h (Submitted name ticket dev op) may line = line
one s h (Refused name refusal) may line = refused s h refusal (host_called s name) may
one s h _ may line = tt

pub prints : (s : Setup) (h : List Entry) → IsLawful s h → All IsFromLine h → All CanPrint h
prints s [] lawful lines = All-nil CanPrint
prints s (e ∷ h) lawful lines =
    All-cons CanPrint e h (one s h e lawful.0 (All-head IsFromLine e h lines)) (prints s h lawful.1 (All-tail IsFromLine e h lines))
