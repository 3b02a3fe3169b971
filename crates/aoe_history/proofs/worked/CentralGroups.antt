-- The central case comes of its acts.
use Rattle.std.proofs.Common.{ℕ, ◌≡◌, inl, not, true, List, [], Option, Some, None, refl}
use Rattle.std.specs.List.{list_all}
use Rattle.aoe_ata.specs.declared.reply.AtaOutcome.TheVariants.{Done as Good}
use Rattle.aoe_ata.specs.Decision.{decision}
use Rattle.aoe_flight.specs.Outstanding.{is_due, is_expired}
use Rattle.aoe_initiator.specs.declared.outcome.Outcome.{Outcome}
use Rattle.aoe_initiator.specs.declared.outcome.Outcome.TheVariants.{Read as ReadOutcome, Written, Flushed}
use Rattle.aoe_initiator.specs.HostLaw.{is_clear_at}
use Rattle.aoe_initiator.specs.HostLog.{sent_of}
use Rattle.aoe_initiator.specs.Request.{request}
use Rattle.aoe_initiator.specs.Response.{answer}
use Rattle.aoe_lists.specs.Settings.{empty_settings}
use Rattle.aoe_target.specs.declared.heard.Effect.TheVariants.{None as NoEffect, Wrote, Synced}
use Rattle.aoe_target.specs.Reply.{spelled}
use Rattle.aoe_target.specs.Verdict.{verdict}
use Rattle.aoe_history.specs.declared.entry.Entry.{Entry}
use Rattle.aoe_history.specs.declared.entry.Fate.TheVariants.{Replied}
use Rattle.aoe_history.specs.Cases.{central_acts, central_case, flush_frame, read_frame, write_frame}
use Rattle.aoe_history.specs.Commands.{commands_of}
use Rattle.aoe_history.specs.Example.{a, full, host_a, setup, show, span, tell}
use Rattle.aoe_history.specs.Frames.{clock}
use Rattle.aoe_history.specs.Groups.{gives_none, sends_none, sends_one, told, Act, Enters, Follows, Got, Group, SendsSome}
use Rattle.aoe_history.proofs.worked.CaseLemmas.{turns}
use Rattle.aoe_history.proofs.worked.Histories.{flush-answered, read-answered, write-answered}

-- a response to the host that ended a command
abbrev heard : ℕ → Outcome → Option Got
heard c outcome = Some (record { host = host_a; ticket = c; outcome = outcome })

-- a group, and those after it
infixr 4 ◌next◌
◌next◌ : {h n : List Entry} {act : Act} {D : List Entry → Type 0} → Group setup h act n → D n → (m : List Entry) × Group setup h act m × D m
◌next◌ {n = n} x y = (n, x, y)

-- the group of an act, after which the host has nothing to do
group : {h m : List Entry} {act : Act} (got : Option Got) (entered : List Entry) → Enters setup h act got entered
    → list_all (λ o. not (is_expired 180000 (clock (told a host_a got entered)) o)) (sent_of (commands_of host_a (told a host_a got entered))) ≡ true
    → SendsSome a (told a host_a got entered) m → list_all (λ o. not (is_due (clock m) o)) (sent_of (commands_of host_a m)) ≡ true
    → list_all (λ c. not (is_clear_at 2000 (clock m) (commands_of host_a m) c)) (commands_of host_a m) ≡ true → Group setup h act m
group {m = m} got entered enters late sends due clear = record {
  got = got;
  entered = entered;
  enters = enters;
  turns = (m, turns setup host_a a got entered (told a host_a got entered) m refl gives_none late sends due clear, refl);
}

pub follows : Follows setup central_acts [] central_case
unfolding full request verdict decision spelled answer
follows =
    group None _ (refl, (host_a, refl, refl)) refl (sends_one 1 1 write_frame sends_none) refl refl
    next group None _ (refl, inl (Replied (Wrote (span 3)) 2 (tell write_frame Good), (λ p. cc), refl)) refl sends_none refl refl
    next group (heard 1 Written) _ (host_a, refl, (refl, write-answered None, refl)) refl sends_none refl refl
    next group None _ (refl, (host_a, refl, refl)) refl sends_none refl refl
    next group None _ (refl, refl) refl sends_none refl refl
    next group None _ (refl, refl) refl (sends_one 2 3 flush_frame sends_none) refl refl
    next group None _ (refl, refl) refl sends_none refl refl
    next group None _ (refl, inl (Replied Synced 4 (tell flush_frame Good), (λ p. cc), refl)) refl sends_none refl refl
    next group (heard 2 Flushed) _ (host_a, refl, (refl, flush-answered, refl)) refl sends_none refl refl
    next group None _ (refl, refl) refl sends_none refl refl
    next group None _ (refl, (empty_settings, refl)) refl sends_none refl refl
    next group None _ (refl, (host_a, refl, refl)) refl (sends_one 3 5 (read_frame 3) sends_none) refl refl
    next group None _ (refl, inl (Replied NoEffect 6 (show (read_frame 3) (full 0x5a)), (λ p. cc), refl)) refl sends_none refl refl
    next group (heard 3 (ReadOutcome (full 0x5a))) _ (host_a, refl, (refl, read-answered, refl)) refl sends_none refl refl
    next refl
