-- What a host takes, by what it keeps and by the history.
use Rattle.std.proofs.Common.{ℕ, ◌≡◌, Bool, true, false, List, ◌∷◌, Option, Some, None, refl, sym, ap, ◌∙◌, arith, Contains}
use Rattle.std.specs.Prelude.{drop, option_map, slice_index_or}
use Rattle.std.proofs.lemmas.List.Elements.{All-contains}
use Rattle.std.proofs.lemmas.Option.{cond_some}
use Rattle.std.proofs.lemmas.Slice.Eq.{bytes_eq-Decides}
use Rattle.aoe_base.specs.declared.counted.DeviceNo.{DeviceNo}
use Rattle.aoe_base.specs.declared.counted.PathNo.{PathNo}
use Rattle.aoe_base.specs.declared.counted.Ticket.{Ticket}
use Rattle.aoe_base.specs.Addresses.{IsDistinct}
use Rattle.aoe_frame.specs.declared.header.Header.{Header}
use Rattle.aoe_frame.specs.Header.{fields}
use Rattle.aoe_history.specs.declared.entry.Entry.{Entry}
use Rattle.aoe_history.specs.declared.entry.Entry.TheVariants.{Took}
use Rattle.aoe_history.specs.Commands.{commands_of, last_response, log_of, path_back, path_between, path_ended, submission}
use Rattle.aoe_history.specs.Frames.{arriving, clock}
use Rattle.aoe_history.specs.Groups.{Got, Takes}
use Rattle.aoe_history.specs.HostLaw.{IsResponse, IsStale}
use Rattle.aoe_history.specs.Lawful.{IsLawful}
use Rattle.aoe_history.specs.Setup.{HostSetup, Setup}
use Rattle.aoe_sim_hosts.specs.Host.{is_told, Awaits, IsHost, IsSettled, SimHost}
use Rattle.aoe_sim_hosts.proofs.Apart.{awaits-settled}
use Rattle.aoe_sim_hosts.proofs.Called.{is-called}
use Rattle.aoe_sim_hosts.proofs.Commands.{about-kept, answer-after, submitted-of}
use Rattle.aoe_sim_hosts.proofs.HostAlike.{about}
use Rattle.aoe_sim_hosts.proofs.PathNo.{path-given}
use Rattle.aoe_sim_hosts.proofs.Same.{advanced, host-same, settled-same, Stays}
use Rattle.aoe_initiator.specs.declared.device.Attached.{Attached}
use Rattle.aoe_initiator.specs.declared.outcome.Outcome.{Outcome}
use Rattle.aoe_initiator.specs.declared.response.Answer.{Answer}
use Rattle.aoe_initiator.specs.declared.response.Answer.TheVariants.{Data}
use Rattle.aoe_initiator.specs.declared.step.Taken.{Taken}
use Rattle.aoe_initiator.specs.declared.step.Taken.TheVariants.{Finished, Stale}
use Rattle.aoe_initiator.specs.Host.{Host, IsSame, Matches}
use Rattle.aoe_initiator.specs.HostLaw.{answer_to, CameOn}
use Rattle.aoe_initiator.specs.HostLaw as core
use Rattle.aoe_initiator.specs.HostLog.{Event, HostCommand}
use Rattle.aoe_initiator.specs.HostLog.Event.{Ends}
use Rattle.aoe_initiator.specs.Response.{outcome_of}
use Rattle.aoe_history.proofs.FrameLemmas.{bytes-arriving}
use Rattle.aoe_initiator.proofs.ListLemmas.{Contains-get}

-- ---- the path of a response

came-back : (s : Setup) (host : HostSetup) (h : List Entry) (x : SimHost) (c : HostCommand) (f : List ℕ) (path : PathNo) → IsHost s host x → IsLawful s h
    → Contains (commands_of host h) c → CameOn x.core c f path → path_back host (submission host h c.ticket.0) f ≡ path
came-back s host h x c f path is lawful there came =
    let read = (cond_some _ (fields f) came.header came.read).1 in
    let asked = submitted-of s host x.name is.called h lawful c there in
    let about_is = sym (about-kept s host x c.device.0 is) ∙ ap about came.there in
    let about = came.device.about in
    let differ = All-contains (λ (d : Attached). IsDistinct d.remotes.items) host.devices about is.remotes (Contains-get _ _ about about_is) in
    ap (λ (z : Header). path_between host (submission host h c.ticket.0) z.dst z.src) read
    ∙ rw (asked.there, ← ap (λ (n : DeviceNo). n.0) asked.device, about_is)
    (path-given host about path.0 came.header.dst came.header.src is.distinct differ (rw is.ports at came.pair))

ended-by : (host : HostSetup) (h : List Entry) (t : ℕ) (a : Answer) (args : List ℕ)
    → path_ended host h t (outcome_of a args) ≡ option_map (path_back host (submission host h t)) (last_response host h)
ended-by host h t (Data len) args = refl
ended-by host h t _ args = refl

-- ---- the steps

-- what is said of a frame that came to a host
abbrev pub IsHeard : Setup → HostSetup → List Entry → SimHost → SimHost → ℕ → List ℕ → Bool → Type 0
IsHeard s host h x z number f stale =
    let now = Took x.name number stale ∷ h in
    (got : Option Got) × Takes s host x.name number f h got now × IsLawful s now × Awaits s host got now z

-- the core's ports, devices, time and tickets stay
abbrev pub Kept : Host → Host → Type 0
Kept a b = IsSame a b × (b.clock ≡ a.clock) × (b.last_ticket ≡ a.last_ticket)

module _ (x z : SimHost) (f : List ℕ) (name : z.name ≡ x.name) (same : Kept x.core z.core) (s : Setup) (host : HostSetup) (h : List Entry) (number : ℕ)
    (y : IsSettled s host h x) (lawful : IsLawful s h) (fresh : arriving s.life h number ≡ Some f) where
  -- a response ends a command
  finished : (t : Ticket) → core.Takes x.core f (log_of host h) (Finished t) z.core → IsHeard s host h x z number f false
  finished t (c, answer, path, there, ticket, says, came, waiting, matches) =
      let now : List Entry = Took x.name number false ∷ h in
      let log : List Event = Ends t (Some path) ∷ log_of host h in
      let outcome : Outcome = outcome_of answer (drop 24 f) in
      let got : Got = record { host = host; ticket = t.0; outcome = outcome } in
      let told : is_told host got ≡ true = (bytes_eq-Decides host.name host.name).1 refl in
      let response : (n : List Entry) → Contains (commands_of host n) c → IsResponse s host n f t.0 outcome = λ n at.
      record { command = c; there = at; ticket_is = rw ticket; answer = answer; says = sym (answer-after s host n x c f y.is) ∙ says; gives = refl } in
      let path_is : path_ended host now t.0 outcome ≡ Some path = ended-by host now t.0 answer (drop 24 f)
      ∙ rw (is-called s x.name host y.is.called, bytes-arriving s.life h number f fresh, ← ticket, came-back s host h x c f path y.is lawful there came) in (
        Some got,
        (refl, response h there, refl),
        (rw y.is.called (record { bytes = f; fresh = fresh; law = (t.0, outcome, response h there) }), lawful),
        record {
          is = host-same s host x z name same.0 y.is;
          last = same.2 ∙ y.last;
          past = omega (arith, same.1, y.time);
          log = log;
          matches = matches;
          same = rw (told, path_is) (advanced log (clock h) (sym matches.time ∙ same.1 ∙ y.time));
          waiting = rw (waiting, y.waiting, told);
          response = λ _. record { number = number; bytes = f; fresh = fresh; response = response now there };
        },
      )

  -- a response that ends no command
  stale : core.Takes x.core f (log_of host h) Stale z.core → IsHeard s host h x z number f true
  stale (none_answers, unchanged) =
      let law : IsStale s host h f = λ k d below. sym (answer-after s host h x (slice_index_or (commands_of host h) k d) f y.is) ∙ none_answers k d below in
      let stays : Stays x.core z.core = (same.0, same.1, same.2, ap (λ (c : Host). c.waiting) unchanged) in
      let settled = settled-same s host h (Took x.name number true ∷ h) x z name stays refl refl (rw unchanged y.matches) y in (
        None,
        (law, refl),
        (rw y.is.called (record { bytes = f; fresh = fresh; law = law }), lawful),
        awaits-settled s host (Took x.name number true ∷ h) z settled,
      )

abbrev pub is_stale : Taken → Bool
is_stale (Finished t) = false
is_stale Stale = true

abbrev pub Heard : SimHost → SimHost → List ℕ → Bool → Type 0
Heard x z f stale = (s : Setup) (host : HostSetup) (h : List Entry) (number : ℕ) → IsSettled s host h x → IsLawful s h → arriving s.life h number ≡ Some f
    → IsHeard s host h x z number f stale

-- what a frame does, by what the core says of it
pub heard : (x z : SimHost) (f : List ℕ) (taken : Taken) → z.name ≡ x.name → Kept x.core z.core
    → ((log : List Event) → Matches log x.core → core.Takes x.core f log taken z.core) → Heard x z f (is_stale taken)
heard x z f (Finished t) name same takes s host h number y lawful fresh =
    finished x z f name same s host h number y lawful fresh t (takes (log_of host h) y.matches)
heard x z f Stale name same takes s host h number y lawful fresh = stale x z f name same s host h number y lawful fresh (takes (log_of host h) y.matches)
