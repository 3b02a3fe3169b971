-- A client comes, a turn of the conversation with it passes, and it has gone.
use Rattle.std.proofs.Common.{ℕ, ◌≡◌, ◌+◌, ◌-◌, ◌^◌, min, Bool, List, [], ◌∷◌, ◌++◌, Option, Some, None, refl, sym, ap, ◌∙◌, arith}
use Rattle.std.specs.Prelude.{Result}
use Rattle.aoe_block.specs.Steps.{owns}
use Rattle.aoe_clients.specs.Clients.{accepted, closed, ClientEvent}
use Rattle.aoe_desk.specs.Desks.{left, DeskState}
use Rattle.aoe_desk.specs.Runs.{after, after_all, Call, IsRun}
use Rattle.aoe_io.specs.Link.{Added}
use Rattle.aoe_nbd_serve.specs.declared.phase.Ended.{Ended}
use Rattle.aoe_nbd_serve.specs.Account.{begins_as, IsAnswered, IsOver, ServeSeen, Setting}
use Rattle.aoe_nbd_serve.specs.Conversations.{called, calls_of as calls_in, ends_with, events_of, greeted, CanCallAll, ConversationState, Converses}
use Rattle.aoe_nbd_serve.specs.Deeds.{calls_of, desk_of, last_of, stays_as, talk_of, why_of, Deed}
use Rattle.aoe_nbd_serve.specs.Deeds.Deed.{accepts, closes, leaves, talks}
use Rattle.aoe_nbd_serve.specs.Serving.{Serves}
use Rattle.aoe_nbd_serve.specs.declared.serving.Serving.{Serving}
use Rattle.aoe_nbd_serve.specs.declared.terms.Asked.{Asked}
use Rattle.aoe_nbd_serve.proofs.ActLemmas.{acts-desk}
use Rattle.aoe_nbd_serve.proofs.StepLemmas.{does, silent, tells}

-- calls behind others
calls-more : (total max : ℕ) (calls earlier : List Call) → after_all total max (calls ++ earlier) ≡ called calls (after_all total max earlier)
calls-more total max [] earlier = refl
calls-more total max (call ∷ calls) earlier = ap (after call) (calls-more total max calls earlier)

run-more : (total max : ℕ) (calls earlier : List Call) → IsRun total max earlier → CanCallAll calls (after_all total max earlier)
    → IsRun total max (calls ++ earlier)
run-more total max [] earlier run can = run
run-more total max (call ∷ calls) earlier run can = (run-more total max calls earlier run can.0, rw (calls-more total max calls earlier) can.1)

module _ {c : Setting} (seen : ServeSeen) {before : Option (List ClientEvent)} {most : ℕ} (x : Serving) (s : Serves c (record seen { told = before }) most x) where
  -- nothing is over while a client is there
  not-over : {t : ConversationState} → talk_of c.terms.export (owns s.steps) ≡ Some t → last_of (owns s.steps) ≡ None
  not-over {t} here = at (last_of (owns s.steps)) refl
    where
      at : (o : Option _) → last_of (owns s.steps) ≡ o → last_of (owns s.steps) ≡ None
      at None e = e
      at (Some ticket) e = let (why, o) = s.keeps.over ticket e in absurd (let wrong = sym o.nobody ∙ here in cc)

  -- nor while the end isn't asked for
  not-ending : why_of (owns s.steps) ≡ None → last_of (owns s.steps) ≡ None
  not-ending none = at (last_of (owns s.steps)) refl
    where
      at : (o : Option _) → last_of (owns s.steps) ≡ o → last_of (owns s.steps) ≡ None
      at None e = e
      at (Some ticket) e = let (why, o) = s.keeps.over ticket e in absurd (let wrong = sym o.asked_is ∙ none in cc)

  -- a client is accepted
  module _ (clients : ℕ) (count : clients ≡ min (x.served.clients + 1) (2 ^ 64 - 1)) (nobody : x.conversation ≡ None) (goes_on : x.asked ≡ None)
      (answered : IsAnswered x.desk) {mid : Option (List ClientEvent)} (came : Added before mid (accepted ∷ [])) where
    pub accepted-one : (s' : Serves c (record seen { told = mid }) most
        (record x { served = record x.served { clients = clients }; waits = 0; conversation = Some (greeted x.terms.now.export x.time.0) }))
        × (owns s'.steps ≡ accepts x.time.0 ∷ owns s.steps)
    accepted-one =
        let k = s.keeps in
        let none : why_of (owns s.steps) ≡ None = sym k.asked_is ∙ goes_on in
        does s (accepts x.time.0)
        (record {
          at = (s.look.earlier, s.look.order);
          nobody = sym k.talk_is ∙ nobody;
          goes_on = none;
          answered = rw k.desk_is at answered;
        })
        (tells (accepts x.time.0) (accepted ∷ []) refl refl refl s.seen_is came) refl refl refl refl s.all
        (record {
          terms_is = k.terms_is;
          desk_is = k.desk_is;
          run = k.run;
          written_is = k.written_is;
          asked_is = k.asked_is;
          talk_is = ap (λ t. Some (greeted t.export x.time.0)) k.terms_is;
          last_is = k.last_is;
          over = λ n e. absurd (let wrong : None ≡ Some n = sym (not-ending none) ∙ e in cc);
          counted = record { clients_are = omega (arith, count, k.counted.clients_are); commands_are = k.counted.commands_are };
          waits = omega arith;
        })

-- and closed, for want of memory
pub closed-one : {c : Setting} (seen : ServeSeen) {before later : Option (List ClientEvent)} {most : ℕ} (x : Serving) {t : ConversationState}
    (s : Serves c (record seen { told = before }) most (record x { conversation = Some t }))
    → (deeds : List Deed) (now : ℕ) → owns s.steps ≡ accepts now ∷ deeds → x.waits ≡ 0
    → Added before later (closed ∷ []) → Serves c (record seen { told = later }) most (record x { conversation = None })
closed-one {c} seen x {t} s deeds now just waits went =
    let k = s.keeps in
    let none : last_of (owns s.steps) ≡ None = not-over seen (record x { conversation = Some t }) s (sym k.talk_is) in
    (does {y = record x { conversation = None }} s closes (deeds, now, just) (tells closes (closed ∷ []) refl refl refl s.seen_is went) refl refl refl refl s.all
    (record {
      terms_is = k.terms_is;
      desk_is = k.desk_is;
      run = k.run;
      written_is = k.written_is;
      asked_is = k.asked_is;
      talk_is = refl;
      last_is = k.last_is;
      over = λ n e. absurd (let wrong : None ≡ Some n = sym none ∙ e in cc);
      counted = record { clients_are = k.counted.clients_are; commands_are = k.counted.commands_are };
      waits = omega (arith, waits);
    })).0

-- a turn of the conversation
module _ {c : Setting} (seen : ServeSeen) {before later : Option (List ClientEvent)} {most : ℕ} (x : Serving) (s : Serves c (record seen { told = before }) most x)
    {t u t' : ConversationState} {d : DeskState} {result : Result Bool Ended} (here : x.conversation ≡ Some t) (begun : u ≡ begins_as x.asked t)
    (con : Converses x.time.0 before later u x.desk result t' d) where
  the-desk : d ≡ desk_of c.terms.total c.terms.max (talks x.time.0 con.acts result t' ∷ owns s.steps)
  the-desk =
      let k = s.keeps in
      let m = acts-desk con.acts _ _ _ _ con.leads in
      m.desk ∙ ap (called (calls_in con.acts)) k.desk_is ∙ sym (calls-more c.terms.total c.terms.max (calls_in con.acts) (calls_of (owns s.steps)))

  pub talked : (o : Option ConversationState) → o ≡ stays_as result t'
      → (s' : Serves c (record seen { told = later }) most (record x { conversation = o; desk = d; waits = 0 }))
      × (owns s'.steps ≡ talks x.time.0 con.acts result t' ∷ owns s.steps)
  talked o stays =
      let k = s.keeps in
      let deed = talks x.time.0 con.acts result t' in
      let there : talk_of c.terms.export (owns s.steps) ≡ Some t = sym k.talk_is ∙ here in
      let m = acts-desk con.acts _ _ _ _ con.leads in
      does s deed
      (record {
        at = (s.look.earlier, s.look.order);
        before = t;
        here = there;
        leads = rw (sym k.desk_is, sym k.asked_is, sym begun, sym the-desk) con.leads;
        ended = λ n. rw (sym the-desk) (con.ended n);
      })
      (tells deed (ends_with result ++ events_of con.acts) refl refl refl s.seen_is con.tells) refl refl refl refl s.all
      (record {
        terms_is = k.terms_is;
        desk_is = the-desk;
        run =
            run-more c.terms.total c.terms.max (calls_in con.acts) (calls_of (owns s.steps)) k.run (rw k.desk_is at m.could);
        written_is = k.written_is;
        asked_is = k.asked_is;
        talk_is = stays;
        last_is = k.last_is;
        over = λ n e. absurd (let wrong : None ≡ Some n = sym (not-over seen x s there) ∙ e in cc);
        counted = record { clients_are = k.counted.clients_are; commands_are = k.counted.commands_are };
        waits = omega arith;
      })

-- the client has gone
module _ {c : Setting} {seen : ServeSeen} {most : ℕ} (x : Serving) (s : Serves c seen most x) (nobody : x.conversation ≡ None) where
  left-over : (deed : Deed) → deed ≡ leaves → (ticket : _) → last_of (owns s.steps) ≡ Some ticket → (why : Asked) × IsOver c.terms why (leaves ∷ owns s.steps)
  left-over deed is ticket e =
      let (why, o) = s.keeps.over ticket e in (
        why,
        record { asked_is = o.asked_is; nobody = o.nobody; nothing_open = o.nothing_open },
      )

  pub left-one : (s' : Serves c seen most (record x { desk = left x.desk })) × (owns s'.steps ≡ leaves ∷ owns s.steps)
  left-one =
      let k = s.keeps in
      does s leaves (sym k.talk_is ∙ nobody) (silent leaves refl refl refl s.seen_is) refl refl refl refl s.all
      (record {
        terms_is = k.terms_is;
        desk_is = ap left k.desk_is;
        run = (k.run, tt);
        written_is = k.written_is;
        asked_is = k.asked_is;
        talk_is = k.talk_is;
        last_is = k.last_is;
        over = left-over leaves refl;
        counted = record { clients_are = k.counted.clients_are; commands_are = k.counted.commands_are };
        waits = k.waits;
      })
