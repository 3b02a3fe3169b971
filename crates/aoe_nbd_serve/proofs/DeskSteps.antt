-- Outcomes are given to the desk, and its operations are submitted; and the last flush.
use Rattle.std.proofs.Common.{ℕ, suc, ◌≡◌, ◌+◌, ◌≤◌, ◌&&◌, ◌||◌, Bool, true, List, [], ◌∷◌, ◌++◌, reverse, Some, None, refl, sym, ap, ◌∙◌, arith, append_assoc, inl, inr, ◌⊎◌}
use Rattle.std.specs.List.{position}
use Rattle.std.proofs.lemmas.List.{reverse-append}
use Rattle.aoe_base.specs.declared.counted.Ticket.{Ticket}
use Rattle.aoe_block.specs.Steps.{asked, answers_of, log_of, outcomes, owns, ticket_at, Drives}
use Rattle.aoe_block.specs.Steps.Step.{own, submits}
use Rattle.aoe_block.specs.Turns.{the_device}
use Rattle.aoe_block.proofs.StepLemmas.{drives-own, drives-submits, seen-submits}
use Rattle.aoe_desk.specs.Desks.{gave_up, hand, next_op, settle, settle_at, DeskState}
use Rattle.aoe_desk.specs.Requests.{owns as owns_it}
use Rattle.aoe_desk.specs.declared.request.OpenRequest.{OpenRequest}
use Rattle.aoe_initiator.specs.declared.op.Op.{Op}
use Rattle.aoe_initiator.specs.declared.op.Op.TheVariants as op
use Rattle.aoe_initiator.specs.declared.outcome.Done.{Done}
use Rattle.aoe_initiator.specs.Host.{Host, IsSame, Matches}
use Rattle.aoe_initiator.specs.HostLog.{Event}
use Rattle.aoe_initiator.specs.HostLog.Event.{Submits}
use Rattle.aoe_nbd_serve.specs.Account.{is_flush_wanted, IsLast, IsOver, IsRested, LastEnded, MaySubmit, ServeSeen, Setting}
use Rattle.aoe_nbd_serve.specs.Deeds.{desk_of, is_written, last_of, settled, Deed}
use Rattle.aoe_nbd_serve.specs.Deeds.Deed.{flushes, gives_up, hands, settles}
use Rattle.aoe_nbd_serve.specs.Serving.{IsLook, Keeps, Serves}
use Rattle.aoe_nbd_serve.specs.declared.serving.Serving.{Serving}
use Rattle.aoe_nbd_serve.specs.declared.terms.Asked.{Asked}
use Rattle.aoe_nbd_serve.proofs.StepLemmas.{does, silent}

-- a desk without a request owns nothing
settle-none : (done : Done) (d : DeskState) → d.open_requests ≡ [] → settle done d ≡ d
settle-none done d none = ap (λ (l : List OpenRequest). settle_at done (position (owns_it done.ticket.0) l) d) none

module _ {c : Setting} {seen : ServeSeen} {most : ℕ} (x : Serving) (s : Serves c seen most x) (h : Host) (done : Done)
    (first : x.host.waiting ≡ done ∷ h.waiting) (is : h ≡ record x.host { waiting = h.waiting })
    (matches : (log : List Event) → Matches log x.host → Matches log h) where
  settled-order : outcomes s.steps ≡ reverse h.waiting ++ done ∷ settled (owns s.steps)
  settled-order =
      s.order
      ∙ ap (λ (l : List Done). reverse l ++ settled (owns s.steps)) first
      ∙ ap (λ (l : List Done). l ++ settled (owns s.steps)) (reverse-append (done ∷ []) h.waiting)
      ∙ append_assoc (reverse h.waiting) (done ∷ []) (settled (owns s.steps))

  settled-over : (ticket : Ticket) → last_of (owns s.steps) ≡ Some ticket → (why : Asked) × IsOver c.terms why (settles done ∷ owns s.steps)
  settled-over ticket e =
      let (why, o) = s.keeps.over ticket e in (
        why,
        record {
          asked_is = o.asked_is;
          nobody = o.nobody;
          nothing_open = ap (λ (d : DeskState). d.open_requests) (settle-none done (desk_of c.terms.total c.terms.max (owns s.steps)) o.nothing_open) ∙ o.nothing_open;
        },
      )

  -- an outcome is given to the desk
  pub settled-one : (d : DeskState) (w : Bool) → d ≡ settle done x.desk → w ≡ (is_written done.outcome || x.has_written)
      → (s' : Serves c seen most (record x { host = h; desk = d; has_written = w })) × (owns s'.steps ≡ settles done ∷ owns s.steps)
  settled-one d w desk written =
      let k = s.keeps in
      let drives = s.drives in (
        record {
          new = s.new;
          steps = own (settles done) ∷ s.steps;
          are = (s.are, record { later = reverse h.waiting; order = settled-order });
          seen_is = silent (settles done) refl refl refl s.seen_is;
          few = s.few;
          drives = record {
            same =
                rw is
                (record {
                  ports = drives.same.ports;
                  life = drives.same.life;
                  room = drives.same.room;
                  dead = drives.same.dead;
                  devices = drives.same.devices;
                });
            matches = matches (log_of c.start s.steps) drives.matches;
            last = ap (λ (z : Host). z.last_ticket) is ∙ drives.last;
            tags = rw is drives.tags;
          };
          order = settled-order;
          look = s.look;
          all = s.all;
          keeps = record {
            terms_is = k.terms_is;
            desk_is = desk ∙ ap (settle done) k.desk_is;
            run = (k.run, tt);
            written_is = written ∙ ap (λ (b : Bool). is_written done.outcome || b) k.written_is;
            asked_is = k.asked_is;
            talk_is = k.talk_is;
            last_is = k.last_is;
            over = settled-over;
            counted = record { clients_are = k.counted.clients_are; commands_are = k.counted.commands_are };
            waits = k.waits;
          };
        },
        refl,
      )

  -- and is that of the last flush
  pub settled-last : (d : DeskState) (w : Bool) (back : Done) → d ≡ settle done x.desk → w ≡ (is_written done.outcome || x.has_written) → back ≡ done
      → x.last ≡ Some back.ticket
      → (s' : Serves c seen most (record x { host = h; desk = d; has_written = w })) × LastEnded (owns s'.steps) back.outcome
  settled-last d w back desk written same last =
      let one = settled-one d w desk written in (
        one.0,
        rw (one.1, same)
            (record {
              ticket = done.ticket;
              under_way = sym s.keeps.last_is ∙ (rw same at last);
              earlier = settled (owns s.steps);
              ended = refl;
            }),
      )

-- no frame of an earlier run can arrive any more
rested-so : (c : Setting) (answers : List ℕ) (first time quarantine : ℕ) → IsLook first time answers → c.terms.quarantine.0 ≡ quarantine
    → first + quarantine ≤ time → IsRested c.terms.quarantine.0 answers
rested-so c answers first time quarantine look is rested = rw (look.order, look.first_is, is) rested

-- what is kept says whether a flush is wanted
pub wanted-is : {c : Setting} {deeds : List Deed} (x : Serving) → Keeps c deeds x → (x.terms.now.export.flushes && x.has_written) ≡ is_flush_wanted c.terms deeds
wanted-is x k = rw (k.terms_is, k.written_is) refl

-- what a command that is submitted leaves of the host
pub record Submitted (o : Op) (ticket : Ticket) (host host' : Host) : Type 0 where
  pub matches : (log : List Event) → Matches log host → Matches (Submits ticket the_device o ∷ log) host'
  pub same : IsSame host host'
  pub number : ticket.0 ≡ host.last_ticket + 1
  pub last : host'.last_ticket ≡ ticket.0
  pub waiting : host'.waiting ≡ host.waiting
  pub tag : host'.flight.last_tag ≡ host.flight.last_tag

module _ {c : Setting} {seen : ServeSeen} {most : ℕ} (x : Serving) (s : Serves c seen most x) (h : Host) {o : Op} {ticket : Ticket}
    (sub : Submitted o ticket x.host h) (open_now : x.last ≡ None) (rested : x.first.0 + x.terms.now.quarantine.0 ≤ x.time.0) where
  not-flushed : last_of (owns s.steps) ≡ None
  not-flushed = sym s.keeps.last_is ∙ open_now

  may-submit : (next_op (desk_of c.terms.total c.terms.max (owns s.steps)) ≡ Some o) ⊎ IsLast c.terms (owns s.steps) o → MaySubmit c s.steps o
  may-submit why = record {
    all_handed = s.all not-flushed;
    not_flushed = not-flushed;
    rested = rested-so c (answers_of s.steps) x.first.0 x.time.0 x.terms.now.quarantine.0 s.look (ap (λ t. t.quarantine.0) (sym s.keeps.terms_is)) rested;
    next_is = why;
  }

  own-ticket : ticket ≡ ticket_at c.start (asked s.steps)
  own-ticket = ap (λ (n : ℕ). record { 0 = n }) (omega (arith, sub.number, s.drives.last))

  drives-next : Drives c.start (submits o ∷ s.steps) h
  drives-next = drives-submits o s.drives sub.matches sub.same sub.number sub.last sub.tag

  -- the desk's next operation
  pub handed-one : (d : DeskState) (commands : ℕ) → next_op x.desk ≡ Some o → d ≡ hand ticket x.desk → commands ≡ x.served.commands + 1
      → x.desk.last ≤ x.host.last_ticket
      → Serves c seen most (record x { host = h; desk = d; served = record x.served { commands = commands } })
  handed-one d commands next_is desk count low =
      let k = s.keeps in
      let following : next_op (desk_of c.terms.total c.terms.max (owns s.steps)) ≡ Some o = rw (sym k.desk_is) next_is in
      record {
        new = s.new;
        steps = own (hands ticket) ∷ submits o ∷ s.steps;
        are = (
          (s.are, may-submit (inl following)),
          record { op_is = o; earlier = s.steps; order = refl; ticket_is = own-ticket; such = following },
        );
        seen_is =
            silent (hands ticket) refl refl refl
            (record {
              seen_is = seen-submits o s.seen_is.seen_is;
              told_is = s.seen_is.told_is;
              waits_is = s.seen_is.waits_is;
              asked_is = s.seen_is.asked_is;
            });
        few = s.few;
        drives = drives-own (hands ticket) drives-next;
        order = rw sub.waiting s.order;
        look = s.look;
        all = λ e. ap suc (s.all e);
        keeps = record {
          terms_is = k.terms_is;
          desk_is = desk ∙ ap (hand ticket) k.desk_is;
          run = (k.run, (rw following refl, omega (arith, low, sub.number, ap (λ (z : DeskState). z.last) k.desk_is)));
          written_is = k.written_is;
          asked_is = k.asked_is;
          talk_is = k.talk_is;
          last_is = k.last_is;
          over = λ n e. absurd (let wrong = sym not-flushed ∙ e in cc);
          counted = record { clients_are = k.counted.clients_are; commands_are = omega (arith, count, k.counted.commands_are) };
          waits = k.waits;
        };
      }

  -- the last flush
  pub flushed-one : o ≡ op.Flush → (x.terms.now.export.flushes && x.has_written) ≡ true → (why : Asked) → IsOver c.terms why (owns s.steps)
      → Serves c seen most (record x { host = h; last = Some ticket })
  flushed-one flush wanted why over =
      let k = s.keeps in
      let last : IsLast c.terms (owns s.steps) o = record {
        flush = flush;
        wanted = sym (wanted-is x k) ∙ wanted;
        why = why;
        over = over;
      } in
      record {
        new = s.new;
        steps = own (flushes ticket) ∷ submits o ∷ s.steps;
        are = ((s.are, may-submit (inr last)), record { op_is = o; earlier = s.steps; order = refl; ticket_is = own-ticket; such = last });
        seen_is =
            silent (flushes ticket) refl refl refl
            (record {
              seen_is = seen-submits o s.seen_is.seen_is;
              told_is = s.seen_is.told_is;
              waits_is = s.seen_is.waits_is;
              asked_is = s.seen_is.asked_is;
            });
        few = s.few;
        drives = drives-own (flushes ticket) drives-next;
        order = rw sub.waiting s.order;
        look = s.look;
        all = λ e. absurd cc;
        keeps = record {
          terms_is = k.terms_is;
          desk_is = k.desk_is;
          run = k.run;
          written_is = k.written_is;
          asked_is = k.asked_is;
          talk_is = k.talk_is;
          last_is = refl;
          over = λ n e. (why, record { asked_is = over.asked_is; nobody = over.nobody; nothing_open = over.nothing_open });
          counted = record { clients_are = k.counted.clients_are; commands_are = k.counted.commands_are };
          waits = k.waits;
        };
      }

-- the request of the next operation is given up
pub gave-up-one : {c : Setting} {seen : ServeSeen} {most : ℕ} (x : Serving) (s : Serves c seen most x) (d : DeskState) → d ≡ gave_up x.desk → x.last ≡ None
    → Serves c seen most (record x { desk = d })
gave-up-one x s d desk open_now =
    let k = s.keeps in
    let none : last_of (owns s.steps) ≡ None = sym k.last_is ∙ open_now in
    (does s gives_up none (silent gives_up refl refl refl s.seen_is) refl refl refl refl s.all
    (record {
      terms_is = k.terms_is;
      desk_is = desk ∙ ap gave_up k.desk_is;
      run = (k.run, tt);
      written_is = k.written_is;
      asked_is = k.asked_is;
      talk_is = k.talk_is;
      last_is = k.last_is;
      over = λ n e. absurd (let wrong = sym none ∙ e in cc);
      counted = record { clients_are = k.counted.clients_are; commands_are = k.counted.commands_are };
      waits = k.waits;
    })).0
