-- A server that begins.
use Rattle.std.proofs.Common.{ℕ, ◌≡◌, ◌<◌, ◌≤◌, ◌++◌, false, List, [], ◌∷◌, length, Option, Some, None, reverse, refl, sym, ap, ◌∙◌, arith}
use Rattle.std.specs.Prelude.{IfSome}
use Rattle.std.proofs.lemmas.List.{reverse-reverse}
use Rattle.aoe_block.specs.Steps.{new_start, Drives, Told}
use Rattle.aoe_block.specs.Steps.Step.{ticks}
use Rattle.aoe_block.proofs.SendLemmas.{added-nothing}
use Rattle.aoe_block.proofs.StepLemmas.{drives-start, drives-ticks, seen-ticks, ticks-gives-up, Advanced}
use Rattle.aoe_block.proofs.TagLemmas.{tagged-none}
use Rattle.aoe_initiator.specs.declared.outcome.Done.{Done}
use Rattle.aoe_initiator.specs.Host.{Host}
use Rattle.aoe_io.proofs.LinkLemmas.{turned-nothing}
use Rattle.aoe_io.specs.Link.{Added}
use Rattle.aoe_nbd_serve.specs.Account.{HasServed, ServeSeen}
use Rattle.aoe_nbd_serve.specs.Ends.{IsNew, IsServed}
use Rattle.aoe_nbd_serve.specs.Serving.{Serves}
use Rattle.aoe_nbd_serve.specs.declared.serving.Serving.{Serving}
use Rattle.aoe_nbd_serve.specs.declared.terms.ServeEnd.TheVariants as serve_end
use Rattle.aoe_nbd_serve.specs.declared.terms.Terms.{Terms}

told-nothing : (a : Option (List ℕ)) → Told a a []
told-nothing None = tt
told-nothing (Some l) = refl

-- before the first step
pub seen-nothing : (seen : ServeSeen) → HasServed seen seen []
seen-nothing seen = record {
  seen_is = record {
    turned = turned-nothing seen.link.turns seen.link.given;
    took = added-nothing seen.link.taken;
    told = told-nothing seen.link.answers;
  };
  told_is = added-nothing seen.told;
  waits_is = told-nothing seen.waits;
  asked_is = added-nothing seen.asked;
}

-- there was no memory to begin
pub never-began : (t : Terms) (host : Host) (seen : ServeSeen) → 0 < t.max → t.max ≤ 17
    → IsServed serve_end.NoMemory (record { clients = 0; commands = 0 }) false (record { start = new_start host; terms = t; before = seen }) seen
never-began t host seen some most = record {
  steps = [];
  are = tt;
  run = (some, most);
  seen_is = seen-nothing seen;
  counted = record { clients_are = omega arith; commands_are = refl };
  here_is = refl;
  ends = tt;
}

module _ {t : Terms} {host : Host} (n : IsNew t host) where
  tagless : host.flight.last_tag ≡ 0
  tagless = ap (λ (h : Host). h.flight.last_tag) n.is

  pub ticketless : host.last_ticket ≡ 0
  ticketless = ap (λ (h : Host). h.last_ticket) n.is

  waits-for-nothing : host.waiting ≡ []
  waits-for-nothing = ap (λ (h : Host). h.waiting) n.is

  -- behind the first look at the clock
  pub begun : (x : Serving) (first : ℕ) (a : Advanced host x.host first) (seen : ServeSeen) (later : Option (List ℕ))
      → IfSome later (λ all. Added seen.link.answers later (first ∷ []))
      → x.first.0 ≡ first → x.time.0 ≡ first → x.terms.now ≡ t → x.desk ≡ record { total = t.total; max = t.max; open_requests = []; gone = 0; replies = []; last = 0 }
      → 0 < t.max → t.max ≤ 17 → x.has_written ≡ false → x.asked ≡ None → x.conversation ≡ None → x.last ≡ None → x.waits ≡ 0
      → x.served ≡ record { clients = 0; commands = 0 }
      → Serves (record { start = new_start host; terms = t; before = seen }) (record seen { link = record seen.link { answers = later } }) 0 x
  begun x first a seen later told first_is time terms desk some most written asked talk last waits served =
      let up = a.gives_up.0 in
      let d : Drives (new_start host) [] host = drives-start n.matches (rw tagless tagged-none) in
      let h = seen-nothing seen in
      record {
        new = ticketless;
        steps = ticks first up ∷ [];
        are = (tt, ticks-gives-up a d);
        seen_is = record { seen_is = seen-ticks up h.seen_is told; told_is = h.told_is; waits_is = h.waits_is; asked_is = h.asked_is };
        few = omega arith;
        drives = drives-ticks a d;
        order =
            sym
            (ap (λ (l : List Done). reverse l ++ []) (a.gives_up.1 ∙ ap (λ (l : List Done). l ++ reverse up) waits-for-nothing)
            ∙ ap (λ (l : List Done). l ++ []) (reverse-reverse up));
        look = record { earlier = []; order = ap (λ (n : ℕ). n ∷ []) (sym time); first_is = time ∙ sym first_is };
        all = λ e. refl;
        keeps = record {
          terms_is = terms;
          desk_is = desk;
          run = (some, most);
          written_is = written;
          asked_is = asked;
          talk_is = talk;
          last_is = last;
          over = λ ticket e. absurd cc;
          counted = rw served (record { clients_are = omega arith; commands_are = refl });
          waits = omega (arith, waits);
        };
      }
