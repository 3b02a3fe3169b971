-- The end is asked for, waited for, and reached.
use Rattle.std.proofs.Common.{ℕ, ◌≡◌, ◌+◌, ◌≤◌, Bool, List, [], ◌∷◌, Option, Some, None, refl, sym, ap, ◌∙◌, arith}
use Rattle.std.specs.Prelude.{is_some, IfSome}
use Rattle.aoe_block.specs.Steps.{owns}
use Rattle.aoe_block.proofs.StepLemmas.{seen-own, told-then}
use Rattle.aoe_io.proofs.LinkLemmas.{Added-then}
use Rattle.aoe_io.specs.Link.{Added}
use Rattle.aoe_nbd_serve.specs.Account.{IsWanted, ServeSeen, Setting}
use Rattle.aoe_nbd_serve.specs.Deeds.{asked_of, last_of, waits_of, why_of}
use Rattle.aoe_nbd_serve.specs.Deeds.Deed.{asks, ends, waits}
use Rattle.aoe_nbd_serve.specs.Ends.{EndsBy, IsServed}
use Rattle.aoe_nbd_serve.specs.Serving.{Serves, Went}
use Rattle.aoe_nbd_serve.specs.declared.serving.Serving.{Serving}
use Rattle.aoe_nbd_serve.specs.declared.terms.Asked.{Asked}
use Rattle.aoe_nbd_serve.specs.declared.terms.ServeEnd.{ServeEnd}
use Rattle.aoe_nbd_serve.proofs.StepLemmas.{does, silent}

module _ {c : Setting} {seen : ServeSeen} {most : ℕ} (x : Serving) (s : Serves c seen most x) where
  -- nothing is over before
  not-ended : why_of (owns s.steps) ≡ None → last_of (owns s.steps) ≡ None
  not-ended none = at (last_of (owns s.steps)) refl
    where
      at : (o : Option _) → last_of (owns s.steps) ≡ o → last_of (owns s.steps) ≡ None
      at None e = e
      at (Some ticket) e = let (why, o) = s.keeps.over ticket e in absurd (let wrong = sym o.asked_is ∙ none in cc)

  -- the end is asked for
  pub ended-by : (why : Asked) → x.asked ≡ None → IsWanted c.terms (owns s.steps) why → Serves c seen most (record x { asked = Some why })
  ended-by why before wanted =
      let k = s.keeps in
      let none : why_of (owns s.steps) ≡ None = sym k.asked_is ∙ before in
      (does s (ends why) (none, wanted) (silent (ends why) refl refl refl s.seen_is) refl refl refl refl s.all
      (record {
        terms_is = k.terms_is;
        desk_is = k.desk_is;
        run = k.run;
        written_is = k.written_is;
        asked_is = refl;
        talk_is = k.talk_is;
        last_is = k.last_is;
        over = λ n e. absurd (let wrong : None ≡ Some n = sym (not-ended none) ∙ e in cc);
        counted = record { clients_are = k.counted.clients_are; commands_are = k.counted.commands_are };
        waits = k.waits;
      })).0

-- it is asked whether to end
pub asked-one : {c : Setting} (seen : ServeSeen) {before later : Option (List Bool)} {most : ℕ} (x : Serving) (s : Serves c (record seen { asked = before }) most x)
    (look : ℕ) (answer : Bool) → x.asked ≡ None → Added before later (answer ∷ [])
    → (s' : Serves c (record seen { asked = later }) most (record x { look = look })) × (owns s'.steps ≡ asks answer ∷ owns s.steps)
asked-one {c} seen {before} {later} x s look answer none told =
    let k = s.keeps in
    let h = s.seen_is in
    let why : why_of (owns s.steps) ≡ None = sym k.asked_is ∙ none in
    does s (asks answer) why
    (record {
      seen_is = seen-own (asks answer) h.seen_is;
      told_is = h.told_is;
      waits_is = h.waits_is;
      asked_is = Added-then c.before.asked before later (asked_of (owns s.steps)) (answer ∷ []) h.asked_is told;
    })
    refl refl refl refl s.all
    (record {
      terms_is = k.terms_is;
      desk_is = k.desk_is;
      run = k.run;
      written_is = k.written_is;
      asked_is = k.asked_is;
      talk_is = k.talk_is;
      last_is = k.last_is;
      over = λ n e. absurd (let wrong : None ≡ Some n = sym (not-ended x s why) ∙ e in cc);
      counted = record { clients_are = k.counted.clients_are; commands_are = k.counted.commands_are };
      waits = k.waits;
    })

-- a wait
pub waited-one : {c : Setting} (seen : ServeSeen) {before later : Option (List ℕ)} {most : ℕ} (x : Serving) (s : Serves c (record seen { waits = before }) most x)
    (wait n : ℕ) → wait ≤ 100 → n ≤ x.waits + 1 → IfSome later (λ all. Added before later (wait ∷ []))
    → Serves c (record seen { waits = later }) most (record x { waits = n })
waited-one {c} seen {before} {later} x s wait n short count told =
    let k = s.keeps in
    let h = s.seen_is in
    (does {y = record x { waits = n }} s (waits wait) short
    (record {
      seen_is = seen-own (waits wait) h.seen_is;
      told_is = h.told_is;
      waits_is = told-then c.before.waits before later (waits_of (owns s.steps)) wait h.waits_is told;
      asked_is = h.asked_is;
    })
    refl refl refl refl s.all
    (record {
      terms_is = k.terms_is;
      desk_is = k.desk_is;
      run = k.run;
      written_is = k.written_is;
      asked_is = k.asked_is;
      talk_is = k.talk_is;
      last_is = k.last_is;
      over = λ ticket e.
          let (why, o) = k.over ticket e in
          (why, record { asked_is = o.asked_is; nobody = o.nobody; nothing_open = o.nothing_open });
      counted = record { clients_are = k.counted.clients_are; commands_are = k.counted.commands_are };
      waits = omega (arith, count, k.waits);
    })).0

-- the server ends
pub ended-as : {c : Setting} {seen : ServeSeen} {most : ℕ} {x : Serving} (end : ServeEnd) (s : Serves c seen most x) → EndsBy end c.terms s.steps
    → IsServed end x.served (is_some x.conversation) c seen
ended-as end s so = record {
  steps = s.steps;
  are = s.are;
  run = s.keeps.run;
  seen_is = s.seen_is;
  counted = s.keeps.counted;
  here_is = ap is_some s.keeps.talk_is;
  ends = so;
}

-- a fault ends it
pub ended-went : {c : Setting} {seen : ServeSeen} {x : Serving} (end : ServeEnd) (w : Went c seen x) → EndsBy end c.terms w.steps
    → IsServed end x.served (is_some x.conversation) c seen
ended-went end w so = record {
  steps = w.steps;
  are = w.are;
  run = w.run;
  seen_is = w.seen_is;
  counted = w.counted;
  here_is = w.here_is;
  ends = so;
}
