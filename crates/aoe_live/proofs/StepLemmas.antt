-- Lines of a turn, one behind another, and what is left undone.
use Rattle.std.proofs.Common.{ℕ, ◌≡◌, ◌≤◌, true, List, [], ◌∷◌, ◌++◌, Option, length, length-append, append_assoc, append-nil, refl, sym, subst, ap, ◌∙◌, arith}
use Rattle.std.specs.Prelude.{IfErr, OnOk, Result, Ok, Err}
use Rattle.aoe_history.specs.declared.entry.Entry.{Entry}
use Rattle.aoe_io.proofs.LinkLemmas.{turned-nothing, turned-then}
use Rattle.aoe_io.specs.Link.{Turn, Turned}
use Rattle.aoe_script.specs.declared.event.Event.{Event}
use Rattle.aoe_live.specs.declared.frames.Sender.{Sender}
use Rattle.aoe_live.specs.declared.frames.Sender.TheVariants as sender
use Rattle.aoe_live.specs.declared.recorder.Recorder.{Recorder}
use Rattle.aoe_live.specs.declared.refusal.LiveRefusal.{LiveRefusal}
use Rattle.aoe_live.specs.declared.refusal.LiveRefusal.TheVariants as live
use Rattle.aoe_live.specs.Lines.{Carries, LineComes, LinesCome}
use Rattle.aoe_live.specs.Recorder.{is_unrecorded, is_link, Fails}
use Rattle.aoe_live.specs.Rounds.{OverLinks, StandsIn, Stopped, Wire}
use Rattle.aoe_live.specs.Steps.{is_of_line, Among, Does, Links, Recorded, Steps}
use Rattle.aoe_live.proofs.LineLemmas.{come-none, come-one, come-then}
use Rattle.aoe_live.proofs.PassLemmas.{carries-none, carries-then}

-- OVER THE LINKS

turned-as : (n n' : ℕ) (g g' : Option (List Turn)) → n' ≡ n → g' ≡ g → Turned n n' g g' []
turned-as n n' g g' same_turns same_given =
    let P : ℕ → Type 0 = λ k. Turned n k g g [] in
    let Q : Option (List Turn) → Type 0 = λ x. Turned n n' g x [] in
    subst Q (sym same_given) (subst P (sym same_turns) (turned-nothing n g))

over-none : (h : List Entry) (one two : Wire) → OverLinks [] [] h h one one two two
over-none h one two = record {
  turned_one = turned-nothing one.turns one.given;
  turned_two = turned-nothing two.turns two.given;
  carries_one = carries-none sender.Shelf h one.taken;
  carries_two = carries-none sender.Host h two.taken;
}

pub over-then : (f s f' s' : List Turn) (h m n : List Entry) (a b c a2 b2 c2 : Wire) → OverLinks f s h m a b a2 b2 → OverLinks f' s' m n b c b2 c2
    → OverLinks (f' ++ f) (s' ++ s) h n a c a2 c2
over-then f s f' s' h m n a b c a2 b2 c2 x y = record {
  turned_one = turned-then a.turns b.turns c.turns a.given b.given c.given f f' x.turned_one y.turned_one;
  turned_two = turned-then a2.turns b2.turns c2.turns a2.given b2.given c2.given s s' x.turned_two y.turned_two;
  carries_one = carries-then sender.Shelf h m n a.taken b.taken c.taken x.carries_one y.carries_one;
  carries_two = carries-then sender.Host h m n a2.taken b2.taken c2.taken x.carries_two y.carries_two;
}

-- LINES

come-as : (s s' : ℕ) (lines : List Event) (h m : List Entry) → s ≡ s' → LinesCome s lines h m → LinesCome s' lines h m
come-as s s' lines h m same x = let P : ℕ → Type 0 = λ n. LinesCome n lines h m in subst P same x

module _ (f s f' s' : List Turn) (xs ys : List Event) (p q r : Recorder) (k l m : Links) (same : q.sectors ≡ p.sectors) (first : Recorded f s xs p q k l)
    (next : Recorded f' s' ys q r l m) where
  pub recorded-then : Recorded (f' ++ f) (s' ++ s) (xs ++ ys) p r k m
  recorded-then = record {
    come = come-then p.sectors xs ys p.world.entries q.world.entries r.world.entries first.come
        (come-as q.sectors p.sectors ys q.world.entries r.world.entries same next.come);
    lines_are = next.lines_are ∙ ap (λ l. l ++ ys) first.lines_are ∙ append_assoc p.script.events xs ys;
    over = over-then f s f' s' p.world.entries q.world.entries r.world.entries k.one l.one m.one k.two l.two m.two first.over next.over;
  }

-- a link was asked before the first line, or behind the last
pub recorded-asked : (p : Recorder) (k l : Links) (f s : List Turn) → OverLinks f s p.world.entries p.world.entries k.one l.one k.two l.two
    → Recorded f s [] p p k l
recorded-asked p k l f s over = record { come = come-none p.sectors p.world.entries; lines_are = sym (append-nil p.script.events); over = over }

pub recorded-asks : (f s f' s' : List Turn) (xs : List Event) (p q : Recorder) (k l m : Links) → Recorded f s xs p q k l
    → OverLinks f' s' q.world.entries q.world.entries l.one m.one l.two m.two
    → Recorded (f' ++ f) (s' ++ s) xs p q k m
recorded-asks f s f' s' xs p q k l m x over = record {
  come = x.come;
  lines_are = x.lines_are;
  over = over-then f s f' s' p.world.entries q.world.entries q.world.entries k.one l.one m.one k.two l.two m.two x.over over;
}

pub recorded-as : (f s : List Turn) (xs ys : List Event) (p q : Recorder) (k l : Links) → xs ≡ ys → Recorded f s xs p q k l → Recorded f s ys p q k l
recorded-as f s xs ys p q k l same x = let P : List Event → Type 0 = λ es. Recorded f s es p q k l in subst P same x

pub steps-as : {T : Type 0} (result : Result T LiveRefusal) (xs ys : List Event) (p q : Recorder) (k l : Links) → xs ≡ ys → Steps xs result p q k l
    → Steps ys result p q k l
steps-as result xs ys p q k l same x = let P : List Event → Type 0 = λ es. Steps es result p q k l in subst P same x

-- ONE LINE

fails-why : (sectors : ℕ) (r : LiveRefusal) (events : List Event) (e : Event) (h k : List Entry) → Fails sectors r events e h k → is_of_line r ≡ true
fails-why sectors (live.Unanswered turns) events e h k x = absurd x
fails-why sectors (live.LinkFault link) events e h k x = x
fails-why sectors _ events e h k x = refl

-- which found no room
pub line-fails : {T : Type 0} (r : LiveRefusal) (e : Event) (p q : Recorder) (l : Links) → q.sectors ≡ p.sectors → q.commands ≡ p.commands
    → Fails p.sectors r p.script.events e p.world.entries q.world.entries → Steps {T = T} (e ∷ []) (Err r) p q l l
line-fails r e p q l same same_count fails =
    let P : List Event → Type 0 = λ es. Fails p.sectors r es e p.world.entries q.world.entries in
    record {
      whole = tt;
      stops = λ limit. record {
        first = [];
        second = [];
        lines = [];
        next = e;
        mid = p.world.entries;
        stands = record { behind = []; part_is = refl };
        come = come-none p.sectors p.world.entries;
        fails = subst P (sym (append-nil p.script.events)) fails;
        over = over-none p.world.entries l.one l.two;
      };
      why = fails-why p.sectors r p.script.events e p.world.entries q.world.entries fails;
      sectors = same;
      commands = same_count;
    }

link-why : (r : LiveRefusal) → is_link r ≡ true → is_of_line r ≡ true
link-why (live.Unanswered turns) t = absurd cc
link-why (live.LinkFault link) t = t
link-why _ t = refl

link-records : (r : LiveRefusal) → is_link r ≡ true → is_unrecorded r ≡ true → ⊥
link-records (live.Full limit frames bytes) t u = absurd cc
link-records _ t u = absurd cc

-- which came, while its frames were sent
module _ (p q r : Recorder) (k l : Links) (e : Event) (tail : List Entry) (is : q.world.entries ≡ tail ++ p.world.entries)
    (told : q.told ≡ length p.world.entries)
    (begun : q ≡ record p { script = q.script; world = q.world }) (sent : r ≡ record q { told = r.told; tally = r.tally })
    (comes : LineComes p.sectors e p.world.entries q.world.entries) (line : q.script.events ≡ p.script.events ++ e ∷ [])
    (turns_one : l.one.turns ≡ k.one.turns) (given_one : l.one.given ≡ k.one.given) (turns_two : l.two.turns ≡ k.two.turns)
    (given_two : l.two.given ≡ k.two.given) where
  all : r.world.entries ≡ q.world.entries
  all = ap (λ (x : Recorder). x.world.entries) sent

  came : Carries sender.Shelf p.world.entries r.world.entries k.one.taken l.one.taken
      → Carries sender.Host p.world.entries r.world.entries k.two.taken l.two.taken → Recorded [] [] (e ∷ []) p r k l
  came one two =
      let P : List Entry → Type 0 = λ m. LinesCome p.sectors (e ∷ []) p.world.entries m in
      record {
        come = subst P (sym all) (come-one p.sectors e p.world.entries q.world.entries comes);
        lines_are = ap (λ (x : Recorder). x.script.events) sent ∙ line;
        over = record {
          turned_one = turned-as k.one.turns l.one.turns k.one.given l.one.given turns_one given_one;
          turned_two = turned-as k.two.turns l.two.turns k.two.given l.two.given turns_two given_two;
          carries_one = one;
          carries_two = two;
        };
      }

  abbrev Sent : Sender → Option (List (List ℕ)) → Option (List (List ℕ)) → Type 0
  Sent s a b = Carries s p.world.entries r.world.entries a b

  pub line-comes-on : {T : Type 0} (result : Result T LiveRefusal) → OnOk result (Sent sender.Shelf k.one.taken l.one.taken)
      → OnOk result (Sent sender.Host k.two.taken l.two.taken)
      → IfErr result (λ x. is_link x ≡ true) → Steps (e ∷ []) result p r k l
  line-comes-on (Ok u) one two link = record {
    whole = came one two;
    stops = tt;
    why = tt;
    sectors = ap (λ (x : Recorder). x.sectors) sent ∙ ap (λ (x : Recorder). x.sectors) begun;
    commands = ap (λ (x : Recorder). x.commands) sent ∙ ap (λ (x : Recorder). x.commands) begun;
  }
  line-comes-on (Err x) one two link = record {
    whole = tt;
    stops = λ limit. absurd (link-records x link limit);
    why = link-why x link;
    sectors = ap (λ (x : Recorder). x.sectors) sent ∙ ap (λ (x : Recorder). x.sectors) begun;
    commands = ap (λ (x : Recorder). x.commands) sent ∙ ap (λ (x : Recorder). x.commands) begun;
  }

-- BEHIND LINES THAT CAME

abbrev pub Standing : Type 1
Standing = List Turn → List Turn → List Entry → List Event → Event → Type 0

-- what stands so behind the lines of a part stands so in all
abbrev pub Moves : ℕ → Standing → Standing → (f s : List Turn) → List Event → List Entry → Type 0
Moves sectors S S' f s xs m =
    (first second : List Turn) (n : List Entry) (lines : List Event) (next : Event) → LinesCome sectors lines m n → S first second n lines next
    → S' (first ++ f) (second ++ s) n (xs ++ lines) next

module _ (S S' : Standing) (f s : List Turn) (xs : List Event) (p q r : Recorder) (k l m : Links) (same : q.sectors ≡ p.sectors)
    (same_count : q.commands ≡ p.commands) (first : Recorded f s xs p q k l)
    (moves : Moves p.sectors S S' f s xs q.world.entries) where
  stopped-behind : (x : LiveRefusal) → Stopped p.sectors S x q.script.events q.world.entries r.world.entries l.one m.one l.two m.two
      → Stopped p.sectors S' x p.script.events p.world.entries r.world.entries k.one m.one k.two m.two
  stopped-behind x t =
      let P : List Event → Type 0 = λ es. Fails p.sectors x es t.next t.mid r.world.entries in
      record {
        first = t.first ++ f;
        second = t.second ++ s;
        lines = xs ++ t.lines;
        next = t.next;
        mid = t.mid;
        stands = moves t.first t.second t.mid t.lines t.next t.come t.stands;
        come = come-then p.sectors xs t.lines p.world.entries q.world.entries t.mid first.come t.come;
        fails = subst P (ap (λ es. es ++ t.lines) first.lines_are ∙ append_assoc p.script.events xs t.lines) t.fails;
        over = over-then f s t.first t.second p.world.entries q.world.entries t.mid k.one l.one m.one k.two l.two m.two first.over t.over;
      }

  stopped-later : (x : LiveRefusal) → Stopped q.sectors S x q.script.events q.world.entries r.world.entries l.one m.one l.two m.two
      → Stopped p.sectors S' x p.script.events p.world.entries r.world.entries k.one m.one k.two m.two
  stopped-later x t =
      let P : ℕ → Type 0 = λ n. Stopped n S x q.script.events q.world.entries r.world.entries l.one m.one l.two m.two in
      stopped-behind x (subst P same t)

  pub does-behind : {T : Type 0} (W W' : Type 0) (result : Result T LiveRefusal) → (W → W') → Does W S result q r l m → Does W' S' result p r k m
  does-behind W W' (Ok u) done d = record { whole = done d.whole; stops = tt; why = tt; sectors = d.sectors ∙ same; commands = d.commands ∙ same_count }
  does-behind W W' (Err x) done d =
      record { whole = tt; stops = λ limit. stopped-later x (d.stops limit); why = d.why; sectors = d.sectors ∙ same; commands = d.commands ∙ same_count }

  pub fails-behind : {T U : Type 0} (W W' : Type 0) (x : LiveRefusal) → Does {T = T} W S (Err x) q r l m → Does {T = U} W' S' (Err x) p r k m
  fails-behind W W' x d = record {
    whole = tt;
    stops = λ limit. stopped-later x (d.stops limit);
    why = d.why;
    sectors = d.sectors ∙ same;
    commands = d.commands ∙ same_count;
  }

-- WHERE A LINE STANDS

-- among others
pub stands-among : (part xs ys rest lines : List Event) (next : Event) → part ≡ xs ++ (ys ++ rest) → StandsIn ys lines next → StandsIn part (xs ++ lines) next
stands-among part xs ys rest lines next is s = record {
  behind = s.behind ++ rest;
  part_is = is ∙ ap (λ l. xs ++ (l ++ rest)) s.part_is ∙ ap (λ l. xs ++ l) (append_assoc lines (next ∷ s.behind) rest)
      ∙ sym (append_assoc xs lines (next ∷ (s.behind ++ rest)));
}

pub among-moves : (sectors : ℕ) (part xs ys rest : List Event) (m : List Entry) → part ≡ xs ++ (ys ++ rest) → Moves sectors (Among ys) (Among part) [] [] xs m
among-moves sectors part xs ys rest m is [] [] n lines next come s = stands-among part xs ys rest lines next is s
among-moves sectors part xs ys rest m is _ _ n lines next come s = absurd s

-- in a part of one line
pub record Alone (part lines : List Event) (next : Event) (m n : List Entry) : Type 0 where
  pub no_lines : lines ≡ []
  pub part_is : part ≡ next ∷ []
  pub here : n ≡ m

none-left : (xs : List Event) → length xs ≤ 0 → xs ≡ []
none-left [] few = refl
none-left (x ∷ xs) few = absurd (omega (arith, few))

pub alone : (sectors : ℕ) (part : List Event) → length part ≤ 1 → (lines : List Event) (next : Event) (m n : List Entry) → LinesCome sectors lines m n
    → StandsIn part lines next → Alone part lines next m n
alone sectors part few [] next m n come s =
    let count = ap length s.part_is in
    record { no_lines = refl; part_is = s.part_is ∙ ap (λ l. next ∷ l) (none-left s.behind (omega (arith, few, count))); here = come.1 }
alone sectors part few (e ∷ lines) next m n come s =
    let count = ap length s.part_is in
    absurd (omega (arith, few, count, length-append lines (next ∷ s.behind)))
