-- What is known of a device after a step, by those who know less of it.
use Rattle.std.proofs.Common.{◌≡◌, ◌+◌, ◌-◌, ◌||◌, ◌==◌, cond, ℕ, Bool, true, false, List, drop, Option, Some, None, refl, sym, ap, subst, ◌∙◌, arith}
use Rattle.std.specs.Prelude.{IfSome}
use Rattle.std.specs.Option.{option_map, option_or}
use Rattle.aoe_base.specs.declared.sectors.Span.{Span}
use Rattle.aoe_disk.specs.State.{BothTell, sector}
use Rattle.aoe_frame.specs.declared.header.Header.{Header}
use Rattle.aoe_ata.specs.Decision.{written}
use Rattle.aoe_ata.specs.declared.args.AtaArgs.{AtaArgs}
use Rattle.aoe_ata.specs.declared.decision.AtaAnswer.{AtaAnswer}
use Rattle.aoe_ata.specs.declared.decision.AtaAnswer.TheVariants.{Abort, NotFound, Page, Mode, Give, Put, Verify, Sync}
use Rattle.aoe_target.specs.declared.station.Station.{Station}
use Rattle.aoe_target.specs.declared.heard.Effect.{Effect}
use Rattle.aoe_target.specs.declared.heard.Effect.TheVariants as effect
use Rattle.aoe_target.specs.Reply.{data_of}
use Rattle.aoe_target.specs.Sectors.{Sectors, Same, Agrees, Tells, in_span, value_in, puts, spoils, left_by_fault, learns, settles}
use Rattle.aoe_target.specs.Law.{Fate, ignored, silent, cut, replied, AllowsAta, Gives, after_ata, after_effect, after_read, after_cut}
use Rattle.aoe_target.proofs.SectorLemmas.{agrees_same, agrees_self, by_span}

-- Who knows more than one who knows more than a third.

known_then : (x y z : Option (List ℕ)) → IfSome z (λ v. y ≡ Some v) → IfSome y (λ v. x ≡ Some v) → IfSome z (λ v. x ≡ Some v)
known_then x y None f g = tt
known_then x y (Some v) f g = let P : Option (List ℕ) → Type 0 = λ o. IfSome o (λ w. x ≡ Some w) in subst P f g

pub agrees_then : (a b c : Sectors) → Agrees a b → Agrees b c → Agrees a c
agrees_then a b c ab bc = record {
  known = λ s. known_then (a.known s) (b.known s) (c.known s) (bc.known s) (ab.known s);
  marks = λ s e. ab.marks s (bc.marks s e);
  exact = λ e.
      let two : Same b c = bc.exact e in
      let one : Same a b = ab.exact (two.exact ∙ e) in
      record {
        known = λ s. one.known s ∙ two.known s;
        marks = λ s. one.marks s ∙ two.marks s;
        settled = λ s. one.settled s ∙ two.settled s;
        exact = one.exact ∙ two.exact;
      };
}

-- What is done to both leaves the one with no less.

put_known : (t : Bool) (w x y : Option (List ℕ)) → IfSome w (λ v. w ≡ Some v) → IfSome y (λ v. x ≡ Some v) → IfSome (cond t w y) (λ v. cond t w x ≡ Some v)
put_known true w x y own g = own
put_known false w x y own g = g

or_false : (t x y : Bool) → (y ≡ false → x ≡ false) → (t || y) ≡ false → (t || x) ≡ false
or_false true x y f e = e
or_false false x y f e = f e

pub puts_agree : (span : Span) (bytes : List ℕ) (a b : Sectors) → Agrees a b → Agrees (puts span bytes a) (puts span bytes b)
puts_agree span bytes a b ab = record {
  known = λ s. put_known (in_span span s) (Some (value_in span bytes s)) (a.known s) (b.known s) refl (ab.known s);
  marks = λ s e. or_false (in_span span s) (a.marks s) (b.marks s) (ab.marks s) e;
  exact = λ e. let same : Same a b = ab.exact e in record {
    known = λ s. ap (λ (o : Option (List ℕ)). cond (in_span span s) (Some (value_in span bytes s)) o) (same.known s);
    marks = λ s. ap (λ (t : Bool). in_span span s || t) (same.marks s);
    settled = same.settled;
    exact = same.exact;
  };
}

spoils_same : (span : Span) (a b : Sectors) → Same a b → Same (spoils span a) (spoils span b)
spoils_same span a b same = record {
  known = λ s.
      ap (λ (t : Bool). cond (in_span span s) (left_by_fault t (s == span.at) (a.known s)) (a.known s)) same.exact
      ∙ ap (λ (o : Option (List ℕ)). cond (in_span span s) (left_by_fault b.exact (s == span.at) o) o) (same.known s);
  marks = λ s. ap (λ (t : Bool). in_span span s || t) (same.marks s);
  settled = same.settled;
  exact = same.exact;
}

pub spoils_agree : (span : Span) (a b : Sectors) → Agrees a b → Agrees (spoils span a) (spoils span b)
spoils_agree span a b ab = at b.exact refl
  where
    unknown : (t first : Bool) (x y : Option (List ℕ)) (own : Option (List ℕ)) → IfSome y (λ v. x ≡ Some v)
        → IfSome (cond t (left_by_fault false first y) y) (λ v. cond t own x ≡ Some v)
    unknown true true x y own g = tt
    unknown true false x y own g = tt
    unknown false first x y own g = g

    at : (t : Bool) → b.exact ≡ t → Agrees (spoils span a) (spoils span b)
    at true e = agrees_same (spoils span a) (spoils span b) (spoils_same span a b (ab.exact e))
    at false e = record {
      known = λ s.
          let own : Option (List ℕ) = left_by_fault a.exact (s == span.at) (a.known s) in
          let P : Bool → Type 0 =
          λ t. IfSome (cond (in_span span s) (left_by_fault t (s == span.at) (b.known s)) (b.known s)) (λ v. cond (in_span span s) own (a.known s) ≡ Some v) in
          subst P (sym e) (unknown (in_span span s) (s == span.at) (a.known s) (b.known s) own (ab.known s));
      marks = λ s f. or_false (in_span span s) (a.marks s) (b.marks s) (ab.marks s) f;
      exact = λ f. absurd (let no : true ≡ false → ⊥ = λ q. (cc) in no (sym f ∙ e));
    }

learn_known : (x y : Option (List ℕ)) (t : Bool) (w : List ℕ) → IfSome y (λ v. x ≡ Some v) → (t ≡ true → IfSome x (λ u. w ≡ u))
    → IfSome (option_or y (cond t (Some w) None)) (λ v. option_or x (cond t (Some w) None) ≡ Some v)
learn_known x (Some v) t w g told = ap (λ (o : Option (List ℕ)). option_or o (cond t (Some w) None)) g
learn_known None None true w g told = refl
learn_known (Some u) None true w g told = ap Some (sym (told refl))
learn_known x None false w g told = tt

told_at : (span : Span) (bytes : List ℕ) (a : Sectors) (s : ℕ) → Tells span bytes a → in_span span s ≡ true
    → IfSome (a.known s) (λ u. value_in span bytes s ≡ u)
told_at span bytes a s told = by_span span s (λ t. t ≡ true → IfSome (a.known s) (λ u. value_in span bytes s ≡ u))
    (λ low high e.
    let place : span.at + (s - span.at) ≡ s = omega arith in
    let P : ℕ → Type 0 = λ i. IfSome (a.known i) (λ u. value_in span bytes s ≡ u) in
    subst P place (told (s - span.at) (omega arith)))
    (λ out e. absurd (let no : false ≡ true → ⊥ = λ q. (cc) in no e))

pub learns_agree : (span : Span) (bytes : List ℕ) (a b : Sectors) → Tells span bytes a → Agrees a b → Agrees (learns span bytes a) (learns span bytes b)
learns_agree span bytes a b told ab = record {
  known = λ s. learn_known (a.known s) (b.known s) (in_span span s) (value_in span bytes s) (ab.known s) (told_at span bytes a s told);
  marks = ab.marks;
  exact = λ e. let same : Same a b = ab.exact e in record {
    known = λ s. ap (λ (o : Option (List ℕ)). option_or o (cond (in_span span s) (Some (value_in span bytes s)) None)) (same.known s);
    marks = same.marks;
    settled = same.settled;
    exact = same.exact;
  };
}

pub settles_agree : (a b : Sectors) → Agrees a b → Agrees (settles a) (settles b)
settles_agree a b ab = record {
  known = ab.known;
  marks = λ s _. refl;
  exact = λ e. let same : Same a b = ab.exact e in record {
    known = same.known;
    marks = λ s. refl;
    settled = same.known;
    exact = same.exact;
  };
}

-- What an ATA command leaves.

read_agrees : (answer : AtaAnswer) (station : Station) (h : Header) (args : AtaArgs) (reply : List ℕ) (a b : Sectors)
    → AllowsAta station (Some a) h args answer (replied effect.None reply) → Agrees a b → Agrees (after_read answer reply a) (after_read answer reply b)
read_agrees (Give span) station h args reply a b allowed ab = learns_agree span (data_of span reply) a b allowed.2 ab
read_agrees Abort station h args reply a b allowed ab = ab
read_agrees NotFound station h args reply a b allowed ab = ab
read_agrees Page station h args reply a b allowed ab = ab
read_agrees Mode station h args reply a b allowed ab = ab
read_agrees (Put span) station h args reply a b allowed ab = ab
read_agrees (Verify span) station h args reply a b allowed ab = ab
read_agrees Sync station h args reply a b allowed ab = ab

cut_agrees : (answer : AtaAnswer) (a b : Sectors) → Agrees a b → Agrees (after_cut answer a) (after_cut answer b)
cut_agrees (Put span) a b ab = spoils_agree span a b ab
cut_agrees Abort a b ab = ab
cut_agrees NotFound a b ab = ab
cut_agrees Page a b ab = ab
cut_agrees Mode a b ab = ab
cut_agrees (Give span) a b ab = ab
cut_agrees (Verify span) a b ab = ab
cut_agrees Sync a b ab = ab

effect_agrees : (e : Effect) (f : List ℕ) (answer : AtaAnswer) (station : Station) (h : Header) (args : AtaArgs) (reply : List ℕ) (a b : Sectors)
    → AllowsAta station (Some a) h args answer (replied e reply) → Agrees a b → Agrees (after_effect f answer e reply a) (after_effect f answer e reply b)
effect_agrees effect.None f answer station h args reply a b allowed ab = read_agrees answer station h args reply a b allowed ab
effect_agrees (effect.Wrote span) f answer station h args reply a b allowed ab = puts_agree span (written (drop 24 f) span) a b ab
effect_agrees (effect.WriteFault span) f answer station h args reply a b allowed ab = spoils_agree span a b ab
effect_agrees effect.Synced f answer station h args reply a b allowed ab = settles_agree a b ab
effect_agrees effect.Edited f answer station h args reply a b allowed ab = ab
effect_agrees effect.ReadFault f answer station h args reply a b allowed ab = ab
effect_agrees effect.SyncFault f answer station h args reply a b allowed ab = ab
effect_agrees effect.EditFault f answer station h args reply a b allowed ab = ab

ata_agrees : (fate : Fate) (f : List ℕ) (answer : AtaAnswer) (station : Station) (h : Header) (args : AtaArgs) (a b : Sectors)
    → AllowsAta station (Some a) h args answer fate → Agrees a b → Agrees (after_ata f answer fate a) (after_ata f answer fate b)
ata_agrees ignored f answer station h args a b allowed ab = ab
ata_agrees silent f answer station h args a b allowed ab = ab
ata_agrees cut f answer station h args a b allowed ab = cut_agrees answer a b ab
ata_agrees (replied e reply) f answer station h args a b allowed ab = effect_agrees e f answer station h args reply a b allowed ab

pub both_ata : (fate : Fate) (f : List ℕ) (answer : AtaAnswer) (station : Station) (h : Header) (args : AtaArgs) (x y : Option Sectors)
    → AllowsAta station x h args answer fate → BothTell Agrees x y
    → BothTell Agrees (option_map (after_ata f answer fate) x) (option_map (after_ata f answer fate) y)
both_ata fate f answer station h args None None allowed told = tt
both_ata fate f answer station h args None (Some b) allowed told = absurd told
both_ata fate f answer station h args (Some a) None allowed told = absurd told
both_ata fate f answer station h args (Some a) (Some b) allowed told = ata_agrees fate f answer station h args a b allowed told

-- What may become of an ATA command.

tells_less : (span : Span) (bytes : List ℕ) (x y : Option Sectors) → BothTell Agrees x y → IfSome x (Tells span bytes) → IfSome y (Tells span bytes)
tells_less span bytes None None ab told = tt
tells_less span bytes None (Some b) ab told = absurd ab
tells_less span bytes (Some a) None ab told = absurd ab
tells_less span bytes (Some a) (Some b) ab told = λ i low. value (a.known (span.at + i)) (b.known (span.at + i)) (sector bytes i) (ab.known (span.at + i))
    (told i low)
  where
    value : (x y : Option (List ℕ)) (w : List ℕ) → IfSome y (λ v. x ≡ Some v) → IfSome x (λ v. w ≡ v) → IfSome y (λ v. w ≡ v)
    value x None w g t = tt
    value x (Some v) w g t = let P : Option (List ℕ) → Type 0 = λ o. IfSome o (λ u. w ≡ u) in subst P g t

gives_less : (e : Effect) (station : Station) (x y : Option Sectors) (h : Header) (args : AtaArgs) (span : Span) (reply : List ℕ) → BothTell Agrees x y
    → Gives station x h args span e reply → Gives station y h args span e reply
gives_less effect.None station x y h args span reply ab g = (g.0, g.1, tells_less span (data_of span reply) x y ab g.2)
gives_less effect.ReadFault station x y h args span reply ab g = g
gives_less (effect.Wrote s) station x y h args span reply ab g = absurd g
gives_less (effect.WriteFault s) station x y h args span reply ab g = absurd g
gives_less effect.Synced station x y h args span reply ab g = absurd g
gives_less effect.Edited station x y h args span reply ab g = absurd g
gives_less effect.SyncFault station x y h args span reply ab g = absurd g
gives_less effect.EditFault station x y h args span reply ab g = absurd g

give_less : (fate : Fate) (station : Station) (x y : Option Sectors) (h : Header) (args : AtaArgs) (span : Span) → BothTell Agrees x y
    → AllowsAta station x h args (Give span) fate → AllowsAta station y h args (Give span) fate
give_less ignored station x y h args span ab g = g
give_less silent station x y h args span ab g = g
give_less cut station x y h args span ab g = g
give_less (replied e reply) station x y h args span ab g = gives_less e station x y h args span reply ab g

pub allows_less : (answer : AtaAnswer) (fate : Fate) (station : Station) (x y : Option Sectors) (h : Header) (args : AtaArgs) → BothTell Agrees x y
    → AllowsAta station x h args answer fate → AllowsAta station y h args answer fate
allows_less (Give span) fate station x y h args ab g = give_less fate station x y h args span ab g
allows_less Abort fate station x y h args ab g = g
allows_less NotFound fate station x y h args ab g = g
allows_less Page fate station x y h args ab g = g
allows_less Mode fate station x y h args ab g = g
allows_less (Put span) fate station x y h args ab g = g
allows_less (Verify span) fate station x y h args ab g = g
allows_less Sync fate station x y h args ab g = g

pub both_then : (x y z : Option Sectors) → BothTell Agrees x y → BothTell Agrees y z → BothTell Agrees x z
both_then None None None xy yz = tt
both_then None None (Some c) xy yz = absurd yz
both_then None (Some b) z xy yz = absurd xy
both_then (Some a) None z xy yz = absurd xy
both_then (Some a) (Some b) None xy yz = absurd yz
both_then (Some a) (Some b) (Some c) xy yz = agrees_then a b c xy yz

pub both_self : (x : Option Sectors) → BothTell Agrees x x
both_self None = tt
both_self (Some a) = agrees_self a
