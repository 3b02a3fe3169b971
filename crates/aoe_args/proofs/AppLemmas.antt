-- The commands are simple, so that what clap finds and refuses is known.
use Rattle.std.proofs.Common.{◌≡◌, ◌∙◌, ◌+◌, ◌<◌, ◌≤◌, ◌||◌, ℕ, Bool, true, false, refl, sym, ap, subst, List, length, get_or, drop, map, Result, add-one, drop-cons}
use Rattle.std.proofs.Math.ListN.{drop_of_length-le}
use Rattle.std.specs.Prelude.{IfOk}
use Rattle.std.specs.Borrow.{Bor}
use Rattle.clap.specs.Words.{App, FailsBy, HasMatchesOf, Rule, Text, fault_of, with_rule, with_subcommand}
use Rattle.clap.specs.declared.parser.matches.ArgMatches.{ArgMatches}
use Rattle.clap.specs.declared.error.Error.{Error}
use Rattle.clap.specs.Simple.{is_simple}
use Rattle.clap.specs.Faults.{is_simple_and_free}
use Rattle.aoe_args.specs.Apps.{added, aoe_app, argument, bare, form, rule, top, with_argument, with_form}
use Rattle.aoe_args.specs.declared.app.Place.{Place}
use Rattle.aoe_args.specs.declared.app.TheConstants.{FORMS}

pub aoe_app_is_free : is_simple_and_free aoe_app ≡ true
unfolding aoe_app
aoe_app_is_free = refl

pub aoe_app_is_simple : is_simple aoe_app ≡ true
unfolding aoe_app
aoe_app_is_simple = refl

-- what clap says of a command that is this one
pub fails_by : {T : Type 0} (a b : App) (words : List Text) (r : Result T Error) → a ≡ b → is_simple_and_free b ≡ true
    → (is_simple_and_free a ≡ true → FailsBy (fault_of a words) r) → FailsBy (fault_of b words) r
fails_by {T} a b words r e simple h =
    let P : App → Type 0 = λ x. is_simple_and_free x ≡ true → FailsBy (fault_of x words) r in
    subst P e h simple

-- what clap finds by it
pub finds_by : (a b : App) (words : List Text) (r : Result ArgMatches Error) → a ≡ b → IfOk r (HasMatchesOf a words) → IfOk r (HasMatchesOf b words)
finds_by a b words r e h =
    let P : App → Type 0 = λ x. IfOk r (HasMatchesOf x words) in
    subst P e h

-- the forms are those of all commands
pub all_forms : added with_form top (map (λ f. (f.0.now, map (λ a. (a.0.now, a.1)) f.1.now)) FORMS) ≡ aoe_app
unfolding added with_argument with_form aoe_app
all_forms = refl

module _ {X Y : Type 0} (read : X → Y) (add : App → Y → App) (app : App) (xs : List X) (i : ℕ) where
  -- the next of the list
  one_added : (d : X) → i < length xs → added add app (map read (drop i xs)) ≡ added add (add app (read (get_or xs i d))) (map read (drop (i + 1) xs))
  unfolding added
  one_added d below = rw (add-one, drop-cons xs i d) refl

  -- all of it
  pub all_added : length xs ≤ i → added add app (map read (drop i xs)) ≡ app
  unfolding added
  all_added end = rw (drop_of_length-le xs end) refl

-- one argument more
pub next_argument : (start app app' : App) (xs : List (Bor Text × Place)) (i : ℕ) (d : Bor Text × Place) (r : Rule) → i < length xs
    → r ≡ rule (get_or xs i d).0.now (get_or xs i d).1 → app' ≡ with_rule app r
    → added with_argument app (map argument (drop i xs)) ≡ start → added with_argument app' (map argument (drop (i + 1) xs)) ≡ start
unfolding with_argument
next_argument start app app' xs i d r below is adds so_far =
    let step : app' ≡ with_argument app (argument (get_or xs i d)) = adds ∙ ap (with_rule app) is in
    ap (λ a. added with_argument a (map argument (drop (i + 1) xs))) step ∙ sym (one_added argument with_argument app xs i d below) ∙ so_far

-- one command more
pub next_form : (start app app' sub : App) (xs : List (Bor Text × Bor (List (Bor Text × Place)))) (i : ℕ) (d : Bor Text × Bor (List (Bor Text × Place)))
    → i < length xs
    → sub ≡ added with_argument (bare (get_or xs i d).0.now) (map argument (get_or xs i d).1.now) → app' ≡ with_subcommand app sub.top
    → added with_form app (map form (drop i xs)) ≡ start → added with_form app' (map form (drop (i + 1) xs)) ≡ start
unfolding with_form
next_form start app app' sub xs i d below is adds so_far =
    let step : app' ≡ with_form app (form (get_or xs i d)) = adds ∙ ap (λ (a : App). with_subcommand app a.top) is in
    ap (λ a. added with_form a (map form (drop (i + 1) xs))) step ∙ sym (one_added form with_form app xs i d below) ∙ so_far

-- no argument is global
pub still_local : (a b c : Bool) → c ≡ (a || b) → a ≡ false → b ≡ false → c ≡ false
still_local a b c e f g = rw (e, f, g) refl
