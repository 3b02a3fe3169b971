-- What clap finds in words, and what it refuses.
use Rattle.std.proofs.Common.{◌≡◌, ◌≢◌, ◌∙◌, ◌&&◌, Bool, true, false, cond, refl, sym, subst, List, [], ◌∷◌, Option, Some, None, Result, Ok, Err, inl, inr, arith}
use Rattle.std.proofs.lemmas.Bool.Decides.{nat_tests}
use Rattle.std.specs.Prelude.{option_map, Box, IfErr, IfOk, IsErr, IsOkAnd}
use Rattle.std.specs.Box.{box_value}
use Rattle.std.specs.Borrow.{Bor}
use Rattle.clap.specs.Matches.{subcommand_name_of}
use Rattle.clap.specs.Simple.{subcommand_rows}
use Rattle.clap.specs.Values.{kind_of}
use Rattle.clap.specs.Walk.{is_empty}
use Rattle.clap.specs.Kinds.{FailsBy, HasKind, Kinds}
use Rattle.clap.specs.Words.{HasMatchesOf, Row, Text, fault_of, found_of, rows_of, subcommand_of}
use Rattle.clap.specs.declared.error.Error.{Error}
use Rattle.clap.specs.declared.error.kind.ErrorKind.TheVariants.{OutOfMemory}
use Rattle.clap.specs.declared.parser.matches.ArgMatches.{ArgMatches}
use Rattle.clap.specs.declared.parser.matches.ArgMatches.TheViews.{out-ArgMatches, out-SubCommand}
use Rattle.clap.specs.declared.parser.matches.SubCommand.{SubCommand}
use Rattle.aoe_args.specs.Apps.{aoe_app}
use Rattle.aoe_args.specs.Words.{IsFoundIn, are_words, parsed}
use Rattle.aoe_args.proofs.AppLemmas.{aoe_app_is_simple}

-- the words can't stand there
pub not_words : (words : List Text) → are_words words ≡ false → None ≡ parsed words
unfolding parsed
not_words words e = rw e refl

-- a list with an element isn't empty
has_one : {X : Type 0} (x : X) (xs : List X) → is_empty (x ∷ xs) ≡ false
has_one x xs = grind (arith, nat_tests)

-- clap finds a fault
at_fault : (words : List Text) (e : Error) → HasKind (fault_of aoe_app words) e → kind_of e ≢ OutOfMemory → None ≡ parsed words
unfolding parsed
at_fault words e kind other = go (are_words words) (fault_of aoe_app words) (subcommand_of aoe_app words) kind
  where
    go : (b : Bool) (kinds : Kinds) (found : Option (Text × List Row)) → HasKind kinds e → None ≡ cond (b && is_empty kinds) found None
    go false kinds found h = refl
    go true [] found (inl m) = absurd (other m)
    go true [] found (inr h) = absurd h
    go true (k ∷ kinds) found h = rw (has_one k kinds) refl

-- clap finds a command
found : (words : List Text) (m : ArgMatches) (r : Option (Bor Text × ArgMatches)) → are_words words ≡ true
    → fault_of aoe_app words ≡ [] → HasMatchesOf aoe_app words m → option_map (λ p. p.0.now) r ≡ subcommand_name_of m
    → option_map (λ p. rows_of (found_of p.1)) r ≡ option_map (λ p. p.1) (subcommand_rows (out-ArgMatches m).subcommand)
    → option_map (λ p. (p.0.now, rows_of (found_of p.1))) r ≡ parsed words
unfolding parsed
found words m r all clean has name rows =
    go r (out-ArgMatches m).subcommand name rows ∙ (has aoe_app_is_simple).1 ∙ rw (all, clean) refl
  where
    go : {Z : Type 0} (r : Option (Bor Text × ArgMatches)) (sub : Option (Box SubCommand Z))
        → option_map (λ p. p.0.now) r ≡ option_map (λ b. (out-SubCommand (box_value b)).name.now) sub
        → option_map (λ p. rows_of (found_of p.1)) r ≡ option_map (λ p. p.1) (subcommand_rows sub)
        → option_map (λ p. (p.0.now, rows_of (found_of p.1))) r ≡ subcommand_rows sub
    go None None a b = refl
    go None (Some s) a b = cc
    go (Some p) None a b = cc
    go (Some p) (Some s) a b = cc

-- what clap's answer says is what the words spell
pub asked_value : {E : Type 0} (words : List Text) (answer : Result ArgMatches Error) (r : Result (Option (Bor Text × ArgMatches)) E)
    → are_words words ≡ true
    → FailsBy (fault_of aoe_app words) answer → IfOk answer (HasMatchesOf aoe_app words) → IfErr answer (λ e. kind_of e ≡ OutOfMemory → IsErr r)
    → IfErr answer (λ e. kind_of e ≢ OutOfMemory → r ≡ Ok None) → IfOk answer (λ m. IsOkAnd r (IsFoundIn m))
    → IfOk r (λ x. option_map (λ p. (p.0.now, rows_of (found_of p.1))) x ≡ parsed words)
asked_value words (Ok m) (Ok x) all clean has memory fault is = found words m x all clean has is.name is.rows
asked_value words (Ok m) (Err f) all clean has memory fault is = tt
asked_value words (Err e) (Err f) all kind has memory fault is = tt
asked_value {E} words (Err e) (Ok x) all kind has memory fault is =
    let P : Result (Option (Bor Text × ArgMatches)) E → Type 0 = λ r. IfOk r (λ x. option_map (λ p. (p.0.now, rows_of (found_of p.1))) x ≡ parsed words) in
    let differs : kind_of e ≢ OutOfMemory = λ k. (let never : false ≡ true = memory k in cc) in
    subst P (sym (fault differs)) (at_fault words e kind differs)
