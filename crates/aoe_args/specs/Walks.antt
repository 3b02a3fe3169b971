-- What is known of the words up to a place.
use Rattle.std.specs.Prelude.{ℕ, ◌≡◌, ◌<◌, ◌≤◌, ◌+◌, true, List, option_map, IfSome}
use Rattle.clap.specs.Words.{Text}
use Rattle.aoe_args.specs.Places.{Form, awaits, is_plain, plain_before}
use Rattle.aoe_args.specs.declared.slip.Walked.{Walked}

pub record IsWalked (form : Form) (words : List Text) (n : ℕ) (walked : Walked) : Type 0 where
  pub few : walked.before ≤ n
  -- so many of them go by their place
  pub before : walked.before ≡ plain_before form words n
  -- the word at this place is the value of this option
  pub awaited : option_map (λ name. name.now) walked.awaited ≡ awaits form words n
  -- the last of those that go by their place, if there is one, is this one
  pub behind : IfSome walked.last (λ m. (1 ≤ m) × (m < n))
  pub plain : IfSome walked.last (λ m. is_plain form words m ≡ true)
  pub last : IfSome walked.last (λ m. plain_before form words (m + 1) ≡ plain_before form words n)
