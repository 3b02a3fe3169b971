-- What the walk over the words of a command shows of each word.
use Rattle.std.proofs.Common.{◌≡◌, ◌∙◌, ◌<◌, ◌≤◌, ◌+◌, ◌==◌, ℕ, Bool, true, false, List, length, take, Option, Some, None, nat_lt, refl, sym, ap, subst, arith, add-one}
use Rattle.std.specs.Prelude.{is_some, if◌then◌else◌, option_map, IfNone, IfSome, IsSomeAnd}
use Rattle.std.specs.Borrow.{Bor}
use Rattle.std.specs.Option.{option_or}
use Rattle.std.proofs.lemmas.Bool.Decides.{nat_tests}
use Rattle.clap.specs.Words.{Text}
use Rattle.aoe_args.specs.Words.{attached, is_value}
use Rattle.aoe_args.specs.Places.{Argument, Form, argument_at, argument_behind, awaits, is_flag, is_given, option_at, option_name, option_named, plain_before, taking, word_at}
use Rattle.aoe_args.specs.Slips.{IsFit, IsRight, text_in}
use Rattle.aoe_args.specs.Walks.{IsWalked}
use Rattle.aoe_args.specs.declared.slip.Walked.{Walked}

if_is : {T : Type 0} (P : T → Type 0) (o : Option T) (a : T) → o ≡ Some a → P a → IfSome o P
if_is {T} P o a e h = subst (λ (x : Option T). IfSome x P) (sym e) h

if_none : {T : Type 0} (P : T → Type 0) (o : Option T) → o ≡ None → IfSome o P
if_none {T} P o e = subst (λ (x : Option T). IfSome x P) (sym e) tt

pub if_none_then : {T : Type 0} {A B : Type 0} (r : Option T) → (A → B) → IfNone r A → IfNone r B
if_none_then None f h = f h
if_none_then (Some x) f h = tt

pub if_then : {T : Type 0} {P Q : T → Type 0} (o : Option T) → ((x : T) → P x → Q x) → IfSome o P → IfSome o Q
if_then None f h = tt
if_then (Some x) f h = f x h

clash : {A : Type 0} (b : Bool) → b ≡ false → b ≡ true → A
clash true e f = cc
clash false e f = cc

some_is : {T : Type 0} (P : T → Type 0) (o : Option T) → IsSomeAnd o P → is_some o ≡ true
some_is P None h = absurd h
some_is P (Some x) h = refl

some_if : {T : Type 0} (P : T → Type 0) (o : Option T) → IsSomeAnd o P → IfSome o P
some_if P None h = absurd h
some_if P (Some x) h = h

-- what holds of each place before k and of k
pub and_here : (P : ℕ → Type 0) (k : ℕ) → ((n : ℕ) → 1 ≤ n → n < k → P n) → P k → (n : ℕ) → 1 ≤ n → n < k + 1 → P n
and_here P k each here n behind below = go (nat_lt n k) refl
  where
    go : (b : Bool) → nat_lt n k ≡ b → P n
    go true e = each n behind (grind (arith, nat_tests))
    go false e = subst P (let same : k ≡ n = grind (arith, nat_tests) in same) here

not_first : (n : ℕ) → 1 ≤ n → (n == 0) ≡ false
not_first n behind = grind (arith, nat_tests)

module _ (form : Form) (words : List Text) (n : ℕ) (behind : 1 ≤ n) where
  -- a word that is an option, and one that is none
  pub option_is : is_value (word_at n words) ≡ false → option_at form words n ≡ option_named form.1 (option_name (word_at n words))
  option_is dash = rw (not_first n behind, dash) refl

  option_none : is_value (word_at n words) ≡ true → option_at form words n ≡ None
  option_none value = rw (not_first n behind, value) refl

  -- what the next word is the value of
  next_is : awaits form words (n + 1) ≡ taking (option_at form words n) (attached (word_at n words))
  unfolding awaits
  next_is = rw (add-one) refl

  pub next_none : is_value (word_at n words) ≡ true → awaits form words (n + 1) ≡ None
  next_none value = next_is ∙ ap (λ o. taking o (attached (word_at n words))) (option_none value)

  pub next_option : (a : Argument) → option_at form words n ≡ Some a → awaits form words (n + 1) ≡ taking (Some a) (attached (word_at n words))
  next_option a is = next_is ∙ ap (λ o. taking o (attached (word_at n words))) is

  -- one with a value that isn't there yet takes the next word
  pub awaits_next : (a : Argument) → option_at form words n ≡ Some a → is_flag a.1 ≡ false → attached (word_at n words) ≡ None
      → is_some (awaits form words (n + 1)) ≡ true
  awaits_next a is valued none = ap is_some (next_option a is) ∙ rw (valued, none) refl

  -- an option goes to itself
  pub goes_option : (a : Argument) → is_value (word_at n words) ≡ false → option_at form words n ≡ Some a → argument_at form words n ≡ Some a.0
  goes_option a dash is =
      ap
      (λ b. if b then option_or (awaits form words n) (argument_behind form.1 (plain_before form words n))
      else option_map (λ (x : Argument). x.0) (option_at form words n)) dash
      ∙ ap (option_map (λ (x : Argument). x.0)) is

  -- how many words go by their place
  pub before_option : is_value (word_at n words) ≡ false → plain_before form words (n + 1) ≡ plain_before form words n
  unfolding plain_before
  before_option dash = rw (add-one, not_first n behind, dash) refl

  pub before_value : (x : Text) → is_value (word_at n words) ≡ true → awaits form words n ≡ Some x
      → plain_before form words (n + 1) ≡ plain_before form words n
  unfolding plain_before
  before_value x value awaited = rw (add-one, not_first n behind, value, awaited) refl

  pub before_plain : is_value (word_at n words) ≡ true → awaits form words n ≡ None → plain_before form words (n + 1) ≡ plain_before form words n + 1
  unfolding plain_before
  before_plain value free = rw (add-one, not_first n behind, value, free) refl

  -- nothing is wrong with a word that goes to an argument
  pub right_word : (name text : Text) → is_value (word_at n words) ≡ true → argument_at form words n ≡ Some name → text ≡ word_at n words
      → IsFit form.0 name text → IsRight form words n
  right_word name text value goes is fit = record {
    known = ap is_some goes;
    once = if_none _ (option_at form words n) (option_none value);
    flag = if_none _ (option_at form words n) (option_none value);
    valued = if_none _ (awaits form words (n + 1)) (next_none value);
    fits =
        if_is _ (text_in (word_at n words)) (word_at n words) (rw (value) refl)
        (if_is (λ x. IsFit form.0 x (word_at n words)) (argument_at form words n) name goes
        (subst (λ (t : Text). IsFit form.0 name t) is fit));
  }

  -- nor with an option
  pub right_option : (a : Argument) → is_value (word_at n words) ≡ false → option_at form words n ≡ Some a
      → is_given a.0 (take n words) ≡ false → (is_flag a.1 ≡ true → attached (word_at n words) ≡ None)
      → IfSome (taking (Some a) (attached (word_at n words))) (λ name. (n + 1 < length words) × (is_value (word_at (n + 1) words) ≡ true))
      → IfSome (attached (word_at n words)) (IsFit form.0 a.0) → IsRight form words n
  right_option a dash is once bare valued fit =
      let goes : argument_at form words n ≡ Some a.0 = goes_option a dash is in
      let next : taking (Some a) (attached (word_at n words)) ≡ awaits form words (n + 1) = sym (next_option a is) in
      record {
        known = ap is_some goes;
        once = if_is _ (option_at form words n) a is once;
        flag = if_is _ (option_at form words n) a is bare;
        valued = subst (λ (o : Option Text). IfSome o (λ name. (n + 1 < length words) × (is_value (word_at (n + 1) words) ≡ true))) next valued;
        fits = fits_is (attached (word_at n words)) (rw (dash) refl) goes fit;
      }
    where
      fits_is : (o : Option Text) → text_in (word_at n words) ≡ o → argument_at form words n ≡ Some a.0 → IfSome o (IsFit form.0 a.0)
          → IfSome (text_in (word_at n words)) (λ text. IfSome (argument_at form words n) (λ name. IsFit form.0 name text))
      fits_is None e goes fit = if_none _ (text_in (word_at n words)) e
      fits_is (Some x) e goes fit = if_is _ (text_in (word_at n words)) x e (if_is (λ y. IsFit form.0 y x) (argument_at form words n) a.0 goes fit)

  -- the three kinds of them: one without a value, one with its value behind its `=`, and one whose value is the next word
  module _ (a : Argument) (dash : is_value (word_at n words) ≡ false) (is : option_at form words n ≡ Some a)
      (once : is_given a.0 (take n words) ≡ false) where
    pub right_flag : is_flag a.1 ≡ true → attached (word_at n words) ≡ None → IsRight form words n
    right_flag flag bare =
        right_option a dash is once (λ yes. bare) (rw (flag) tt) (if_none _ (attached (word_at n words)) bare)

    pub right_attached : is_flag a.1 ≡ false → IsSomeAnd (attached (word_at n words)) (IsFit form.0 a.0) → IsRight form words n
    right_attached valued value =
        right_option a dash is once (λ yes. clash (is_flag a.1) valued yes) (rw (valued, some_is (IsFit form.0 a.0) (attached (word_at n words)) value) tt)
        (some_if (IsFit form.0 a.0) (attached (word_at n words)) value)

    pub right_next : is_flag a.1 ≡ false
        → (attached (word_at n words) ≡ None) × (n + 1 < length words) × (is_value (word_at (n + 1) words) ≡ true) → IsRight form words n
    right_next valued next =
        right_option a dash is once (λ yes. clash (is_flag a.1) valued yes) (rw (valued, next.0) (next.1, next.2))
        (if_none _ (attached (word_at n words)) next.0)

-- where the walk begins
pub none_before : (form : Form) (words : List Text) → 0 ≡ plain_before form words 1
unfolding plain_before
none_before form words = refl

pub none_awaits : (form : Form) (words : List Text) → None ≡ awaits form words 1
unfolding awaits
none_awaits form words = refl

pub none_walked : (form : Form) (words : List Text) → IsWalked form words 1 (record { before = 0; awaited = None; last = None })
none_walked form words = record {
  few = omega arith;
  before = none_before form words;
  awaited = none_awaits form words;
  behind = tt;
  plain = tt;
  last = tt;
}

-- what one more word does to what is known: an option or the value of one leaves the count as it is, and another word is the last that counts
module _ (form : Form) (words : List Text) (n : ℕ) (walked : Walked) (behind : 1 ≤ n) (so_far : IsWalked form words n walked) where
  pub same_count : (awaited : Option (Bor Text)) → plain_before form words (n + 1) ≡ plain_before form words n
      → option_map (λ name. name.now) awaited ≡ awaits form words (n + 1) → IsWalked form words (n + 1) (record walked { awaited = awaited })
  same_count awaited same next = record {
    few = omega (arith, so_far.few);
    before = so_far.before ∙ sym same;
    awaited = next;
    behind = if_then walked.last (λ m h. (h.0, omega (arith, h.1))) so_far.behind;
    plain = so_far.plain;
    last = if_then walked.last (λ m h. h ∙ sym same) so_far.last;
  }

  pub one_more : is_value (word_at n words) ≡ true → awaits form words n ≡ None
      → IsWalked form words (n + 1) (record { before = walked.before + 1; awaited = None; last = Some n })
  one_more value free = record {
    few = omega (arith, so_far.few);
    before = ap (λ n. n + 1) so_far.before ∙ sym (before_plain form words n behind value free);
    awaited = sym (next_none form words n behind value);
    behind = (behind, omega arith);
    plain = rw (not_first n behind, value, free) refl;
    last = refl;
  }
