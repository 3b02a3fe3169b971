-- What is wrong with a word of a command is a slip.
use Rattle.std.proofs.Common.{ℕ, ◌≡◌, ◌<◌, ◌≤◌, List, length, Option, Some, None, true, false, inr, sym, subst}
use Rattle.std.specs.Prelude.{is_some, option_map, IsSomeAnd, MatchOption}
use Rattle.clap.specs.Words.{Text}
use Rattle.aoe_args.specs.Places.{Form, form_by}
use Rattle.aoe_args.specs.Slips.{IsSlip, IsSlipIn, IsWrongIn}
use Rattle.aoe_args.specs.declared.slip.Slip.{Slip}
use Rattle.aoe_args.specs.declared.slip.Wrong.{Wrong}

-- what isn't there is none
pub is_none : {T : Type 0} (o x : Option T) → o ≡ x → is_some o ≡ false → x ≡ None
is_none None x e h = sym e
is_none (Some y) x e h = cc

pub none_of : {S T : Type 0} (read : S → T) (o : Option S) (x : Option T) → option_map read o ≡ x → is_some o ≡ false → x ≡ None
none_of read None x e h = sym e
none_of read (Some y) x e h = cc

-- and what is there isn't none
pub is_there : {T : Type 0} (o x : Option T) → o ≡ x → is_some o ≡ true → x ≡ None → ⊥
is_there None x e h none = cc
is_there (Some y) x e h none = cc

pub there_of : {S T : Type 0} (read : S → T) (o : Option S) (x : Option T) → option_map read o ≡ x → is_some o ≡ true → x ≡ None → ⊥
there_of read None x e h none = cc
there_of read (Some y) x e h none = cc

-- what holds of the one that is there
pub some_and : {T : Type 0} (P : T → Type 0) (o : Option T) (x : T) → o ≡ Some x → P x → IsSomeAnd o P
some_and P o x e h = subst (λ o. IsSomeAnd o P) (sym e) h

-- a slip of one of the words of a command is one of the words
pub slip_in : (form : Form) (words : List Text) (slip : Slip) → form_by words ≡ Some form → IsSlipIn form words slip → IsSlip words slip
slip_in form words slip named h = go slip.word h
  where
    go : (o : Option ℕ) → MatchOption o ⊥ (λ n. (1 ≤ n) × (n < length words) × IsWrongIn form words n slip.wrong) → IsSlip words (record slip { word = o })
    go None h = absurd h
    go (Some n) h = (h.1, inr (inr (h.0, some_and (λ form. IsWrongIn form words n slip.wrong) (form_by words) form named h.2)))

pub is_in : (form : Form) (words : List Text) (n : ℕ) (reason : Wrong) (slip : Slip) → slip ≡ record { word = Some n; wrong = reason } → 1 ≤ n
    → n < length words → IsWrongIn form words n reason → IsSlipIn form words slip
is_in form words n reason slip e behind there h = subst (IsSlipIn form words) (sym e) (behind, there, h)
