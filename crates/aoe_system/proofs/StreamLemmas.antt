-- What a writer took, over several calls of which the first took nothing.
use Rattle.std.proofs.Common.{◌≡◌, ◌++◌, ◌∙◌, ℕ, List, Option, Some, None, Ok, Err, Result, ap, append-nil, subst, take}
use Rattle.std.specs.Io.KnownBytes.{Appends, Keeps, WriteAppends}

pub keeps_on : (a b c : Option (List ℕ)) → Keeps a b → Keeps b c → Keeps a c
keeps_on None b c h k = tt
keeps_on (Some xs) None c h k = absurd h
keeps_on (Some xs) (Some ys) None h k = absurd k
keeps_on (Some xs) (Some ys) (Some zs) h k = k ∙ h

appends_on : (a b c : Option (List ℕ)) (bs : List ℕ) → Keeps a b → Appends b c bs → Appends a c bs
appends_on None b c bs h k = tt
appends_on (Some xs) None c bs h k = absurd h
appends_on (Some xs) (Some ys) None bs h k = absurd k
appends_on (Some xs) (Some ys) (Some zs) bs h k = k ∙ ap (λ v. v ++ bs) h

pub writes_on : {E : Type 0} (a b c : Option (List ℕ)) (r : Result ℕ E) (piece : List ℕ) → Keeps a b → WriteAppends b c r piece → WriteAppends a c r piece
writes_on a b c (Ok n) piece h k = appends_on a b c (take n piece) h k
writes_on a b c (Err e) piece h k = keeps_on a b c h k

-- a call that took no byte
pub none_taken : (a b : Option (List ℕ)) (n : ℕ) (piece : List ℕ) → Appends a b (take n piece) → n ≡ 0 → Keeps a b
none_taken None b n piece h e = tt
none_taken (Some xs) None n piece h e = absurd h
none_taken (Some xs) (Some ys) n piece h e =
    let P : ℕ → Type 0 = λ k. ys ≡ xs ++ take k piece in
    subst P e h ∙ append-nil xs
