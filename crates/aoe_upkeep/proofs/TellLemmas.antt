-- The text of a comparison: its first line, the runs and its last line.
use Rattle.std.proofs.Common.{◌≡◌, ◌<◌, ◌∙◌, ◌++◌, ℕ, Bool, true, false, List, [], ◌∷◌, Option, Result, Ok, Err, IfErr, ap, arith, codes, decimal, length, length-append, refl, subst, sym}
use Rattle.std.proofs.lemmas.List.{take-append-le}
use Rattle.aoe_disk.specs.State.{IsDisk}
use Rattle.aoe_disk.proofs.Runs.{run_none}
use Rattle.aoe_io.specs.Bytes.{Took, TookSome}
use Rattle.aoe_io.proofs.BytesLemmas.{Took-then, TookSome-front, TookSome-then}
use Rattle.aoe_mirror.specs.Sides.{both}
use Rattle.aoe_mirror.specs.declared.clean.Found.{Found}
use Rattle.aoe_upkeep.specs.Comparing.{IsText, Scene, Tells, TellsAll, TellsPart, head_line, is_refused, last_line, pieces_of}
use Rattle.aoe_upkeep.specs.Scanning.{ComparesOn, RunsAll, RunsPart, TookFront, lines}
use Rattle.aoe_upkeep.specs.declared.stop.CompareStop.{CompareStop}
use Rattle.aoe_upkeep.specs.declared.stop.CompareStop.TheVariants as stop
use Rattle.aoe_upkeep.proofs.ScanLemmas.{front-then}
use Rattle.aoe_upkeep.proofs.SideLemmas.{end-of, knows-nothing, whole-of}

-- a sink that took a front of p took a part of p and more
some-of : (a b : Option (List ℕ)) (p q : List ℕ) → 0 < length q → TookFront a b p → TookSome a b (p ++ q)
some-of a b p q more front =
    let P : List ℕ → Type 0 = λ xs. Took a b xs in
    (front.0, omega (arith, front.1, more, length-append p q), subst P (sym (take-append-le front.0 p q front.1)) front.2)

last-some : (count sectors : ℕ) → 0 < length (last_line count sectors)
last-some count sectors =
    omega (arith, length-append (decimal count ++ codes " of " ++ decimal sectors ++ codes " sectors differ") (let end : List ℕ = 10 ∷ [] in end))

module _ (found : Found) (old : Scene) (size : old.two.sectors ≡ old.one.sectors) (one : IsDisk old.one) (two : IsDisk old.two) where
  -- the first line wasn't told
  pub head-cut : (new : Scene) → new.one ≡ old.one → new.two ≡ old.two → TookSome old.held new.held (head_line found)
      → TellsPart false false found old new
  head-cut new same-one same-two took =
      let told = both old.one.contents old.two.contents in
      let ends = end-of old.one.sectors old.one.contents old.two.contents one.shape (rw size at two.shape) in
      let w = whole-of old.one.sectors told (record { at = 0; start = 0; count = 0 }) [] ends (knows-nothing told) (omega arith) in
      record {
        one_calls = 0;
        two_calls = 0;
        one_few = omega arith;
        two_few = omega arith;
        one = rw same-one (record { run = run_none old.one one; same = refl });
        two = rw same-two (record { run = run_none old.two two; same = refl });
        count = w.0;
        text = head_line found ++ lines w.1 ++ last_line w.0 old.one.sectors;
        is = record { runs = w.1; is = refl; exact = w.2 };
        took = TookSome-front old.held new.held (head_line found ++ lines w.1) (last_line w.0 old.one.sectors)
            (TookSome-front old.held new.held (head_line found) (lines w.1) took);
      }

  module _ (held : Option (List ℕ)) (head : Took old.held held (head_line found)) where
    -- the scene behind the first line
    abbrev pub behind : Scene
    behind = record { one = old.one; two = old.two; held = held }

    part-cut : (f g : Bool) (new : Scene) → RunsPart f g behind new → TellsPart f g found old new
    part-cut f g new part = record {
      one_calls = part.one_calls;
      two_calls = part.two_calls;
      one_few = part.one_few;
      two_few = part.two_few;
      one = part.one;
      two = part.two;
      count = part.count;
      text = head_line found ++ lines part.runs ++ last_line part.count old.one.sectors;
      is = record { runs = part.runs; is = refl; exact = part.exact };
      took = some-of old.held new.held (head_line found ++ lines part.runs) (last_line part.count old.one.sectors)
          (last-some part.count old.one.sectors) (front-then old.held held new.held (head_line found) (lines part.runs) head part.took);
    }

    -- a read failed, or a line wasn't told
    pub runs-cut : (why : CompareStop) (new : Scene) → ComparesOn (Err why) behind new → Tells (Err why) found old new
    runs-cut stop.FirstFailed new compares = part-cut true false new compares
    runs-cut stop.SecondFailed new compares = part-cut false true new compares
    runs-cut stop.SinkFault new compares = part-cut false false new compares
    runs-cut (stop.Unequal a b) new compares = absurd compares
    runs-cut stop.NoMark new compares = absurd compares
    runs-cut stop.NotMark new compares = absurd compares
    runs-cut stop.MarkFailed new compares = absurd compares
    runs-cut stop.NoMemory new compares = absurd compares

    module _ (count : ℕ) (mid : Scene) (runs : RunsAll count behind mid) (new : Scene) (line : List ℕ) (line_is : line ≡ last_line count mid.one.sectors)
        (same-one : new.one ≡ mid.one) (same-two : new.two ≡ mid.two)
      where
        last-is : line ≡ last_line count old.one.sectors
        last-is = line_is ∙ ap (last_line count) runs.one.run.sectors

        whole : IsText found old.one old.two count (head_line found ++ lines runs.runs ++ last_line count old.one.sectors)
        whole = record { runs = runs.runs; is = refl; exact = runs.exact }

        before : Took old.held mid.held (head_line found ++ lines runs.runs)
        before = Took-then old.held held mid.held (head_line found) (lines runs.runs) head runs.took

        -- all was told
        pub tells-all : Took mid.held new.held line → TellsAll found count old new
        tells-all took = record {
          one = rw same-one runs.one;
          two = rw same-two runs.two;
          text = head_line found ++ lines runs.runs ++ last_line count old.one.sectors;
          is = whole;
          took = Took-then old.held mid.held new.held (head_line found ++ lines runs.runs) (last_line count old.one.sectors) before (rw last-is at took);
        }

        -- the last line wasn't told
        pub last-cut : TookSome mid.held new.held line → TellsPart false false found old new
        last-cut took = record {
          one_calls = pieces_of old.one.sectors;
          two_calls = pieces_of old.one.sectors;
          one_few = omega arith;
          two_few = omega arith;
          one = rw same-one runs.one;
          two = rw same-two runs.two;
          count = count;
          text = head_line found ++ lines runs.runs ++ last_line count old.one.sectors;
          is = whole;
          took = TookSome-then old.held mid.held new.held (head_line found ++ lines runs.runs) (last_line count old.one.sectors) before
              (rw last-is at took);
        }

-- what was told isn't what a comparison ends with before it reads a side
pub told-read : (result : Result ℕ CompareStop) (found : Found) (old new : Scene) → Tells result found old new → is_refused result ≡ false
told-read (Ok count) found old new tells = refl
told-read (Err stop.FirstFailed) found old new tells = refl
told-read (Err stop.SecondFailed) found old new tells = refl
told-read (Err stop.SinkFault) found old new tells = refl
told-read (Err (stop.Unequal a b)) found old new tells = absurd tells
told-read (Err stop.NoMark) found old new tells = absurd tells
told-read (Err stop.NotMark) found old new tells = absurd tells
told-read (Err stop.MarkFailed) found old new tells = absurd tells
told-read (Err stop.NoMemory) found old new tells = absurd tells

pub never : {P : Type 0} (result : Result ℕ CompareStop) → is_refused result ≡ false → is_refused result ≡ true → P
never result e told = absurd (let no : false ≡ true = sym e ∙ told in cc)

pub no-refusal : (result : Result ℕ CompareStop) (P : CompareStop → Type 0) → is_refused result ≡ false
    → IfErr result (λ why. is_refused result ≡ true → P why)
no-refusal (Ok count) P e = tt
no-refusal (Err why) P e = λ told. never (Err why) e told
