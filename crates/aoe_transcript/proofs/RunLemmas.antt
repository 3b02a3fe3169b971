-- Runs of equal bytes, one after the other.
use Rattle.std.proofs.Common.{◌≡◌, ◌∙◌, ◌+◌, ◌==◌, ℕ, suc, false, not, inl, inr, List, [], ◌∷◌, ◌++◌, length, map, drop, replicate, refl, sym, ap, arith, append_assoc, add-one}
use Rattle.std.specs.Prelude.{slice_index}
use Rattle.std.specs.List.{flat_map, join_with_byte, position_or_len}
use Rattle.std.proofs.lemmas.List.{append-nil}
use Rattle.std.proofs.lemmas.Bool.{cases_Bool, eqb-false, eqb-true, eq-eqb}
use Rattle.aoe_transcript.specs.Print.{repeated_text, runs_text}
use Rattle.aoe_transcript.specs.Runs.{led_by, longest_runs, AreLongest, AreRunsOf, Run}

-- ---- the first run

-- how many bytes of a value stand at the front
abbrev lead : ℕ → List ℕ → ℕ
lead b bytes = position_or_len (λ c. not (c == b)) bytes

one_add : (n : ℕ) → 1 + n ≡ suc n
one_add n = omega arith

longest_first : (b : ℕ) (bytes : List ℕ) → longest_runs (b ∷ bytes) ≡ record { byte = b; count = suc (lead b bytes) } ∷ longest_runs (drop (lead b bytes) bytes)
longest_first b [] = refl
longest_first b (x ∷ bytes) = elim (cases_Bool (x == b)) [
  | inl is ↦ let same = eqb-true x b is in rw (longest_first x bytes, is, one_add, add-one, same)
  | inr is ↦ rw (is, longest_first x bytes, is)
]

pub first_run : (bytes rest : List ℕ) (byte count : ℕ) → (length bytes == 0) ≡ false → byte ≡ slice_index bytes 0
    → count ≡ position_or_len (λ c. not (c == byte)) bytes → rest ≡ drop count bytes
    → longest_runs bytes ≡ record { byte = byte; count = count } ∷ longest_runs rest
first_run [] rest byte count some is long behind = absurd cc
first_run (b ∷ bytes) rest byte count some is long behind =
    let all : count ≡ suc (lead b bytes) = long ∙ ap (λ y. lead y (b ∷ bytes)) is ∙ rw (eq-eqb b b refl) (one_add (lead b bytes)) in
    rw (behind, all, is) (longest_first b bytes)

-- ---- their text

-- runs behind others, each behind a comma
abbrev pub behind : List Run → List ℕ
behind runs = flat_map (λ run. 44 ∷ repeated_text run) runs

join_first : (run : Run) (runs : List Run) → join_with_byte 44 (map repeated_text (run ∷ runs)) ≡ repeated_text run ++ behind runs
join_first run [] = sym (append-nil (repeated_text run))
join_first run (other ∷ runs) = rw (join_first other runs)

pub text_begins : (start new bytes rest : List ℕ) (run : Run) → longest_runs bytes ≡ run ∷ longest_runs rest → new ≡ start ++ repeated_text run
    → start ++ runs_text bytes ≡ new ++ behind (longest_runs rest)
text_begins start new bytes rest run is new_is =
    rw (is, new_is, join_first run (longest_runs rest)) (sym (append_assoc start (repeated_text run) (behind (longest_runs rest))))

whole_more : (b : ℕ) (runs : List Run)
    → flat_map (λ run. replicate run.count run.byte) (led_by b runs) ≡ b ∷ flat_map (λ run. replicate run.count run.byte) runs
whole_more b [] = refl
whole_more b (run ∷ runs) = elim (cases_Bool (run.byte == b)) [
  | inl is ↦ rw (is, add-one, eqb-true run.byte b is)
  | inr is ↦ rw is
]

longest_more : (b : ℕ) (runs : List Run) → AreLongest runs → AreLongest (led_by b runs)
longest_more b [] h = omega arith
longest_more b (run ∷ runs) h = elim (cases_Bool (run.byte == b)) [
  | inl is ↦ rw is (longer runs h (eqb-true run.byte b is))
  | inr is ↦ rw is (omega arith, (λ e. eqb-false run.byte b is (sym e)), h)
]
  where
    longer : (runs : List Run) → AreLongest (run ∷ runs) → run.byte ≡ b → AreLongest (record { byte = b; count = run.count + 1 } ∷ runs)
    longer [] h same = omega arith
    longer (other ∷ runs) h same = (omega arith, (λ e. h.1 (same ∙ e)), h.2)

pub runs_of : (bytes : List ℕ) → AreRunsOf bytes (longest_runs bytes)
runs_of [] = record { whole = refl; longest = tt }
runs_of (b ∷ bytes) =
    let h = runs_of bytes in
    record { whole = whole_more b (longest_runs bytes) ∙ ap (λ bs. b ∷ bs) h.whole; longest = longest_more b (longest_runs bytes) h.longest }
