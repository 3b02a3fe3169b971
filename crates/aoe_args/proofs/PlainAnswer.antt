-- What `answer` and four plain words spell.
use Rattle.std.proofs.Common.{◌≡◌, ◌∙◌, ◌==◌, ◌&&◌, ℕ, Bool, true, false, not, List, [], ◌∷◌, Option, Some, None, refl, ap, codes, length, nat_le, nat_lt}
use Rattle.std.specs.Prelude.{option_and_then, option_map}
use Rattle.std.specs.Option.{option_map_or}
use Rattle.std.specs.List.{list_all, list_any}
use Rattle.clap.specs.Words.{Row, Text}
use Rattle.aoe_base.specs.Decimal.{number_of}
use Rattle.aoe_base.specs.Names.{id_of}
use Rattle.aoe_base.specs.declared.address.TargetId.{TargetId}
use Rattle.aoe_args.specs.declared.command.Command.{Command}
use Rattle.aoe_args.specs.declared.command.Command.TheVariants.{Answer}
use Rattle.aoe_args.specs.Values.{default_port}
use Rattle.aoe_args.specs.Words.{answer_of, command, command_of, file_names, files_of, is_hyphen, is_plain, is_word, plain_answer, plain_files, run_of, spelled}
use Rattle.aoe_args.proofs.PlainLemmas.{found, plain_parsed}

-- the parts of a test
all_three : (a b c : Bool) → (a && b && not c) ≡ true → (a ≡ true) × (b ≡ true) × (c ≡ false)
all_three true true false h = (refl, refl, refl)
all_three true true true h = cc
all_three true false c h = cc
all_three false b c h = cc

pub no_hyphen : (x : ℕ) (xs : Text) → is_plain (x ∷ xs) ≡ true → (x == 45) ≡ false
no_hyphen x xs h = (all_three (nat_lt 0 (length (x ∷ xs))) (nat_le (length (x ∷ xs)) 4096) (x == 45) h).2

-- a plain word can stand on a command line
pub plain_word : (x : ℕ) (xs : Text) → is_plain (x ∷ xs) ≡ true → is_word (x ∷ xs) ≡ true
plain_word x xs h =
    let parts = all_three (nat_lt 0 (length (x ∷ xs))) (nat_le (length (x ∷ xs)) 4096) (x == 45) h in
    rw (parts.0, parts.1) (simp parts.2 refl)

-- and isn't one hyphen
pub no_gone : (x : ℕ) (xs : Text) → is_plain (x ∷ xs) ≡ true → is_hyphen (x ∷ xs) ≡ false
no_gone x xs h = simp (no_hyphen x xs h) refl

module _ (x1 x2 x3 x4 : ℕ) (t1 t2 t3 t4 : Text) (p1 : is_plain (x1 ∷ t1) ≡ true) (p2 : is_plain (x2 ∷ t2) ≡ true) (p3 : is_plain (x3 ∷ t3) ≡ true)
    (p4 : is_plain (x4 ∷ t4) ≡ true) where
  abbrev line : List Text
  line = codes "answer" ∷ (x1 ∷ t1) ∷ (x2 ∷ t2) ∷ (x3 ∷ t3) ∷ (x4 ∷ t4) ∷ []

  abbrev rows : List Row
  rows = found x1 x2 x3 x4 t1 t2 t3 t4 (no_hyphen x1 t1 p1) (no_hyphen x2 t2 p2) (no_hyphen x3 t3 p3) (no_hyphen x4 t4 p4)

  abbrev spelling : TargetId → Command × List Row
  spelling id = (plain_answer id, rows)

  abbrev with_rows : Command → Command × List Row
  with_rows c = (c, rows)

  all_words : list_all is_word ((x1 ∷ t1) ∷ (x2 ∷ t2) ∷ (x3 ∷ t3) ∷ (x4 ∷ t4) ∷ []) ≡ true
  all_words = rw (plain_word x1 t1 p1, plain_word x2 t2 p2, plain_word x3 t3 p3, plain_word x4 t4 p4) refl

  no_hyphens : list_any is_hyphen ((x1 ∷ t1) ∷ (x2 ∷ t2) ∷ (x3 ∷ t3) ∷ (x4 ∷ t4) ∷ []) ≡ false
  no_hyphens = rw (no_gone x1 t1 p1, no_gone x2 t2 p2, no_gone x3 t3 p3, no_gone x4 t4 p4) refl

  line_spells : spelled line ≡ option_map spelling (id_of (x1 ∷ t1) (x2 ∷ t2))
  unfolding answer_of command_of
  line_spells =
      rw (plain_parsed x1 x2 x3 x4 t1 t2 t3 t4 (no_hyphen x1 t1 p1) (no_hyphen x2 t2 p2) (no_hyphen x3 t3 p3) (no_hyphen x4 t4 p4) all_words
      no_hyphens)
      (go (number_of (x1 ∷ t1) 65534) (number_of (x2 ∷ t2) 254))
    where
      go : (m n : Option ℕ)
          → option_map with_rows (option_map Answer (option_and_then (λ major. option_and_then (λ minor.
          Some (record { id = record { major = major; minor = minor }; port = default_port; mtu = 1500; cache = 0; captures = false; durable = false })) n) m))
          ≡ option_map spelling (option_and_then (λ major. option_and_then (λ minor. Some record { major = major; minor = minor }) n) m)
      go None n = refl
      go (Some major) None = refl
      go (Some major) (Some minor) = refl

  pub line_command : command line ≡ option_map plain_answer (id_of (x1 ∷ t1) (x2 ∷ t2))
  line_command = ap (option_map (λ (p : Command × List Row). run_of p.0 p.1)) line_spells ∙ go (id_of (x1 ∷ t1) (x2 ∷ t2))
    where
      go : (o : Option TargetId) → option_map (λ (p : Command × List Row). run_of p.0 p.1) (option_map spelling o) ≡ option_map plain_answer o
      go None = refl
      go (Some id) = refl

  pub line_files : file_names line ≡ plain_files (id_of (x1 ∷ t1) (x2 ∷ t2)) (x3 ∷ t3) (x4 ∷ t4)
  line_files = ap (λ o. option_map_or (λ (p : Command × List Row). files_of p.0 p.1) o []) line_spells ∙ go (id_of (x1 ∷ t1) (x2 ∷ t2))
    where
      go : (o : Option TargetId) → option_map_or (λ (p : Command × List Row). files_of p.0 p.1) (option_map spelling o) [] ≡ plain_files o (x3 ∷ t3) (x4 ∷ t4)
      go None = refl
      go (Some id) = refl

-- of all words
pub answers_plainly : (shelf slot file keep : Text) → is_plain shelf ≡ true → is_plain slot ≡ true → is_plain file ≡ true → is_plain keep ≡ true
    → (command (codes "answer" ∷ shelf ∷ slot ∷ file ∷ keep ∷ []) ≡ option_map plain_answer (id_of shelf slot))
    × (file_names (codes "answer" ∷ shelf ∷ slot ∷ file ∷ keep ∷ []) ≡ plain_files (id_of shelf slot) file keep)
answers_plainly [] slot file keep p1 p2 p3 p4 = cc
answers_plainly (x1 ∷ t1) [] file keep p1 p2 p3 p4 = cc
answers_plainly (x1 ∷ t1) (x2 ∷ t2) [] keep p1 p2 p3 p4 = cc
answers_plainly (x1 ∷ t1) (x2 ∷ t2) (x3 ∷ t3) [] p1 p2 p3 p4 = cc
answers_plainly (x1 ∷ t1) (x2 ∷ t2) (x3 ∷ t3) (x4 ∷ t4) p1 p2 p3 p4 =
    (line_command x1 x2 x3 x4 t1 t2 t3 t4 p1 p2 p3 p4, line_files x1 x2 x3 x4 t1 t2 t3 t4 p1 p2 p3 p4)
