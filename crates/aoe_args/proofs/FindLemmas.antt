-- What is looked for in a list, place by place.
use Rattle.std.proofs.Common.{◌≡◌, ◌<◌, ◌≤◌, ◌+◌, ◌-◌, ◌==◌, ◌||◌, ◌&&◌, ℕ, Bool, true, false, List, [], ◌∷◌, length, drop, get_or, map, Some, None, refl, ap, add-one, drop-cons}
use Rattle.std.proofs.Math.ListN.{drop_of_length-le}
use Rattle.std.specs.Prelude.{find}
use Rattle.std.specs.List.{list_any}
use Rattle.std.specs.Str.{bytes_eq}
use Rattle.clap.specs.Words.{Text}
use Rattle.aoe_args.specs.Places.{Argument, argument_behind, is_option, option_named, takes_several}

module _ {X Y : Type 0} (read : X → Y) (p : Y → Bool) (xs : List X) (i : ℕ) where
  pub find_here : (d : X) → i < length xs → p (read (get_or xs i d)) ≡ true → find p (map read (drop i xs)) ≡ Some (read (get_or xs i d))
  find_here d below hit = rw (drop-cons xs i d, hit) refl

  pub find_later : (d : X) → i < length xs → p (read (get_or xs i d)) ≡ false → find p (map read (drop (i + 1) xs)) ≡ find p (map read (drop i xs))
  find_later d below miss = rw (add-one, drop-cons xs i d, miss) refl

  pub find_nowhere : length xs ≤ i → find p (map read (drop i xs)) ≡ None
  find_nowhere end = rw (drop_of_length-le xs end) refl

module _ {X : Type 0} (p : X → Bool) (xs : List X) (i : ℕ) where
  pub any_here : (d : X) → i < length xs → p (get_or xs i d) ≡ true → list_any p (drop i xs) ≡ true
  any_here d below hit = rw (drop-cons xs i d, hit) refl

  pub any_later : (d : X) → i < length xs → p (get_or xs i d) ≡ false → list_any p (drop (i + 1) xs) ≡ list_any p (drop i xs)
  any_later d below miss = rw (add-one, drop-cons xs i d, miss) refl

  pub any_nowhere : length xs ≤ i → list_any p (drop i xs) ≡ false
  any_nowhere end = rw (drop_of_length-le xs end) refl

module _ {X : Type 0} (read : X → Argument) (xs : List X) (i n : ℕ) where
  pub behind_here : (d : X) → i < length xs → is_option (read (get_or xs i d)).1 ≡ false → (takes_several (read (get_or xs i d)).1 || n == 0) ≡ true
      → argument_behind (map read (drop i xs)) n ≡ Some (read (get_or xs i d)).0
  unfolding argument_behind
  behind_here d below word here = rw (drop-cons xs i d, word, here) refl

  pub behind_option : (d : X) → i < length xs → is_option (read (get_or xs i d)).1 ≡ true
      → argument_behind (map read (drop (i + 1) xs)) n ≡ argument_behind (map read (drop i xs)) n
  unfolding argument_behind
  behind_option d below option = rw (add-one, drop-cons xs i d, option) refl

  pub behind_word : (d : X) → i < length xs → is_option (read (get_or xs i d)).1 ≡ false → (takes_several (read (get_or xs i d)).1 || n == 0) ≡ false
      → argument_behind (map read (drop (i + 1) xs)) (n - 1) ≡ argument_behind (map read (drop i xs)) n
  unfolding argument_behind
  behind_word d below word later = rw (add-one, drop-cons xs i d, word, later) refl

  pub behind_nothing : length xs ≤ i → argument_behind (map read (drop i xs)) n ≡ None
  unfolding argument_behind
  behind_nothing end = rw (drop_of_length-le xs end) refl

-- the same of the option of a name
module _ {X : Type 0} (read : X → Argument) (xs : List X) (i : ℕ) (name : Text) where
  pub option_here : (d : X) → i < length xs → (bytes_eq (read (get_or xs i d)).0 name && is_option (read (get_or xs i d)).1) ≡ true
      → option_named (map read (drop i xs)) name ≡ Some (read (get_or xs i d))
  unfolding option_named
  option_here d below hit = find_here read (λ a. bytes_eq a.0 name && is_option a.1) xs i d below hit

  pub option_later : (d : X) → i < length xs → (bytes_eq (read (get_or xs i d)).0 name && is_option (read (get_or xs i d)).1) ≡ false
      → option_named (map read (drop (i + 1) xs)) name ≡ option_named (map read (drop i xs)) name
  unfolding option_named
  option_later d below miss = find_later read (λ a. bytes_eq a.0 name && is_option a.1) xs i d below miss

  pub option_nowhere : length xs ≤ i → option_named (map read (drop i xs)) name ≡ None
  unfolding option_named
  option_nowhere end = find_nowhere read (λ a. bytes_eq a.0 name && is_option a.1) xs i end

-- a test of what is read of each
pub any_map : {X Y : Type 0} (p : Y → Bool) (read : X → Y) (xs : List X) → list_any p (map read xs) ≡ list_any (λ x. p (read x)) xs
any_map p read [] = refl
any_map p read (x ∷ xs) = ap (λ b. p (read x) || b) (any_map p read xs)
