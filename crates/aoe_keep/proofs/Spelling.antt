-- What is spelled is read again.
use Rattle.std.proofs.Common.{◌≡◌, ◌≤◌, ◌+◌, ◌-◌, ◌*◌, ◌==◌, ◌&&◌, cond, ℕ, zero, suc, Bool, true, false, Option, Some, None, List, [], ◌∷◌, ◌++◌, length, take, drop, replicate, nat_eq, nat_le, slice_index, refl, arith, sym, ◌∙◌, ap, length-append, append_assoc}
use Rattle.std.specs.List.{All, flat_map, list_all, starts_with}
use Rattle.std.specs.Option.{option_and_then}
use Rattle.std.specs.Simd.{first_chunks}
use Rattle.std.proofs.lemmas.List.{take_at, drop_at, drop-drop, length-replicate}
use Rattle.std.proofs.lemmas.Bool.{lt-ltb, le-leb, eq-eqb, and_from, cond-true}
use Rattle.std.proofs.lemmas.Nat.{from_be_bytes-to_be_bytes_2}
use Rattle.aoe_base.specs.declared.address.Mac.{Mac}
use Rattle.aoe_lists.specs.Reserves.{addresses}
use Rattle.aoe_lists.specs.Settings.{Settings, max_config}
use Rattle.aoe_keep.specs.declared.body.Format.{Format}
use Rattle.aoe_keep.specs.declared.body.Written.{Written}
use Rattle.aoe_keep.specs.Body.{format_2, format_named, decode, start, mark_in, config_len, head_len, Fits, IsFormat, fields_of, is_valid, decode_by, spelling, written, head_of}

six_tail : (a : Mac) (list : List Mac) → All (λ b. length b.0 ≡ 6) (a ∷ list) → All (λ b. length b.0 ≡ 6) list
six_tail a list six = λ k d l. six (suc k) d (omega (arith, l))

pub length_joined : (list : List Mac) → All (λ a. length a.0 ≡ 6) list → length (flat_map (λ a. a.0) list) ≡ 6 * length list
length_joined [] six = refl
length_joined (a ∷ list) six = omega (arith, length-append a.0 (flat_map (λ b. b.0) list), six 0 a (omega arith), length_joined list (six_tail a list six))

addresses_back : (list : List Mac) (rest : List ℕ) → All (λ a. length a.0 ≡ 6) list
    → addresses (first_chunks 6 (length list) (flat_map (λ a. a.0) list ++ rest)) ≡ list
addresses_back [] rest six = refl
addresses_back (a ∷ list) rest six =
    let split : a.0 ++ flat_map (λ b. b.0) list ++ rest ≡ a.0 ++ (flat_map (λ b. b.0) list ++ rest) = append_assoc a.0 (flat_map (λ b. b.0) list) rest in
    let first : take 6 (a.0 ++ flat_map (λ b. b.0) list ++ rest) ≡ a.0 = rw split (take_at a.0 _ 6 (six 0 a (omega arith))) in
    let after : drop 6 (a.0 ++ flat_map (λ b. b.0) list ++ rest) ≡ flat_map (λ b. b.0) list ++ rest = rw split (drop_at a.0 _ 6 (six 0 a (omega arith))) in
    let others : addresses (first_chunks 6 (length list) (drop 6 (a.0 ++ flat_map (λ b. b.0) list ++ rest))) ≡ list =
    rw after (addresses_back list rest (six_tail a list six)) in
    λ i. (let m : Mac = record { 0 = first i } in m) ∷ others i

zeros : (k : ℕ) → list_all (λ b. b == 0) (replicate k 0) ≡ true
zeros zero = refl
zeros (suc k) = zeros k

-- the number that a mark is spelled by
abbrev mark_number : Bool → ℕ
mark_number read_only = cond read_only 1 0

mark_read : (t : Bool) → (mark_number t == 1) ≡ t
mark_read true = refl
mark_read false = refl

mark_small : (t : Bool) → nat_le (mark_number t) 1 ≡ true
mark_small true = refl
mark_small false = refl

module _ (f : Format) (turn : ℕ) (s : Settings) (fits : Fits f turn s) (pad : ℕ) where
  part : (c m r z : List ℕ) (n k : ℕ) → length c ≡ n → length m ≡ k → (drop n (c ++ m ++ r ++ z) ≡ m ++ (r ++ z)) × (drop (n + k) (c ++ m ++ r ++ z) ≡ r ++ z)
      × (take n (c ++ m ++ r ++ z) ≡ c)
  part c m r z n k lc lm =
      let all : c ++ m ++ r ++ z ≡ c ++ (m ++ (r ++ z)) = append_assoc (c ++ m) r z ∙ append_assoc c m (r ++ z) in
      let d : drop n (c ++ m ++ r ++ z) ≡ m ++ (r ++ z) = ap (drop n) all ∙ drop_at c _ n lc in
      (d, sym (drop-drop k n (c ++ m ++ r ++ z)) ∙ ap (drop k) d ∙ drop_at m (r ++ z) k lm, ap (take n) all ∙ take_at c _ n lc)

  fields_back : fields_of (length s.config) (length s.masks) (length s.reserves) (mark_number s.read_only)
      (s.config ++ flat_map (λ a. a.0) s.masks ++ flat_map (λ a. a.0) s.reserves ++ replicate pad 0) ≡ s
  unfolding fields_of
  fields_back =
      let p = part s.config (flat_map (λ a. a.0) s.masks) (flat_map (λ a. a.0) s.reserves) (replicate pad 0) (length s.config) (6 * length s.masks) refl
      (length_joined s.masks fits.six_masks) in
      let m = ap (λ (l : List ℕ). addresses (first_chunks 6 (length s.masks) l)) p.0 ∙ addresses_back s.masks _ fits.six_masks in
      let r = ap (λ (l : List ℕ). addresses (first_chunks 6 (length s.reserves) l)) p.1 ∙ addresses_back s.reserves _ fits.six_reserves in
      λ i. record { config = p.2 i; masks = m i; reserves = r i; read_only = mark_read s.read_only i }

  end_back : drop (length s.config + 6 * length s.masks + 6 * length s.reserves)
      (s.config ++ flat_map (λ a. a.0) s.masks ++ flat_map (λ a. a.0) s.reserves ++ replicate pad 0) ≡ replicate pad 0
  end_back = drop_at (s.config ++ flat_map (λ a. a.0) s.masks ++ flat_map (λ a. a.0) s.reserves) (replicate pad 0) _
      (omega (
        arith,
        length-append (s.config ++ flat_map (λ a. a.0) s.masks) (flat_map (λ a. a.0) s.reserves),
        length-append s.config
            (flat_map (λ a. a.0) s.masks),
        length_joined s.masks fits.six_masks,
        length_joined s.reserves fits.six_reserves,
      ))

  valid_back : is_valid f turn (length s.config) (length s.masks) (length s.reserves) (mark_number s.read_only)
      (s.config ++ flat_map (λ a. a.0) s.masks ++ flat_map (λ a. a.0) s.reserves ++ replicate pad 0) ≡ true
  unfolding is_valid
  valid_back =
      and_from _ _ (and_from _ _ (lt-ltb turn 3 fits.known_turn)
      (and_from _ _ (le-leb _ max_config fits.config)
      (and_from _ _ (le-leb _ f.most fits.masks) (and_from _ _ (le-leb _ f.most fits.reserves) (mark_small s.read_only)))))
      (rw (fields_back, end_back) (and_from _ _ fits.unique_masks (and_from _ _ fits.unique_reserves (zeros pad))))

-- a body names its format in the fifth byte
pub names : (f : Format) (turn : ℕ) (s : Settings) → slice_index (spelling f turn s) 4 ≡ f.number
unfolding spelling
names f turn s = refl

clear : (t : Bool) → (t ≡ true → false ≡ true) → 0 ≡ mark_number t
clear true h = absurd (true_not_false (h refl))
  where
    true_not_false : false ≡ true → ⊥
    true_not_false e = cc
clear false h = refl

-- the mark that was spelled, and the bytes behind it
mark_spelled : (f : Format) (turn : ℕ) (s : Settings) → (s.read_only ≡ true → f.has_mark ≡ true) → mark_in f (spelling f turn s) ≡ mark_number s.read_only
unfolding spelling
mark_spelled f turn s h = at f.has_mark f.number f.most h
  where
    at : (b : Bool) (number most : ℕ) → (s.read_only ≡ true → b ≡ true)
        → (let g : Format = record { number = number; most = most; has_mark = b } in mark_in g (spelling g turn s) ≡ mark_number s.read_only)
    at true number most h = refl
    at false number most h = clear s.read_only h

fields_spelled : (f : Format) (turn : ℕ) (s : Settings) → drop (head_len f) (spelling f turn s)
    ≡ s.config ++ flat_map (λ a. a.0) s.masks ++ flat_map (λ a. a.0) s.reserves ++ replicate (3584 - length (written f turn s)) 0
unfolding spelling
fields_spelled f turn s = at f.has_mark f.number f.most
  where
    at : (b : Bool) (number most : ℕ) → (let g : Format = record { number = number; most = most; has_mark = b } in drop (head_len g) (spelling g turn s)
        ≡ s.config ++ flat_map (λ a. a.0) s.masks ++ flat_map (λ a. a.0) s.reserves ++ replicate (3584 - length (written g turn s)) 0)
    at true number most = refl
    at false number most = refl

length-head : (f : Format) (turn : ℕ) (s : Settings) → length (head_of f turn s) ≡ head_len f
length-head f turn s = at f.has_mark f.number f.most
  where
    at : (b : Bool) (number most : ℕ) → (let g : Format = record { number = number; most = most; has_mark = b } in length (head_of g turn s) ≡ head_len g)
    at true number most = refl
    at false number most = refl

begins : (f : Format) (turn : ℕ) (s : Settings) → starts_with nat_eq (spelling f turn s) (start f) ≡ true
unfolding spelling
begins f turn s = ap (λ t. t && true) (eq-eqb f.number f.number refl)

config_spelled : (f : Format) (turn : ℕ) (s : Settings) → length s.config ≤ max_config → config_len (spelling f turn s) ≡ length s.config
unfolding spelling
config_spelled f turn s few = from_be_bytes-to_be_bytes_2 (length s.config) (omega (arith, few))

numbers_spelled : (f : Format) (turn : ℕ) (s : Settings)
    → (slice_index (spelling f turn s) 5 ≡ turn) × (slice_index (spelling f turn s) 8 ≡ length s.masks)
    × (slice_index (spelling f turn s) 9 ≡ length s.reserves)
unfolding spelling
numbers_spelled f turn s = (refl, refl, refl)

pub reads_back : (f : Format) (turn : ℕ) (s : Settings) → Fits f turn s
    → decode_by f (spelling f turn s) ≡ Some (record { format = f.number; turn = turn; lists = s })
unfolding decode_by
reads_back f turn s fits =
    let pad = 3584 - length (written f turn s) in
    let rest = s.config ++ flat_map (λ a. a.0) s.masks ++ flat_map (λ a. a.0) s.reserves ++ replicate pad 0 in
    let with : ℕ → Settings → Option Written = λ t x. Some (record { format = f.number; turn = t; lists = x }) in
    let at : ℕ → ℕ → ℕ → ℕ → ℕ → List ℕ → Option Written =
    λ t n m r mark xs. cond (starts_with nat_eq (spelling f turn s) (start f) && is_valid f t n m r mark xs) (with t (fields_of n m r mark xs)) None in
    let numbers = numbers_spelled f turn s in
    let all : decode_by f (spelling f turn s) ≡ at turn (length s.config) (length s.masks) (length s.reserves) (mark_number s.read_only) rest =
    λ i. at (numbers.0 i) (config_spelled f turn s fits.config i) (numbers.1 i) (numbers.2 i) (mark_spelled f turn s fits.mark i) (fields_spelled f turn s i) in
    all ∙ cond-true _ _ None (and_from _ _ (begins f turn s) (valid_back f turn s fits pad)) ∙ ap (with turn) (fields_back f turn s fits pad)

-- and by the format that it names
pub decodes : (turn : ℕ) (s : Settings) → Fits format_2 turn s
    → decode (spelling format_2 turn s) ≡ Some (record { format = format_2.number; turn = turn; lists = s })
decodes turn s fits =
    ap (λ (k : ℕ). option_and_then (λ f. decode_by f (spelling format_2 turn s)) (format_named k)) (names format_2 turn s) ∙ reads_back format_2 turn s fits

pub length-written : (f : Format) (turn : ℕ) (s : Settings) → All (λ a. length a.0 ≡ 6) s.masks → All (λ a. length a.0 ≡ 6) s.reserves
    → length (written f turn s) ≡ head_len f + length s.config + 6 * length s.masks + 6 * length s.reserves
length-written f turn s sm sr =
    omega (
      arith,
      length-head f turn s,
      length-append (head_of f turn s ++ s.config ++ flat_map (λ a. a.0) s.masks) (flat_map (λ a. a.0) s.reserves),
      length-append (head_of f turn s ++ s.config) (flat_map (λ a. a.0) s.masks),
      length-append (head_of f turn s) s.config,
      length_joined s.masks sm,
      length_joined s.reserves sr,
    )

pub length-spelling : (f : Format) (turn : ℕ) (s : Settings) → IsFormat f → Fits f turn s → length (spelling f turn s) ≡ 3584
unfolding spelling
length-spelling f turn s is fits =
    let all = written f turn s in
    omega (
      arith,
      length-append all (replicate (3584 - length all) 0),
      length-replicate {A = ℕ}
          (3584 - length all) 0,
      length-written f turn s fits.six_masks fits.six_reserves,
      fits.config,
      fits.masks,
      fits.reserves,
      is.room,
    )

-- what was appended, piece by piece, is the spelling
pub spelled : (f : Format) (turn : ℕ) (s : Settings) (a b c d e : List ℕ) → a ≡ head_of f turn s → b ≡ a ++ s.config → c ≡ b ++ flat_map (λ a. a.0) s.masks
    → d ≡ c ++ flat_map (λ a. a.0) s.reserves → e ≡ d ++ replicate (3584 - length d) 0 → e ≡ spelling f turn s
unfolding spelling
spelled f turn s a b c d e ea eb ec ed ee = rw (ee, ed, ec, eb, ea) refl
