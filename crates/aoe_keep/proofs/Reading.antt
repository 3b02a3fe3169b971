-- A body that spells lists is their spelling, and why a body spells none.
use Rattle.std.proofs.Common.{◌≡◌, ◌↔◌, ◌⊎◌, ◌≤◌, ◌<◌, ◌+◌, ◌-◌, ◌*◌, ◌==◌, ◌&&◌, cond, ℕ, zero, suc, Bool, true, false, Some, None, List, [], ◌∷◌, ◌++◌, length, take, drop, get_or, replicate, slice_index, nat_eq, nat_le, nat_lt, refl, arith, sym, ◌∙◌, ap, length-append, length-drop, take-append-drop}
use Rattle.std.proofs.lemmas.Option.{cond_some}
use Rattle.std.specs.Int.{w16, to_be_bytes, from_be_bytes}
use Rattle.std.specs.List.{All, flat_map, list_all, starts_with}
use Rattle.std.specs.Simd.{first_chunks}
use Rattle.std.proofs.Math.Seq.{take-add}
use Rattle.std.proofs.lemmas.List.{drop_more, length-take-le, length-replicate}
use Rattle.std.proofs.lemmas.Bool.{eqb-true, leb-true, and_parts, and_left, and_right, and_from, cond-true, cond-false}
use Rattle.std.proofs.lemmas.Nat.{be_bytes_2}
use Rattle.std.proofs.lemmas.Slice.Eq.{starts_is}
use Rattle.std.proofs.lemmas.Bool.Decides.{Decides-eqb}
use Rattle.aoe_base.specs.Addresses.{all_unique}
use Rattle.aoe_lists.specs.Reserves.{addresses}
use Rattle.aoe_lists.specs.Settings.{Settings, max_config}
use Rattle.aoe_keep.specs.declared.body.Format.{Format}
use Rattle.aoe_keep.specs.declared.body.Written.{Written}
use Rattle.aoe_keep.specs.Body.{start, mark_bytes, mark_in, head_len, fields_of, is_valid, is_sound, sizes_fit, config_len, decode_by, spelling, written, HasFault, IsFormat}

joined_pieces : (m : ℕ) (xs : List ℕ) → flat_map (λ a. a.0) (addresses (first_chunks 6 m xs)) ≡ take (6 * m) xs
joined_pieces zero xs = refl
joined_pieces (suc m) xs =
    let size : 6 * suc m ≡ 6 + 6 * m = omega arith in
    rw (size, take-add 6 (6 * m) xs) (λ i. take 6 xs ++ joined_pieces m (drop 6 xs) i)

length-pieces : (m : ℕ) (xs : List ℕ) → length (addresses (first_chunks 6 m xs)) ≡ m
length-pieces zero xs = refl
length-pieces (suc m) xs = ap suc (length-pieces m (drop 6 xs))

only_zeros : (xs : List ℕ) → list_all (λ b. b == 0) xs ≡ true → xs ≡ replicate (length xs) 0
only_zeros [] e = refl
only_zeros (x ∷ xs) e =
    let parts = and_parts (x == 0) (list_all (λ b. b == 0) xs) e in
    λ i. eqb-true x 0 parts.0 i ∷ only_zeros xs parts.1 i

-- the bytes after the numbers are the three fields and what follows them
whole : (n m r : ℕ) (rest : List ℕ) → rest ≡ take n rest ++ take (6 * m) (drop n rest) ++ take (6 * r) (drop (n + 6 * m) rest) ++ drop (n + 6 * m + 6 * r) rest
whole n m r rest = rw (← take-add n (6 * m) rest, ← take-add (n + 6 * m) (6 * r) rest) (sym (take-append-drop _ rest))

-- why the fields after the numbers aren't valid, and that they are

module _ (f : Format) (turn n m r mark : ℕ) (rest : List ℕ) where
  pub no_sizes : sizes_fit f turn n m r mark ≡ false → is_valid f turn n m r mark rest ≡ false
  unfolding is_valid
  no_sizes e = and_left _ _ e

  pub no_masks : (bytes : List ℕ) → bytes ≡ drop n rest → all_unique (addresses (first_chunks 6 m bytes)) ≡ false → is_valid f turn n m r mark rest ≡ false
  unfolding is_valid fields_of
  no_masks bytes is e = and_right _ _ (and_left _ _ (rw is at e))

  pub no_reserves : (bytes : List ℕ) → bytes ≡ drop (n + 6 * m) rest → all_unique (addresses (first_chunks 6 r bytes)) ≡ false
      → is_valid f turn n m r mark rest ≡ false
  unfolding is_valid fields_of
  no_reserves bytes is e = and_right _ _ (and_right _ _ (and_left _ _ (rw is at e)))

  pub no_zeros : (bytes : List ℕ) → bytes ≡ drop (n + 6 * m + 6 * r) rest → list_all (λ b. b == 0) bytes ≡ false → is_valid f turn n m r mark rest ≡ false
  unfolding is_valid
  no_zeros bytes is e =
      let s = fields_of n m r mark rest in
      and_right (sizes_fit f turn n m r mark) _ (and_right (all_unique s.masks) _ (and_right (all_unique s.reserves) _ (rw is at e)))

  pub all_fields : (s : Settings) → s.config ≡ take n rest → s.masks ≡ addresses (first_chunks 6 m (drop n rest))
      → s.reserves ≡ addresses (first_chunks 6 r (drop (n + 6 * m) rest)) → s.read_only ≡ (mark == 1) → s ≡ fields_of n m r mark rest
  unfolding fields_of
  all_fields s c ms rs ro = λ i. record { config = c i; masks = ms i; reserves = rs i; read_only = ro i }

  pub all_valid : (s : Settings) (bytes : List ℕ) → s ≡ fields_of n m r mark rest → bytes ≡ drop (n + 6 * m + 6 * r) rest → sizes_fit f turn n m r mark ≡ true
      → all_unique s.masks ≡ true → all_unique s.reserves ≡ true → list_all (λ b. b == 0) bytes ≡ true → is_valid f turn n m r mark rest ≡ true
  unfolding is_valid
  all_valid s bytes is end sizes ms rs zeros = and_from _ _ sizes (rw (← is) (and_from _ _ ms (and_from _ _ rs (rw end at zeros))))

-- the length of the config string as it is read
pub config_read : (body : List ℕ) → length body ≡ 3584 → from_be_bytes w16 (get_or body 6 0 ∷ get_or body 7 0 ∷ []) ≡ config_len body
config_read body size =
    let one = drop_more body 6 0 (omega (arith, size)) in
    let two : drop 6 body ≡ get_or body 6 0 ∷ get_or body 7 0 ∷ drop 8 body = one ∙ (λ i. get_or body 6 0 ∷ drop_more body 7 0 (omega (arith, size)) i) in
    ap (from_be_bytes w16) (ap (take 2) (sym two))

pub decode_otherwise : (f : Format) (body : List ℕ) → starts_with nat_eq body (start f) ≡ false → None ≡ decode_by f body
unfolding decode_by
decode_otherwise f body e = sym (cond-false _ _ None (and_left _ _ e))

module _ (f : Format) (body rest : List ℕ) (n m r mark : ℕ) (en : n ≡ config_len body) (em : m ≡ slice_index body 8) (er : r ≡ slice_index body 9)
    (ek : mark ≡ mark_in f body) (is : rest ≡ drop (head_len f) body) where
  valid_same : (b : Bool) → is_valid f (slice_index body 5) n m r mark rest ≡ b
      → is_valid f (slice_index body 5) (config_len body) (slice_index body 8) (slice_index body 9) (mark_in f body) (drop (head_len f) body) ≡ b
  valid_same b e = (λ i. is_valid f (slice_index body 5) (sym en i) (sym em i) (sym er i) (sym ek i) (sym is i)) ∙ e

  pub decode_invalid : is_valid f (slice_index body 5) n m r mark rest ≡ false → None ≡ decode_by f body
  unfolding decode_by
  decode_invalid e = sym (cond-false _ _ None (and_right _ _ (valid_same false e)))

  pub decode_valid : (x : Settings) → starts_with nat_eq body (start f) ≡ true → is_valid f (slice_index body 5) n m r mark rest ≡ true
      → x ≡ fields_of n m r mark rest → Some (record { format = f.number; turn = slice_index body 5; lists = x }) ≡ decode_by f body
  unfolding decode_by
  decode_valid x s e ex =
      ap (λ (y : Settings). let w : Written = record { format = f.number; turn = slice_index body 5; lists = y } in Some w)
      (ex ∙ (λ i. fields_of (en i) (em i) (er i) (ek i) (is i)))
      ∙ sym (cond-true _ _ None (and_from _ _ s (valid_same true e)))

-- a body that spells lists is their spelling

fields_whole : (n m r mark : ℕ) (rest : List ℕ) → n + 6 * m + 6 * r ≤ length rest → list_all (λ b. b == 0) (drop (n + 6 * m + 6 * r) rest) ≡ true
    → rest ≡ (fields_of n m r mark rest).config ++ flat_map (λ a. a.0) (fields_of n m r mark rest).masks ++ flat_map (λ a. a.0)
    (fields_of n m r mark rest).reserves
    ++ replicate (length rest - (n + 6 * m + 6 * r)) 0
unfolding fields_of
fields_whole n m r mark rest fits zeros =
    let tail = rw (length-drop (n + 6 * m + 6 * r) rest) at (only_zeros (drop (n + 6 * m + 6 * r) rest) zeros) in
    whole n m r rest ∙ rw (joined_pieces m (drop n rest), joined_pieces r (drop (n + 6 * m) rest), tail) refl

-- the numbers of a body that is valid
record AreSizes (f : Format) (n m r mark : ℕ) : Type 0 where
  total : n + 6 * m + 6 * r + head_len f ≤ 3584
  small : nat_le mark 1 ≡ true

sizes_are : (f : Format) (turn n m r mark : ℕ) → IsFormat f → sizes_fit f turn n m r mark ≡ true → AreSizes f n m r mark
sizes_are f turn n m r mark is fit =
    let parts = and_parts (nat_lt turn 3) _ fit in
    let sizes = and_parts (nat_le n max_config) _ parts.1 in
    let masks = and_parts (nat_le m f.most) _ sizes.1 in
    let reserves = and_parts (nat_le r f.most) (nat_le mark 1) masks.1 in
    record { total = omega (arith, leb-true _ _ sizes.0, leb-true _ _ masks.0, leb-true _ _ reserves.0, is.room); small = reserves.1 }

assembled : (f : Format) (body : List ℕ) (turn high low m r : ℕ) (rest : List ℕ) (s : Settings) (k : ℕ) → length body ≡ 3584
    → body ≡ start f ++ (turn ∷ high ∷ low ∷ m ∷ r ∷ (mark_bytes f s.read_only ++ rest)) → to_be_bytes w16 (length s.config) ≡ high ∷ low ∷ []
    → length s.masks ≡ m → length s.reserves ≡ r
    → rest ≡ s.config ++ flat_map (λ a. a.0) s.masks ++ flat_map (λ a. a.0) s.reserves ++ replicate k 0 → body ≡ spelling f turn s
unfolding spelling
assembled f body turn high low m r rest s k size is eb em er fields =
    let all : body ≡ written f turn s ++ replicate k 0 = at f.has_mark f.number f.most is in
    let pad : k ≡ 3584 - length (written f turn s) =
    omega (arith, ap length all, size, length-append (written f turn s) (replicate k 0), length-replicate {A = ℕ} k 0) in
    rw pad at all
  where
    at : (b : Bool) (number most : ℕ) → (let g : Format = record { number = number; most = most; has_mark = b } in
        body ≡ start g ++ (turn ∷ high ∷ low ∷ m ∷ r ∷ (mark_bytes g s.read_only ++ rest)) → body ≡ written g turn s ++ replicate k 0)
    at true number most e = e ∙ (λ i. (65 ∷ 111 ∷ 69 ∷ 75 ∷ number ∷ turn ∷ (sym eb i ++ (sym em i ∷ sym er i ∷ cond s.read_only 1 0 ∷ fields i))))
    at false number most e = e ∙ (λ i. (65 ∷ 111 ∷ 69 ∷ 75 ∷ number ∷ turn ∷ (sym eb i ++ (sym em i ∷ sym er i ∷ fields i))))

two_bytes : (high low : ℕ) → high < 256 → low < 256 → (i : ℕ) → get_or (high ∷ low ∷ []) i 0 < 256
two_bytes high low lh ll i = grind arith

numbers : (body : List ℕ) → length body ≡ 3584
    → drop 5 body ≡ get_or body 5 0 ∷ get_or body 6 0 ∷ get_or body 7 0 ∷ get_or body 8 0 ∷ get_or body 9 0 ∷ drop 10 body
numbers body size =
    let at : (k : ℕ) → k < 10 → drop k body ≡ get_or body k 0 ∷ drop (k + 1) body = λ k l. drop_more body k 0 (omega (arith, size, l)) in
    rw (at 5 (omega arith), at 6 (omega arith), at 7 (omega arith), at 8 (omega arith), at 9 (omega arith)) refl

one_or_zero : (x : ℕ) → nat_le x 1 ≡ true → x ≡ cond (x == 1) 1 0
one_or_zero zero e = refl
one_or_zero (suc zero) e = refl
one_or_zero (suc (suc x)) e = absurd (omega (arith, leb-true (suc (suc x)) 1 e))

marks : (f : Format) (body : List ℕ) → length body ≡ 3584 → nat_le (mark_in f body) 1 ≡ true
    → drop 10 body ≡ mark_bytes f (mark_in f body == 1) ++ drop (head_len f) body
marks f body size small = at f.has_mark f.number f.most small
  where
    at : (b : Bool) (number most : ℕ) → (let g : Format = record { number = number; most = most; has_mark = b } in nat_le (mark_in g body) 1 ≡ true
        → drop 10 body ≡ mark_bytes g (mark_in g body == 1) ++ drop (head_len g) body)
    at true number most e = drop_more body 10 0 (omega (arith, size)) ∙ (λ i. one_or_zero (get_or body 10 0) e i ∷ drop 11 body)
    at false number most e = refl

spelling_of : (f : Format) (body : List ℕ) (n m r mark : ℕ) → IsFormat f → length body ≡ 3584 → All (λ b. b < 256) body → n ≡ config_len body
    → m ≡ get_or body 8 0 → r ≡ get_or body 9 0 → mark ≡ mark_in f body → starts_with nat_eq body (start f) ≡ true
    → is_valid f (get_or body 5 0) n m r mark (drop (head_len f) body) ≡ true
    → body ≡ spelling f (get_or body 5 0) (fields_of n m r mark (drop (head_len f) body))
unfolding is_valid fields_of
spelling_of f body n m r mark is size bytes en em er ek starts valid =
    let rest = drop (head_len f) body in
    let s = fields_of n m r mark rest in
    let parts = and_parts (sizes_fit f (get_or body 5 0) n m r mark) (is_sound s (drop (n + 6 * m + 6 * r) rest)) valid in
    let sizes = sizes_are f (get_or body 5 0) n m r mark is parts.0 in
    let zeros = (and_parts (all_unique s.reserves) _ (and_parts (all_unique s.masks) _ parts.1).1).1 in
    let long : length rest ≡ 3584 - head_len f = omega (arith, size, length-drop (head_len f) body) in
    let fits : n + 6 * m + 6 * r ≤ length rest = omega (arith, long, sizes.total) in
    let high : get_or body 6 0 < 256 = bytes 6 0 (omega (arith, size)) in
    let low : get_or body 7 0 < 256 = bytes 7 0 (omega (arith, size)) in
    let config : length s.config ≡ n = length-take-le n rest (omega (arith, fits)) in
    let written_len : to_be_bytes w16 (length s.config) ≡ get_or body 6 0 ∷ get_or body 7 0 ∷ [] =
    be_bytes_2 (get_or body 6 0 ∷ get_or body 7 0 ∷ []) (length s.config) refl (two_bytes _ _ high low) (config ∙ en ∙ sym (config_read body size)) in
    let begins : body ≡ start f ++ drop 5 body = (starts_is {E = nat_eq} Decides-eqb body (start f) true (sym starts)).0 refl in
    let marked : drop 10 body ≡ mark_bytes f (mark == 1) ++ rest = rw (← ek) at (marks f body size (rw ek at sizes.small)) in
    assembled f body (get_or body 5 0) (get_or body 6 0) (get_or body 7 0) (get_or body 8 0) (get_or body 9 0) rest s (length rest - (n + 6 * m + 6 * r)) size
    (begins ∙ (λ i. start f ++ numbers body size i)
    ∙ (λ i. start f ++ (get_or body 5 0 ∷ get_or body 6 0 ∷ get_or body 7 0 ∷ get_or body 8 0 ∷ get_or body 9 0 ∷ marked i)))
    written_len (length-pieces m (drop n rest) ∙ em) (length-pieces r (drop (n + 6 * m) rest) ∙ er) (fields_whole n m r mark rest fits zeros)

pub one_spelling : (f : Format) (body : List ℕ) (b : Written) → IsFormat f → length body ≡ 3584 → All (λ b. b < 256) body → decode_by f body ≡ Some b
    → body ≡ spelling f b.turn b.lists
unfolding decode_by
one_spelling f body b is size bytes e =
    let n = config_len body in
    let m = slice_index body 8 in
    let r = slice_index body 9 in
    let mark = mark_in f body in
    let rest = drop (head_len f) body in
    let valid = is_valid f (slice_index body 5) n m r mark rest in
    let w = cond_some (starts_with nat_eq body (start f) && valid)
    (record { format = f.number; turn = slice_index body 5; lists = fields_of n m r mark rest }) b e in
    let both = and_parts (starts_with nat_eq body (start f)) valid w.0 in
    spelling_of f body n m r mark is size bytes refl refl refl refl both.0 both.1 ∙ ap (λ (x : Written). spelling f x.turn x.lists) w.1

-- why a body spells no lists

all_true : {X : Type 0} (a b c d e : Bool) (x : X) → cond (a && (b && (c && (d && e)))) (Some x) None ≡ None
    → (a ≡ false) ⊎ ((b ≡ false) ⊎ ((c ≡ false) ⊎ ((d ≡ false) ⊎ (e ≡ false))))
all_true a b c d e x is = grind arith

one_false : {X : Type 0} (a b c d e : Bool) (x : X) → (a ≡ false) ⊎ ((b ≡ false) ⊎ ((c ≡ false) ⊎ ((d ≡ false) ⊎ (e ≡ false))))
    → cond (a && (b && (c && (d && e)))) (Some x) None ≡ None
one_false a b c d e x is = grind arith

pub faults : (f : Format) (body : List ℕ) → (decode_by f body ≡ None) ↔ HasFault f body
unfolding decode_by is_valid
faults f body =
    let n = config_len body in
    let m = slice_index body 8 in
    let r = slice_index body 9 in
    let mark = mark_in f body in
    let rest = drop (head_len f) body in
    let s = fields_of n m r mark rest in
    let fit = sizes_fit f (slice_index body 5) n m r mark in
    let end = drop (n + 6 * m + 6 * r) rest in
    let spelt : Written = record { format = f.number; turn = slice_index body 5; lists = s } in (
      all_true (starts_with nat_eq body (start f)) fit (all_unique s.masks) (all_unique s.reserves) (list_all (λ b. b == 0) end) spelt,
      one_false (starts_with nat_eq body (start f)) fit (all_unique s.masks) (all_unique s.reserves) (list_all (λ b. b == 0) end) spelt,
    )
