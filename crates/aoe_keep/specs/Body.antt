-- How lists are spelled in a body, which has seven sectors:
-- `AoEK`, the format, the turn, the length of the config string (two bytes, the high one first), the numbers of masks
-- and of reserves, in format 2 the read-only mark, then the config string, the masks and the reserves, and zeros to the end.
use Rattle.std.specs.Prelude.{ℕ, ◌≡◌, ◌≤◌, ◌<◌, ◌+◌, ◌-◌, ◌*◌, ◌==◌, Bool, true, false, ◌&&◌, ◌⊎◌, nat_lt, nat_le, nat_eq, List, [], ◌∷◌, ◌++◌, length, take, drop, replicate, Option, Some, None, if◌then◌else◌, slice_index, slice_range}
use Rattle.std.specs.Int.{w16, to_be_bytes, from_be_bytes}
use Rattle.std.specs.List.{All, flat_map, list_all, starts_with}
use Rattle.std.specs.Option.{option_and_then}
use Rattle.std.specs.Simd.{first_chunks}
use Rattle.aoe_base.specs.Addresses.{all_unique}
use Rattle.aoe_lists.specs.Reserves.{addresses}
use Rattle.aoe_lists.specs.Settings.{Settings, max_addresses, max_config}
use Rattle.aoe_keep.specs.declared.body.Format.{Format}
use Rattle.aoe_keep.specs.declared.body.Written.{Written}

-- the first format: a list has at most 64 addresses, and there is no mark
abbrev pub format_1 : Format
format_1 = record { number = 1; most = 64; has_mark = false }

-- the second, which is the one that is written
abbrev pub format_2 : Format
format_2 = record { number = 2; most = max_addresses; has_mark = true }

-- the format of a number
abbrev pub format_named : ℕ → Option Format
format_named number =
    if number == 1 then Some format_1
    else if number == 2 then Some format_2
    else None

-- how many bytes stand before the config string
abbrev pub head_len : Format → ℕ
head_len f = if f.has_mark then 11 else 10

-- a format whose number is a byte, and whose longest lists have room in a body
pub record IsFormat (f : Format) : Type 0 where
  pub byte : f.number < 256
  pub room : head_len f + 1024 + 12 * f.most ≤ 3584

-- `AoEK`
abbrev pub name : List ℕ
name = 65 ∷ 111 ∷ 69 ∷ 75 ∷ []

-- what a body begins with: the name, and the format's number
abbrev pub start : Format → List ℕ
start f = name ++ f.number ∷ []

-- the mark of a body: 1 is read-only. A format without one has it clear
abbrev pub mark_in : Format → List ℕ → ℕ
mark_in f body = if f.has_mark then slice_index body 10 else 0

-- the numbers before the fields have values of the format
abbrev pub sizes_fit : Format → ℕ → ℕ → ℕ → ℕ → ℕ → Bool
sizes_fit f turn n m r mark = nat_lt turn 3 && (nat_le n max_config && (nat_le m f.most && (nat_le r f.most && nat_le mark 1)))

-- the lists that stand in the bytes after those numbers: n bytes of config string, m masks and r reserves
unfoldable pub fields_of : ℕ → ℕ → ℕ → ℕ → List ℕ → Settings
fields_of n m r mark rest = record {
  config = take n rest;
  masks = addresses (first_chunks 6 m (drop n rest));
  reserves = addresses (first_chunks 6 r (drop (n + 6 * m) rest));
  read_only = mark == 1;
}

-- no address stands twice in a list, and all bytes after the fields are zero
abbrev pub is_sound : Settings → List ℕ → Bool
is_sound s end = all_unique s.masks && (all_unique s.reserves && list_all (λ b. b == 0) end)

unfoldable pub is_valid : Format → ℕ → ℕ → ℕ → ℕ → ℕ → List ℕ → Bool
is_valid f turn n m r mark rest = sizes_fit f turn n m r mark && is_sound (fields_of n m r mark rest) (drop (n + 6 * m + 6 * r) rest)

-- the length of the config string
abbrev pub config_len : List ℕ → ℕ
config_len body = from_be_bytes w16 (slice_range body 6 8)

-- what a body spells by a format. It spells nothing where a field is outside its values, an address stands twice in a list, or a
-- byte after the fields isn't zero
unfoldable pub decode_by : Format → List ℕ → Option Written
decode_by f body =
    if starts_with nat_eq body (start f)
    && is_valid f (slice_index body 5) (config_len body) (slice_index body 8) (slice_index body 9) (mark_in f body) (drop (head_len f) body)
    then Some (record {
      format = f.number;
      turn = slice_index body 5;
      lists = fields_of (config_len body) (slice_index body 8) (slice_index body 9) (mark_in f body) (drop (head_len f) body);
    })
    else None

-- what a body spells, by the format that it names
abbrev pub decode : List ℕ → Option Written
decode body = option_and_then (λ f. decode_by f body) (format_named (slice_index body 4))

-- the mark's byte, where the format has one
abbrev pub mark_bytes : Format → Bool → List ℕ
mark_bytes f read_only = if f.has_mark then (if read_only then 1 else 0) ∷ [] else []

-- the bytes before the fields
abbrev pub head_of : Format → ℕ → Settings → List ℕ
head_of f turn s =
    start f ++ turn ∷ to_be_bytes w16 (length s.config) ++ length s.masks ∷ length s.reserves ∷ mark_bytes f s.read_only

-- the bytes before the zeros
abbrev pub written : Format → ℕ → Settings → List ℕ
written f turn s = head_of f turn s ++ s.config ++ flat_map (λ a. a.0) s.masks ++ flat_map (λ a. a.0) s.reserves

-- the one body that spells these lists with a turn
unfoldable pub spelling : Format → ℕ → Settings → List ℕ
spelling f turn s = written f turn s ++ replicate (3584 - length (written f turn s)) 0

-- lists that a format has a body for
pub record Fits (f : Format) (turn : ℕ) (s : Settings) : Type 0 where
  pub known_turn : turn < 3
  pub config : length s.config ≤ max_config
  pub masks : length s.masks ≤ f.most
  pub reserves : length s.reserves ≤ f.most
  pub six_masks : All (λ a. length a.0 ≡ 6) s.masks
  pub six_reserves : All (λ a. length a.0 ≡ 6) s.reserves
  pub unique_masks : all_unique s.masks ≡ true
  pub unique_reserves : all_unique s.reserves ≡ true
  pub mark : s.read_only ≡ true → f.has_mark ≡ true

-- why a body spells no lists by a format: it begins otherwise, or a number before the fields is beyond the format's values, or an address
-- stands twice among the masks or among the reserves, or a byte after the fields isn't zero
abbrev pub HasFault : Format → List ℕ → Type 0
HasFault f body =
    let n = config_len body in
    let m = slice_index body 8 in
    let r = slice_index body 9 in
    let mark = mark_in f body in
    let rest = drop (head_len f) body in
    let s = fields_of n m r mark rest in
    (starts_with nat_eq body (start f) ≡ false) ⊎ ((sizes_fit f (slice_index body 5) n m r mark ≡ false)
    ⊎ ((all_unique s.masks ≡ false) ⊎ ((all_unique s.reserves ≡ false) ⊎ (list_all (λ b. b == 0) (drop (n + 6 * m + 6 * r) rest) ≡ false))))
