-- Mask lists (AoEr11, "MAC Mask List"). The bytes are those of the frame from byte 24 on.
use Rattle.std.specs.Prelude.{ℕ, ◌*◌, ◌==◌, nat_le, List, [], ◌∷◌, ◌++◌, length, map, drop, Option, Some, None, Result, Ok, Err, if◌then◌else◌, slice_index}
use Rattle.std.specs.List.{flat_map}
use Rattle.std.specs.Option.{option_and_then, option_map_or}
use Rattle.std.specs.Simd.{first_chunks}
use Rattle.aoe_base.specs.declared.address.Mac.{Mac}
use Rattle.aoe_base.specs.declared.refusal.AoeError.TheVariants.{BadArgument}
use Rattle.aoe_base.specs.Addresses.{holds}
use Rattle.aoe_lists.specs.declared.masks.MaskCommand.{MaskCommand}
use Rattle.aoe_lists.specs.declared.masks.MaskCommand.TheVariants.{Read, Edit}
use Rattle.aoe_lists.specs.declared.masks.MaskError.{MaskError}
use Rattle.aoe_lists.specs.declared.masks.MaskError.TheVariants.{Unspecified, BadDirective, ListFull}
use Rattle.aoe_lists.specs.declared.masks.Directive.{Directive}
use Rattle.aoe_lists.specs.declared.masks.Directive.TheVariants.{Nothing, Add, Delete, Unknown}
use Rattle.aoe_lists.specs.Addresses.{without}
use Rattle.aoe_lists.specs.Settings.{Settings, max_addresses}
use Rattle.aoe_lists.specs.Step.{Step, reply_of, refusal_of, success_of}

-- the values of MCmd
abbrev pub mask_code : MaskCommand → ℕ
mask_code Read = 0
mask_code Edit = 1

abbrev pub mask_command_of : ℕ → Option MaskCommand
mask_command_of code =
    if code == 0 then Some Read
    else if code == 1 then Some Edit
    else None

-- the values of MError
abbrev pub mask_error_code : MaskError → ℕ
mask_error_code Unspecified = 1
mask_error_code BadDirective = 2
mask_error_code ListFull = 3

-- a directive of eight bytes: one reserved, DCmd, and the address
abbrev pub directive_of : List ℕ → Directive
directive_of bytes =
    if slice_index bytes 1 == 0 then Nothing
    else if slice_index bytes 1 == 1 then Add (record { 0 = drop 2 bytes })
    else if slice_index bytes 1 == 2 then Delete (record { 0 = drop 2 bytes })
    else Unknown

-- what one directive makes of a list, which has at most so many addresses
abbrev pub after_directive : List Mac → Directive → Result (List Mac) MaskError
after_directive masks Nothing = Ok masks
after_directive masks (Add a) =
    if holds masks a then Ok masks
    else if length masks == max_addresses then Err ListFull
    else Ok (masks ++ a ∷ [])
after_directive masks (Delete a) = Ok (without masks a)
after_directive masks Unknown = Err BadDirective

-- what is made of a result, unless it is an error
abbrev pub and_then : {A E : Type 0} → Result A E → (A → Result A E) → Result A E
and_then (Ok a) f = f a
and_then (Err e) f = Err e

-- what directives make of a list, one after another, up to the first that can't be applied
abbrev pub after_directives : List Mac → List Directive → Result (List Mac) MaskError
after_directives masks [] = Ok masks
after_directives masks (d ∷ directives) = and_then (after_directive masks d) (λ changed. after_directives changed directives)

-- a reply's arguments: the list, as directives that do nothing
abbrev pub mask_args : MaskCommand → List Mac → List ℕ
mask_args command masks = (0 ∷ mask_code command ∷ 0 ∷ length masks ∷ []) ++ flat_map (λ a. 0 ∷ 0 ∷ a.0) masks

-- the arguments of a refused edit
abbrev pub mask_failure : MaskError → List ℕ
mask_failure error = 0 ∷ 1 ∷ mask_error_code error ∷ 0 ∷ []

-- an edit is done whole or not at all
abbrev pub mask_edit : Settings → Result (List Mac) MaskError → Step
mask_edit s (Ok masks) = success_of s (record s { masks = masks }) (mask_args Edit masks)
mask_edit s (Err error) = reply_of (mask_failure error)

-- the directives of an edit, as many as it says; a read has none
abbrev pub mask_directives : MaskCommand → ℕ → List ℕ → Option (MaskCommand × List Directive)
mask_directives Read count rest = Some (Read, [])
mask_directives Edit count rest =
    if nat_le (8 * count) (length rest) then Some (Edit, map directive_of (first_chunks 8 count rest)) else None

-- the command and the directives of a request, or nothing where a field is missing or has a value that isn't taken
abbrev pub mask_request : List ℕ → Option (MaskCommand × List Directive)
mask_request bytes =
    if nat_le 4 (length bytes)
    then option_and_then (λ command. mask_directives command (slice_index bytes 3) (drop 4 bytes)) (mask_command_of (slice_index bytes 1))
    else None

-- what each command comes to
abbrev pub mask_result : Settings → MaskCommand → List Directive → Step
mask_result s Read directives = reply_of (mask_args Read s.masks)
mask_result s Edit directives = mask_edit s (after_directives s.masks directives)

-- the written answer to a mask list request
unfoldable pub mask_answer : Settings → List ℕ → Step
mask_answer s bytes =
    option_map_or (λ request. mask_result s request.0 request.1) (mask_request bytes) (refusal_of BadArgument [])
