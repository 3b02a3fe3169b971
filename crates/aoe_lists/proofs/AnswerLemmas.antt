-- What is changed is made other.
use Rattle.std.proofs.Common.{◌≡◌, ◌≢◌, ◌||◌, ◌==◌, cond, ℕ, nat_eq, Bool, true, false, List, length, Result, Ok, Err, sym, subst}
use Rattle.std.specs.List.{starts_with}
use Rattle.std.specs.Str.{bytes_eq}
use Rattle.aoe_base.specs.declared.address.Mac.{Mac}
use Rattle.aoe_lists.specs.declared.config.ConfigCommand.{ConfigCommand}
use Rattle.aoe_lists.specs.declared.config.ConfigCommand.TheVariants.{Read, Test, TestPrefix, Set, ForceSet}
use Rattle.aoe_lists.specs.declared.config.Facts.{Facts}
use Rattle.aoe_lists.specs.declared.masks.Directive.{Directive}
use Rattle.aoe_lists.specs.declared.masks.MaskCommand.{MaskCommand}
use Rattle.aoe_lists.specs.declared.masks.MaskCommand.TheVariants.{Read as ReadMasks, Edit}
use Rattle.aoe_lists.specs.declared.masks.MaskError.{MaskError}
use Rattle.aoe_lists.specs.declared.reserves.ReserveCommand.{ReserveCommand}
use Rattle.aoe_lists.specs.declared.reserves.ReserveCommand.TheVariants.{Read as ReadReserves, Set as SetReserves, ForceSet as ForceReserves}
use Rattle.aoe_lists.specs.declared.answer.Answer.{Answer}
use Rattle.aoe_lists.specs.declared.answer.Answer.TheVariants as answer
use Rattle.aoe_lists.specs.Addresses.{first_places}
use Rattle.aoe_lists.specs.Config.{config_args, config_result}
use Rattle.aoe_lists.specs.Masks.{after_directives, mask_args, mask_result, mask_edit}
use Rattle.aoe_lists.specs.Reserves.{reserve_args, reserve_result}
use Rattle.aoe_lists.specs.Settings.{Settings, may_use}
use Rattle.aoe_lists.specs.Step.{Step, IfChange, step_with}
use Rattle.aoe_lists.proofs.ChangeLemmas.{IfChange-success_of}

-- a step that changes settings makes them others
abbrev pub ChangesOnly : Settings → Step → Type 0
ChangesOnly s step = IfChange step (λ next. next ≢ s)

-- what is made at a change is other settings, where the whole answer is a step that changes them so
pub made_other : (s made : Settings) (a : Answer) (args : List ℕ) (step : Step) → step_with a args made ≡ step → ChangesOnly s step → a ≡ answer.Change
    → made ≢ s
made_other s made a args step e changes is =
    let P : Answer → Type 0 = λ b. ChangesOnly s (step_with b args made) in
    subst P is (subst (ChangesOnly s) (sym e) changes)

either : (s : Settings) (t : Bool) (a b : Step) → ChangesOnly s a → ChangesOnly s b → ChangesOnly s (cond t a b)
either s true a b x y = x
either s false a b x y = y

pub ChangesOnly-config_result : (s : Settings) (facts : Facts) (command : ConfigCommand) (string : List ℕ)
    → ChangesOnly s (config_result s facts command string)
ChangesOnly-config_result s facts Read string = tt
ChangesOnly-config_result s facts Test string = either s (bytes_eq s.config string) _ _ tt tt
ChangesOnly-config_result s facts TestPrefix string = either s (starts_with nat_eq s.config string) _ _ tt tt
ChangesOnly-config_result s facts Set string = either s (length s.config == 0 || bytes_eq s.config string) _ _
    (IfChange-success_of s (record s { config = string }) (config_args facts Set string)) tt
ChangesOnly-config_result s facts ForceSet string = IfChange-success_of s (record s { config = string }) (config_args facts ForceSet string)

outcome : (s : Settings) (r : Result (List Mac) MaskError) → ChangesOnly s (mask_edit s r)
outcome s (Ok masks) = IfChange-success_of s (record s { masks = masks }) (mask_args Edit masks)
outcome s (Err e) = tt

pub ChangesOnly-mask_result : (s : Settings) (command : MaskCommand) (directives : List Directive) → ChangesOnly s (mask_result s command directives)
ChangesOnly-mask_result s ReadMasks directives = tt
ChangesOnly-mask_result s Edit directives = outcome s (after_directives s.masks directives)

pub ChangesOnly-reserve_result : (s : Settings) (source : Mac) (command : ReserveCommand) (given : List Mac)
    → ChangesOnly s (reserve_result s source command given)
ChangesOnly-reserve_result s source ReadReserves given = tt
ChangesOnly-reserve_result s source SetReserves given =
    either s (may_use s source) _ _ (IfChange-success_of s (record s { reserves = first_places given }) (reserve_args SetReserves (first_places given))) tt
ChangesOnly-reserve_result s source ForceReserves given = IfChange-success_of s (record s { reserves = first_places given })
    (reserve_args ForceReserves (first_places given))
