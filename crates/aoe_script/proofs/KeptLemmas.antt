-- Setup lines and event lines behind them: the script that they say.
use Rattle.std.proofs.Common.{◌≡◌, ◌∙◌, List, [], ◌∷◌, ◌++◌, map, refl, ap}
use Rattle.std.specs.List.{filter_map}
use Rattle.std.proofs.lemmas.List.{append-nil}
use Rattle.std.proofs.lemmas.List.Elements.{filter_map-append}
use Rattle.aoe_script.specs.declared.event.Event.{Event}
use Rattle.aoe_script.specs.declared.line.Line.TheVariants.{Asks, Declares}
use Rattle.aoe_script.specs.declared.setup.Setup.{Setup}
use Rattle.aoe_script.specs.Lines.{ScriptLines, asked, declared, lines_of}

setups_kept : (setups : List Setup) → filter_map declared (map Declares setups) ≡ setups
setups_kept [] = refl
setups_kept (setup ∷ setups) = ap (λ t. setup ∷ t) (setups_kept setups)

no_events : (setups : List Setup) → filter_map asked (map Declares setups) ≡ []
no_events [] = refl
no_events (setup ∷ setups) = no_events setups

events_kept : (events : List Event) → filter_map asked (map Asks events) ≡ events
events_kept [] = refl
events_kept (event ∷ events) = ap (λ t. event ∷ t) (events_kept events)

no_setups : (events : List Event) → filter_map declared (map Asks events) ≡ []
no_setups [] = refl
no_setups (event ∷ events) = no_setups events

pub both : (a b : List Setup) (x y : List Event) → a ≡ b → x ≡ y → (let l : ScriptLines = record { setups = a; events = x } in l)
    ≡ record { setups = b; events = y }
both a b x y e f = cc

pub lines_kept : (setups : List Setup) (events : List Event) → lines_of (map Declares setups ++ map Asks events) ≡ record { setups = setups; events = events }
lines_kept setups events =
    both _ _ _ _
    (filter_map-append declared (map Declares setups) (map Asks events) ∙ ap (λ t. filter_map declared (map Declares setups) ++ t) (no_setups events)
    ∙ append-nil _ ∙ setups_kept setups)
    (filter_map-append asked (map Declares setups) (map Asks events) ∙ ap (λ t. t ++ filter_map asked (map Asks events)) (no_events setups)
    ∙ events_kept events)

pub setups_alone : (setups : List Setup) → lines_of (map Declares setups) ≡ record { setups = setups; events = [] }
setups_alone setups = both _ _ _ _ (setups_kept setups) (no_events setups)
