-- Lines, one after another.
use Rattle.std.proofs.Common.{ℕ, ◌≡◌, true, List, [], ◌∷◌, ◌++◌, refl, subst}
use Rattle.aoe_history.specs.declared.entry.Entry.{Entry}
use Rattle.aoe_history.specs.Setup.{Setup}
use Rattle.aoe_script.specs.declared.event.Event.{Event}
use Rattle.aoe_script.specs.declared.event.Event.TheVariants.{Read, Write, Flush, Tick, Deliver}
use Rattle.aoe_script.specs.declared.setup.Setup.{Setup as Line}
use Rattle.aoe_world.specs.Replay.{Plays}
use Rattle.aoe_world.specs.Schedule.{Comes}
use Rattle.aoe_sim_setup.specs.Layout.{setup_of}
use Rattle.aoe_live.specs.Stations.{stations}
use Rattle.aoe_live.specs.Lines.{is_recorded, LineComes, LinesCome}
use Rattle.aoe_live.proofs.GrownLemmas.{asked, handed, tail-behind, aside-tail, ticked}

-- a recorded line leaves the cursor
pub cursor-stays : (s : Setup) (lines : List Line) (e : Event) (cursor behind : ℕ) (h m : List Entry) → is_recorded e ≡ true → Comes s lines e cursor h behind m
    → behind ≡ cursor
cursor-stays s lines (Read host dev at count) cursor behind h m t comes = comes.0
cursor-stays s lines (Write host dev at count fill) cursor behind h m t comes = comes.0
cursor-stays s lines (Flush host dev) cursor behind h m t comes = comes.0
cursor-stays s lines (Tick ms) cursor behind h m t comes = comes.0
cursor-stays s lines (Deliver frame name) cursor behind h m t comes = comes.0
cursor-stays s lines _ cursor behind h m t comes = absurd cc

-- what came before it stays
pub line-tail : (sectors : ℕ) (e : Event) (h m : List Entry) → is_recorded e ≡ true → LineComes sectors e h m → (new : List Entry) × (m ≡ new ++ h)
line-tail sectors (Read host dev at count) h m t comes = let a = asked _ host dev _ h m comes.1 in tail-behind a.entry h m a.aside
line-tail sectors (Write host dev at count fill) h m t comes = let a = asked _ host dev _ h m comes.1 in tail-behind a.entry h m a.aside
line-tail sectors (Flush host dev) h m t comes = let a = asked _ host dev _ h m comes.1 in tail-behind a.entry h m a.aside
line-tail sectors (Tick ms) h m t comes = tail-behind _ h m (ticked _ ms h m comes.1)
line-tail sectors (Deliver frame name) h m t comes = aside-tail h m (handed _ frame _ h m comes.1)
line-tail sectors _ h m t comes = absurd cc

-- lines behind lines
plays-then : (s : Setup) (lines : List Line) (xs ys : List Event) (a b c : ℕ) (h m n : List Entry) → Plays s lines xs a h b m → Plays s lines ys b m c n
    → Plays s lines (xs ++ ys) a h c n
plays-then s lines [] ys a b c h m n x y =
    let P : ℕ → Type 0 = λ k. Plays s lines ys k m c n in
    let Q : List Entry → Type 0 = λ l. Plays s lines ys a l c n in
    subst Q x.1 (subst P x.0 y)
plays-then s lines (e ∷ xs) ys a b c h m n x y = (x.0, x.1, x.2, plays-then s lines xs ys x.0 b c x.1 m n x.3 y)

pub come-then : (sectors : ℕ) (xs ys : List Event) (h m n : List Entry) → LinesCome sectors xs h m → LinesCome sectors ys m n → LinesCome sectors (xs ++ ys) h n
come-then sectors xs ys h m n x y = plays-then (setup_of (stations sectors)) (stations sectors) xs ys 1 1 1 h m n x y

pub come-none : (sectors : ℕ) (h : List Entry) → LinesCome sectors [] h h
come-none sectors h = (refl, refl)

pub come-one : (sectors : ℕ) (e : Event) (h m : List Entry) → LineComes sectors e h m → LinesCome sectors (e ∷ []) h m
come-one sectors e h m comes = (1, m, comes, (refl, refl))

pub come-more : (sectors : ℕ) (xs : List Event) (e : Event) (h m n : List Entry) → LinesCome sectors xs h m → LineComes sectors e m n
    → LinesCome sectors (xs ++ e ∷ []) h n
come-more sectors xs e h m n x y = come-then sectors xs (e ∷ []) h m n x (come-one sectors e m n y)
