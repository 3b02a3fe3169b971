-- What the groups of acts keep of a history: its frames, and while no time goes by which of them can be handed over.
use Rattle.std.proofs.Common.{ℕ, suc, ◌≡◌, ◌≤◌, Bool, true, List, [], ◌∷◌, length, Option, Some, arith}
use Rattle.std.specs.Option.{option_and_then}
use Rattle.std.proofs.lemmas.Bool.{ne_eqb}
use Rattle.aoe_base.specs.declared.counted.Lifetimes.{Lifetimes}
use Rattle.aoe_net.specs.Network.{fresh_bytes, numbered, SentFrame}
use Rattle.aoe_history.specs.declared.entry.Entry.{Entry}
use Rattle.aoe_history.specs.declared.entry.Entry.TheVariants.{Sent, Injected, Arrived, Ticked}
use Rattle.aoe_history.specs.declared.entry.Fate.TheVariants.{Replied}
use Rattle.aoe_history.specs.Frames.{arriving, clock, frames, network}
use Rattle.aoe_history.specs.Groups.{Act, Enters, Follows, Got, Group, Station}
use Rattle.aoe_history.specs.Groups.Act.{Hand, Submit, Tick}
use Rattle.aoe_history.specs.Setup.{Setup}
use Rattle.aoe_world.proofs.AddsLemmas.{adds-keep, Adds}
use Rattle.aoe_world.proofs.GroupLemmas.{enters-adds, group-adds, is_aside, turns-add}
use Rattle.aoe_history.proofs.FrameLemmas.{number-within}
use Rattle.aoe_history.proofs.LogicLemmas.{some-then}

-- FRAMES

pub frames-grow : (e : Entry) (h : List Entry) → length (frames h) ≤ length (frames (e ∷ h))
frames-grow (Arrived dev frame (Replied effect number bytes)) h = omega arith
frames-grow _ h = omega arith

adds-grow : {p : Entry → Bool} {h m : List Entry} → Adds p h m → length (frames h) ≤ length (frames m)
adds-grow {p} {h} a = adds-keep p (λ n. length (frames h) ≤ length (frames n)) (λ e n t le. omega (arith, le, frames-grow e n)) h _ a (omega arith)

numbered-more : (f : SentFrame) (fs : List SentFrame) (number : ℕ) → number ≤ length fs → numbered (f ∷ fs) number ≡ numbered fs number
numbered-more f fs number le = rw (ne_eqb number (suc (length fs)) (λ is. omega (arith, is, le)))

-- one more frame: the others can be handed over as before
fresh-more : (g : SentFrame → Option (List ℕ)) (x : SentFrame) (fs : List SentFrame) (number : ℕ) (f : List ℕ)
    → option_and_then g (numbered fs number) ≡ Some f → option_and_then g (numbered (x ∷ fs) number) ≡ Some f
fresh-more g x fs number f e = let y = some-then g (numbered fs number) f e in rw (numbered-more x fs number (number-within fs number y.0 y.1)) e

module _ (life : Lifetimes) (number : ℕ) (f : List ℕ) where
  more : (h : List Entry) (bytes : List ℕ) → arriving life h number ≡ Some f
      → option_and_then (fresh_bytes (network life h) (clock h)) (numbered (record { bytes = bytes; birth = clock h } ∷ frames h) number) ≡ Some f
  more h bytes x = fresh-more (fresh_bytes (network life h) (clock h)) _ (frames h) number f x

  entry-keeps : (e : Entry) (h : List Entry) → is_aside e ≡ true → arriving life h number ≡ Some f → arriving life (e ∷ h) number ≡ Some f
  entry-keeps (Sent name ticket k bytes) h t x = more h bytes x
  entry-keeps (Injected k bytes) h t x = more h bytes x
  entry-keeps (Arrived dev frame (Replied effect k bytes)) h t x = more h bytes x
  entry-keeps (Ticked ms) h t x = absurd (cc)
  entry-keeps _ h t x = x

  -- a frame that was handed over can be handed over again
  pub hand-fresh : {s : Setup} {frame : ℕ} {station : Station} {h m : List Entry} → Group s h (Hand frame station) m → arriving life h number ≡ Some f
      → arriving life m number ≡ Some f
  hand-fresh g x = adds-keep is_aside (λ n. arriving life n number ≡ Some f) entry-keeps _ _ (group-adds tt g) x

-- GROUPS

entry-grows : {e : Entry} {h m : List Entry} → m ≡ e ∷ h → length (frames h) ≤ length (frames m)
entry-grows {e} {h} is = rw is (frames-grow e h)

enters-grow : (s : Setup) (act : Act) (h m : List Entry) (got : Option Got) → Enters s h act got m → length (frames h) ≤ length (frames m)
enters-grow s (Submit name dev op) h m got (none, (host, called, is)) = entry-grows is
enters-grow s (Tick ms) h m got (none, is) = entry-grows is
enters-grow s act h m got enters = adds-grow (enters-adds s h act got m tt enters)

pub group-grows : {s : Setup} {act : Act} {h m : List Entry} → Group s h act m → length (frames h) ≤ length (frames m)
group-grows {s} {act} {h} g = omega (arith, enters-grow s act h g.entered g.got g.enters, adds-grow (turns-add s s.hosts g.got g.entered _ g.turns))

pub follows-grow : (s : Setup) (acts : List Act) (h m : List Entry) → Follows s acts h m → length (frames h) ≤ length (frames m)
follows-grow s [] h m is = rw is (omega arith)
follows-grow s (act ∷ acts) h m (n, group, rest) = omega (arith, group-grows group, follows-grow s acts n m rest)
