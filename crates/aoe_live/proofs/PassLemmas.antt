-- Frames that are sent, entry by entry.
use Rattle.std.proofs.Common.{ℕ, ◌≡◌, ◌+◌, ◌-◌, ◌≤◌, List, ◌∷◌, ◌++◌, drop, length, length-append, Option, option_map, sym, subst, ap, ◌∙◌, arith}
use Rattle.std.specs.Prelude.{OnOk, Result, Ok, Err}
use Rattle.std.specs.Option.{option_to_list}
use Rattle.aoe_history.specs.declared.entry.Entry.{Entry}
use Rattle.aoe_live.proofs.EntryLemmas.{drop-more}
use Rattle.aoe_io.proofs.LinkLemmas.{Added-then}
use Rattle.aoe_io.specs.Link.{Added}
use Rattle.aoe_live.specs.declared.frames.Sender.{Sender}
use Rattle.aoe_live.specs.declared.frames.Sender.TheVariants as sender
use Rattle.aoe_live.specs.declared.tally.Tally.{Tally}
use Rattle.aoe_live.specs.declared.refusal.LiveRefusal.{LiveRefusal}
use Rattle.aoe_live.specs.Frames.{frame_by, frames_by}
use Rattle.aoe_live.specs.Lines.{Carries}
use Rattle.aoe_live.specs.Tally.{noted, tally_of}

pub carries-none : (s : Sender) (h : List Entry) (a : Option (List (List ℕ))) → Carries s h h a a
carries-none s h a = λ start so. so

pub carries-then : (s : Sender) (h m n : List Entry) (a b c : Option (List (List ℕ))) → Carries s h m a b → Carries s m n b c → Carries s h n a c
carries-then s h m n a b c x y = λ start so. y start (x start so)

-- the frame of one more entry
pub carries-one : (s : Sender) (e : Entry) (h : List Entry) (a b : Option (List (List ℕ)))
    → Added a b (option_to_list (option_map (λ f. f.bytes) (frame_by s e))) → Carries s h (e ∷ h) a b
carries-one s e h a b took = λ start so. Added-then start a b (frames_by s h) (option_to_list (option_map (λ f. f.bytes) (frame_by s e))) so took

-- the entries up to one of them were looked at
pub record Passing (h : List Entry) (told i : ℕ) (tally : Tally) (one one' two two' : Option (List (List ℕ))) : Type 0 where
  pub tally_is : tally ≡ tally_of (drop (length h - i) h)
  pub carries_one : Carries sender.Shelf (drop (length h - told) h) (drop (length h - i) h) one one'
  pub carries_two : Carries sender.Host (drop (length h - told) h) (drop (length h - i) h) two two'

pub passed-one : (h : List Entry) (told i : ℕ) (e : Entry) (tally tally' : Tally) (one a b two c d : Option (List (List ℕ)))
    → drop (length h - (i + 1)) h ≡ e ∷ drop (length h - i) h → Passing h told i tally one a two c → tally' ≡ noted e tally
    → Added a b (option_to_list (option_map (λ f. f.bytes) (frame_by sender.Shelf e)))
    → Added c d (option_to_list (option_map (λ f. f.bytes) (frame_by sender.Host e)))
    → Passing h told (i + 1) tally' one b two d
passed-one h told i e tally tally' one a b two c d at p is first second =
    let before : List Entry = drop (length h - i) h in
    let P : List Entry → Type 0 = λ l. Carries sender.Shelf (drop (length h - told) h) l one b in
    let Q : List Entry → Type 0 = λ l. Carries sender.Host (drop (length h - told) h) l two d in
    record {
      tally_is = is ∙ ap (noted e) p.tally_is ∙ sym (ap tally_of at);
      carries_one = subst P (sym at)
          (carries-then sender.Shelf (drop (length h - told) h) before (e ∷ before) one a b p.carries_one (carries-one sender.Shelf e before a b first));
      carries_two = subst Q (sym at)
          (carries-then sender.Host (drop (length h - told) h) before (e ∷ before) two c d p.carries_two (carries-one sender.Host e before c d second));
    }

-- the entries that were looked at before a line are those before it
pub looked-at : (h m new : List Entry) (told : ℕ) → m ≡ new ++ h → told ≡ length h → drop (length m - told) m ≡ h
looked-at h m new told is all = ap (λ k. drop (length m - k) m) all ∙ drop-more new h m is

pub looked-within : (h m new : List Entry) (told : ℕ) → m ≡ new ++ h → told ≡ length h → told ≤ length m
looked-within h m new told is all = omega (arith, all, (let e : length m ≡ length new + length h = ap length is ∙ length-append new h in e))

-- so what a link took since is that of the line
pub carries-line : (s : Sender) (h m later new : List Entry) (told : ℕ) (a b : Option (List (List ℕ))) → m ≡ new ++ h → told ≡ length h → later ≡ m
    → Carries s (drop (length m - told) m) m a b → Carries s h later a b
carries-line s h m later new told a b is all same x =
    let P : List Entry → Type 0 = λ l. Carries s l m a b in
    let Q : List Entry → Type 0 = λ l. Carries s h l a b in
    subst Q (sym same) (subst P (looked-at h m new told is all) x)

pub carried : {T : Type 0} (result : Result T LiveRefusal) (s : Sender) (h m later new : List Entry) (told : ℕ) (a b : Option (List (List ℕ))) → m ≡ new ++ h
    → told ≡ length h → later ≡ m
    → OnOk result (Carries s (drop (length m - told) m) m a b) → OnOk result (Carries s h later a b)
carried (Ok u) s h m later new told a b is all same x = carries-line s h m later new told a b is all same x
carried (Err r) s h m later new told a b is all same x = tt
