-- The newest frame with these bytes.
use Rattle.std.proofs.Common.{ℕ, ◌≡◌, ◌-◌, ◌<◌, ◌≤◌, true, false, List, ◌∷◌, nat_lt, Option, Some, None, option_map, refl, ap, ◌∙◌}
use Rattle.std.specs.Option.{option_map_or}
use Rattle.std.specs.Str.{bytes_eq}
use Rattle.std.proofs.lemmas.Bool.{le-ltb, lt-ltb}
use Rattle.aoe_history.specs.declared.entry.Entry.{Entry}
use Rattle.aoe_history.specs.declared.entry.Entry.TheVariants.{Sent, Arrived}
use Rattle.aoe_history.specs.declared.entry.Fate.{Fate}
use Rattle.aoe_history.specs.declared.entry.Fate.TheVariants.{Replied}
use Rattle.aoe_live.specs.declared.frames.Sender.{Sender}
use Rattle.aoe_live.specs.declared.frames.Sender.TheVariants as sender
use Rattle.aoe_live.specs.Frames.{frame_by, matching, ms_of, newest, number_of, replied_by, reply_of, sent_by, Numbered}

-- ONE ENTRY

sent-found : (e : Entry) (bytes f : List ℕ) → option_map (λ (x : Numbered). x.bytes) (sent_by e) ≡ Some bytes → bytes_eq bytes f ≡ true
    → matching f (sent_by e) ≡ Some (number_of e)
sent-found (Sent host ticket number b) bytes f is same =
    let e : b ≡ bytes = cc in
    let t : bytes_eq b f ≡ true = ap (λ x. bytes_eq x f) e ∙ same in
    rw t refl
sent-found _ bytes f is same = absurd cc

reply-found : (fate : Fate) (bytes f : List ℕ) → option_map (λ (x : Numbered). x.bytes) (reply_of fate) ≡ Some bytes → bytes_eq bytes f ≡ true
    → matching f (reply_of fate) ≡ Some (option_map_or (λ (x : Numbered). x.number) (reply_of fate) 0)
reply-found (Replied effect number b) bytes f is same =
    let e : b ≡ bytes = cc in
    let t : bytes_eq b f ≡ true = ap (λ x. bytes_eq x f) e ∙ same in
    rw t refl
reply-found _ bytes f is same = absurd cc

replied-found : (e : Entry) (bytes f : List ℕ) → option_map (λ (x : Numbered). x.bytes) (replied_by e) ≡ Some bytes → bytes_eq bytes f ≡ true
    → matching f (replied_by e) ≡ Some (number_of e)
replied-found (Arrived dev frame fate) bytes f is same = reply-found fate bytes f is same
replied-found _ bytes f is same = absurd cc

pub matching-found : (s : Sender) (e : Entry) (bytes f : List ℕ) → option_map (λ (x : Numbered). x.bytes) (frame_by s e) ≡ Some bytes → bytes_eq bytes f ≡ true
    → matching f (frame_by s e) ≡ Some (number_of e)
matching-found sender.Host e bytes f is same = sent-found e bytes f is same
matching-found sender.Shelf e bytes f is same = replied-found e bytes f is same

pub matching-none : (x : Option Numbered) (f : List ℕ) → option_map (λ (x : Numbered). x.bytes) x ≡ None → matching f x ≡ None
matching-none None f is = refl
matching-none (Some x) f is = absurd cc

pub matching-other : (x : Option Numbered) (bytes f : List ℕ) → option_map (λ (x : Numbered). x.bytes) x ≡ Some bytes → bytes_eq bytes f ≡ false
    → matching f x ≡ None
matching-other None bytes f is other = absurd cc
matching-other (Some x) bytes f is other =
    let e : x.bytes ≡ bytes = cc in
    let t : bytes_eq x.bytes f ≡ false = ap (λ b. bytes_eq b f) e ∙ other in
    rw t refl

-- THE SEARCH

module _ (s : Sender) (age : ℕ) (h rest : List Entry) (e : Entry) (f : List ℕ) (is : h ≡ e ∷ rest) where
  pub newest-found : (number : ℕ) → matching f (frame_by s e) ≡ Some number → newest s age h f ≡ Some number
  newest-found number found = ap (λ l. newest s age l f) is ∙ rw found refl

  pub newest-old : matching f (frame_by s e) ≡ None → age < ms_of e → newest s age h f ≡ None
  newest-old other old = ap (λ l. newest s age l f) is ∙ (let t : nat_lt age (ms_of e) ≡ true = lt-ltb age (ms_of e) old in rw (other, t) refl)

  pub newest-on : matching f (frame_by s e) ≡ None → ms_of e ≤ age → newest s age h f ≡ newest s (age - ms_of e) rest f
  newest-on other young = ap (λ l. newest s age l f) is ∙ (let t : nat_lt age (ms_of e) ≡ false = le-ltb age (ms_of e) young in rw (other, t) refl)
