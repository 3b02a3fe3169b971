-- Entries that come to a history, each of one kind.
use Rattle.std.proofs.Common.{ℕ, suc, ◌≡◌, Bool, true, false, if◌then◌else◌, List, [], ◌∷◌, Option, Some, None, refl, inl, inr}
use Rattle.std.specs.Prelude.{slice_get, MatchOption}
use Rattle.std.specs.Str.{bytes_eq}
use Rattle.arrayvec.specs.ArrayVec.{ArrayVec}
use Rattle.aoe_disk.specs.declared.loss.Loss.{Loss}
use Rattle.aoe_initiator.specs.declared.outcome.Outcome.{Outcome}
use Rattle.aoe_lists.specs.Settings.{Settings}
use Rattle.aoe_history.specs.declared.entry.Entry.{Entry}
use Rattle.aoe_history.specs.declared.entry.Entry.TheVariants.{Sent, Arrived, Took, Done, Crashed}
use Rattle.aoe_history.specs.declared.entry.Fate.{Fate}
use Rattle.aoe_history.specs.declared.entry.Fate.TheVariants.{Cut}
use Rattle.aoe_history.specs.Groups.{told, ArriveAtEach, CrashEach, GivesUp, Got, SendsSome, Takes, Turn}
use Rattle.aoe_history.specs.Setup.{is_called, HostSetup, Setup, SlotSetup}

-- the later history is the earlier one with entries for which p is true
pub data Adds (p : Entry → Bool) (h : List Entry) : List Entry → Type 0 where
  adds_none : Adds p h h
  adds_one : {m : List Entry} (e : Entry) → p e ≡ true → Adds p h m → Adds p h (e ∷ m)

pub adds-more : (p : Entry → Bool) (h m n : List Entry) → Adds p h m → Adds p m n → Adds p h n
adds-more p h m _ a adds_none = a
adds-more p h m _ a (adds_one {m = k} e t b) = adds_one e t (adds-more p h m k a b)

-- what each such entry keeps is kept
pub adds-keep : (p : Entry → Bool) (P : List Entry → Type 0) → ((e : Entry) (h : List Entry) → p e ≡ true → P h → P (e ∷ h)) → (h m : List Entry) → Adds p h m
    → P h → P m
adds-keep p P keep h _ adds_none x = x
adds-keep p P keep h _ (adds_one {m = k} e t a) x = keep e k t (adds-keep p P keep h k a x)

module _ {p : Entry → Bool} {h m : List Entry} where
  pub adds-same : m ≡ h → Adds p h m
  adds-same is = rw is adds_none

  -- one entry
  pub adds-entry : {e : Entry} → p e ≡ true → m ≡ e ∷ h → Adds p h m
  adds-entry t is = rw is (adds_one _ t adds_none)

  -- one entry, and others behind it
  pub adds-on : {e : Entry} → p e ≡ true → Adds p (e ∷ h) m → Adds p h m
  adds-on t rest = adds-more _ _ _ _ (adds_one _ t adds_none) rest

  -- what a host took
  pub takes-adds : (s : Setup) (host : HostSetup) (name : ArrayVec ℕ) (number : ℕ) (f : List ℕ) (got : Option Got)
      → ((stale : Bool) → p (Took name number stale) ≡ true) → Takes s host name number f h got m → Adds p h m
  takes-adds s host name number f None t k = adds-entry (t true) k.1
  takes-adds s host name number f (Some got) t k = adds-entry (t false) k.2

-- p is true of what a host called so tells and sends
pub record TellsOf (p : Entry → Bool) (host : HostSetup) : Type 0 where
  pub done : (name : ArrayVec ℕ) (ticket : ℕ) (outcome : Outcome) → is_called host name ≡ true → p (Done name ticket outcome) ≡ true
  pub sent : (name : ArrayVec ℕ) (ticket number : ℕ) (bytes : List ℕ) → is_called host name ≡ true → p (Sent name ticket number bytes) ≡ true

module _ {p : Entry → Bool} {host : HostSetup} (t : TellsOf p host) (name : ArrayVec ℕ) (called : is_called host name ≡ true) where
  gives : {h m : List Entry} → GivesUp name h m → Adds p h m
  gives GivesUp.gives_none = adds_none
  gives (GivesUp.gives_one ticket first now g) = adds_one _ (t.done name ticket _ called) (gives g)

  pub sends : {h m : List Entry} → SendsSome name h m → Adds p h m
  sends SendsSome.sends_none = adds_none
  sends (SendsSome.sends_one ticket number bytes g) = adds_one _ (t.sent name ticket number bytes called) (sends g)

  tells-if : (b : Bool) (h : List Entry) (ticket : ℕ) (outcome : Outcome) → Adds p h (if b then Done name ticket outcome ∷ h else h)
  tells-if true h ticket outcome = adds_one _ (t.done name ticket outcome called) adds_none
  tells-if false h ticket outcome = adds_none

  tells : (got : Option Got) (h : List Entry) → Adds p h (told name host got h)
  tells None h = adds_none
  tells (Some got) h = tells-if (bytes_eq got.host.name host.name) h got.ticket got.outcome

  -- what is told and given up
  pub ends : {h m : List Entry} (got : Option Got) → GivesUp name (told name host got h) m → Adds p h m
  ends got g = adds-more _ _ _ _ (tells got _) (gives g)

pub turn-adds : {p : Entry → Bool} {s : Setup} {host : HostSetup} {got : Option Got} {h m : List Entry} → TellsOf p host → Turn s host got h m → Adds p h m
turn-adds {got = got} t turn = adds-more _ _ _ _ (ends t turn.name turn.called got turn.gives_up) (sends t turn.name turn.called turn.sends)

-- p is true of each arrival at one of the slots, and of each crash of one
pub record SpeaksOf (p : Entry → Bool) (slots : List SlotSetup) : Type 0 where
  pub arrived : (i : ℕ) (slot : SlotSetup) (frame : ℕ) (fate : Fate) → slice_get slots i ≡ Some slot → p (Arrived slot.station.id frame fate) ≡ true
  pub crashed : (i : ℕ) (slot : SlotSetup) (lists : Settings) (how : Loss) → slice_get slots i ≡ Some slot → p (Crashed slot.station.id lists how) ≡ true

others : {p : Entry → Bool} {slot : SlotSetup} {slots : List SlotSetup} → SpeaksOf p (slot ∷ slots) → SpeaksOf p slots
others t = record { arrived = λ i. t.arrived (suc i); crashed = λ i. t.crashed (suc i) }

pub crash-adds : {p : Entry → Bool} {h m : List Entry} (how : Loss) (slots : List SlotSetup) → SpeaksOf p slots → CrashEach how slots h m → Adds p h m
crash-adds how [] t e = adds-same e
crash-adds how (slot ∷ slots) t (lists, rest) = adds-on (t.crashed 0 slot lists how refl) (crash-adds how slots (others t) rest)

pub arrive-adds : {p : Entry → Bool} {h m : List Entry} {shelf : List SlotSetup} (frame : ℕ) (f : List ℕ) (slots : List SlotSetup) → SpeaksOf p shelf
    → SpeaksOf p slots → ArriveAtEach frame f shelf slots h m → Adds p h m
arrive-adds frame f [] all t e = adds-same e
arrive-adds frame f (slot ∷ slots) all t (inl (fate, uncut, rest)) = adds-on (t.arrived 0 slot frame fate refl) (arrive-adds frame f slots all (others t) rest)
arrive-adds frame f (slot ∷ slots) all t (inr (how, stop, crash)) = adds-on (t.arrived 0 slot frame Cut refl) (crash-adds how _ all crash)

-- what is so in both cases of an option
pub either-way : {X A P : Type 0} {B : X → Type 0} (o : Option X) → MatchOption o A B → (A → P) → ((x : X) → B x → P) → P
either-way None k a b = a k
either-way (Some x) k a b = b x k
