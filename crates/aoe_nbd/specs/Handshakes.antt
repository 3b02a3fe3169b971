-- What a client says up to the transmission, and what is said to it.
use Rattle.std.specs.Prelude.{ℕ, ◌^◌, ◌<◌, ◌≤◌, ◌≡◌, ◌≢◌, ◌⊎◌, Bool, List, [], ◌∷◌, ◌++◌, length, take, nat_le}
use Rattle.std.specs.Int.{w32, to_be_bytes}
use Rattle.std.specs.List.{flat_map, AllByRecursion}
use Rattle.aoe_nbd.specs.declared.export.Export.{Export}
use Rattle.aoe_nbd.specs.declared.handshake.HandshakeEvent.{HandshakeEvent}
use Rattle.aoe_nbd.specs.declared.handshake.HandshakeEvent.TheVariants as events
use Rattle.aoe_nbd.specs.declared.handshake.HandshakeStage.{HandshakeStage}
use Rattle.aoe_nbd.specs.declared.handshake.HandshakeStage.TheVariants as stages
use Rattle.aoe_nbd.specs.declared.option.OptionHead.{OptionHead}
use Rattle.aoe_nbd.specs.Options.{IsOption, ClientOption, answer_of, event_of, greeting, option_bytes, option_head_bytes}

-- what was said so far: the client's bytes, its flags and its options, and the server's bytes
pub record Talk : Type 0 where
  pub stream : List ℕ
  pub flags : ℕ
  pub options : List ClientOption
  pub replies : List ℕ

-- the client wants no zeros behind the answer to EXPORT_NAME: flag NO_ZEROES (2)
abbrev pub wants_no_zeroes : ℕ → Bool
wants_no_zeroes flags = nat_le 2 flags

-- the client's bytes are its flags, FIXED_NEWSTYLE (1) and NO_ZEROES (2) at most, and its options, and each got its answer
pub record IsTalk (e : Export) (talk : Talk) : Type 0 where
  pub flags : talk.flags < 4
  pub each : AllByRecursion IsOption talk.options
  pub stream : talk.stream ≡ to_be_bytes w32 talk.flags ++ flat_map option_bytes talk.options
  pub replies : talk.replies ≡ greeting ++ flat_map (answer_of e (wants_no_zeroes talk.flags)) talk.options

-- nothing came, and the greeting was said
abbrev pub greeted : Talk
greeted = record { stream = []; flags = 0; options = []; replies = greeting }

-- a connection stands where this talk leads it
abbrev pub LeadsTo : Export → Talk → HandshakeStage → Type 0
LeadsTo e talk stages.Flags = talk ≡ greeted
LeadsTo e talk (stages.Options no_zeroes) = IsTalk e talk × (no_zeroes ≡ wants_no_zeroes talk.flags)
LeadsTo e talk stages.Over = IsTalk e talk ⊎ (talk ≡ greeted)

-- less than an option with its data: less than its head, or its head and less than its data
abbrev pub IsPartialOption : List ℕ → Type 0
IsPartialOption rest = (length rest < 16) ⊎ ((h : OptionHead) × (some : List ℕ) × (h.code < 2 ^ 32) × (h.len ≤ 8192) × (length some < h.len) × (rest ≡ option_head_bytes h ++ some))

abbrev pub IsShortOption : HandshakeStage → List ℕ → Type 0
IsShortOption stages.Flags bytes = length bytes < 4
IsShortOption (stages.Options no_zeroes) bytes = IsPartialOption bytes
IsShortOption stages.Over bytes = ⊥

-- no talk goes on so
abbrev pub IsBroken : HandshakeStage → List ℕ → Type 0
IsBroken stages.Flags bytes = (flags : ℕ) (rest : List ℕ) → flags < 4 → bytes ≢ to_be_bytes w32 flags ++ rest
IsBroken (stages.Options no_zeroes) bytes = (o : ClientOption) (rest : List ℕ) → IsOption o → bytes ≢ option_bytes o ++ rest
IsBroken stages.Over bytes = ⊥

-- behind an option that is answered the next one comes, and behind each other nothing
abbrev pub stage_behind : HandshakeEvent → Bool → HandshakeStage
stage_behind events.Answered no_zeroes = stages.Options no_zeroes
stage_behind _ no_zeroes = stages.Over

-- an option came, and was answered
abbrev pub talk_option : Export → Talk → List ℕ → ClientOption → List ℕ → Talk
talk_option e talk front o out = record { stream = talk.stream ++ front; flags = talk.flags; options = talk.options ++ o ∷ []; replies = talk.replies ++ out }

-- a whole option stands at the front, is answered by out, and comes to this event
pub record TakesOption (e : Export) (talk : Talk) (old : HandshakeStage) (front : List ℕ) (event : HandshakeEvent) (out : List ℕ) (new : HandshakeStage) : Type 0 where
  pub option : ClientOption
  pub no_zeroes : Bool
  pub stage : old ≡ stages.Options no_zeroes
  pub event_is : event ≡ event_of e option
  pub out_is : out ≡ answer_of e no_zeroes option
  pub new_is : new ≡ stage_behind event no_zeroes
  pub leads : LeadsTo e (talk_option e talk front option out) new

-- What is told and said, where these bytes stand at the front and so many of them are taken.
abbrev pub Proceeds : Export → Talk → HandshakeStage → List ℕ → ℕ → HandshakeEvent → List ℕ → HandshakeStage → Type 0
-- nothing yet
Proceeds e talk old bytes len events.More out new = (len ≡ 0) × (out ≡ []) × (new ≡ old) × IsShortOption old bytes
-- the client's flags
Proceeds e talk old bytes len events.Flags out new = (out ≡ []) × (flags : ℕ) × (old ≡ stages.Flags) × (new ≡ stages.Options (wants_no_zeroes flags))
    × LeadsTo e (record { stream = take len bytes; flags = flags; options = []; replies = greeting }) new
-- an option
Proceeds e talk old bytes len events.Answered out new = TakesOption e talk old (take len bytes) events.Answered out new
Proceeds e talk old bytes len events.Begins out new = TakesOption e talk old (take len bytes) events.Begins out new
Proceeds e talk old bytes len events.Leaves out new = TakesOption e talk old (take len bytes) events.Leaves out new
Proceeds e talk old bytes len events.Unknown out new = TakesOption e talk old (take len bytes) events.Unknown out new
-- no flags and no option that are read begin so
Proceeds e talk old bytes len events.Broken out new = (len ≡ 0) × (out ≡ []) × (new ≡ stages.Over) × LeadsTo e talk new × IsBroken old bytes
-- the end was told before
Proceeds e talk old bytes len events.Ended out new = (len ≡ 0) × (out ≡ []) × (old ≡ stages.Over) × (new ≡ stages.Over)
