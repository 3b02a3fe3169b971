-- What a request comes to.
use Rattle.std.specs.Prelude.{ℕ, List, Option, Some, None, if◌then◌else◌, ⊤}
use Rattle.aoe_base.specs.declared.refusal.AoeError.{AoeError}
use Rattle.aoe_lists.specs.declared.answer.Answer.{Answer}
use Rattle.aoe_lists.specs.declared.answer.Answer.TheVariants as answer
use Rattle.aoe_lists.specs.Settings.{Settings, same_settings}

-- a whole written answer: none; a reply with or without an error, with its arguments, after which the settings are as
-- they were; or other settings, and the arguments of the reply that says so
pub data Step : Type 0 where
  Silent : Step
  Reply : Option AoeError → List ℕ → Step
  Change : Settings → List ℕ → Step

-- the whole of an answer, the arguments that were written for it, and the settings that were made for it
abbrev pub step_with : Answer → List ℕ → Settings → Step
step_with answer.Silent args made = Silent
step_with (answer.Reply error) args made = Reply error args
step_with answer.Change args made = Change made args

-- a reply without an error
abbrev pub reply_of : List ℕ → Step
reply_of args = Reply None args

-- a reply with an error
abbrev pub refusal_of : AoeError → List ℕ → Step
refusal_of error args = Reply (Some error) args

-- a request that succeeds: a change exactly where the settings become others
abbrev pub success_of : Settings → Settings → List ℕ → Step
success_of old made args = if same_settings made old then reply_of args else Change made args

-- what is true of the settings that a step makes
abbrev pub IfChange : Step → (Settings → Type 0) → Type 0
IfChange Silent P = ⊤
IfChange (Reply error args) P = ⊤
IfChange (Change made args) P = P made
