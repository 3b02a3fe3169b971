-- What the verdict on a frame says of the calls that a target makes.
use Rattle.std.proofs.Common.{◌≡◌, ◌∙◌, Bool, true, false, List, [], ℕ, Option, refl, sym, subst}
use Rattle.std.specs.Bool.{OnTrue}
use Rattle.aoe_disk.specs.State.{DiskState}
use Rattle.aoe_disk.specs.Calls.{IsRun, Logs}
use Rattle.aoe_disk.proofs.Runs.{logs_none}
use Rattle.aoe_frame.specs.declared.header.Header.{Header}
use Rattle.aoe_ata.specs.declared.args.AtaArgs.{AtaArgs}
use Rattle.aoe_ata.specs.declared.decision.AtaAnswer.{AtaAnswer}
use Rattle.aoe_ata.specs.declared.decision.AtaAnswer.TheVariants.{Abort, NotFound, Page, Mode, Give, Put, Verify, Sync}
use Rattle.aoe_target.specs.declared.heard.Effect.{Effect}
use Rattle.aoe_target.specs.declared.heard.Effect.TheVariants as effect
use Rattle.aoe_target.specs.declared.heard.Heard.{Heard}
use Rattle.aoe_target.specs.declared.heard.Heard.TheVariants as heard
use Rattle.aoe_target.specs.declared.station.Station.{Station}
use Rattle.aoe_target.specs.declared.verdict.Verdict.{Verdict}
use Rattle.aoe_target.specs.declared.verdict.Verdict.TheVariants.{Ignored, Silent, Refused, Lists, Ata}
use Rattle.aoe_target.specs.Device.{State, Holds}
use Rattle.aoe_target.specs.Law.{AllowsAta, IsStep, replied}
use Rattle.aoe_target.specs.Mounted.{Mounted, device_of}
use Rattle.aoe_target.specs.Receive.{calls_store, edits, fate_of, is_edit_fault, is_faulty, is_unkept, store_calls, Replaces}
use Rattle.aoe_target.specs.Sectors.{Sectors}
use Rattle.aoe_target.specs.Turn.{Receives}
use Rattle.aoe_target.specs.Verdict.{verdict}

-- the calls of the store and of the keep, where the verdict is w
pub record Calls {S D : Type 0} (store : S → DiskState) (keep : D → DiskState) (f : List ℕ) (h : Heard) (old new : Mounted S D) (w : Verdict) : Type 0 where
  pub call : OnTrue (calls_store w) (IsRun 1 (is_faulty h) (store old.store) (store new.store))
  pub log : Logs (store_calls f w) (store old.store) (store new.store)
  pub idle : calls_store w ≡ false → new.store ≡ old.store
  pub edit : OnTrue (edits old.station old.keep.lists f w) (Replaces (is_unkept h) (keep old.keep.disk) (keep new.keep.disk))
  pub unedited : edits old.station old.keep.lists f w ≡ false → new.keep ≡ old.keep

pub by_it : {S D : Type 0} (store : S → DiskState) (keep : D → DiskState) (f : List ℕ) (h : Heard) (old new : Mounted S D) (w : Verdict)
    → verdict old.station old.keep.lists f ≡ w
    → Calls store keep f h old new w → Calls store keep f h old new (verdict old.station old.keep.lists f)
by_it store keep f h old new w e calls = subst (λ (v : Verdict). Calls store keep f h old new v) (sym e) calls

-- the verdicts by which no call is made
abbrev pub is_rest : Verdict → Bool
is_rest Ignored = true
is_rest Silent = true
is_rest (Refused error) = true
is_rest (Lists command) = false
is_rest (Ata decision) = false

-- a frame by which no call is made, and what became of it
pub record Rests {S D : Type 0} (store : S → DiskState) (keep : D → DiskState) (t : Mounted S D) (f : List ℕ) (h : Heard) (out : List ℕ)
    (w : Verdict) : Type 0 where
  pub by : verdict t.station t.keep.lists f ≡ w
  pub rest : is_rest w ≡ true
  pub no_fault : is_faulty h ≡ false
  pub kept : is_unkept h ≡ false
  pub silent : h ≡ heard.Silent → out ≡ []
  pub ignored : h ≡ heard.Ignored → out ≡ []
  pub step : (k : State) → Holds (device_of store keep t) k → IsStep t.station k f (fate_of h out) (device_of store keep t)

no_calls : {S D : Type 0} (store : S → DiskState) (keep : D → DiskState) (f : List ℕ) (h : Heard) (t : Mounted S D) (w : Verdict) → is_rest w ≡ true
    → Calls store keep f h t t w
no_calls store keep f h t Ignored rest = record { call = tt; log = logs_none (store t.store); idle = λ _. refl; edit = tt; unedited = λ _. refl }
no_calls store keep f h t Silent rest = record { call = tt; log = logs_none (store t.store); idle = λ _. refl; edit = tt; unedited = λ _. refl }
no_calls store keep f h t (Refused error) rest = record { call = tt; log = logs_none (store t.store); idle = λ _. refl; edit = tt; unedited = λ _. refl }
no_calls store keep f h t (Lists command) rest = let clash : false ≡ true = rest in absurd cc
no_calls store keep f h t (Ata decision) rest = let clash : false ≡ true = rest in absurd cc

pub unmoved : {S D : Type 0} (store : S → DiskState) (keep : D → DiskState) (t : Mounted S D) (f : List ℕ) (h : Heard) (out : List ℕ) (w : Verdict)
    → Rests store keep t f h out w
    → Receives store keep t t f h out
unmoved store keep t f h out w r =
    let calls = by_it store keep f h t t w r.by (no_calls store keep f h t w r.rest) in
    record {
      station = refl;
      step = r.step;
      silent = r.silent;
      ignored = r.ignored;
      call = calls.call;
      log = calls.log;
      idle = calls.idle;
      edit = calls.edit;
      unedited = calls.unedited;
      fault = λ is. let clash : false ≡ true = sym r.no_fault ∙ is in absurd cc;
      edit_fault = λ is. let clash : false ≡ true = sym r.kept ∙ is in absurd cc;
    }

-- no ATA command is answered as a change of the lists
pub keeps_lists : (station : Station) (k : Option Sectors) (h : Header) (args : AtaArgs) (a : AtaAnswer) (e : Effect) (out : List ℕ)
    → AllowsAta station k h args a (replied e out) → is_edit_fault e ≡ false
keeps_lists station k h args a effect.None out allowed = refl
keeps_lists station k h args a (effect.Wrote span) out allowed = refl
keeps_lists station k h args a effect.Synced out allowed = refl
keeps_lists station k h args a effect.Edited out allowed = refl
keeps_lists station k h args a (effect.WriteFault span) out allowed = refl
keeps_lists station k h args a effect.ReadFault out allowed = refl
keeps_lists station k h args a effect.SyncFault out allowed = refl
keeps_lists station k h args a effect.EditFault out allowed = absurd (none a allowed)
  where
    none : (a : AtaAnswer) → AllowsAta station k h args a (replied effect.EditFault out) → ⊥
    none Abort clash = cc
    none NotFound clash = cc
    none Page clash = cc
    none Mode clash = cc
    none (Give span) wrong = wrong
    none (Put span) wrong = wrong
    none (Verify span) wrong = wrong
    none Sync wrong = wrong
