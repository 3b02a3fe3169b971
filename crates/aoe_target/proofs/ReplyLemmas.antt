-- The bytes of a reply with data, and what a write leaves.
use Rattle.std.proofs.Common.{◌≡◌, ◌≤◌, ◌+◌, ◌-◌, ◌*◌, ◌/◌, ℕ, Bool, true, false, List, ◌++◌, length, take, drop, Option, Some, None, Result, Ok, Err, sym, ap, subst, ◌∙◌, arith, append_assoc, length-drop}
use Rattle.std.specs.Prelude.{IfSome}
use Rattle.std.specs.Option.{option_map}
use Rattle.std.proofs.lemmas.List.{take-append-drop}
use Rattle.aoe_base.specs.declared.sectors.Span.{Span}
use Rattle.aoe_disk.specs.State.{Contents, DiskState, HasShape, BothTell, sector}
use Rattle.aoe_disk.specs.Calls.{Puts}
use Rattle.aoe_disk.proofs.Touching.{sector-read}
use Rattle.aoe_store.specs.Store.{MaySpoil}
use Rattle.aoe_store.specs.Lasting.{AreFirm, MayLose, PutsToLast, StoresAs}
use Rattle.aoe_frame.specs.Header.{padded}
use Rattle.aoe_frame.specs.declared.header.Header.{Header}
use Rattle.aoe_ata.specs.Args.{args_bytes}
use Rattle.aoe_ata.specs.Reply.{reply_of}
use Rattle.aoe_ata.specs.declared.args.AtaArgs.{AtaArgs}
use Rattle.aoe_ata.specs.declared.reply.AtaOutcome.TheVariants.{Done}
use Rattle.aoe_target.specs.declared.station.Station.{Station}
use Rattle.aoe_target.specs.declared.heard.Effect.TheVariants as effect
use Rattle.aoe_target.specs.Reply.{reply_head, spelled, data_reply, data_of}
use Rattle.aoe_target.specs.Sectors.{Agrees, Tells, sectors_of, puts, spoils}
use Rattle.aoe_target.specs.Law.{Gives}
use Rattle.aoe_target.proofs.PieceLemmas.{data_in}
use Rattle.aoe_target.proofs.SectorLemmas.{agrees_same, both_agree, lasting_agrees, lost_agrees, put_same, spoil_agrees}

-- header and registers, then the data, then the padding
pub data_reply_is : (station : Station) (h : Header) (args : AtaArgs) (bytes begun whole out : List ℕ)
    → begun ≡ reply_head station h None ++ args_bytes (reply_of args Done) → whole ≡ begun ++ bytes → out ≡ padded whole
    → out ≡ data_reply station h args bytes
unfolding spelled
data_reply_is station h args bytes begun whole out begun_is whole_is out_is =
    out_is ∙ ap padded (whole_is ∙ ap (λ (l : List ℕ). l ++ bytes) begun_is ∙ append_assoc (reply_head station h None) (args_bytes (reply_of args Done)) bytes)

-- the sectors that a read gave are the data of the reply
pub gives_read : (station : Station) (k : Option Contents) (h : Header) (args : AtaArgs) (span : Span) (whole out : List ℕ)
    → take 36 whole ≡ reply_head station h None ++ args_bytes (reply_of args Done)
    → length whole ≡ 36 + 512 * span.count → out ≡ padded whole → IfSome k (λ c. drop 36 whole ≡ take (512 * span.count) (drop (512 * span.at) c.bytes))
    → Gives station (option_map sectors_of k) h args span effect.None out
gives_read station k h args span whole out front size out_is told =
    let n : ℕ = 512 * span.count in
    let bytes : data_of span out ≡ drop 36 whole = ap (λ (l : List ℕ). take (36 + n - 36) (drop 36 l)) out_is ∙ data_in whole n size in
    let P : List ℕ → Type 0 = λ l. out ≡ data_reply station h args l in (
      ap length bytes ∙ (omega (arith, size, length-drop 36 whole)),
      subst P (sym bytes) (data_reply_is station h args (drop 36 whole) (take 36 whole) whole out front (sym (take-append-drop 36 whole)) out_is),
      tells k (data_of span out) (drop 36 whole) bytes told,
    )
  where
    tells : (k : Option Contents) (given read : List ℕ) → given ≡ read → IfSome k (λ c. read ≡ take (512 * span.count) (drop (512 * span.at) c.bytes))
        → IfSome (option_map sectors_of k) (Tells span given)
    tells None given read same told = tt
    tells (Some c) given read same told = λ i low.
        ap (λ (l : List ℕ). sector l i) (same ∙ told) ∙ sector-read c.bytes span.at (512 * span.count) i (omega (arith, low))

-- a write, done and failed
module _ (span : Span) (sectors : ℕ) (some : 1 ≤ span.count) (end : span.at + span.count ≤ sectors) where
  put_leaves : (piece bytes : List ℕ) (old new : Option Contents) → piece ≡ bytes → length piece ≡ 512 * span.count → IfSome old (HasShape sectors)
      → (R : Contents → Contents → Type 0) → ((x y : Contents) → HasShape sectors x → R x y → Agrees (sectors_of y) (puts span piece (sectors_of x)))
      → BothTell R old new
      → BothTell Agrees (option_map sectors_of new) (option_map (puts span bytes) (option_map sectors_of old))
  put_leaves piece bytes old new same size shape R each told =
      let P : List ℕ → Type 0 = λ l. BothTell Agrees (option_map sectors_of new) (option_map (puts span l) (option_map sectors_of old)) in
      subst P same (both_agree (puts span piece) R sectors old new shape told each)

  pub stored_leaves : (T E : Type 0) (lasts : Bool) (piece bytes : List ℕ) (done : T) (old new : DiskState) → old.sectors ≡ sectors → piece ≡ bytes
      → length piece ≡ 512 * span.count → (let result : Result T E = Ok done in StoresAs lasts span.at piece result old new)
      → BothTell Agrees (option_map sectors_of new.contents) (option_map (puts span bytes) (option_map sectors_of old.contents))
  stored_leaves T E true piece bytes done old new whole same size stores =
      put_leaves piece bytes old.contents new.contents same size (rw (← whole) stores.call.before.shape) (PutsToLast span.at piece)
      (λ x y shape put. lasting_agrees span piece x y sectors size end shape put) stores.contents
  stored_leaves T E false piece bytes done old new whole same size stores =
      put_leaves piece bytes old.contents new.contents same size (rw (← whole) stores.call.before.shape) (Puts span.at piece)
      (λ x y shape put. agrees_same (sectors_of y) (puts span piece (sectors_of x)) (put_same span piece x y sectors size some end shape put)) stores.contents

  pub failed_leaves : (T E : Type 0) (lasts : Bool) (piece : List ℕ) (failed : E) (old new : DiskState) → old.sectors ≡ sectors
      → length piece ≡ 512 * span.count → (let result : Result T E = Err failed in StoresAs lasts span.at piece result old new)
      → BothTell Agrees (option_map sectors_of new.contents) (option_map (spoils span) (option_map sectors_of old.contents))
  failed_leaves T E true piece failed old new whole size stores =
      both_agree (spoils span) (MayLose span.at (length piece)) sectors old.contents new.contents (rw (← whole) stores.call.before.shape) stores.contents
      (λ x y shape lost. lost_agrees span (length piece) x y size lost)
  failed_leaves T E false piece failed old new whole size stores =
      both_agree (spoils span) (MaySpoil span.at (length piece)) sectors old.contents new.contents (rw (← whole) stores.call.before.shape) stores.contents
      (λ x y shape may. spoil_agrees span (length piece) x y sectors size some end shape may)

-- where writes last a crash changes no sector of one that was done
pub stored_firm : (T E : Type 0) (lasts : Bool) (span : Span) (piece : List ℕ) (done : T) (old new : DiskState) → length piece ≡ 512 * span.count
    → (let result : Result T E = Ok done in StoresAs lasts span.at piece result old new) → lasts ≡ true
    → IfSome new.contents (AreFirm span.at span.count)
stored_firm T E false span piece done old new size stores e = cc
stored_firm T E true span piece done old new size stores e = told old.contents new.contents stores.contents
  where
    told : (x y : Option Contents) → BothTell (PutsToLast span.at piece) x y → IfSome y (AreFirm span.at span.count)
    told None None t = tt
    told None (Some y) t = absurd t
    told (Some x) None t = tt
    told (Some x) (Some y) t =
        let m : length piece / 512 ≡ span.count = omega (arith, size) in
        subst (λ (n : ℕ). AreFirm span.at n y) m t.firm
