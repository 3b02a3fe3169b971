-- What a response tells is what the target did.
use Rattle.std.proofs.Common.{if◌then◌else◌, slice_range, ◌==◌, ℕ, ◌+◌, ◌*◌, ◌≡◌, Bool, true, false, List, nat_le, ◌++◌, drop, Option, Some, None, IfSome, refl, sym, ap, ◌∙◌, arith}
use Rattle.std.proofs.Math.Seq.{drop-drop}
use Rattle.std.proofs.lemmas.Option.{cond_some}
use Rattle.aoe_base.specs.declared.address.Mac.{Mac}
use Rattle.aoe_base.specs.declared.address.TargetId.{TargetId}
use Rattle.aoe_base.specs.declared.refusal.AoeError.{AoeError as Error}
use Rattle.aoe_base.specs.declared.sectors.Span.{Span}
use Rattle.aoe_base.specs.Refusal.{code_of_error}
use Rattle.aoe_ata.specs.Args.{args_bytes}
use Rattle.aoe_ata.specs.Reply.{error_of, reply_of, status_of}
use Rattle.aoe_ata.specs.declared.args.AtaArgs.{AtaArgs}
use Rattle.aoe_ata.specs.declared.decision.AtaAnswer.TheVariants.{Give, NotFound, Put, Sync}
use Rattle.aoe_ata.specs.declared.reply.AtaOutcome.{AtaOutcome}
use Rattle.aoe_ata.specs.declared.reply.AtaOutcome.TheVariants as outcome
use Rattle.aoe_frame.specs.declared.header.Header.{Header}
use Rattle.aoe_frame.specs.Header.{fields, head, Fits}
use Rattle.aoe_frame.proofs.HeaderLemmas.{head-fields}
use Rattle.aoe_initiator.specs.declared.op.FlushCommand.{FlushCommand}
use Rattle.aoe_initiator.specs.declared.op.Op.{Op}
use Rattle.aoe_initiator.specs.declared.op.Op.TheVariants.{Read, Write, Flush}
use Rattle.aoe_initiator.specs.declared.response.Answer.{Answer}
use Rattle.aoe_initiator.specs.declared.response.Answer.TheVariants.{Data, AtaError, AoeError}
use Rattle.aoe_initiator.specs.Op.{command_of, span_of}
use Rattle.aoe_initiator.specs.Request.{request, request_header, CanSpell}
use Rattle.aoe_initiator.specs.Response.{answer, is_failure}
use Rattle.aoe_target.specs.declared.heard.Effect.{Effect}
use Rattle.aoe_target.specs.declared.heard.Effect.TheVariants as effect
use Rattle.aoe_target.specs.declared.station.Station.{Station}
use Rattle.aoe_target.specs.declared.verdict.Verdict.{Verdict}
use Rattle.aoe_target.specs.declared.verdict.Verdict.TheVariants.{Ata, Lists, Refused}
use Rattle.aoe_target.specs.Device.{State}
use Rattle.aoe_target.specs.Law.{replied, Allows, AllowsAta}
use Rattle.aoe_target.specs.Reply.{ata_reply, data_of, data_reply, spelled}
use Rattle.aoe_target.specs.Sectors.{Tells}
use Rattle.aoe_target.specs.Verdict.{as_marked, verdict}
use Rattle.aoe_target.proofs.OneReply.{same-reply}
use Rattle.aoe_history.specs.Conversation.{asked_for, CanReply, HasSectors, TellsTruly}
use Rattle.aoe_history.proofs.replies.ReplyLemmas.{error-tells, failure-tells, flush-tells, reply-read, replying, says-ata, says-error, write-tells}
use Rattle.aoe_history.proofs.replies.RequestLemmas.{no-list-step, request-asks, request-head, unmarked}

-- what a reply to a request with this header says
record IsHeard (op : Op) (station : Station) (h : Header) (reply : List ℕ) (a : Answer) : Type 0 where
  fits : Fits h
  can : CanReply station h
  says : answer op (fields reply) (drop 24 reply) ≡ Some a

module _ {op : Op} {station : Station} {h : Header} {reply : List ℕ} {a : Answer} (x : IsHeard op station h reply a) where
  -- it is read by its header and arguments
  read : (error : Option Error) (args : List ℕ) → reply ≡ spelled station h error args
      → (zeros : List ℕ) × (answer op (replying station h error) (args ++ zeros) ≡ Some a)
  read error args is = let r = reply-read error x.fits x.can is in (r.zeros, rw (r.head_is, r.rest) at x.says)

  -- a reply with an error
  refused : (k : State) (e : Effect) (error : Error) (args : List ℕ) → reply ≡ spelled station h (Some error) args → TellsTruly op k e reply a
  refused k e error args is =
      let r = read (Some error) args is in
      let a-is : a ≡ AoeError (code_of_error error) = cc (r.1, says-error op h station error (args ++ r.0)) in
      rw a-is (error-tells k e reply op (code_of_error error))

  -- a reply with a failure in its registers
  failed : (k : State) (e : Effect) (args : AtaArgs) (o : AtaOutcome) → (command_of op == 0) ≡ true → is_failure (status_of o) ≡ true
      → reply ≡ ata_reply station h args o
      → TellsTruly op k e reply a
  failed k e args o ata f is =
      let r = read None (args_bytes (reply_of args o)) is in
      let a-is : a ≡ AtaError (status_of o) (error_of o) = cc (r.1, rw f at (says-ata op h station args o r.0 ata)) in
      rw a-is (failure-tells k e reply op (status_of o) (error_of o))

data-same : (reply : List ℕ) (n : ℕ) → slice_range (drop 24 reply) 12 (12 + n) ≡ slice_range reply 36 (36 + n)
data-same reply n = grind (arith, drop-drop)

-- a read: its data are the sectors that the target showed
read-told : {station : Station} {h : Header} {reply : List ℕ} {a : Answer} {span : Span} → IsHeard (Read span) station h reply a → (k : State) (args : AtaArgs)
    → reply ≡ data_reply station h args (data_of span reply) → IfSome k.sectors (Tells span (data_of span reply)) → TellsTruly (Read span) k effect.None reply a
read-told {station} {h} {reply} {a} {span} x k args is tells =
    let r = read x None (args_bytes (reply_of args outcome.Done) ++ data_of span reply) is in
    let a-is = (cond_some _ (Data (512 * span.count)) a (sym (says-ata (Read span) h station args outcome.Done (data_of span reply ++ r.0) refl) ∙ r.1)).1 in
    rw (← a-is) (refl, rw (data-same reply (512 * span.count)) tells)

read-by : (b : Bool) {station : Station} {h : Header} {reply : List ℕ} {a : Answer} {span : Span} → IsHeard (Read span) station h reply a
    → (k : State) (e : Effect) (args : AtaArgs)
    → AllowsAta station k.sectors h args (if b then Give span else NotFound) (replied e reply) → TellsTruly (Read span) k e reply a
read-by true x k effect.None args y = read-told x k args y.1 y.2
read-by true x k effect.ReadFault args y = failed x k effect.ReadFault args outcome.Uncorrectable refl refl y
read-by false x k e args y = failed x k e args outcome.NotFound refl refl (same-reply e effect.None _ _ y)
read-by true x k _ args y = absurd y

write-by : (b : Bool) {station : Station} {h : Header} {reply : List ℕ} {a : Answer} {at : ℕ} {bytes : List ℕ} → IsHeard (Write at bytes) station h reply a
    → (k : State) (e : Effect) (args : AtaArgs)
    → AllowsAta station k.sectors h args (if b then Put (span_of (Write at bytes)) else NotFound) (replied e reply) → TellsTruly (Write at bytes) k e reply a
write-by true {reply = reply} {at = at} {bytes} x k (effect.Wrote s) args y = write-tells k (effect.Wrote s) reply at bytes _ (ap effect.Wrote y.0)
write-by true x k (effect.WriteFault s) args y = failed x k (effect.WriteFault s) args outcome.Aborted refl refl y.1
write-by false x k e args y = failed x k e args outcome.NotFound refl refl (same-reply e effect.None _ _ y)
write-by true x k _ args y = absurd y

flush-by : {station : Station} {h : Header} {reply : List ℕ} {a : Answer} → IsHeard Flush station h reply a → (k : State) (e : Effect) (args : AtaArgs)
    → AllowsAta station k.sectors h args Sync (replied e reply) → TellsTruly Flush k e reply a
flush-by {reply = reply} x k effect.Synced args y = flush-tells k effect.Synced reply _ refl
flush-by x k effect.SyncFault args y = failed x k effect.SyncFault args outcome.Aborted refl refl y
flush-by x k _ args y = absurd y

-- what a device that may be read-only answers to a read, and a read-only one to a write
read-unmarked : (read_only b : Bool) (span : Span) → as_marked read_only (if b then Give span else NotFound) ≡ (if b then Give span else NotFound)
read-unmarked read_only true span = refl
read-unmarked read_only false span = refl

aborted-by : (b : Bool) {station : Station} {h : Header} {reply : List ℕ} {a : Answer} {at : ℕ} {bytes : List ℕ} → IsHeard (Write at bytes) station h reply a
    → (k : State) (e : Effect) (args : AtaArgs)
    → AllowsAta station k.sectors h args (as_marked true (if b then Put (span_of (Write at bytes)) else NotFound)) (replied e reply)
    → TellsTruly (Write at bytes) k e reply a
aborted-by true x k e args y = failed x k e args outcome.Aborted refl refl (same-reply e effect.None _ _ y)
aborted-by false x k e args y = failed x k e args outcome.NotFound refl refl (same-reply e effect.None _ _ y)

ata-by : (read_only : Bool) (op : Op) {station : Station} {h : Header} {reply : List ℕ} {a : Answer} → IsHeard op station h reply a → (k : State) (e : Effect)
    (args : AtaArgs) → AllowsAta station k.sectors h args (as_marked read_only (asked_for station.sectors op)) (replied e reply) → TellsTruly op k e reply a
ata-by true (Write at bytes) x k e args y = aborted-by _ x k e args y
ata-by false (Write at bytes) {station} x k e args y = write-by _ x k e args (rw (unmarked (asked_for station.sectors (Write at bytes))) at y)
ata-by read_only (Read span) {station} x k e args y =
    read-by _ x k e args (rw (read-unmarked read_only (nat_le (span.at + span.count) station.sectors) span) at y)
ata-by read_only Flush x k e args y = flush-by x k e args y
ata-by _ _ x k e args y = tt

pub response-tells : (flush : FlushCommand) (op : Op) (id : TargetId) (remote local : Mac) (tag : ℕ) (station : Station) (k : State) (e : Effect)
    (reply : List ℕ) (a : Answer)
    → (command_of op == 0) ≡ true → CanSpell op → HasSectors op → Fits (request_header op id remote local tag)
    → CanReply station (request_header op id remote local tag)
    → Allows station k (request flush op id remote local tag) (verdict station k.lists (request flush op id remote local tag)) (replied e reply)
    → answer op (fields reply) (drop 24 reply) ≡ Some a → TellsTruly op k e reply a
response-tells flush op id remote local tag station k e reply a ata spell some fits can allows says =
    go (verdict station k.lists (request flush op id remote local tag)) refl allows
  where
    its-head : head (request flush op id remote local tag) ≡ Some (request_header op id remote local tag)
    its-head = request-head flush op id remote local tag fits

    is : fields (request flush op id remote local tag) ≡ request_header op id remote local tag
    is = head-fields _ _ its-head

    x : IsHeard op station (request_header op id remote local tag) reply a
    x = record { fits = fits; can = can; says = says }

    go : (v : Verdict) → verdict station k.lists (request flush op id remote local tag) ≡ v
        → Allows station k (request flush op id remote local tag) v (replied e reply)
        → TellsTruly op k e reply a
    go (Refused error) q y = refused x k e error _ (same-reply e effect.None reply _ (rw is at y))
    go (Lists c) q y = absurd (no-list-step station k.lists _ _ c its-head ata q)
    go (Ata d) q y = ata-by k.lists.read_only op x k e d.args (rw (is, request-asks flush op id remote local tag station k.lists d spell some fits q) at y)
    go _ q y = absurd (cc)
