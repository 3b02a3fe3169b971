-- What became of each request that a desk took, by its calls.
use Rattle.std.proofs.Common.{ℕ, ◌≡◌, ◌<◌, ◌-◌, ◌⊎◌, Bool, true, false, not, if◌then◌else◌, nat_eq, nat_lt, List, [], ◌∷◌, map, Option, Some, None, option_map, refl, subst, sym, ap, ◌∙◌, arith, inl, inr}
use Rattle.std.specs.List.{All}
use Rattle.std.proofs.lemmas.Bool.{cases_Bool, eqb-true, ltb-false, ltb-true}
use Rattle.std.proofs.lemmas.List.Elements.{All-head, All-tail}
use Rattle.aoe_base.specs.declared.counted.Ticket.{Ticket}
use Rattle.aoe_initiator.specs.declared.op.Op.{Op}
use Rattle.aoe_initiator.specs.declared.op.Op.TheVariants.{Flush as FlushOp}
use Rattle.aoe_initiator.specs.declared.outcome.Done.{Done}
use Rattle.aoe_initiator.specs.declared.outcome.Outcome.{Outcome}
use Rattle.aoe_initiator.specs.declared.outcome.Outcome.TheVariants as outcome
use Rattle.aoe_block.specs.declared.stage.Stage.{Stage}
use Rattle.aoe_block.specs.declared.stage.Stage.TheVariants.{Pending, Handed as PartHanded, Ended as PartEnded, Failed as PartFailed}
use Rattle.aoe_block.specs.Calls.{after_done, after_outcome, bytes_after, hand as hand_part, is_success, next_part, op_of}
use Rattle.aoe_block.specs.Parts.{Part}
use Rattle.aoe_block.specs.Stages.{is_handed, is_pending}
use Rattle.aoe_desk.specs.declared.flush.Flush.{Flush}
use Rattle.aoe_desk.specs.declared.flush.Flush.TheVariants.{No, Waiting, Handed, Ended, Failed}
use Rattle.aoe_desk.specs.declared.request.OpenRequest.{OpenRequest}
use Rattle.aoe_desk.specs.Desks.{IsNew}
use Rattle.aoe_desk.specs.Requests.{flush_ended, gave_up as gave_up_request, hand as hand_request, is_flush_handed, is_flush_waiting, next_op as next_of, settle as settle_request, without_waiting}
use Rattle.aoe_desk.specs.Runs.{after_all, Call}
use Rattle.aoe_desk.specs.Runs.Call.{Takes, Hands, Settles}
use Rattle.aoe_nbd_law.specs.Requests.{last_before, Asked, HasCome, IsCarriedOut, IsHanded, IsSettled}

-- ONE CALL MORE

pub handed-grows : (total max : ℕ) (call : Call) (calls : List Call) (ticket : Ticket) (o : Op) → IsHanded total max calls ticket o
    → IsHanded total max (call ∷ calls) ticket o
handed-grows total max (Hands own) calls ticket o x = inr x
handed-grows total max _ calls ticket o x = x

pub settled-grows : (call : Call) (calls : List Call) (done : Done) → IsSettled calls done → IsSettled (call ∷ calls) done
settled-grows (Settles own) calls done x = inr x
settled-grows _ calls done x = x

pub carried-grows : (total max : ℕ) (call : Call) (calls : List Call) (ticket : Ticket) (o : Op) (says : Outcome) → IsCarriedOut total max calls ticket o says
    → IsCarriedOut total max (call ∷ calls) ticket o says
carried-grows total max call calls ticket o says x = record {
  handed = handed-grows total max call calls ticket o x.handed;
  settled = settled-grows call calls _ x.settled;
}

abbrev pub come-grows : (total max : ℕ) (call : Call) (calls : List Call) (x : Asked) → HasCome total max calls x → HasCome total max (call ∷ calls) x
come-grows total max call calls x come = record {
  later = call ∷ come.later;
  request = come.request;
  earlier = come.earlier;
  order = ap (λ l. call ∷ l) come.order;
  is_new = come.is_new;
}

-- the tickets behind one, and before that of the flush, where it was handed
abbrev pub Range : ℕ → Option ℕ → ℕ → Type 0
Range since None n = since < n
Range since (Some flush) n = (since < n) × (n < flush)

abbrev pub range-behind : (since : ℕ) (before : Option ℕ) (n : ℕ) → Range since before n → since < n
range-behind since None n x = x
range-behind since (Some flush) n x = x.0

module _ (total max : ℕ) where
  -- an operation was carried out with a ticket of a range
  pub record Carried (calls : List Call) (since : ℕ → Type 0) (o : Op) (says : Outcome) : Type 0 where
    pub ticket : Ticket
    pub behind : since ticket.0
    pub out : IsCarriedOut total max calls ticket o says

  -- a part that was read or written
  pub record PartEnds (calls : List Call) (since : ℕ → Type 0) (w : Bool) (p q : Part) : Type 0 where
    pub says : Outcome
    pub carried : Carried calls since (op_of w p) says
    pub well : is_success w p.count says ≡ true
    pub bytes_are : q.bytes ≡ bytes_after says p.bytes

  abbrev pub StageFrom : List Call → (ℕ → Type 0) → Bool → Part → Part → Stage → Type 0
  StageFrom calls since w p q Pending = q.bytes ≡ p.bytes
  StageFrom calls since w p q (PartHanded ticket) = (q.bytes ≡ p.bytes) × (since ticket.0) × IsHanded total max calls ticket (op_of w p)
  StageFrom calls since w p q PartEnded = PartEnds calls since w p q
  StageFrom calls since w p q PartFailed = Unit {0}

  -- what became of a part
  pub record PartFrom (calls : List Call) (since : ℕ → Type 0) (w : Bool) (p q : Part) : Type 0 where
    pub at_is : q.at ≡ p.at
    pub count_is : q.count ≡ p.count
    pub stage_from : StageFrom calls since w p q q.stage

  abbrev pub PartsFrom : List Call → (ℕ → Type 0) → Bool → List Part → List Part → Type 0
  PartsFrom calls since w [] [] = Unit {0}
  PartsFrom calls since w (p ∷ ps) (q ∷ qs) = PartFrom calls since w p q × PartsFrom calls since w ps qs
  PartsFrom calls since w [] (q ∷ qs) = ⊥
  PartsFrom calls since w (p ∷ ps) [] = ⊥

  -- the flush was done, behind all parts
  pub record FlushEnds (calls : List Call) (since : ℕ) (before : Option ℕ) (parts : ℕ) : Type 0 where
    pub ticket : Ticket
    pub behind : since < ticket.0
    pub out : IsCarriedOut total max calls ticket FlushOp outcome.Flushed
    pub before_is : before ≡ Some ticket.0
    pub none_left : parts ≡ 0

  pub record FlushOut (calls : List Call) (since : ℕ) (before : Option ℕ) (parts : ℕ) (ticket : Ticket) : Type 0 where
    pub behind : since < ticket.0
    pub handed : IsHanded total max calls ticket FlushOp
    pub before_is : before ≡ Some ticket.0
    pub none_left : parts ≡ 0

  -- how far the flush is, where so many parts weren't handed
  abbrev pub FlushFrom : List Call → ℕ → Option ℕ → ℕ → Flush → Type 0
  FlushFrom calls since before parts No = (before ≡ None) ⊎ (parts ≡ 0)
  FlushFrom calls since before parts Waiting = before ≡ None
  FlushFrom calls since before parts (Handed ticket) = FlushOut calls since before parts ticket
  FlushFrom calls since before parts Ended = FlushEnds calls since before parts
  FlushFrom calls since before parts Failed = parts ≡ 0

  -- what became of a request
  pub record Traced (calls : List Call) (r : OpenRequest) : Type 0 where
    pub asked : Asked
    pub come : HasCome total max calls asked
    pub handle_is : r.handle ≡ asked.handle
    pub reads_is : r.reads ≡ asked.reads
    pub lasts_is : r.lasts ≡ asked.lasts
    pub write_is : r.block.write ≡ not asked.reads
    pub before : Option ℕ
    pub parts_from : PartsFrom calls (Range (last_before come) before) (not asked.reads) come.request.block.parts r.block.parts
    pub flush_from : FlushFrom calls (last_before come) before r.parts r.flush

  -- A CALL MORE

  pub carried-more : (call : Call) (calls : List Call) (since : ℕ → Type 0) (o : Op) (says : Outcome) → Carried calls since o says → Carried (call ∷ calls) since o says
  carried-more call calls since o says x = record { ticket = x.ticket; behind = x.behind; out = carried-grows total max call calls x.ticket o says x.out }

  pub stage-more : (call : Call) (calls : List Call) (since : ℕ → Type 0) (w : Bool) (p q : Part) (s : Stage) → StageFrom calls since w p q s
      → StageFrom (call ∷ calls) since w p q s
  stage-more call calls since w p q Pending x = x
  stage-more call calls since w p q (PartHanded ticket) x = (x.0, x.1, handed-grows total max call calls ticket (op_of w p) x.2)
  stage-more call calls since w p q PartEnded x = record {
    says = x.says;
    carried = carried-more call calls since (op_of w p) x.says x.carried;
    well = x.well;
    bytes_are = x.bytes_are;
  }
  stage-more call calls since w p q PartFailed x = tt

  pub part-more : (call : Call) (calls : List Call) (since : ℕ → Type 0) (w : Bool) (p q : Part) → PartFrom calls since w p q → PartFrom (call ∷ calls) since w p q
  part-more call calls since w p q x = record {
    at_is = x.at_is;
    count_is = x.count_is;
    stage_from = stage-more call calls since w p q q.stage x.stage_from;
  }

  pub parts-more : (call : Call) (calls : List Call) (since : ℕ → Type 0) (w : Bool) (ps qs : List Part) → PartsFrom calls since w ps qs
      → PartsFrom (call ∷ calls) since w ps qs
  parts-more call calls since w [] [] x = tt
  parts-more call calls since w (p ∷ ps) (q ∷ qs) x = (part-more call calls since w p q x.0, parts-more call calls since w ps qs x.1)
  parts-more call calls since w [] (q ∷ qs) x = x
  parts-more call calls since w (p ∷ ps) [] x = x

  pub flush-more : (call : Call) (calls : List Call) (since : ℕ) (before : Option ℕ) (parts : ℕ) (f : Flush) → FlushFrom calls since before parts f
      → FlushFrom (call ∷ calls) since before parts f
  flush-more call calls since before parts No x = x
  flush-more call calls since before parts Waiting x = x
  flush-more call calls since before parts (Handed ticket) x = record {
    behind = x.behind;
    handed = handed-grows total max call calls ticket FlushOp x.handed;
    before_is = x.before_is;
    none_left = x.none_left;
  }
  flush-more call calls since before parts Ended x = record {
    ticket = x.ticket;
    behind = x.behind;
    out = carried-grows total max call calls x.ticket FlushOp outcome.Flushed x.out;
    before_is = x.before_is;
    none_left = x.none_left;
  }
  flush-more call calls since before parts Failed x = x

  abbrev pub traced-more : (call : Call) (calls : List Call) (r : OpenRequest) → Traced calls r → Traced (call ∷ calls) r
  traced-more call calls r x = record {
    asked = x.asked;
    come = come-grows total max call calls x.asked x.come;
    handle_is = x.handle_is;
    reads_is = x.reads_is;
    lasts_is = x.lasts_is;
    write_is = x.write_is;
    before = x.before;
    parts_from = parts-more call calls (Range (last_before x.come) x.before) (not x.asked.reads) x.come.request.block.parts r.block.parts x.parts_from;
    flush_from = flush-more call calls (last_before x.come) x.before r.parts r.flush x.flush_from;
  }

  -- A REQUEST COMES

  parts-new : (calls : List Call) (since : ℕ → Type 0) (w : Bool) (ps : List Part) → All (λ p. p.stage ≡ Pending) ps → PartsFrom calls since w ps ps
  parts-new calls since w [] all = tt
  parts-new calls since w (p ∷ ps) all = (
    record { at_is = refl; count_is = refl; stage_from = rw (All-head (λ (p : Part). p.stage ≡ Pending) p ps all) refl },
    parts-new calls since w ps (All-tail (λ (p : Part). p.stage ≡ Pending) p ps all),
  )

  flush-new : (calls : List Call) (since parts : ℕ) (lasts : Bool) (f : Flush) → f ≡ (if lasts then Waiting else No) → FlushFrom calls since None parts f
  flush-new calls since parts true f is = rw is refl
  flush-new calls since parts false f is = rw is (inl refl)

  pub traced-new : (calls : List Call) (x : Asked) (r : OpenRequest) → IsNew x.handle x.reads x.lasts x.at max x.bytes r → Traced (Takes r ∷ calls) r
  traced-new calls x r new = record {
    asked = x;
    come = record { later = []; request = r; earlier = calls; order = refl; is_new = new };
    handle_is = new.handle_is;
    reads_is = new.reads_is;
    lasts_is = new.lasts_is;
    write_is = new.write_is;
    before = None;
    parts_from = parts-new (Takes r ∷ calls) (Range (after_all total max calls).last None) (not x.reads) r.block.parts new.cut.pending;
    flush_from = flush-new (Takes r ∷ calls) (after_all total max calls).last r.parts x.lasts r.flush new.flush_is;
  }

  -- AN OPERATION IS HANDED

  op-same : (w : Bool) (p q : Part) → q.at ≡ p.at → q.count ≡ p.count → q.bytes ≡ p.bytes → op_of w q ≡ op_of w p
  op-same true p q a c b = rw (a, b) refl
  op-same false p q a c b = rw (a, c) refl

  pending-stage : (s : Stage) → is_pending s ≡ true → s ≡ Pending
  pending-stage Pending is = refl
  pending-stage _ is = absurd (cc)

  parts-handed : (calls : List Call) (since : ℕ → Type 0) (w : Bool) (ticket : Ticket) (ps qs : List Part) (q : Part) → since ticket.0
      → next_part qs ≡ Some q → IsHanded total max calls ticket (op_of w q) → PartsFrom calls since w ps qs
      → PartsFrom calls since w ps (hand_part ticket qs)
  parts-handed calls since w ticket [] [] q lt next handed x = tt
  parts-handed calls since w ticket [] (own ∷ qs) q lt next handed x = absurd x
  parts-handed calls since w ticket (p ∷ ps) [] q lt next handed x = absurd x
  parts-handed calls since w ticket (p ∷ ps) (own ∷ qs) q lt next handed x = elim (cases_Bool (is_pending own.stage)) [
    | inl is ↦ (
        let same : own ≡ q = (let e = rw is at next in cc) in
        let kept : own.bytes ≡ p.bytes = rw (pending-stage own.stage is) at x.0.stage_from in
        let op : op_of w q ≡ op_of w p = ap (op_of w) (sym same) ∙ op-same w p own x.0.at_is x.0.count_is kept in
        rw is (record { at_is = x.0.at_is; count_is = x.0.count_is; stage_from = (kept, lt, rw op at handed) }, x.1))
    | inr not ↦ rw not (x.0, parts-handed calls since w ticket ps qs q lt (rw not at next) handed x.1)
  ]

  mapped : (w : Bool) (o : Option Part) (op : Op) → option_map (op_of w) o ≡ Some op → (q : Part) × (o ≡ Some q) × (op_of w q ≡ op)
  mapped w None op e = absurd (cc)
  mapped w (Some q) op e = (q, refl, cc)

  flush-next : (f : Flush) (op : Op) → (if is_flush_waiting f then Some FlushOp else None) ≡ Some op → op ≡ FlushOp
  flush-next Waiting op e = cc
  flush-next No op e = absurd (cc)
  flush-next (Handed ticket) op e = absurd (cc)
  flush-next Ended op e = absurd (cc)
  flush-next Failed op e = absurd (cc)

  -- each part that was handed was so before the flush
  stage-tight : (calls : List Call) (since : ℕ) (before : Option ℕ) (ticket : ℕ) (w : Bool) (p q : Part)
      → ((t : Ticket) (o : Op) → IsHanded total max calls t o → t.0 < ticket) → (s : Stage) → StageFrom calls (Range since before) w p q s
      → StageFrom calls (Range since (Some ticket)) w p q s
  stage-tight calls since before ticket w p q low Pending x = x
  stage-tight calls since before ticket w p q low (PartHanded t) x = (x.0, (range-behind since before t.0 x.1, low t (op_of w p) x.2), x.2)
  stage-tight calls since before ticket w p q low PartEnded x =
      let c = x.carried in
      record {
        says = x.says;
        carried = record { ticket = c.ticket; behind = (range-behind since before c.ticket.0 c.behind, low c.ticket (op_of w p) c.out.handed); out = c.out };
        well = x.well;
        bytes_are = x.bytes_are;
      }
  stage-tight calls since before ticket w p q low PartFailed x = tt

  parts-tight : (calls : List Call) (since : ℕ) (before : Option ℕ) (ticket : ℕ) (w : Bool)
      → ((t : Ticket) (o : Op) → IsHanded total max calls t o → t.0 < ticket) → (ps qs : List Part) → PartsFrom calls (Range since before) w ps qs
      → PartsFrom calls (Range since (Some ticket)) w ps qs
  parts-tight calls since before ticket w low [] [] x = tt
  parts-tight calls since before ticket w low [] (q ∷ qs) x = x
  parts-tight calls since before ticket w low (p ∷ ps) [] x = x
  parts-tight calls since before ticket w low (p ∷ ps) (q ∷ qs) x = (
    record { at_is = x.0.at_is; count_is = x.0.count_is; stage_from = stage-tight calls since before ticket w p q low q.stage x.0.stage_from },
    parts-tight calls since before ticket w low ps qs x.1,
  )

  -- while parts wait the flush isn't handed
  none-before : (calls : List Call) (since : ℕ) (before : Option ℕ) (parts : ℕ) (f : Flush) → FlushFrom calls since before parts f → 0 < parts → before ≡ None
  none-before calls since before parts No (inl is) lt = is
  none-before calls since before parts No (inr zero_left) lt = absurd (omega (arith, zero_left, lt))
  none-before calls since before parts Waiting x lt = x
  none-before calls since before parts (Handed ticket) x lt = absurd (let z = x.none_left in omega (arith, z, lt))
  none-before calls since before parts Ended x lt = absurd (let z = x.none_left in omega (arith, z, lt))
  none-before calls since before parts Failed x lt = absurd (omega (arith, x, lt))

  -- one part fewer waits
  flush-fewer : (calls : List Call) (since : ℕ) (before : Option ℕ) (parts : ℕ) (f : Flush) → FlushFrom calls since before parts f
      → FlushFrom calls since before (parts - 1) f
  flush-fewer calls since before parts No (inl is) = inl is
  flush-fewer calls since before parts No (inr zero_left) = inr (omega (arith, zero_left))
  flush-fewer calls since before parts Waiting x = x
  flush-fewer calls since before parts (Handed ticket) x =
      record { behind = x.behind; handed = x.handed; before_is = x.before_is; none_left = let z = x.none_left in omega (arith, z) }
  flush-fewer calls since before parts Ended x =
      record { ticket = x.ticket; behind = x.behind; out = x.out; before_is = x.before_is; none_left = let z = x.none_left in omega (arith, z) }
  flush-fewer calls since before parts Failed x = omega (arith, x)

  pub traced-handed : (calls : List Call) (r : OpenRequest) (ticket : Ticket) (op : Op) → (x : Traced calls r) → last_before x.come < ticket.0
      → ((t : Ticket) (o : Op) → IsHanded total max calls t o → t.0 < ticket.0)
      → next_of r ≡ Some op → IsHanded total max (Hands ticket ∷ calls) ticket op → Traced (Hands ticket ∷ calls) (hand_request ticket r)
  traced-handed calls r ticket op x lt low next handed =
      let come = come-grows total max (Hands ticket) calls x.asked x.come in
      let since = last_before x.come in
      let ps = x.come.request.block.parts in
      elim (cases_Bool (nat_lt 0 r.parts)) [
        | inl some ↦ (
            let m = mapped r.block.write (next_part r.block.parts) op (rw some at next) in
            let same : op_of (not x.asked.reads) m.0 ≡ op = ap (λ w. op_of w m.0) (sym x.write_is) ∙ m.2 in
            let none = none-before calls since x.before r.parts r.flush x.flush_from (ltb-true 0 r.parts some) in
            let from : PartsFrom calls (Range since None) (not x.asked.reads) ps r.block.parts
            = subst (λ b. PartsFrom calls (Range since b) (not x.asked.reads) ps r.block.parts) none x.parts_from in
            let flush : FlushFrom calls since None (r.parts - 1) r.flush
            = subst (λ b. FlushFrom calls since b (r.parts - 1) r.flush) none (flush-fewer calls since x.before r.parts r.flush x.flush_from) in
            rw some (record {
              asked = x.asked;
              come = come;
              handle_is = x.handle_is;
              reads_is = x.reads_is;
              lasts_is = x.lasts_is;
              write_is = x.write_is;
              before = None;
              parts_from = parts-handed (Hands ticket ∷ calls) (Range since None) (not x.asked.reads) ticket ps r.block.parts m.0 lt m.1
                  (rw same handed) (parts-more (Hands ticket) calls (Range since None) (not x.asked.reads) ps r.block.parts from);
              flush_from = flush-more (Hands ticket) calls since None (r.parts - 1) r.flush flush;
            }))
        | inr none ↦ (
            let is = flush-next r.flush op (rw none at next) in
            let le = ltb-false 0 r.parts none in
            rw none (record {
              asked = x.asked;
              come = come;
              handle_is = x.handle_is;
              reads_is = x.reads_is;
              lasts_is = x.lasts_is;
              write_is = x.write_is;
              before = Some ticket.0;
              parts_from = parts-more (Hands ticket) calls (Range since (Some ticket.0)) (not x.asked.reads) ps r.block.parts
                  (parts-tight calls since x.before ticket.0 (not x.asked.reads) low ps r.block.parts x.parts_from);
              flush_from = record { behind = lt; handed = rw is at handed; before_is = refl; none_left = omega (arith, le) };
            }))
      ]

  -- AN OUTCOME COMES

  abbrev ticket-of : ℕ → Ticket
  ticket-of n = record { 0 = n }

  abbrev done-with : Ticket → Outcome → Done
  done-with ticket says = record { ticket = ticket; outcome = says }

  own-ticket : (own : Ticket) (done : Done) → nat_eq own.0 done.ticket.0 ≡ true → own ≡ done.ticket
  own-ticket own done is = ap ticket-of (eqb-true own.0 done.ticket.0 is)

  ended-part : (calls : List Call) (since : ℕ → Type 0) (w : Bool) (done : Done) (p q : Part) (s : Stage) → q.at ≡ p.at → q.count ≡ p.count
      → StageFrom calls since w p q s → is_handed done.ticket.0 s ≡ true
      → PartFrom (Settles done ∷ calls) since w p (after_outcome w done.outcome q)
  ended-part calls since w done p q (PartHanded own) a c x is = elim (cases_Bool (is_success w q.count done.outcome)) [
    | inl well ↦ (
        let same = own-ticket own done is in
        let ends : PartEnds (Settles done ∷ calls) since w p (record q { bytes = bytes_after done.outcome q.bytes; stage = PartEnded }) = record {
          says = done.outcome;
          carried = record {
            ticket = done.ticket;
            behind = rw same at x.1;
            out = record { handed = rw same at x.2; settled = inl refl };
          };
          well = rw c at well;
          bytes_are = ap (bytes_after done.outcome) x.0;
        } in
        rw well (record { at_is = a; count_is = c; stage_from = ends }))
    | inr not ↦ rw not (record { at_is = a; count_is = c; stage_from = tt })
  ]
  ended-part calls since w done p q Pending a c x is = absurd (cc)
  ended-part calls since w done p q PartEnded a c x is = absurd (cc)
  ended-part calls since w done p q PartFailed a c x is = absurd (cc)

  settled-part : (calls : List Call) (since : ℕ → Type 0) (w : Bool) (done : Done) (p q : Part) → PartFrom calls since w p q
      → PartFrom (Settles done ∷ calls) since w p (after_done w done q)
  settled-part calls since w done p q x = elim (cases_Bool (is_handed done.ticket.0 q.stage)) [
    | inl is ↦ rw is (ended-part calls since w done p q q.stage x.at_is x.count_is x.stage_from is)
    | inr other ↦ rw other (part-more (Settles done) calls since w p q x)
  ]

  settled-parts : (calls : List Call) (since : ℕ → Type 0) (w : Bool) (done : Done) (ps qs : List Part) → PartsFrom calls since w ps qs
      → PartsFrom (Settles done ∷ calls) since w ps (map (after_done w done) qs)
  settled-parts calls since w done [] [] x = tt
  settled-parts calls since w done (p ∷ ps) (q ∷ qs) x = (settled-part calls since w done p q x.0, settled-parts calls since w done ps qs x.1)
  settled-parts calls since w done [] (q ∷ qs) x = absurd x
  settled-parts calls since w done (p ∷ ps) [] x = absurd x

  flushed-by : (calls : List Call) (since : ℕ) (before : Option ℕ) (parts : ℕ) (done : Done) (f : Flush) → FlushFrom calls since before parts f
      → is_flush_handed done.ticket.0 f ≡ true
      → (says : Outcome) → done.outcome ≡ says → FlushFrom (Settles done ∷ calls) since before parts (flush_ended says)
  flushed-by calls since before parts done (Handed own) x is outcome.Flushed says =
      let same = own-ticket own done is in
      record {
        ticket = done.ticket;
        behind = rw same at x.behind;
        out = record { handed = rw same at x.handed; settled = inl (ap (done-with done.ticket) says) };
        before_is = rw same at x.before_is;
        none_left = x.none_left;
      }
  flushed-by calls since before parts done (Handed own) x is _ says = x.none_left
  flushed-by calls since before parts done No x is o says = absurd (cc)
  flushed-by calls since before parts done Waiting x is o says = absurd (cc)
  flushed-by calls since before parts done Ended x is o says = absurd (cc)
  flushed-by calls since before parts done Failed x is o says = absurd (cc)

  pub traced-settled : (calls : List Call) (done : Done) (r : OpenRequest) → Traced calls r → Traced (Settles done ∷ calls) (settle_request done r)
  traced-settled calls done r x =
      let come = come-grows total max (Settles done) calls x.asked x.come in
      elim (cases_Bool (is_flush_handed done.ticket.0 r.flush)) [
        | inl is ↦ rw is (record {
          asked = x.asked;
          come = come;
          handle_is = x.handle_is;
          reads_is = x.reads_is;
          lasts_is = x.lasts_is;
          write_is = x.write_is;
          before = x.before;
          parts_from = parts-more (Settles done) calls (Range (last_before x.come) x.before) (not x.asked.reads) x.come.request.block.parts r.block.parts x.parts_from;
          flush_from = flushed-by calls (last_before x.come) x.before r.parts done r.flush x.flush_from is done.outcome refl;
        })
        | inr other ↦ rw other (record {
          asked = x.asked;
          come = come;
          handle_is = x.handle_is;
          reads_is = x.reads_is;
          lasts_is = x.lasts_is;
          write_is = x.write_is;
          before = x.before;
          parts_from = rw x.write_is (settled-parts calls (Range (last_before x.come) x.before) (not x.asked.reads) done x.come.request.block.parts r.block.parts x.parts_from);
          flush_from = flush-more (Settles done) calls (last_before x.come) x.before r.parts r.flush x.flush_from;
        })
      ]

  -- A REQUEST IS GIVEN UP

  flush-without : (calls : List Call) (since : ℕ) (before : Option ℕ) (parts : ℕ) (f : Flush) → FlushFrom calls since before parts f
      → FlushFrom calls since before 0 (without_waiting f)
  flush-without calls since before parts Waiting x = inl x
  flush-without calls since before parts No x = inr refl
  flush-without calls since before parts (Handed ticket) x = record { behind = x.behind; handed = x.handed; before_is = x.before_is; none_left = refl }
  flush-without calls since before parts Ended x = record { ticket = x.ticket; behind = x.behind; out = x.out; before_is = x.before_is; none_left = refl }
  flush-without calls since before parts Failed x = refl

  pub traced-gave-up : (calls : List Call) (r : OpenRequest) → Traced calls r → Traced calls (gave_up_request r)
  traced-gave-up calls r x = record {
    asked = x.asked;
    come = x.come;
    handle_is = x.handle_is;
    reads_is = x.reads_is;
    lasts_is = x.lasts_is;
    write_is = x.write_is;
    before = x.before;
    parts_from = x.parts_from;
    flush_from = flush-without calls (last_before x.come) x.before r.parts r.flush x.flush_from;
  }
