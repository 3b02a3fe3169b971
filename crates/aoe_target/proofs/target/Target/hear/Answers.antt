use Rattle.std.proofs.Common.{◌≡◌, ◌∙◌, false, true, ap, refl, sym}
use Rattle.aoe_disk.proofs.Runs.{logs_none}
use Rattle.aoe_lists.specs.Settings.{Settings}
use Rattle.aoe_ata.specs.declared.decision.AtaDecision.{AtaDecision}
use Rattle.aoe_target.specs.Verdict.{as_marked, marked}
use Rattle.aoe_target.specs.Receive.{calls_for, is_edit_fault, is_fault, is_faulty}
use Rattle.std.specs.Option.{option_map}
use Rattle.aoe_target.specs.Sectors.{sectors_of}
use Rattle.aoe_target.specs.Mounted.{Mounted, device_of}
use Rattle.aoe_target.specs.declared.heard.Effect.TheVariants as effect
use Rattle.aoe_target.specs.declared.verdict.Verdict.TheVariants.{Ignored, Silent, Refused, Lists, Ata}
use Rattle.aoe_target.specs.declared.heard.Heard.TheVariants as heard
use Rattle.aoe_target.proofs.ReceivesLemmas.{by_it, keeps_lists, unmoved}
use Rattle.aoe_target.proofs.ReceiveLemmas.{same_sectors, step_firm, unheard, judged_is, ignored_step, silent_step, refused_step, lists_step, ata_step}
use Rattle.aoe_target.proofs.target.Target.hear.Goals as goal

pub returns-in_default-clause-receives : goal.returns-in_default-clause-receives
returns-in_default-clause-receives g c =
    let t = c.args.self.now in
    let d = device_of g.S.Store.state g.D.Disk.state t in
    let v = unheard t.station t.keep.lists c.args.frame.now c.in_default.ensures.there in
    unmoved _ _ t _ _ _ Ignored (record {
      by = v;
      rest = refl;
      no_fault = refl;
      kept = refl;
      silent = λ _. c.clear.ensures;
      ignored = λ _. c.clear.ensures;
      step = λ k h. ignored_step t.station d d k c.args.frame.now h v refl;
    })

pub returns-in-Ignored-clause-receives : goal.returns-in-Ignored-clause-receives
returns-in-Ignored-clause-receives g c =
    let v = judged_is _ _ Ignored c.in-Some.ensures.there c.in-Some.ensures.fields c.args_of.ensures c.lists-kept.ensures c.in-Ignored.ensures.verdict in
    let t : Mounted _ _ = record { station = c.self.inside.station; keep = c.self.inside.keep; store = c.self.inside.store } in
    rw (← c.self.view_is) (unmoved _ _ t _ _ _ Ignored (record {
      by = v;
      rest = refl;
      no_fault = refl;
      kept = refl;
      silent = λ _. c.clear-in-Ignored.ensures;
      ignored = λ _. c.clear-in-Ignored.ensures;
      step = λ k h. ignored_step t.station _ _ k c.args.frame.now h v refl;
    }))

pub returns-in-Silent-clause-receives : goal.returns-in-Silent-clause-receives
returns-in-Silent-clause-receives g c =
    let v = judged_is _ _ Silent c.in-Some.ensures.there c.in-Some.ensures.fields c.args_of.ensures c.lists-kept.ensures c.in-Silent.ensures.verdict in
    let t : Mounted _ _ = record { station = c.self.inside.station; keep = c.self.inside.keep; store = c.self.inside.store } in
    rw (← c.self.view_is) (unmoved _ _ t _ _ _ Silent (record {
      by = v;
      rest = refl;
      no_fault = refl;
      kept = refl;
      silent = λ _. c.clear-in-Silent.ensures;
      ignored = λ _. c.clear-in-Silent.ensures;
      step = λ k h. silent_step t.station _ _ k c.args.frame.now h v refl;
    }))

pub returns-in-Refused-clause-receives : goal.returns-in-Refused-clause-receives
returns-in-Refused-clause-receives g c =
    let v = judged_is _ _ (Refused c.in-Refused.error) c.in-Some.ensures.there c.in-Some.ensures.fields c.args_of.ensures c.lists-kept.ensures
    c.in-Refused.ensures.verdict in
    let t : Mounted _ _ = record { station = c.self.inside.station; keep = c.self.inside.keep; store = c.self.inside.store } in
    rw (← c.self.view_is) (unmoved _ _ t _ _ _ (Refused c.in-Refused.error) (record {
      by = v;
      rest = refl;
      no_fault = refl;
      kept = refl;
      silent = λ (clash : heard.Replied effect.None ≡ heard.Silent). absurd cc;
      ignored = λ (clash : heard.Replied effect.None ≡ heard.Ignored). absurd cc;
      step = λ k h. refused_step t.station _ _ k c.args.frame.now h c.copy.result c.in-Refused.error c.refuse.new.out.items v
          (c.copy.ensures ∙ c.in-Some.ensures.fields) c.refuse.ensures refl;
    }))

pub returns-in-Lists-clause-receives : goal.returns-in-Lists-clause-receives
returns-in-Lists-clause-receives g c =
    let v =
    judged_is _ _ (Lists c.in-Lists.command) c.in-Some.ensures.there c.in-Some.ensures.fields c.args_of.ensures c.lists-kept.ensures
    c.in-Lists.ensures.verdict in
    let old : Mounted _ _ = record { station = c.self.inside.station; keep = c.self.inside.keep; store = c.self.inside.store } in
    let new : Mounted _ _ = record { station = c.self.inside.station; keep = c.tell.new.keep; store = c.self.inside.store } in
    let calls = by_it g.S.Store.state g.D.Disk.state _ c.tell.result old new (Lists c.in-Lists.command) v
    (record { call = tt; log = logs_none (g.S.Store.state old.store); idle = λ _. refl; edit = c.tell.ensures.edit; unedited = c.tell.ensures.idle }) in
    rw (← c.self.view_is) (record {
      station = refl;
      step = λ k h. lists_step c.self.inside.station _ _ k c.args.frame.now h c.in-Lists.command c.tell.result c.tell.new.out.items v c.tell.ensures.allowed
          c.tell.ensures.keeps refl;
      silent = c.tell.ensures.empty;
      ignored = λ is. absurd (c.tell.ensures.heard is);
      call = calls.call;
      log = calls.log;
      idle = calls.idle;
      edit = calls.edit;
      unedited = calls.unedited;
      fault = λ (is : is_faulty c.tell.result ≡ true). let clash : false ≡ true = sym c.tell.ensures.no_fault ∙ is in absurd cc;
      edit_fault = c.tell.ensures.unkept;
    })

pub returns-in-Ata-clause-receives : goal.returns-in-Ata-clause-receives
returns-in-Ata-clause-receives g c =
    let d : AtaDecision = record c.in-Ata.decision { answer = as_marked c.kept.inside.read_only c.in-Ata.decision.answer } in
    let v = judged_is _ _ (Ata d) c.in-Some.ensures.there c.in-Some.ensures.fields c.args_of.ensures c.lists-kept.ensures
    (ap (λ (lists : Settings). marked lists.read_only (Ata c.in-Ata.decision)) c.kept.view_is ∙ c.in-Ata.ensures.verdict) in
    let e = c.serve-effect.result in
    let old : Mounted _ _ = record { station = c.self.inside.station; keep = c.self.inside.keep; store = c.self.inside.store } in
    let new : Mounted _ _ = record { station = c.self.inside.station; keep = c.self.inside.keep; store = c.serve-effect.new.store } in
    let calls = by_it g.S.Store.state g.D.Disk.state _ (heard.Replied e) old new (Ata d) v
    (record { call = c.serve-effect.ensures.call; log = c.serve-effect.ensures.log; idle = c.serve-effect.ensures.idle; edit = tt; unedited = λ _. refl }) in
    let kept : is_edit_fault e ≡ false =
    keeps_lists c.self.inside.station
    (option_map sectors_of (g.S.Store.state c.self.inside.store).contents) c.in-Some.header d.args d.answer e c.serve-effect.new.out.items
    c.serve-effect.ensures.allowed in
    rw (← c.self.view_is) (record {
      station = refl;
      step = λ k h. ata_step c.self.inside.station _ _ k c.args.frame.now h c.in-Some.header d e c.serve-effect.new.out.items v c.in-Some.ensures.fields
          c.serve-effect.ensures.allowed c.serve-effect.ensures.leaves refl refl;
      silent = λ (clash : heard.Replied e ≡ heard.Silent). absurd cc;
      ignored = λ (clash : heard.Replied e ≡ heard.Ignored). absurd cc;
      call = calls.call;
      log = calls.log;
      idle = calls.idle;
      edit = calls.edit;
      unedited = calls.unedited;
      fault = c.serve-effect.ensures.fault;
      edit_fault = λ (is : is_edit_fault e ≡ true). let clash : false ≡ true = sym kept ∙ is in absurd cc;
    })

pub returns-in_default-clause-under : goal.returns-in_default-clause-under
returns-in_default-clause-under g c =
    rw (unheard c.args.self.now.station c.args.self.now.keep.lists c.args.frame.now c.in_default.ensures.there) refl

pub returns-in-Ignored-clause-under : goal.returns-in-Ignored-clause-under
returns-in-Ignored-clause-under g c =
    let v = judged_is _ _ Ignored c.in-Some.ensures.there c.in-Some.ensures.fields c.args_of.ensures c.lists-kept.ensures c.in-Ignored.ensures.verdict in
    rw (← c.self.view_is, v) refl

pub returns-in-Silent-clause-under : goal.returns-in-Silent-clause-under
returns-in-Silent-clause-under g c =
    let v = judged_is _ _ Silent c.in-Some.ensures.there c.in-Some.ensures.fields c.args_of.ensures c.lists-kept.ensures c.in-Silent.ensures.verdict in
    rw (← c.self.view_is, v) refl

pub returns-in-Refused-clause-under : goal.returns-in-Refused-clause-under
returns-in-Refused-clause-under g c =
    let v = judged_is _ _ (Refused c.in-Refused.error) c.in-Some.ensures.there c.in-Some.ensures.fields c.args_of.ensures c.lists-kept.ensures
    c.in-Refused.ensures.verdict in
    rw (← c.self.view_is, v) refl

pub returns-in-Lists-clause-under : goal.returns-in-Lists-clause-under
returns-in-Lists-clause-under g c =
    let v =
    judged_is _ _ (Lists c.in-Lists.command) c.in-Some.ensures.there c.in-Some.ensures.fields c.args_of.ensures c.lists-kept.ensures
    c.in-Lists.ensures.verdict in
    rw (← c.self.view_is, v) refl

pub returns-in-Ata-clause-under : goal.returns-in-Ata-clause-under
returns-in-Ata-clause-under g c =
    let d : AtaDecision = record c.in-Ata.decision { answer = as_marked c.kept.inside.read_only c.in-Ata.decision.answer } in
    let v = judged_is _ _ (Ata d) c.in-Some.ensures.there c.in-Some.ensures.fields c.args_of.ensures c.lists-kept.ensures
    (ap (λ (lists : Settings). marked lists.read_only (Ata c.in-Ata.decision)) c.kept.view_is ∙ c.in-Ata.ensures.verdict) in
    rw (← c.self.view_is, v) c.serve-effect.ensures.under

pub invariant_of-self-in-Ata : goal.invariant_of-self-in-Ata
invariant_of-self-in-Ata g c =
    let same = same_sectors g.S.Store.state (calls_for (as_marked c.kept.inside.read_only c.in-Ata.decision.answer))
    (is_fault c.serve-effect.result) c.self.inside.store c.serve-effect.new.store c.serve-effect.ensures.call c.serve-effect.ensures.idle in
    (record { size = c.self.invariant.0.size ∙ sym same; bound = c.self.invariant.0.bound; room = c.self.invariant.0.room }, c.self.invariant.1)

pub returns-in-Lists-clause-firm : goal.returns-in-Lists-clause-firm
returns-in-Lists-clause-firm g c = λ lasts. step_firm c.self.inside.station c.args.frame.now _ _ _ c.tell.ensures.allowed
