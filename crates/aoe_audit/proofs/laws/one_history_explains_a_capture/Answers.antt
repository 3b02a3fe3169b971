use Rattle.std.proofs.Common.{[], ◌∙◌, map, sym}
use Rattle.aoe_audit.specs.Captured.{replies}
use Rattle.aoe_audit.specs.Judged.{frame_of_packet, start}
use Rattle.aoe_audit.proofs.Histories.{one-history}
use Rattle.aoe_audit.proofs.laws.one_history_explains_a_capture.Goals as goal

pub returns : goal.returns
returns c = λ station lists p g h a b.
    let frames = a.frames ∙ (λ i. map frame_of_packet ((sym a.asked ∙ b.asked) i)) ∙ sym b.frames in
    one-history station (start lists) g h [] [] (map frame_of_packet (replies station p)) frames a.allowed b.allowed a.uncut b.uncut (sym a.answered)
    (sym b.answered)
