-- Which frames count.
use Rattle.std.proofs.Common.{ℕ, ◌≡◌, true, List, drop, Some, refl}
use Rattle.aoe_frame.specs.Header.{head}
use Rattle.aoe_frame.specs.declared.header.Header.{Header}
use Rattle.aoe_tools.specs.Asking.{counted, is_response, reply_by}
use Rattle.aoe_tools.specs.declared.question.Question.{Question}

pub counted-by : (q : Question) (frame : List ℕ) (h : Header) → Some h ≡ head frame → is_response q h ≡ true → counted q frame ≡ reply_by q h (drop 24 frame)
unfolding counted
counted-by q frame h is here = rw (← is, here) refl
