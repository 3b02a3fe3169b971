-- A request is read as its header.
use Rattle.std.proofs.Common.{◌≡◌, ℕ, ◌-◌, List, ◌++◌, length, Some, ◌∙◌, ap, append_assoc}
use Rattle.std.specs.Prelude.{replicate}
use Rattle.aoe_frame.specs.declared.header.Header.{Header}
use Rattle.aoe_frame.specs.Header.{head, header_bytes, padded, Fits}
use Rattle.aoe_frame.proofs.HeaderLemmas.{head-header_bytes}

pub read-padded : (h : Header) (spelled args whole out : List ℕ) → spelled ≡ header_bytes h → whole ≡ spelled ++ args → out ≡ padded whole → Fits h
    → head out ≡ Some h
read-padded h spelled args whole out is_header joined is_padded fits =
    let zeros : List ℕ = replicate (60 - length whole) 0 in
    let first : whole ≡ header_bytes h ++ args = joined ∙ ap (λ l. l ++ args) is_header in
    let all : out ≡ header_bytes h ++ (args ++ zeros) =
    is_padded ∙ ap (λ l. l ++ zeros) first ∙ append_assoc (header_bytes h) args zeros in
    ap head all ∙ head-header_bytes h (args ++ zeros) fits
