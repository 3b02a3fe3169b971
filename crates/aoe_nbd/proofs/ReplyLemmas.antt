-- A stream of replies is one list of them, for a client that knows how much it asked for.
use Rattle.std.proofs.Common.{◌≡◌, ℕ, ◌^◌, ◌<◌, List, [], ◌∷◌, ◌++◌, length, take, drop, refl, sym, ap, ◌∙◌}
use Rattle.std.specs.Prelude.{◌==◌, if◌then◌else◌}
use Rattle.std.specs.Int.{w32, w64, from_be_bytes}
use Rattle.std.specs.List.{flat_map, AllByRecursion}
use Rattle.std.proofs.lemmas.Nat.{from_be_bytes-to_be_bytes_4, from_be_bytes-to_be_bytes_8}
use Rattle.aoe_nbd.specs.Replies.{IsReply, Reply, reply_bytes, reply_head}
use Rattle.aoe_nbd.proofs.MessageLemmas.{same-front}

error-back : (e h : ℕ) (x : List ℕ) → e < 2 ^ 32 → from_be_bytes w32 (take 4 (drop 4 (reply_head e h ++ x))) ≡ e
error-back e h x small = from_be_bytes-to_be_bytes_4 e small

handle-back : (e h : ℕ) (x : List ℕ) → h < 2 ^ 64 → from_be_bytes w64 (take 8 (drop 8 (reply_head e h ++ x))) ≡ h
handle-back e h x small = from_be_bytes-to_be_bytes_8 h small

record SameReply (r s : Reply) (x y : List ℕ) : Type 0 where
  reply : r ≡ s
  behind : x ≡ y

same-reply : (r s : Reply) → r.error ≡ s.error → r.handle ≡ s.handle → r.payload ≡ s.payload → r ≡ s
same-reply r s e h p =
    let of : ℕ → ℕ → List ℕ → Reply = λ e h p. record { error = e; handle = h; payload = p } in
    let all : of r.error r.handle r.payload ≡ of s.error s.handle s.payload = rw (e, h, p) refl in
    all

one-reply : (asked : ℕ → ℕ) (r s : Reply) (x y : List ℕ) → IsReply asked r → IsReply asked s → reply_bytes r ++ x ≡ reply_bytes s ++ y → SameReply r s x y
one-reply asked r s x y r_is s_is e =
    let errors : r.error ≡ s.error =
    sym (error-back r.error r.handle (r.payload ++ x) r_is.error) ∙ ap (λ f. from_be_bytes w32 (take 4 (drop 4 f))) e ∙ error-back s.error s.handle (s.payload ++ y) s_is.error in
    let handles : r.handle ≡ s.handle =
    sym (handle-back r.error r.handle (r.payload ++ x) r_is.handle) ∙ ap (λ f. from_be_bytes w64 (take 8 (drop 8 f))) e ∙ handle-back s.error s.handle (s.payload ++ y) s_is.handle in
    let wanted : ℕ → ℕ → ℕ = λ e h. if e == 0 then asked h else 0 in
    let lens : length r.payload ≡ length s.payload =
    r_is.whole ∙ ap (λ e. wanted e r.handle) errors ∙ ap (λ h. wanted s.error h) handles ∙ sym s_is.whole in
    let behind : r.payload ++ x ≡ s.payload ++ y = ap (drop 16) e in
    let parts = same-front r.payload s.payload x y lens behind in
    record { reply = same-reply r s errors handles parts.0; behind = parts.1 }

pub one-list : (asked : ℕ → ℕ) (rs ss : List Reply) → AllByRecursion (IsReply asked) rs → AllByRecursion (IsReply asked) ss
    → flat_map reply_bytes rs ≡ flat_map reply_bytes ss → rs ≡ ss
one-list asked [] [] all each e = refl
one-list asked [] (s ∷ ss) all each e = absurd (cc)
one-list asked (r ∷ rs) [] all each e = absurd (cc)
one-list asked (r ∷ rs) (s ∷ ss) all each e =
    let one = one-reply asked r s (flat_map reply_bytes rs) (flat_map reply_bytes ss) all.0 each.0 e in
    let rest = one-list asked rs ss all.1 each.1 one.behind in
    rw (one.reply, rest) refl
