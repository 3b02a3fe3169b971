-- The call of the desk that takes a request.
use Rattle.std.proofs.Common.{ℕ, ◌≡◌, ◌*◌, ◌/◌, ◌%◌, ◌<◌, Bool, true, false, List, [], ◌++◌, length, replicate, refl, sym, ap, subst, ◌∙◌, inl, inr, arith, take, drop, append_assoc, mod-lt}
use Rattle.std.proofs.lemmas.List.{length-replicate, take-append-drop}
use Rattle.std.proofs.lemmas.Nat.{div-add-mod'}
use Rattle.aoe_desk.specs.Desks.{DeskState, HasRoom, IsNew, IsTaken}
use Rattle.aoe_desk.specs.Runs.{after, Call, CanCall}
use Rattle.aoe_desk.specs.Runs.Call.{Takes, Refuses}
use Rattle.aoe_nbd.specs.declared.error.NbdError.TheVariants.{NoMemory}
use Rattle.aoe_nbd.specs.declared.request.Action.{Action}
use Rattle.aoe_nbd.specs.declared.request.Action.TheVariants.{Read, Write, Flush}
use Rattle.aoe_nbd.specs.declared.request.Request.{Request}
use Rattle.aoe_nbd_serve.specs.Conversations.{IsAskedAs, IsCallOf}

-- a request was handed to the desk
abbrev pub Handed : Request → List ℕ → DeskState → DeskState → Type 0
Handed request bytes d d' = (call : Call) × IsCallOf d.max request bytes call × CanCall call d × (d' ≡ after call d)

handed-by : (request : Request) (bytes own : List ℕ) (reads lasts : Bool) (at : ℕ) (d d' : DeskState)
    → ((r : _) → IsNew request.handle reads lasts at d.max own r → IsAskedAs d.max request.handle request.action bytes r)
    → HasRoom (length own) d → IsTaken request.handle reads lasts at own d d' → Handed request bytes d d'
handed-by request bytes own reads lasts at d d' asked room (inl (r, new, total, max, is)) =
    (Takes r, asked r new, (request.handle, at, reads, lasts, own, new, room), is)
handed-by request bytes own reads lasts at d d' asked room (inr is) =
    (Refuses request.handle NoMemory, (refl, refl), record { few = room.few; short = omega (arith, room.short) }, is)

pub handed-read : (request : Request) (bytes : List ℕ) (at count : ℕ) (d d' : DeskState) → request.action ≡ Read (record { at = at; count = count }) → HasRoom (512 * count) d
    → IsTaken request.handle true false at (replicate (512 * count) 0) d d' → Handed request bytes d d'
handed-read request bytes at count d d' is room taken =
    handed-by request bytes (replicate (512 * count) 0) true false at d d'
    (λ r new. subst (λ (a : Action). IsAskedAs d.max request.handle a bytes r) (sym is) new)
    (subst (λ (n : ℕ). HasRoom n d) (sym (length-replicate (512 * count) 0)) room) taken

pub handed-write : (request : Request) (bytes : List ℕ) (at count : ℕ) (lasts : Bool) (d d' : DeskState) → request.action ≡ Write (record { at = at; count = count }) lasts → HasRoom (length bytes) d
    → IsTaken request.handle false lasts at bytes d d' → Handed request bytes d d'
handed-write request bytes at count lasts d d' is room taken =
    handed-by request bytes bytes false lasts at d d' (λ r new. subst (λ (a : Action). IsAskedAs d.max request.handle a bytes r) (sym is) new) room taken

pub handed-flush : (request : Request) (bytes : List ℕ) (d d' : DeskState) → request.action ≡ Flush → HasRoom 0 d → IsTaken request.handle false true 0 [] d d' → Handed request bytes d d'
handed-flush request bytes d d' is room taken =
    handed-by request bytes [] false true 0 d d' (λ r new. subst (λ (a : Action). IsAskedAs d.max request.handle a bytes r) (sym is) new) room taken

-- a part of what is left
pub piece-front : (whole left rest : List ℕ) (n : ℕ) → whole ≡ left ++ rest → whole ≡ take n left ++ (drop n left ++ rest)
piece-front whole left rest n is =
    is ∙ ap (λ (x : List ℕ). x ++ rest) (sym (take-append-drop n left)) ∙ append_assoc (take n left) (drop n left) rest

pub count-again : (n : ℕ) → 512 * n / 512 ≡ n
count-again n =
    let less : 512 * n % 512 < 512 = mod-lt (512 * n) (omega arith) in
    omega (arith, div-add-mod' (512 * n) 512, less)
