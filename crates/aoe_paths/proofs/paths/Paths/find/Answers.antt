use Rattle.std.proofs.Common.{ℕ, ◌≡◌, ◌+◌, ◌*◌, length, Some, None, ap, sym, ◌∙◌}
use Rattle.std.specs.Prelude.{position, slice_get, bytes_eq}
use Rattle.aoe_paths.specs.PathTable.{PathTable}
use Rattle.aoe_paths.proofs.PairLemmas.{pair-split, port-found, port-missing, pair-of-number, one-number}
use Rattle.aoe_paths.proofs.paths.Paths.find.Goals as goal
use Rattle.aoe_base.specs.Addresses.{IsDistinct}

pub returns-in_err-local-clause-none : goal.returns-in_err-local-clause-none
returns-in_err-local-clause-none c =
    let locals : c.deref.result.now ≡ c.args.self.now.locals = c.deref.ensures.0 ∙ ap (λ (table : PathTable). table.locals) c.self.view_is in
    let missing : position (λ other. bytes_eq other.0 c.args.local.0) c.args.self.now.locals ≡ None = rw (← locals) (sym c.in_err-local.ensures) in
    rw c.from_residual.ensures (λ q claim. port-missing c.args.self.now.locals c.args.local _ missing
    (pair-split c.args.self.now q c.args.local c.args.remote claim).0)

pub returns-in_err-remote-clause-none : goal.returns-in_err-remote-clause-none
returns-in_err-remote-clause-none c =
    let remotes : c.deref-2.result.now ≡ c.args.self.now.remotes = c.deref-2.ensures.0 ∙ ap (λ (table : PathTable). table.remotes) c.self.view_is in
    let missing : position (λ other. bytes_eq other.0 c.args.remote.0) c.args.self.now.remotes ≡ None = rw (← remotes) (sym c.in_err-remote.ensures) in
    rw c.from_residual-in_err-remote.ensures
    (λ q claim. port-missing c.args.self.now.remotes c.args.remote _ missing (pair-split c.args.self.now q c.args.local c.args.remote claim).1)

pub returns-clause-pair : goal.returns-clause-pair
returns-clause-pair c =
    let locals : c.deref.result.now ≡ c.args.self.now.locals = c.deref.ensures.0 ∙ ap (λ (table : PathTable). table.locals) c.self.view_is in
    let remotes : c.deref-2.result.now ≡ c.args.self.now.remotes = c.deref-2.ensures.0 ∙ ap (λ (table : PathTable). table.remotes) c.self.view_is in
    let here : slice_get c.args.self.now.locals c.in_ok-local.local ≡ Some c.args.local =
    rw (← locals) (port-found c.deref.result.now c.args.local c.in_ok-local.local (sym c.in_ok-local.ensures)) in
    let there : slice_get c.args.self.now.remotes c.in_ok-remote.remote ≡ Some c.args.remote =
    rw (← remotes) (port-found c.deref-2.result.now c.args.remote c.in_ok-remote.remote (sym c.in_ok-remote.ensures)) in
    let count : c.len.result ≡ length c.args.self.now.remotes = c.len.ensures.value ∙ ap (λ (table : PathTable). length table.remotes) c.self.view_is in
    pair-of-number c.args.self.now c.in_ok-local.local c.in_ok-remote.remote _ c.args.local c.args.remote
    (ap (λ (n : ℕ). c.in_ok-local.local * n + c.in_ok-remote.remote) count) here there

pub returns-clause-only : goal.returns-clause-only
returns-clause-only c = λ q claim.
    let locals : c.deref.result.now ≡ c.args.self.now.locals = c.deref.ensures.0 ∙ ap (λ (table : PathTable). table.locals) c.self.view_is in
    let remotes : c.deref-2.result.now ≡ c.args.self.now.remotes = c.deref-2.ensures.0 ∙ ap (λ (table : PathTable). table.remotes) c.self.view_is in
    let here : slice_get c.args.self.now.locals c.in_ok-local.local ≡ Some c.args.local =
    rw (← locals) (port-found c.deref.result.now c.args.local c.in_ok-local.local (sym c.in_ok-local.ensures)) in
    let there : slice_get c.args.self.now.remotes c.in_ok-remote.remote ≡ Some c.args.remote =
    rw (← remotes) (port-found c.deref-2.result.now c.args.remote c.in_ok-remote.remote (sym c.in_ok-remote.ensures)) in
    let count : c.len.result ≡ length c.args.self.now.remotes = c.len.ensures.value ∙ ap (λ (table : PathTable). length table.remotes) c.self.view_is in
    let locals_differ : IsDistinct c.args.self.now.locals = rw (← locals, c.deref.ensures.0) c.self.invariant.locals_differ in
    let remotes_differ : IsDistinct c.args.self.now.remotes = rw (← remotes, c.deref-2.ensures.0) c.self.invariant.remotes_differ in
    one-number c.args.self.now c.in_ok-local.local c.in_ok-remote.remote _ q c.args.local c.args.remote locals_differ remotes_differ
    (ap (λ (n : ℕ). c.in_ok-local.local * n + c.in_ok-remote.remote) count) here there claim
