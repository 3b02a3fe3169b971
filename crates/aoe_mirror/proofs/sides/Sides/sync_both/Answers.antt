use Rattle.std.proofs.Common.{◌≡◌, ap, is_err, inl, inr, refl, sym}
use Rattle.std.proofs.lemmas.Bool.{both_ways}
use Rattle.aoe_mirror.specs.Sides.{pair_of}
use Rattle.aoe_mirror.proofs.Lowest.{fails_lowest, leads_lowest, stays_lowest, through_lowest}
use Rattle.aoe_mirror.proofs.Syncing.{blame_lead, follower_stays, stays_blames, stays_syncs, takes_blames, takes_failed, takes_syncs, through_blames, through_syncs}
use Rattle.aoe_mirror.proofs.sides.Sides.sync_both.Goals as goal

pub returns-in-Ok-clause-syncs : goal.returns-in-Ok-clause-syncs
returns-in-Ok-clause-syncs g c =
    through_syncs (pair_of g.D.Disk.state c.args.self.now) c.requires.mirror c.requires.settled
    (g.D.Disk.state c.sync.new.self) c.sync.result c.sync.ensures (ap is_err c.in-Ok.is) c.sync_follower.result
    (pair_of g.D.Disk.state c.sync_follower.new.self) c.sync_follower.ensures _ refl

pub returns-in-Ok-clause-blames : goal.returns-in-Ok-clause-blames
returns-in-Ok-clause-blames g c =
    through_blames (pair_of g.D.Disk.state c.args.self.now) c.requires.mirror c.requires.settled
    (g.D.Disk.state c.sync.new.self) c.sync.result c.sync.ensures (ap is_err c.in-Ok.is) c.sync_follower.result
    (pair_of g.D.Disk.state c.sync_follower.new.self) c.sync_follower.ensures

pub returns-in-Ok-sync_other-clause-syncs : goal.returns-in-Ok-sync_other-clause-syncs
returns-in-Ok-sync_other-clause-syncs g c =
    let old = pair_of g.D.Disk.state c.args.self.now in
    let new = pair_of g.D.Disk.state c.sync_other.new.self in
    elim c.sync_other.ensures.leads [
      | inl s ↦ absurd (both_ways (is_err c.sync_other.result) (ap is_err c.in-Ok-sync_other.is) s.told)
      | inr t ↦ takes_syncs old c.requires.mirror c.requires.settled (g.D.Disk.state c.sync.new.self) c.sync.result c.sync.ensures
          (ap is_err c.in-Err.is) c.sync_other.result new t _ (sym (ap is_err c.in-Ok-sync_other.is))
    ]

pub returns-in-Ok-sync_other-clause-blames : goal.returns-in-Ok-sync_other-clause-blames
returns-in-Ok-sync_other-clause-blames g c =
    let old = pair_of g.D.Disk.state c.args.self.now in
    let new = pair_of g.D.Disk.state c.sync_other.new.self in
    elim c.sync_other.ensures.leads [
      | inl s ↦ absurd (both_ways (is_err c.sync_other.result) (ap is_err c.in-Ok-sync_other.is) s.told)
      | inr t ↦ blame_lead old new c.args.self.now.side c.requires.mirror.mark.side refl
          (takes_failed old c.requires.mirror c.requires.settled (g.D.Disk.state c.sync.new.self) c.sync.result c.sync.ensures
          (ap is_err c.in-Err.is) c.sync_other.result new t)
    ]

pub returns-in-Err-sync_other-clause-syncs : goal.returns-in-Err-sync_other-clause-syncs
returns-in-Err-sync_other-clause-syncs g c =
    let old = pair_of g.D.Disk.state c.args.self.now in
    let new = pair_of g.D.Disk.state c.sync_other.new.self in
    elim c.sync_other.ensures.leads [
      | inl s ↦ stays_syncs old c.requires.mirror c.requires.settled (g.D.Disk.state c.sync.new.self) c.sync.result c.sync.ensures
          (ap is_err c.in-Err.is) c.sync_other.result _ new s refl
      | inr t ↦ takes_syncs old c.requires.mirror c.requires.settled (g.D.Disk.state c.sync.new.self) c.sync.result c.sync.ensures
          (ap is_err c.in-Err.is) c.sync_other.result new t _ (sym (ap is_err c.in-Err-sync_other.is))
    ]

pub returns-in-Err-sync_other-clause-blames : goal.returns-in-Err-sync_other-clause-blames
returns-in-Err-sync_other-clause-blames g c =
    let old = pair_of g.D.Disk.state c.args.self.now in
    let new = pair_of g.D.Disk.state c.sync_other.new.self in
    let k = c.in-Err-sync_other.disk in
    elim c.sync_other.ensures.leads [
      | inl s ↦ stays_blames old c.requires.mirror c.requires.settled (g.D.Disk.state c.sync.new.self) c.sync.result c.sync.ensures
          (ap is_err c.in-Err.is) c.sync_other.result new k s (rw c.in-Err-sync_other.is at s.blamed)
      | inr t ↦ takes_blames old c.requires.mirror c.requires.settled (g.D.Disk.state c.sync.new.self) c.sync.result c.sync.ensures
          (ap is_err c.in-Err.is) c.sync_other.result new t k (ap is_err c.in-Err-sync_other.is) (
            λ is. blame_lead old new k c.requires.mirror.mark.side is
                (takes_failed old c.requires.mirror c.requires.settled (g.D.Disk.state c.sync.new.self) c.sync.result c.sync.ensures
                (ap is_err c.in-Err.is) c.sync_other.result new t),
            rw c.in-Err-sync_other.is refl,
          )
    ]

pub returns-in-Ok-clause-told : goal.returns-in-Ok-clause-told
returns-in-Ok-clause-told g c = follower_stays c.sync_follower.result _ (pair_of g.D.Disk.state c.sync_follower.new.self) c.sync_follower.ensures

pub returns-in-Ok-clause-lowest : goal.returns-in-Ok-clause-lowest
returns-in-Ok-clause-lowest g c =
    through_lowest (pair_of g.D.Disk.state c.args.self.now) c.requires.mirror (g.D.Disk.state c.sync.new.self) c.sync.result c.sync.ensures
    (ap is_err c.in-Ok.is) c.sync_follower.result (pair_of g.D.Disk.state c.sync_follower.new.self) c.sync_follower.ensures

pub returns-in-Ok-sync_other-clause-lowest : goal.returns-in-Ok-sync_other-clause-lowest
returns-in-Ok-sync_other-clause-lowest g c =
    let old = pair_of g.D.Disk.state c.args.self.now in
    let new = pair_of g.D.Disk.state c.sync_other.new.self in
    elim c.sync_other.ensures.leads [
      | inl s ↦ absurd (both_ways (is_err c.sync_other.result) (ap is_err c.in-Ok-sync_other.is) s.told)
      | inr t ↦ leads_lowest old c.requires.mirror (g.D.Disk.state c.sync.new.self) c.sync.result c.sync.ensures c.sync_other.result new t
          (ap is_err c.in-Ok-sync_other.is)
    ]

pub returns-in-Err-sync_other-clause-lowest : goal.returns-in-Err-sync_other-clause-lowest
returns-in-Err-sync_other-clause-lowest g c =
    let old = pair_of g.D.Disk.state c.args.self.now in
    let new = pair_of g.D.Disk.state c.sync_other.new.self in
    let k = c.in-Err-sync_other.disk in
    elim c.sync_other.ensures.leads [
      | inl s ↦
          let e : k ≡ old.side = rw c.in-Err-sync_other.is at s.blamed in
          rw e (stays_lowest old c.requires.mirror (g.D.Disk.state c.sync.new.self) c.sync.result c.sync.ensures c.sync_other.result new s)
      | inr t ↦ fails_lowest old c.requires.mirror (g.D.Disk.state c.sync.new.self) c.sync.result c.sync.ensures c.sync_other.result new t k
          (ap is_err c.in-Err-sync_other.is) (rw c.in-Err-sync_other.is refl)
    ]
