-- Worked histories keep the laws.
use Rattle.std.proofs.Common.{ℕ, Option, inl, inr, [], ◌∷◌, drop, Some, None, refl, arith}
use Rattle.aoe_disk.specs.declared.loss.Loss.{Loss}
use Rattle.aoe_disk.specs.declared.loss.Loss.TheVariants.{Keep, Old, Torn, Mix}
use Rattle.aoe_disk.specs.Loss.{torn}
use Rattle.aoe_disk.specs.State.{spoiled_sector}
use Rattle.aoe_ata.specs.Decision.{decision}
use Rattle.aoe_initiator.specs.declared.response.Answer.TheVariants as answers
use Rattle.aoe_initiator.specs.Request.{request}
use Rattle.aoe_initiator.specs.Response.{answer}
use Rattle.aoe_lists.specs.Reserves.{reserve_answer}
use Rattle.aoe_target.specs.Reply.{spelled}
use Rattle.aoe_target.specs.Verdict.{verdict}
use Rattle.aoe_history.specs.Cases.{crashed_write, failed_write, first_read, flush_frame, giving_up, late_acknowledgement, late_read, left_sector, ones_frame, read_after_crash, read_frame, read_twice, refusal_after_effect, stale_response, stopped_flush, torn_sector, acknowledged, central_case, flushed, stored, write_frame}
use Rattle.aoe_history.specs.Example.{full, host_a, host_b, setup, setup_with, slot, slot_with, show, tell}
use Rattle.aoe_history.specs.Lawful.{IsLawful}
use Rattle.aoe_history.specs.Slots.{zero_sector}
use Rattle.aoe_history.proofs.worked.CaseLemmas.{◌after◌, ◌upon◌, comes, ends, gives-up, reads, repeats, responds, starts, submits, takes-stale}
use Rattle.aoe_ata.specs.declared.reply.AtaOutcome.TheVariants.{Done as Good}
use Rattle.aoe_initiator.specs.declared.outcome.Outcome.TheVariants.{Read as ReadOutcome, Written, Flushed}
use Rattle.aoe_history.specs.HostLaw.{IsResponse}
use Rattle.aoe_history.specs.PathCases.{measured, path_case, read_on, sent_thrice, sent_twice, two_paths, two_slot}

-- THE CENTRAL CASE

pub write-answered : (cache : Option ℕ) → IsResponse (setup_with cache (host_a ∷ [])) host_a stored (tell write_frame Good) 1 Written
unfolding full request spelled answer
write-answered cache = responds 0 answers.Written refl refl refl

pub flush-answered : IsResponse setup host_a (drop 2 flushed) (tell flush_frame Good) 2 Flushed
unfolding full request spelled answer
flush-answered = responds 1 answers.Flushed refl refl refl

pub read-answered : IsResponse setup host_a (drop 2 central_case) (show (read_frame 3) (full 0x5a)) 3 (ReadOutcome (full 0x5a))
unfolding full request spelled answer
read-answered = responds 2 (answers.Data 512) refl refl refl

stored-lawful : (cache : Option ℕ) → IsLawful (setup_with cache (host_a ∷ [])) stored
unfolding full request verdict decision
stored-lawful cache =
    comes refl (refl after refl) refl refl refl refl
    after starts 0 1 refl refl refl refl refl refl refl refl refl
    after submits refl refl refl refl
    after tt

acknowledged-lawful : (cache : Option ℕ) → IsLawful (setup_with cache (host_a ∷ [])) acknowledged
unfolding full request spelled
acknowledged-lawful cache = ends refl (write-answered cache) upon stored-lawful cache

pub central : IsLawful setup central_case
unfolding full request verdict decision spelled
central =
    ends refl read-answered
    upon reads slot (drop 3 central_case) (read_frame 3) 3 (full 0x5a) refl (λ t. (refl, refl, t)) refl refl refl refl
    after starts 2 3 refl refl refl refl refl refl refl refl refl
    after submits refl tt refl refl
    after inl refl
    after tt
    after ends refl flush-answered
    upon comes refl refl refl refl refl refl
    after tt
    after starts 1 2 refl refl refl refl refl refl refl refl refl
    after tt
    after tt
    after submits refl tt refl refl
    after acknowledged-lawful None

-- FAILURES, CRASHES AND REPEATS

pub late : IsLawful setup late_acknowledgement
unfolding full request verdict decision spelled answer zero_sector torn
late =
    ends refl (responds 1 (answers.Data 512) refl refl refl)
    upon reads slot (drop 3 late_acknowledgement) (read_frame 2) 3 torn_sector refl (λ t. (refl, refl, t)) refl refl refl refl
    after starts 1 2 refl refl refl refl refl refl refl refl refl
    after submits refl tt refl refl
    after ends refl (responds 0 answers.Written refl refl refl)
    upon inl refl
    after stored-lawful None

pub stale : IsLawful setup stale_response
unfolding full request verdict decision spelled answer zero_sector torn
stale =
    ends refl (responds 2 (answers.Data 512) refl refl refl)
    upon reads slot (drop 3 stale_response) (first_read 3) 0 (full 0x22) refl (λ t. (refl, refl, t)) refl refl refl refl
    after takes-stale refl refl
    after starts 2 3 refl refl refl refl refl refl refl refl refl
    after submits refl tt refl refl
    after takes-stale refl refl
    after ends refl (responds 1 answers.Written refl refl refl)
    upon comes refl (refl after refl) refl refl refl refl
    after takes-stale refl refl
    after starts 1 2 refl refl refl refl refl refl refl refl refl
    after submits refl refl refl refl
    after ends refl (responds 0 (answers.Data 512) refl refl refl)
    upon reads slot (drop 3 read_twice) (first_read 1) 0 zero_sector refl (λ t. (refl, refl, t)) refl refl refl refl
    after repeats 0 0 refl refl refl refl refl refl
    after tt
    after tt
    after reads slot (drop 7 read_twice) (first_read 1) 0 zero_sector refl (λ t. (refl, refl, t)) refl refl refl refl
    after starts 0 1 refl refl refl refl refl refl refl refl refl
    after submits refl tt refl refl
    after tt

pub refusal : IsLawful (setup_with None (host_a ∷ host_b ∷ [])) refusal_after_effect
unfolding full request verdict decision spelled answer zero_sector torn reserve_answer
refusal =
    ends refl (responds 1 (answers.Data 512) refl refl refl)
    upon reads slot (drop 3 refusal_after_effect) late_read 0 (full 0x11) refl (λ t. (refl, refl, t)) refl refl refl refl
    after starts 1 2 refl refl refl refl refl refl refl refl refl
    after submits refl tt refl refl
    after ends refl (responds 1 (answers.Told 2) refl refl refl)
    upon comes refl refl refl refl refl refl
    after starts 1 2 refl refl refl refl refl refl refl refl refl
    after tt
    after submits refl (omega arith) refl refl
    after ends refl (responds 0 (answers.AoeError 6) refl refl refl)
    upon comes refl refl refl refl refl refl
    after repeats 0 0 refl refl refl refl refl refl
    after tt
    after ends refl (responds 0 (answers.Told 8) refl refl refl)
    upon comes refl refl refl refl refl refl
    after starts 0 1 refl refl refl refl refl refl refl refl refl
    after submits refl (omega arith) refl refl
    after tt
    after comes refl (refl after refl) refl refl refl refl
    after starts 0 1 refl refl refl refl refl refl refl refl refl
    after submits refl refl refl refl
    after tt

pub gave-up : IsLawful setup giving_up
unfolding full request
gave-up =
    inr (gives-up 0 refl refl)
    after tt
    after starts 0 1 refl refl refl refl refl refl refl refl refl
    after submits refl refl refl refl
    after tt

pub fault : IsLawful setup failed_write
unfolding full request verdict decision spelled answer zero_sector torn
fault =
    ends refl (responds 0 (answers.AtaError 0x41 0x04) refl refl refl)
    upon record { bytes = ones_frame; fresh = refl; law = (refl, refl); arming = record { store = (refl, refl); keep = tt }; numbered = refl }
    after starts 0 1 refl refl refl refl refl refl refl refl refl
    after submits refl refl refl refl
    after tt
    after tt

-- what a crash leaves of a store without a cache, and of one with a cache
pub uncached : IsLawful setup (read_after_crash (full 0x5a))
unfolding full request verdict decision spelled answer zero_sector torn
uncached =
    ends refl (responds 1 (answers.Data 512) refl refl refl)
    upon reads slot crashed_write (read_frame 2) 3 (full 0x5a) refl (λ t. (refl, refl, t)) refl refl refl refl
    after starts 1 2 refl refl refl refl refl refl refl refl refl
    after submits refl tt refl refl
    after inl refl
    after acknowledged-lawful None

pub cached : IsLawful (setup_with (Some 8) (host_a ∷ [])) (read_after_crash zero_sector)
unfolding full request verdict decision spelled answer zero_sector torn
cached =
    ends refl (responds 1 (answers.Data 512) refl refl refl)
    upon reads (slot_with (Some 8)) crashed_write (read_frame 2) 3 zero_sector refl (λ t. (refl, refl, t)) refl refl refl refl
    after starts 1 2 refl refl refl refl refl refl refl refl refl
    after submits refl tt refl refl
    after inl refl
    after acknowledged-lawful (Some 8)

-- a stop in a flush, whatever it leaves
before-read : (how : Loss) → IsLawful setup (drop 3 (stopped_flush how))
unfolding full request verdict decision spelled answer zero_sector torn
before-read how =
    starts 2 3 refl refl refl refl refl refl refl refl refl
    after submits refl tt refl refl
    after inl refl
    after record { bytes = flush_frame; fresh = refl; law = tt; arming = record { store = (refl, refl); keep = tt }; numbered = tt }
    after starts 1 2 refl refl refl refl refl refl refl refl refl
    after submits refl tt refl refl
    after tt
    after tt
    after acknowledged-lawful None

pub stopped-keep : IsLawful setup (stopped_flush Keep)
unfolding full request verdict decision spelled answer zero_sector torn spoiled_sector
stopped-keep =
    ends refl (responds 2 (answers.Data 512) refl refl refl)
    upon reads slot (drop 3 (stopped_flush Keep)) (read_frame 3) 3 (left_sector Keep) refl (λ t. (refl, refl, t)) refl refl refl refl
    after before-read Keep

pub stopped-old : IsLawful setup (stopped_flush Old)
unfolding full request verdict decision spelled answer zero_sector torn spoiled_sector
stopped-old =
    ends refl (responds 2 (answers.Data 512) refl refl refl)
    upon reads slot (drop 3 (stopped_flush Old)) (read_frame 3) 3 (left_sector Old) refl (λ t. (refl, refl, t)) refl refl refl refl
    after before-read Old

pub stopped-torn : IsLawful setup (stopped_flush Torn)
unfolding full request verdict decision spelled answer zero_sector torn spoiled_sector
stopped-torn =
    ends refl (responds 2 (answers.Data 512) refl refl refl)
    upon reads slot (drop 3 (stopped_flush Torn)) (read_frame 3) 3 (left_sector Torn) refl (λ t. (refl, refl, t)) refl refl refl refl
    after before-read Torn

pub stopped-mix : IsLawful setup (stopped_flush (Mix 0))
unfolding full request verdict decision spelled answer zero_sector torn spoiled_sector
stopped-mix =
    ends refl (responds 2 (answers.Data 512) refl refl refl)
    upon reads slot (drop 3 (stopped_flush (Mix 0))) (read_frame 3) 3 (left_sector (Mix 0)) refl (λ t. (refl, refl, t)) refl refl refl refl
    after before-read (Mix 0)

-- READS THAT GO FROM PATH TO PATH

twice : IsLawful two_paths sent_twice
unfolding request spelled
twice =
    repeats 0 0 refl refl refl refl refl refl
    after tt
    after starts 0 1 refl refl refl refl refl refl refl refl refl
    after submits refl tt refl refl
    after tt

pub paths : IsLawful two_paths path_case
unfolding request verdict decision spelled answer zero_sector
paths =
    ends refl (responds 0 (answers.Data 512) refl refl refl)
    upon reads two_slot sent_thrice (read_on 0 0 1) 0 zero_sector refl (λ t. (refl, refl, t)) refl refl refl refl
    after repeats 0 0 refl refl refl refl refl refl
    after tt
    after tt
    after twice

-- a read that was sent twice, and another one after its answer
pub measured-paths : IsLawful two_paths measured
unfolding request verdict decision spelled answer zero_sector
measured-paths =
    starts 1 2 refl refl refl refl refl refl refl refl refl
    after submits refl tt refl refl
    after ends refl (responds 0 (answers.Data 512) refl refl refl)
    upon reads two_slot (drop 5 measured) (read_on 1 0 1) 0 zero_sector refl (λ t. (refl, refl, t)) refl refl refl refl
    after tt
    after twice
