-- What is known of a slot's lists and sectors after a history.
use Rattle.std.specs.Prelude.{ℕ, ◌+◌, Bool, true, false, not, ◌&&◌, ◌||◌, nat_le, List, [], ◌∷◌, replicate, Option, Some, None, is_none, if◌then◌else◌}
use Rattle.std.specs.Option.{option_and_then, option_map}
use Rattle.aoe_disk.specs.declared.loss.Loss.{Loss}
use Rattle.aoe_disk.specs.Loss.{left_of}
use Rattle.aoe_ata.specs.declared.decision.AtaAnswer.{AtaAnswer}
use Rattle.aoe_ata.specs.declared.decision.AtaAnswer.TheVariants.{Put}
use Rattle.aoe_lists.specs.Settings.{Settings}
use Rattle.aoe_target.specs.declared.heard.Effect.{Effect}
use Rattle.aoe_target.specs.declared.heard.Effect.TheVariants as effect
use Rattle.aoe_target.specs.declared.verdict.Verdict.{Verdict}
use Rattle.aoe_target.specs.declared.verdict.Verdict.TheVariants.{Ata}
use Rattle.aoe_target.specs.Device.{State}
use Rattle.aoe_target.specs.Law.{after}
use Rattle.aoe_target.specs.Law as target
use Rattle.aoe_target.specs.Receive.{calls_store, is_edit_fault, is_fault}
use Rattle.aoe_target.specs.Sectors.{in_span, Sectors}
use Rattle.aoe_target.specs.Verdict.{verdict}
use Rattle.aoe_history.specs.declared.entry.Entry.{Entry}
use Rattle.aoe_history.specs.declared.entry.Entry.TheVariants.{Arrived, Crashed}
use Rattle.aoe_history.specs.declared.entry.Fate.{Fate}
use Rattle.aoe_history.specs.declared.entry.Fate.TheVariants.{Ignored, Silent, Cut, Replied}
use Rattle.aoe_history.specs.Frames.{bytes_of}
use Rattle.aoe_history.specs.Setup.{is_slot, SlotSetup}

-- what became of a frame, in the words of the shelf law
abbrev pub fate_at : Fate → target.Fate
fate_at Ignored = target.ignored
fate_at Silent = target.silent
fate_at Cut = target.cut
fate_at (Replied effect number bytes) = target.replied effect bytes

-- a sector of a new disk
unfoldable pub zero_sector : List ℕ
zero_sector = replicate 512 0

-- how a cached store stands since its last sync or crash: how many sectors were written, and whether a call of it failed or
-- the power was lost in one
pub record Unsettled : Type 0 where
  pub written : ℕ
  pub struck : Bool

-- a slot: what is known of its device, and what isn't settled in its store
pub record Slot : Type 0 where
  pub state : State
  pub unsettled : Unsettled

abbrev pub all_settled : Unsettled
all_settled = record { written = 0; struck = false }

-- a new slot: the lists that its keep has, and zeros in each sector. What a failed write leaves is known where the store has no cache
abbrev pub new_slot : SlotSetup → Slot
new_slot slot = record {
  state = record {
    lists = slot.lists;
    offers = [];
    sectors = Some (record { known = λ s. Some zero_sector; marks = λ s. false; settled = λ s. Some zero_sector; exact = is_none slot.cache });
  };
  unsettled = all_settled;
}

-- the power was lost, or a device call failed
abbrev pub is_struck : Fate → Bool
is_struck Cut = true
is_struck (Replied effect number bytes) = is_fault effect || is_edit_fault effect
is_struck fate = false

-- what isn't settled after a frame that called the store
abbrev pub after_call : Fate → Unsettled → Unsettled
after_call (Replied (effect.Wrote span) number bytes) u = record u { written = u.written + span.count }
after_call (Replied effect.Synced number bytes) u = all_settled
after_call fate u = record u { struck = is_struck fate || u.struck }

-- a slot after a frame came to it
abbrev pub after_frame : SlotSetup → List ℕ → Fate → Slot → Slot
after_frame slot f fate before =
    let v = verdict slot.station before.state.lists f in
    record {
      state = after slot.station f v (fate_at fate) before.state;
      unsettled = if calls_store v then after_call fate before.unsettled else before.unsettled;
    }

-- a crash leaves in a cached store what was settled: no more was written than the cache has room for, and no call was struck
abbrev pub is_cached_whole : ℕ → Unsettled → Bool
is_cached_whole room u = nat_le u.written room && not u.struck

-- what a crash leaves in a sector that it may change, by what it held and what it held at the last sync
abbrev pub lost : Option ℕ → Unsettled → Loss → ℕ → Option (List ℕ) → Option (List ℕ) → Option (List ℕ)
lost None u how s known settled = option_and_then (λ now. option_map (left_of how s now) settled) known
lost (Some room) u how s known settled = if is_cached_whole room u then settled else None

abbrev pub left_known : SlotSetup → Unsettled → Loss → Sectors → ℕ → Option (List ℕ)
left_known slot u how k s = if k.marks s then lost slot.cache u how s (k.known s) (k.settled s) else k.known s

abbrev pub left_sectors : SlotSetup → Unsettled → Loss → Sectors → Sectors
left_sectors slot u how k = record {
  known = left_known slot u how k;
  marks = λ s. false;
  settled = left_known slot u how k;
  exact = k.exact;
}

-- a slot after a crash that left these lists
abbrev pub after_crash : SlotSetup → Settings → Loss → Slot → Slot
after_crash slot lists how before = record {
  state = record { lists = lists; offers = []; sectors = option_map (left_sectors slot before.unsettled how) before.state.sectors };
  unsettled = all_settled;
}

-- a slot after a history
abbrev pub slot_after : SlotSetup → List Entry → Slot
slot_after slot [] = new_slot slot
slot_after slot (Arrived dev frame fate ∷ h) =
    let before = slot_after slot h in if is_slot slot dev then after_frame slot (bytes_of h frame) fate before else before
slot_after slot (Crashed dev lists how ∷ h) =
    let before = slot_after slot h in if is_slot slot dev then after_crash slot lists how before else before
slot_after slot (_ ∷ h) = slot_after slot h

abbrev pub state_after : SlotSetup → List Entry → State
state_after slot h = (slot_after slot h).state

-- what the slot does with a frame
abbrev pub verdict_after : SlotSetup → List Entry → List ℕ → Verdict
verdict_after slot h f = verdict slot.station (state_after slot h).lists f

-- the value of a sector, where it is known, and whether a crash may change it
abbrev pub known_after : SlotSetup → List Entry → ℕ → Option (List ℕ)
known_after slot h s = option_and_then (λ k. k.known s) (state_after slot h).sectors

abbrev pub marked_in : Option Sectors → ℕ → Bool
marked_in None s = false
marked_in (Some k) s = k.marks s

abbrev pub marked_after : SlotSetup → List Entry → ℕ → Bool
marked_after slot h s = marked_in (state_after slot h).sectors s

-- the sector is one that an ATA command writes
abbrev pub answer_puts : AtaAnswer → ℕ → Bool
answer_puts (Put span) s = in_span span s
answer_puts answer s = false

abbrev pub verdict_puts : Verdict → ℕ → Bool
verdict_puts (Ata d) s = answer_puts d.answer s
verdict_puts v s = false

-- a frame stored data in the sector
abbrev pub effect_stores : Effect → ℕ → Bool
effect_stores (effect.Wrote span) s = in_span span s
effect_stores e s = false

abbrev pub effect_breaks : Effect → ℕ → Bool
effect_breaks (effect.WriteFault span) s = in_span span s
effect_breaks e s = false

abbrev pub stores : Fate → ℕ → Bool
stores (Replied effect number bytes) s = effect_stores effect s
stores fate s = false

-- a frame left the sector in doubt: its write failed, or the power was lost in it
abbrev pub breaks : Verdict → Fate → ℕ → Bool
breaks v Cut s = verdict_puts v s
breaks v (Replied effect number bytes) s = effect_breaks effect s
breaks v fate s = false
