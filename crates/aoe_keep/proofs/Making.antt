-- The calls of a keep, one after another.
use Rattle.std.proofs.Common.{◌≡◌, ◌≤◌, ◌<◌, ◌+◌, ◌*◌, ◌==◌, ◌||◌, cond, ℕ, Bool, true, false, Option, Some, None, IfSome, Result, Err, is_ok, List, [], ◌∷◌, ◌++◌, take, drop, get_or, refl, sym, arith, ◌∙◌, ap}
use Rattle.std.proofs.Math.Bool.{or-false}
use Rattle.std.proofs.lemmas.Bool.Decides.{nat_tests}
use Rattle.aoe_lists.specs.Settings.{Settings}
use Rattle.aoe_disk.specs.State.{Contents, DiskState, DeviceCall, BothTell, Read, Sync}
use Rattle.aoe_disk.specs.Calls.{Logs, Makes, Syncs}
use Rattle.aoe_disk.proofs.Runs.{makes_one, makes_then, makes_stop}
use Rattle.aoe_keep.specs.Body.{format_2}
use Rattle.aoe_keep.specs.Found.{is_open}
use Rattle.aoe_keep.specs.Stages.{next_place, is_unplaced, spare, turn_after}
use Rattle.aoe_keep.specs.Calls as calls
use Rattle.aoe_keep.specs.Calls.{closed_after, reads_of, shown, Clears, MountsBy, ReadsSlot, ReplacesBy}
use Rattle.aoe_keep.specs.declared.mounted.Mounted.{Mounted}
use Rattle.aoe_keep.specs.declared.place.Place.{Place}
use Rattle.aoe_keep.proofs.Calls.{syncs_calm}

-- two calls, the first of which was Ok
unfoldable pub makes_two : (x y : DeviceCall) (failed : Bool) (a b c : DiskState) → Logs (x ∷ []) a b → Logs (y ∷ []) b c → Makes (x ∷ y ∷ []) failed a c
makes_two x y failed a b c one two = makes_then (x ∷ []) (y ∷ []) failed a b c (makes_one x false a b one) (makes_one y failed b c two)

-- the first of two calls failed
pub makes_first : (x y : DeviceCall) (failed : Bool) (a b : DiskState) → failed ≡ true → Logs (x ∷ []) a b → Makes (x ∷ y ∷ []) failed a b
makes_first x y failed a b e log = rw e (makes_stop (x ∷ []) (y ∷ []) a b (makes_one x true a b log))

module _ {D : Type 0} (state : D → DiskState) where
  pub clears_failed : {T E : Type 0} (r : Result T E) (e : E) (failed : Bool) (old new : Mounted D) → r ≡ Err e → failed ≡ true
      → new.is_closed ≡ (old.is_closed || is_ok r)
      → Logs (calls.close_gate old.place old.is_closed ∷ []) (state old.disk) (state new.disk) → Clears state failed old new
  unfolding makes_one makes_stop
  clears_failed r e failed old new is f known log = rw f (record {
    calls = makes_stop (calls.close_gate old.place old.is_closed ∷ []) (Sync ∷ []) (state old.disk) (state new.disk)
        (makes_one _ true (state old.disk) (state new.disk) log);
    closed = (rw is at known) ∙ or-false old.is_closed;
  })

  pub clears_done : (failed : Bool) (old new : Mounted D) (b : DiskState) → new.is_closed ≡ true
      → Logs (calls.close_gate old.place old.is_closed ∷ []) (state old.disk) b → Logs (Sync ∷ []) b (state new.disk) → Clears state failed old new
  unfolding makes_two makes_one makes_then
  clears_done failed old new b closed one two =
      record { calls = makes_two (calls.close_gate old.place old.is_closed) Sync failed (state old.disk) b (state new.disk) one two; closed = closed }

-- before the gate is written open it stays known to be closed, but for a first call that failed
stays_closed : (n : ℕ) (was : Bool) → 2 ≤ n → n < 5 → closed_after n was ≡ true
stays_closed n was low high = grind (arith, nat_tests)

no_more : (n : ℕ) (was : Bool) → 5 ≤ n → closed_after n was ≡ false
no_more n was low = grind (arith, nat_tests)

at_first : (n : ℕ) (was : Bool) → n ≤ 2 → cond (n == 1) was true ≡ closed_after n was
at_first n was high = grind (arith, nat_tests)

module _ {D : Type 0} (state : D → DiskState) (next : Settings) where
  abbrev pub clearing : Mounted D → List DeviceCall
  clearing k = calls.close_gate k.place k.is_closed ∷ Sync ∷ []

  abbrev pub staging : Option Place → List DeviceCall
  staging place = calls.write_body place next ∷ Sync ∷ []

  abbrev pub opening : Option Place → List DeviceCall
  opening place = calls.write_gate place true ∷ Sync ∷ []

  -- the first or the second call failed
  pub fails_to_clear : {failed : Bool} {old new : Mounted D} → failed ≡ true → Clears state true old new → new.place ≡ old.place
      → ReplacesBy state next failed (shown old) (shown new)
  unfolding makes_stop
  fails_to_clear {failed} {old} {new} f k place = rw f (record {
    calls = makes_stop (clearing old) (staging old.place ++ opening old.place) (state old.disk) (state new.disk) k.calls;
    place = place;
    closed = k.closed ∙ at_first k.calls.made old.is_closed k.calls.within;
  })

  module _ {old mid : Mounted D} (k : Clears state false old mid) (there : mid.place ≡ old.place) where
    closed_mid : mid.is_closed ≡ true
    closed_mid = k.closed ∙ (λ i. cond (k.calls.all refl i == 1) old.is_closed true)

    -- the third or the fourth call failed
    pub fails_to_stage : {failed : Bool} (new : Mounted D) → failed ≡ true → Makes (staging mid.place) true (state mid.disk) (state new.disk)
        → new.place ≡ mid.place → new.is_closed ≡ mid.is_closed
        → ReplacesBy state next failed (shown old) (shown new)
    unfolding makes_then makes_stop
    fails_to_stage {failed} new f makes place same =
        let m : Makes (staging old.place) true (state mid.disk) (state new.disk) = rw there at makes in
        rw f (record {
          calls = makes_then (clearing old) (staging old.place ++ opening old.place) true (state old.disk) (state mid.disk) (state new.disk) k.calls
              (makes_stop (staging old.place) (opening old.place) (state mid.disk) (state new.disk) m);
          place = place ∙ there;
          closed = same ∙ closed_mid ∙ sym (stays_closed (2 + m.made) old.is_closed (omega arith) (omega (arith, m.within)));
        })

    module _ (last : Mounted D) (s : Makes (staging mid.place) false (state mid.disk) (state last.disk)) (here : last.place ≡ mid.place) where
      all_calls : (failed : Bool) (b : DiskState) → Makes (opening old.place) failed (state last.disk) b
          → Makes (clearing old ++ (staging old.place ++ opening old.place)) failed (state old.disk) b
      all_calls failed b makes = makes_then (clearing old) (staging old.place ++ opening old.place) failed (state old.disk) (state mid.disk) b k.calls
          (makes_then (staging old.place) (opening old.place) failed (state mid.disk) (state last.disk) b (rw there at s) makes)

      -- the fifth or the sixth call failed
      pub fails_to_open : {failed : Bool} (new : Mounted D) → failed ≡ true → Makes (opening last.place) true (state last.disk) (state new.disk)
          → new.place ≡ last.place → new.is_closed ≡ false
          → ReplacesBy state next failed (shown old) (shown new)
      unfolding all_calls makes_then
      fails_to_open {failed} new f makes place closed =
          let m : Makes (opening old.place) true (state last.disk) (state new.disk) = rw (here ∙ there) at makes in
          let some = m.some refl in
          rw f (record {
            calls = all_calls true (state new.disk) m;
            place = place ∙ here ∙ there;
            closed = closed ∙ sym (no_more (2 + (2 + m.made)) old.is_closed (omega (arith, some)));
          })

      -- no call failed
      pub replaces : (disk : D) (lists : Settings) {slot turn format : ℕ} {is_closed : Bool} → Makes (opening last.place) false (state last.disk) (state disk)
          → slot ≡ spare last.place → turn ≡ turn_after last.place → format ≡ format_2.number → is_closed ≡ is_unplaced last.place
          → ReplacesBy state next false (shown old)
          (shown (record { disk = disk; lists = lists; place = Some (record { slot = slot; turn = turn; format = format }); is_closed = is_closed }))
      replaces disk lists makes es et ef ec = record {
        calls = all_calls false (state disk) (rw (here ∙ there) at makes);
        place = (λ i. Some (record { slot = es i; turn = et i; format = ef i })) ∙ ap next_place (here ∙ there);
        closed = ec ∙ ap is_unplaced (here ∙ there);
      }

-- whether the gate of slot k is open, by a disk that may tell it
told_open : ℕ → Option Contents → Bool
told_open k None = false
told_open k (Some c) = is_open c.bytes k

told_gate : (k : ℕ) (contents : Option Contents) → IfSome contents (λ c. told_open k contents ≡ is_open c.bytes k)
unfolding told_open
told_gate k None = tt
told_gate k (Some c) = refl

-- what a read of a gate gave
pub read_gate : (k : ℕ) (out : List ℕ) (contents : Option Contents) → IfSome contents (λ c. out ≡ take 512 (drop (512 * (8 * k)) c.bytes))
    → IfSome contents (λ c. (get_or out 0 0 == 167) ≡ is_open c.bytes k)
read_gate k out None given = tt
read_gate k out (Some c) given = rw given refl

module _ (k : ℕ) (a b : DiskState) (log : Logs (Read (8 * k) 512 ∷ []) a b) where
  pub gate_failed : {failed : Bool} → failed ≡ true → ReadsSlot k failed a b
  gate_failed {failed} f = rw f (record {
    opened = told_open k a.contents;
    gate = told_gate k a.contents;
    calls = makes_stop (Read (8 * k) 512 ∷ []) (cond (told_open k a.contents) (Read (8 * k + 1) 3584 ∷ []) []) a b (makes_one (Read (8 * k) 512) true a b log);
  })

  pub gate_closed : {opened : Bool} → opened ≡ false → IfSome a.contents (λ c. opened ≡ is_open c.bytes k) → ReadsSlot k false a b
  gate_closed {opened} e gate = record { opened = false; gate = rw e at gate; calls = makes_one (Read (8 * k) 512) false a b log }

  pub body_read : {opened : Bool} (failed : Bool) (c : DiskState) → opened ≡ true → IfSome a.contents (λ x. opened ≡ is_open x.bytes k)
      → Logs (Read (8 * k + 1) 3584 ∷ []) b c → ReadsSlot k failed a c
  body_read {opened} failed c e gate two = record {
    opened = true;
    gate = rw e at gate;
    calls = makes_two (Read (8 * k) 512) (Read (8 * k + 1) 3584) failed a b c log two;
  }

-- the calls of a mounting, after a sync that may have settled some sectors

same_gate : {T E : Type 0} (r : Result T E) (k : ℕ) (opened : Bool) (a b : Option Contents) → BothTell (Syncs r) a b
    → IfSome b (λ c. opened ≡ is_open c.bytes k) → IfSome a (λ c. opened ≡ is_open c.bytes k)
same_gate r k opened None b told gate = tt
same_gate r k opened (Some x) None told gate = absurd told
same_gate r k opened (Some x) (Some y) told gate = rw (syncs_calm r x y told).bytes at gate

both : (first second : Bool) (a : Option Contents) → IfSome a (λ c. first ≡ is_open c.bytes 0) → IfSome a (λ c. second ≡ is_open c.bytes 1)
    → IfSome a (λ c. (first ≡ is_open c.bytes 0) × (second ≡ is_open c.bytes 1))
both first second None f s = tt
both first second (Some c) f s = (f, s)

module _ {T E : Type 0} (r : Result T E) (a b : DiskState) (log : Logs (Sync ∷ []) a b) where
  pub sync_failed : {failed : Bool} → failed ≡ true → MountsBy failed a b
  sync_failed {failed} f =
      let first = told_open 0 a.contents in
      let second = told_open 1 a.contents in
      rw f (record {
        first = first;
        second = second;
        gates = both first second a.contents (told_gate 0 a.contents) (told_gate 1 a.contents);
        calls = makes_stop (Sync ∷ []) (reads_of 0 first ++ reads_of 1 second) a b (makes_one Sync true a b log);
      })

  module _ (told : BothTell (Syncs r) a.contents b.contents) where
    first_gate : (k : ℕ) (opened : Bool) → IfSome b.contents (λ c. opened ≡ is_open c.bytes k) → IfSome a.contents (λ c. opened ≡ is_open c.bytes k)
    first_gate k opened gate = same_gate r k opened a.contents b.contents told gate

    pub first_failed : {failed : Bool} (c : DiskState) → failed ≡ true → ReadsSlot 0 true b c → MountsBy failed a c
    first_failed {failed} c f one =
        let second = told_open 1 a.contents in
        rw f (record {
          first = one.opened;
          second = second;
          gates = both one.opened second a.contents (first_gate 0 one.opened one.gate) (told_gate 1 a.contents);
          calls = makes_then (Sync ∷ []) (reads_of 0 one.opened ++ reads_of 1 second) true a b c (makes_one Sync false a b log)
              (makes_stop (reads_of 0 one.opened) (reads_of 1 second) b c one.calls);
        })

    pub slots_read : (failed : Bool) (c d : DiskState) → c.contents ≡ b.contents → ReadsSlot 0 false b c → ReadsSlot 1 failed c d → MountsBy failed a d
    slots_read failed c d same one two = record {
      first = one.opened;
      second = two.opened;
      gates = both one.opened two.opened a.contents (first_gate 0 one.opened one.gate) (first_gate 1 two.opened (rw same at two.gate));
      calls = makes_then (Sync ∷ []) (reads_of 0 one.opened ++ reads_of 1 two.opened) failed a b d (makes_one Sync false a b log)
          (makes_then (reads_of 0 one.opened) (reads_of 1 two.opened) failed b c d one.calls two.calls);
    }
