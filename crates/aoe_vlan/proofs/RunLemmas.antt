-- Turns make a run.
use Rattle.std.proofs.Common.{◌≡◌, ◌<◌, ◌+◌, ℕ, List, [], ◌∷◌, ◌++◌, length, length-append, Option, refl, sym, ap, subst, ◌∙◌, append-nil, append_assoc, arith}
use Rattle.std.specs.Prelude.{All, IfSome}
use Rattle.std.proofs.lemmas.Grind.{flat_map-append}
use Rattle.std.proofs.lemmas.List.Elements.{All-cons}
use Rattle.aoe_io.proofs.BytesLemmas.{Gave-nothing, Gave-then, Took-nothing, Took-then}
use Rattle.aoe_io.specs.Bytes.{Gave, Took, TookSome}
use Rattle.aoe_vlan.specs.Running.{Ends, IsCut, IsPiece, Ran, StopsAt, Turned, came, given_bytes, piece, pieces, switched_behind}
use Rattle.aoe_vlan.specs.Switched.{Passing, given, switched}
use Rattle.aoe_vlan.specs.Tables.{HasLearnt, Knowing}
use Rattle.aoe_vlan.specs.declared.port.PortKind.{PortKind}
use Rattle.aoe_vlan.specs.declared.over_stream.SwitchEnd.{SwitchEnd}
use Rattle.aoe_vlan.specs.declared.over_stream.SwitchEnd.TheVariants as end

-- a run so far, of so many frames that took so many bytes
pub record SoFar (old now : Knowing) (before : List Passing) (left0 left held0 held : Option (List ℕ)) (offset count : ℕ) : Type 0 where
  pub inputs : List Passing
  pub whole : All (IsPiece (length old.ports)) inputs
  pub learnt : HasLearnt now (inputs ++ before)
  pub count_is : length inputs ≡ count
  pub offset_is : length (came inputs) ≡ offset
  pub gave : Gave left0 left (came inputs)
  pub took : Took held0 held (pieces (switched_behind old.ports before inputs))

pub begun : (now : Knowing) (before : List Passing) (left held : Option (List ℕ)) → HasLearnt now before → SoFar now now before left left held held 0 0
begun now before left held learnt = record {
  inputs = [];
  whole = λ k d below. absurd (omega (arith, below));
  learnt = learnt;
  count_is = refl;
  offset_is = refl;
  gave = Gave-nothing left;
  took = Took-nothing held;
}

-- the stream of one more
given-more : (ports : List PortKind) (before inputs : List Passing) (i : Passing)
    → pieces (switched_behind ports before (i ∷ inputs)) ≡ pieces (switched_behind ports before inputs) ++ given_bytes ports (inputs ++ before) i
unfolding given_bytes
given-more ports before inputs i = flat_map-append piece (switched_behind ports before inputs) (given ports (inputs ++ before) i)

pub goes-on : (old now new : Knowing) (before : List Passing) (left0 left left' held0 held held' : Option (List ℕ)) (offset count n : ℕ) → now.ports ≡ old.ports
    → (s : SoFar old now before left0 left held0 held offset count) → Turned n now new (s.inputs ++ before) left left' held held'
    → SoFar old new before left0 left' held0 held' (offset + (3 + n)) (count + 1)
goes-on old now new before left0 left left' held0 held held' offset count n same s t =
    let P : List ℕ → Type 0 = λ xs. Took held0 held' xs in
    let given-is : given_bytes now.ports (s.inputs ++ before) t.input ≡ given_bytes old.ports (s.inputs ++ before) t.input =
    ap (λ (l : List PortKind). given_bytes l (s.inputs ++ before) t.input) same in
    record {
      inputs = t.input ∷ s.inputs;
      whole = All-cons (IsPiece (length old.ports)) t.input s.inputs (subst (λ (l : List PortKind). IsPiece (length l) t.input) same t.whole) s.whole;
      learnt = t.learnt;
      count_is = omega (arith, s.count_is);
      offset_is = omega (arith, s.offset_is, length-append (came s.inputs) (piece t.input), t.count);
      gave = Gave-then left0 left left' (came s.inputs) (piece t.input) s.gave t.gave;
      took = subst P (sym (given-more old.ports before s.inputs t.input)) (Took-then held0 held held' _ _ s.took (subst (λ (xs : List ℕ). Took held held'
          xs) given-is t.all));
    }

-- the source ended a run
stopped : (e : SwitchEnd) (old now : Knowing) (before : List Passing) (left0 left left' held0 held : Option (List ℕ)) (offset count : ℕ)
    → count < 4294967295 → now.ports ≡ old.ports → SoFar old now before left0 left held0 held offset count
    → StopsAt e (length now.ports) offset left left' → Ran e old now before left0 left' held0 held
stopped end.Ended old now before left0 left left' held0 held offset count few same s is =
    record {
      inputs = s.inputs;
      whole = s.whole;
      learnt = s.learnt;
      behind = left;
      gave = s.gave;
      stops = (omega (arith, s.count_is, few), is.0, is.1);
      writes = s.took;
    }
stopped (end.Stream at) old now before left0 left left' held0 held offset count few same s is =
    let cut = subst (λ (l : List PortKind). IfSome left (IsCut (length l))) same is.1 in
    record {
      inputs = s.inputs;
      whole = s.whole;
      learnt = s.learnt;
      behind = left;
      gave = s.gave;
      stops = (omega (arith, s.count_is, few), is.0 ∙ sym s.offset_is, cut, is.2);
      writes = s.took;
    }
stopped end.SourceFault old now before left0 left left' held0 held offset count few same s is =
    record {
      inputs = s.inputs;
      whole = s.whole;
      learnt = s.learnt;
      behind = left;
      gave = s.gave;
      stops = (omega (arith, s.count_is, few), is);
      writes = s.took;
    }
stopped end.SinkFault old now before left0 left left' held0 held offset count few same s is = absurd is
stopped end.Limit old now before left0 left left' held0 held offset count few same s is = absurd is

-- a turn of a run in which the source ends it
pub ends-source : (e : SwitchEnd) (old new : Knowing) (before : List Passing) (left left' held held' : Option (List ℕ)) (offset : ℕ)
    → StopsAt e (length old.ports) offset left left' → held' ≡ held → new ≡ old
    → Ends e offset old new before left left' held held'
ends-source end.Ended old new before left left' held held' offset is held_is new_is = (is, held_is, new_is)
ends-source (end.Stream at) old new before left left' held held' offset is held_is new_is = (is, held_is, new_is)
ends-source end.SourceFault old new before left left' held held' offset is held_is new_is = (is, held_is, new_is)
ends-source end.SinkFault old new before left left' held held' offset is held_is new_is = absurd is
ends-source end.Limit old new before left left' held held' offset is held_is new_is = (is, held_is, new_is)

ended : (e : SwitchEnd) (old now new : Knowing) (before : List Passing) (left0 left left' held0 held held' : Option (List ℕ)) (offset count : ℕ)
    → count < 4294967295 → now.ports ≡ old.ports
    → SoFar old now before left0 left held0 held offset count → StopsAt e (length now.ports) offset left left' → held' ≡ held → new ≡ now
    → Ran e old new before left0 left' held0 held'
ended e old now new before left0 left left' held0 held held' offset count few same s is held_is new_is =
    subst (λ (k : Knowing). Ran e old k before left0 left' held0 held') (sym new_is)
    (subst (λ (h : Option (List ℕ)). Ran e old now before left0 left' held0 h) (sym held_is) (stopped e old now before left0 left left' held0 held offset
    count few same s is))

-- a turn ended the run
pub ends : (e : SwitchEnd) (old now new : Knowing) (before : List Passing) (left0 left left' held0 held held' : Option (List ℕ)) (offset count : ℕ)
    → count < 4294967295 → now.ports ≡ old.ports
    → (s : SoFar old now before left0 left held0 held offset count) → Ends e offset now new (s.inputs ++ before) left left' held held'
    → Ran e old new before left0 left' held0 held'
ends end.SinkFault old now new before left0 left left' held0 held held' offset count few same s b =
    let some = subst (λ (l : List PortKind). TookSome held held' (given_bytes l (s.inputs ++ before) b.input)) same b.some in
    record {
      inputs = b.input ∷ s.inputs;
      whole = All-cons (IsPiece (length old.ports)) b.input s.inputs (subst (λ (l : List PortKind). IsPiece (length l) b.input) same b.whole) s.whole;
      learnt = b.learnt;
      behind = left';
      gave = Gave-then left0 left left' (came s.inputs) (piece b.input) s.gave b.gave;
      stops = (omega (arith, s.count_is, few), refl);
      writes = (held, s.took, some);
    }
ends end.Ended old now new before left0 left left' held0 held held' offset count few same s e = ended end.Ended old now new before left0 left left' held0
    held held' offset count few same s e.0 e.1 e.2
ends (end.Stream at) old now new before left0 left left' held0 held held' offset count few same s e = ended (end.Stream at) old now new before left0 left
    left' held0 held held' offset count few same s e.0 e.1 e.2
ends end.SourceFault old now new before left0 left left' held0 held held' offset count few same s e = ended end.SourceFault old now new before left0 left
    left' held0 held held' offset count few same s e.0 e.1 e.2
ends end.Limit old now new before left0 left left' held0 held held' offset count few same s e = absurd e.0

pub limited : (old now : Knowing) (before : List Passing) (left0 left held0 held : Option (List ℕ)) (offset count : ℕ) → count ≡ 4294967295
    → SoFar old now before left0 left held0 held offset count → Ran end.Limit old now before left0 left held0 held
limited old now before left0 left held0 held offset count all s =
    record {
      inputs = s.inputs;
      whole = s.whole;
      learnt = s.learnt;
      behind = left;
      gave = s.gave;
      stops = (omega (arith, s.count_is, all), refl);
      writes = s.took;
    }

-- runs follow one another
pub behind-others : (ports : List PortKind) (before inputs : List Passing)
    → switched ports (inputs ++ before) ≡ switched ports before ++ switched_behind ports before inputs
behind-others ports before [] = sym (append-nil (switched ports before))
behind-others ports before (i ∷ inputs) =
    let last = given ports (inputs ++ before) i in
    ap (λ (t : List Passing). t ++ last) (behind-others ports before inputs) ∙ append_assoc (switched ports before) (switched_behind ports before inputs) last

pub behind-none : (ports : List PortKind) (inputs : List Passing) → switched_behind ports [] inputs ≡ switched ports inputs
behind-none ports [] = refl
behind-none ports (i ∷ inputs) =
    ap (λ (t : List Passing). t ++ given ports (inputs ++ []) i) (behind-none ports inputs)
    ∙ ap (λ (l : List Passing). switched ports inputs ++ given ports l i) (append-nil inputs)
