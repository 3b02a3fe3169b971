-- Pieces of the stream.
use Rattle.std.proofs.Common.{◌≡◌, ◌<◌, ◌≤◌, ◌+◌, ◌*◌, ◌/◌, ◌%◌, ℕ, List, [], ◌∷◌, ◌++◌, length, map, take, drop, get_or, slice_get, Option, Some, None, refl, sym, ap, subst, ◌∙◌, arith, inl, inr, length-append}
use Rattle.std.specs.Prelude.{IfSome, ◌⊎◌}
use Rattle.std.specs.Int.{w16, to_be_bytes}
use Rattle.std.proofs.lemmas.List.{drop_more, map-append, take-append-drop}
use Rattle.std.proofs.lemmas.Grind.{flat_map-append}
use Rattle.aoe_io.proofs.BytesLemmas.{TookSome-front, TookSome-then}
use Rattle.aoe_io.specs.Bytes.{Gave, IsEnded, Took, TookSome}
use Rattle.aoe_vlan.specs.Running.{IsCut, IsPiece, given_bytes, piece, pieces}
use Rattle.aoe_vlan.specs.Switched.{Passing, formed_at, given_in, going, passing, vlan_at}
use Rattle.aoe_vlan.specs.declared.port.PortKind.{PortKind}

-- What stands in front of a frame.

-- its bytes
pub front-is : (p : List ℕ) (k n : ℕ) → length p ≡ 3 → k ≡ 3 → n ≡ get_or p 1 0 * 256 + get_or p 2 0 → get_or p 1 0 < 256 → get_or p 2 0 < 256
    → take k p ≡ get_or p 0 0 ∷ to_be_bytes w16 n
front-is [] k n three k_is n_is high_small low_small = absurd (omega arith)
front-is (port ∷ []) k n three k_is n_is high_small low_small = absurd (omega arith)
front-is (port ∷ high ∷ []) k n three k_is n_is high_small low_small = absurd (omega arith)
front-is (port ∷ high ∷ low ∷ []) k n three k_is n_is high_small low_small =
    let first : n / 256 % 256 ≡ high = omega arith in
    let second : n % 256 ≡ low = omega arith in
    rw (k_is, first, second) refl
front-is (port ∷ high ∷ low ∷ more ∷ rest) k n three k_is n_is high_small low_small = absurd (omega arith)

-- one or two bytes before the end are cut
pub cut-front : (ports : ℕ) (a b : Option (List ℕ)) (front : List ℕ) → Gave a b front → IsEnded b → 0 < length front → length front < 3 → IfSome a (IsCut ports)
cut-front ports None b front gave ended some few = tt
cut-front ports (Some x) None front gave ended some few = absurd (cc)
cut-front ports (Some x) (Some y) [] gave ended some few = absurd (omega (arith, some))
cut-front ports (Some x) (Some y) (p ∷ []) gave ended some few =
    let whole : x ≡ p ∷ [] = cc in subst (IsCut ports) (sym whole) tt
cut-front ports (Some x) (Some y) (p ∷ q ∷ []) gave ended some few =
    let whole : x ≡ p ∷ q ∷ [] = cc in subst (IsCut ports) (sym whole) tt
cut-front ports (Some x) (Some y) (p ∷ q ∷ r ∷ rest) gave ended some few = absurd (omega (arith, few))

-- bytes that begin with no port or no length
pub bad-front : (ports : ℕ) (a b : Option (List ℕ)) (port n : ℕ) → n < 65536 → Gave a b (port ∷ to_be_bytes w16 n)
    → (ports ≤ port) ⊎ (n < 14) ⊎ (9022 < n) → IfSome a (IsCut ports)
bad-front ports None b port n small gave bad = tt
bad-front ports (Some x) None port n small gave bad = absurd (cc)
bad-front ports (Some x) (Some y) port n small gave bad =
    let whole : x ≡ (port ∷ to_be_bytes w16 n) ++ y = cc in
    let back : (n / 256 % 256) * 256 + n % 256 ≡ n = omega (arith, small) in
    subst (IsCut ports) (sym whole) (elim bad [
      | inl port_bad ↦ inl port_bad
      | inr (inl below) ↦ inr (inl (omega (arith, below, back)))
      | inr (inr above) ↦ inr (inr (inl (omega (arith, above, back))))
    ])

-- bytes that end within a frame
pub cut-frame : (ports : ℕ) (a b : Option (List ℕ)) (port n : ℕ) → n < 65536 → Gave a b (port ∷ to_be_bytes w16 n) → IfSome b (λ left. length left < n)
    → IfSome a (IsCut ports)
cut-frame ports None b port n small gave short = tt
cut-frame ports (Some x) None port n small gave short = absurd (cc)
cut-frame ports (Some x) (Some y) port n small gave short =
    let whole : x ≡ (port ∷ to_be_bytes w16 n) ++ y = cc in
    let back : (n / 256 % 256) * 256 + n % 256 ≡ n = omega (arith, small) in
    subst (IsCut ports) (sym whole) (inr (inr (inr (omega (arith, short, back)))))

-- What goes out at ports.

-- the pieces of a frame at ports
abbrev pub each-at : List PortKind → ℕ → List ℕ → List ℕ → List ℕ
each-at ports vid frame to = pieces (map (λ q. passing q (formed_at (slice_get ports q) vid frame)) to)

each-append : (ports : List PortKind) (vid : ℕ) (frame xs ys : List ℕ)
    → each-at ports vid frame (xs ++ ys) ≡ each-at ports vid frame xs ++ each-at ports vid frame ys
each-append ports vid frame xs ys =
    let f : ℕ → Passing = λ q. passing q (formed_at (slice_get ports q) vid frame) in
    ap pieces (map-append f xs ys) ∙ flat_map-append piece (map f xs) (map f ys)

-- a sink failed at one of them
pub fails-at : (ports : List PortKind) (vid : ℕ) (frame to : List ℕ) (i : ℕ) (a b c : Option (List ℕ)) (bytes : List ℕ) → i < length to
    → bytes ≡ piece (passing (get_or to i 0) (formed_at (slice_get ports (get_or to i 0)) vid frame))
    → Took a b (each-at ports vid frame (take i to)) → TookSome b c bytes → TookSome a c (each-at ports vid frame to)
fails-at ports vid frame to i a b c bytes lt bytes_is took some =
    let each : List ℕ → List ℕ = each-at ports vid frame in
    let q : ℕ = get_or to i 0 in
    let rest : List ℕ = drop (i + 1) to in
    let P : List ℕ → Type 0 = λ xs. TookSome b c xs in
    let Q : List ℕ → Type 0 = λ xs. TookSome a c xs in
    let one : TookSome b c (each (q ∷ rest)) = TookSome-front b c (piece (passing q (formed_at (slice_get ports q) vid frame))) (each rest) (subst P
    bytes_is some) in
    let all : take i to ++ q ∷ rest ≡ to = ap (λ (t : List ℕ). take i to ++ t) (sym (drop_more to i 0 lt)) ∙ take-append-drop i to in
    subst Q (sym (each-append ports vid frame (take i to) (q ∷ rest)) ∙ ap each all) (TookSome-then a b c (each (take i to)) (each (q ∷ rest)) took one)

-- an input of no VLAN gives nothing
pub gives-nothing : (ports : List PortKind) (before : List Passing) (i : Passing) → vlan_at ports i ≡ None → given_bytes ports before i ≡ []
unfolding given_bytes
gives-nothing ports before i e = ap (λ (v : Option ℕ). pieces (given_in ports i (going ports before i) v)) e

-- what an input of a VLAN gives
pub gives-each : (ports : List PortKind) (before : List Passing) (p vid : ℕ) (frame to : List ℕ) → vlan_at ports (passing p frame) ≡ Some vid
    → to ≡ going ports before (passing p frame) → each-at ports vid frame to ≡ given_bytes ports before (passing p frame)
unfolding given_bytes
gives-each ports before p vid frame to e to_is =
    ap (each-at ports vid frame) to_is ∙ sym (ap (λ (v : Option ℕ). pieces (given_in ports (passing p frame) (going ports before (passing p frame)) v)) e)

-- the ports of a frame that was taken give what the input gives
pub each-given : (old now : List PortKind) (before : List Passing) (p q vid : ℕ) (v : Option ℕ) (frame to items : List ℕ) → now ≡ old → q ≡ p
    → v ≡ vlan_at old (passing q frame) → v ≡ Some vid → to ≡ items → items ≡ going old before (passing q frame)
    → each-at now vid frame to ≡ given_bytes old before (passing p frame)
each-given old now before p q vid v frame to items same from v_is some to_is items_is =
    let at : vlan_at old (passing p frame) ≡ Some vid = ap (λ (n : ℕ). vlan_at old (passing n frame)) (sym from) ∙ sym v_is ∙ some in
    let all : to ≡ going old before (passing p frame) = to_is ∙ items_is ∙ ap (λ (n : ℕ). going old before (passing n frame)) from in
    ap (λ (l : List PortKind). each-at l vid frame to) same ∙ gives-each old before p vid frame to at all

-- Pieces that are whole.

pub piece-whole : (ports : ℕ) (p : Passing) (rest : List ℕ) → IsPiece ports p → IsCut ports (piece p ++ rest) → ⊥
piece-whole ports p rest is cut =
    let n = length p.frame in
    let back : (n / 256 % 256) * 256 + n % 256 ≡ n = omega (arith, is.short) in
    elim cut [
      | inl no_port ↦ omega (arith, no_port, is.port)
      | inr (inl below) ↦ omega (arith, is.long, back)
      | inr (inr (inl above)) ↦ omega (arith, is.short, back)
      | inr (inr (inr short)) ↦ omega (arith, length-append p.frame rest, back)
    ]
