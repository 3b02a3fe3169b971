-- The setup of one host is one, with one path or with two.
use Rattle.std.proofs.Common.{ℕ, ◌<◌, ◌≡◌, ◌||◌, Bool, true, false, List, [], ◌∷◌, length, None, refl, sym, ap, ◌∙◌, arith, slice_index}
use Rattle.std.specs.List.{AllByRecursion}
use Rattle.aoe_base.specs.declared.address.Mac.{Mac}
use Rattle.aoe_base.specs.Addresses.{holds, same_address}
use Rattle.aoe_base.proofs.AddressLemmas.{same-address}
use Rattle.aoe_history.specs.Example.{a, host_of, port, setup, setup_of, slot_at}
use Rattle.aoe_history.specs.PathCases.{two_paths, two_ports}
use Rattle.aoe_history.specs.Setup.{IsSetup, Setup}
use Rattle.aoe_history.proofs.hosts.SendLemmas.{only-one}

-- what each of the ports keeps holds of an address that is one of them
of-ports : (P : Mac → Type 0) (ports : List Mac) (m : Mac) → AllByRecursion P ports → holds ports m ≡ true → P m
of-ports P [] m each e = absurd (cc)
of-ports P (n ∷ ports) m each e = go (same_address n m) refl e (of-ports P ports m each.1)
  where
    go : (b : Bool) → same_address n m ≡ b → (b || holds ports m) ≡ true → (holds ports m ≡ true → P m) → P m
    go true same f more = rw (same-address n m same) at each.0
    go false same f more = more f

-- the port of the host
differ : (n : ℕ) → n < 10 → port 10 ≡ port n → ⊥
differ n lt e = let same : 10 ≡ n = ap (λ (m : Mac). slice_index m.0 5) e in omega arith

abbrev IsSix : Mac → Type 0
IsSix m = length m.0 ≡ 6

abbrev IsOther : Mac → Type 0
IsOther m = port 10 ≡ m → ⊥

-- the network of one host, and of a shelf with ports of its own
abbrev net : List Mac → Setup
net shelf = setup_of shelf None (host_of shelf a 10 ∷ [])

net-is : (shelf : List Mac) → 0 < length shelf → AllByRecursion IsSix shelf → AllByRecursion IsOther shelf → IsSetup (net shelf)
net-is shelf some six other = record {
  host_addresses = λ host m there e. of-ports IsSix (port 10 ∷ []) m (refl, tt) (rw (← only-one _ host there) at e);
  shelf_addresses = λ s m there e. of-ports IsSix shelf m six (rw (← only-one _ s there) at e);
  host_ports = λ x y m p q e f. sym (only-one _ x p) ∙ only-one _ y q;
  shelf_ports = λ host s m p q e f.
      of-ports IsOther shelf m other (rw (← only-one _ s q) at f) (of-ports (λ n. port 10 ≡ n) (port 10 ∷ []) m (refl, tt) (rw (← only-one _ host p) at e));
  slot_names = λ s there. rw (← only-one _ s there) refl;
  some_port = λ s there. rw (← only-one _ s there) some;
  majors = λ s there. rw (← only-one _ s there) (omega arith);
  minors = λ s there. rw (← only-one _ s there) (omega arith);
  size = λ s there. rw (← only-one _ s there) (omega arith);
  max = λ s there. rw (← only-one _ s there) (omega arith);
  attached = λ host d p q.
      rw (← only-one _ d (rw (← only-one _ host p) at q)) (record { slot = slot_at shelf None; there = refl; remotes = refl; total = refl; max = refl });
}

pub setup-is : IsSetup setup
setup-is = net-is (port 1 ∷ []) (omega arith) (refl, tt) (differ 1 (omega arith), tt)

pub two-paths-is : IsSetup two_paths
two-paths-is = net-is two_ports (omega arith) (refl, (refl, tt)) (differ 1 (omega arith), (differ 2 (omega arith), tt))
