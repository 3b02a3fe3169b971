-- The addresses of a list of texts, read one after the other.
use Rattle.std.proofs.Common.{◌≡◌, ◌+◌, ◌<◌, ℕ, suc, List, [], ◌∷◌, ◌++◌, get_or, length, take, subst, sym, ap, refl, arith}
use Rattle.std.proofs.lemmas.List.{take_all, take_more}
use Rattle.std.proofs.lemmas.List.Elements.{All-push}
use Rattle.std.specs.Prelude.{All}
use Rattle.std.specs.Net.Grammar.{IsSocketText}
use Rattle.std.specs.declared.net.socket_addr.SocketAddr.{SocketAddr}
use Rattle.aoe_udp.specs.Addresses.{AreRead, IsAddress}

pub none_read : (texts : List (List ℕ)) → All IsAddress (take 0 texts)
none_read texts k d below = absurd (omega (arith, below))

module _ (texts : List (List ℕ)) (n : ℕ) (piece : List ℕ) (at : (n < length texts) × (piece ≡ get_or texts n piece)) where
  pub one_more : All IsAddress (take n texts) → IsAddress piece → All IsAddress (take (n + 1) texts)
  one_more all is =
      let P : List (List ℕ) → Type 0 = λ xs. All IsAddress xs in
      subst P (sym (take_more texts n piece at.0)) (All-push IsAddress (take n texts) (get_or texts n piece) all (subst IsAddress at.1 is))

  pub none_at : (IsAddress piece → ⊥) → All IsAddress texts → ⊥
  none_at isnt all = isnt (subst IsAddress (sym at.1) (all n piece at.0))

pub all_read : (texts : List (List ℕ)) (n : ℕ) → n ≡ length texts → All IsAddress (take n texts) → All IsAddress texts
all_read texts n e all =
    let P : List (List ℕ) → Type 0 = λ xs. All IsAddress xs in
    subst P (take_all n texts (omega (arith, e))) all

-- one more text that is read, and one more address
pub more_read : (texts : List (List ℕ)) (addresses : List SocketAddr) (text : List ℕ) (address : SocketAddr) → AreRead texts addresses
    → IsSocketText text address → AreRead (texts ++ text ∷ []) (addresses ++ address ∷ [])
more_read [] [] text address read is = (is, tt)
more_read (t ∷ texts) (a ∷ addresses) text address read is = (read.0, more_read texts addresses text address read.1 is)
more_read [] (a ∷ addresses) text address read is = absurd read
more_read (t ∷ texts) [] text address read is = absurd read

pub one_more_read : (texts : List (List ℕ)) (n : ℕ) (piece : List ℕ) (addresses : List SocketAddr) (address : SocketAddr)
    → (n < length texts) × (piece ≡ get_or texts n piece) → AreRead (take n texts) addresses → IsSocketText piece address
    → AreRead (take (n + 1) texts) (addresses ++ address ∷ [])
one_more_read texts n piece addresses address at read is =
    subst (λ xs. AreRead xs (addresses ++ address ∷ [])) (sym (take_more texts n piece at.0))
    (more_read (take n texts) addresses (get_or texts n piece) address read (subst (λ t. IsSocketText t address) at.1 is))

pub whole_read : (texts : List (List ℕ)) (n : ℕ) (addresses : List SocketAddr) → n ≡ length texts → AreRead (take n texts) addresses
    → AreRead texts addresses
whole_read texts n addresses e read = subst (λ xs. AreRead xs addresses) (take_all n texts (omega (arith, e))) read

pub read_count : (texts : List (List ℕ)) (addresses : List SocketAddr) → AreRead texts addresses → length addresses ≡ length texts
read_count [] [] read = refl
read_count (t ∷ texts) (a ∷ addresses) read = ap suc (read_count texts addresses read.1)
read_count [] (a ∷ addresses) read = absurd read
read_count (t ∷ texts) [] read = absurd read
