-- The texts of a link's addresses.
use Rattle.std.specs.Prelude.{ℕ, ◌==◌, ◌&&◌, Bool, true, false, not, List, [], ◌∷◌, if◌then◌else◌, All}
use Rattle.std.specs.List.{list_all, list_any, slice_split}
use Rattle.std.specs.Net.Addr.{ipv4_octets, ipv6_segments, is_ipv4, is_ipv6}
use Rattle.std.specs.Net.Grammar.{IsSocketText}
use Rattle.std.specs.Net.Socket.{socket_ip, v4_ip, v4_port, v6_flowinfo, v6_ip, v6_port, v6_scope_id}
use Rattle.std.specs.Str.{bytes_eq}
use Rattle.std.specs.declared.net.socket_addr.SocketAddr.{SocketAddr}
use Rattle.std.specs.declared.net.socket_addr.SocketAddr.TheVariants.{V4, V6}

-- the text spells an address of a socket: `address:port`, with an IPv6 address in brackets
abbrev pub IsAddress : List ℕ → Type 0
IsAddress text = (address : SocketAddr) × IsSocketText text address

-- the pieces of the text between its commas (44) spell addresses
abbrev pub ArePeers : List ℕ → Type 0
ArePeers text = All IsAddress (slice_split (λ c. c == 44) text)

-- the texts spell these addresses, one each
abbrev pub AreRead : List (List ℕ) → List SocketAddr → Type 0
AreRead [] [] = Unit
AreRead (text ∷ texts) (address ∷ addresses) = IsSocketText text address × AreRead texts addresses
AreRead texts addresses = ⊥

-- both are one address
abbrev pub same_socket : SocketAddr → SocketAddr → Bool
same_socket (V4 a) (V4 b) = bytes_eq (ipv4_octets (v4_ip a)) (ipv4_octets (v4_ip b)) && (v4_port a == v4_port b)
same_socket (V6 a) (V6 b) =
    bytes_eq (ipv6_segments (v6_ip a)) (ipv6_segments (v6_ip b)) && (v6_port a == v6_port b) && (v6_flowinfo a == v6_flowinfo b)
    && (v6_scope_id a == v6_scope_id b)
same_socket a b = false

-- no address stands twice
abbrev pub all_different : List SocketAddr → Bool
all_different [] = true
all_different (address ∷ addresses) = not (list_any (λ other. same_socket other address) addresses) && all_different addresses

-- an address is of the family of this one: of IPv4, or of IPv6
abbrev pub is_of_family : SocketAddr → SocketAddr → Bool
is_of_family local address = if is_ipv4 (socket_ip local) then is_ipv4 (socket_ip address) else is_ipv6 (socket_ip address)

-- and so is each of them
abbrev pub are_of_family : SocketAddr → List SocketAddr → Bool
are_of_family local = list_all (is_of_family local)

-- the ends of a link as texts, of peers joined by commas (44), and as addresses
pub record AreEnds (local peers : List ℕ) (address : SocketAddr) (addresses : List SocketAddr) : Type 0 where
  pub own : IsSocketText local address
  pub others : AreRead (slice_split (λ c. c == 44) peers) addresses
