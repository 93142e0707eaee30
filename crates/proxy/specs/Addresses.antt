-- Where a connection to an address comes to.
use Rattle.std.specs.Prelude.{◌≡◌, [], ◌∷◌}
use Rattle.std.specs.declared.net.ip_addr.IpAddr.{IpAddr}
use Rattle.std.specs.Net.Addr.{IsCanonicalOf, IsLoopbackV4, IsLoopbackV6, IsUnspecifiedV4}
use Rattle.std.specs.Net.Addr.{IsUnspecifiedV6, MatchIp, ipv4_octets}

-- c is the canonical form of the address: of an IPv4 address in one of IPv6 that one, and of others
-- the address itself
abbrev pub IsCanonical : (address c : IpAddr) → Type 0
IsCanonical address c = MatchIp address (λ _. c ≡ address) (λ a. IsCanonicalOf a c)

-- the address is this machine's own, whichever that is
abbrev pub IsLoopback : IpAddr → Type 0
IsLoopback address = MatchIp address IsLoopbackV4 IsLoopbackV6

-- the loopback addresses to which a connection to all addresses comes: 127.0.0.1 and ::1
abbrev pub IsMainLoopback4 : IpAddr → Type 0
IsMainLoopback4 r = MatchIp r (λ b. ipv4_octets b ≡ 127 ∷ 0 ∷ 0 ∷ 1 ∷ []) (λ b. ⊥)

abbrev pub IsMainLoopback6 : IpAddr → Type 0
IsMainLoopback6 r = MatchIp r (λ b. ⊥) IsLoopbackV6

-- A connection to the address comes to r: to the loopback address, if its canonical form stands for
-- all addresses, and else to that form.
abbrev pub IsReached : (address r : IpAddr) → Type 0
IsReached address r =
    (c : IpAddr) × IsCanonical address c
    × MatchIp c
    (λ a. (IsUnspecifiedV4 a → IsMainLoopback4 r) × ((IsUnspecifiedV4 a → ⊥) → r ≡ c))
    (λ a. (IsUnspecifiedV6 a → IsMainLoopback6 r) × ((IsUnspecifiedV6 a → ⊥) → r ≡ c))
