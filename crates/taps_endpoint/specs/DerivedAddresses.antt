-- The addresses that remotes stand for (this project's own rule).
use Rattle.std.specs.Prelude.{◌≡◌, ℕ, ◌<◌, ◌≤◌, List, [], ◌∷◌, ◌++◌, ◌==◌, Bool, false, ◌&&◌, map, flat_map, fold, length, unwrap_or, bytes_eq, Result, Ok, Err, if◌then◌else◌}
use Rattle.std.specs.List.{list_any}
use Rattle.taps_base.specs.Lists.{ListState}
use Rattle.taps_endpoint.specs.declared.address.Ip.{Ip}
use Rattle.taps_endpoint.specs.declared.address.Ip.TheVariants as ips
use Rattle.taps_endpoint.specs.declared.address.Address.{Address}
use Rattle.taps_endpoint.specs.declared.address.Address.TheVariants.{V4, V6, Unix}
use Rattle.taps_endpoint.specs.declared.remote.Remote.{Remote}
use Rattle.taps_endpoint.specs.declared.remote.Remote.TheVariants.{Literal, Host}
use Rattle.taps_endpoint.specs.declared.derive.DeriveError.{DeriveError}
use Rattle.taps_endpoint.specs.declared.derive.DeriveError.TheVariants.{TooMany, NoMemory}
use Rattle.taps_endpoint.specs.Hosts.{find_host}

-- the address at this port
abbrev pub with_port : ℕ → Ip → Address
with_port port (ips.V4 octets) = V4 octets port
with_port port (ips.V6 fields) = V6 fields port

-- a literal, or the addresses of the host with the port; a host without a list has none
abbrev pub addresses_of : List (List ℕ × List Ip) → Remote → List Address
addresses_of hosts (Literal address) = address ∷ []
addresses_of hosts (Host name port) = map (with_port port) (unwrap_or (find_host hosts name) [])

-- the two are equal
abbrev pub same_address : Address → Address → Bool
same_address (V4 octets port) (V4 others other) = bytes_eq octets others && port == other
same_address (V6 fields port) (V6 others other) = bytes_eq fields others && port == other
same_address (Unix path) (Unix other) = bytes_eq path other
same_address _ _ = false

-- an address goes behind the others, unless it is equal to one of them
abbrev pub with_address : List Address → Address → List Address
with_address others address = if list_any (same_address address) others then others else others ++ address ∷ []

-- the addresses of all remotes, in their order, without each that is equal to an earlier one
abbrev pub derived_addresses : List (List ℕ × List Ip) → List Remote → List Address
derived_addresses hosts remotes = fold with_address [] (flat_map (addresses_of hosts) remotes)

-- these addresses are the answer, of which there may be 32
abbrev pub Derives : Result (ListState Address) DeriveError → List Address → Type 0
Derives (Ok list) addresses = (list.items ≡ addresses) × (length addresses ≤ 32)
Derives (Err (TooMany count)) addresses = (count ≡ length addresses) × (32 < length addresses)
Derives (Err NoMemory) addresses = Unit {0}
