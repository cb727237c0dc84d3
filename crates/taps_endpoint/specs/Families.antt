-- The families of addresses.
use Rattle.std.specs.Prelude.{Bool, true, false}
use Rattle.taps_endpoint.specs.declared.address.Address.{Address}
use Rattle.taps_endpoint.specs.declared.address.Address.TheVariants.{V4, V6, Unix}
use Rattle.taps_endpoint.specs.declared.address.Family.{Family}
use Rattle.taps_endpoint.specs.declared.address.Family.TheVariants as families

-- the family of an address
abbrev pub family_of : Address → Family
family_of (V4 octets port) = families.Inet4
family_of (V6 fields port) = families.Inet6
family_of (Unix path) = families.Unix

-- the two are equal
abbrev pub is_same_family : Family → Family → Bool
is_same_family families.Inet4 families.Inet4 = true
is_same_family families.Inet6 families.Inet6 = true
is_same_family families.Unix families.Unix = true
is_same_family family other = false
