-- The one text by which each address is printed: of an IPv6 address that of RFC 5952 section 4.
use Rattle.std.specs.Prelude.{ℕ, ◌+◌, ◌==◌, List, [], ◌∷◌, ◌++◌, take, drop, slice_index, codes, nat_le, if◌then◌else◌, false, Option, Some, None}
use Rattle.std.specs.List.{prefix_len, join_by}
use Rattle.std.specs.Fmt.{digits, decimal}
use Rattle.taps_endpoint.specs.declared.address.Address.{Address}
use Rattle.taps_endpoint.specs.declared.address.Address.TheVariants.{V4, V6, Unix}
use Rattle.taps_endpoint.specs.Inet4Texts.{dotted}

-- the four octets, joined by `.`
abbrev pub inet4_text : List ℕ → List ℕ
inet4_text octets = dotted (slice_index octets 0) (slice_index octets 1) (slice_index octets 2) (slice_index octets 3)

-- in lower case, without leading zeros (RFC 5952 sections 4.1 and 4.3)
abbrev pub hex : ℕ → List ℕ
hex field = digits 16 false field

-- fields joined by `:`
abbrev pub joined : List ℕ → List ℕ
joined fields = join_by hex (codes ":") fields

-- how many zeros the list begins with
abbrev pub zeros : List ℕ → ℕ
zeros fields = prefix_len (λ field. field == 0) fields

-- how many fields stand before the longest run of zeros, the first one of several, and how many are in it
abbrev pub longest : List ℕ → ℕ × ℕ
longest [] = (0, 0)
longest (field ∷ fields) = let behind = longest fields in
    if nat_le behind.1 (zeros (field ∷ fields)) then (0, zeros (field ∷ fields)) else (behind.0 + 1, behind.1)

-- a run of two or more zeros is written `::` (RFC 5952 section 4.2)
abbrev pub shortened : List ℕ → ℕ × ℕ → List ℕ
shortened fields run =
    if nat_le 2 run.1 then joined (take run.0 fields) ++ (codes "::" ++ joined (drop (run.0 + run.1) fields))
    else joined fields

-- the eight fields, with `::` for the longest run of zeros
unfoldable pub inet6_text : List ℕ → List ℕ
inet6_text fields = shortened fields (longest fields)

-- an IPv6 address stands in brackets
abbrev pub canonical_text : Address → List ℕ
canonical_text (V4 octets port) = inet4_text octets ++ (codes ":" ++ decimal port)
canonical_text (V6 fields port) = codes "[" ++ (inet6_text fields ++ (codes "]:" ++ decimal port))
canonical_text (Unix path) = codes "unix:" ++ path

-- the port of an address that has one
abbrev pub port_of : Address → Option ℕ
port_of (V4 octets port) = Some port
port_of (V6 fields port) = Some port
port_of (Unix path) = None
