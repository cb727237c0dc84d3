-- The texts of addresses (the Unix form and the ports are this project's own rules).
use Rattle.std.specs.Prelude.{ℕ, List}
use Rattle.taps_endpoint.specs.declared.address.Ip.{Ip}
use Rattle.taps_endpoint.specs.declared.address.Ip.TheVariants as ips
use Rattle.taps_endpoint.specs.declared.address.Address.{Address}
use Rattle.taps_endpoint.specs.declared.address.Address.TheVariants.{V4, V6, Unix}
use Rattle.taps_endpoint.specs.Inet4Texts.{IsInet4Text}
use Rattle.taps_endpoint.specs.Inet6Texts.{IsInet6Text}
use Rattle.taps_endpoint.specs.Ports.{HasPort, IsBracketed}
use Rattle.taps_endpoint.specs.UnixTexts.{IsUnixText}

-- the text is one of this address of a host
abbrev pub IsIpText : Ip → List ℕ → Type 0
IsIpText (ips.V4 octets) text = IsInet4Text octets text
IsIpText (ips.V6 fields) text = IsInet6Text fields text

-- the text is one of this address
abbrev pub IsAddressText : Address → List ℕ → Type 0
IsAddressText (V4 octets port) text = HasPort IsInet4Text (octets, port) text
IsAddressText (V6 fields port) text = HasPort (IsBracketed IsInet6Text) (fields, port) text
IsAddressText (Unix path) text = IsUnixText path text

-- the text is the one of this IPv4 address and port
abbrev pub IsInet4AddressText : Address → List ℕ → Type 0
IsInet4AddressText (V4 octets port) text = HasPort IsInet4Text (octets, port) text
IsInet4AddressText (V6 fields port) text = ⊥
IsInet4AddressText (Unix path) text = ⊥
