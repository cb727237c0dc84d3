-- Texts that are addresses or bytes.
use Rattle.std.specs.Prelude.{ℕ, List, Result, Ok, Err}
use Rattle.hex.specs.Hex.{decode_of}
use Rattle.hex.specs.declared.error.FromHexError.{FromHexError}
use Rattle.toml.specs.Data.{string}
use Rattle.taps_endpoint.specs.Answers.{address_answer, ip_answer}
use Rattle.taps_endpoint.specs.declared.address.Address.{Address}
use Rattle.taps_endpoint.specs.declared.address.Ip.{Ip}
use Rattle.taps_endpoint.specs.declared.address_error.AddressError.{AddressError}
use Rattle.taps_table.specs.Values.{Reader}
use Rattle.taps_table.specs.declared.pre_error.PreError.{PreError}
use Rattle.taps_table.specs.declared.pre_error.PreError.TheVariants.{WrongKind, BadAddress, BadHex}

-- what a parser of addresses gave, or the place in the text at which it refused
abbrev pub address_at : {A : Type 0} → List ℕ → Result A AddressError → Result A PreError
address_at path (Ok address) = Ok address
address_at path (Err refused) = Err (BadAddress path refused.place)

-- an address text
abbrev pub address_of : Reader Address
address_of path (string text) = address_at path (address_answer text)
address_of path d = Err (WrongKind path)

-- an IP text
abbrev pub ip_of : Reader Ip
ip_of path (string text) = address_at path (ip_answer text)
ip_of path d = Err (WrongKind path)

-- the bytes, or digits that are not hexadecimal
abbrev pub hex_at : List ℕ → Result (List ℕ) FromHexError → Result (List ℕ) PreError
hex_at path (Ok bytes) = Ok bytes
hex_at path (Err refused) = Err (BadHex path)

-- bytes by their hexadecimal digits
abbrev pub hex_of : Reader (List ℕ)
hex_of path (string text) = hex_at path (decode_of text)
hex_of path d = Err (WrongKind path)
