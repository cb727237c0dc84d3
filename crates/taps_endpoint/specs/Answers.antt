-- What the parsers answer, as functions of the text: the value, or the place where the machines stop.
use Rattle.std.specs.Prelude.{ℕ, max, List, Result, Ok, Err}
use Rattle.taps_endpoint.specs.declared.address.Ip.{Ip}
use Rattle.taps_endpoint.specs.declared.address.Ip.TheVariants as ips
use Rattle.taps_endpoint.specs.declared.address.Address.{Address}
use Rattle.taps_endpoint.specs.declared.address.Address.TheVariants.{V4, V6, Unix}
use Rattle.taps_endpoint.specs.declared.address_error.AddressError.{AddressError}
use Rattle.taps_endpoint.specs.declared.inet4.Before.TheVariants.{Zero}
use Rattle.taps_endpoint.specs.declared.unix.Unfinished.TheVariants.{Start}
use Rattle.taps_endpoint.specs.declared.bracketed.Bracketed.TheVariants.{Outside}
use Rattle.taps_endpoint.specs.declared.with_port.WithPort.TheVariants.{Inside}
use Rattle.taps_endpoint.specs.Machines.{answer_of}
use Rattle.taps_endpoint.specs.Inet4Machine.{step_inet4, at_end_inet4, fresh}
use Rattle.taps_endpoint.specs.Inet6Machine.{step_inet6, at_end_inet6, start_inet6}
use Rattle.taps_endpoint.specs.UnixTexts.{step_unix, at_end_unix}
use Rattle.taps_endpoint.specs.BracketMachine.{step_bracketed, value_bracketed}
use Rattle.taps_endpoint.specs.PortMachine.{step_with_port, value_with_port}

-- the same answer, with the value seen otherwise
abbrev pub answer_as : {A B : Type 0} → (A → B) → Result A ℕ → Result B ℕ
answer_as f (Ok value) = Ok (f value)
answer_as f (Err place) = Err place

-- the first answer that is a value, or else the further of the two places
abbrev pub answer_either : {A : Type 0} → Result A ℕ → Result A ℕ → Result A ℕ
answer_either (Ok value) second = Ok value
answer_either (Err place) (Ok value) = Ok value
answer_either (Err first) (Err second) = Err (max first second)

-- the same answer, with the place as an error
abbrev pub answer_with : {A E : Type 0} → (ℕ → E) → Result A ℕ → Result A E
answer_with e (Ok value) = Ok value
answer_with e (Err place) = Err (e place)

-- an IPv4 text
unfoldable pub read_inet4_ip : List ℕ → Result Ip ℕ
read_inet4_ip text = answer_as ips.V4 (answer_of step_inet4 at_end_inet4 (fresh Zero) text)

-- an IPv6 text
unfoldable pub read_inet6_ip : List ℕ → Result Ip ℕ
read_inet6_ip text = answer_as ips.V6 (answer_of step_inet6 at_end_inet6 start_inet6 text)

-- an IPv4 text and its port
unfoldable pub read_inet4 : List ℕ → Result Address ℕ
read_inet4 text = answer_as (λ v. V4 v.0 v.1)
    (answer_of (step_with_port step_inet4 at_end_inet4) value_with_port (Inside (fresh Zero)) text)

-- an IPv6 text in brackets and its port
unfoldable pub read_inet6 : List ℕ → Result Address ℕ
read_inet6 text = answer_as (λ v. V6 v.0 v.1)
    (answer_of (step_with_port (step_bracketed step_inet6 at_end_inet6 start_inet6) value_bracketed)
    value_with_port (Inside Outside) text)

-- `unix:` and a path
unfoldable pub read_unix : List ℕ → Result Address ℕ
read_unix text = answer_as Unix (answer_of step_unix at_end_unix Start text)

-- the address of a text of a host's address, or the place where no such text goes on
unfoldable pub ip_answer : List ℕ → Result Ip AddressError
ip_answer text =
    answer_with (λ place. record { place = place }) (answer_either (read_inet4_ip text) (read_inet6_ip text))

-- the address of an address text, or the place where no such text goes on
unfoldable pub address_answer : List ℕ → Result Address AddressError
address_answer text = answer_with (λ place. record { place = place })
    (answer_either (read_inet4 text) (answer_either (read_inet6 text) (read_unix text)))
