-- The machine that reads what another reads, and its port.
use Rattle.std.specs.Prelude.{ℕ, ◌-◌, ◌==◌, ◌&&◌, is_some, Option, Some, None, option_map, if◌then◌else◌}
use Rattle.taps_endpoint.specs.declared.with_port.WithPort.{WithPort}
use Rattle.taps_endpoint.specs.declared.with_port.WithPort.TheVariants.{Inside, Port}
use Rattle.taps_endpoint.specs.Numbers.{is_digit, with_digit}

-- the state behind one more byte: a `:` behind a whole value, or a digit of the port
abbrev pub step_with_port : {S A : Type 0} → (S → ℕ → Option S)
    → (S → Option A) → WithPort S A → ℕ → Option (WithPort S A)
step_with_port step at_end (Inside s) b =
    if (b == 58) && is_some (at_end s) then option_map (λ a. Port a None) (at_end s) else option_map Inside (step s b)
step_with_port step at_end (Port a number) b =
    if is_digit b then option_map (λ n. Port a (Some n)) (with_digit 1 65535 number (b - 48)) else None

-- the value and the port, at the end of the text
abbrev pub value_with_port : {S A : Type 0} → WithPort S A → Option (A × ℕ)
value_with_port (Inside s) = None
value_with_port (Port a number) = option_map (λ n. (a, n)) number

-- what holds of the state inside
abbrev pub HoldsInside : {S A : Type 0} → (S → Type 0) → WithPort S A → Type 0
HoldsInside Holds (Inside s) = Holds s
HoldsInside Holds (Port a number) = Unit {0}
