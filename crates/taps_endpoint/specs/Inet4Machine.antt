-- The machine that reads an IPv4 text.
use Rattle.std.specs.Prelude.{ℕ, ◌-◌, ◌==◌, ◌≤◌, List, [], ◌∷◌, Option, Some, None, IfSome, option_map, option_and_then, if◌then◌else◌}
use Rattle.taps_endpoint.specs.Numbers.{is_digit, with_digit}
use Rattle.taps_endpoint.specs.declared.inet4.Inet4State.{Inet4State}
use Rattle.taps_endpoint.specs.declared.inet4.Before.{Before}
use Rattle.taps_endpoint.specs.declared.inet4.Before.TheVariants.{Zero, One, Two, Three}

-- the number is whole, and the byte stands behind it
abbrev pub passed : Before → ℕ → ℕ → Option Before
passed Zero n byte = if byte == 46 then Some (One n) else None
passed (One a) n byte = if byte == 46 then Some (Two a n) else None
passed (Two a b) n byte = if byte == 46 then Some (Three a b n) else None
passed (Three a b c) n byte = None

-- a number was begun
abbrev pub begun : Before → ℕ → Inet4State
begun before n = record { before = before; number = Some n }

-- a number must begin
abbrev pub fresh : Before → Inet4State
fresh before = record { before = before; number = None }

-- the state behind one more byte
unfoldable pub step_inet4 : Inet4State → ℕ → Option Inet4State
step_inet4 s byte =
    if is_digit byte then option_map (begun s.before) (with_digit 0 255 s.number (byte - 48))
    else option_and_then (λ n. option_map fresh (passed s.before n byte)) s.number

-- the four octets
abbrev pub octets_of : Before → ℕ → Option (List ℕ)
octets_of (Three a b c) d = Some (a ∷ b ∷ c ∷ d ∷ [])
octets_of _ d = None

-- the octets that were read, at the end of the text
unfoldable pub at_end_inet4 : Inet4State → Option (List ℕ)
at_end_inet4 s = option_and_then (octets_of s.before) s.number

-- each whole number is an octet
abbrev pub Fits : Before → Type 0
Fits Zero = Unit {0}
Fits (One a) = a ≤ 255
Fits (Two a b) = (a ≤ 255) × (b ≤ 255)
Fits (Three a b c) = (a ≤ 255) × (b ≤ 255) × (c ≤ 255)

-- each number that was read is an octet
pub record AreOctets (s : Inet4State) : Type 0 where
  pub before : Fits s.before
  pub number : IfSome s.number (λ n. n ≤ 255)
