-- The machine that reads an IPv6 address.
use Rattle.std.specs.Prelude.{ℕ, ◌+◌, ◌-◌, ◌*◌, ◌==◌, ◌<◌, ◌≤◌, List, [], ◌∷◌, ◌++◌, length, Bool, Option, Some, None, IfSome, option_map, option_and_then, nat_le, nat_lt, if◌then◌else◌}
use Rattle.taps_endpoint.specs.declared.inet6.Inet6State.{Inet6State}
use Rattle.taps_endpoint.specs.declared.inet6.Token.{Token}
use Rattle.taps_endpoint.specs.declared.inet6.Token.TheVariants.{Start, FirstColon, Gap, Colon, Digits, Quad}
use Rattle.taps_endpoint.specs.declared.inet4.Inet4State.{Inet4State}
use Rattle.taps_endpoint.specs.declared.inet4.Before.{Before}
use Rattle.taps_endpoint.specs.declared.inet4.Before.TheVariants.{Zero, Three}
use Rattle.taps_endpoint.specs.Inet6Texts.{hex_digit, spread}
use Rattle.taps_endpoint.specs.Inet4Machine.{fresh, step_inet4, AreOctets}

-- how many fields there may be, behind the `::` where it was read
abbrev pub room : Option (List ℕ) → ℕ
room None = 8
room (Some front) = 7 - length front

-- an IPv4 text may begin here
abbrev pub quad_fits : Option (List ℕ) → List ℕ → Bool
quad_fits None fields = length fields == 6
quad_fits (Some front) fields = nat_le (length fields + 2) (room (Some front))

-- so far there were these fields, and this is read now
abbrev pub reading : Option (List ℕ) → List ℕ → Token → Inet6State
reading front fields token = record { front = front; fields = fields; token = token }

-- the first digit of a field
abbrev pub begin : Option (List ℕ) → List ℕ → ℕ → Option Inet6State
begin front fields b =
    option_map (λ d. reading front fields
    (Digits d 1 (if quad_fits front fields then step_inet4 (fresh Zero) b else None))) (hex_digit b)

-- the `::` was read, of which there is one
abbrev pub open_gap : Option (List ℕ) → List ℕ → Option Inet6State
open_gap None fields = Some (reading (Some fields) [] Gap)
open_gap (Some front) fields = None

-- a `:` was read behind a field, where there is room for another
abbrev pub after_field : Option (List ℕ) → List ℕ → ℕ → Option Inet6State
after_field front fields value =
    if nat_lt (length fields + 1) (room front) then Some (reading front (fields ++ value ∷ []) Colon) else None

-- one more byte is read
abbrev pub next : Option (List ℕ) → List ℕ → Token → ℕ → Option Inet6State
next front fields Start b = if b == 58 then Some (reading front fields FirstColon) else begin front fields b
next front fields FirstColon b = if b == 58 then open_gap front fields else None
next front fields Gap b = if nat_lt (length fields) (room front) then begin front fields b else None
next front fields Colon b = if b == 58 then open_gap front fields else begin front fields b
next front fields (Digits value count quad) b =
    if b == 58 then after_field front fields value
    else if b == 46 then option_map (λ s. reading front fields (Quad s)) (option_and_then (λ s. step_inet4 s b) quad)
    else if nat_lt count 4 then option_map (λ d. reading front fields
    (Digits (16 * value + d) (count + 1) (option_and_then (λ s. step_inet4 s b) quad))) (hex_digit b)
    else None
next front fields (Quad s) b = option_map (λ t. reading front fields (Quad t)) (step_inet4 s b)

-- the state behind one more byte
unfoldable pub step_inet6 : Inet6State → ℕ → Option Inet6State
step_inet6 s b = next s.front s.fields s.token b

-- the address with these fields, where there are as many as it takes
abbrev pub fields_of : Option (List ℕ) → List ℕ → Option (List ℕ)
fields_of None fields = if length fields == 8 then Some fields else None
fields_of (Some front) fields = Some (spread front fields)

-- the two fields for which an IPv4 text stands
abbrev pub quad_fields : Before → ℕ → Option (List ℕ)
quad_fields (Three a b c) d = Some ((256 * a + b) ∷ (256 * c + d) ∷ [])
quad_fields _ d = None

-- the two fields for which an IPv4 tail stands, if it is whole
abbrev pub quad_of : Inet4State → Option (List ℕ)
quad_of s = option_and_then (quad_fields s.before) s.number

-- the address, where a text may end here
abbrev pub end_of : Option (List ℕ) → List ℕ → Token → Option (List ℕ)
end_of front fields Gap = fields_of front fields
end_of front fields (Digits value count quad) = fields_of front (fields ++ value ∷ [])
end_of front fields (Quad s) = option_and_then (λ two. fields_of front (fields ++ two)) (quad_of s)
end_of front fields Start = None
end_of front fields FirstColon = None
end_of front fields Colon = None

-- the fields that were read, at the end of the text
unfoldable pub at_end_inet6 : Inet6State → Option (List ℕ)
at_end_inet6 s = end_of s.front s.fields s.token

-- so many digits make no larger number
pub record SmallDigits (value count : ℕ) (quad : Option Inet4State) : Type 0 where
  pub some : 1 ≤ count
  pub most : count ≤ 4
  pub one : count ≤ 1 → value < 16
  pub two : count ≤ 2 → value < 256
  pub three : count ≤ 3 → value < 4096
  pub small : IfSome quad AreOctets

-- what is read now is small enough to go on
abbrev pub SmallToken : Token → Type 0
SmallToken (Digits value count quad) = SmallDigits value count quad
SmallToken (Quad s) = AreOctets s
SmallToken _ = Unit {0}

-- there is room for what is read now
abbrev pub Roomy : Option (List ℕ) → List ℕ → Token → Type 0
Roomy front fields (Digits value count quad) =
    (length fields < room front) × IfSome quad (λ _. length fields + 2 ≤ room front)
Roomy front fields (Quad s) = length fields + 2 ≤ room front
Roomy front fields Colon = length fields < room front
Roomy front fields Gap = length fields ≤ room front
Roomy front fields Start = length fields < room front
Roomy front fields FirstColon = length fields < room front

-- the state holds no more than it may
pub record IsSmall (s : Inet6State) : Type 0 where
  pub front : IfSome s.front (λ front. length front ≤ 7)
  pub roomy : Roomy s.front s.fields s.token
  pub token : SmallToken s.token

-- nothing was read
abbrev pub start_inet6 : Inet6State
start_inet6 = reading None [] Start
