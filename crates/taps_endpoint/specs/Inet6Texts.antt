-- The texts of IPv6 addresses (RFC 4291 section 2.2), without zones.
use Rattle.std.specs.Prelude.{◌≡◌, ℕ, ◌+◌, ◌-◌, ◌*◌, ◌≤◌, List, [], ◌∷◌, ◌++◌, ◌⊎◌, ◌&&◌, length, slice_index, replicate, Option, Some, None, option_and_then, nat_le, if◌then◌else◌}
use Rattle.taps_endpoint.specs.Inet4Texts.{IsInet4Text}

-- a hexadecimal digit of either case
abbrev pub hex_digit : ℕ → Option ℕ
hex_digit b =
    if nat_le 48 b && nat_le b 57 then Some (b - 48)
    else if nat_le 65 b && nat_le b 70 then Some (b - 55)
    else if nat_le 97 b && nat_le b 102 then Some (b - 87)
    else None

-- the number that goes on from a value with these digits
abbrev pub hex_from : ℕ → List ℕ → Option ℕ
hex_from value [] = Some value
hex_from value (b ∷ rest) = option_and_then (λ d. hex_from (16 * value + d) rest) (hex_digit b)

-- one to four hexadecimal digits
pub record IsField (value : ℕ) (text : List ℕ) : Type 0 where
  pub some : 1 ≤ length text
  pub most : length text ≤ 4
  pub number : hex_from 0 text ≡ Some value

-- fields with a `:` behind each
abbrev pub AreLed : List ℕ → List ℕ → Type 0
AreLed [] text = text ≡ []
AreLed (value ∷ values) text =
    (field : List ℕ) × (rest : List ℕ) × IsField value field × (text ≡ field ++ 58 ∷ rest) × AreLed values rest

-- an IPv4 text, which stands for two fields
pub record IsQuad (high low : ℕ) (text : List ℕ) : Type 0 where
  pub octets : List ℕ
  pub is_text : IsInet4Text octets text
  pub upper : high ≡ 256 * slice_index octets 0 + slice_index octets 1
  pub lower : low ≡ 256 * slice_index octets 2 + slice_index octets 3

-- a field, or an IPv4 text for the last two
abbrev pub IsLast : List ℕ → List ℕ → Type 0
IsLast [] text = ⊥
IsLast (value ∷ []) text = IsField value text
IsLast (high ∷ low ∷ []) text = IsQuad high low text
IsLast (a ∷ b ∷ c ∷ rest) text = ⊥

-- fields joined by `:`
pub record AreJoined (fields text : List ℕ) : Type 0 where
  pub values : List ℕ
  pub last_values : List ℕ
  pub led : List ℕ
  pub last : List ℕ
  pub parts : fields ≡ values ++ last_values
  pub spelled : text ≡ led ++ last
  pub is_led : AreLed values led
  pub is_last : IsLast last_values last

-- the fields of an address whose zeros in the middle are not written
abbrev pub spread : List ℕ → List ℕ → List ℕ
spread front back = front ++ (replicate (8 - (length front + length back)) 0 ++ back)

-- up to the `::` and with it
abbrev pub IsFront : List ℕ → List ℕ → Type 0
IsFront [] text = text ≡ 58 ∷ 58 ∷ []
IsFront (value ∷ values) text = (led : List ℕ) × AreLed (value ∷ values) led × (text ≡ led ++ 58 ∷ [])

-- behind the `::`
abbrev pub IsBack : List ℕ → List ℕ → Type 0
IsBack [] text = text ≡ []
IsBack (value ∷ values) text = AreJoined (value ∷ values) text

-- an address with a `::` for one or more zero fields
pub record IsShortened (fields text : List ℕ) : Type 0 where
  pub front : List ℕ
  pub back : List ℕ
  pub front_text : List ℕ
  pub back_text : List ℕ
  pub parts : fields ≡ spread front back
  pub spelled : text ≡ front_text ++ back_text
  pub zeros : length front + length back ≤ 7
  pub is_front : IsFront front front_text
  pub is_back : IsBack back back_text

-- the text is one of the address with these eight fields
abbrev pub IsInet6Text : List ℕ → List ℕ → Type 0
IsInet6Text fields text = ((length fields ≡ 8) × AreJoined fields text) ⊎ IsShortened fields text
