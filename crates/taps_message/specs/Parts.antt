-- The parts of a body.
use Rattle.std.specs.Prelude.{◌≡◌, ℕ, zero, suc, ◌≤◌, ◌<◌, List, [], ◌∷◌, ◌++◌, Bool, true, false, if◌then◌else◌, nat_le, length, map, take, drop, All, Option, Some, None}
use Rattle.std.specs.List.{concat}
use Rattle.std.specs.Borrow.{Bor}

-- what contracts see of a part: its bytes, and whether it is the last
pub record PartState : Type 0 where
  pub bytes : List ℕ
  pub last : Bool

-- a part before the last, and the last one
abbrev pub full_part : List ℕ → PartState
full_part bytes = record { bytes = bytes; last = false }

abbrev pub last_part : List ℕ → PartState
last_part bytes = record { bytes = bytes; last = true }

-- The parts make up the body one after another: each but the last has exactly so many bytes, the last has no more,
-- and it is empty only where the body is.
pub record ArePartsOf (body : List ℕ) (max : ℕ) (parts : List PartState) : Type 0 where
  pub full : List (List ℕ)
  pub rest : List ℕ
  pub in_order : parts ≡ map full_part full ++ last_part rest ∷ []
  pub joined : concat full ++ rest ≡ body
  pub exact : All (λ bytes. length bytes ≡ max) full
  pub fits : length rest ≤ max
  pub filled : 0 < length body → 0 < length rest

-- the parts of bytes, of which there are at most so many before the last
abbrev pub parts_within : ℕ → ℕ → List ℕ → List PartState
parts_within max zero bytes = last_part bytes ∷ []
parts_within max (suc most) bytes =
    if nat_le (length bytes) max then last_part bytes ∷ []
    else full_part (take max bytes) ∷ parts_within max most (drop max bytes)

-- the parts of bytes
abbrev pub parts_of : ℕ → List ℕ → List PartState
parts_of max bytes = parts_within max (length bytes) bytes

-- those that are left where these bytes are, or none after the last
abbrev pub parts_left : ℕ → Option (Bor (List ℕ)) → List PartState
parts_left max None = []
parts_left max (Some rest) = parts_of max rest.now
