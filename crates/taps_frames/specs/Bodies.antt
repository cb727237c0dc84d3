-- Bodies, and lists filled up with zeros.
use Rattle.std.specs.Prelude.{ℕ, zero, suc, Bool, ◌&&◌, nat_le, List, [], ◌∷◌, length}
use Rattle.taps_framer.specs.Prefixes.{are_bytes}

-- the list is of bytes, from `least` to `most` of them
unfoldable pub is_body : ℕ → ℕ → List ℕ → Bool
is_body least most b = nat_le least (length b) && nat_le (length b) most && are_bytes b

-- the first n numbers of the list, and zeros where it has fewer
unfoldable pub pad : ℕ → List ℕ → List ℕ
pad zero x = []
pad (suc n) [] = 0 ∷ pad n []
pad (suc n) (a ∷ x) = a ∷ pad n x
