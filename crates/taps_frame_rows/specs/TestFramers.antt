-- What the framers of the tests mean (local).
use Rattle.std.specs.Prelude.{◌≡◌, ℕ, ◌+◌, ◌-◌, ◌<◌, Bool, true, false, nat_lt, List, [], ◌∷◌, ◌++◌, length, take, drop, slice_index, replicate, codes}
use Rattle.taps_framer.specs.Layers.{Layer}
use Rattle.taps_framer.specs.declared.scan.Scan.{Scan}

-- there is one
abbrev pub is_one : List ℕ → Bool
is_one [] = false
is_one (a ∷ []) = true
is_one (a ∷ b ∷ x) = false

-- a byte and what it lacks of 255
abbrev pub pair_bytes : ℕ → List ℕ
pair_bytes a = a ∷ (255 - a) ∷ []

-- one byte, and what it lacks of 255
abbrev pub pair : Layer
pair = record {
  name = codes "pair";
  speaks = is_one;
  frame = λ i b. pair_bytes (slice_index b 0);
  front = λ i x. take 1 x;
  completion = λ i x. slice_index x 0 ∷ [];
}

-- the bytes that came, and zeros for those that a length byte tells besides
abbrev pub filled : List ℕ → List ℕ
filled [] = []
filled (n ∷ x) = x ++ replicate (n - length x) 0

-- a length byte, and so many bytes
abbrev pub short : Layer
short = record {
  name = codes "short";
  speaks = λ b. nat_lt (length b) 256;
  frame = λ i b. length b ∷ b;
  front = λ i x. take (slice_index x 0) (drop 1 x);
  completion = λ i x. filled x;
}

-- no byte, or the first of a pair
abbrev pub pair_scans : ℕ → Scan → List ℕ → Type 0
pair_scans i scan [] = scan.phase ≡ 0
pair_scans i scan (a ∷ []) = (scan.phase ≡ 1) × (scan.length ≡ a)
pair_scans i scan (a ∷ b ∷ x) = ⊥

-- no byte, or a length byte and some of the bytes, of which so many are missing
abbrev pub short_scans : ℕ → Scan → List ℕ → Type 0
short_scans i scan [] = scan.phase ≡ 0
short_scans i scan (n ∷ x) = (scan.phase ≡ 1) × (length x + scan.rest ≡ n) × (0 < scan.rest) × (n < 256)
