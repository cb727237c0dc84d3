-- The bytes of messages through a chain, layer 0 nearest to the transport (RFC 9622 section 9.1.2).
use Rattle.std.specs.Prelude.{◌≡◌, ℕ, ◌+◌, Bool, List, [], ◌∷◌, ◌++◌, Option, Some, None, cond}
use Rattle.taps_framer.specs.Layers.{Layer}

-- the bytes of a message at an index: the last layer frames it first
abbrev pub chained : List Layer → ℕ → List ℕ → List ℕ
chained [] k m = m
chained (f ∷ fs) k m = f.frame k (chained fs k m)

-- which layer refuses, where one more stands before these
abbrev pub refusal_below : Bool → Option ℕ → Option ℕ
refusal_below speaks (Some l) = Some (l + 1)
refusal_below speaks None = cond speaks None (Some 0)

-- the first layer, from the last one down, that does not speak what is handed to it
abbrev pub chain_refusal : List Layer → ℕ → List ℕ → Option ℕ
chain_refusal [] k m = None
chain_refusal (f ∷ fs) k m = refusal_below (f.speaks (chained fs k m)) (chain_refusal fs k m)

-- each layer speaks what is handed to it
abbrev pub IsSpoken : List Layer → ℕ → List ℕ → Type 0
IsSpoken fs k m = chain_refusal fs k m ≡ None

-- the bytes of a list of messages, numbered from an index on
abbrev pub spelling : List Layer → ℕ → List (List ℕ) → List ℕ
spelling fs k [] = []
spelling fs k (m ∷ ms) = chained fs k m ++ spelling fs (k + 1) ms

-- each message of the list is spoken
abbrev pub AreSpoken : List Layer → ℕ → List (List ℕ) → Type 0
AreSpoken fs k [] = Unit {0}
AreSpoken fs k (m ∷ ms) = IsSpoken fs k m × AreSpoken fs (k + 1) ms
