-- What a chain, or one layer, answers of bytes that should be exactly one message.
use Rattle.std.specs.Prelude.{◌≡◌, ℕ, ◌+◌, List, drop}
use Rattle.taps_framer.specs.Layers.{Layer, IsWholeFrame}
use Rattle.taps_chain.specs.Chained.{chained, IsSpoken}
use Rattle.taps_chain.specs.Faults.{IsInexact, IsBadIn}
use Rattle.taps_chain.specs.declared.whole.Opened.{Opened}
use Rattle.taps_chain.specs.declared.whole.Opened.TheVariants as opened
use Rattle.taps_chain.specs.declared.whole.WholeAnswer.{WholeAnswer}
use Rattle.taps_chain.specs.declared.whole.WholeAnswer.TheVariants as whole

-- the body of exactly one frame of a layer, or the place that shows that it is none
abbrev pub IsOpened : Layer → ℕ → List ℕ → Opened → Type 0
IsOpened f k x (opened.Body b) = IsWholeFrame f k x × (b.items ≡ f.front k x)
IsOpened f k x (opened.Bad p) = IsInexact f k x p
IsOpened f k x opened.NoMemory = Unit {0}

-- the message of exactly these bytes through the layers from a depth on, or the first layer at fault
abbrev pub IsWholeAbove : List Layer → ℕ → ℕ → List ℕ → WholeAnswer → Type 0
IsWholeAbove fs a k x (whole.Message m) = IsSpoken (drop a fs) k m × (x ≡ chained (drop a fs) k m)
IsWholeAbove fs a k x (whole.Bad l p) = (i : ℕ) × ((l ≡ i + a) × IsBadIn (drop a fs) k x i p)
IsWholeAbove fs a k x whole.NoMemory = Unit {0}

-- the message of exactly these bytes, or the first layer at fault
abbrev pub IsWhole : List Layer → ℕ → List ℕ → WholeAnswer → Type 0
IsWhole fs k x (whole.Message m) = IsSpoken fs k m × (x ≡ chained fs k m)
IsWhole fs k x (whole.Bad l p) = IsBadIn fs k x l p
IsWhole fs k x whole.NoMemory = Unit {0}
