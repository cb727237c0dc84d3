-- Why a body has no chained bytes.
use Rattle.std.specs.Prelude.{◌≡◌, ℕ, Option, Some}
use Rattle.taps_chain.specs.declared.wrap.WrapError.{WrapError}
use Rattle.taps_chain.specs.declared.wrap.WrapError.TheVariants.{NotSpeakable, NoMemory}

-- the error names the layer that refuses, or memory ran out
abbrev pub IsRefusal : Option ℕ → WrapError → Type 0
IsRefusal refusal (NotSpeakable l) = refusal ≡ Some l
IsRefusal refusal NoMemory = Unit {0}
