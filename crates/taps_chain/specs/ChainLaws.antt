-- The laws of a chain, which follow from those of its framers (this project's own).
use Rattle.std.specs.Prelude.{◌≡◌, ℕ, ◌+◌, ◌<◌, ◌≤◌, ◌^◌, List, [], ◌∷◌, ◌++◌, length}
use Rattle.taps_framer.specs.Layers.{Layer, IsFramer}
use Rattle.taps_chain.specs.Chained.{spelling, AreSpoken}
use Rattle.taps_chain.specs.Heard.{Ending, needs, IsEnding, IsBegun, IsHeard}

-- each layer keeps the laws of a framer
abbrev pub AreFramers : List Layer → Type 0
AreFramers [] = Unit {0}
AreFramers (f ∷ fs) = IsFramer f × AreFramers fs

-- bytes that begin with as many messages in two ways begin with the same ones
abbrev pub IsSelfDelimiting : List Layer → Type 0
IsSelfDelimiting fs = (k : ℕ) (ms ns : List (List ℕ)) (x y : List ℕ) →
    k + length ms ≤ 2 ^ 64 → length ms ≡ length ns → AreSpoken fs k ms → AreSpoken fs k ns →
    spelling fs k ms ++ x ≡ spelling fs k ns ++ y → (ms ≡ ns) × (x ≡ y)

-- two hearings are one
pub record IsOneHearing (ms ns : List (List ℕ)) (d e : Ending) (r s : List ℕ) : Type 0 where
  pub messages : ms ≡ ns
  pub ending : d ≡ e
  pub rest : r ≡ s

-- something is heard of the bytes, and nothing else is
pub record IsHeardOnce (fs : List Layer) (k : ℕ) (x : List ℕ) : Type 0 where
  pub messages : List (List ℕ)
  pub ending : Ending
  pub rest : List ℕ
  pub heard : IsHeard fs k x messages ending rest
  pub only : (ms : List (List ℕ)) (e : Ending) (r : List ℕ) → IsHeard fs k x ms e r →
      IsOneHearing ms messages e ending r rest

-- of bytes that fit the indexes behind one, one thing is heard
abbrev pub HearsOnce : List Layer → Type 0
HearsOnce fs = (k : ℕ) (x : List ℕ) → k + length x < 2 ^ 64 → IsHeardOnce fs k x

-- messages that begin bytes, and then those that begin the rest with more bytes, begin all of them
abbrev pub BeginsOn : List Layer → Type 0
BeginsOn fs = (k : ℕ) (x y : List ℕ) (ms ns : List (List ℕ)) (r s : List ℕ) →
    IsBegun fs k x ms r → IsBegun fs (k + length ms) (r ++ y) ns s → IsBegun fs k (x ++ y) (ms ++ ns) s

-- what is heard goes on where more bytes come
abbrev pub GoesOn : List Layer → Type 0
GoesOn fs = (k : ℕ) (x y : List ℕ) (ms ns : List (List ℕ)) (e : Ending) (r s : List ℕ) →
    IsHeard fs k x ms needs r → IsHeard fs (k + length ms) (r ++ y) ns e s → IsHeard fs k (x ++ y) (ms ++ ns) e s

-- of bytes that begin a spelling, its first messages are heard, and then bytes that begin what is left of it
pub record IsCutOff (fs : List Layer) (k : ℕ) (x y : List ℕ) (ms : List (List ℕ)) : Type 0 where
  pub first : List (List ℕ)
  pub left : List (List ℕ)
  pub rest : List ℕ
  pub messages : ms ≡ first ++ left
  pub heard : IsHeard fs k x first needs rest
  pub goes_on : rest ++ y ≡ spelling fs (k + length first) left

-- of a prefix of a spelling a prefix of its messages is heard, and no fault
abbrev pub HearsPrefixes : List Layer → Type 0
HearsPrefixes fs = (k : ℕ) (x y : List ℕ) (ms : List (List ℕ)) → k + length x < 2 ^ 64 →
    AreSpoken fs k ms → spelling fs k ms ≡ x ++ y → IsCutOff fs k x y ms

-- bytes of which more are needed are fewer than the longest frame has
abbrev pub NeedsFew : List Layer → Type 0
NeedsFew fs = (k : ℕ) (x : List ℕ) → k < 2 ^ 64 → IsEnding fs k x needs → length x < 4194304

-- the laws of a chain of framers; those with a condition are of a chain that has a layer
pub record IsLawfulChain (fs : List Layer) : Type 0 where
  pub framers : AreFramers fs
  pub delimits : 0 < length fs → IsSelfDelimiting fs
  pub once : 0 < length fs → HearsOnce fs
  pub begins_on : BeginsOn fs
  pub goes_on : GoesOn fs
  pub prefixes : 0 < length fs → HearsPrefixes fs
  pub few : NeedsFew fs
