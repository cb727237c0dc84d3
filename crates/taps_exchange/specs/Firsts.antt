-- The decoding of bytes as functions is what a chain's definitions say of them (RFC 9622 section 9.1.2).
use Rattle.std.specs.Prelude.{◌≡◌, ℕ, ◌<◌, ◌≤◌, ◌^◌, Bool, true, false, List, [], ◌∷◌, ◌++◌, length, take, map}
use Rattle.std.specs.List.{concat}
use Rattle.taps_framer.specs.Layers.{Layer}
use Rattle.taps_chain.specs.Chained.{chained, IsSpoken}
use Rattle.taps_chain.specs.Faults.{IsBadIn}
use Rattle.taps_chain.specs.Heard.{Ending, needs, fails, IsEnding, IsHeard}
use Rattle.taps_chain.specs.ChainLaws.{AreFramers}
use Rattle.taps_connection.specs.Histories.{message, AreGivenBy}
use Rattle.taps_exchange.specs.Decodings.{message as message_of, need, bad, whole_in, first_in, decoding_of, enough, lacks, breaks}

-- what bytes begin with is what the chain's relations say
pub record FindsFirst (fs : List Layer) (k : ℕ) (x : List ℕ) : Type 0 where
  pub finds : (m rest : List ℕ) → 0 < length fs → IsSpoken fs k m → x ≡ chained fs k m ++ rest →
      first_in fs k x ≡ message_of m (length (chained fs k m))
  pub waits : IsEnding fs k x needs → first_in fs k x ≡ need
  pub breaks_off : (layer place : ℕ) → IsEnding fs k x (fails layer place) → first_in fs k x ≡ bad layer place

-- and so is what bytes are exactly
pub record FindsWhole (fs : List Layer) (k : ℕ) : Type 0 where
  pub spoken : (m : List ℕ) → IsSpoken fs k m → whole_in fs k (chained fs k m) ≡ message_of m 0
  pub at_fault : (x : List ℕ) (layer place : ℕ) → IsBadIn fs k x layer place → whole_in fs k x ≡ bad layer place

-- where these messages are heard of a stream's bytes, the first of them are, as many as are needed; or all of them, and
-- then more is needed or something is bad
pub record HearsStream (fs : List Layer) (pieces : List (List ℕ)) (ms : List (List ℕ)) (e : Ending)
    (rest : List ℕ) : Type 0 where
  pub enough_heard : (n : ℕ) (ended : Bool) → n ≤ length ms →
      (decoding_of true fs).hearing n pieces ended ≡ enough (take n ms)
  pub more_needed : (n : ℕ) (ended : Bool) → length ms < n → e ≡ needs →
      (decoding_of true fs).hearing n pieces ended ≡ lacks ms rest
  pub bad_behind : (n : ℕ) (ended : Bool) (layer place : ℕ) → length ms < n → e ≡ fails layer place →
      (decoding_of true fs).hearing n pieces ended ≡ breaks ms layer place

abbrev pub StreamsAreHeard : Type 0
StreamsAreHeard = (fs : List Layer) (pieces ms : List (List ℕ)) (e : Ending) (rest : List ℕ) →
    0 < length fs → AreFramers fs → length ms < 2 ^ 64 → IsHeard fs 0 (concat pieces) ms e rest →
    HearsStream fs pieces ms e rest

-- of datagrams each of which is a message, so; and behind these one may be bad
pub record HearsDatagrams (fs : List Layer) (pieces : List (List ℕ)) (ms : List (List ℕ)) : Type 0 where
  pub enough_heard : (n : ℕ) (ended : Bool) (more : List (List ℕ)) → n ≤ length ms →
      (decoding_of false fs).hearing n (pieces ++ more) ended ≡ enough (take n ms)
  pub more_needed : (n : ℕ) (ended : Bool) → length ms < n → (decoding_of false fs).hearing n pieces ended ≡ lacks ms []
  pub bad_behind : (n : ℕ) (ended : Bool) (x : List ℕ) (more : List (List ℕ)) (layer place : ℕ) → length ms < n →
      IsBadIn fs 0 x layer place → (decoding_of false fs).hearing n (pieces ++ x ∷ more) ended ≡ breaks ms layer place

abbrev pub DatagramsAreHeard : Type 0
DatagramsAreHeard = (fs : List Layer) (pieces ms : List (List ℕ)) →
    AreFramers fs → AreGivenBy fs pieces (map message ms) →
    HearsDatagrams fs pieces ms
