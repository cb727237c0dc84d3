-- What is written of messages that a chain encodes.
use Rattle.std.proofs.Common.{◌≡◌, ℕ, ◌+◌, true, List, [], ◌∷◌, ◌++◌, Option, Some, None, refl, ap}
use Rattle.std.specs.List.{concat}
use Rattle.taps_framer.specs.Layers.{Layer}
use Rattle.taps_chain.specs.Chained.{chained, chain_refusal, IsSpoken, spelling, AreSpoken}
use Rattle.taps_connection.specs.Encodings.{encoding_of, carrier_refusal, or_carrier}
use Rattle.taps_connection.specs.Written.{pieces_of, AreEncoded}

-- the bytes of sent messages are their spelling
pub pieces_spell : (fs : List Layer) (k : ℕ) (ms : List (List ℕ)) → concat (pieces_of (encoding_of true fs) k ms) ≡ spelling fs k ms
pieces_spell fs k [] = refl
pieces_spell fs k (m ∷ ms) = ap (λ v. chained fs k m ++ v) (pieces_spell fs (k + 1) ms)

spoken_of : (chain carrier : Option ℕ) → or_carrier chain carrier ≡ None → chain ≡ None
spoken_of None carrier e = refl
spoken_of (Some l) carrier e = absurd (cc)

pub spoken_here : (fs : List Layer) (k : ℕ) (m : List ℕ) → (encoding_of true fs).refusal k m ≡ None → IsSpoken fs k m
spoken_here fs k m e = spoken_of (chain_refusal fs k m) (carrier_refusal true fs k (chained fs k m)) e

pub are_spoken : (fs : List Layer) (k : ℕ) (ms : List (List ℕ)) → AreEncoded (encoding_of true fs) k ms → AreSpoken fs k ms
are_spoken fs k [] h = tt
are_spoken fs k (m ∷ ms) h = (spoken_here fs k m h.0, are_spoken fs (k + 1) ms h.1)
