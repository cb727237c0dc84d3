-- How the messages of a connection become bytes on its socket (RFC 9622 section 9.1.2; what a carrier refuses is
-- local).
use Rattle.std.specs.Prelude.{ℕ, Bool, true, false, ◌&&◌, if◌then◌else◌, nat_le, List, [], ◌∷◌, length, Option, Some, None}
use Rattle.taps_framer.specs.Layers.{Layer}
use Rattle.taps_chain.specs.Chained.{chained, chain_refusal}

-- the layer that cannot encode a body behind so many sent messages, if one cannot; the bytes of a body there;
-- and whether the sending side is ended behind a message, by whether it is final
pub record Encoding : Type 0 where
  pub refusal : ℕ → List ℕ → Option ℕ
  pub bytes : ℕ → List ℕ → List ℕ
  pub ends : Bool → Bool

-- the index that the framers are handed: over a stream the number of messages sent before, over datagrams 0
abbrev pub index_of : Bool → ℕ → ℕ
index_of true sent = sent
index_of false sent = 0

-- a stream that has no layer carries one message, and a datagram carries 1 to 65,507 bytes
abbrev pub carrier_refusal : Bool → List Layer → ℕ → List ℕ → Option ℕ
carrier_refusal true [] sent bytes = if nat_le 1 sent then Some 0 else None
carrier_refusal true (f ∷ fs) sent bytes = None
carrier_refusal false fs sent bytes = if nat_le 1 (length bytes) && nat_le (length bytes) 65507 then None else Some 0

-- the layers refuse before the carrier does
abbrev pub or_carrier : Option ℕ → Option ℕ → Option ℕ
or_carrier (Some layer) carrier = Some layer
or_carrier None carrier = carrier

abbrev pub refusal_of : Bool → List Layer → ℕ → List ℕ → Option ℕ
refusal_of stream fs sent body =
    or_carrier (chain_refusal fs (index_of stream sent) body)
    (carrier_refusal stream fs sent (chained fs (index_of stream sent) body))

-- a stream is ended behind a final message, and where it has no layer behind any; datagrams have no end
abbrev pub ends_of : Bool → List Layer → Bool → Bool
ends_of true [] final = true
ends_of true (f ∷ fs) final = final
ends_of false fs final = false

-- of a connection over a stream or not, through these layers
abbrev pub encoding_of : Bool → List Layer → Encoding
encoding_of stream fs =
    record {
      refusal = refusal_of stream fs;
      bytes = λ sent body. chained fs (index_of stream sent) body;
      ends = ends_of stream fs;
    }
