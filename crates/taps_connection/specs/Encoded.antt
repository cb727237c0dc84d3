-- That bytes are those of a message, and why there are none.
use Rattle.std.specs.Prelude.{◌≡◌, ℕ, ◌≤◌, Bool, true, false, List, length, Option, Some, None}
use Rattle.taps_framer.specs.Layers.{Layer}
use Rattle.taps_chain.specs.Chained.{chained, IsSpoken}
use Rattle.taps_message.specs.declared.message.Message.{Message}
use Rattle.taps_connection.specs.Encodings.{encoding_of}
use Rattle.taps_connection.specs.declared.encoding.Encoded.{Encoded}
use Rattle.taps_connection.specs.declared.encoding.Encoded.TheVariants as encoded

-- the bytes of a body through layers, of which there is one at least
pub record IsFramed (fs : List Layer) (index : ℕ) (body bytes : List ℕ) : Type 0 where
  pub spoken : IsSpoken fs index body
  pub spelled : bytes ≡ chained fs index body
  pub some : 1 ≤ length bytes
  pub few : length bytes ≤ 4194304

-- the bytes of a message behind so many sent ones, which its carrier can carry
pub record IsEncoded (stream : Bool) (fs : List Layer) (sent : ℕ) (body bytes : List ℕ) : Type 0 where
  pub spoken : (encoding_of stream fs).refusal sent body ≡ None
  pub spelled : bytes ≡ (encoding_of stream fs).bytes sent body
  pub few : length bytes ≤ 4194304
  pub datagram : stream ≡ false → (1 ≤ length bytes) × (length bytes ≤ 65507)

-- a carrier refuses, as layer 0, or does not
abbrev pub refused_by : Bool → Option ℕ
refused_by true = Some 0
refused_by false = None

-- the framed bytes, or else the body as it is
abbrev pub bytes_by : Option (List ℕ) → List ℕ → List ℕ
bytes_by (Some bytes) body = bytes
bytes_by None body = body

-- a message has these bytes, for which there is room; or a layer cannot encode it; or memory ran out, and it is
-- handed back
abbrev pub IsEncodedAs : Bool → List Layer → ℕ → ℕ → Message → Encoded → Type 0
IsEncodedAs stream fs sent room m (encoded.Bytes bytes) = IsEncoded stream fs sent m.body bytes × (length bytes ≤ room)
IsEncodedAs stream fs sent room m (encoded.NotSpeakable layer) =
    (encoding_of stream fs).refusal sent m.body ≡ Some layer
IsEncodedAs stream fs sent room m (encoded.NoMemory back) = back ≡ m
