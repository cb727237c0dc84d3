-- What bytes decode to that must be whole messages.
use Rattle.std.specs.Prelude.{◌≡◌, ◌<◌, ℕ, ⊤, List, Result, Ok, Err, length}
use Rattle.taps_base.specs.Lists.{ListState}
use Rattle.taps_framer.specs.Layers.{Layer}
use Rattle.taps_chain.specs.Chained.{spelling, AreSpoken}
use Rattle.taps_chain.specs.Heard.{needs, fails, IsHeard}
use Rattle.taps_example_client.specs.declared.messages.DecodeError.{DecodeError}
use Rattle.taps_example_client.specs.declared.messages.DecodeError.TheVariants.{Bad, Rest, NoMemory}

-- the bytes are those of the messages, and no more
pub record AreBytesOf (fs : List Layer) (ms : List (List ℕ)) (x : List ℕ) : Type 0 where
  pub bytes : x ≡ spelling fs 0 ms
  pub spoken : AreSpoken fs 0 ms

-- the messages that the bytes are, or why they are no whole messages; out of memory is free
abbrev pub Decodes : List Layer → List ℕ → Result (ListState (List ℕ)) DecodeError → Type 0
Decodes fs x (Ok messages) = AreBytesOf fs messages.items x
Decodes fs x (Err (Bad at)) = (ms : List (List ℕ)) × (rest : List ℕ) ×
    (IsHeard fs 0 x ms (fails at.layer at.place) rest × (at.message ≡ length ms))
Decodes fs x (Err (Rest count)) = (ms : List (List ℕ)) × (rest : List ℕ) ×
    (IsHeard fs 0 x ms needs rest × (count ≡ length rest) × (0 < count))
Decodes fs x (Err NoMemory) = ⊤
