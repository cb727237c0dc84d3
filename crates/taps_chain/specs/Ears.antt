-- What contracts see of ears.
use Rattle.std.specs.Prelude.{◌≡◌, List, Some, slice_get}
use Rattle.taps_framer.specs.Layers.{Layer}
use Rattle.taps_framer.specs.declared.framer.Framer as framer
use Rattle.taps_chain.specs.ChainLaws.{AreFramers}
use Rattle.taps_chain.specs.Looks.{HasLooked}
use Rattle.taps_chain.specs.declared.ears.Ears.{Ears}
use Rattle.taps_chain.specs.Layers.{layers_of}
use Rattle.taps_chain.specs.Streams.{StreamState}

-- the layers of the chain that they hear through
abbrev pub layers_heard : {X : Type 0} {F : X → Type 0} → ((x : X) → framer.Ghosts (F x)) → Ears X F → List Layer
layers_heard boxed ears = layers_of boxed ears.chain

-- what they keep of the stream
abbrev pub state_of : {X : Type 0} {F : X → Type 0} → Ears X F → StreamState
state_of ears = ears.stream

-- The ears are sound: their layers keep the laws of framers, and what the framer of layer 0 has seen of the scanned
-- bytes is so. New ears are, and each call leaves them so.
pub record IsSound {X : Type 0} {F : X → Type 0}
    (boxed : (x : X) → framer.Ghosts (F x)) (ears : Ears X F) : Type 0 where
  pub framers : AreFramers (layers_of boxed ears.chain)
  pub first : slice_get (layers_of boxed ears.chain) 0 ≡ Some ((boxed ears.first.now.vtable).layer ears.first.now.value)
  pub looked : HasLooked ((boxed ears.first.now.vtable).layer ears.first.now.value)
      ((boxed ears.first.now.vtable).scans ears.first.now.value)
      ears.stream.index ears.stream.unread record { scanned = ears.stream.scanned; seen = ears.seen }
