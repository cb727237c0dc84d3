-- What contracts see of the source of a receiver.
use Rattle.std.specs.Prelude.{◌≡◌, List, []}
use Rattle.taps_framer.specs.Layers.{Layer}
use Rattle.taps_framer.specs.declared.framer.Framer as framer
use Rattle.taps_chain.specs.Ears.{layers_heard, IsSound}
use Rattle.taps_connection.specs.declared.receiver.Source.{Source}
use Rattle.taps_connection.specs.declared.receiver.Source.TheVariants.{Framed, Plain, Datagrams}
use Rattle.taps_connection.specs.Unread.{Unread, framed_unread, plain_unread, datagrams_unread}

-- what was read and not yet given out
abbrev pub unread_of : {X : Type 0} {F : X → Type 0} → Source X F → Unread
unread_of (Framed f) = framed_unread f
unread_of (Plain p) = plain_unread p
unread_of (Datagrams d) = datagrams_unread d

-- It is sound for these layers: a stream is heard through them, and what the framer of layer 0 has seen of it is so;
-- or there is none, and the stream is one message. A new source is, and each call leaves it so.
abbrev pub IsSoundSource : {X : Type 0} {F : X → Type 0} → ((x : X) → framer.Ghosts (F x)) → List Layer →
    Source X F → Type 0
IsSoundSource boxed fs (Framed f) = IsSound boxed f.ears × (layers_heard boxed f.ears ≡ fs)
IsSoundSource boxed fs (Plain p) = fs ≡ []
IsSoundSource boxed fs (Datagrams d) = Unit {0}
