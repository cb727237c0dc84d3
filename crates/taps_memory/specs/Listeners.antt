-- The sockets that listen in memory (local), as the items tell. A trace stands with its newest item first.
use Rattle.std.specs.Prelude.{ℕ, ◌==◌, not, filter, List, [], ◌∷◌, ◌++◌, Option, option_map}
use Rattle.taps_stack.specs.declared.target.Target.{Target}
use Rattle.taps_socket.specs.declared.item.Item.{Item}
use Rattle.taps_socket.specs.declared.item.Item.TheVariants as item
use Rattle.taps_memory.specs.declared.listening.Listening.{Listening}
use Rattle.taps_memory.specs.Targets.{same_target}
use Rattle.taps_memory.specs.Pairs.{first_of}

-- without a socket that was closed
abbrev pub without_listener : ℕ → List Listening → List Listening
without_listener socket listeners = filter (λ l. not (socket == l.socket)) listeners

-- the sockets that listen and were not closed, the earliest first
abbrev pub live_listeners : List Item → List Listening
live_listeners [] = []
live_listeners (item.Listening target socket at ∷ earlier) =
    live_listeners earlier ++ record { socket = socket; target = target } ∷ []
live_listeners (item.Closed socket ∷ earlier) = without_listener socket (live_listeners earlier)
live_listeners (_ ∷ earlier) = live_listeners earlier

-- the one among these that listens on a target
abbrev pub listener_among : List Listening → Target → Option ℕ
listener_among listeners target = option_map (λ l. l.socket) (first_of (λ l. same_target target l.target) listeners)

-- the socket that listens on a target, if one does
abbrev pub listener_on : List Item → Target → Option ℕ
listener_on trace target = listener_among (live_listeners trace) target
