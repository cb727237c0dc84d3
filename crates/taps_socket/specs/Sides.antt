-- Which sockets may send, receive or listen, and where each leads, as the items tell. A trace stands with its newest
-- item first.
use Rattle.std.specs.Prelude.{ℕ, Bool, true, not, ◌&&◌, ◌||◌, ◌==◌, if◌then◌else◌, List, [], ◌∷◌, Option, None, Some}
use Rattle.std.specs.Option.{option_map_or}
use Rattle.taps_stack.specs.declared.target.Target.{Target}
use Rattle.taps_stack.specs.StackTable.{is_stream}
use Rattle.taps_socket.specs.declared.item.Item.{Item}
use Rattle.taps_socket.specs.declared.item.Item.TheVariants.{Started, Listening, Accepted, Shut, Ended, DataFailed}
use Rattle.taps_socket.specs.RaceSockets.{has, completed}
use Rattle.taps_socket.specs.LiveSockets.{live_sockets}

-- the sockets that listen
abbrev pub listeners : List Item → List ℕ
listeners [] = []
listeners (Listening target socket at ∷ earlier) = socket ∷ listeners earlier
listeners (_ ∷ earlier) = listeners earlier

-- the sockets that a listening socket gave
abbrev pub accepted : List Item → List ℕ
accepted [] = []
accepted (Accepted listener socket at ∷ earlier) = socket ∷ accepted earlier
accepted (_ ∷ earlier) = accepted earlier

-- those whose sending side was ended
abbrev pub shut : List Item → List ℕ
shut [] = []
shut (Shut socket ∷ earlier) = socket ∷ shut earlier
shut (_ ∷ earlier) = shut earlier

-- those whose other end ended its sending side
abbrev pub ended : List Item → List ℕ
ended [] = []
ended (Ended socket ∷ earlier) = socket ∷ ended earlier
ended (_ ∷ earlier) = ended earlier

-- those on which a send or a receive failed
abbrev pub failed : List Item → List ℕ
failed [] = []
failed (DataFailed socket sending cause ∷ earlier) = socket ∷ failed earlier
failed (_ ∷ earlier) = failed earlier

-- the target of a socket: that for which it was started, that on which it listens, and of an accepted one that of its
-- listener
abbrev pub target_of : List Item → ℕ → Option Target
target_of [] s = None
target_of (Started leaf target socket at ∷ earlier) s = if socket == s then Some target else target_of earlier s
target_of (Listening target socket at ∷ earlier) s = if socket == s then Some target else target_of earlier s
target_of (Accepted listener socket at ∷ earlier) s =
    if socket == s then target_of earlier listener else target_of earlier s
target_of (_ ∷ earlier) s = target_of earlier s

-- the socket carries a stream of bytes, and not datagrams
abbrev pub carries_stream : List Item → ℕ → Bool
carries_stream trace s = option_map_or (λ target. is_stream target.stack) (target_of trace s) true

-- the socket is live and listens
abbrev pub may_accept : List Item → ℕ → Bool
may_accept trace s = has (live_sockets trace) s && has (listeners trace) s

-- the socket is live and connected, and no send or receive on it failed
abbrev pub is_connected : List Item → ℕ → Bool
is_connected trace s =
    has (live_sockets trace) s && (has (completed trace) s || has (accepted trace) s) && not (has (failed trace) s)

-- and its sending side was not ended
abbrev pub may_send : List Item → ℕ → Bool
may_send trace s = is_connected trace s && not (has (shut trace) s)

-- or the other end did not end its own
abbrev pub may_receive : List Item → ℕ → Bool
may_receive trace s = is_connected trace s && not (has (ended trace) s)

-- and it carries a stream, whose sending side can be ended
abbrev pub may_shut : List Item → ℕ → Bool
may_shut trace s = may_send trace s && carries_stream trace s
