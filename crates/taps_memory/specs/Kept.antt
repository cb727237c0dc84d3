-- What is kept of sockets in memory beside the items, and that it agrees with them.
use Rattle.std.specs.Prelude.{◌≡◌, ◌≤◌, ◌<◌, ◌+◌, ◌*◌, ◌^◌, ◌==◌, ◌||◌, ℕ, Bool, true, false, not, if◌then◌else◌, filter, List, [], ◌∷◌, map, length, None}
use Rattle.std.specs.List.{All}
use Rattle.taps_socket.specs.declared.item.How.{How}
use Rattle.taps_socket.specs.declared.item.How.TheVariants.{Completed, Broke}
use Rattle.taps_socket.specs.declared.item.Item.{Item}
use Rattle.taps_socket.specs.declared.item.Item.TheVariants as item
use Rattle.taps_socket.specs.RaceSockets.{has, started, completed, pending_sockets}
use Rattle.taps_socket.specs.LiveSockets.{given, named}
use Rattle.taps_socket.specs.Sides.{carries_stream, accepted, listeners}
use Rattle.taps_memory.specs.declared.link.Link.{Link}
use Rattle.taps_memory.specs.declared.listening.Listening.{Listening}
use Rattle.taps_memory.specs.Pairs.{is_at, has_no_socket}
use Rattle.taps_memory.specs.Sides.{new_side}
use Rattle.taps_memory.specs.Links.{pair_of, link_has, link_waits, has_link, unused_link}
use Rattle.taps_memory.specs.Listeners.{live_listeners}
use Rattle.taps_memory.specs.MemoryAnswers.{most_listeners}
use Rattle.taps_memory.specs.Joined.{ends_of, connections}

-- an item that gives no socket, names no new one, and is of no wait and no close
abbrev pub IsQuiet : Item → List Item → Type 0
IsQuiet (item.Began at) trace = Unit {0}
IsQuiet (item.Refused leaf target cause at) trace = Unit {0}
IsQuiet (item.NotListening target cause at) trace = Unit {0}
IsQuiet (item.Faulted at) trace = Unit {0}
IsQuiet (item.Shut socket) trace = has (named trace) socket ≡ true
IsQuiet (item.Ended socket) trace = has (named trace) socket ≡ true
IsQuiet (item.DataFailed socket sending cause) trace = has (named trace) socket ≡ true
IsQuiet _ trace = ⊥

-- the pending sockets after such a wait: that of which it told is gone
abbrev pub without_told : How → List ℕ → List ℕ
without_told (Completed socket) pending = filter (λ s. not (socket == s)) pending
without_told (Broke socket cause) pending = filter (λ s. not (socket == s)) pending
without_told _ pending = pending

-- so many sockets were given, so many of them to listen; no other is named; all carry streams; the pending ones and
-- those that listen are those of the items; and the last reported time fits
pub record IsKept (trace : List Item) (told count listened : ℕ) (pending : List ℕ)
    (listening : List Listening) : Type 0 where
  pub fits : told < 2 ^ 63
  pub given_are : count ≡ length (given trace)
  pub listened_are : listened ≡ length (listeners trace)
  pub few : listened ≤ most_listeners
  pub pending_are : pending ≡ pending_sockets trace
  pub listening_are : listening ≡ live_listeners trace
  pub named_below : (s : ℕ) → has (named trace) s ≡ true → s < count
  pub streams : (s : ℕ) → carries_stream trace s ≡ true

-- no more was read than was written; and on an end that was not accepted nothing was done
pub record IsSound (l : Link) : Type 0 where
  pub starter : l.starter.end.taken ≤ length l.starter.end.written
  pub acceptor : l.acceptor.end.taken ≤ length l.acceptor.end.written
  pub unmet : has_no_socket l.acceptor.end ≡ true →
      (l.acceptor ≡ new_side l.acceptor.end.capacity None) × (l.starter.end.taken ≡ 0)
  pub apart : (s : ℕ) → is_at l.starter.end s ≡ true → is_at l.acceptor.end s ≡ false

-- each is, and no socket is an end of two
abbrev pub AreSound : List Link → Type 0
AreSound [] = Unit {0}
AreSound (l ∷ links) =
    IsSound l × ((s : ℕ) → link_has s l ≡ true → has_link links s ≡ false) × AreSound links

-- some connection waits to be accepted from a listening socket
abbrev pub some_waits : ℕ → List Link → Bool
some_waits listener [] = false
some_waits listener (l ∷ links) = link_waits listener l || some_waits listener links

-- how many connections were not accepted
abbrev pub unmet_count : List Link → ℕ
unmet_count [] = 0
unmet_count (l ∷ links) = (if has_no_socket l.acceptor.end then 1 else 0) + unmet_count links

-- the connections are those of the items: the ends of each are sockets that were given, and each socket that was
-- started, completed or accepted is an end
pub record AreLinked (trace : List Item) (count : ℕ) (links : List Link) : Type 0 where
  pub sound : AreSound links
  pub below : (s : ℕ) → has_link links s ≡ true → s < count
  pub starts : (s : ℕ) → has (started trace) s ≡ true → has_link links s ≡ true
  pub completes : (s : ℕ) → has (completed trace) s ≡ true → has_link links s ≡ true
  pub accepts : (s : ℕ) → has (accepted trace) s ≡ true → has_link links s ≡ true
  pub ends : map (λ l. ends_of (pair_of l)) links ≡ connections trace

-- there is room for so many more
pub record HasRoom (spare len capacity : ℕ) : Type 0 where
  pub room : len + spare ≤ capacity

-- those that were not started are as they were made, and with the others they are all that there may be. So there are
-- numbers for all sockets
pub record AreUnused (capacity most count listened : ℕ) (links unused : List Link) : Type 0 where
  pub each : All (λ l. l ≡ unused_link capacity) unused
  pub all : length links + length unused ≡ most
  pub few : most ≤ 64
  pub numbers : count + 2 * length unused + unmet_count links ≤ listened + 2 * most
