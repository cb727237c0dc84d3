-- A socket that may be used is named.
use Rattle.std.proofs.Common.{◌≡◌, ℕ, true, not, List}
use Rattle.taps_socket.specs.declared.item.Item.{Item}
use Rattle.taps_socket.specs.RaceSockets.{has, closed}
use Rattle.taps_socket.specs.LiveSockets.{given, live_sockets, named}
use Rattle.taps_socket.specs.Sides.{is_connected, may_send, may_receive, may_shut}
use Rattle.taps_socket.proofs.NamedSockets.{given_named}
use Rattle.taps_socket.proofs.Lists.{both, kept}

pub live_named : (t : List Item) (s : ℕ) → has (live_sockets t) s ≡ true → has (named t) s ≡ true
live_named t s h = given_named t s (kept (λ s. not (has (closed t) s)) (given t) s h).1

connected_named : (t : List Item) (s : ℕ) → is_connected t s ≡ true → has (named t) s ≡ true
connected_named t s h = live_named t s (both _ _ (both _ _ h).0).0

pub sender_named : (t : List Item) (s : ℕ) → may_send t s ≡ true → has (named t) s ≡ true
sender_named t s h = connected_named t s (both _ _ h).0

pub receiver_named : (t : List Item) (s : ℕ) → may_receive t s ≡ true → has (named t) s ≡ true
receiver_named t s h = connected_named t s (both _ _ h).0

pub shutter_named : (t : List Item) (s : ℕ) → may_shut t s ≡ true → has (named t) s ≡ true
shutter_named t s h = sender_named t s (both _ _ h).0
