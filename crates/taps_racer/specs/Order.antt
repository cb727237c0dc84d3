-- The sockets of a race's attempts in the order of their numbers.
use Rattle.std.specs.Prelude.{◌≡◌, ◌<◌, ◌≤◌, ℕ, Bool, false, not, ◌&&◌, ◌==◌, if◌then◌else◌, List, map, length, slice_index_or, slice_get, Option, None, Some}
use Rattle.std.specs.List.{All, Contains, filter_map}
use Rattle.std.specs.Option.{option_map_or, option_to_list, is_some}
use Rattle.taps_socket.specs.declared.race_answer.RaceAnswer.{RaceAnswer}
use Rattle.taps_socket.specs.RaceSockets.{has}
use Rattle.taps_socket.specs.Winner.{is_winner}
use Rattle.taps_racer.specs.declared.attempt.Attempt.{Attempt}
use Rattle.taps_racer.specs.declared.order.Numbered.{Numbered}
use Rattle.taps_racer.specs.Attempts.{socket_of, open_socket, pending_socket, broken_socket}

-- the numbers rise
abbrev pub Rise : List Numbered → Type 0
Rise order =
    (i j : ℕ) (d : Numbered) → i < j → j < length order →
    (slice_index_or order i d).socket < (slice_index_or order j d).socket

-- the attempt at this place has this socket
abbrev pub HasSocketAt : List Attempt → ℕ → ℕ → Type 0
HasSocketAt attempts place socket = slice_get (map socket_of attempts) place ≡ Some (Some socket)

-- these are the sockets of the attempts, each once with its place
pub record AreNumbered (attempts : List Attempt) (order : List Numbered) : Type 0 where
  pub rise : Rise order
  pub each : All (λ n. HasSocketAt attempts n.place n.socket) order
  pub all : (place socket : ℕ) → HasSocketAt attempts place socket
      → Contains order (record { socket = socket; place = place })

-- the place of the attempt with a socket, if there is one
abbrev pub FindsIn : List Attempt → ℕ → Option ℕ → Type 0
FindsIn attempts socket (Some place) = HasSocketAt attempts place socket
FindsIn attempts socket None = has (filter_map socket_of attempts) socket ≡ false

-- the place of its attempt, if it is this socket
abbrev pub place_if : Numbered → ℕ → Option ℕ
place_if n socket = if n.socket == socket then Some n.place else None

-- its socket is open
abbrev pub is_open : Attempt → Bool
is_open attempt = is_some (open_socket attempt)

-- it is pending
abbrev pub is_pending : Attempt → Bool
is_pending attempt = is_some (pending_socket attempt)

-- the socket of the attempt at this place is open and has not won
abbrev pub is_loser : List Attempt → Option RaceAnswer → Numbered → Bool
is_loser attempts ready n =
    option_map_or is_open (slice_get attempts n.place) false && not (is_winner ready n.socket)

-- none of the first ones is a loser
pub record ArePassed (attempts : List Attempt) (ready : Option RaceAnswer) (order : List Numbered)
    (passed : ℕ) : Type 0 where
  pub within : passed ≤ length order
  pub none : (k : ℕ) (d : Numbered) → k < passed → is_loser attempts ready (slice_index_or order k d) ≡ false

-- 1 where it holds, else 0
abbrev pub one_if : Bool → ℕ
one_if holds = if holds then 1 else 0

-- the socket that broke, unless it is this one
abbrev pub without : Option ℕ → ℕ → Option ℕ
without None socket = None
without (Some other) socket = if other == socket then None else Some other

-- what is kept beside the attempts: their sockets by number, of which the first ones are no losers; how many are
-- pending; and the one that broke and is open
pub record IsIndex (attempts : List Attempt) (ready : Option RaceAnswer)
    (order : List Numbered) (passed pending : ℕ) (broken : Option ℕ) : Type 0 where
  pub numbered : AreNumbered attempts order
  pub few : length order ≤ length attempts
  pub passed_over : ArePassed attempts ready order passed
  pub count : pending ≡ length (filter_map pending_socket attempts)
  pub one_broke : filter_map broken_socket attempts ≡ option_to_list broken
