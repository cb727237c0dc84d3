-- Which attempt of a race wins: the first that completes (RFC 9623 section 4.4).
use Rattle.std.specs.Prelude.{ℕ, ◌+◌, Bool, false, ◌==◌, if◌then◌else◌, List, [], ◌∷◌, Option, None, Some}
use Rattle.std.specs.Option.{option_or}
use Rattle.taps_socket.specs.declared.item.How.TheVariants.{Completed}
use Rattle.taps_socket.specs.declared.item.Item.{Item}
use Rattle.taps_socket.specs.declared.item.Item.TheVariants.{Waited}
use Rattle.taps_socket.specs.declared.race_answer.RaceAnswer.{RaceAnswer}
use Rattle.taps_socket.specs.declared.race_answer.RaceAnswer.TheVariants.{Ready}
use Rattle.taps_socket.specs.RaceTrace.{tries}

-- it is this socket
abbrev pub is_socket : ℕ → Option ℕ → Bool
is_socket s None = false
is_socket s (Some socket) = socket == s

-- the place of the attempt that gave the socket
abbrev pub place_of : ℕ → List (Option ℕ) → ℕ
place_of s [] = 0
place_of s (o ∷ rest) = if is_socket s o then 0 else place_of s rest + 1

-- the answer of the first completion: its leaf's place, its socket and its moment
abbrev pub ready : List Item → Option RaceAnswer
ready [] = None
ready (Waited until at (Completed socket) ∷ earlier) =
    option_or (ready earlier) (Some (Ready (place_of socket (tries earlier)) socket at))
ready (_ ∷ earlier) = ready earlier

-- the socket is that of this answer
abbrev pub is_winner : Option RaceAnswer → ℕ → Bool
is_winner (Some (Ready leaf socket at)) s = socket == s
is_winner _ s = false
