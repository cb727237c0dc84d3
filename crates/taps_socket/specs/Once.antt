-- That no number stands twice in a list.
use Rattle.std.specs.Prelude.{◌≡◌, ℕ, false, List, [], ◌∷◌}
use Rattle.taps_socket.specs.RaceSockets.{has}

-- each stands once
abbrev pub IsOnce : List ℕ → Type 0
IsOnce [] = Unit {0}
IsOnce (x ∷ rest) = (has rest x ≡ false) × IsOnce rest
