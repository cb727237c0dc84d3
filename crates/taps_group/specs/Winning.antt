-- The socket that a race of one leaf gave, or its answer where it gave none.
use Rattle.std.specs.Prelude.{◌≡◌, ℕ}
use Rattle.taps_socket.specs.declared.race_answer.RaceAnswer.{RaceAnswer}
use Rattle.taps_socket.specs.declared.race_answer.RaceAnswer.TheVariants as answer
use Rattle.taps_group.specs.declared.race.Won.{Won}
use Rattle.taps_group.specs.declared.race.Won.TheVariants as won

-- it names no socket
abbrev pub NamesNone : RaceAnswer → Type 0
NamesNone (answer.Ready leaf socket at) = ⊥
NamesNone answer.NoCandidate = Unit {0}
NamesNone answer.AllFailed = Unit {0}
NamesNone answer.Timeout = Unit {0}
NamesNone answer.Closed = Unit {0}
NamesNone answer.SocketFault = Unit {0}

-- it names this one; or it names none, and is told
abbrev pub IsWon : RaceAnswer → Won → Type 0
IsWon a (won.Ready socket at) = (leaf : ℕ) × (a ≡ answer.Ready leaf socket at)
IsWon a (won.Failed told) = (told ≡ a) × NamesNone a
