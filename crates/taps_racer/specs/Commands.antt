-- Which command comes next in a race.
use Rattle.std.specs.Prelude.{◌≡◌, min, if◌then◌else◌}
use Rattle.std.specs.List.{reduce}
use Rattle.std.specs.Option.{option_map_or}
use Rattle.taps_socket.specs.declared.race_answer.RaceAnswer.{RaceAnswer}
use Rattle.taps_socket.specs.Standing.{Standing, losers}
use Rattle.taps_socket.specs.Rules.{Rules}
use Rattle.taps_socket.specs.Over.{over}
use Rattle.taps_socket.specs.Turn.{is_due, wait_end}
use Rattle.taps_socket.specs.LawfulRace.{MayAttempt, MayWait, MayClose, IsOver}
use Rattle.taps_racer.specs.declared.command.Command.{Command}
use Rattle.taps_racer.specs.declared.command.Command.TheVariants.{Start, Wait, Close, Finish}
use Rattle.taps_racer.specs.Kept.{Kept, standing_of}

-- a lawful race that stands so goes on with what this command brings, or is over with its answer
abbrev pub ComesNext : Rules → Standing → Command → Type 0
ComesNext rules race (Start leaf) = (leaf ≡ race.attempts) × MayAttempt rules race
ComesNext rules race (Wait until) = MayWait rules race until
ComesNext rules race (Close socket) = MayClose (over rules race) race socket
ComesNext rules race (Finish answer) = IsOver rules race answer

-- what is to be done in a race that is over: the losers are closed, the smallest first
abbrev pub ending : Standing → RaceAnswer → Command
ending race answer = option_map_or (λ socket. Close socket) (reduce min (losers race)) (Finish answer)

-- what is to be done in one that goes on: a broken socket is closed, then a leaf that is due is started
abbrev pub going_on : Rules → Standing → Command
going_on rules race =
    option_map_or (λ socket. Close socket) (reduce min race.broken) (if is_due rules race then Start race.attempts
    else Wait (wait_end rules race))

-- the command that a race comes to which stands so
abbrev pub command : Rules → Standing → Command
command rules race = option_map_or (ending race) (over rules race) (going_on rules race)

-- the command that a racer comes to by what it keeps
abbrev pub command_of : Kept → Command
command_of kept = command kept.rules (standing_of kept)

-- it is the last one
abbrev pub IsFinish : Command → Type 0
IsFinish (Finish answer) = Unit {0}
IsFinish _ = ⊥
