-- When a race is over, and with which answer (RFC 9623 section 4.4; the order of the rules is this project's own).
use Rattle.std.specs.Prelude.{◌+◌, Bool, false, ◌&&◌, ◌==◌, nat_le, if◌then◌else◌, length, Option, None, Some}
use Rattle.std.specs.Option.{option_or, option_map_or}
use Rattle.taps_socket.specs.declared.race_answer.RaceAnswer.{RaceAnswer}
use Rattle.taps_socket.specs.declared.race_answer.RaceAnswer.TheVariants.{SocketFault, Closed, Timeout, NoCandidate, AllFailed}
use Rattle.taps_socket.specs.Rules.{Rules}
use Rattle.taps_socket.specs.Standing.{Standing}

-- the application's moment to give up was told as passed
abbrev pub is_cancelled : Rules → Standing → Bool
is_cancelled rules race = option_map_or (λ cancel. nat_le (race.begun + cancel) race.last) rules.cancel false

-- the time for the race was told as passed
abbrev pub is_timed_out : Rules → Standing → Bool
is_timed_out rules race = nat_le (race.begun + rules.timeout) race.last

-- each leaf was attempted, and no socket is pending
abbrev pub has_failed : Rules → Standing → Bool
has_failed rules race = (race.attempts == length rules.gaps) && (length race.pending == 0)

-- the answer of a race in which no socket completed, if it is over: the first of these that applies
abbrev pub failure : Rules → Standing → Option RaceAnswer
failure rules race =
    if race.faulted then Some SocketFault
    else if is_cancelled rules race then Some Closed
    else if is_timed_out rules race then Some Timeout
    else if length rules.gaps == 0 then Some NoCandidate
    else if has_failed rules race then Some AllFailed
    else None

-- the answer, if the race is over: the first completion, else why it failed
abbrev pub over : Rules → Standing → Option RaceAnswer
over rules race = option_or race.ready (failure rules race)
