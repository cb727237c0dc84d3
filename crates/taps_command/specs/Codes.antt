-- The exit code of each status (this project's own).
use Rattle.std.specs.Prelude.{ℕ}
use Rattle.taps_command.specs.declared.status.Status.{Status}
use Rattle.taps_command.specs.declared.status.Status.TheVariants.{Done, Usage, Refused, Establishment, Exchange, FileFault, SinkFault, SocketFault, NoMemory, Closed}

-- the exit code of a status
abbrev pub code_of : Status → ℕ
code_of Done = 0
code_of Usage = 2
code_of Refused = 3
code_of Establishment = 4
code_of Exchange = 5
code_of FileFault = 6
code_of SinkFault = 7
code_of SocketFault = 8
code_of NoMemory = 9
code_of Closed = 10
