-- The line of a race's answer (local).
use Rattle.std.specs.Prelude.{ℕ, List, ◌++◌, codes}
use Rattle.std.specs.Fmt.{decimal}
use Rattle.taps_socket.specs.declared.race_answer.RaceAnswer.{RaceAnswer}
use Rattle.taps_socket.specs.declared.race_answer.RaceAnswer.TheVariants.{Ready, NoCandidate, AllFailed, Timeout, Closed, SocketFault}

-- the leaf that is ready, or why there is none
unfoldable pub answer_line : RaceAnswer → List ℕ
answer_line (Ready leaf socket at) = codes "ready " ++ (decimal leaf ++ codes "\n")
answer_line NoCandidate = codes "establishment-error no-candidate\n"
answer_line AllFailed = codes "establishment-error all-failed\n"
answer_line Timeout = codes "establishment-error timeout\n"
answer_line Closed = codes "closed\n"
answer_line SocketFault = codes "socket-fault\n"
