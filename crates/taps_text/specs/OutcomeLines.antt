-- The line of how a session ended (local).
use Rattle.std.specs.Prelude.{ℕ, List, ◌++◌, codes}
use Rattle.std.specs.Fmt.{decimal}
use Rattle.taps_socket.specs.CauseWords.{cause_word}
use Rattle.taps_text.specs.declared.outcome.Outcome.{Outcome}
use Rattle.taps_text.specs.declared.outcome.Outcome.TheVariants.{Done, Timed, DataFailed, PeerEnded, BadFrame, NotSpeakable, Expired, CloneLimit, CloneAllFailed, CloneTimeout, SocketFault}

-- that all was done, or what ended the session before
unfoldable pub outcome_line : Outcome → List ℕ
outcome_line Done = codes "done\n"
outcome_line Timed = codes "timed\n"
outcome_line (DataFailed cause) = codes "data-failed " ++ (cause_word cause ++ codes "\n")
outcome_line PeerEnded = codes "peer-ended\n"
outcome_line (BadFrame message layer place) = codes "bad-frame "
    ++ (decimal message ++ (codes " " ++ (decimal layer ++ (codes " " ++ (decimal place ++ codes "\n")))))
outcome_line (NotSpeakable member number layer) = codes "not-speakable "
    ++ (decimal member ++ (codes " " ++ (decimal number ++ (codes " " ++ (decimal layer ++ codes "\n")))))
outcome_line (Expired member number) =
    codes "expired " ++ (decimal member ++ (codes " " ++ (decimal number ++ codes "\n")))
outcome_line (CloneLimit limit) = codes "clone-error limit-reached " ++ (decimal limit ++ codes "\n")
outcome_line CloneAllFailed = codes "clone-error all-failed\n"
outcome_line CloneTimeout = codes "clone-error timeout\n"
outcome_line SocketFault = codes "socket-fault\n"
