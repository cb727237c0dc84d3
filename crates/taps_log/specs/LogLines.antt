-- The text of each line of a log, without the end of the line. Numbers are decimal.
use Rattle.std.specs.Prelude.{ℕ, List, ◌++◌, codes, Option, None, Some}
use Rattle.std.specs.Fmt.{decimal}
use Rattle.taps_log.specs.declared.line.Cause.{Cause}
use Rattle.taps_log.specs.declared.line.Cause.TheVariants as causes
use Rattle.taps_log.specs.declared.line.How.{How}
use Rattle.taps_log.specs.declared.line.How.TheVariants as ends
use Rattle.taps_log.specs.declared.line.Start.{Start}
use Rattle.taps_log.specs.declared.line.Start.TheVariants as starts
use Rattle.taps_log.specs.declared.line.Ending.{Ending}
use Rattle.taps_log.specs.declared.line.Ending.TheVariants as endings
use Rattle.taps_log.specs.declared.line.Line.{Line}
use Rattle.taps_log.specs.Entries.{Entry, entry_of, say_leaves, say_leaf, say_began, say_started, say_waited, say_closed, say_listening, say_not_listening, say_accepted, say_faulted, say_shut, say_ended, say_failed, say_ready, say_sent, say_received, say_part, say_data_failed, say_bad_frame, say_not_speakable, say_expired, say_clone_limit, say_ends}

-- the word of a cause
abbrev pub cause_word : Cause → List ℕ
cause_word causes.Refused = codes "refused"
cause_word causes.Unreachable = codes "unreachable"
cause_word causes.Reset = codes "reset"
cause_word causes.Memory = codes "memory"
cause_word causes.Other = codes "other"

-- how a line with a moment ends
abbrev pub moment_text : ℕ → List ℕ
moment_text at = codes " at " ++ decimal at

-- what became of a start, before the rest of its line
abbrev pub start_text : Start → List ℕ → List ℕ
start_text (starts.Socket socket) rest = codes " socket " ++ (decimal socket ++ rest)
start_text (starts.Refused cause) rest = codes " refused " ++ (cause_word cause ++ rest)

-- how a wait ended, before the moment at which it did
abbrev pub how_text : How → List ℕ → List ℕ
how_text ends.Reached moment = codes " reached " ++ moment
how_text (ends.Completed socket) moment = codes " completed " ++ (decimal socket ++ (codes " at " ++ moment))
how_text (ends.Broke socket cause) moment =
    codes " broke " ++ (decimal socket ++ (codes " " ++ (cause_word cause ++ (codes " at " ++ moment))))
how_text ends.Faulted moment = codes " faulted at " ++ moment

-- the gap of a leaf of the plan
abbrev pub gap_text : Option ℕ → List ℕ
gap_text None = codes " +none"
gap_text (Some gap) = codes " +" ++ decimal gap

-- the line of an ending that is no completion
abbrev pub ending_line : Ending → List ℕ
ending_line endings.NoCandidate = codes "establishment-error no-candidate"
ending_line endings.AllFailed = codes "establishment-error all-failed"
ending_line endings.Timeout = codes "establishment-error timeout"
ending_line endings.Closed = codes "closed"
ending_line endings.SocketFault = codes "socket-fault"
ending_line endings.Done = codes "done"
ending_line endings.Timed = codes "timed"
ending_line endings.PeerEnded = codes "peer-ended"
ending_line endings.CloneAllFailed = codes "clone-error all-failed"
ending_line endings.CloneTimeout = codes "clone-error timeout"

-- the line of the plan, of an item, of an answer, of a message or of an outcome
abbrev pub entry_text : Entry → List ℕ
entry_text (say_leaves count) = codes "leaves " ++ decimal count
entry_text (say_leaf leaf place gap) = decimal leaf ++ (codes " " ++ (place ++ gap_text gap))
entry_text (say_began at) = codes "begin " ++ decimal at
entry_text (say_started leaf start at) = codes "start " ++ (decimal leaf ++ start_text start (moment_text at))
entry_text (say_waited until how at) = codes "wait " ++ (decimal until ++ how_text how (decimal at))
entry_text (say_closed socket) = codes "close " ++ decimal socket
entry_text (say_listening socket address at) =
    codes "listen " ++ (decimal socket ++ (codes " " ++ (address ++ moment_text at)))
entry_text (say_not_listening cause at) = codes "listen refused " ++ (cause_word cause ++ moment_text at)
entry_text (say_accepted socket listener at) =
    codes "accept " ++ (decimal socket ++ (codes " from " ++ (decimal listener ++ moment_text at)))
entry_text (say_faulted at) = codes "faulted at " ++ decimal at
entry_text (say_shut socket) = codes "shut " ++ decimal socket
entry_text (say_ended socket) = codes "ended " ++ decimal socket
entry_text (say_failed socket cause) = codes "failed " ++ (decimal socket ++ (codes " " ++ cause_word cause))
entry_text (say_ready leaf) = codes "ready " ++ decimal leaf
entry_text (say_sent member count) = codes "sent " ++ (decimal member ++ (codes " " ++ decimal count))
entry_text (say_received member number hex) =
    codes "received " ++ (decimal member ++ (codes " " ++ (decimal number ++ (codes " " ++ hex))))
entry_text (say_part member number hex) =
    codes "part " ++ (decimal member ++ (codes " " ++ (decimal number ++ (codes " " ++ hex))))
entry_text (say_data_failed cause) = codes "data-failed " ++ cause_word cause
entry_text (say_bad_frame message layer place) =
    codes "bad-frame " ++ (decimal message ++ (codes " " ++ (decimal layer ++ (codes " " ++ decimal place))))
entry_text (say_not_speakable member number layer) =
    codes "not-speakable " ++ (decimal member ++ (codes " " ++ (decimal number ++ (codes " " ++ decimal layer))))
entry_text (say_expired member number) = codes "expired " ++ (decimal member ++ (codes " " ++ decimal number))
entry_text (say_clone_limit limit) = codes "clone-error limit-reached " ++ decimal limit
entry_text (say_ends ending) = ending_line ending

-- the text of what a line says
abbrev pub line_text : Line → List ℕ
line_text line = entry_text (entry_of line)
