-- What a line of a log says (local), with its texts as they stand, and whether its numbers are such as are written.
use Rattle.std.specs.Prelude.{ℕ, ◌<◌, ◌^◌, List, Option, None, Some}
use Rattle.taps_log.specs.declared.line.Cause.{Cause}
use Rattle.taps_log.specs.declared.line.How.{How}
use Rattle.taps_log.specs.declared.line.How.TheVariants as ends
use Rattle.taps_log.specs.declared.line.Start.{Start}
use Rattle.taps_log.specs.declared.line.Start.TheVariants as starts
use Rattle.taps_log.specs.declared.line.Ending.{Ending}
use Rattle.taps_log.specs.declared.line.Line.{Line}
use Rattle.taps_log.specs.declared.line.Line.TheVariants as lines

-- the plan, an item, an answer, a message or an outcome
pub data Entry : Type 0 where
  say_leaves : (count : ℕ) → Entry
  say_leaf : (leaf : ℕ) → (place : List ℕ) → (gap : Option ℕ) → Entry
  say_began : (at : ℕ) → Entry
  say_started : (leaf : ℕ) → (start : Start) → (at : ℕ) → Entry
  say_waited : (until : ℕ) → (how : How) → (at : ℕ) → Entry
  say_closed : (socket : ℕ) → Entry
  say_listening : (socket : ℕ) → (address : List ℕ) → (at : ℕ) → Entry
  say_not_listening : (cause : Cause) → (at : ℕ) → Entry
  say_accepted : (socket : ℕ) → (listener : ℕ) → (at : ℕ) → Entry
  say_faulted : (at : ℕ) → Entry
  say_shut : (socket : ℕ) → Entry
  say_ended : (socket : ℕ) → Entry
  say_failed : (socket : ℕ) → (cause : Cause) → Entry
  say_ready : (leaf : ℕ) → Entry
  say_sent : (member : ℕ) → (count : ℕ) → Entry
  say_received : (member : ℕ) → (number : ℕ) → (hex : List ℕ) → Entry
  say_part : (member : ℕ) → (number : ℕ) → (hex : List ℕ) → Entry
  say_data_failed : (cause : Cause) → Entry
  say_bad_frame : (message : ℕ) → (layer : ℕ) → (place : ℕ) → Entry
  say_not_speakable : (member : ℕ) → (number : ℕ) → (layer : ℕ) → Entry
  say_expired : (member : ℕ) → (number : ℕ) → Entry
  say_clone_limit : (limit : ℕ) → Entry
  say_ends : (ending : Ending) → Entry

-- what a line says, without where its texts stand
abbrev pub entry_of : Line → Entry
entry_of (lines.Leaves count) = say_leaves count
entry_of (lines.Leaf leaf place gap) = say_leaf leaf place.now gap
entry_of (lines.Began at) = say_began at
entry_of (lines.Started leaf start at) = say_started leaf start at
entry_of (lines.Waited until how at) = say_waited until how at
entry_of (lines.Closed socket) = say_closed socket
entry_of (lines.Listening socket address at) = say_listening socket address.now at
entry_of (lines.NotListening cause at) = say_not_listening cause at
entry_of (lines.Accepted socket listener at) = say_accepted socket listener at
entry_of (lines.Faulted at) = say_faulted at
entry_of (lines.Shut socket) = say_shut socket
entry_of (lines.Ended socket) = say_ended socket
entry_of (lines.Failed socket cause) = say_failed socket cause
entry_of (lines.Ready leaf) = say_ready leaf
entry_of (lines.Sent member count) = say_sent member count
entry_of (lines.Received member number hex) = say_received member number hex.now
entry_of (lines.Part member number hex) = say_part member number hex.now
entry_of (lines.DataFailed cause) = say_data_failed cause
entry_of (lines.BadFrame message layer place) = say_bad_frame message layer place
entry_of (lines.NotSpeakable member number layer) = say_not_speakable member number layer
entry_of (lines.Expired member number) = say_expired member number
entry_of (lines.CloneLimit limit) = say_clone_limit limit
entry_of (lines.Ends ending) = say_ends ending

-- a number of 64 bits
abbrev pub IsWord : ℕ → Type 0
IsWord n = n < 2 ^ 64

-- the numbers of a start, of how a wait ended and of a gap are of 64 bits
abbrev pub IsStart : Start → Type 0
IsStart (starts.Socket socket) = IsWord socket
IsStart (starts.Refused cause) = Unit {0}

abbrev pub IsHow : How → Type 0
IsHow ends.Reached = Unit {0}
IsHow (ends.Completed socket) = IsWord socket
IsHow (ends.Broke socket cause) = IsWord socket
IsHow ends.Faulted = Unit {0}

abbrev pub IsGap : Option ℕ → Type 0
IsGap None = Unit {0}
IsGap (Some gap) = IsWord gap

-- all numbers that a line says are of 64 bits
abbrev pub IsWritten : Entry → Type 0
IsWritten (say_leaves count) = IsWord count
IsWritten (say_leaf leaf place gap) = (IsWord leaf) × (IsGap gap)
IsWritten (say_began at) = IsWord at
IsWritten (say_started leaf start at) = (IsWord leaf) × (IsStart start) × (IsWord at)
IsWritten (say_waited until how at) = (IsWord until) × (IsHow how) × (IsWord at)
IsWritten (say_closed socket) = IsWord socket
IsWritten (say_listening socket address at) = (IsWord socket) × (IsWord at)
IsWritten (say_not_listening cause at) = IsWord at
IsWritten (say_accepted socket listener at) = (IsWord socket) × (IsWord listener) × (IsWord at)
IsWritten (say_faulted at) = IsWord at
IsWritten (say_shut socket) = IsWord socket
IsWritten (say_ended socket) = IsWord socket
IsWritten (say_failed socket cause) = IsWord socket
IsWritten (say_ready leaf) = IsWord leaf
IsWritten (say_sent member count) = (IsWord member) × (IsWord count)
IsWritten (say_received member number hex) = (IsWord member) × (IsWord number)
IsWritten (say_part member number hex) = (IsWord member) × (IsWord number)
IsWritten (say_data_failed cause) = Unit {0}
IsWritten (say_bad_frame message layer place) = (IsWord message) × (IsWord layer) × (IsWord place)
IsWritten (say_not_speakable member number layer) = (IsWord member) × (IsWord number) × (IsWord layer)
IsWritten (say_expired member number) = (IsWord member) × (IsWord number)
IsWritten (say_clone_limit limit) = IsWord limit
IsWritten (say_ends ending) = Unit {0}
