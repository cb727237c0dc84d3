-- The entry that each printed line of a plan and of a log says (local).
use Rattle.std.specs.Prelude.{ℕ, ◌+◌, Bool, true, false, List, [], ◌∷◌, ◌++◌, length, map, codes, Option, Some, None}
use Rattle.taps_base.specs.declared.gap.Gap.{Gap}
use Rattle.taps_base.specs.declared.gap.Gap.TheVariants as gaps
use Rattle.taps_candidate.specs.PlanText.{stack_word}
use Rattle.taps_candidate.specs.declared.plan.Leaf.{Leaf}
use Rattle.taps_endpoint.specs.CanonicalTexts.{canonical_text}
use Rattle.taps_log.specs.Entries.{Entry, say_leaves, say_leaf, say_began, say_started, say_waited, say_closed, say_listening, say_not_listening, say_accepted, say_faulted, say_shut, say_ended, say_failed, say_ready, say_sent, say_received, say_part, say_data_failed, say_bad_frame, say_not_speakable, say_expired, say_clone_limit, say_ends}
use Rattle.taps_log.specs.declared.line.Cause.{Cause as ReadCause}
use Rattle.taps_log.specs.declared.line.Cause.TheVariants as read_causes
use Rattle.taps_log.specs.declared.line.How.{How as ReadHow}
use Rattle.taps_log.specs.declared.line.How.TheVariants as read_ends
use Rattle.taps_log.specs.declared.line.Start.TheVariants as read_starts
use Rattle.taps_log.specs.declared.line.Ending.TheVariants as endings
use Rattle.taps_message.specs.Parts.{parts_of}
use Rattle.taps_socket.specs.declared.cause.Cause.{Cause}
use Rattle.taps_socket.specs.declared.cause.Cause.TheVariants as causes
use Rattle.taps_socket.specs.declared.item.How.{How}
use Rattle.taps_socket.specs.declared.item.How.TheVariants as ends
use Rattle.taps_socket.specs.declared.item.Item.{Item}
use Rattle.taps_socket.specs.declared.item.Item.TheVariants as items
use Rattle.taps_socket.specs.declared.race_answer.RaceAnswer.{RaceAnswer}
use Rattle.taps_socket.specs.declared.race_answer.RaceAnswer.TheVariants as answers
use Rattle.taps_text.specs.BodyLines.{hex_text}
use Rattle.taps_text.specs.MemberLines.{MemberLog}
use Rattle.taps_text.specs.declared.outcome.Outcome.{Outcome}
use Rattle.taps_text.specs.declared.outcome.Outcome.TheVariants as outcomes

-- the cause that a line says
abbrev pub cause_of : Cause → ReadCause
cause_of causes.Refused = read_causes.Refused
cause_of causes.Unreachable = read_causes.Unreachable
cause_of causes.Reset = read_causes.Reset
cause_of causes.Memory = read_causes.Memory
cause_of causes.Other = read_causes.Other

-- how a wait ended, as a line says it
abbrev pub how_of : How → ReadHow
how_of ends.Reached = read_ends.Reached
how_of (ends.Completed socket) = read_ends.Completed socket
how_of (ends.Broke socket cause) = read_ends.Broke socket (cause_of cause)
how_of ends.Faulted = read_ends.Faulted

-- the entry of an item
abbrev pub entry_of_item : Item → Entry
entry_of_item (items.Began at) = say_began at
entry_of_item (items.Started leaf target socket at) = say_started leaf (read_starts.Socket socket) at
entry_of_item (items.Refused leaf target cause at) = say_started leaf (read_starts.Refused (cause_of cause)) at
entry_of_item (items.Waited until at how) = say_waited until (how_of how) at
entry_of_item (items.Closed socket) = say_closed socket
entry_of_item (items.Listening target socket at) = say_listening socket (canonical_text target.address) at
entry_of_item (items.NotListening target cause at) = say_not_listening (cause_of cause) at
entry_of_item (items.Accepted listener socket at) = say_accepted socket listener at
entry_of_item (items.Faulted at) = say_faulted at
entry_of_item (items.Shut socket) = say_shut socket
entry_of_item (items.Ended socket) = say_ended socket
entry_of_item (items.DataFailed socket sending cause) = say_failed socket (cause_of cause)

-- the entry of a race's answer
abbrev pub entry_of_answer : RaceAnswer → Entry
entry_of_answer (answers.Ready leaf socket at) = say_ready leaf
entry_of_answer answers.NoCandidate = say_ends endings.NoCandidate
entry_of_answer answers.AllFailed = say_ends endings.AllFailed
entry_of_answer answers.Timeout = say_ends endings.Timeout
entry_of_answer answers.Closed = say_ends endings.Closed
entry_of_answer answers.SocketFault = say_ends endings.SocketFault

-- the entry of an outcome
abbrev pub entry_of_outcome : Outcome → Entry
entry_of_outcome outcomes.Done = say_ends endings.Done
entry_of_outcome outcomes.Timed = say_ends endings.Timed
entry_of_outcome (outcomes.DataFailed cause) = say_data_failed (cause_of cause)
entry_of_outcome outcomes.PeerEnded = say_ends endings.PeerEnded
entry_of_outcome (outcomes.BadFrame message layer place) = say_bad_frame message layer place
entry_of_outcome (outcomes.NotSpeakable member number layer) = say_not_speakable member number layer
entry_of_outcome (outcomes.Expired member number) = say_expired member number
entry_of_outcome (outcomes.CloneLimit limit) = say_clone_limit limit
entry_of_outcome outcomes.CloneAllFailed = say_ends endings.CloneAllFailed
entry_of_outcome outcomes.CloneTimeout = say_ends endings.CloneTimeout
entry_of_outcome outcomes.SocketFault = say_ends endings.SocketFault

-- the gap of a leaf, if it has one
abbrev pub gap_of : Gap → Option ℕ
gap_of (gaps.After delay) = Some delay
gap_of gaps.Never = None

-- a leaf's path, stack and address, as one text
abbrev pub place_of : (ℕ → List ℕ) → Leaf → List ℕ
place_of interface leaf = interface leaf.path
    ++ (codes " " ++ (stack_word leaf.target.stack ++ (codes " " ++ canonical_text leaf.target.address)))

-- the entry of a leaf of a plan
abbrev pub entry_of_leaf : (ℕ → List ℕ) → ℕ → Leaf → Gap → Entry
entry_of_leaf interface number leaf gap = say_leaf number (place_of interface leaf) (gap_of gap)

-- the entries of the leaves from a number on
abbrev pub entries_of_leaves : (ℕ → List ℕ) → ℕ → List Leaf → List Gap → List Entry
entries_of_leaves interface number [] gaps = []
entries_of_leaves interface number (leaf ∷ leaves) [] = []
entries_of_leaves interface number (leaf ∷ leaves) (gap ∷ gaps) =
    entry_of_leaf interface number leaf gap ∷ entries_of_leaves interface (number + 1) leaves gaps

-- the entries of a plan
abbrev pub entries_of_plan : (ℕ → List ℕ) → List Leaf → List Gap → List Entry
entries_of_plan interface leaves gaps = say_leaves (length leaves) ∷ entries_of_leaves interface 0 leaves gaps

-- the entry of a part of a message that a member heard: of the last one it is that of a whole message
abbrev pub entry_of_part : ℕ → ℕ → Bool → List ℕ → Entry
entry_of_part member number true bytes = say_received member number (hex_text bytes)
entry_of_part member number false bytes = say_part member number (hex_text bytes)

-- the entries of a message that a member heard: whole, or in parts of at most so many bytes
abbrev pub entries_of_message : Option ℕ → ℕ → ℕ → List ℕ → List Entry
entries_of_message None member number body = say_received member number (hex_text body) ∷ []
entries_of_message (Some most) member number body =
    map (λ part. entry_of_part member number part.last part.bytes) (parts_of most body)

-- the entries of the messages that a member heard, numbered from a number on
abbrev pub entries_of_messages : Option ℕ → ℕ → ℕ → List (List ℕ) → List Entry
entries_of_messages part member number [] = []
entries_of_messages part member number (body ∷ bodies) =
    entries_of_message part member number body ++ entries_of_messages part member (number + 1) bodies

-- the entries of a member
abbrev pub entries_of_member : Option ℕ → ℕ → MemberLog → List Entry
entries_of_member part place member = say_sent place member.sent ∷ entries_of_messages part place 0 member.heard

-- the entries of the members, by place from one on
abbrev pub entries_of_members : Option ℕ → ℕ → List MemberLog → List Entry
entries_of_members part place [] = []
entries_of_members part place (member ∷ members) =
    entries_of_member part place member ++ entries_of_members part (place + 1) members

-- the entry of the answer, where a session has a line of one
abbrev pub entries_of_answer : Option RaceAnswer → List Entry
entries_of_answer None = []
entries_of_answer (Some answer) = entry_of_answer answer ∷ []

-- any answer but a ready one ends the log
abbrev pub entries_to_end : Option RaceAnswer → List Entry → List Entry
entries_to_end None entries = entries
entries_to_end (Some (answers.Ready leaf socket at)) entries = entries
entries_to_end (Some _) entries = []

-- the entries of what follows the answer
abbrev pub entries_after : List Item → Option ℕ → List MemberLog → Outcome → List Entry
entries_after after part members outcome =
    map entry_of_item after ++ (entries_of_members part 0 members ++ entry_of_outcome outcome ∷ [])

-- the entries of the log of a session, which follow those of its plan
abbrev pub entries_of_log : List Item → Option RaceAnswer → List Item → Option ℕ → List MemberLog → Outcome → List Entry
entries_of_log before answer after part members outcome = map entry_of_item before
    ++ (entries_of_answer answer ++ entries_to_end answer (entries_after after part members outcome))
