-- The lines of entries are read one by one, and so are a plan and the log behind it.
use Rattle.std.proofs.Common.{◌≡◌, ℕ, ◌+◌, Bool, true, false, not, List, [], ◌∷◌, ◌++◌, codes, map, refl, ap, ◌∙◌, append_assoc, append-nil, Option, Some, None, arith}
use Rattle.std.specs.Prelude.{◌==◌}
use Rattle.std.specs.List.{All}
use Rattle.std.proofs.lemmas.List.Elements.{All-append, All-cons, All-head, All-tail}
use Rattle.taps_candidate.specs.PlanText.{plan_text}
use Rattle.taps_log.specs.Entries.{Entry, IsWritten}
use Rattle.taps_log.specs.LogLines.{entry_text}
use Rattle.taps_log.proofs.Numbers.{both}
use Rattle.taps_log.proofs.Readings.{back}
use Rattle.taps_message.specs.Parts.{PartState, parts_of}
use Rattle.taps_socket.specs.declared.item.Item.{Item}
use Rattle.taps_socket.specs.declared.race_answer.RaceAnswer.{RaceAnswer}
use Rattle.taps_socket.specs.declared.race_answer.RaceAnswer.TheVariants as answers
use Rattle.taps_text.specs.Log.{log_lines}
use Rattle.taps_text.specs.MemberLines.{MemberLog}
use Rattle.taps_text.specs.declared.outcome.Outcome.{Outcome}
use Rattle.taps_text.specs.declared.outcome.Outcome.TheVariants as outcomes
use Rattle.taps_log_laws.specs.EntriesOf.{entry_of_item, entry_of_answer, entry_of_outcome, entry_of_part, entries_of_plan, entries_of_message, entries_of_messages, entries_of_member, entries_of_members, entries_of_answer, entries_to_end, entries_after, entries_of_log}
use Rattle.taps_log_laws.specs.Laws.{entry_lines}
use Rattle.taps_log_laws.specs.WholeTexts.{is_one_line, IsOneLine, entry_before, entries_behind, SessionsAreRead}
use Rattle.taps_log_laws.proofs.OneLine.{hex, entry_in_line}
use Rattle.taps_log_laws.proofs.Texts.{lines_of_both, plans_say, logs_say}

-- a line to its end
not_true : (q : Bool) → not q ≡ true → q ≡ false
not_true false h = refl
not_true true h = cc

line_taken : (line front text : List ℕ) → is_one_line line ≡ true
    → entries_behind front (line ++ (codes "\n" ++ text)) ≡ entry_before (front ++ line) (entries_behind [] text)
unfolding entries_behind
line_taken [] front text h = rw (append-nil front) refl
line_taken (b ∷ line) front text h =
    let p = both (not (b == 10)) (is_one_line line) h in
    let other : (b == 10) ≡ false = not_true (b == 10) p.0 in
    rw other (line_taken line (front ++ b ∷ []) text p.1
    ∙ ap (λ (l : List ℕ). entry_before l (entries_behind [] text)) (append_assoc front (b ∷ []) line))

entry_read : (entry : Entry) (text : List ℕ) (entries : List Entry) → IsWritten entry
    → entries_behind [] text ≡ Some entries
    → entry_before (entry_text entry) (entries_behind [] text) ≡ Some (entry ∷ entries)
entry_read entry text entries h e = rw (back entry h, e) refl

-- all lines
entries_read : (entries : List Entry) → All IsWritten entries → All IsOneLine entries
    → entries_behind [] (entry_lines entries) ≡ Some entries
unfolding entries_behind
entries_read [] w o = refl
entries_read (entry ∷ entries) w o =
    let written : IsWritten entry = All-head IsWritten entry entries w in
    let within : is_one_line (entry_text entry) ≡ true =
    entry_in_line entry written (All-head IsOneLine entry entries o) in
    ap (entries_behind []) (append_assoc (entry_text entry) (codes "\n") (entry_lines entries))
    ∙ line_taken (entry_text entry) [] (entry_lines entries) within
    ∙ entry_read entry (entry_lines entries) entries written
    (entries_read entries (All-tail IsWritten entry entries w) (All-tail IsOneLine entry entries o))

-- no text of a log but the addresses could hold the end of a line
all_none : All IsOneLine []
all_none k d lt = absurd (omega arith)

items_in_line : (items : List Item) → All (λ item. IsOneLine (entry_of_item item)) items
    → All IsOneLine (map entry_of_item items)
items_in_line [] h = all_none
items_in_line (item ∷ items) h = All-cons IsOneLine (entry_of_item item) (map entry_of_item items)
    (All-head (λ i. IsOneLine (entry_of_item i)) item items h)
    (items_in_line items (All-tail (λ i. IsOneLine (entry_of_item i)) item items h))

part_in_line : (member number : ℕ) (last : Bool) (bytes : List ℕ) → IsOneLine (entry_of_part member number last bytes)
part_in_line member number true bytes = hex bytes
part_in_line member number false bytes = hex bytes

parts_in_line : (member number : ℕ) (parts : List PartState)
    → All IsOneLine (map (λ part. entry_of_part member number part.last part.bytes) parts)
parts_in_line member number [] = all_none
parts_in_line member number (part ∷ parts) = All-cons IsOneLine _ _
    (part_in_line member number part.last part.bytes) (parts_in_line member number parts)

message_in_line : (part : Option ℕ) (member number : ℕ) (body : List ℕ)
    → All IsOneLine (entries_of_message part member number body)
message_in_line None member number body = All-cons IsOneLine _ [] (hex body) all_none
message_in_line (Some most) member number body = parts_in_line member number (parts_of most body)

messages_in_line : (part : Option ℕ) (member number : ℕ) (bodies : List (List ℕ))
    → All IsOneLine (entries_of_messages part member number bodies)
messages_in_line part member number [] = all_none
messages_in_line part member number (body ∷ bodies) = All-append IsOneLine _ _
    (message_in_line part member number body) (messages_in_line part member (number + 1) bodies)

member_in_line : (part : Option ℕ) (place : ℕ) (member : MemberLog)
    → All IsOneLine (entries_of_member part place member)
member_in_line part place member = All-cons IsOneLine _ _ tt (messages_in_line part place 0 member.heard)

members_in_line : (part : Option ℕ) (place : ℕ) (members : List MemberLog)
    → All IsOneLine (entries_of_members part place members)
members_in_line part place [] = all_none
members_in_line part place (member ∷ members) =
    All-append IsOneLine (entries_of_member part place member) (entries_of_members part (place + 1) members)
    (member_in_line part place member) (members_in_line part (place + 1) members)

answer_in_line : (answer : RaceAnswer) → IsOneLine (entry_of_answer answer)
answer_in_line (answers.Ready leaf socket at) = tt
answer_in_line answers.NoCandidate = tt
answer_in_line answers.AllFailed = tt
answer_in_line answers.Timeout = tt
answer_in_line answers.Closed = tt
answer_in_line answers.SocketFault = tt

outcome_in_line : (outcome : Outcome) → IsOneLine (entry_of_outcome outcome)
outcome_in_line outcomes.Done = tt
outcome_in_line outcomes.Timed = tt
outcome_in_line (outcomes.DataFailed cause) = tt
outcome_in_line outcomes.PeerEnded = tt
outcome_in_line (outcomes.BadFrame message layer place) = tt
outcome_in_line (outcomes.NotSpeakable member number layer) = tt
outcome_in_line (outcomes.Expired member number) = tt
outcome_in_line (outcomes.CloneLimit limit) = tt
outcome_in_line outcomes.CloneAllFailed = tt
outcome_in_line outcomes.CloneTimeout = tt
outcome_in_line outcomes.SocketFault = tt

answers_in_line : (answer : Option RaceAnswer) → All IsOneLine (entries_of_answer answer)
answers_in_line None = all_none
answers_in_line (Some answer) = All-cons IsOneLine _ [] (answer_in_line answer) all_none

ends_in_line : (answer : Option RaceAnswer) (entries : List Entry) → All IsOneLine entries
    → All IsOneLine (entries_to_end answer entries)
ends_in_line None entries o = o
ends_in_line (Some (answers.Ready leaf socket at)) entries o = o
ends_in_line (Some answers.NoCandidate) entries o = all_none
ends_in_line (Some answers.AllFailed) entries o = all_none
ends_in_line (Some answers.Timeout) entries o = all_none
ends_in_line (Some answers.Closed) entries o = all_none
ends_in_line (Some answers.SocketFault) entries o = all_none

log_in_line : (before : List Item) (answer : Option RaceAnswer) (after : List Item)
    → (part : Option ℕ) (members : List MemberLog) (outcome : Outcome)
    → All (λ item. IsOneLine (entry_of_item item)) before → All (λ item. IsOneLine (entry_of_item item)) after
    → All IsOneLine (entries_of_log before answer after part members outcome)
log_in_line before answer after part members outcome first second =
    All-append IsOneLine _ _ (items_in_line before first) (All-append IsOneLine _ _ (answers_in_line answer)
    (ends_in_line answer (entries_after after part members outcome)
    (All-append IsOneLine _ _ (items_in_line after second)
    (All-append IsOneLine (entries_of_members part 0 members) _ (members_in_line part 0 members)
    (All-cons IsOneLine (entry_of_outcome outcome) [] (outcome_in_line outcome) all_none)))))

pub sessions_are_read : SessionsAreRead
sessions_are_read interface leaves gaps before answer after part members outcome planned first second written =
    let plan : List Entry = entries_of_plan interface leaves gaps in
    let log : List Entry = entries_of_log before answer after part members outcome in
    let text : plan_text interface leaves gaps ++ log_lines before answer after part members outcome
    ≡ entry_lines (plan ++ log) =
    (let one = plans_say interface leaves gaps in
    let two = logs_say before answer after part members outcome in
    let three = lines_of_both plan log in cc) in
    ap (entries_behind []) text ∙ entries_read (plan ++ log) written
    (All-append IsOneLine plan log planned (log_in_line before answer after part members outcome first second))
