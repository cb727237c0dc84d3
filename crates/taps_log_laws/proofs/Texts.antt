-- A plan and a log are the lines of their entries.
use Rattle.std.proofs.Common.{◌≡◌, ℕ, codes, ◌+◌, Bool, true, false, List, [], ◌∷◌, ◌++◌, map, length, refl, sym, ◌∙◌, append-nil, Option, Some, None}
use Rattle.std.specs.Fmt.{decimal}
use Rattle.std.proofs.lemmas.Grind.{flat_map-append}
use Rattle.taps_base.specs.declared.gap.Gap.{Gap}
use Rattle.taps_candidate.specs.PlanText.{leaf_line, leaf_lines, plan_text}
use Rattle.taps_candidate.specs.declared.plan.Leaf.{Leaf}
use Rattle.taps_log.specs.Entries.{Entry, say_leaves, say_received, say_sent}
use Rattle.taps_message.specs.Parts.{PartState, parts_of}
use Rattle.taps_socket.specs.declared.item.Item.{Item}
use Rattle.taps_socket.specs.declared.race_answer.RaceAnswer.{RaceAnswer}
use Rattle.taps_socket.specs.declared.race_answer.RaceAnswer.TheVariants as answers
use Rattle.taps_text.specs.AnswerLines.{answer_line}
use Rattle.taps_text.specs.BodyLines.{hex_text, sent_line, received_line}
use Rattle.taps_text.specs.ItemLines.{item_lines}
use Rattle.taps_text.specs.Log.{answer_lines, after_lines, end_lines, log_lines}
use Rattle.taps_text.specs.MemberLines.{MemberLog, line_of_part, part_lines, message_lines, messages_lines, member_lines, members_lines}
use Rattle.taps_text.specs.OutcomeLines.{outcome_line}
use Rattle.taps_text.specs.declared.outcome.Outcome.{Outcome}
use Rattle.taps_log_laws.specs.EntriesOf.{entry_of_item, entry_of_answer, entry_of_part, entry_of_leaf, entries_of_leaves, entries_of_message, entries_of_messages, entries_of_member, entries_of_members, entry_of_outcome, entries_of_answer, entries_to_end, entries_after}
use Rattle.taps_log_laws.specs.Laws.{entry_line, entry_lines, PlansSay, LogsSay}
use Rattle.taps_log_laws.proofs.LineTexts.{item_is, answer_is, outcome_is, sent_is, received_is, part_is, count_is, leaf_is}

-- the lines of two lists of entries
pub lines_of_both : (first rest : List Entry) → entry_lines (first ++ rest) ≡ entry_lines first ++ entry_lines rest
lines_of_both first rest = flat_map-append entry_line first rest

-- one line, and those behind it
line_before : (line lines : List ℕ) (entry : Entry) (entries : List Entry)
    → line ≡ entry_line entry → lines ≡ entry_lines entries → line ++ lines ≡ entry_lines (entry ∷ entries)
line_before line lines entry entries one rest = cc

-- lines, and those behind them
lines_before : (some others : List ℕ) (first rest : List Entry)
    → some ≡ entry_lines first → others ≡ entry_lines rest → some ++ others ≡ entry_lines (first ++ rest)
lines_before some others first rest one two = (let both = lines_of_both first rest in cc)

one_line : (line : List ℕ) (entry : Entry) → line ≡ entry_line entry → line ≡ entry_lines (entry ∷ [])
one_line line entry is = is ∙ sym (append-nil (entry_line entry))

-- the leaves of a plan
leaves_are : (interface : ℕ → List ℕ) (number : ℕ) (leaves : List Leaf) (gaps : List Gap)
    → leaf_lines interface number leaves gaps ≡ entry_lines (entries_of_leaves interface number leaves gaps)
unfolding leaf_lines
leaves_are interface number [] gaps = refl
leaves_are interface number (leaf ∷ leaves) [] = refl
leaves_are interface number (leaf ∷ leaves) (gap ∷ gaps) =
    line_before (leaf_line interface number leaf gap) (leaf_lines interface (number + 1) leaves gaps)
    (entry_of_leaf interface number leaf gap) (entries_of_leaves interface (number + 1) leaves gaps)
    (leaf_is interface number leaf gap) (leaves_are interface (number + 1) leaves gaps)

pub plans_say : PlansSay
unfolding plan_text
plans_say interface leaves gaps =
    line_before (codes "leaves " ++ (decimal (length leaves) ++ codes "\n")) (leaf_lines interface 0 leaves gaps)
    (say_leaves (length leaves)) (entries_of_leaves interface 0 leaves gaps)
    (count_is (length leaves)) (leaves_are interface 0 leaves gaps)

-- items
items_are : (items : List Item) → item_lines items ≡ entry_lines (map entry_of_item items)
items_are [] = refl
items_are (item ∷ items) = line_before _ _ _ _ (item_is item) (items_are items)

-- what the members sent and heard
part_line_is : (member number : ℕ) (last : Bool) (bytes : List ℕ)
    → line_of_part member number last bytes ≡ entry_line (entry_of_part member number last bytes)
part_line_is member number true bytes = received_is member number bytes
part_line_is member number false bytes = part_is member number bytes

parts_are : (member number : ℕ) (parts : List PartState)
    → part_lines member number parts
    ≡ entry_lines (map (λ part. entry_of_part member number part.last part.bytes) parts)
parts_are member number [] = refl
parts_are member number (part ∷ parts) =
    line_before _ _ _ _ (part_line_is member number part.last part.bytes) (parts_are member number parts)

message_is : (part : Option ℕ) (member number : ℕ) (body : List ℕ)
    → message_lines part member number body ≡ entry_lines (entries_of_message part member number body)
message_is None member number body = one_line (received_line member number body)
    (say_received member number (hex_text body)) (received_is member number body)
message_is (Some most) member number body = parts_are member number (parts_of most body)

messages_are : (part : Option ℕ) (member number : ℕ) (bodies : List (List ℕ))
    → messages_lines part member number bodies ≡ entry_lines (entries_of_messages part member number bodies)
messages_are part member number [] = refl
messages_are part member number (body ∷ bodies) =
    lines_before _ _ _ _ (message_is part member number body) (messages_are part member (number + 1) bodies)

member_is : (part : Option ℕ) (place : ℕ) (member : MemberLog)
    → member_lines part place member ≡ entry_lines (entries_of_member part place member)
member_is part place member =
    line_before (sent_line place member.sent) (messages_lines part place 0 member.heard) (say_sent place member.sent)
    (entries_of_messages part place 0 member.heard) (sent_is place member.sent) (messages_are part place 0 member.heard)

members_are : (part : Option ℕ) (place : ℕ) (members : List MemberLog)
    → members_lines part place members ≡ entry_lines (entries_of_members part place members)
members_are part place [] = refl
members_are part place (member ∷ members) =
    lines_before (member_lines part place member) (members_lines part (place + 1) members)
    (entries_of_member part place member) (entries_of_members part (place + 1) members)
    (member_is part place member) (members_are part (place + 1) members)

-- the answer, and what follows it
answer_is_line : (answer : Option RaceAnswer) → answer_lines answer ≡ entry_lines (entries_of_answer answer)
answer_is_line None = refl
answer_is_line (Some answer) = one_line (answer_line answer) (entry_of_answer answer) (answer_is answer)

ends_are : (answer : Option RaceAnswer) (lines : List ℕ) (entries : List Entry) → lines ≡ entry_lines entries
    → end_lines answer lines ≡ entry_lines (entries_to_end answer entries)
ends_are None lines entries is = is
ends_are (Some (answers.Ready leaf socket at)) lines entries is = is
ends_are (Some answers.NoCandidate) lines entries is = refl
ends_are (Some answers.AllFailed) lines entries is = refl
ends_are (Some answers.Timeout) lines entries is = refl
ends_are (Some answers.Closed) lines entries is = refl
ends_are (Some answers.SocketFault) lines entries is = refl

afters_are : (after : List Item) (part : Option ℕ) (members : List MemberLog) (outcome : Outcome)
    → after_lines after part members outcome ≡ entry_lines (entries_after after part members outcome)
afters_are after part members outcome =
    lines_before _ _ _ _ (items_are after)
    (lines_before (members_lines part 0 members) (outcome_line outcome) (entries_of_members part 0 members)
    (entry_of_outcome outcome ∷ []) (members_are part 0 members)
    (one_line (outcome_line outcome) (entry_of_outcome outcome) (outcome_is outcome)))

pub logs_say : LogsSay
unfolding log_lines
logs_say before answer after part members outcome = lines_before _ _ _ _ (items_are before)
    (lines_before _ _ _ _ (answer_is_line answer) (ends_are answer _ _ (afters_are after part members outcome)))
