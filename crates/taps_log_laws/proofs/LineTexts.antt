-- Each printed line is the line of its entry.
use Rattle.std.proofs.Common.{◌≡◌, ℕ, List, [], ◌++◌, codes, refl, ap, ◌∙◌, append_assoc}
use Rattle.std.specs.Fmt.{decimal}
use Rattle.taps_base.specs.declared.gap.Gap.{Gap}
use Rattle.taps_base.specs.declared.gap.Gap.TheVariants as gaps
use Rattle.taps_candidate.specs.PlanText.{leaf_line}
use Rattle.taps_candidate.specs.declared.plan.Leaf.{Leaf}
use Rattle.taps_log.specs.Entries.{Entry, say_leaves, say_sent, say_received, say_part}
use Rattle.taps_log.specs.LogLines.{cause_word as read_word, how_text as read_how_text}
use Rattle.taps_log.proofs.Readings.{back}
use Rattle.taps_socket.specs.CauseWords.{cause_word}
use Rattle.taps_socket.specs.declared.cause.Cause.{Cause}
use Rattle.taps_socket.specs.declared.cause.Cause.TheVariants as causes
use Rattle.taps_socket.specs.declared.item.How.{How}
use Rattle.taps_socket.specs.declared.item.How.TheVariants as ends
use Rattle.taps_socket.specs.declared.item.Item.{Item}
use Rattle.taps_socket.specs.declared.item.Item.TheVariants as items
use Rattle.taps_socket.specs.declared.race_answer.RaceAnswer.{RaceAnswer}
use Rattle.taps_socket.specs.declared.race_answer.RaceAnswer.TheVariants as answers
use Rattle.taps_text.specs.AnswerLines.{answer_line}
use Rattle.taps_text.specs.BodyLines.{hex_text, sent_line, received_line, part_line}
use Rattle.taps_text.specs.ItemLines.{item_line, how_text}
use Rattle.taps_text.specs.OutcomeLines.{outcome_line}
use Rattle.taps_text.specs.declared.outcome.Outcome.{Outcome}
use Rattle.taps_text.specs.declared.outcome.Outcome.TheVariants as outcomes
use Rattle.taps_log_laws.specs.EntriesOf.{cause_of, how_of, entry_of_item, entry_of_answer, entry_of_outcome, entry_of_leaf}
use Rattle.taps_log_laws.specs.Laws.{entry_line, Says, ItemsSay, AnswersSay, OutcomesSay, CountsSay, MessagesSay, PartsSay, LeafCountsSay, LeavesSay}

-- both name a cause by the same word
word_is : (cause : Cause) → cause_word cause ≡ read_word (cause_of cause)
word_is causes.Refused = refl
word_is causes.Unreachable = refl
word_is causes.Reset = refl
word_is causes.Memory = refl
word_is causes.Other = refl

-- how a wait ended, to the end of the line
how_is : (how : How) (at : ℕ) → how_text how at ≡ read_how_text (how_of how) (decimal at) ++ codes "\n"
how_is ends.Reached at = refl
how_is (ends.Completed socket) at = simp append_assoc
how_is (ends.Broke socket cause) at = simp (word_is, append_assoc)
how_is ends.Faulted at = refl

pub item_is : (item : Item) → item_line item ≡ entry_line (entry_of_item item)
unfolding item_line
item_is (items.Began at) = refl
item_is (items.Started leaf target socket at) = simp append_assoc
item_is (items.Refused leaf target cause at) = simp (word_is, append_assoc)
item_is (items.Waited until at how) = simp (how_is, append_assoc)
item_is (items.Closed socket) = refl
item_is (items.Listening target socket at) = simp append_assoc
item_is (items.NotListening target cause at) = simp (word_is, append_assoc)
item_is (items.Accepted listener socket at) = simp append_assoc
item_is (items.Faulted at) = refl
item_is (items.Shut socket) = refl
item_is (items.Ended socket) = refl
item_is (items.DataFailed socket sending cause) = simp (word_is, append_assoc)

pub answer_is : (answer : RaceAnswer) → answer_line answer ≡ entry_line (entry_of_answer answer)
unfolding answer_line
answer_is (answers.Ready leaf socket at) = refl
answer_is answers.NoCandidate = refl
answer_is answers.AllFailed = refl
answer_is answers.Timeout = refl
answer_is answers.Closed = refl
answer_is answers.SocketFault = refl

pub outcome_is : (outcome : Outcome) → outcome_line outcome ≡ entry_line (entry_of_outcome outcome)
unfolding outcome_line
outcome_is outcomes.Done = refl
outcome_is outcomes.Timed = refl
outcome_is (outcomes.DataFailed cause) = simp word_is
outcome_is outcomes.PeerEnded = refl
outcome_is (outcomes.BadFrame message layer place) = simp append_assoc
outcome_is (outcomes.NotSpeakable member number layer) = simp append_assoc
outcome_is (outcomes.Expired member number) = simp append_assoc
outcome_is (outcomes.CloneLimit limit) = refl
outcome_is outcomes.CloneAllFailed = refl
outcome_is outcomes.CloneTimeout = refl
outcome_is outcomes.SocketFault = refl

pub sent_is : (member count : ℕ) → sent_line member count ≡ entry_line (say_sent member count)
unfolding sent_line
sent_is member count = simp append_assoc

pub received_is : (member number : ℕ) (body : List ℕ)
    → received_line member number body ≡ entry_line (say_received member number (hex_text body))
unfolding received_line
received_is member number body = simp append_assoc

pub part_is : (member number : ℕ) (body : List ℕ)
    → part_line member number body ≡ entry_line (say_part member number (hex_text body))
unfolding part_line
part_is member number body = simp append_assoc

pub count_is : (count : ℕ) → codes "leaves " ++ (decimal count ++ codes "\n") ≡ entry_line (say_leaves count)
count_is count = refl

pub leaf_is : (interface : ℕ → List ℕ) (number : ℕ) (leaf : Leaf) (gap : Gap)
    → leaf_line interface number leaf gap ≡ entry_line (entry_of_leaf interface number leaf gap)
unfolding leaf_line
leaf_is interface number leaf (gaps.After delay) = simp append_assoc
leaf_is interface number leaf gaps.Never = simp append_assoc

-- a line that was written into an empty text
pub written : (line before now text : List ℕ) (entry : Entry) → before ≡ [] → now ≡ before ++ line → text ≡ now
    → line ≡ entry_line entry → text ≡ entry_line entry
written line before now text entry none put same is = same ∙ put ∙ ap (λ (b : List ℕ). b ++ line) none ∙ is

-- and is read back as it
says : (line : List ℕ) (entry : Entry) → line ≡ entry_line entry → Says line entry
says line entry is = record { text = is; back = back entry }

pub items_say : ItemsSay
items_say item = says (item_line item) (entry_of_item item) (item_is item)

pub answers_say : AnswersSay
answers_say answer = says (answer_line answer) (entry_of_answer answer) (answer_is answer)

pub outcomes_say : OutcomesSay
outcomes_say outcome = says (outcome_line outcome) (entry_of_outcome outcome) (outcome_is outcome)

pub counts_say : CountsSay
counts_say member count = says (sent_line member count) (say_sent member count) (sent_is member count)

pub messages_say : MessagesSay
messages_say member number body =
    says (received_line member number body) (say_received member number (hex_text body))
    (received_is member number body)

pub parts_say : PartsSay
parts_say member number body =
    says (part_line member number body) (say_part member number (hex_text body)) (part_is member number body)

pub leaf_counts_say : LeafCountsSay
leaf_counts_say count = says (codes "leaves " ++ (decimal count ++ codes "\n")) (say_leaves count) (count_is count)

pub leaves_say : LeavesSay
leaves_say interface number leaf gap =
    says (leaf_line interface number leaf gap) (entry_of_leaf interface number leaf gap)
    (leaf_is interface number leaf gap)
