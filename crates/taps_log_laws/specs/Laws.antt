-- What is proved of the lines that are printed and of the entries that are read from them (local).
use Rattle.std.specs.Prelude.{◌≡◌, ℕ, List, ◌++◌, codes, Option, Some}
use Rattle.std.specs.Fmt.{decimal}
use Rattle.std.specs.List.{flat_map}
use Rattle.taps_base.specs.declared.gap.Gap.{Gap}
use Rattle.taps_candidate.specs.PlanText.{leaf_line, plan_text}
use Rattle.taps_candidate.specs.declared.plan.Leaf.{Leaf}
use Rattle.taps_log.specs.Entries.{Entry, IsWritten, say_leaves, say_sent, say_received, say_part}
use Rattle.taps_log.specs.LogLines.{entry_text}
use Rattle.taps_log.specs.Reading.{entry_in}
use Rattle.taps_socket.specs.declared.item.Item.{Item}
use Rattle.taps_socket.specs.declared.race_answer.RaceAnswer.{RaceAnswer}
use Rattle.taps_text.specs.AnswerLines.{answer_line}
use Rattle.taps_text.specs.BodyLines.{hex_text, sent_line, received_line, part_line}
use Rattle.taps_text.specs.ItemLines.{item_line}
use Rattle.taps_text.specs.Log.{log_lines}
use Rattle.taps_text.specs.MemberLines.{MemberLog}
use Rattle.taps_text.specs.OutcomeLines.{outcome_line}
use Rattle.taps_text.specs.declared.outcome.Outcome.{Outcome}
use Rattle.taps_log_laws.specs.EntriesOf.{entry_of_item, entry_of_answer, entry_of_outcome, entry_of_leaf, entries_of_plan, entries_of_log}

-- the line of an entry, with its end
abbrev pub entry_line : Entry → List ℕ
entry_line entry = entry_text entry ++ codes "\n"

-- the lines of entries, one after the other
abbrev pub entry_lines : List Entry → List ℕ
entry_lines entries = flat_map entry_line entries

-- The line is the entry's text and the end of a line, and this text is read as the entry, if its numbers are of 64
-- bits.
pub record Says (line : List ℕ) (entry : Entry) : Type 0 where
  pub text : line ≡ entry_line entry
  pub back : IsWritten entry → entry_in (entry_text entry) ≡ Some entry

-- each line of a log says its entry
abbrev pub ItemsSay : Type 0
ItemsSay = (item : Item) → Says (item_line item) (entry_of_item item)

abbrev pub AnswersSay : Type 0
AnswersSay = (answer : RaceAnswer) → Says (answer_line answer) (entry_of_answer answer)

abbrev pub OutcomesSay : Type 0
OutcomesSay = (outcome : Outcome) → Says (outcome_line outcome) (entry_of_outcome outcome)

abbrev pub CountsSay : Type 0
CountsSay = (member count : ℕ) → Says (sent_line member count) (say_sent member count)

abbrev pub MessagesSay : Type 0
MessagesSay = (member number : ℕ) (body : List ℕ)
    → Says (received_line member number body) (say_received member number (hex_text body))

abbrev pub PartsSay : Type 0
PartsSay = (member number : ℕ) (body : List ℕ)
    → Says (part_line member number body) (say_part member number (hex_text body))

-- each line of a plan says its entry
abbrev pub LeafCountsSay : Type 0
LeafCountsSay = (count : ℕ) → Says (codes "leaves " ++ (decimal count ++ codes "\n")) (say_leaves count)

abbrev pub LeavesSay : Type 0
LeavesSay = (interface : ℕ → List ℕ) (number : ℕ) (leaf : Leaf) (gap : Gap)
    → Says (leaf_line interface number leaf gap) (entry_of_leaf interface number leaf gap)

-- a plan and a log are the lines of their entries
abbrev pub PlansSay : Type 0
PlansSay = (interface : ℕ → List ℕ) (leaves : List Leaf) (gaps : List Gap)
    → plan_text interface leaves gaps ≡ entry_lines (entries_of_plan interface leaves gaps)

abbrev pub LogsSay : Type 0
LogsSay = (before : List Item) (answer : Option RaceAnswer) (after : List Item)
    → (part : Option ℕ) (members : List MemberLog) (outcome : Outcome)
    → log_lines before answer after part members outcome
    ≡ entry_lines (entries_of_log before answer after part members outcome)
