-- How a text is read line by line (local).
use Rattle.std.specs.Prelude.{◌≡◌, ℕ, Bool, true, not, ◌==◌, if◌then◌else◌, List, [], ◌∷◌, ◌++◌, Option, Some, None, option_map}
use Rattle.std.specs.List.{All, list_all}
use Rattle.std.specs.Option.{option_and_then}
use Rattle.taps_candidate.specs.PlanText.{plan_text}
use Rattle.taps_candidate.specs.declared.plan.Leaf.{Leaf}
use Rattle.taps_base.specs.declared.gap.Gap.{Gap}
use Rattle.taps_log.specs.Entries.{Entry, IsWritten, say_leaf, say_listening, say_received, say_part}
use Rattle.taps_log.specs.Reading.{entry_in}
use Rattle.taps_socket.specs.declared.item.Item.{Item}
use Rattle.taps_socket.specs.declared.race_answer.RaceAnswer.{RaceAnswer}
use Rattle.taps_text.specs.Log.{log_lines}
use Rattle.taps_text.specs.MemberLines.{MemberLog}
use Rattle.taps_text.specs.declared.outcome.Outcome.{Outcome}
use Rattle.taps_log_laws.specs.EntriesOf.{entry_of_item, entries_of_plan, entries_of_log}

-- no byte is the end of a line
abbrev pub is_one_line : List ℕ → Bool
is_one_line text = list_all (λ b. not (b == 10)) text

-- no entry, where no byte is left of a line
abbrev pub none_left : List ℕ → Option (List Entry)
none_left [] = Some []
none_left (b ∷ front) = None

-- the entry of a line, before others
abbrev pub entry_before : List ℕ → Option (List Entry) → Option (List Entry)
entry_before line others = option_and_then (λ entry. option_map (λ entries. entry ∷ entries) others) (entry_in line)

-- the entries of a text's lines, each of which has its end, where the first one begins with these bytes
unfoldable pub entries_behind : List ℕ → List ℕ → Option (List Entry)
entries_behind front [] = none_left front
entries_behind front (b ∷ text) =
    if b == 10 then entry_before front (entries_behind [] text) else entries_behind (front ++ b ∷ []) text

-- the entries of a text's lines, if each line is one of an entry and has its end
abbrev pub entries_in : List ℕ → Option (List Entry)
entries_in text = entries_behind [] text

-- the texts that the line says as they stand are within one line
abbrev pub IsOneLine : Entry → Type 0
IsOneLine (say_leaf leaf place gap) = is_one_line place ≡ true
IsOneLine (say_listening socket address at) = is_one_line address ≡ true
IsOneLine (say_received member number hex) = is_one_line hex ≡ true
IsOneLine (say_part member number hex) = is_one_line hex ≡ true
IsOneLine _ = Unit {0}

-- A plan and the log behind it, with numbers of 64 bits and addresses within one line, are read as their entries.
abbrev pub SessionsAreRead : Type 0
SessionsAreRead = (interface : ℕ → List ℕ) (leaves : List Leaf) (gaps : List Gap)
    → (before : List Item) (answer : Option RaceAnswer) (after : List Item)
    → (part : Option ℕ) (members : List MemberLog) (outcome : Outcome)
    → All IsOneLine (entries_of_plan interface leaves gaps) → All (λ item. IsOneLine (entry_of_item item)) before
    → All (λ item. IsOneLine (entry_of_item item)) after
    → All IsWritten (entries_of_plan interface leaves gaps ++ entries_of_log before answer after part members outcome)
    → entries_in (plan_text interface leaves gaps ++ log_lines before answer after part members outcome)
    ≡ Some (entries_of_plan interface leaves gaps ++ entries_of_log before answer after part members outcome)
