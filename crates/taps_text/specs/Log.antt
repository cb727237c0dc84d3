-- The log of a session, which follows its plan text (local).
use Rattle.std.specs.Prelude.{ℕ, List, [], ◌++◌, Option, Some, None}
use Rattle.taps_socket.specs.declared.item.Item.{Item}
use Rattle.taps_socket.specs.declared.race_answer.RaceAnswer.{RaceAnswer}
use Rattle.taps_socket.specs.declared.race_answer.RaceAnswer.TheVariants.{Ready}
use Rattle.taps_text.specs.AnswerLines.{answer_line}
use Rattle.taps_text.specs.ItemLines.{item_lines}
use Rattle.taps_text.specs.MemberLines.{MemberLog, members_lines}
use Rattle.taps_text.specs.OutcomeLines.{outcome_line}
use Rattle.taps_text.specs.declared.outcome.Outcome.{Outcome}

-- the answer, where a session has a line of one
abbrev pub answer_lines : Option RaceAnswer → List ℕ
answer_lines None = []
answer_lines (Some answer) = answer_line answer

-- the items after the answer, oldest first, what the members sent and heard, and the outcome
abbrev pub after_lines : List Item → Option ℕ → List MemberLog → Outcome → List ℕ
after_lines after part members outcome = item_lines after ++ (members_lines part 0 members ++ outcome_line outcome)

-- any answer but a ready one ends the log
abbrev pub end_lines : Option RaceAnswer → List ℕ → List ℕ
end_lines None lines = lines
end_lines (Some (Ready leaf socket at)) lines = lines
end_lines (Some _) lines = []

-- the items up to the answer, the answer, and what follows it; the items are oldest first
unfoldable pub log_lines : List Item → Option RaceAnswer → List Item → Option ℕ → List MemberLog → Outcome → List ℕ
log_lines before answer after part members outcome =
    item_lines before ++ (answer_lines answer ++ end_lines answer (after_lines after part members outcome))
