-- What is told of a session over a generated file and script (local).
use Rattle.std.specs.Prelude.{ℕ, Bool, true, false, List, ◌++◌, Option, codes, count_by}
use Rattle.std.specs.Fmt.{decimal}
use Rattle.taps_socket.specs.declared.item.How.{How}
use Rattle.taps_socket.specs.declared.item.How.TheVariants.{Broke}
use Rattle.taps_socket.specs.declared.item.Item.{Item}
use Rattle.taps_socket.specs.declared.item.Item.TheVariants.{Started, Refused, Waited}
use Rattle.taps_socket.specs.declared.race_answer.RaceAnswer.{RaceAnswer}
use Rattle.taps_text.specs.Log.{answer_lines, end_lines}
use Rattle.taps_text.specs.OutcomeLines.{outcome_line}
use Rattle.taps_text.specs.declared.outcome.Outcome.{Outcome}

-- a leaf was attempted: its socket was started, or refused
abbrev pub is_attempt : Item → Bool
is_attempt (Started leaf target socket at) = true
is_attempt (Refused leaf target cause at) = true
is_attempt _ = false

abbrev pub is_refusal : Item → Bool
is_refusal (Refused leaf target cause at) = true
is_refusal _ = false

-- a socket broke while it was waited for
abbrev pub has_broken : How → Bool
has_broken (Broke socket cause) = true
has_broken _ = false

abbrev pub is_break : Item → Bool
is_break (Waited until at how) = has_broken how
is_break _ = false

abbrev pub is_wait : Item → Bool
is_wait (Waited until at how) = true
is_wait _ = false

-- how many attempts, refusals, breaks and waits there are among items
unfoldable pub count_lines : List Item → List ℕ
count_lines items = codes "attempts " ++ (decimal (count_by is_attempt items)
    ++ (codes "\nrefused " ++ (decimal (count_by is_refusal items)
    ++ (codes "\nbroke " ++ (decimal (count_by is_break items)
    ++ (codes "\nwaits " ++ (decimal (count_by is_wait items) ++ codes "\n")))))))

-- the number, the leaves of its plan, the counts of the race's items, the answer, how many messages were heard, and
-- behind a ready answer the outcome
unfoldable pub summary_lines : ℕ → ℕ → List Item → Option RaceAnswer → ℕ → Outcome → List ℕ
summary_lines number leaves race answer received outcome =
    (codes "gen " ++ (decimal number ++ (codes "\nleaves " ++ (decimal leaves ++ codes "\n"))))
    ++ (count_lines race ++ (answer_lines answer
    ++ ((codes "received " ++ (decimal received ++ codes "\n")) ++ end_lines answer (outcome_line outcome))))
