-- A session as it is kept until its log is written.
use Rattle.std.specs.Prelude.{ℕ, List, [], ◌∷◌, reverse, take, drop, Option, Some, None}
use Rattle.taps_socket.specs.declared.item.Item.{Item}
use Rattle.taps_socket.specs.declared.race_answer.RaceAnswer.{RaceAnswer}
use Rattle.taps_exchange.specs.declared.exchanged.Exchanged.{Exchanged}
use Rattle.taps_exchange.specs.declared.outcome.Outcome.{Outcome}
use Rattle.taps_exchange.specs.declared.outcome.Outcome.TheVariants as outcome
use Rattle.taps_text.specs.MemberLines.{MemberLog}
use Rattle.taps_text.specs.declared.outcome.Outcome as lines
use Rattle.taps_session.specs.SessionLogs.{Held}

-- these items, oldest first, of which so many stand before the answer
abbrev pub parted : List Item → ℕ → Option RaceAnswer → List MemberLog → lines.Outcome → Held
parted items before answer members outcome = record {
  before = reverse (take before items);
  answer = answer;
  after = reverse (drop before items);
  members = members;
  outcome = outcome;
}

-- what the one member of an exchange sent and heard, if there was an exchange, and the outcome
abbrev pub members_by : Option Exchanged → List MemberLog
members_by None = []
members_by (Some e) = record { sent = e.sent; heard = e.heard.items } ∷ []

abbrev pub outcome_by : Option Exchanged → Outcome
outcome_by None = outcome.Done
outcome_by (Some e) = e.outcome
