-- What a race of a plan's leaves leaves.
use Rattle.std.specs.Prelude.{◌≤◌, List}
use Rattle.taps_socket.specs.declared.item.Item.{Item}
use Rattle.taps_socket.specs.declared.race_answer.RaceAnswer.{RaceAnswer}
use Rattle.taps_socket.specs.Net.{Net}
use Rattle.taps_racer.specs.CarriedOut.{IsCarriedOut}
use Rattle.taps_example_client.specs.declared.plan.Planned.{Planned}
use Rattle.taps_example_client.specs.Plans.{rules_of, targets_of}

-- the race of a plan was carried out and has this answer, whose socket is live if it names one, and leads to its leaf's
-- target; and there is room for three items more
pub record HasRaced (planned : Planned) (before after : Net) (answer : RaceAnswer) : Type 0 where
  pub race : List Item
  pub carried_out : IsCarriedOut (rules_of planned) 0 (targets_of planned) before after race answer
  pub room : 3 ≤ after.spare
