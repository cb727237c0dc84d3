-- How the exchange of a group ends, by what its members keep (local).
use Rattle.std.specs.Prelude.{ℕ, ◌+◌, List, [], ◌∷◌, Option, Some, None}
use Rattle.taps_exchange.specs.declared.outcome.Outcome.{Outcome}
use Rattle.taps_exchange.specs.declared.outcome.Outcome.TheVariants as outcome
use Rattle.taps_exchange.specs.Turns.{done_or}
use Rattle.taps_group.specs.declared.member.Member.{Member}

-- where nothing ended it before: the first member by place, from one on, with an expired message tells it
abbrev pub outcome_at_end : {X : Type 0} {F : X → Type 0} → ℕ → List (Member X F) → Outcome
outcome_at_end place [] = outcome.Done
outcome_at_end place (m ∷ members) =
    done_or m.connection.sender.expired place (outcome_at_end (place + 1) members)

-- the outcome that ended it before, or else this one
abbrev pub outcome_or : Option Outcome → Outcome → Outcome
outcome_or (Some o) others = o
outcome_or None others = others
