-- Who sends next in worked groups.
use Rattle.std.specs.Prelude.{ℕ, List, [], ◌∷◌, Option, Some, None}
use Rattle.taps_group.specs.Orders.{Standing, IsNextSender}

abbrev pub stands : ℕ → Option ℕ → Standing
stands priority waiting = record { priority = priority; waiting = waiting }

pub record RightSenders : Type 0 where
  pub the_more_urgent : IsNextSender (0 ∷ 1 ∷ []) (stands 100 (Some 0) ∷ stands 5 (Some 0) ∷ []) (Some 1)
  pub the_earlier_on_a_tie : IsNextSender (0 ∷ 1 ∷ []) (stands 7 (Some 0) ∷ stands 7 (Some 0) ∷ []) (Some 0)
  pub the_earlier_by_order_and_not_by_place :
      IsNextSender (1 ∷ 0 ∷ []) (stands 7 (Some 0) ∷ stands 7 (Some 0) ∷ []) (Some 1)
  pub by_its_first_message_still_to_be_sent :
      IsNextSender (0 ∷ 1 ∷ 0 ∷ []) (stands 7 (Some 1) ∷ stands 7 (Some 0) ∷ []) (Some 1)
  pub not_an_urgent_one_with_nothing_to_send :
      IsNextSender (0 ∷ 1 ∷ []) (stands 100 (Some 0) ∷ stands 5 None ∷ []) (Some 0)
  pub nobody : IsNextSender (0 ∷ 1 ∷ []) (stands 100 None ∷ stands 5 None ∷ []) None

-- and who does not
abbrev pub Wrong : List ℕ → List Standing → Option ℕ → Type 0
Wrong order members sender = IsNextSender order members sender → ⊥

pub record WrongSenders : Type 0 where
  pub the_less_urgent : Wrong (0 ∷ 1 ∷ []) (stands 100 (Some 0) ∷ stands 5 (Some 0) ∷ []) (Some 0)
  pub the_later_on_a_tie : Wrong (0 ∷ 1 ∷ []) (stands 7 (Some 0) ∷ stands 7 (Some 0) ∷ []) (Some 1)
  pub the_lower_place_on_a_tie : Wrong (1 ∷ 0 ∷ []) (stands 7 (Some 0) ∷ stands 7 (Some 0) ∷ []) (Some 0)
  pub one_with_nothing_to_send : Wrong (0 ∷ 1 ∷ []) (stands 100 (Some 0) ∷ stands 5 None ∷ []) (Some 1)
  pub nobody_where_one_waits : Wrong (0 ∷ 1 ∷ []) (stands 100 (Some 0) ∷ stands 5 None ∷ []) None
  pub one_that_is_not_there : Wrong (0 ∷ []) (stands 100 (Some 0) ∷ []) (Some 1)

pub record JudgesWorkedGroups : Type 0 where
  pub right : RightSenders
  pub wrong : WrongSenders
