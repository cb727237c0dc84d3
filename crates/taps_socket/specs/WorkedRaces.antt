-- Races worked by hand, item by item, and what the definitions say of them.
use Rattle.std.specs.Prelude.{◌≡◌, ℕ, ◌+◌, ◌-◌, ◌^◌, List, [], ◌∷◌, reverse, None, Some}
use Rattle.taps_base.specs.declared.gap.Gap.{Gap}
use Rattle.taps_base.specs.declared.gap.Gap.TheVariants.{After, Never}
use Rattle.taps_stack.specs.declared.target.Target.{Target}
use Rattle.taps_socket.specs.declared.cause.Cause.TheVariants as cause
use Rattle.taps_socket.specs.declared.item.How.TheVariants.{Reached, Completed, Broke, Faulted}
use Rattle.taps_socket.specs.declared.item.Item.{Item}
use Rattle.taps_socket.specs.declared.item.Item.TheVariants.{Began, Started, Refused, Waited, Closed}
use Rattle.taps_socket.specs.declared.race_answer.RaceAnswer.{RaceAnswer}
use Rattle.taps_socket.specs.declared.race_answer.RaceAnswer.TheVariants as answer
use Rattle.taps_socket.specs.Standing.{standing}
use Rattle.taps_socket.specs.Rules.{Rules}
use Rattle.taps_socket.specs.LawfulRace.{IsLawfulRace, IsUnfinishedRace, IsOver}

-- a leaf for each of these gaps, and the usual timeout
abbrev pub with_gaps : List Gap → Rules
with_gaps gaps = record { gaps = gaps; timeout = 30000; cancel = None }

-- one leaf
abbrev pub one : Rules
one = with_gaps (After 0 ∷ [])

-- two leaves, the second 250 milliseconds behind the first (RFC 8305 section 5)
abbrev pub staggered : Rules
staggered = with_gaps (After 0 ∷ After 250 ∷ [])

-- three such leaves
abbrev pub three_staggered : Rules
three_staggered = with_gaps (After 0 ∷ After 250 ∷ After 250 ∷ [])

-- three leaves that start together
abbrev pub three_at_once : Rules
three_at_once = with_gaps (After 0 ∷ After 0 ∷ After 0 ∷ [])

-- the items, in the order in which they came, are a lawful race
abbrev pub Lawful : Rules → List Target → RaceAnswer → List Item → Type 0
Lawful rules targets answer items = IsLawfulRace rules 0 targets (reverse items) answer

-- and these are none, not even an unfinished one
abbrev pub Wrong : Rules → List Item → Type 0
Wrong rules items = IsUnfinishedRace rules 0 (reverse items) → ⊥

-- the last moment of a clock that may be told
abbrev pub end_of_time : ℕ
end_of_time = 2 ^ 63 - 1

-- lawful races
pub record LawfulRaces (a b c : Target) : Type 0 where
  pub late_winner : Lawful staggered (a ∷ b ∷ []) (answer.Ready 1 1 310) (Began 0 ∷ Started 0 a 0 0 ∷
      Waited 250 250 Reached ∷ Started 1 b 1 250 ∷ Waited 30000 310 (Completed 1) ∷ Closed 0 ∷ [])
  pub break_starts_the_next : Lawful staggered (a ∷ b ∷ []) (answer.Ready 1 1 100) (Began 0 ∷ Started 0 a 0 0 ∷
      Waited 250 100 (Broke 0 cause.Refused) ∷ Closed 0 ∷ Started 1 b 1 100 ∷ Waited 30000 100 (Completed 1) ∷ [])
  pub completed_at_the_timeout : Lawful (record one { timeout = 250 }) (a ∷ [])
      (answer.Ready 0 0 250) (Began 0 ∷ Started 0 a 0 0 ∷ Waited 250 250 (Completed 0) ∷ [])
  pub cancelled : Lawful (record one { timeout = 100; cancel = Some 100 })
      (a ∷ []) answer.Closed (Began 0 ∷ Started 0 a 0 0 ∷ Waited 100 100 Reached ∷ Closed 0 ∷ [])
  pub timed_out : Lawful (record one { timeout = 100 }) (a ∷ []) answer.Timeout
      (Began 0 ∷ Started 0 a 0 0 ∷ Waited 100 100 Reached ∷ Closed 0 ∷ [])
  pub tie : Lawful three_at_once (a ∷ b ∷ c ∷ []) (answer.Ready 1 1 40) (Began 0 ∷ Started 0 a 0 0 ∷
      Started 1 b 1 0 ∷ Started 2 c 2 0 ∷ Waited 30000 40 (Completed 1) ∷ Closed 0 ∷ Closed 2 ∷ [])
  pub all_refused : Lawful staggered (a ∷ b ∷ []) answer.AllFailed
      (Began 0 ∷ Refused 0 a cause.Refused 0 ∷ Refused 1 b cause.Unreachable 0 ∷ [])
  pub faulted : Lawful (with_gaps (After 0 ∷ After 0 ∷ [])) (a ∷ b ∷ []) answer.SocketFault
      (Began 0 ∷ Started 0 a 0 0 ∷ Started 1 b 1 0 ∷ Waited 30000 0 Faulted ∷ Closed 0 ∷ Closed 1 ∷ [])
  pub late_wakes : Lawful three_staggered (a ∷ b ∷ c ∷ []) (answer.Ready 2 2 2300) (Began 0 ∷ Started 0 a 0 0 ∷
      Waited 250 1150 Reached ∷ Started 1 b 1 1150 ∷ Waited 1400 2300 Reached ∷
      Started 2 c 2 2300 ∷ Waited 30000 2300 (Completed 2) ∷ Closed 0 ∷ Closed 1 ∷ [])
  pub no_leaf : Lawful (with_gaps []) [] answer.NoCandidate (Began 0 ∷ [])
  pub failover : Lawful (with_gaps (After 0 ∷ Never ∷ [])) (a ∷ b ∷ []) (answer.Ready 1 1 900)
      (Began 0 ∷ Started 0 a 0 0 ∷ Waited 30000 800 (Broke 0 cause.Reset) ∷
      Closed 0 ∷ Started 1 b 1 800 ∷ Waited 30000 900 (Completed 1) ∷ [])
  pub end_of_time_faulted : Lawful one (a ∷ []) answer.SocketFault
      (Began end_of_time ∷ Started 0 a 0 end_of_time ∷ Waited (end_of_time + 30000) end_of_time Faulted ∷ Closed 0 ∷ [])
  pub end_of_time_completed : Lawful one (a ∷ []) (answer.Ready 0 0 end_of_time)
      (Began end_of_time ∷ Started 0 a 0 end_of_time ∷ Waited (end_of_time + 30000) end_of_time (Completed 0) ∷ [])

-- races that are none
pub record WrongRaces (a b c : Target) : Type 0 where
  pub starts_before_its_turn : Wrong staggered
      (Began 0 ∷ Started 0 a 0 0 ∷ Waited 250 249 Reached ∷ Started 1 b 1 249 ∷ [])
  pub starts_the_second_leaf_first : Wrong staggered (Began 0 ∷ Started 1 b 0 0 ∷ [])
  pub starts_while_a_broken_socket_is_open : Wrong staggered
      (Began 0 ∷ Started 0 a 0 0 ∷ Waited 250 100 (Broke 0 cause.Refused) ∷ Started 1 b 1 100 ∷ [])
  pub waits_while_due : Wrong staggered
      (Began 0 ∷ Started 0 a 0 0 ∷ Waited 250 250 Reached ∷ Waited 30000 310 (Completed 0) ∷ [])
  pub waits_too_long : Wrong staggered (Began 0 ∷ Started 0 a 0 0 ∷ Waited 30000 250 Reached ∷ [])
  pub waits_with_a_broken_socket : Wrong staggered (Began 0 ∷ Started 0 a 0 0 ∷ Waited 250 250 Reached ∷
      Started 1 b 1 250 ∷ Waited 30000 300 (Broke 0 cause.Reset) ∷ Waited 30000 310 (Completed 1) ∷ [])
  pub closes_a_pending_socket : Wrong staggered (Began 0 ∷ Started 0 a 0 0 ∷ Closed 0 ∷ [])
  pub closes_the_greater_loser : Wrong three_at_once
      (Began 0 ∷ Started 0 a 4 0 ∷ Started 1 b 7 0 ∷ Started 2 c 9 0 ∷ Waited 30000 40 (Completed 7) ∷ Closed 9 ∷ [])
  pub closes_the_winner : Wrong three_at_once
      (Began 0 ∷ Started 0 a 4 0 ∷ Started 1 b 7 0 ∷ Started 2 c 9 0 ∷ Waited 30000 40 (Completed 7) ∷ Closed 7 ∷ [])
  pub closes_twice : Wrong staggered
      (Began 0 ∷ Started 0 a 0 0 ∷ Waited 250 100 (Broke 0 cause.Refused) ∷ Closed 0 ∷ Closed 0 ∷ [])
  pub begins_twice : Wrong one (Began 0 ∷ Began 0 ∷ [])

-- answers that come too early, or are not those of their race
pub record WrongAnswers (a b c : Target) : Type 0 where
  pub leaves_a_loser_open : IsOver three_at_once
      (standing (reverse (Began 0 ∷ Started 0 a 4 0 ∷ Started 1 b 7 0 ∷ Started 2 c 9 0 ∷
      Waited 30000 40 (Completed 7) ∷ Closed 4 ∷ []))) (answer.Ready 1 7 40) → ⊥
  pub ready_for_a_later_completion : IsOver three_at_once
      (standing (reverse (Began 0 ∷ Started 0 a 4 0 ∷ Started 1 b 7 0 ∷ Waited 30000 40 (Completed 7) ∷
      Waited 30000 41 (Completed 4) ∷ Closed 7 ∷ []))) (answer.Ready 0 4 41) → ⊥
  pub times_out_early : IsOver one (standing (reverse (Began 0 ∷ Refused 0 a cause.Refused 0 ∷ []))) answer.Timeout → ⊥
  pub fails_while_one_is_pending : IsOver one (standing (reverse (Began 0 ∷ Started 0 a 0 0 ∷ []))) answer.AllFailed → ⊥
  pub fails_while_a_leaf_is_left : IsOver staggered
      (standing (reverse (Began 0 ∷ Refused 0 a cause.Refused 0 ∷ []))) answer.AllFailed → ⊥

-- attempts under other numbers than those that begin with first, or with other targets than those of their leaves
pub record WrongAttempts (a b c : Target) : Type 0 where
  pub numbered_from_five : IsLawfulRace one 5 (a ∷ [])
      (reverse (Began 0 ∷ Started 5 a 0 0 ∷ Waited 30000 9 (Completed 0) ∷ [])) (answer.Ready 0 0 9)
  pub another_number : IsUnfinishedRace one 5 (reverse (Began 0 ∷ Started 0 a 0 0 ∷ [])) → ⊥
  pub the_number_again : IsUnfinishedRace staggered 5
      (reverse (Began 0 ∷ Refused 5 a cause.Refused 0 ∷ Refused 5 b cause.Refused 0 ∷ [])) → ⊥
  pub another_target : (a ≡ b → ⊥) → IsLawfulRace staggered 0 (a ∷ b ∷ [])
      (reverse (Began 0 ∷ Refused 0 b cause.Refused 0 ∷ Refused 1 b cause.Refused 0 ∷ [])) answer.AllFailed → ⊥
  pub no_such_target : IsLawfulRace one 0 [] (reverse (Began 0 ∷ Refused 0 a cause.Refused 0 ∷ [])) answer.AllFailed → ⊥

-- what the definitions say of the worked races
pub record JudgesWorkedRaces (a b c : Target) : Type 0 where
  pub lawful : LawfulRaces a b c
  pub wrong : WrongRaces a b c
  pub answers : WrongAnswers a b c
  pub attempts : WrongAttempts a b c
