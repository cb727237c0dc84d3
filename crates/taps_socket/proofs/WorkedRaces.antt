-- The definitions judge the worked races as they are to be judged.
use Rattle.std.proofs.Common.{◌≡◌, rules, arith, true, false}
use Rattle.std.specs.Prelude.{None, Some}
use Rattle.taps_stack.specs.declared.target.Target.{Target}
use Rattle.taps_socket.specs.WorkedRaces.{LawfulRaces, WrongRaces, WrongAnswers, WrongAttempts, JudgesWorkedRaces}

lawful_races : (a b c : Target) → LawfulRaces a b c
lawful_races a b c =
    record {
      late_winner = search rules;
      break_starts_the_next = search rules;
      completed_at_the_timeout = search rules;
      cancelled = search rules;
      timed_out = search rules;
      tie = search rules;
      all_refused = search rules;
      faulted = search rules;
      late_wakes = search rules;
      no_leaf = search rules;
      failover = search rules;
      end_of_time_faulted = search rules;
      end_of_time_completed = search rules;
    }

wrong_races : (a b c : Target) → WrongRaces a b c
wrong_races a b c =
    record {
      starts_before_its_turn = λ h. (let x : false ≡ true = h.attempts_when_due.0.due in cc);
      starts_the_second_leaf_first = λ h. (let x : 1 ≡ 0 = h.attempts_in_order.0 in cc);
      starts_while_a_broken_socket_is_open = λ h. (let x = h.attempts_when_due.0.none_broken in cc);
      waits_while_due = λ h. (let x : true ≡ false = h.waits_when_nothing_due.0.not_due in cc);
      waits_too_long = λ h. (let x : 30000 ≡ 250 = h.waits_when_nothing_due.0.end in absurd (omega arith));
      waits_with_a_broken_socket = λ h. (let x = h.waits_when_nothing_due.0.none_broken in cc);
      closes_a_pending_socket = λ h. (let x : false ≡ true = h.closes_in_order.0 in cc);
      closes_the_greater_loser = λ h. (let x : Some 4 ≡ Some 9 = h.closes_in_order.0 in cc);
      closes_the_winner = λ h. (let x : Some 4 ≡ Some 7 = h.closes_in_order.0 in cc);
      closes_twice = λ h. (let x : false ≡ true = h.closes_in_order.0 in cc);
      begins_twice = λ h. (let x = h.race_trace in cc);
    }

wrong_answers : (a b c : Target) → WrongAnswers a b c
wrong_answers a b c =
    record {
      leaves_a_loser_open = λ h. (let x = h.winner_alone in cc);
      ready_for_a_later_completion = λ h. (let x = h.over in cc);
      times_out_early = λ h. (let x = h.over in cc);
      fails_while_one_is_pending = λ h. (let x = h.over in cc);
      fails_while_a_leaf_is_left = λ h. (let x = h.over in cc);
    }

wrong_attempts : (a b c : Target) → WrongAttempts a b c
wrong_attempts a b c =
    record {
      numbered_from_five = search rules;
      another_number = λ h. (let x : 0 ≡ 5 = h.attempts_in_order.0 in cc);
      the_number_again = λ h. (let x : 5 ≡ 6 = h.attempts_in_order.0 in cc);
      another_target = λ other h. (let x : Some a ≡ Some b = h.targets_in_order.1.0 in other cc);
      no_such_target = λ h. (let x : None ≡ Some a = h.targets_in_order.0 in cc);
    }

pub judged : (a b c : Target) → JudgesWorkedRaces a b c
judged a b c = record { lawful = lawful_races a b c; wrong = wrong_races a b c; answers = wrong_answers a b c; attempts = wrong_attempts a b c }
