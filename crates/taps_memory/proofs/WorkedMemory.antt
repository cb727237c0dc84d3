-- The definitions judge the worked histories as they are to be judged.
use Rattle.std.proofs.Common.{◌≡◌, ℕ, rules, refl, ap, sym}
use Rattle.taps_socket.specs.declared.item.How.{How}
use Rattle.taps_socket.specs.declared.item.How.TheVariants as how
use Rattle.taps_socket.specs.Calls.{Call, waits}
use Rattle.taps_memory.specs.WorkedMemory.{RightHistories, WrongHistories, JudgesWorkedMemory}

right : RightHistories
right =
    record {
      there_and_back = search rules;
      full = search rules;
      empty = search rules;
      last_bytes_before_the_end = search rules;
      reset = search rules;
      closed_before_it_was_accepted = search rules;
      nothing_to_wait_for = search rules;
      past_the_end_of_time = search rules;
      no_listener = search rules;
      datagrams = search rules;
      all_used = search rules;
      on_a_live_target = search rules;
      on_a_closed_one = search rules;
      no_connection = search rules;
      planned_faults = search rules;
    }

-- how the wait of a call ended
abbrev how_of : Call → How
how_of (waits until answer) = answer.how
how_of _ = how.Reached

not_reached : (s : ℕ) → how.Completed s ≡ how.Reached → ⊥
not_reached s e = cc

not_faulted : (s : ℕ) → how.Completed s ≡ how.Faulted → ⊥
not_faulted s e = cc

wrong : WrongHistories
wrong =
    record {
      reads_what_was_not_written = λ h. (let x = h.0 in cc);
      reads_it_again = λ h. (let x = h.0 in cc);
      ends_before_the_last_bytes = λ h. (let x = h.0 in cc);
      sends_past_a_full_ring = λ h. (let x = h.0 in cc);
      sends_to_a_closed_end = λ h. (let x = h.0 in cc);
      completes_a_closed_pair = λ h. not_reached 1 (ap how_of h.0);
      accepts_twice = λ h. (let x = h.0 in cc);
      starts_without_a_listener = λ h. (let x = h.0 in cc);
      uses_a_pair_twice = λ h. (let x = h.0 in cc);
      listens_twice = λ h. (let x = h.0 in cc);
      passes_over_a_planned_fault = λ h. not_faulted 1 (ap how_of h.0);
      faults_unplanned = λ h. not_faulted 1 (sym (ap how_of h.0));
    }

pub judged : JudgesWorkedMemory
judged = record { right = right; wrong = wrong; ends = record { ends = refl } }
