-- The definitions judge the worked histories as they are to be judged.
use Rattle.std.proofs.Common.{◌≡◌, ◌<◌, ◌≤◌, ℕ, Bool, rules, arith, true, false, ◌||◌, List, [], ◌∷◌, refl, sym, ◌∙◌}
use Rattle.std.specs.Prelude.{Some, ◌==◌}
use Rattle.std.proofs.lemmas.Bool.{eqb-true}
use Rattle.taps_endpoint.specs.declared.address.Address.{Address}
use Rattle.taps_socket.specs.RaceSockets.{has}
use Rattle.taps_socket.specs.WorkedCalls.{LawfulHistories, WrongHistories, WorkedTraffic, WrongRecords, JudgesWorkedCalls}

-- numbers that are new
no_number : (s n : ℕ) → has [] s ≡ true → s < n
no_number s n h = cc

below : (xs : List ℕ) (s n : ℕ) → ((x : ℕ) → has xs x ≡ true → x < n) → 0 < n → has (0 ∷ xs) s ≡ true → s < n
below xs s n more some h = by_test (0 == s) refl h
  where
    by_test : (q : Bool) → (0 == s) ≡ q → (q || has xs s) ≡ true → s < n
    by_test true e h = let same : 0 ≡ s = eqb-true 0 s e in omega arith
    by_test false e h = more s h

zero_below : (s : ℕ) → has (0 ∷ []) s ≡ true → s < 1
zero_below s h = below [] s 1 (λ x h. no_number x 1 h) (omega arith) h

lawful : (a : Address) → LawfulHistories a
lawful a =
    record {
      there_and_back = search (rules, no_number);
      timed_and_failed = search (rules, no_number);
      listening = search (rules, no_number, zero_below);
      datagrams = search (rules, no_number);
      refused = search rules;
    }

wrong : (a : Address) → WrongHistories a
wrong a =
    record {
      sends_on_a_shut_socket = λ h. (let x : false ≡ true = h.0.may in cc);
      sends_before_it_completed = λ h. (let x : false ≡ true = h.0.may in cc);
      sends_on_a_failed_socket = λ h. (let x : false ≡ true = h.0.may in cc);
      sends_more_than_was_given = λ h. (let x : 2 ≤ 1 = h.0.answered.0.within in absurd (omega arith));
      sends_no_byte = λ h. (let x : 1 ≤ 0 = h.0.answered.0.some in absurd (omega arith));
      sends_a_part_of_a_datagram = λ h. (let x : 1 ≡ 2 = h.0.answered.1 refl in absurd (omega arith));
      gets_no_bytes = λ h. (let x : 1 ≤ 0 = h.0.answered.0.some in absurd (omega arith));
      gets_more_than_fits = λ h. (let x : 2 ≤ 1 = h.0.answered.0.within in absurd (omega arith));
      receives_after_the_end = λ h. (let x : false ≡ true = h.0.may in cc);
      ends_datagrams = λ h. (let x : false ≡ true = h.0.answered in cc);
      shuts_datagrams = λ h. (let x : false ≡ true = h.0 in cc);
      time_decreases = λ h. (let x : 11 ≤ 10 = h.0.answered.2.later in absurd (omega arith));
      timed_before_until = λ h. (let x : 50 ≤ 49 = h.0.answered.0 in absurd (omega arith));
      listens_for_datagrams = λ h. (let x : false ≡ true = h.0.0 in cc);
      accepts_from_a_connection = λ h. (let x : false ≡ true = h.0.0 in cc);
      gives_a_number_again = λ h. (let x : 1 < 1 = h.0.3 1 refl in absurd (omega arith));
      closes_twice = λ h. (let x : false ≡ true = h.0 in cc);
    }

traffic : WorkedTraffic
traffic = record { stream = refl; datagrams = refl; received = refl }

records : (a : Address) → WrongRecords a
records a =
    record {
      another_count = λ before after b e h. (let x : Some ((1 ∷ 2 ∷ []) ∷ []) ≡ Some ((1 ∷ 2 ∷ 3 ∷ []) ∷ []) = sym (rw b at (h.written 0)) ∙ e in cc);
      timed_without_a_call = λ before after b e h. (let x : 1 ≡ 0 = sym e ∙ (h.timed ∙ b) in absurd (omega arith));
    }

pub judged : (a : Address) → JudgesWorkedCalls a
judged a = record { lawful = lawful a; wrong = wrong a; traffic = traffic; records = records a }
