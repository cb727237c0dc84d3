-- The definitions judge the worked sessions as they are to be judged.
use Rattle.std.proofs.Common.{◌≡◌, ℕ, arith, rules as by_rules}
use Rattle.taps_property.specs.declared.message_props.MessageProps.{MessageProps}
use Rattle.taps_stack.specs.declared.target.Target.{Target}
use Rattle.taps_socket.specs.Calls.{to_accept}
use Rattle.taps_exchange.specs.Turns.{asks}
use Rattle.taps_listening.specs.WorkedListening.{RightSessions, WrongSessions, JudgesWorkedListening}

right : (p : MessageProps) (t : Target) → RightSessions p t
right p t =
    record {
      refused = search by_rules;
      timed = search by_rules;
      faulted = search by_rules;
      hears_and_answers = search by_rules;
      two = search by_rules;
      ends_early = search by_rules;
      second_faulted = search by_rules;
      expires = search by_rules;
      fails_in_sending = search by_rules;
    }

same_time : (l m u v : ℕ) → asks (to_accept l u) ≡ asks (to_accept m v) → u ≡ v
same_time l m u v e = cc

wrong : (p : MessageProps) (t : Target) → WrongSessions p t
wrong p t =
    record {
      without_the_time = λ h. (let x = h.in_turn.0 in cc);
      leaves_the_listener_open = λ h. (let x = h.ends in cc);
      listens_twice = λ h. (let x = h.in_turn.0 in cc);
      answers_before_it_heard = λ h. (let x = h.in_turn.1.1.1.1.0 in cc);
      deadline_of_the_listen = λ h. absurd (let x : 106 ≡ 105 = same_time 0 0 106 105 h.in_turn.1.0 in omega (arith, x));
      accepts_too_few = λ h. (let x = h.in_turn.0 in cc);
      accepts_again_without_the_time = λ h. (let x = h.in_turn.1.0 in cc);
      leaves_a_connection_open = λ h. (let x = h.in_turn.0 in cc);
    }

pub judged : JudgesWorkedListening
judged p t = (right p t, wrong p t)
