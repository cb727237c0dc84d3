-- The worked sessions of groups are judged as they are to be judged.
use Rattle.std.proofs.Common.{◌≡◌, rules, arith, refl}
use Rattle.std.specs.Prelude.{ℕ, List, Option, Some, None}
use Rattle.std.proofs.Common.{◌∙◌, ap}
use Rattle.taps_socket.specs.Calls.{Call, Request, to_send}
use Rattle.taps_exchange.specs.Turns.{Turn, asks, over, Place, initiate, turn_of, IsInTurn}
use Rattle.taps_group_exchange.specs.declared.outcome.GroupOutcome.{GroupOutcome}
use Rattle.taps_group_exchange.specs.GroupSessions.{IsExchangeUnless}
use Rattle.taps_group_exchange.specs.declared.outcome.GroupOutcome.TheVariants as ends
use Rattle.taps_property.specs.declared.connection_props.ConnectionProps.{ConnectionProps}
use Rattle.taps_property.specs.declared.message_props.MessageProps.{MessageProps}
use Rattle.taps_stack.specs.declared.target.Target.{Target}
use Rattle.taps_group_exchange.specs.WorkedGroupSessions.{RightGroups, WrongGroups, JudgesWorkedGroups}

right_groups : (t : Target) (p : ConnectionProps) (m : MessageProps) → RightGroups t p m
right_groups t p m =
    record {
      clone = search rules;
      at_the_limit = search rules;
      clone_refused = record {
        session = record {
          stopped = Some ends.CloneAllFailed;
          cloned = (search rules, (record { each = refl; lawful = search rules }, (refl, (ends.CloneAllFailed, (refl, refl)))));
          exchanged = (refl, refl);
        };
        closes_by_place = refl;
      };
      clone_timed_out = record {
        session = record {
          stopped = Some ends.CloneTimeout;
          cloned = (search rules, (record { each = refl; lawful = search rules }, (refl, (ends.CloneTimeout, (refl, refl)))));
          exchanged = (refl, refl);
        };
        closes_by_place = refl;
      };
      clone_faulted = record {
        session = record {
          stopped = Some ends.SocketFault;
          cloned = (search rules, (record { each = refl; lawful = search rules }, (refl, (ends.SocketFault, (refl, refl)))));
          exchanged = (refl, refl);
        };
        closes_by_place = refl;
      };
      no_clone = search rules;
      by_priority = search rules;
      by_order = search rules;
      by_the_connections_own_priority = search rules;
    }

-- the outcome that ended it is told
ended_by : (stopped : Option GroupOutcome) (x o : GroupOutcome) (places : List Place) (calls : List Call) → stopped ≡ Some x → IsExchangeUnless stopped places calls o → o ≡ x
ended_by (Some y) x o places calls is h = (let same : y ≡ x = cc in h.1 ∙ same)
ended_by None x o places calls is h = cc

-- or there was an exchange
exchanged_by : (stopped : Option GroupOutcome) (o : GroupOutcome) (places : List Place) (calls : List Call) → stopped ≡ None → IsExchangeUnless stopped places calls o → IsInTurn (turn_of (initiate places)) calls
exchanged_by (Some y) o places calls is h = cc
exchanged_by None o places calls is h = h.1.1.in_turn

-- the socket of the send that is asked for, and until when
abbrev socket_in : Request → ℕ
socket_in (to_send socket bytes until) = socket
socket_in _ = 0

abbrev until_in : Request → ℕ
until_in (to_send socket bytes until) = until
until_in _ = 0

abbrev asked_socket : Turn → ℕ
asked_socket (asks r) = socket_in r
asked_socket (over o) = 0

abbrev asked_until : Turn → ℕ
asked_until (asks r) = until_in r
asked_until (over o) = 0

wrong_groups : (t : Target) (p : ConnectionProps) (m : MessageProps) → WrongGroups t p m
wrong_groups t p m =
    record {
      no_race = λ h. (let x = h.cloned.0 in absurd (omega arith));
      failure_ignored = λ h. (let x = ended_by h.stopped _ _ _ _ h.cloned.1.1.1.1.0 h.exchanged ∙ h.cloned.1.1.1.1.1 in cc);
      past_the_limit = λ h. (let x = h.cloned.0 in absurd (omega arith));
      the_less_urgent_first = λ h. (let x : 1 ≡ 0 = ap asked_socket (exchanged_by h.stopped _ _ _ h.cloned.1.1.1 h.exchanged).1.1.1.0 in absurd (omega arith));
      a_deadline_from_the_beginning = λ h. (let x : 10005 ≡ 10000 = ap asked_until (exchanged_by h.stopped _ _ _ h.cloned.1.1.1 h.exchanged).1.1.1.0 in absurd (omega arith));
    }

pub judged : (t : Target) (p : ConnectionProps) (m : MessageProps) → JudgesWorkedGroups t p m
judged t p m = record { right = right_groups t p m; wrong = wrong_groups t p m }
