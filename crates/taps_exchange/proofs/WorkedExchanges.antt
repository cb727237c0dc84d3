-- The definitions judge the worked exchanges as they are to be judged.
use Rattle.std.proofs.Common.{◌≡◌, ◌≤◌, ◌+◌, Some, None, refl, rules, arith}
use Rattle.taps_property.specs.declared.message_props.MessageProps.{MessageProps}
use Rattle.taps_exchange.specs.WorkedExchanges.{RightExchanges, WrongExchanges, RightGroups, JudgesWorkedExchanges}

right : (p : MessageProps) → RightExchanges p
right p =
    record {
      idle = search rules;
      echoed = search rules;
      peer_ends = search rules;
      expires_while_held = search rules;
      timed = search rules;
      timed_in_hearing = search rules;
      heard_at_once = search rules;
      heard_byte_by_byte = search rules;
      ends_its_side_behind_a_final_one = search rules;
      not_speakable = search rules;
      fails = search rules;
      fails_in_hearing = search rules;
      bad_frame = search rules;
      one_message_each_way = search rules;
      an_empty_message_has_no_call = search rules;
      refuses_its_second_message = search rules;
      datagram_each_way = search rules;
      refuses_an_empty_datagram = search rules;
      expired_by_a_sent = record { lifetime = 50; limited = refl; sent = 60; last = refl; passed = λ r. omega arith };
    }

wrong : (p : MessageProps) → WrongExchanges p
wrong p =
    record {
      receives_first = λ h. (let x = h.in_turn.1.0 in cc);
      other_bytes = λ h. (let x = h.in_turn.0 in cc);
      the_rest_from_the_beginning = λ h. (let x = h.in_turn.0 in cc);
      done_too_soon = λ h. (let x = h.ends in cc);
      timed_without_a_call = λ h. (let x = h.ends in cc);
      done_though_timed = λ h. (let x = h.ends in cc);
      side_not_ended = λ h. (let x = h.ends in cc);
      peer_ended_with_enough_heard = λ h. (let x = h.in_turn.0 in cc);
      counts_the_expired_as_done = λ h. (let x = h.ends in cc);
      sends_the_expired = λ h. (let x = h.in_turn.0 in cc);
      on_another_socket = λ h. (let x = h.in_turn.0 in cc);
      past_the_deadline = λ h. (let x = h.in_turn.0 in cc);
      a_stream_before_its_end = λ h. (let x = h.ends in cc);
      expired_too_soon = λ h. (
          let life : Some 50 ≡ Some h.lifetime = h.limited in
          let sent : Some 59 ≡ Some h.sent = h.last in
          let same : 50 ≡ h.lifetime = cc in
          let by : 59 ≡ h.sent = cc in
          let passed : 10 + h.lifetime ≤ h.sent = h.passed (omega arith, tt) in
          absurd (omega (arith, same, by, passed)));
      expired_by_a_receive = λ h. (let x : None ≡ Some h.sent = h.last in cc);
      expired_without_a_lifetime = λ h. (let x : None ≡ Some h.lifetime = h.limited in cc);
    }

groups : (p : MessageProps) → RightGroups p
groups p = record { by_priority = search rules; by_order = search rules; by_other_order = search rules }

pub judged : JudgesWorkedExchanges
judged p = (right p, (wrong p, groups p))
