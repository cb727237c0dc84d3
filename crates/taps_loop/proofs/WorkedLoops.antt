-- The definitions judge the worked exchanges as they are to be judged.
use Rattle.std.proofs.Common.{rules}
use Rattle.taps_property.specs.declared.message_props.MessageProps.{MessageProps}
use Rattle.taps_loop.specs.WorkedLoops.{RightLoops, WrongLoops, JudgesWorkedLoops}

right : (p : MessageProps) → RightLoops p
right p =
    record {
      idle_at_once = search rules;
      four_bytes_under_way = search rules;
      one_byte_under_way = search rules;
      both_with_one_receive = search rules;
      another_connection_was_accepted = search rules;
      times_out_in_sending = search rules;
      the_other_is_closed = search rules;
      fails_in_hearing = search rules;
      peer_ends = search rules;
      bad_though_a_message_is_refused = search rules;
      refused_in_its_turn = search rules;
      expires_in_its_turn = search rules;
      heard_before_the_need_fell = search rules;
      waits_where_no_more_is_needed = search rules;
      ends_its_side = search rules;
    }

wrong : (p : MessageProps) → WrongLoops p
wrong p =
    record {
      needs_too_few = λ h. (let x = h.ends in cc);
      receives_first = λ h. (let x = h.in_turn.1.1.0 in cc);
      sends_twice_in_a_row = λ h. (let x = h.in_turn.1.0 in cc);
      receives_twice_in_a_row = λ h. (let x = h.in_turn.1.1.0 in cc);
      times_out_on_a_turn = λ h. (let x = h.ends in cc);
      times_out_though_a_message_waits = λ h. (let x = h.ends in cc);
      waits_too_long = λ h. (let x = h.in_turn.1.0 in cc);
      past_the_deadline = λ h. (let x = h.in_turn.0 in cc);
      on_the_other_socket = λ h. (let x = h.in_turn.0 in cc);
    }

pub judged : JudgesWorkedLoops
judged p = (right p, wrong p)
