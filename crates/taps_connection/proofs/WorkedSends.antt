-- The definitions judge the worked turns as they are to be judged.
use Rattle.std.proofs.Common.{refl}
use Rattle.taps_property.specs.declared.message_props.MessageProps.{MessageProps}
use Rattle.taps_connection.specs.WorkedSends.{WorkedTurns, WrongRuns, JudgesWorkedSends}

turns : (p : MessageProps) → WorkedTurns p
turns p =
    record {
      begins_with_the_first = refl;
      keeps_the_rest = refl;
      keeps_it_when_timed = refl;
      begins_the_second_at_its_index = refl;
      passes_over_an_expired_one = refl;
      expires_at_its_lifetime = refl;
      ends_behind_a_final_one = refl;
      ended = refl;
      ends_a_stream_with_no_layer = refl;
      refuses_its_second_message = refl;
      datagrams_one_by_one = refl;
      refuses_an_empty_datagram = refl;
    }

wrong : (p : MessageProps) → WrongRuns p
wrong p =
    record {
      sends_the_rest_anew = λ h. (let x = h.0 in cc);
      sends_at_the_next_index = λ h. (let x = h.0 in cc);
      skips_a_message = λ h. (let x = h.0 in cc);
      ends_before_the_final_one = λ h. (let x = h.0 in cc);
      ends_twice = λ h. (let x = h.0 in cc);
      sends_until_another_time = λ h. (let x = h.0 in cc);
      sends_on_another_socket = λ h. (let x = h.0 in cc);
      sends_when_all_is_out = λ h. (let x = h.0 in cc);
    }

pub judged : JudgesWorkedSends
judged p = (turns p, wrong p)
