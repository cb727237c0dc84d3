-- The definitions answer the worked sends and receives as they are to be answered.
use Rattle.std.proofs.Common.{refl}
use Rattle.taps_race_rows.specs.WorkedScripts.{WorkedSends, WorkedReceives, JudgesWorkedScripts}

sends : WorkedSends
sends =
    record {
      all = refl;
      take_1 = refl;
      take_more = refl;
      datagram_whole = refl;
      held_to_the_end = refl;
      held_past_the_end = refl;
      held_before = refl;
      before_the_failure = refl;
      at_the_failure = refl;
      held_into_the_failure = refl;
      an_end_stops_no_send = refl;
    }

receives : WorkedReceives
receives =
    record {
      all = refl;
      as_asked = refl;
      the_rest = refl;
      give_1 = refl;
      give_more_than_asked = refl;
      two_lines_are_one_stream = refl;
      nothing_comes = refl;
      at_the_end_of_time_asked = refl;
      too_late = refl;
      bytes_before_the_end = refl;
      the_end = refl;
      the_end_later = refl;
      bytes_before_the_failure = refl;
      the_failure = refl;
      first_datagram = refl;
      second_datagram = refl;
      give_cuts_no_datagram = refl;
      datagrams_do_not_end = refl;
      echo = refl;
      echo_of_the_rest = refl;
      echo_of_datagrams = refl;
      past_the_end_of_time = refl;
    }

pub judged : JudgesWorkedScripts
judged = record { sends = sends; receives = receives }
