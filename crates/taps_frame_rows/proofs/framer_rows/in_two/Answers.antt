use Rattle.std.proofs.Common.{[]}
use Rattle.taps_frame_rows.proofs.framer_rows.in_two.Goals as goal

pub advance_in-requires : goal.advance_in-requires
advance_in-requires g c = ([], c.start_in.ensures)

pub advance_in-requires-in-More : goal.advance_in-requires-in-More
advance_in-requires-in-More g c = (_, c.in-More.ensures [] c.start_in.ensures)
