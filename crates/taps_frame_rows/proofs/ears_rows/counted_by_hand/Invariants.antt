use Rattle.taps_frame_rows.proofs.ears_rows.counted_by_hand.Given as goal

abbrev pub ghosts-counted : goal.ghosts-counted
ghosts-counted g a = record { name = a.blank.name; parts = a.blank.parts }
