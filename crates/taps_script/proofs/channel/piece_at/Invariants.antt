use Rattle.std.proofs.Common.{◌≡◌, drop, length}
use Rattle.taps_script.specs.DataAnswers.{first_piece}
use Rattle.taps_script.specs.Channels.{cut, total}
use Rattle.taps_script.proofs.channel.piece_at.Given as goal

abbrev pub invariant-loop-length : goal.invariant-loop-length
invariant-loop-length l =
    record {
      lengths : total (drop l.length-index l.lengths) ≡ length l.rest;
      same : first_piece (drop l.left (cut (drop l.length-index l.lengths) l.rest)) ≡ first_piece (drop l.place (cut l.lengths l.bytes));
    }
