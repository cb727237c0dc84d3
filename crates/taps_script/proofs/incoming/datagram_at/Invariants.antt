use Rattle.std.proofs.Common.{◌≡◌, drop}
use Rattle.taps_script.specs.ScriptTexts.{LinesFit}
use Rattle.taps_script.specs.PeerTimes.{arrived}
use Rattle.taps_script.specs.DataAnswers.{first_piece}
use Rattle.taps_script.proofs.incoming.datagram_at.Given as goal

abbrev pub invariant-loop-line : goal.invariant-loop-line
invariant-loop-line l =
    record {
      fit : LinesFit (drop l.line-index l.lines);
      same : first_piece (drop l.left (arrived l.done l.now (drop l.line-index l.lines))) ≡ first_piece (drop l.place (arrived l.done l.now l.lines));
    }
