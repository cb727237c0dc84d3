use Rattle.std.proofs.Common.{◌≡◌, ◌≤◌, ◌+◌, ◌-◌, ◌++◌, map, length, vec_len, vec_capacity}
use Rattle.taps_rank.specs.Turns.{turns_after}
use Rattle.taps_candidate.specs.Candidates.{keyed_among}
use Rattle.taps_candidate.proofs.Taking.{reached_before, families_before}
use Rattle.taps_candidate.proofs.candidate.add_level.Given as goal

abbrev pub invariant-loop-place : goal.invariant-loop-place
invariant-loop-place l = record {
  candidates : l.candidates.items ≡ l.fn.candidates.items ++ map (keyed_among l.level l.path l.addresses) (reached_before l.path l.level.stack l.addresses l.place);
  room : vec_len l.candidates + (length l.addresses - l.place) ≤ vec_capacity l.candidates;
  grown : vec_capacity l.fn.candidates ≤ vec_capacity l.candidates;
  turns : l.turns ≡ turns_after (families_before l.path l.level.stack l.addresses l.place);
}
