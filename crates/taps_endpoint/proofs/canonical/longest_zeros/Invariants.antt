use Rattle.std.proofs.Common.{◌≡◌, ◌+◌, ◌≤◌, length, drop}
use Rattle.taps_endpoint.specs.CanonicalTexts.{zeros, longest}
use Rattle.taps_endpoint.proofs.canonical.longest_zeros.Given as goal

abbrev pub invariant-loop-index : goal.invariant-loop-index
invariant-loop-index l =
    (l.zeros ≡ zeros (drop l.index l.fields)) × (l.most ≡ (longest (drop l.index l.fields)).1)
    × (l.start ≡ l.index + (longest (drop l.index l.fields)).0)
    × (l.index + l.zeros ≤ length l.fields) × (l.start + l.most ≤ length l.fields)
