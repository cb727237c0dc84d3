use Rattle.std.proofs.Common.{◌≡◌, drop}
use Rattle.taps_endpoint.specs.Machines.{answer_from, answer_of}
use Rattle.taps_endpoint.proofs.machine.read.Given as goal

abbrev pub invariant-loop-index : goal.invariant-loop-index
invariant-loop-index g l = g.M.Machine.is_small l.state × (answer_of g.M.Machine.step g.M.Machine.at_end g.M.Machine.start l.text ≡ answer_from g.M.Machine.step g.M.Machine.at_end l.index l.state (drop l.index l.text))
