use Rattle.std.proofs.Common.{◌≡◌, drop}
use Rattle.taps_memory.specs.Listeners.{listener_among}
use Rattle.taps_memory.proofs.listening.listener_among.Given as goal

abbrev pub invariant-loop-listener : goal.invariant-loop-listener
invariant-loop-listener l = listener_among l.listening l.target ≡ listener_among (drop l.listener-index l.listening) l.target
