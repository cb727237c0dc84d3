use Rattle.std.proofs.Common.{◌≡◌, ◌++◌, drop, map}
use Rattle.taps_app.specs.Frame.{bodies_of}
use Rattle.taps_app.proofs.framing.bodies.Given as goal

abbrev pub invariant-loop-message : goal.invariant-loop-message
invariant-loop-message l = map (λ body. body.now) l.bodies.items ++ bodies_of (drop l.message-index l.messages) ≡ bodies_of l.messages
