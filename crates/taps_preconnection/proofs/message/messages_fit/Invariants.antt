use Rattle.std.proofs.Common.{◌≡◌, [], take, drop}
use Rattle.taps_preconnection.specs.Messages.{messages_fit}
use Rattle.taps_preconnection.proofs.message.messages_fit.Given as goal

abbrev pub invariant-loop-index : goal.invariant-loop-index
invariant-loop-index l =
    messages_fit l.clones (take l.index l.messages) (drop l.index l.messages) ≡ messages_fit l.clones [] l.messages
