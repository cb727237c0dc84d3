use Rattle.std.proofs.Common.{◌≡◌, ◌++◌, ◌==◌, drop, map, filter}
use Rattle.taps_preconnection.specs.declared.message.MessageSpec.{MessageSpec}
use Rattle.taps_session.specs.FileMessages.{message_on, messages_on}
use Rattle.taps_session.proofs.messages.messages.Given as goal

abbrev pub invariant-loop-spec : goal.invariant-loop-spec
invariant-loop-spec l =
    l.messages.items ++ map (message_on l.pre l.stack) (filter (λ (spec : MessageSpec). spec.member == l.place) (drop l.spec-index l.pre.messages.items))
    ≡ messages_on l.pre l.stack l.place
