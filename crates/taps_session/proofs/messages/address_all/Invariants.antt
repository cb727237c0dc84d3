use Rattle.std.proofs.Common.{◌≡◌, ◌++◌, drop, map}
use Rattle.taps_session.specs.FileGroups.{addressed_on, all_messages_on}
use Rattle.taps_session.proofs.messages.address_all.Given as goal

abbrev pub invariant-loop-spec : goal.invariant-loop-spec
invariant-loop-spec l = l.addressed.items ++ map (addressed_on l.pre l.stack) (drop l.spec-index l.pre.messages.items) ≡ all_messages_on l.pre l.stack
