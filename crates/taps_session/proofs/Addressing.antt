-- The messages of a file are of members that there are.
use Rattle.std.proofs.Common.{◌≤◌, ◌<◌, ◌+◌, arith}
use Rattle.std.specs.List.{All}
use Rattle.std.proofs.lemmas.List.Elements.{All-map, All-weaker}
use Rattle.taps_stack.specs.declared.stack.Stack.{Stack}
use Rattle.taps_preconnection.specs.declared.message.MessageSpec.{MessageSpec}
use Rattle.taps_preconnection.specs.declared.preconnection.Preconnection.{Preconnection}
use Rattle.taps_group_exchange.specs.declared.addressed.Addressed.{Addressed}
use Rattle.taps_command.specs.Ready.{HasMembers}
use Rattle.taps_session.specs.FileGroups.{addressed_on, all_messages_on}

pub few_addressed : (pre : Preconnection) (stack : Stack) → HasMembers pre → All (λ (a : Addressed). a.member < pre.exchange.clones + 1) (all_messages_on pre stack)
few_addressed pre stack h =
    All-map (λ (a : Addressed). a.member < pre.exchange.clones + 1) (addressed_on pre stack) pre.messages.items
    (All-weaker (λ (m : MessageSpec). m.member ≤ pre.exchange.clones) (λ (m : MessageSpec). m.member < pre.exchange.clones + 1) (λ m few. omega arith) pre.messages.items h.messages)
