use Rattle.std.proofs.Common.{◌<◌, ◌+◌}
use Rattle.std.proofs.lemmas.List.Elements.{All-same}
use Rattle.taps_group_exchange.specs.declared.addressed.Addressed.{Addressed}
use Rattle.taps_session.specs.FileGroups.{all_messages_on}
use Rattle.taps_session.proofs.Addressing.{few_addressed}
use Rattle.taps_session.proofs.messages.all_messages.Goals as goal

pub returns-in-Ok-clause-members : goal.returns-in-Ok-clause-members
returns-in-Ok-clause-members c =
    All-same (λ (a : Addressed). a.member < c.args.pre.now.exchange.clones + 1) c.in-Ok.addressed.items (all_messages_on c.args.pre.now c.args.stack) c.in-Ok.ensures
    (few_addressed c.args.pre.now c.args.stack c.requires.members)
