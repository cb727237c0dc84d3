use Rattle.taps_command.proofs.FileMembers.{has_members}
use Rattle.taps_command.proofs.checks.read_value.Goals as goal

pub returns-in-Ok-clause-members : goal.returns-in-Ok-clause-members
returns-in-Ok-clause-members c = has_members c.args.bytes.now c.in-Ok.pre c.in-Ok.ensures.meaning
