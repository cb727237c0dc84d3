use Rattle.std.proofs.Common.{sym}
use Rattle.taps_script.proofs.ScriptTexts.{first_text, rest_shorter, last_text}
use Rattle.taps_script.proofs.script.split_line.Goals as goal

pub returns-in-Some-clause-texts : goal.returns-in-Some-clause-texts
returns-in-Some-clause-texts c = first_text c.args.bytes.now (c.in-Some.parts.0.now, c.in-Some.parts.1.now) (sym c.in-Some.ensures)

pub returns-in-Some-clause-shorter : goal.returns-in-Some-clause-shorter
returns-in-Some-clause-shorter c = rest_shorter c.args.bytes.now (c.in-Some.parts.0.now, c.in-Some.parts.1.now) (sym c.in-Some.ensures)

pub returns-in-None : goal.returns-in-None
returns-in-None c = record { texts = last_text c.args.bytes.now c.requires (sym c.in-None.ensures); shorter = c.requires }
