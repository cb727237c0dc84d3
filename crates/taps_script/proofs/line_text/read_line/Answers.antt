use Rattle.taps_script.proofs.LineTexts.{found, only}
use Rattle.taps_script.proofs.line_text.read_line.Goals as goal

pub returns-clause-found : goal.returns-clause-found
returns-clause-found c = found c.args.text.now _ c.line_in.ensures

pub returns-clause-only : goal.returns-clause-only
returns-clause-only c = only c.args.text.now _ c.line_in.ensures
