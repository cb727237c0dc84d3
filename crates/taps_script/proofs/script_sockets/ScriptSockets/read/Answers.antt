use Rattle.taps_script.proofs.ScriptLaws.{found, only}
use Rattle.taps_script.proofs.script_sockets.ScriptSockets.read.Goals as goal

pub returns-clause-found : goal.returns-clause-found
returns-clause-found c = found (λ s. s.lines) c.args.text.now _ c.make.ensures.meaning

pub returns-clause-only : goal.returns-clause-only
returns-clause-only c = only (λ s. s.lines) c.args.text.now _ c.make.ensures.meaning
