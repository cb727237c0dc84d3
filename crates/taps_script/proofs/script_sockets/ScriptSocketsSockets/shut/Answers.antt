use Rattle.taps_script.proofs.Named.{shutter_named}
use Rattle.taps_script.proofs.script_sockets.ScriptSocketsSockets.shut.Goals as goal

pub note-requires-clause-quiet : goal.note-requires-clause-quiet
note-requires-clause-quiet c = shutter_named c.args.self.now.trace c.args.socket c.requires.may
