use Rattle.taps_script.proofs.Named.{live_named}
use Rattle.taps_script.proofs.script_sockets.ScriptSocketsSockets.close.Goals as goal

pub note_close-requires-clause-named : goal.note_close-requires-clause-named
note_close-requires-clause-named c = live_named c.args.self.now.trace c.args.socket c.requires.live
