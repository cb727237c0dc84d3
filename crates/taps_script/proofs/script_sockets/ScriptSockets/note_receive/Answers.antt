use Rattle.std.proofs.Common.{sym, subst}
use Rattle.taps_script.specs.ScriptNet.{IsReadable, read_by}
use Rattle.taps_script.proofs.script_sockets.ScriptSockets.note_receive.Goals as goal

pub note_read-requires-clause-within : goal.note_read-requires-clause-within
note_read-requires-clause-within c =
    λ channel at. (let a = c.args.self.now in
    subst (IsReadable a.lines channel) (sym (c.count_read-count.ensures channel at)) (subst (λ answer. IsReadable a.lines channel (read_by channel.stream answer)) c.in-Got.is (c.requires.readable channel at)))
