use Rattle.taps_stack.specs.StackTable.{is_stream}
use Rattle.taps_socket.specs.declared.answers.ListenAnswer.TheVariants.{Listening}
use Rattle.taps_socket.specs.declared.item.Item.TheVariants as item
use Rattle.taps_real.specs.Tables.{net_of}
use Rattle.taps_real.proofs.Answered.{given_after, listened}
use Rattle.taps_real.proofs.real_sockets.RealSocketsSockets.listen.Goals as goal

pub returns-in-Ok-clause-net : goal.returns-in-Ok-clause-net
returns-in-Ok-clause-net g c =
    given_after _ c.args.self.now c.note_listening.new.self (item.Listening c.args.target c.in-Ok.socket c.time-at.result) c.time-at.result (is_stream c.args.target.stack) c.self.view_is c.note_listening.ensures

pub returns-in-Ok-clause-becomes : goal.returns-in-Ok-clause-becomes
returns-in-Ok-clause-becomes g c =
    listened (net_of c.args.self.now) (net_of c.note_listening.new.self) c.args.target (Listening c.in-Ok.socket c.time-at.result) (returns-in-Ok-clause-net g c) c.requires.stream c.time-at.ensures c.in-Ok.ensures.given
