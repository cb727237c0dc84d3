use Rattle.taps_stack.specs.StackTable.{is_stream}
use Rattle.taps_socket.specs.declared.answers.StartAnswer.TheVariants.{Started}
use Rattle.taps_socket.specs.declared.item.Item.TheVariants as item
use Rattle.taps_real.specs.Tables.{net_of}
use Rattle.taps_real.proofs.Answered.{given_after, started}
use Rattle.taps_real.proofs.real_sockets.RealSocketsSockets.start.Goals as goal

pub returns-in-Ok-clause-net : goal.returns-in-Ok-clause-net
returns-in-Ok-clause-net g c =
    given_after _ c.args.self.now c.note_start.new.self (item.Started c.args.leaf c.args.target c.in-Ok.socket c.time-at.result) c.time-at.result (is_stream c.args.target.stack) c.self.view_is c.note_start.ensures

pub returns-in-Ok-clause-becomes : goal.returns-in-Ok-clause-becomes
returns-in-Ok-clause-becomes g c =
    started (net_of c.args.self.now) (net_of c.note_start.new.self) c.args.leaf c.args.target (Started c.in-Ok.socket c.time-at.result) (returns-in-Ok-clause-net g c) c.time-at.ensures c.in-Ok.ensures.given
