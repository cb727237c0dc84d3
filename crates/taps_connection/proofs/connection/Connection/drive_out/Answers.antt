use Rattle.taps_stack.specs.StackTable.{is_stream}
use Rattle.taps_connection.proofs.Holding.{held_after}
use Rattle.taps_connection.proofs.connection.Connection.drive_out.Goals as goal

pub returns-clause-held : goal.returns-clause-held
returns-clause-held g c =
    let d = c.drive_out.ensures.driven in
    held_after _ c.args.self.now.socket c.args.until (is_stream c.args.self.now.stack) c.args.self.now.receiver.ended _ _ c.args.self.now.sender c.drive_out.new.self c.drive_out.result d.calls d.pushed_by c.drive_out.ensures.adds.trace c.requires.held
