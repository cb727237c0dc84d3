use Rattle.taps_app.specs.declared.kind.Kind.TheVariants as kinds
use Rattle.taps_app.proofs.Table.{of_kind}
use Rattle.taps_app.proofs.top.run_kind.Goals as goal

pub returns-in-Plan : goal.returns-in-Plan
returns-in-Plan g c = record { ran = of_kind g.N.Sockets.Becomes _ _ _ _ _ c.args.kind kinds.Plan _ _ _ _ _ _ _ _ c.in-Plan.is c.run_command.ensures.ran }

pub returns-in-Sim : goal.returns-in-Sim
returns-in-Sim g c = record { ran = of_kind g.N.Sockets.Becomes _ _ _ _ _ c.args.kind kinds.Sim _ _ _ _ _ _ _ _ c.in-Sim.is c.run_command-in-Sim.ensures.ran }

pub returns-in-Run : goal.returns-in-Run
returns-in-Run g c = record { ran = of_kind g.N.Sockets.Becomes _ _ _ _ _ c.args.kind kinds.Run _ _ _ _ _ _ _ _ c.in-Run.is c.run_command-in-Run.ensures.ran }

pub returns-in-Frame : goal.returns-in-Frame
returns-in-Frame g c = record { ran = of_kind g.N.Sockets.Becomes _ _ _ _ _ c.args.kind kinds.Frame _ _ _ _ _ _ _ _ c.in-Frame.is c.run_command-in-Frame.ensures.ran }

pub returns-in-Unframe : goal.returns-in-Unframe
returns-in-Unframe g c = record { ran = of_kind g.N.Sockets.Becomes _ _ _ _ _ c.args.kind kinds.Unframe _ _ _ _ _ _ _ _ c.in-Unframe.is c.run_command-in-Unframe.ensures.ran }
