use Rattle.std.proofs.Common.{◌≡◌, ◌++◌, drop, map}
use Rattle.std.specs.List.{flat_map}
use Rattle.taps_endpoint.specs.declared.remote.Remote.TheVariants.{Literal}
use Rattle.taps_session.specs.FileSessions.{address_of}
use Rattle.taps_session.proofs.plan.literals.Given as goal

abbrev pub invariant-loop-local : goal.invariant-loop-local
invariant-loop-local l = l.literals.items ++ map Literal (flat_map address_of (drop l.local-index l.pre.locals.items)) ≡ map Literal (flat_map address_of l.pre.locals.items)
