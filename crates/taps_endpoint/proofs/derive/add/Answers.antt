use Rattle.std.proofs.Common.{refl, ◌∙◌}
use Rattle.taps_endpoint.proofs.SameAddresses.{any_same}
use Rattle.taps_endpoint.proofs.derive.add.Goals as goal

pub returns : goal.returns
returns c = c.in_ok-insert.ensures.keys ∙ rw (any_same c.args.address c.args.found.now.keys) refl
