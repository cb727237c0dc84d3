use Rattle.std.proofs.Common.{◌≡◌, take}
use Rattle.taps_endpoint.proofs.derive.list_of.Given as goal

abbrev pub invariant-loop-address : goal.invariant-loop-address
invariant-loop-address l = l.list.items ≡ take l.address-index l.addresses
