use Rattle.std.proofs.Common.{◌≡◌, [], take}
use Rattle.std.specs.Prelude.{fold, flat_map}
use Rattle.taps_endpoint.specs.DerivedAddresses.{with_address, addresses_of}
use Rattle.taps_endpoint.proofs.derive.derive_addresses.Given as goal

abbrev pub invariant-loop-remote : goal.invariant-loop-remote
invariant-loop-remote l = l.found.keys ≡ fold with_address [] (flat_map (addresses_of l.hosts) (take l.remote-index l.remote-items))
