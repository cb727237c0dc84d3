use Rattle.std.proofs.Common.{◌≡◌, take, map}
use Rattle.std.specs.Prelude.{fold}
use Rattle.taps_endpoint.specs.DerivedAddresses.{with_port, with_address}
use Rattle.taps_endpoint.proofs.derive.add_all.Given as goal

abbrev pub invariant-loop-ip : goal.invariant-loop-ip
invariant-loop-ip l = l.found.keys ≡ fold with_address l.initial.found.keys (map (with_port l.port) (take l.ip-index l.ips))
