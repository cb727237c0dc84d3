use Rattle.std.proofs.Common.{◌∙◌}
use Rattle.taps_endpoint.proofs.HostTables.{found, copied}
use Rattle.taps_endpoint.proofs.hosts.Hosts.find.Goals as goal

pub returns : goal.returns
returns c = copied c.get.result ∙ rw (c.get.ensures.value, ← c.self.view_is, ← c.as_str.ensures) (found c.as_str.result.now c.self.inside.table.entries)
