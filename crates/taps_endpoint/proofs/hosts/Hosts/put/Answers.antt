use Rattle.std.proofs.Common.{◌≡◌, ◌∙◌}
use Rattle.taps_endpoint.specs.Hosts.{put_host}
use Rattle.taps_endpoint.proofs.HostTables.{table, put_so, find_put, find_other}
use Rattle.taps_endpoint.proofs.hosts.Hosts.put.Goals as goal

is_put : (c : goal.After-drop-name-inside-2) → table c.insert.new.self.entries ≡ put_host c.args.self.now c.args.name c.args.ips.items
is_put c = put_so c.in_ok-key.key c.args.ips c.self.inside.table.entries c.insert.new.self.entries c.args.self.now c.args.name c.in_ok-insert.ensures.entries (c.in_ok-key.ensures.ok ∙ c.as_str.ensures) c.self.view_is

pub returns-clause-table : goal.returns-clause-table
returns-clause-table c = is_put c

pub returns-clause-set : goal.returns-clause-set
returns-clause-set c = rw (is_put c) (find_put c.args.self.now c.args.name c.args.ips.items)

pub returns-clause-others : goal.returns-clause-others
returns-clause-others c = λ other apart. rw (is_put c) (find_other c.args.self.now c.args.name c.args.ips.items other apart)
