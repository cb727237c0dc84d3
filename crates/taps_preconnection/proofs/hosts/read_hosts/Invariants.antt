use Rattle.std.proofs.Common.{◌≡◌, []}
use Rattle.toml.specs.View.{members_view, table_view}
use Rattle.taps_table.specs.Places.{place_text}
use Rattle.taps_preconnection.specs.Endpoints.{hosts_after}
use Rattle.taps_table.specs.Keys.{in_byte_order}
use Rattle.taps_preconnection.proofs.hosts.read_hosts.Given as goal

abbrev pub invariant-loop-key : goal.invariant-loop-key
invariant-loop-key l = hosts_after (place_text l.place) (members_view l.key-iterator) l.hosts ≡ hosts_after (place_text l.place) (in_byte_order (table_view l.table)) []
