use Rattle.std.proofs.Common.{◌≡◌}
use Rattle.toml.specs.View.{members_view, table_view}
use Rattle.taps_table.specs.Keys.{first_unknown, least_unknown}
use Rattle.taps_table.proofs.keys.find_unknown.Given as goal

abbrev pub invariant-loop-key : goal.invariant-loop-key
invariant-loop-key g l =
    first_unknown (g.K.Keys.keys l.keys).names (members_view l.key-iterator) ≡ least_unknown (g.K.Keys.keys l.keys).names (table_view l.table)
