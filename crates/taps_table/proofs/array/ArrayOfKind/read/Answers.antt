use Rattle.std.proofs.Common.{◌≡◌, ◌≤◌, Some, length, rules, arith}
use Rattle.toml.specs.Data.{as_array}
use Rattle.toml.specs.View.{view, array_view}
use Rattle.taps_table.specs.Places.{place_text}
use Rattle.taps_table.specs.Values.{array_of}
use Rattle.taps_table.proofs.Items.{array_refused}
use Rattle.taps_table.proofs.array.ArrayOfKind.read.Goals as goal

pub returns-in-Err : goal.returns-in-Err
unfolding array_of
returns-in-Err g c =
    let few : length c.in-Some.values.now.items ≤ c.args.self.now.most = search (rules, arith) in
    let is : as_array (view c.args.value.now) ≡ Some (array_view c.in-Some.values.now) = search rules in
    rw is (array_refused c.args.self.now.most (g.K.Item.reads_item c.args.self.now.items) (place_text c.args.place.now) c.in-Some.values.now.items c.in-Err.refused few c.in-Err.ensures)
