use Rattle.taps_memory_rows.proofs.Others.{other_live}
use Rattle.taps_memory_rows.proofs.ends.let_both_go.Goals as goal

pub let_go-requires-2 : goal.let_go-requires-2
let_go-requires-2 g c = record { live = other_live _ c.args.one c.args.other (g.N.Sockets.net c.args.net.now) (g.N.Sockets.net c.let_go.new.net) c.requires c.let_go.ensures.others }
