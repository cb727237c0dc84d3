use Rattle.taps_memory.specs.Memory.{net_of}
use Rattle.taps_memory_rows.proofs.Joins.{joined_so}
use Rattle.taps_memory_rows.proofs.hear.heard_over_memory.Goals as goal

pub returns : goal.returns
returns g c =
    let net = net_of c.args.net.now in
    let from = c.args.from.now.socket in
    let to = c.args.to.now.socket in
    λ sent front given wrote reads. c.heard_as_sent.ensures (net.traffic from).written (net.traffic to).read sent front given
    (joined_so (net.traffic from).written (net.traffic to).read (c.joined.ensures from to c.requires.ends).there) wrote reads
