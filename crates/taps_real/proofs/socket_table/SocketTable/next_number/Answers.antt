use Rattle.std.proofs.Common.{subst, arith}
use Rattle.taps_socket.specs.Net.{IsGiven}
use Rattle.taps_real.specs.Tables.{net_of}
use Rattle.taps_real.proofs.Channels.{unused_past}
use Rattle.taps_real.proofs.socket_table.SocketTable.next_number.Goals as goal

pub returns-then-len-clause-given : goal.returns-then-len-clause-given
returns-then-len-clause-given c =
    let s = c.self.inside in
    let n = c.len-then-len.result in
    let count = c.self.invariant.1.count_is in
    subst (λ v. IsGiven n (net_of v)) c.self.view_is (record {
      number = λ q there. (let below = c.self.invariant.0.named_below q there in omega (arith, c.len-then-len.ensures));
      unused = unused_past s.channels.items n (omega (arith, c.len-then-len.ensures));
    })
