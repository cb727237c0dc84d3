use Rattle.std.proofs.Common.{subst}
use Rattle.taps_socket.specs.Net.{IsGiven}
use Rattle.taps_memory.specs.Memory.{net_of}
use Rattle.taps_memory.proofs.Linked.{absent_at}
use Rattle.taps_memory.proofs.Traffics.{unused_at}
use Rattle.taps_memory.proofs.memory_net.MemoryNet.next_number.Goals as goal

pub returns-clause-given : goal.returns-clause-given
returns-clause-given c =
    let s = c.self.inside in
    subst (λ v. IsGiven s.given (net_of v)) c.self.view_is (record {
      number = c.self.invariant.0.named_below;
      unused = unused_at s.links.items s.given (absent_at _ s.given s.links.items c.self.invariant.1);
    })
