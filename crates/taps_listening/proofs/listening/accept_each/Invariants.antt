use Rattle.std.proofs.Common.{◌*◌}
use Rattle.taps_chain.specs.Layers.{layers_of}
use Rattle.taps_listening.specs.Accepts.{KeepsListening, PreservesNamed}
use Rattle.taps_listening.specs.ListenRules.{rules_of}
use Rattle.taps_listening.proofs.SoFar.{IsSoFar}
use Rattle.taps_listening.proofs.listening.accept_each.Given as goal

abbrev pub invariant-accepting : goal.invariant-accepting
invariant-accepting g l =
    record {
      so_far : IsSoFar g.N.Sockets.Becomes (rules_of l.service (layers_of (λ vtable. (g.dyn-1.0.entry vtable).1) l.chain) l.messages) l.fn.net l.net l.listener l.first l.place l.outcome l.members.items;
      keeps : KeepsListening l.listener (6 * l.place) (g.N.Sockets.net l.fn.net) (g.N.Sockets.net l.net);
      others : PreservesNamed (g.N.Sockets.net l.fn.net) (g.N.Sockets.net l.net);
    }
