use Rattle.std.proofs.Common.{◌-◌, ℕ, List, []}
use Rattle.taps_framer.specs.Layers.{Layer}
use Rattle.taps_group.specs.Closes.{IsOpen}
use Rattle.taps_group.specs.Groups.{IsSoundGroup}
use Rattle.taps_group_exchange.specs.declared.addressed.Addressed.{Addressed}
use Rattle.taps_cloning.specs.GroupRules.{terms_of}
use Rattle.taps_cloning.specs.Opening.{IsOpenedGroup}
use Rattle.taps_cloning.proofs.Growing.{IsOpening}
use Rattle.taps_cloning.proofs.opening.open_group.Given as goal

abbrev pub invariant-cloning : goal.invariant-cloning
invariant-cloning g l =
    record {
      sound : IsSoundGroup (λ vtable. (g.dyn-1.0.entry vtable).1) l.group;
      opened : IsOpen (g.N.Sockets.net l.net) l.group.members.items;
      opening : (fs : List Layer) (priorities : List ℕ) (messages : List Addressed) (first : ℕ) →
          IsOpenedGroup (λ vtable. (g.dyn-1.0.entry vtable).1) (terms_of l.terms fs priorities messages) first (g.N.Sockets.net l.fn.net) [] l.fn.group →
          IsOpening (λ vtable. (g.dyn-1.0.entry vtable).1) g.N.Sockets.Becomes l.fn.net l.net (g.N.Sockets.net l.fn.net) (g.N.Sockets.net l.net) (terms_of l.terms fs priorities messages) first (l.leaf - l.terms.leaf) l.group;
    }
