-- The layers of a chain, and of ears.
use Rattle.std.specs.Prelude.{List, map}
use Rattle.taps_framer.specs.Layers.{Layer}
use Rattle.taps_framer.specs.declared.framer.Framer as framer
use Rattle.taps_chain.specs.declared.chain.Chain.{Chain}

-- what each framer of a chain means, by the meanings that boxed framers have
abbrev pub layers_of : {X : Type 0} {F : X → Type 0} → ((x : X) → framer.Ghosts (F x)) → Chain X F → List Layer
layers_of boxed chain = map (λ b. (boxed b.now.vtable).layer b.now.value) chain.framers.items
