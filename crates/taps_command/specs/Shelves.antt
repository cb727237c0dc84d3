-- The shelf, from which the framers of a file are taken by their names (local).
use Rattle.std.specs.Prelude.{List, map}
use Rattle.taps_framer.specs.Layers.{Layer}
use Rattle.taps_framer.specs.declared.framer.Framer as framer
use Rattle.taps_command.specs.declared.shelf.Shelf.{Shelf}

-- what each framer of the shelf means, by the meanings that boxed framers have
abbrev pub layers_on : {X : Type 0} {F : X → Type 0} → ((x : X) → framer.Ghosts (F x)) → Shelf X F → List Layer
layers_on boxed shelf = map (λ b. (boxed b.vtable).layer b.value) shelf.framers.now.items
