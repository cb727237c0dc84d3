-- The framers of a chain keep the laws that those of the shelf keep.
use Rattle.std.proofs.Common.{◌≡◌, ℕ, zero, suc, ◌+◌, ◌<◌, length, map, take, get_or, sym, subst, arith, List, [], ◌∷◌, Option, Some, None, refl}
use Rattle.std.specs.Prelude.{slice_get}
use Rattle.taps_framer.specs.Layers.{Layer, IsFramer}
use Rattle.taps_chain.specs.ChainLaws.{AreFramers}
use Rattle.taps_command.specs.Places.{chain_of}

abbrev IsFramerIf : Option Layer → Type 0
IsFramerIf None = Unit {0}
IsFramerIf (Some f) = IsFramer f

at_place : (shelf : List Layer) (place : ℕ) → AreFramers shelf → IsFramerIf (slice_get shelf place)
at_place [] place laws = tt
at_place (f ∷ shelf) zero laws = laws.0
at_place (f ∷ shelf) (suc place) laws = at_place shelf place laws.1

with_next : (o : Option Layer) (shelf : List Layer) (place : ℕ) (places : List ℕ) → slice_get shelf place ≡ o → IsFramerIf o → AreFramers (chain_of shelf places) → AreFramers (chain_of shelf (place ∷ places))
with_next None shelf place places e law laws = rw e laws
with_next (Some f) shelf place places e law laws = rw e (law, laws)

pub chain_laws : (shelf : List Layer) (places : List ℕ) → AreFramers shelf → AreFramers (chain_of shelf places)
chain_laws shelf [] laws = tt
chain_laws shelf (place ∷ places) laws = with_next (slice_get shelf place) shelf place places refl (at_place shelf place laws) (chain_laws shelf places laws)

-- one framer more of a shelf
framers_suc : {X : Type 0} (layer_of : X → Layer) (items : List X) (k : ℕ) (item : X) → k < length items → item ≡ get_or items k item → IsFramer (layer_of item) →
    AreFramers (take k (map layer_of items)) → AreFramers (take (suc k) (map layer_of items))
framers_suc layer_of [] k item less e law laws = absurd (omega (arith, less))
framers_suc layer_of (x ∷ items) zero item less e law laws = (subst (λ v. IsFramer (layer_of v)) e law, tt)
framers_suc layer_of (x ∷ items) (suc k) item less e law laws = (laws.0, framers_suc layer_of items k item (omega (arith, less)) e law laws.1)

pub framers_more : {X : Type 0} (layer_of : X → Layer) (items : List X) (k : ℕ) (item : X) → k < length items → item ≡ get_or items k item → IsFramer (layer_of item) →
    AreFramers (take k (map layer_of items)) → AreFramers (take (k + 1) (map layer_of items))
framers_more layer_of items k item less e law laws =
    let next : k + 1 ≡ suc k = omega arith in
    subst (λ v. AreFramers (take v (map layer_of items))) (sym next) (framers_suc layer_of items k item less e law laws)
