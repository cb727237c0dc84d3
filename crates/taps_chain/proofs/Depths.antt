-- A layer at a depth, the layers above it, and those below.
use Rattle.std.proofs.Common.{◌≡◌, ℕ, zero, suc, ◌+◌, ◌<◌, List, [], ◌∷◌, ◌++◌, length, map, Option, Some, refl, ap, sym, subst, ◌∙◌, arith, get_or, take, drop, add-one}
use Rattle.std.specs.List.{slice_get}
use Rattle.std.proofs.Math.Seq.{take-suc}
use Rattle.std.proofs.lemmas.List.{map-append}
use Rattle.std.proofs.lemmas.Option.{slice_get-map, slice_get_read}
use Rattle.taps_framer.specs.Layers.{Layer, IsFramer}
use Rattle.taps_chain.specs.ChainLaws.{AreFramers}

-- what an element that was read means
pub meant_at : {B : Type 0} (see : B → Layer) (bs : List B) (n d : ℕ) (b : B) → n ≡ length bs → d < n → b ≡ get_or bs d b → slice_get (map see bs) d ≡ Some (see b)
meant_at see bs n d b e h r = rw (slice_get-map, slice_get_read bs n d b e h r) refl

-- one framer more is taken from a shelf
pub taken_more : {B C : Type 0} (see : B → Layer) (seen : C → Layer) (shelf : List B) (ps : List ℕ) (bs : List C) (i p : ℕ) (b : B) (c : C) → i < length ps → p ≡ get_or ps i 0 → p < length shelf → b ≡ get_or shelf p b → seen c ≡ see b →
    map Some (map seen bs) ≡ map (slice_get (map see shelf)) (take i ps) → map Some (map seen (bs ++ c ∷ [])) ≡ map (slice_get (map see shelf)) (take (i + 1) ps)
taken_more see seen shelf ps bs i p b c h q k r s t =
    let e : take (i + 1) ps ≡ take i ps ++ (p ∷ []) = rw (add-one, take-suc ps i 0 h) (ap (λ (v : ℕ). take i ps ++ (v ∷ [])) (sym q)) in
    let g : slice_get (map see shelf) p ≡ Some (seen c) = meant_at see shelf (length shelf) p b refl k r ∙ ap Some (sym s) in
    let a : map Some (map seen (bs ++ c ∷ [])) ≡ map Some (map seen bs) ++ (Some (seen c) ∷ []) = rw (map-append, map-append) refl in
    let d : map (slice_get (map see shelf)) (take i ps ++ (p ∷ [])) ≡ map (slice_get (map see shelf)) (take i ps) ++ (slice_get (map see shelf) p ∷ []) = map-append (slice_get (map see shelf)) (take i ps) (p ∷ []) in
    a ∙ ap (λ (v : List (Option Layer)). v ++ (Some (seen c) ∷ [])) t ∙ ap (λ (v : Option Layer). map (slice_get (map see shelf)) (take i ps) ++ (v ∷ [])) (sym g) ∙ sym d ∙ ap (λ (v : List ℕ). map (slice_get (map see shelf)) v) (sym e)

pub drop-layer : (fs : List Layer) (d : ℕ) (f : Layer) → slice_get fs d ≡ Some f → drop d fs ≡ f ∷ drop (suc d) fs
drop-layer [] d f h = cc h
drop-layer (g ∷ fs) zero f h = let e : g ≡ f = cc in ap (λ (v : Layer). v ∷ fs) e
drop-layer (g ∷ fs) (suc d) f h = drop-layer fs d f h

-- each layer is a framer
pub framer_at : (fs : List Layer) (d : ℕ) (f : Layer) → slice_get fs d ≡ Some f → AreFramers fs → IsFramer f
framer_at [] d f h w = absurd (cc h)
framer_at (g ∷ fs) zero f h w = let e : g ≡ f = cc in subst IsFramer e w.0
framer_at (g ∷ fs) (suc d) f h w = framer_at fs d f h w.1

-- who has a layer at a depth has one
pub has_layer : (fs : List Layer) (d : ℕ) (f : Layer) → slice_get fs d ≡ Some f → 0 < length fs
has_layer [] d f h = absurd (cc h)
has_layer (g ∷ fs) d f h = omega arith
