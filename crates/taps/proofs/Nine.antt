-- What stands on a shelf that was filled box by box.
use Rattle.std.proofs.Common.{◌≡◌, ◌++◌, List, [], ◌∷◌, map, refl, sym, subst}

-- what is told of a value under its vtable is told under the vtable that it was made with
pub at_vtable : {V A : Type 0} {H : V → Type 0} (tells : (v : V) → H v → A) (v w : V) (x : H v) (a : A) → v ≡ w → ((y : H w) → tells w y ≡ a) → tells v x ≡ a
at_vtable {H = H} tells v w x a same at = subst (λ u. (y : H u) → tells u y ≡ a) (sym same) at x

-- nine steps from the empty shelf
pub from_none : {A B : Type 0} (f : A → B) (none : List A) (a b c d e g h i j : B) → none ≡ []
    → ((((((((map f none ++ a ∷ []) ++ b ∷ []) ++ c ∷ []) ++ d ∷ []) ++ e ∷ []) ++ g ∷ []) ++ h ∷ []) ++ i ∷ []) ++ j ∷ [] ≡ a ∷ b ∷ c ∷ d ∷ e ∷ g ∷ h ∷ i ∷ j ∷ []
from_none f none a b c d e g h i j z = rw z refl
