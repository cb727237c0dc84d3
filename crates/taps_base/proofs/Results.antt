-- What both steps gave, where the second succeeded.
use Rattle.std.proofs.Common.{◌≡◌, Option, Some, None, Result, Ok, Err, option_map, refl}
use Rattle.taps_base.specs.Results.{◌>>=◌}

-- a step that succeeded after another: both succeeded
pub both_ok : {A B E : Type 0} (first : Result A E) (next : A → Result B E) (y : B) → first >>= next ≡ Ok y → (x : A) × (first ≡ Ok x) × (next x ≡ Ok y)
both_ok (Ok x) next y h = (x, refl, h)
both_ok (Err why) next y h = cc

-- two values of which the successes are equal
pub ok_same : {A E : Type 0} (x y : A) → (let r : Result A E = Ok x in r ≡ Ok y) → x ≡ y
ok_same x y h = cc

-- a value that was mapped was there
pub map_some : {A B : Type 0} (f : A → B) (o : Option A) (y : B) → option_map f o ≡ Some y → (x : A) × (o ≡ Some x) × (f x ≡ y)
map_some f (Some x) y h = (x, refl, (let same : Some (f x) ≡ Some y = h in cc))
map_some f None y h = cc
