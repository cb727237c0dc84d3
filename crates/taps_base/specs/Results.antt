-- One step of a computation that may be refused, and then the next.
use Rattle.std.specs.Prelude.{Result, Ok, Err}

-- the next step, which may look at what the first gave; the first refusal is the result
infixl 10 ◌>>=◌
abbrev pub ◌>>=◌ : {A B E : Type 0} → Result A E → (A → Result B E) → Result B E
(Ok x) >>= f = f x
(Err why) >>= f = Err why
