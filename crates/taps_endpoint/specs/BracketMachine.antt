-- The machine that reads a value in brackets.
use Rattle.std.specs.Prelude.{ℕ, ◌==◌, Option, Some, None, option_map, if◌then◌else◌}
use Rattle.taps_endpoint.specs.declared.bracketed.Bracketed.{Bracketed}
use Rattle.taps_endpoint.specs.declared.bracketed.Bracketed.TheVariants.{Outside, Inside, Closed}

-- the state behind one more byte: a `[` first, and a `]` behind a whole value
abbrev pub step_bracketed : {S A : Type 0} → (S → ℕ → Option S)
    → (S → Option A) → S → Bracketed S A → ℕ → Option (Bracketed S A)
step_bracketed step at_end start Outside b = if b == 91 then Some (Inside start) else None
step_bracketed step at_end start (Inside s) b =
    if b == 93 then option_map Closed (at_end s) else option_map Inside (step s b)
step_bracketed step at_end start (Closed a) b = None

-- the value, behind the `]`
abbrev pub value_bracketed : {S A : Type 0} → Bracketed S A → Option A
value_bracketed Outside = None
value_bracketed (Inside s) = None
value_bracketed (Closed a) = Some a

-- what holds of the state inside
abbrev pub HoldsInside : {S A : Type 0} → (S → Type 0) → Bracketed S A → Type 0
HoldsInside is_small (Inside s) = is_small s
HoldsInside is_small _ = Unit {0}
