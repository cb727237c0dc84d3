-- A refusal goes on through the readings behind it.
use Rattle.std.proofs.Common.{◌≡◌, Result, sym, ◌∙◌}
use Rattle.taps_base.specs.Results.{◌>>=◌}
use Rattle.taps_table.specs.Refusals.{Refuses}
use Rattle.taps_table.specs.declared.pre_error.PreError.{PreError}

pub refuses_on : {A B : Type 0} (e : PreError) (first : Result A PreError) (next : A → Result B PreError) (total : Result B PreError) → Refuses e first → (first >>= next) ≡ total → Refuses e total
refuses_on e first next total h so_far = λ some. sym so_far ∙ rw (h some)
