-- What contracts see of what an accepted connection sent and heard.
use Rattle.std.specs.Prelude.{ℕ, List}

-- how many messages it sent, and the bodies of those that it heard
pub record AnsweredState : Type 0 where
  pub sent : ℕ
  pub heard : List (List ℕ)
