-- What is kept of a stream that is one message.
use Rattle.std.specs.Prelude.{ℕ, List}

-- the bytes that came and were not given out, and so many bytes more are taken in without running out of memory
pub record BacklogState : Type 0 where
  pub unread : List ℕ
  pub room : ℕ
