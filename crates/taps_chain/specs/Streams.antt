-- What ears keep of a stream.
use Rattle.std.specs.Prelude.{ℕ, List, Option}
use Rattle.taps_chain.specs.declared.heard.BadAt.{BadAt}

-- the bytes that were fed and not given out; the index of the next message; the Bad that was answered; so many
-- bytes are fed without running out of memory; and at so many of the unread bytes layer 0 has looked
pub record StreamState : Type 0 where
  pub unread : List ℕ
  pub index : ℕ
  pub bad : Option BadAt
  pub room : ℕ
  pub scanned : ℕ
