-- When a message expires (RFC 9622 section 9.1.3.1).
use Rattle.std.specs.Prelude.{ℕ, ◌+◌, Bool, false, nat_le, Option, Some, None}
use Rattle.taps_message.specs.declared.accepted.Accepted.{Accepted}

-- at a moment, the lifetime of what was accepted at another has passed
abbrev pub has_passed : Option ℕ → ℕ → ℕ → Bool
has_passed None accepted at = false
has_passed (Some lifetime) accepted at = nat_le (accepted + lifetime) at

-- a message has expired at a moment
abbrev pub has_expired : Accepted → ℕ → Bool
has_expired m at = has_passed m.message.props.msg_lifetime m.at at
