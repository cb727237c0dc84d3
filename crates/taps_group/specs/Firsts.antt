-- The search for the member that sends next.
use Rattle.std.specs.Prelude.{◌≡◌, ◌<◌, ℕ, if◌then◌else◌, length, Option, Some, None}
use Rattle.taps_connection.specs.Senders.{waiting_number}
use Rattle.taps_group.specs.declared.member.Member.{Member}
use Rattle.taps_group.specs.declared.member.Waiting.{Waiting}
use Rattle.taps_group.specs.Orders.{is_before}

-- the order of the message that a member has to send is known
pub record IsNumbered {X : Type 0} {F : X → Type 0} (m : Member X F) : Type 0 where
  pub within : (n : ℕ) → waiting_number m.connection.sender ≡ Some n → n < length m.orders.items

-- of two that may send, the second one only where it has its turn before the first
abbrev pub sooner : Option Waiting → Option Waiting → Option Waiting
sooner None other = other
sooner (Some a) None = Some a
sooner (Some a) (Some b) = if is_before b a then Some b else Some a
