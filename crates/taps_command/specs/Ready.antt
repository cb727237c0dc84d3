-- What FILE gives a command once it has passed its checks (local).
use Rattle.std.specs.Prelude.{◌≤◌, ◌+◌, ℕ, List, length}
use Rattle.std.specs.List.{All}
use Rattle.taps_endpoint.specs.declared.address.Address.{Address}
use Rattle.taps_preconnection.specs.declared.message.MessageSpec.{MessageSpec}
use Rattle.taps_preconnection.specs.declared.preconnection.Preconnection.{Preconnection}

-- each message goes to a member that there is, the connection or one of its clones, and no priority is given to another;
-- a priority is a number of 32 bits
pub record HasMembers (pre : Preconnection) : Type 0 where
  pub messages : All (λ (m : MessageSpec). m.member ≤ pre.exchange.clones) pre.messages.items
  pub priorities : length pre.exchange.priorities.items ≤ pre.exchange.clones + 1
  pub bounded : All (λ p. p ≤ 4294967295) pre.exchange.priorities.items

-- the file's meaning, the places of its framers on the shelf, and its derived addresses
pub record Ready : Type 0 where
  pub pre : Preconnection
  pub places : List ℕ
  pub addresses : List Address
