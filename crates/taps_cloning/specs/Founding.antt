-- How a group begins over the socket of its first member (RFC 9622 section 7.4).
use Rattle.std.specs.Prelude.{◌≡◌, ◌∷◌, [], ℕ, List, Result, Ok, Err}
use Rattle.taps_base.specs.declared.no_memory.NoMemory.{NoMemory}
use Rattle.taps_framer.specs.declared.framer.Framer as framer
use Rattle.taps_socket.specs.declared.item.Item.TheVariants as item
use Rattle.taps_socket.specs.Calls.{Call, closes}
use Rattle.taps_socket.specs.Net.{Net, with_item}
use Rattle.taps_group.specs.Closes.{IsOpen}
use Rattle.taps_group.specs.Groups.{IsSoundGroup}
use Rattle.taps_group.specs.declared.group.Group.{Group}
use Rattle.taps_group_exchange.specs.Members.{GroupTerms}
use Rattle.taps_cloning.specs.Opening.{IsOpenedGroup}

-- it has one member, over this socket, and no call was made
pub record IsFounded {N : Type 0} {X : Type 0} {F : X → Type 0} (boxed : (x : X) → framer.Ghosts (F x))
    (Becomes : N → List Call → N → Type 0) (before after : N) (net net' : Net) (g : GroupTerms) (first : ℕ)
    (h : Group X F) : Type 0 where
  pub becomes : Becomes before [] after
  pub no_call : net' ≡ net
  pub group : IsOpenedGroup boxed g first net' [] h
  pub sound : IsSoundGroup boxed h
  pub opened : IsOpen net' h.members.items

-- there was no memory for it, and the socket was closed
pub record IsNotFounded {N : Type 0} (Becomes : N → List Call → N → Type 0) (before after : N) (net net' : Net)
    (first : ℕ) : Type 0 where
  pub becomes : Becomes before (closes first ∷ []) after
  pub closed : net' ≡ with_item net (item.Closed first) net.told

abbrev pub HasFounded : {N : Type 0} {X : Type 0} {F : X → Type 0} → ((x : X) → framer.Ghosts (F x)) →
    (N → List Call → N → Type 0) → N → N → Net → Net → GroupTerms → ℕ → Result (Group X F) NoMemory → Type 0
HasFounded boxed Becomes before after net net' g first (Ok h) =
    IsFounded boxed Becomes before after net net' g first h
HasFounded boxed Becomes before after net net' g first (Err none) =
    IsNotFounded Becomes before after net net' first
