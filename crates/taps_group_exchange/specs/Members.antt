-- The members of a group in the exchange of a session, by place.
use Rattle.std.specs.Prelude.{◌^◌, ◌+◌, ◌-◌, ◌==◌, ℕ, min, if◌then◌else◌, List, [], ◌∷◌, slice_index_or}
use Rattle.taps_framer.specs.Layers.{Layer}
use Rattle.taps_property.specs.declared.connection_props.ConnectionProps.{ConnectionProps}
use Rattle.taps_stack.specs.declared.target.Target.{Target}
use Rattle.taps_exchange.specs.Exchanged.{member_over}
use Rattle.taps_exchange.specs.Turns.{Place}
use Rattle.taps_group.specs.Orders.{orders_of}
use Rattle.taps_group.specs.Properties.{first_priority}
use Rattle.taps_group_exchange.specs.declared.addressed.Addressed.{Addressed}
use Rattle.taps_group_exchange.specs.Handing.{queue_of, order_of}

-- what a group and its exchange go by: the target of all members, the layers of their messages, and the properties of
-- the first member; how many clones there are to be, the number of the first clone's leaf, and how long a clone's race
-- may take; the priorities by place; the messages; how many of them each member needs to hear; how many bytes it asks
-- for at once over a stream; and how long the exchange may take
pub record GroupTerms : Type 0 where
  pub target : Target
  pub layers : List Layer
  pub props : ConnectionProps
  pub clones : ℕ
  pub leaf : ℕ
  pub timeout : ℕ
  pub priorities : List ℕ
  pub messages : List Addressed
  pub needs : ℕ
  pub piece : ℕ
  pub lasts : ℕ

-- the last time of an exchange that begins at a time: the last time that there is, if it would be past that
abbrev pub until_of : GroupTerms → ℕ → ℕ
until_of g at = min (at + g.lasts) (2 ^ 63 - 1)

-- the priority of a member, where none is given: that of the connection, or that of a clone
abbrev pub own_priority : GroupTerms → ℕ → ℕ
own_priority g place = if place == 0 then g.props.conn_priority else first_priority

abbrev pub priority_at : GroupTerms → ℕ → ℕ
priority_at g place = slice_index_or g.priorities place (own_priority g place)

-- the member at a place, over a socket, in an exchange that begins at a time
abbrev pub place_at : GroupTerms → ℕ → ℕ → ℕ → Place
place_at g at place socket = record {
  member = member_over socket g.target.stack g.layers (queue_of at g.messages place).queued at g.needs g.piece
      (until_of g at);
  priority = priority_at g place;
  orders = orders_of place (order_of at g.messages);
}

-- the members over these sockets, from a place on
abbrev pub places_from : GroupTerms → ℕ → ℕ → List ℕ → List Place
places_from g at place [] = []
places_from g at place (socket ∷ sockets) = place_at g at place socket ∷ places_from g at (place + 1) sockets

abbrev pub places_at : GroupTerms → ℕ → List ℕ → List Place
places_at g at sockets = places_from g at 0 sockets
