-- The messages of a file, with their properties (RFC 9622 section 9.1.3).
use Rattle.std.specs.Prelude.{◌==◌, ℕ, List, filter, map}
use Rattle.taps_message.specs.declared.message.Message.{Message}
use Rattle.taps_preconnection.specs.MessageSets.{applied}
use Rattle.taps_preconnection.specs.declared.message.MessageSpec.{MessageSpec}
use Rattle.taps_preconnection.specs.declared.message_set.MessageSet.{MessageSet}
use Rattle.taps_preconnection.specs.declared.preconnection.Preconnection.{Preconnection}
use Rattle.taps_property.specs.Messages.{default_message}
use Rattle.taps_property.specs.declared.message_props.MessageProps.{MessageProps}
use Rattle.taps_property.specs.declared.stack_property.StackProperty.TheVariants.{PreserveOrder, Reliability}
use Rattle.taps_stack.specs.StackTable.{offers}
use Rattle.taps_stack.specs.declared.stack.Stack.{Stack}

-- what a message has where the file says nothing of it: what its stack offers, the connection's capacity profile, and
-- whether the Preconnection's messages may be replayed
abbrev pub defaults_on : Preconnection → Stack → MessageProps
defaults_on pre stack =
    default_message (offers stack PreserveOrder) (offers stack Reliability) pre.connection.conn_capacity_profile
    pre.replayable

-- and then what the file says of it
abbrev pub props_on : Preconnection → Stack → MessageSet → MessageProps
props_on pre stack given = applied (defaults_on pre stack) given

-- a message as it is sent over a stack
abbrev pub message_on : Preconnection → Stack → MessageSpec → Message
message_on pre stack spec = record { body = spec.body; props = props_on pre stack spec.set }

-- the messages of a member, by its place, in the order of the file
abbrev pub messages_on : Preconnection → Stack → ℕ → List Message
messages_on pre stack place =
    map (message_on pre stack) (filter (λ (spec : MessageSpec). spec.member == place) pre.messages.items)
