-- The group of a file: its clones, the priorities of its members and their messages (RFC 9622 sections 7.4 and 9; the
-- keys are local).
use Rattle.std.specs.Prelude.{Bool, ◌&&◌, ◌==◌, List, length, map}
use Rattle.taps_framer.specs.Layers.{Layer}
use Rattle.taps_preconnection.specs.declared.message.MessageSpec.{MessageSpec}
use Rattle.taps_preconnection.specs.declared.preconnection.Preconnection.{Preconnection}
use Rattle.taps_stack.specs.declared.stack.Stack.{Stack}
use Rattle.taps_stack.specs.declared.target.Target.{Target}
use Rattle.taps_group_exchange.specs.Members.{GroupTerms}
use Rattle.taps_group_exchange.specs.declared.addressed.Addressed.{Addressed}
use Rattle.taps_command.specs.Places.{chain_of}
use Rattle.taps_command.specs.Ready.{Ready}
use Rattle.taps_session.specs.FileMessages.{message_on}
use Rattle.taps_session.specs.FileSessions.{targets_of}

-- there is one member, and no priority is given to it
abbrev pub has_one_member : Preconnection → Bool
has_one_member pre = (pre.exchange.clones == 0) && (length pre.exchange.priorities.items == 0)

-- a message as it is sent over a stack, by its member
abbrev pub addressed_on : Preconnection → Stack → MessageSpec → Addressed
addressed_on pre stack spec = record { member = spec.member; message = message_on pre stack spec }

-- the messages of all members, in the order of the file
abbrev pub all_messages_on : Preconnection → Stack → List Addressed
all_messages_on pre stack = map (addressed_on pre stack) pre.messages.items

-- what the group goes by, where this target won the race: the leaves of its clones are numbered behind those of the plan
abbrev pub group_of : List Layer → Ready → Target → GroupTerms
group_of shelf ready target = record {
  target = target;
  layers = chain_of shelf ready.places;
  props = ready.pre.connection;
  clones = ready.pre.exchange.clones;
  leaf = length (targets_of ready);
  timeout = ready.pre.race.timeout_ms;
  priorities = ready.pre.exchange.priorities.items;
  messages = all_messages_on ready.pre target.stack;
  needs = ready.pre.exchange.expect;
  piece = ready.pre.exchange.piece;
  lasts = ready.pre.exchange.deadline_ms;
}
