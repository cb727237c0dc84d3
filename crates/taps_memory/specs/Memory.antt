-- What contracts see of sockets in memory, and how each call changes it.
use Rattle.std.specs.Prelude.{◌≡◌, ◌-◌, ◌++◌, ℕ, List, [], ◌∷◌, map, Option, None, Some}
use Rattle.taps_base.specs.Counts.{one_more}
use Rattle.taps_stack.specs.declared.target.Target.{Target}
use Rattle.taps_socket.specs.declared.item.How.{How}
use Rattle.taps_socket.specs.declared.item.How.TheVariants.{Faulted}
use Rattle.taps_socket.specs.declared.item.Item.{Item}
use Rattle.taps_socket.specs.declared.item.Item.TheVariants as item
use Rattle.taps_socket.specs.declared.answers.WaitAnswer.{WaitAnswer}
use Rattle.taps_socket.specs.declared.timed_call.TimedCall.{TimedCall}
use Rattle.taps_socket.specs.Calls.{Call}
use Rattle.taps_socket.specs.Net.{Net}
use Rattle.taps_socket.specs.Shows.{Shows}
use Rattle.taps_memory.specs.declared.link.Link.{Link}
use Rattle.taps_memory.specs.Pairs.{change_first}
use Rattle.taps_memory.specs.Links.{pair_of, link_has, link_waits, started_link, accepted_link, closed_link, shut_link, sent_link, read_link, roomy_link, traffic_at}
use Rattle.taps_memory.specs.MemoryAnswers.{Setting, State}
use Rattle.taps_memory.specs.MemorySteps.{Follows, state_after}

-- what was set; the items so far, newest first; the last reported time, which is that of the clock; the spare items;
-- the count of faults; the number of the next wait or accept; the connections; and the timed calls
pub record Memory : Type 0 where
  pub setting : Setting
  pub trace : List Item
  pub told : ℕ
  pub spare : ℕ
  pub faults : ℕ
  pub turns : ℕ
  pub links : List Link
  pub timed : ℕ
  pub last_timed : Option TimedCall

-- what is seen of them as of all sockets
abbrev pub net_of : Memory → Net
net_of m =
    record {
      trace = m.trace;
      told = m.told;
      spare = m.spare;
      faults = m.faults;
      traffic = traffic_at m.links;
      timed = m.timed;
      last_timed = m.last_timed;
    }

-- the state by which they answer
abbrev pub state_of : Memory → State
state_of m = record { trace = m.trace; clock = m.told; turns = m.turns; pairs = map pair_of m.links }

-- before the first call
abbrev pub at_first : Setting → Memory
at_first setting = record {
  setting = setting;
  trace = [];
  told = 0;
  spare = 0;
  faults = 0;
  turns = 0;
  links = [];
  timed = 0;
  last_timed = None;
}

-- with one item more, reported at a time; with one wait or accept more; and with one timed call more
abbrev pub after_item : Memory → Item → ℕ → Memory
after_item m i at = record m { trace = i ∷ m.trace; told = at; spare = m.spare - 1 }

abbrev pub after_turn : Memory → Memory
after_turn m = record m { turns = one_more m.turns }

abbrev pub after_timed : Memory → TimedCall → Memory
after_timed m call = record m { told = call.at; timed = one_more m.timed; last_timed = Some call }

-- the count of faults after a wait that ended so
abbrev pub count_after : How → ℕ → ℕ
count_after Faulted faults = one_more faults
count_after _ faults = faults

-- after a wait, and after an accept that was faulted
abbrev pub after_wait : Memory → ℕ → WaitAnswer → Memory
after_wait m until answer =
    record (after_turn (after_item m (item.Waited until answer.at answer.how) answer.at))
    { faults = count_after answer.how m.faults }

abbrev pub after_fault : Memory → Memory
after_fault m = record (after_turn (after_item m (item.Faulted m.told) m.told)) { faults = one_more m.faults }

-- after a start that was given a socket, and after an accept that was
abbrev pub after_start : Memory → ℕ → Target → ℕ → ℕ → Memory
after_start m leaf target listener socket =
    record (after_item m (item.Started leaf target socket m.told) m.told)
    { links = m.links ++ started_link m.setting.capacity listener socket ∷ [] }

abbrev pub after_accept : Memory → ℕ → ℕ → Memory
after_accept m listener socket =
    record (after_turn (after_item m (item.Accepted listener socket m.told) m.told))
    { links = change_first (link_waits listener) (accepted_link socket) m.links }

-- after a close, after the end of a sending side, after a send of bytes, after a receive of so many, and with more room
abbrev pub after_close : Memory → ℕ → Memory
after_close m socket =
    record (after_item m (item.Closed socket) m.told)
    { links = change_first (link_has socket) (closed_link socket) m.links }

abbrev pub after_shut : Memory → ℕ → Memory
after_shut m socket =
    record (after_item m (item.Shut socket) m.told)
    { links = change_first (link_has socket) (shut_link socket) m.links }

abbrev pub after_sent : Memory → ℕ → List ℕ → Memory
after_sent m socket bytes =
    record m { links = change_first (link_has socket) (sent_link socket bytes m.told) m.links }

abbrev pub after_read : Memory → ℕ → ℕ → Memory
after_read m socket count = record m { links = change_first (link_has socket) (read_link socket count) m.links }

abbrev pub after_room : Memory → ℕ → ℕ → Memory
after_room m socket bytes = record m { links = change_first (link_has socket) (roomy_link socket bytes) m.links }

-- the sockets represent these calls: each was the answer to its request, and the state is the one that they made
pub record Represents (m : Memory) (calls : List Call) : Type 0 where
  pub follows : Follows m.setting calls
  pub state : state_of m ≡ state_after m.setting calls

-- what was set stays; the record shows the calls; and sockets that represented earlier calls represent these after them
pub record StaysMemory (before : Memory) (calls : List Call) (after : Memory) : Type 0 where
  pub setting : after.setting ≡ before.setting
  pub shows : Shows (net_of before) calls (net_of after)
  pub represents : (earlier : List Call) → Represents before earlier → Represents after (calls ++ earlier)
