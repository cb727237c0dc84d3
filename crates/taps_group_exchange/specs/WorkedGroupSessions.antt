-- Sessions of groups worked by hand, from the socket of the first race on, and what the definitions say of them.
use Rattle.std.specs.Prelude.{◌≡◌, ℕ, List, [], ◌∷◌, ◌++◌, reverse, false, Some, None}
use Rattle.taps_property.specs.declared.connection_props.ConnectionProps.{ConnectionProps}
use Rattle.taps_property.specs.declared.message_props.MessageProps.{MessageProps}
use Rattle.taps_stack.specs.declared.stack.Stack.TheVariants.{Tcp}
use Rattle.taps_stack.specs.declared.target.Target.{Target}
use Rattle.taps_socket.specs.declared.answers.SendAnswer.TheVariants.{Sent}
use Rattle.taps_socket.specs.declared.answers.StartAnswer.TheVariants as start
use Rattle.taps_socket.specs.declared.cause.Cause.TheVariants as cause
use Rattle.taps_socket.specs.declared.item.How.{How}
use Rattle.taps_socket.specs.declared.item.How.TheVariants.{Reached, Completed, Faulted}
use Rattle.taps_socket.specs.declared.race_answer.RaceAnswer.{RaceAnswer}
use Rattle.taps_socket.specs.declared.race_answer.RaceAnswer.TheVariants as answer
use Rattle.taps_socket.specs.Calls.{Call, begins, starts, waits, closes, sends, shuts, items_of}
use Rattle.taps_exchange.specs.declared.outcome.Outcome.TheVariants as outcome
use Rattle.taps_group_exchange.specs.declared.addressed.Addressed.{Addressed}
use Rattle.taps_group_exchange.specs.declared.outcome.GroupOutcome.{GroupOutcome}
use Rattle.taps_group_exchange.specs.declared.outcome.GroupOutcome.TheVariants as ends
use Rattle.taps_group_exchange.specs.Cloning.{CloneRace, calls_of_races}
use Rattle.taps_group_exchange.specs.GroupSessions.{IsGroupSession, calls_of}
use Rattle.taps_group_exchange.specs.Members.{GroupTerms}

-- a group over TCP with no framer, with so many clones, whose leaves are numbered from 1
abbrev pub terms : Target → ConnectionProps → ℕ → List ℕ → List Addressed → ℕ → GroupTerms
terms t p clones priorities messages needs = record {
  target = record t { stack = Tcp };
  layers = [];
  props = p;
  clones = clones;
  leaf = 1;
  timeout = 30000;
  priorities = priorities;
  messages = messages;
  needs = needs;
  piece = 4096;
  lasts = 10000;
}

-- the race of a clone: it begins, and its one leaf is started, which gives a socket, or refused
abbrev pub race : List Call → RaceAnswer → CloneRace
race calls answer = record { calls = calls; items = items_of calls; answer = answer }

abbrev pub starts_at : Target → ℕ → ℕ → ℕ → List Call
starts_at t leaf socket at =
    starts leaf (record t { stack = Tcp }) (start.Started socket at) ∷ begins at ∷ []

abbrev pub waits_to : ℕ → ℕ → How → List Call → List Call
waits_to until at how earlier = waits until (record { at = at; how = how }) ∷ earlier

-- it gave socket 1 at 5
abbrev pub ready : Target → CloneRace
ready t = race (waits_to 30000 5 (Completed 1) (starts_at t 1 1 0)) (answer.Ready 0 1 5)

abbrev pub refused : Target → CloneRace
refused t =
    race (starts 1 (record t { stack = Tcp }) (start.Refused cause.Reset 0) ∷ begins 0 ∷ []) answer.AllFailed

abbrev pub timed_out : Target → CloneRace
timed_out t = race (closes 1 ∷ waits_to 30000 30000 Reached (starts_at t 1 1 0)) answer.Timeout

abbrev pub faulted : Target → CloneRace
faulted t = race (closes 1 ∷ waits_to 30000 7 Faulted (starts_at t 1 1 0)) answer.SocketFault

-- the races, the exchange in the order in which its calls came, and the outcome are a session, with all these calls
pub record Right (g : GroupTerms) (clones : List CloneRace) (exchange : List Call) (o : GroupOutcome)
    (closing : List Call) : Type 0 where
  pub session : IsGroupSession g 0 0 (record { clones = clones; exchange = reverse exchange; outcome = o })
  pub closes_by_place : calls_of 0 (record { clones = clones; exchange = reverse exchange; outcome = o })
      ≡ closing ++ (reverse exchange ++ calls_of_races clones)

-- no session is so
abbrev pub Wrong : GroupTerms → List CloneRace → List Call → GroupOutcome → Type 0
Wrong g clones exchange o =
    IsGroupSession g 0 0 (record { clones = clones; exchange = reverse exchange; outcome = o }) → ⊥

-- a message of one byte
abbrev pub to_send : MessageProps → ℕ → ℕ → Addressed
to_send p place byte = record {
  member = place;
  message = record { body = byte ∷ []; props = record p { msg_lifetime = None; is_final = false } };
}

abbrev pub two : MessageProps → List Addressed
two p = to_send p 0 97 ∷ to_send p 1 98 ∷ []

abbrev pub unlimited : ConnectionProps → ConnectionProps
unlimited p = record p { group_conn_limit = None }

abbrev pub one_only : ConnectionProps → ConnectionProps
one_only p = record p { group_conn_limit = Some 1 }

pub record RightGroups (t : Target) (p : ConnectionProps) (m : MessageProps) : Type 0 where
  pub clone : Right (terms t (unlimited p) 1 [] [] 0) (ready t ∷ []) [] (ends.Exchanged outcome.Done)
      (closes 1 ∷ closes 0 ∷ [])
  pub at_the_limit : Right (terms t (one_only p) 1 [] [] 0) [] [] (ends.CloneLimit 1) (closes 0 ∷ [])
  pub clone_refused : Right (terms t (unlimited p) 1 [] [] 0) (refused t ∷ []) [] ends.CloneAllFailed (closes 0 ∷ [])
  pub clone_timed_out : Right (terms t (unlimited p) 1 [] [] 0) (timed_out t ∷ []) [] ends.CloneTimeout
      (closes 0 ∷ [])
  pub clone_faulted : Right (terms t (unlimited p) 1 [] [] 0) (faulted t ∷ []) [] ends.SocketFault (closes 0 ∷ [])
  pub no_clone : Right (terms t (unlimited p) 0 [] [] 0) [] [] (ends.Exchanged outcome.Done) (closes 0 ∷ [])
  pub by_priority : Right (terms t (unlimited p) 1 (100 ∷ 5 ∷ []) (two m) 0) (ready t ∷ [])
      (sends 1 (98 ∷ []) 10005 (Sent 1 5) ∷ shuts 1 ∷ sends 0 (97 ∷ []) 10005 (Sent 1 6) ∷ shuts 0 ∷ [])
      (ends.Exchanged outcome.Done) (closes 1 ∷ closes 0 ∷ [])
  pub by_order : Right (terms t (unlimited p) 1 (100 ∷ 100 ∷ []) (two m) 0) (ready t ∷ [])
      (sends 0 (97 ∷ []) 10005 (Sent 1 6) ∷ shuts 0 ∷ sends 1 (98 ∷ []) 10005 (Sent 1 6) ∷ shuts 1 ∷ [])
      (ends.Exchanged outcome.Done) (closes 1 ∷ closes 0 ∷ [])
  pub by_the_connections_own_priority : Right (terms t (record (unlimited p) { conn_priority = 200 }) 1 [] (two m) 0)
      (ready t ∷ [])
      (sends 1 (98 ∷ []) 10005 (Sent 1 5) ∷ shuts 1 ∷ sends 0 (97 ∷ []) 10005 (Sent 1 6) ∷ shuts 0 ∷ [])
      (ends.Exchanged outcome.Done) (closes 1 ∷ closes 0 ∷ [])

pub record WrongGroups (t : Target) (p : ConnectionProps) (m : MessageProps) : Type 0 where
  pub no_race : Wrong (terms t (unlimited p) 1 [] [] 0) [] [] (ends.Exchanged outcome.Done)
  pub failure_ignored : Wrong (terms t (unlimited p) 1 [] [] 0) (refused t ∷ []) [] (ends.Exchanged outcome.Done)
  pub past_the_limit : Wrong (terms t (one_only p) 1 [] [] 0) (ready t ∷ []) [] (ends.Exchanged outcome.Done)
  pub the_less_urgent_first : Wrong (terms t (unlimited p) 1 (100 ∷ 5 ∷ []) (two m) 0) (ready t ∷ [])
      (sends 0 (97 ∷ []) 10005 (Sent 1 5) ∷ shuts 0 ∷ sends 1 (98 ∷ []) 10005 (Sent 1 6) ∷ shuts 1 ∷ [])
      (ends.Exchanged outcome.Done)
  pub a_deadline_from_the_beginning : Wrong (terms t (unlimited p) 1 (100 ∷ 5 ∷ []) (two m) 0) (ready t ∷ [])
      (sends 1 (98 ∷ []) 10000 (Sent 1 5) ∷ shuts 1 ∷ sends 0 (97 ∷ []) 10000 (Sent 1 6) ∷ shuts 0 ∷ [])
      (ends.Exchanged outcome.Done)

pub record JudgesWorkedGroups (t : Target) (p : ConnectionProps) (m : MessageProps) : Type 0 where
  pub right : RightGroups t p m
  pub wrong : WrongGroups t p m
