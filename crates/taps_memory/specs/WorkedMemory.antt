-- Histories of calls on sockets in memory worked by hand, and what the definitions say of them. A history stands with
-- its newest call first.
use Rattle.std.specs.Prelude.{◌≡◌, ℕ, ◌^◌, true, List, [], ◌∷◌}
use Rattle.taps_endpoint.specs.declared.address.Address.TheVariants.{V4}
use Rattle.taps_stack.specs.declared.stack.Stack.{Stack}
use Rattle.taps_stack.specs.declared.stack.Stack.TheVariants.{Tcp, Udp}
use Rattle.taps_stack.specs.declared.target.Target.{Target}
use Rattle.taps_socket.specs.declared.cause.Cause.TheVariants as cause
use Rattle.taps_socket.specs.declared.item.How.TheVariants as how
use Rattle.taps_socket.specs.declared.answers.StartAnswer.TheVariants as start
use Rattle.taps_socket.specs.declared.answers.ListenAnswer.TheVariants as listen
use Rattle.taps_socket.specs.declared.answers.AcceptAnswer.TheVariants as accept
use Rattle.taps_socket.specs.declared.answers.SendAnswer.TheVariants as send
use Rattle.taps_socket.specs.declared.answers.RecvAnswer.TheVariants as recv
use Rattle.taps_socket.specs.Calls.{Call, begins, starts, waits, closes, listens, accepts, sends, shuts, receives, items_of}
use Rattle.taps_memory.specs.MemoryAnswers.{Setting}
use Rattle.taps_memory.specs.MemorySteps.{Follows}
use Rattle.taps_memory.specs.Joined.{are_ends}

-- 127.0.0.1:9000 over a stack
abbrev pub over : Stack → Target
over stack = record { stack = stack; address = V4 (127 ∷ 0 ∷ 0 ∷ 1 ∷ []) 9000 }

-- one connection over rings of 4 bytes, and these waits and accepts fault
abbrev pub one_pair : List ℕ → Setting
one_pair plan = record { pairs = 1; capacity = 4; plan = plan }

-- this may be a history
abbrev pub Right : List ℕ → List Call → Type 0
Right plan calls = Follows (one_pair plan) calls

-- and this may not
abbrev pub Wrong : List ℕ → List Call → Type 0
Wrong plan calls = Right plan calls → ⊥

-- socket 0 listens, and socket 1 was started to it
abbrev pub started : List Call
started = starts 0 (over Tcp) (start.Started 1 0) ∷ begins 0 ∷ listens (over Tcp) (listen.Listening 0 0) ∷ []

-- it completed, and socket 2 was accepted
abbrev pub accepted : List Call
accepted = accepts 0 30000 (accept.Accepted 2 0) ∷ waits 30000 (record { at = 0; how = how.Completed 1 }) ∷ started

-- four of five bytes were sent
abbrev pub filled : List Call
filled = sends 1 (1 ∷ 2 ∷ 3 ∷ 4 ∷ 5 ∷ []) 10 (send.Sent 4 0) ∷ accepted

-- histories that follow
pub record RightHistories : Type 0 where
  pub there_and_back : Right [] (receives 2 9 10 [] recv.End ∷ closes 1 ∷
      receives 1 9 10 (7 ∷ []) (recv.Got 1 0) ∷ sends 2 (7 ∷ []) 10 (send.Sent 1 0) ∷
      receives 2 9 10 (5 ∷ []) (recv.Got 1 0) ∷ sends 1 (5 ∷ []) 10 (send.Sent 1 0) ∷
      receives 2 9 10 (2 ∷ 3 ∷ 4 ∷ []) (recv.Got 3 0) ∷ receives 2 1 10 (1 ∷ []) (recv.Got 1 0) ∷ filled)
  pub full : Right [] (sends 1 (5 ∷ []) 10 (send.Timed 10) ∷ filled)
  pub empty : Right [] (receives 2 9 5 [] (recv.Timed 10) ∷ receives 2 9 10 [] (recv.Timed 10) ∷ accepted)
  pub last_bytes_before_the_end : Right [] (receives 2 9 10 [] recv.End ∷
      receives 2 9 10 (1 ∷ 2 ∷ 3 ∷ 4 ∷ []) (recv.Got 4 0) ∷ shuts 1 ∷ filled)
  pub reset : Right [] (sends 1 (5 ∷ []) 10 (send.Failed cause.Reset) ∷ closes 2 ∷ filled)
  pub closed_before_it_was_accepted : Right []
      (receives 2 9 10 [] recv.End ∷ accepts 0 10 (accept.Accepted 2 0) ∷ closes 1 ∷ started)
  pub nothing_to_wait_for : Right [] (waits 7 (record { at = 7; how = how.Reached }) ∷ closes 1 ∷ started)
  pub past_the_end_of_time : Right [] (waits (2 ^ 63) (record { at = 0; how = how.Faulted }) ∷ [])
  pub no_listener : Right [] (starts 0 (over Tcp) (start.Refused cause.Refused 0) ∷ [])
  pub datagrams : Right [] (starts 1 (over Udp) (start.Refused cause.Refused 0) ∷ started)
  pub all_used : Right [] (starts 1 (over Tcp) (start.Refused cause.Memory 0) ∷ closes 1 ∷ started)
  pub on_a_live_target : Right [] (listens (over Tcp) (listen.Refused cause.Other 0) ∷ started)
  pub on_a_closed_one : Right [] (listens (over Tcp) (listen.Listening 2 0) ∷ closes 0 ∷ started)
  pub no_connection : Right [] (accepts 0 9 (accept.Timed 9) ∷ accepted)
  pub planned_faults : Right (0 ∷ 2 ∷ []) (accepts 0 9 (accept.Faulted 0) ∷
      waits 9 (record { at = 0; how = how.Completed 1 }) ∷ accepts 0 9 (accept.Faulted 0) ∷ started)

-- histories that do not, each for the reason of its name
pub record WrongHistories : Type 0 where
  pub reads_what_was_not_written : Wrong [] (receives 2 9 10 (1 ∷ []) (recv.Got 1 0) ∷ accepted)
  pub reads_it_again : Wrong [] (receives 2 9 10 (1 ∷ 2 ∷ 3 ∷ 4 ∷ []) (recv.Got 4 0) ∷
      receives 2 9 10 (1 ∷ 2 ∷ 3 ∷ 4 ∷ []) (recv.Got 4 0) ∷ filled)
  pub ends_before_the_last_bytes : Wrong [] (receives 2 9 10 [] recv.End ∷ shuts 1 ∷ filled)
  pub sends_past_a_full_ring : Wrong [] (sends 1 (5 ∷ []) 10 (send.Sent 1 0) ∷ filled)
  pub sends_to_a_closed_end : Wrong [] (sends 1 (5 ∷ []) 10 (send.Timed 10) ∷ closes 2 ∷ filled)
  pub completes_a_closed_pair : Wrong [] (waits 7 (record { at = 0; how = how.Completed 1 }) ∷ closes 1 ∷ started)
  pub accepts_twice : Wrong [] (accepts 0 9 (accept.Accepted 3 0) ∷ accepted)
  pub starts_without_a_listener : Wrong [] (starts 0 (over Tcp) (start.Started 0 0) ∷ [])
  pub uses_a_pair_twice : Wrong [] (starts 1 (over Tcp) (start.Started 2 0) ∷ closes 1 ∷ started)
  pub listens_twice : Wrong [] (listens (over Tcp) (listen.Listening 2 0) ∷ started)
  pub passes_over_a_planned_fault : Wrong (0 ∷ []) (waits 9 (record { at = 0; how = how.Completed 1 }) ∷ started)
  pub faults_unplanned : Wrong (1 ∷ []) (waits 9 (record { at = 0; how = how.Faulted }) ∷ started)

-- the two ends of the connection
pub record WorkedEnds : Type 0 where
  pub ends : are_ends (items_of filled) 1 2 ≡ true

-- the definitions accept the ones and refuse the others
pub record JudgesWorkedMemory : Type 0 where
  pub right : RightHistories
  pub wrong : WrongHistories
  pub ends : WorkedEnds
