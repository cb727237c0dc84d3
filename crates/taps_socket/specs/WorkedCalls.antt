-- Histories of calls worked by hand, and what the definitions say of them. A history stands with its newest call first.
use Rattle.std.specs.Prelude.{◌≡◌, false, true, List, [], ◌∷◌, None, Some}
use Rattle.taps_endpoint.specs.declared.address.Address.{Address}
use Rattle.taps_stack.specs.declared.stack.Stack.{Stack}
use Rattle.taps_stack.specs.declared.stack.Stack.TheVariants.{Tcp, Udp}
use Rattle.taps_stack.specs.declared.target.Target.{Target}
use Rattle.taps_socket.specs.declared.cause.Cause.TheVariants as cause
use Rattle.taps_socket.specs.declared.item.How.TheVariants as how
use Rattle.taps_socket.specs.declared.answers.StartAnswer.TheVariants as start
use Rattle.taps_socket.specs.declared.answers.ListenAnswer.TheVariants as listen
use Rattle.taps_socket.specs.declared.answers.AcceptAnswer.TheVariants as accept
use Rattle.taps_socket.specs.declared.answers.SendAnswer.TheVariants as send
use Rattle.taps_socket.specs.declared.answers.RecvAnswer.TheVariants as recv
use Rattle.taps_socket.specs.Calls.{Call, begins, starts, waits, closes, listens, accepts, sends, shuts, receives}
use Rattle.taps_socket.specs.Net.{Net, sent_on, received_on}
use Rattle.taps_socket.specs.Shows.{AreLawful, Shows}

-- a history from the first call on
abbrev pub Lawful : List Call → Type 0
Lawful calls = AreLawful [] 0 calls

-- these calls are not lawful from the first one on
abbrev pub Wrong : List Call → Type 0
Wrong calls = Lawful calls → ⊥

-- a target of a stack
abbrev pub over : Stack → Address → Target
over stack address = record { stack = stack; address = address }

-- a socket 0 that completed at 10
abbrev pub connected : Stack → Address → List Call
connected stack address =
    waits 30000 (record { at = 10; how = how.Completed 0 }) ∷
    starts 0 (over stack address) (start.Started 0 0) ∷ begins 0 ∷ []

-- after which two of three bytes were sent at 11
abbrev pub half_sent : Address → List Call
half_sent address = sends 0 (1 ∷ 2 ∷ 3 ∷ []) 50 (send.Sent 2 11) ∷ connected Tcp address

-- a socket 0 that listens, and a socket 1 that it gave
abbrev pub taken_in : Address → List Call
taken_in address = accepts 0 20 (accept.Accepted 1 15) ∷ accepts 0 10 (accept.Timed 10) ∷
    listens (over Tcp address) (listen.Listening 0 0) ∷ []

-- lawful lists of calls
pub record LawfulHistories (a : Address) : Type 0 where
  pub there_and_back : Lawful (closes 0 ∷ receives 0 9 50 [] recv.End ∷
      receives 0 9 50 (7 ∷ 8 ∷ []) (recv.Got 2 20) ∷ shuts 0 ∷ sends 0 (3 ∷ []) 50 (send.Sent 1 11) ∷ half_sent a)
  pub timed_and_failed : Lawful
      (closes 0 ∷ receives 0 9 60 [] (recv.Failed cause.Reset) ∷ sends 0 (3 ∷ []) 50 (send.Timed 50) ∷ half_sent a)
  pub listening : Lawful (closes 0 ∷ closes 1 ∷ sends 1 (4 ∷ []) 50 (send.Sent 1 16) ∷ taken_in a)
  pub datagrams : Lawful (receives 0 65535 50 (7 ∷ []) (recv.Got 1 12) ∷
      sends 0 (1 ∷ 2 ∷ []) 50 (send.Sent 2 11) ∷ connected Udp a)
  pub refused : Lawful (listens (over Tcp a) (listen.Refused cause.Other 3) ∷
      starts 0 (over Tcp a) (start.Refused cause.Refused 3) ∷ [])

-- lists of calls that are not lawful, each for the reason of its name
pub record WrongHistories (a : Address) : Type 0 where
  pub sends_on_a_shut_socket : Wrong (sends 0 (3 ∷ []) 50 (send.Sent 1 11) ∷ shuts 0 ∷ half_sent a)
  pub sends_before_it_completed : Wrong
      (sends 0 (3 ∷ []) 50 (send.Sent 1 11) ∷ starts 0 (over Tcp a) (start.Started 0 0) ∷ [])
  pub sends_on_a_failed_socket : Wrong
      (sends 0 (3 ∷ []) 50 (send.Sent 1 11) ∷ receives 0 9 50 [] (recv.Failed cause.Reset) ∷ half_sent a)
  pub sends_more_than_was_given : Wrong (sends 0 (3 ∷ []) 50 (send.Sent 2 11) ∷ half_sent a)
  pub sends_no_byte : Wrong (sends 0 (3 ∷ []) 50 (send.Sent 0 11) ∷ half_sent a)
  pub sends_a_part_of_a_datagram : Wrong (sends 0 (1 ∷ 2 ∷ []) 50 (send.Sent 1 11) ∷ connected Udp a)
  pub gets_no_bytes : Wrong (receives 0 9 50 [] (recv.Got 0 20) ∷ half_sent a)
  pub gets_more_than_fits : Wrong (receives 0 1 50 (7 ∷ 8 ∷ []) (recv.Got 2 20) ∷ half_sent a)
  pub receives_after_the_end : Wrong
      (receives 0 9 50 (7 ∷ []) (recv.Got 1 20) ∷ receives 0 9 50 [] recv.End ∷ half_sent a)
  pub ends_datagrams : Wrong (receives 0 65535 50 [] recv.End ∷ connected Udp a)
  pub shuts_datagrams : Wrong (shuts 0 ∷ connected Udp a)
  pub time_decreases : Wrong (sends 0 (3 ∷ []) 50 (send.Sent 1 10) ∷ half_sent a)
  pub timed_before_until : Wrong (sends 0 (3 ∷ []) 50 (send.Timed 49) ∷ half_sent a)
  pub listens_for_datagrams : Wrong (listens (over Udp a) (listen.Listening 0 0) ∷ [])
  pub accepts_from_a_connection : Wrong (accepts 0 20 (accept.Accepted 1 15) ∷ half_sent a)
  pub gives_a_number_again : Wrong (accepts 0 20 (accept.Accepted 1 15) ∷ taken_in a)
  pub closes_twice : Wrong (closes 0 ∷ closes 0 ∷ half_sent a)

-- over a stream the pieces are one; datagrams stay apart
pub record WorkedTraffic : Type 0 where
  pub stream : sent_on true (3 ∷ []) 12
      (sent_on true (1 ∷ 2 ∷ []) 11 (record { room = 5; last_sent = None; written = Some []; read = None })) ≡
      record { room = 2; last_sent = Some 12; written = Some ((1 ∷ 2 ∷ 3 ∷ []) ∷ []); read = None }
  pub datagrams : sent_on false (3 ∷ []) 12
      (sent_on false (1 ∷ 2 ∷ []) 11 (record { room = 5; last_sent = None; written = Some []; read = None })) ≡
      record { room = 2; last_sent = Some 12; written = Some ((1 ∷ 2 ∷ []) ∷ (3 ∷ []) ∷ []); read = None }
  pub received : received_on true (7 ∷ []) (record {
    room = 5;
    last_sent = None;
    written = None;
    read = Some
        ((6 ∷ []) ∷ []);
  }) ≡ record { room = 5; last_sent = None; written = None; read = Some ((6 ∷ 7 ∷ []) ∷ []) }

-- a record that shows another count than was answered, or a timed call that was not made
pub record WrongRecords (a : Address) : Type 0 where
  pub another_count : (before after : Net) → (before.traffic 0).written ≡ Some []
      → (after.traffic 0).written ≡ Some ((1 ∷ 2 ∷ 3 ∷ []) ∷ []) → Shows before (half_sent a) after → ⊥
  pub timed_without_a_call : (before after : Net) → before.timed ≡ 0
      → after.timed ≡ 1 → Shows before (half_sent a) after → ⊥

-- the definitions accept the lawful ones, refuse the wrong ones, and give the traffic
pub record JudgesWorkedCalls (a : Address) : Type 0 where
  pub lawful : LawfulHistories a
  pub wrong : WrongHistories a
  pub traffic : WorkedTraffic
  pub records : WrongRecords a
