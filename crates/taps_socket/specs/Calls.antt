-- The calls that are made on sockets, each with its answer. A list of calls stands with its newest one first.
use Rattle.std.specs.Prelude.{◌≡◌, ℕ, true, false, List, [], ◌∷◌, ◌++◌, map, take}
use Rattle.taps_stack.specs.declared.target.Target.{Target}
use Rattle.taps_socket.specs.declared.item.Item.{Item}
use Rattle.taps_socket.specs.declared.item.Item.TheVariants as item
use Rattle.taps_socket.specs.declared.answers.StartAnswer.{StartAnswer}
use Rattle.taps_socket.specs.declared.answers.StartAnswer.TheVariants as start
use Rattle.taps_socket.specs.declared.answers.WaitAnswer.{WaitAnswer}
use Rattle.taps_socket.specs.declared.answers.ListenAnswer.{ListenAnswer}
use Rattle.taps_socket.specs.declared.answers.ListenAnswer.TheVariants as listen
use Rattle.taps_socket.specs.declared.answers.AcceptAnswer.{AcceptAnswer}
use Rattle.taps_socket.specs.declared.answers.AcceptAnswer.TheVariants as accept
use Rattle.taps_socket.specs.declared.answers.SendAnswer.{SendAnswer}
use Rattle.taps_socket.specs.declared.answers.SendAnswer.TheVariants as send
use Rattle.taps_socket.specs.declared.answers.RecvAnswer.{RecvAnswer}
use Rattle.taps_socket.specs.declared.answers.RecvAnswer.TheVariants as recv

-- the time was asked; a target was connected to, for a leaf; a wait up to a time; a close; a target was listened on; an
-- accept up to a time; a send of bytes up to a time; the end of the sending side; and a receive of at most so many
-- bytes up to a time, with the bytes that came
pub data Call : Type 0 where
  begins : (at : ℕ) → Call
  starts : (leaf : ℕ) → (target : Target) → (answer : StartAnswer) → Call
  waits : (until : ℕ) → (answer : WaitAnswer) → Call
  closes : (socket : ℕ) → Call
  listens : (target : Target) → (answer : ListenAnswer) → Call
  accepts : (listener : ℕ) → (until : ℕ) → (answer : AcceptAnswer) → Call
  sends : (socket : ℕ) → (bytes : List ℕ) → (until : ℕ) → (answer : SendAnswer) → Call
  shuts : (socket : ℕ) → Call
  receives : (socket : ℕ) → (most : ℕ) → (until : ℕ) → (came : List ℕ) → (answer : RecvAnswer) → Call

-- what is asked by a call
pub data Request : Type 0 where
  to_begin : Request
  to_start : (leaf : ℕ) → (target : Target) → Request
  to_wait : (until : ℕ) → Request
  to_close : (socket : ℕ) → Request
  to_listen : (target : Target) → Request
  to_accept : (listener : ℕ) → (until : ℕ) → Request
  to_send : (socket : ℕ) → (bytes : List ℕ) → (until : ℕ) → Request
  to_shut : (socket : ℕ) → Request
  to_receive : (socket : ℕ) → (most : ℕ) → (until : ℕ) → Request

-- what a call asked for
abbrev pub request_of : Call → Request
request_of (begins at) = to_begin
request_of (starts leaf target answer) = to_start leaf target
request_of (waits until answer) = to_wait until
request_of (closes socket) = to_close socket
request_of (listens target answer) = to_listen target
request_of (accepts listener until answer) = to_accept listener until
request_of (sends socket bytes until answer) = to_send socket bytes until
request_of (shuts socket) = to_shut socket
request_of (receives socket most until came answer) = to_receive socket most until

-- the item of a start, and its time
abbrev pub started_item : ℕ → Target → StartAnswer → Item
started_item leaf target (start.Started socket at) = item.Started leaf target socket at
started_item leaf target (start.Refused cause at) = item.Refused leaf target cause at

-- the time that an answer to a start reports
abbrev pub started_at : StartAnswer → ℕ
started_at (start.Started socket at) = at
started_at (start.Refused cause at) = at

-- the item of a listen, and its time
abbrev pub listened_item : Target → ListenAnswer → Item
listened_item target (listen.Listening socket at) = item.Listening target socket at
listened_item target (listen.Refused cause at) = item.NotListening target cause at

-- the time that an answer to a listen reports
abbrev pub listened_at : ListenAnswer → ℕ
listened_at (listen.Listening socket at) = at
listened_at (listen.Refused cause at) = at

-- the items of an accept, and its time
abbrev pub accepted_items : ℕ → AcceptAnswer → List Item
accepted_items listener (accept.Accepted socket at) = item.Accepted listener socket at ∷ []
accepted_items listener (accept.Timed at) = []
accepted_items listener (accept.Faulted at) = item.Faulted at ∷ []

-- the time that an answer to an accept reports
abbrev pub accepted_at : AcceptAnswer → ℕ
accepted_at (accept.Accepted socket at) = at
accepted_at (accept.Timed at) = at
accepted_at (accept.Faulted at) = at

-- the items of a send, and the bytes that were taken
abbrev pub sent_items : ℕ → SendAnswer → List Item
sent_items socket (send.Sent count at) = []
sent_items socket (send.Timed at) = []
sent_items socket (send.Failed cause) = item.DataFailed socket true cause ∷ []

-- the bytes that an answer to a send says were taken
abbrev pub taken_of : List ℕ → SendAnswer → List ℕ
taken_of bytes (send.Sent count at) = take count bytes
taken_of bytes (send.Timed at) = []
taken_of bytes (send.Failed cause) = []

-- the items of a receive, and the bytes that came
abbrev pub received_items : ℕ → RecvAnswer → List Item
received_items socket (recv.Got count at) = []
received_items socket recv.End = item.Ended socket ∷ []
received_items socket (recv.Timed at) = []
received_items socket (recv.Failed cause) = item.DataFailed socket false cause ∷ []

-- the bytes that an answer to a receive says are at the buffer's beginning
abbrev pub came_in : List ℕ → RecvAnswer → List ℕ
came_in out (recv.Got count at) = take count out
came_in out recv.End = []
came_in out (recv.Timed at) = []
came_in out (recv.Failed cause) = []

-- the items that a call adds: one, or none
abbrev pub items_by : Call → List Item
items_by (begins at) = item.Began at ∷ []
items_by (starts leaf target answer) = started_item leaf target answer ∷ []
items_by (waits until answer) = item.Waited until answer.at answer.how ∷ []
items_by (closes socket) = item.Closed socket ∷ []
items_by (listens target answer) = listened_item target answer ∷ []
items_by (accepts listener until answer) = accepted_items listener answer
items_by (sends socket bytes until answer) = sent_items socket answer
items_by (shuts socket) = item.Shut socket ∷ []
items_by (receives socket most until came answer) = received_items socket answer

-- the items that calls add, newest first
abbrev pub items_of : List Call → List Item
items_of [] = []
items_of (call ∷ earlier) = items_by call ++ items_of earlier

-- each of the calls added one item, and these are the items
abbrev pub AddEach : List Call → List Item → Type 0
AddEach calls items = map items_by calls ≡ map (λ i. i ∷ []) items

-- calls led from sockets to sockets, each of which added one of the items that came to the trace
pub record HasAdded {N : Type 0} (Becomes : N → List Call → N → Type 0)
    (before after : N) (trace trace' : List Item) : Type 0 where
  pub calls : List Call
  pub items : List Item
  pub added : trace' ≡ items ++ trace
  pub each : AddEach calls items
  pub becomes : Becomes before calls after
