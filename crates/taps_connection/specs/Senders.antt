-- What a connection keeps of its sending, and how it represents the outbox of its calls.
use Rattle.std.specs.Prelude.{◌≡◌, ℕ, ◌+◌, ◌<◌, ◌≤◌, Bool, true, false, ◌||◌, if◌then◌else◌, List, [], ◌∷◌, drop, length, Option, Some, None}
use Rattle.taps_message.specs.declared.accepted.Accepted.{Accepted}
use Rattle.taps_message.specs.declared.message.Message.{Message}
use Rattle.taps_message.specs.Queues.{Queue, empty_queue, with_front, number_of_first}
use Rattle.taps_message.specs.Expiry.{has_expired}
use Rattle.taps_socket.specs.declared.item.Item.{Item}
use Rattle.taps_socket.specs.declared.item.Item.TheVariants as item
use Rattle.taps_socket.specs.declared.timed_call.TimedCall.{TimedCall}
use Rattle.taps_socket.specs.declared.timed_call.TimedKind.TheVariants as kind
use Rattle.taps_socket.specs.declared.answers.SendAnswer.{SendAnswer}
use Rattle.taps_socket.specs.declared.answers.SendAnswer.TheVariants as send
use Rattle.taps_socket.specs.Calls.{Call, sends, shuts, items_of}
use Rattle.taps_connection.specs.declared.sender.Begun.{Begun}
use Rattle.taps_connection.specs.declared.sender.Sender.{Sender}
use Rattle.taps_connection.specs.declared.sender.Pushed.{Pushed}
use Rattle.taps_connection.specs.declared.sender.Pushed.TheVariants as pushed
use Rattle.taps_connection.specs.Encodings.{Encoding}
use Rattle.taps_connection.specs.Outboxes.{Outbox, refused, all_out, take_turn, or_else}
use Rattle.taps_connection.specs.Pushes.{left_at}
use Rattle.taps_connection.specs.Runs.{IsRun, AllAsked, AllGo, EndsWith}

-- the messages that had no turn
abbrev pub queued : Sender → List Accepted
queued s = s.queue.queue.queued

-- all messages had their turn
abbrev pub idle : Sender → Outbox
idle s = record { stand = all_out; sent = s.sent; expired = s.expired; moment = s.moment }

-- the outbox that is represented: where nothing is begun, the next messages have their turn
abbrev pub settled_by : Encoding → Sender → Option Begun → Outbox
settled_by e s None = take_turn e s.moment s.sent s.expired (queued s)
settled_by e s (Some b) = left_at e (idle s) s.moment b.number b.ends (drop b.taken b.bytes) (queued s)

abbrev pub settled : Encoding → Sender → Outbox
settled e s = settled_by e s s.begun

-- what comes next: nothing; a message expires; a layer cannot encode it; or it goes out
pub data Turn : Type 0 where
  nothing : Turn
  expires : (number : ℕ) → Turn
  refuses : (number layer : ℕ) → Turn
  goes : (message : Begun) → Turn

-- a message as it is begun behind so many sent ones
abbrev pub begun_of : Encoding → ℕ → Accepted → Begun
begun_of e sent m = record {
  number = m.number;
  ends = e.ends m.message.props.is_final;
  bytes = e.bytes sent m.message.body;
  taken = 0;
}

abbrev pub turn_if : Option ℕ → ℕ → Begun → Turn
turn_if None number message = goes message
turn_if (Some layer) number message = refuses number layer

abbrev pub turn_in : Encoding → ℕ → ℕ → List Accepted → Turn
turn_in e moment sent [] = nothing
turn_in e moment sent (m ∷ behind) =
    if has_expired m moment then expires m.number
    else turn_if (e.refusal sent m.message.body) m.number (begun_of e sent m)

abbrev pub turn_by : Encoding → Sender → Option Begun → Turn
turn_by e s (Some b) = goes b
turn_by e s None = turn_in e s.moment s.sent (queued s)

-- the turn of the begun message, or else of the next one
abbrev pub turn_of : Encoding → Sender → Turn
turn_of e s = turn_by e s s.begun

-- the messages behind the one whose turn it is
abbrev pub tail_of : List Accepted → List Accepted
tail_of [] = []
tail_of (m ∷ behind) = behind

abbrev pub behind_by : Option Begun → List Accepted → List Accepted
behind_by (Some b) messages = messages
behind_by None messages = tail_of messages

-- the queue without it
abbrev pub queue_behind : Sender → Queue
queue_behind s = record s.queue.queue { queued = behind_by s.begun (queued s) }

-- the item of a stream's end
abbrev pub shut_items : Bool → ℕ → List Item
shut_items true socket = item.Shut socket ∷ []
shut_items false socket = []

-- the call by which a stream is ended
abbrev pub ends_by : Bool → ℕ → List Call
ends_by true socket = shuts socket ∷ []
ends_by false socket = []

-- the message whose turn it was was sent whole, and the sending side is ended behind it or not
pub record IsSent (e : Encoding) (socket : ℕ) (s : Sender) (number : ℕ) (calls : List Call) (t : Sender) : Type 0 where
  pub message : Begun
  pub turn : turn_of e s ≡ goes message
  pub named : number ≡ message.number
  pub all_go : AllGo calls
  pub items : items_of calls ≡ shut_items message.ends socket
  pub kept : t ≡ record s {
    queue = t.queue;
    begun = None;
    sent = s.sent + 1;
    moment = t.moment;
    shut = s.shut || message.ends;
  }
  pub queue : t.queue.queue ≡ queue_behind s

-- the newest call, which was to send the rest of the message whose turn it was, was answered so, and the rest stays
pub record IsStopped (e : Encoding) (socket until : ℕ) (s : Sender) (answer : SendAnswer) (calls : List Call)
    (t : Sender) : Type 0 where
  pub message : Begun
  pub taken : ℕ
  pub turn : turn_of e s ≡ goes message
  pub grew : message.taken ≤ taken
  pub left : taken < length message.bytes
  pub newest : EndsWith calls (sends socket (drop taken message.bytes) until answer)
  pub kept : t ≡ record s { queue = t.queue; begun = Some (record message { taken = taken }); moment = t.moment }
  pub queue : t.queue.queue ≡ queue_behind s

-- nothing was called, and what is kept is the same but for the message whose turn it was, which is taken out
pub record IsTakenOut (s : Sender) (calls : List Call) (t : Sender) : Type 0 where
  pub begun : s.begun ≡ None
  pub nothing_called : calls ≡ []
  pub kept : t ≡ record s { queue = t.queue; expired = t.expired }
  pub queue : t.queue.queue ≡ queue_behind s

-- nothing was called, and all stays
pub record IsSame (s : Sender) (calls : List Call) (t : Sender) : Type 0 where
  pub begun : s.begun ≡ None
  pub nothing_called : calls ≡ []
  pub kept : t ≡ record s { queue = t.queue }
  pub queue : t.queue.queue ≡ s.queue.queue

-- each call is what the outbox asks where no message is behind the one whose turn it is
abbrev pub AreOfOne : Encoding → ℕ → ℕ → Sender → List Call → Type 0
AreOfOne e socket until s calls = (message : Begun) → turn_of e s ≡ goes message →
    AllAsked e socket until
    (left_at e (idle s) s.moment message.number message.ends (drop message.taken message.bytes) []) calls

-- a message would go out, or be refused
abbrev pub IsTried : Turn → Type 0
IsTried nothing = ⊥
IsTried (expires number) = ⊥
IsTried (refuses number layer) = Unit {0}
IsTried (goes message) = Unit {0}

-- the answer has its cause in the turn, the calls are those that the outbox asked, and what is kept represents
-- the outbox after them
abbrev pub IsPushed : Encoding → ℕ → ℕ → Sender → Pushed → List Call → Sender → Type 0
IsPushed e socket until s (pushed.Sent number) calls t =
    IsRun e socket until (settled e s) calls (settled e t) × IsSent e socket s number calls t ×
    AreOfOne e socket until s calls
IsPushed e socket until s pushed.Empty calls t =
    (settled e s ≡ idle s) × (turn_of e s ≡ nothing) × IsSame s calls t × (queued s ≡ [])
IsPushed e socket until s (pushed.Expired number) calls t =
    (settled e t ≡ settled e s) × (turn_of e s ≡ expires number) × (t.expired ≡ Some (or_else s.expired number)) ×
    IsTakenOut s calls t
IsPushed e socket until s (pushed.Timed at) calls t =
    IsRun e socket until (settled e s) calls (settled e t) × IsStopped e socket until s (send.Timed at) calls t ×
    (items_of calls ≡ []) × AreOfOne e socket until s calls
IsPushed e socket until s (pushed.Failed cause) calls t =
    IsRun e socket until (settled e s) calls (settled e t) × IsStopped e socket until s (send.Failed cause) calls t ×
    (items_of calls ≡ item.DataFailed socket true cause ∷ []) × AreOfOne e socket until s calls
IsPushed e socket until s (pushed.NotSpeakable number layer) calls t =
    ((settled e s).stand ≡ refused number layer (queued t)) × (turn_of e s ≡ refuses number layer) ×
    (t.expired ≡ s.expired) × IsTakenOut s calls t
IsPushed e socket until s pushed.NoMemory calls t = IsTried (turn_of e s) × IsSame s calls t

-- there are such calls
pub record IsDriven {N : Type 0} (Becomes : N → List Call → N → Type 0) (e : Encoding) (before after : N)
    (socket until : ℕ) (s : Sender) (answer : Pushed) (t : Sender) : Type 0 where
  pub calls : List Call
  pub becomes : Becomes before calls after
  pub pushed_by : IsPushed e socket until s answer calls t

-- the items that are added then, by whether the sending side is ended now, and the timed call that is made, if one is
abbrev pub pushed_items : ℕ → Bool → Pushed → List Item
pushed_items socket is_shut (pushed.Sent number) = shut_items is_shut socket
pushed_items socket is_shut pushed.Empty = []
pushed_items socket is_shut (pushed.Expired number) = []
pushed_items socket is_shut (pushed.Timed at) = []
pushed_items socket is_shut (pushed.Failed cause) = item.DataFailed socket true cause ∷ []
pushed_items socket is_shut (pushed.NotSpeakable number layer) = []
pushed_items socket is_shut pushed.NoMemory = []

abbrev pub pushed_call : ℕ → ℕ → Pushed → Option TimedCall
pushed_call socket until (pushed.Sent number) = None
pushed_call socket until pushed.Empty = None
pushed_call socket until (pushed.Expired number) = None
pushed_call socket until (pushed.Timed at) = Some (record { kind = kind.Send; socket = socket; until = until; at = at })
pushed_call socket until (pushed.Failed cause) = None
pushed_call socket until (pushed.NotSpeakable number layer) = None
pushed_call socket until pushed.NoMemory = None

-- the number of bytes left of the begun message
abbrev pub rest_by : Option Begun → ℕ
rest_by None = 0
rest_by (Some b) = length (drop b.taken b.bytes)

abbrev pub rest_of : Sender → ℕ
rest_of s = rest_by s.begun

-- a begun message was sent on
abbrev pub IsMoved : Pushed → Type 0
IsMoved (pushed.Sent number) = Unit {0}
IsMoved (pushed.Timed at) = Unit {0}
IsMoved (pushed.Failed cause) = Unit {0}
IsMoved pushed.Empty = ⊥
IsMoved (pushed.Expired number) = ⊥
IsMoved (pushed.NotSpeakable number layer) = ⊥
IsMoved pushed.NoMemory = ⊥

-- a stream is ended behind the begun message only where there is one
abbrev pub EndsStream : Option Begun → Bool → Type 0
EndsStream None stream = Unit {0}
EndsStream (Some b) stream = b.ends ≡ true → stream ≡ true

-- none was
abbrev pub IsStill : Pushed → Type 0
IsStill (pushed.Sent number) = ⊥
IsStill (pushed.Timed at) = ⊥
IsStill (pushed.Failed cause) = ⊥
IsStill pushed.Empty = Unit {0}
IsStill (pushed.Expired number) = Unit {0}
IsStill (pushed.NotSpeakable number layer) = Unit {0}
IsStill pushed.NoMemory = Unit {0}

-- the message whose turn it was is begun
pub record IsBegun (e : Encoding) (s t : Sender) : Type 0 where
  pub message : Begun
  pub none : s.begun ≡ None
  pub turn : turn_of e s ≡ goes message
  pub kept : t ≡ record s { queue = t.queue; begun = Some message }
  pub queue : t.queue.queue ≡ queue_behind s
  pub represents : settled e t ≡ settled e s

-- a message is begun, or the turn had another answer
abbrev pub IsTaken : Encoding → ℕ → ℕ → Sender → Option Pushed → Sender → Type 0
IsTaken e socket until s None t = IsBegun e s t
IsTaken e socket until s (Some answer) t = IsPushed e socket until s answer [] t × IsStill answer

-- what became of a message that was taken out of the queue of what is kept
abbrev pub IsOpened : Encoding → Sender → ℕ → Message → Option Pushed → Sender → Type 0
IsOpened e s number m None t =
    (e.refusal s.sent m.body ≡ None) ×
    (t ≡ record s {
      begun =
          Some (record { number = number; ends = e.ends m.props.is_final; bytes = e.bytes s.sent m.body; taken = 0 });
    })
IsOpened e s number m (Some (pushed.NotSpeakable n layer)) t =
    (n ≡ number) × (e.refusal s.sent m.body ≡ Some layer) × (t ≡ s)
IsOpened e s number m (Some pushed.NoMemory) t =
    (t ≡ record s { queue = t.queue }) ×
    ((at : ℕ) → s.queue.taken ≡ Some (record { number = number; at = at }) →
    t.queue.queue ≡ with_front (record { number = number; at = at; message = m }) s.queue.queue)
IsOpened e s number m (Some (pushed.Sent n)) t = ⊥
IsOpened e s number m (Some pushed.Empty) t = ⊥
IsOpened e s number m (Some (pushed.Expired n)) t = ⊥
IsOpened e s number m (Some (pushed.Timed at)) t = ⊥
IsOpened e s number m (Some (pushed.Failed cause)) t = ⊥

-- the number of the begun message, or else of the first queued one
abbrev pub number_by : Option Begun → List Accepted → Option ℕ
number_by (Some b) messages = Some b.number
number_by None messages = number_of_first messages

abbrev pub waiting_number : Sender → Option ℕ
waiting_number s = number_by s.begun (queued s)

-- sending did not fail, so that the connection may go on
abbrev pub UnlessFailed : Pushed → Type 0 → Type 0
UnlessFailed (pushed.Sent number) P = P
UnlessFailed pushed.Empty P = P
UnlessFailed (pushed.Expired number) P = P
UnlessFailed (pushed.Timed at) P = P
UnlessFailed (pushed.Failed cause) P = Unit {0}
UnlessFailed (pushed.NotSpeakable number layer) P = P
UnlessFailed pushed.NoMemory P = P

-- nothing was accepted yet
abbrev pub IsNewSender : ℕ → Sender → Type 0
IsNewSender at s =
    s ≡ record {
      queue = record { queue = empty_queue; taken = None };
      begun = None;
      sent = 0;
      expired = None;
      moment = at;
      shut = false;
    }
