-- The turn of the end that hears: the call that it makes, and what comes behind it.
use Rattle.std.specs.Prelude.{◌≡◌, ◌≢◌, ℕ, ◌+◌, ◌-◌, ◌<◌, ◌≤◌, Bool, true, false, not, ◌&&◌, nat_le, min, if◌then◌else◌, List, [], ◌++◌, length, take, Result, Ok, Err}
use Rattle.taps_base.specs.declared.no_memory.NoMemory.{NoMemory}
use Rattle.taps_framer.specs.Layers.{Layer}
use Rattle.taps_socket.specs.Calls.{Call}
use Rattle.taps_socket.specs.Shows.{told_after}
use Rattle.taps_connection.specs.declared.pulled.Pulled.{Pulled}
use Rattle.taps_connection.specs.declared.pulled.Pulled.TheVariants as pulled
use Rattle.taps_connection.specs.Unread.{Unread, count_given}
use Rattle.taps_exchange.specs.declared.outcome.Outcome.TheVariants as outcome
use Rattle.taps_exchange.specs.Decodings.{Hearing, enough, lacks, decoding_of}
use Rattle.taps_exchange.specs.Members.{calls_on, pieces_read}
use Rattle.taps_exchange.specs.Turns.{Turn, over, IsInTurn}
use Rattle.taps_loop.specs.declared.hearing.Asked.{Asked}
use Rattle.taps_loop.specs.declared.hearing.Asked.TheVariants as asked
use Rattle.taps_loop.specs.declared.hearing.In.{In}
use Rattle.taps_loop.specs.declared.hearing.In.TheVariants as in_turn
use Rattle.taps_loop.specs.declared.looked.Look.{Look}
use Rattle.taps_loop.specs.declared.looked.Look.TheVariants as look
use Rattle.taps_loop.specs.Loops.{Ends, sent_in, had_turn, waiting, peer_ended, hearing, turn_hearing, turn_sending, turn_next, turn_loop, heard_in}
use Rattle.taps_loop.specs.Looks.{IsReceiving, to_hear, IsNearer}

abbrev pub one_true : Bool → ℕ
one_true true = 1
one_true false = 0

-- the last reported time, or one millisecond later, up to the deadline
abbrev pub soon_by : ℕ → ℕ → ℕ
soon_by told deadline = min deadline (told + 1)

-- what a look in the bytes that came makes of the turn
abbrev pub in_found : Look → In
in_found look.Enough = in_turn.Asked true
in_found look.Lacks = in_turn.Asked false
in_found (look.Over o) = in_turn.Over o

-- what the answer of a connection makes of the turn; where bytes or the end of the stream came, these are looked at
abbrev pub timed_by : ℕ → Bool → ℕ → Asked
timed_by deadline waits at = if nat_le deadline at && not waits then asked.Over outcome.Timed else asked.Nothing

abbrev pub asked_by : ℕ → Bool → Pulled → Result Asked NoMemory
asked_by deadline waits pulled.Got = Ok asked.Came
asked_by deadline waits pulled.Ended = Ok asked.Came
asked_by deadline waits (pulled.Timed at) = Ok (timed_by deadline waits at)
asked_by deadline waits (pulled.Failed cause) = Ok (asked.Over (outcome.DataFailed cause))
asked_by deadline waits pulled.NoMemory = Err (record {})

-- what stays in a turn: the decoding, the sockets and the deadline
pub record IsEnd (x : Ends) (stream : Bool) (fs : List Layer) (socket piece deadline : ℕ) : Type 0 where
  pub decoding_is : x.to.decoding ≡ decoding_of stream fs
  pub socket_is : x.to.socket ≡ socket
  pub piece_is : x.to.piece ≡ piece
  pub deadline_is : x.from.until ≡ deadline
  pub apart : x.from.socket ≢ socket

-- what is kept of the receiving stands for the calls
pub record IsKept (x : Ends) (calls : List Call) (stream : Bool) (fs : List Layer) (piece : ℕ) (ended : Bool)
    (u : Unread) (ms : List (List ℕ)) : Type 0 where
  pub ended_is : ended ≡ peer_ended x calls
  pub receiving : IsReceiving stream fs piece ended u (pieces_read (calls_on x.to.socket calls)) ms

-- after these calls it is the turn of the accepted end, which needs so many messages, and then others
pub record IsToHear (x : Ends) (calls : List Call) (others : Turn) (more needs told : ℕ) : Type 0 where
  pub in_turn : IsInTurn (turn_loop x) calls
  pub turn : turn_loop x calls ≡ turn_hearing x more calls others
  pub behind : (if had_turn calls then 0 else waiting x calls) ≡ more
  pub at_most : more ≤ waiting x calls
  pub needs_is : needs ≡ sent_in x calls + more
  pub told_is : told ≡ told_after calls x.from.accepted

-- as many messages were heard as are needed, or fewer
abbrev pub IsFlagged : Bool → ℕ → Hearing → List (List ℕ) → Type 0
IsFlagged true needs h ms = (needs ≤ length ms) × (h ≡ enough (take needs ms))
IsFlagged false needs h ms = (length ms < needs) × ((unread : List ℕ) × (h ≡ lacks ms unread))

-- nothing was asked for, since as many were heard as are needed; or a call was made; or the exchange is over
abbrev pub IsIn : Ends → List Call → List Call → Bool → List Layer → ℕ → ℕ → ℕ → In → Bool → Unread →
    List (List ℕ) → Type 0
IsIn x calls later stream fs piece more needs in_turn.Enough ended u ms =
    (later ≡ []) × IsKept x calls stream fs piece ended u ms × IsFlagged true needs (hearing x more calls) ms
IsIn x calls later stream fs piece more needs (in_turn.Asked b) ended u ms =
    IsKept x (later ++ calls) stream fs piece ended u ms × IsFlagged b needs (hearing x more (later ++ calls)) ms
    × (turn_loop x (later ++ calls) ≡ turn_sending x (later ++ calls)) × (had_turn (later ++ calls) ≡ true)
    × (waiting x (later ++ calls) ≡ more)
IsIn x calls later stream fs piece more needs (in_turn.Over o) ended u ms =
    (turn_loop x (later ++ calls) ≡ over o) × (heard_in x (later ++ calls) o ≡ ms)

abbrev pub IsInIf : Ends → List Call → List Call → Bool → List Layer → ℕ → ℕ → ℕ → Result In NoMemory → Bool → Unread →
    List (List ℕ) → Type 0
IsInIf x calls later stream fs piece more needs (Ok i) ended u ms =
    IsIn x calls later stream fs piece more needs i ended u ms
IsInIf x calls later stream fs piece more needs (Err none) ended u ms = Unit {0}

-- bytes or the end of the stream came, so that what was read is looked at
pub record HasCome (x : Ends) (calls : List Call) (stream : Bool) (fs : List Layer) (piece more : ℕ) (ended : Bool)
    (u : Unread) (ms : List (List ℕ)) : Type 0 where
  pub kept : IsKept x calls stream fs piece ended u ms
  pub turn : turn_loop x calls ≡ turn_next x calls
  pub had : had_turn calls ≡ true
  pub waits : waiting x calls ≡ more

abbrev pub IsReadIf : Ends → List Call → List Call → Bool → List Layer → ℕ → ℕ → ℕ → Result Asked NoMemory → Bool →
    Unread → List (List ℕ) → Type 0
IsReadIf x calls later stream fs piece more needs (Ok asked.Came) ended u ms =
    HasCome x (later ++ calls) stream fs piece more ended u ms
IsReadIf x calls later stream fs piece more needs (Ok asked.Nothing) ended u ms =
    IsIn x calls later stream fs piece more needs (in_turn.Asked false) ended u ms
IsReadIf x calls later stream fs piece more needs (Ok (asked.Over o)) ended u ms =
    IsIn x calls later stream fs piece more needs (in_turn.Over o) ended u ms
IsReadIf x calls later stream fs piece more needs (Err none) ended u ms = Unit {0}

-- calls on the socket were made, each in turn
pub record HasAsked {N : Type 0} (Becomes : N → List Call → N → Type 0) (x : Ends) (calls : List Call)
    (before after : N) (P : List Call → Type 0) : Type 0 where
  pub later : List Call
  pub becomes : Becomes before later after
  pub in_turn : IsInTurn (turn_loop x) (later ++ calls)
  pub elsewhere : calls_on x.from.socket (later ++ calls) ≡ calls_on x.from.socket calls
  pub then_so : P later

-- less is to be heard, or the deadline is nearer, unless it has passed and a message waits
pub record IsSooner (waits : Bool) (deadline told told' : ℕ) (ended : Bool) (u : Unread) (ended' : Bool) (u' : Unread) :
    Type 0 where
  pub rises : told ≤ told'
  pub same : to_hear ended' u' ≤ to_hear ended u
  pub less : (waits ≡ true → told < deadline) →
      to_hear ended' u' + (deadline - told') < to_hear ended u + (deadline - told)

abbrev pub IfCame : Result Asked NoMemory → Type 0 → Type 0
IfCame (Ok asked.Came) P = P
IfCame (Ok asked.Nothing) P = P
IfCame (Ok (asked.Over o)) P = Unit {0}
IfCame (Err none) P = Unit {0}

-- the exchange goes on
abbrev pub IfInGoesOn : Result In NoMemory → Type 0 → Type 0
IfInGoesOn (Ok in_turn.Enough) P = P
IfInGoesOn (Ok (in_turn.Asked b)) P = P
IfInGoesOn (Ok (in_turn.Over o)) P = Unit {0}
IfInGoesOn (Err none) P = Unit {0}

-- nothing was asked for, and no more is to be heard than before, less where messages were given out; or a call was made
abbrev pub IsInSooner : ℕ → Bool → ℕ → ℕ → ℕ → Result In NoMemory → Bool → Unread → Bool → Unread → Type 0
IsInSooner needs waits deadline told told' (Ok in_turn.Enough) ended u ended' u' =
    (told' ≡ told) × (ended' ≡ ended) × IsNearer ended u u' × (needs ≤ count_given u')
IsInSooner needs waits deadline told told' (Ok (in_turn.Asked b)) ended u ended' u' =
    IsSooner waits deadline told told' ended u ended' u' × (b ≡ false → count_given u' < needs)
IsInSooner needs waits deadline told told' (Ok (in_turn.Over o)) ended u ended' u' = Unit {0}
IsInSooner needs waits deadline told told' (Err none) ended u ended' u' = Unit {0}
