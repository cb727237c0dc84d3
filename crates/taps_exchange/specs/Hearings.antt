-- How a connection hears as many messages as are needed, whatever calls came before (RFC 9622 section 9.3). A list of
-- calls stands with its newest one first.
use Rattle.std.specs.Prelude.{◌≡◌, ℕ, ◌+◌, ◌-◌, ◌*◌, ◌<◌, Bool, true, false, ◌||◌, List, [], ◌∷◌, ◌++◌, length, map, Option, Some, None, Result, Ok, Err}
use Rattle.taps_base.specs.declared.no_memory.NoMemory.{NoMemory}
use Rattle.taps_framer.specs.Layers.{Layer}
use Rattle.taps_socket.specs.Calls.{Call, Request, to_receive, request_of}
use Rattle.taps_connection.specs.Histories.{message, Represents}
use Rattle.taps_connection.specs.Runs.{is_stopped}
use Rattle.taps_connection.specs.Unread.{Unread, framed, plain, datagrams, count_given, most_of}
use Rattle.taps_exchange.specs.declared.heard.Step.{Step}
use Rattle.taps_exchange.specs.declared.heard.Step.TheVariants as step
use Rattle.taps_exchange.specs.declared.outcome.Outcome.{Outcome}
use Rattle.taps_exchange.specs.declared.outcome.Outcome.TheVariants as outcome
use Rattle.taps_exchange.specs.Decodings.{Decoding, Hearing, enough, lacks, breaks, messages_of}
use Rattle.taps_exchange.specs.Members.{pieces_read, has_ended}
use Rattle.taps_exchange.specs.Sendings.{OthersGo}
use Rattle.taps_exchange.specs.Turns.{stop}

-- what is kept of the receiving is of a stream through these layers, of a stream with none, or of datagrams; over a
-- stream it asks for so many bytes at once
abbrev pub Fits : Bool → List Layer → ℕ → Unread → Type 0
Fits stream fs piece (framed p bytes index bad) = (stream ≡ true) × (0 < length fs) × (p ≡ piece)
Fits stream fs piece (plain p bytes given) = (stream ≡ true) × (fs ≡ []) × (p ≡ piece)
Fits stream fs piece (datagrams held given) = stream ≡ false

-- what is asked of a socket, by whether the other end ended its sending side and what was heard: more bytes, where
-- fewer messages were heard than are needed
abbrev pub asks_in : Decoding → ℕ → ℕ → ℕ → Bool → Hearing → Option Request
asks_in d socket piece until true h = None
asks_in d socket piece until false (lacks ms unread) = Some (to_receive socket (d.most piece unread) until)
asks_in d socket piece until false (enough ms) = None
asks_in d socket piece until false (breaks ms layer place) = None

-- whether the other end ended its sending side, before these calls or by them
abbrev pub ended_by : Bool → List Call → Bool
ended_by ended calls = has_ended calls || ended

-- what was heard of the pieces that were read before these calls, and then by them
abbrev pub heard_by : Decoding → ℕ → List (List ℕ) → Bool → List Call → Hearing
heard_by d needs read ended calls = d.hearing needs (read ++ pieces_read calls) (ended_by ended calls)

-- each call is the receive that is asked for then
abbrev pub AllAskedIn : Decoding → ℕ → ℕ → ℕ → ℕ → List (List ℕ) → Bool → List Call → Type 0
AllAskedIn d socket piece until needs read ended [] = Unit {0}
AllAskedIn d socket piece until needs read ended (call ∷ earlier) =
    (asks_in d socket piece until (ended_by ended earlier) (heard_by d needs read ended earlier)
    ≡ Some (request_of call)) × AllAskedIn d socket piece until needs read ended earlier

-- the outcome that ends the hearing, if one does: that of the newest call, which was timed or failed; or the other end
-- ended its sending side too early; or bytes are no messages
abbrev pub ends_in : Option Outcome → Bool → Hearing → Option Outcome
ends_in (Some o) ended h = Some o
ends_in None ended (enough ms) = None
ends_in None true (lacks ms unread) = Some outcome.PeerEnded
ends_in None false (lacks ms unread) = None
ends_in None ended (breaks ms layer place) =
    Some (outcome.BadFrame (record { message = length ms; layer = layer; place = place }))

-- Such an outcome ended the hearing; or there is none, and as many messages were heard as are needed. Those that were
-- heard are these.
pub record IsHeardOut (calls : List Call) (ended : Bool) (h : Hearing) (stopped : Option Outcome)
    (heard : List (List ℕ)) : Type 0 where
  pub ends : ends_in (stop calls) ended h ≡ stopped
  pub all_heard : stopped ≡ None → h ≡ enough heard
  pub heard_is : messages_of h ≡ heard

-- so it is, or memory ran out
abbrev pub IsHearingEnd : List Call → Bool → Hearing → Result (Option Outcome) NoMemory → List (List ℕ) → Type 0
IsHearingEnd calls ended h (Ok stopped) heard = IsHeardOut calls ended h stopped heard
IsHearingEnd calls ended h (Err none) heard = Unit {0}

-- behind these pieces there are calls, each of which is asked for, and with them the hearing ended so
pub record HasHeard {N : Type 0} (Becomes : N → List Call → N → Type 0) (d : Decoding) (before after : N)
    (socket piece until needs : ℕ) (read : List (List ℕ)) (ended : Bool) (result : Result (Option Outcome) NoMemory)
    (heard : List (List ℕ)) : Type 0 where
  pub calls : List Call
  pub becomes : Becomes before calls after
  pub others_go : OthersGo calls
  pub asked : AllAskedIn d socket piece until needs read ended calls
  pub ended_so : IsHearingEnd calls (ended_by ended calls) (heard_by d needs read ended calls) result heard

-- of these pieces fewer messages were heard than are needed, namely these, and as many bytes are asked for as what is
-- kept of them lets
pub record IsLacking (d : Decoding) (piece needs : ℕ) (read : List (List ℕ)) (ended : Bool) (u : Unread)
    (heard : List (List ℕ)) : Type 0 where
  pub unread : List ℕ
  pub fewer : d.hearing needs read ended ≡ lacks heard unread
  pub most : d.most piece unread ≡ most_of u

-- behind these pieces one call was made, which is asked for and was neither timed nor failed, and what is kept stands
-- for what was read then
pub record HasAskedMore {N : Type 0} (Becomes : N → List Call → N → Type 0) (d : Decoding) (fs : List Layer)
    (before after : N) (socket piece until needs : ℕ) (read : List (List ℕ)) (ended : Bool) (now_ended : Bool)
    (u : Unread) (heard : List (List ℕ)) : Type 0 where
  pub call : Call
  pub becomes : Becomes before (call ∷ []) after
  pub goes : is_stopped call ≡ false
  pub asked : AllAskedIn d socket piece until needs read ended (call ∷ [])
  pub ended_now : now_ended ≡ ended_by ended (call ∷ [])
  pub represents : Represents fs now_ended u (read ++ pieces_read (call ∷ [])) (map message heard)

-- what one step of hearing made of it
abbrev pub HasStepped : {N : Type 0} → (N → List Call → N → Type 0) → Decoding → List Layer → N → N → ℕ → ℕ → ℕ → ℕ →
    List (List ℕ) → Bool → Bool → Unread → Result Step NoMemory → List (List ℕ) → Type 0
HasStepped Becomes d fs before after socket piece until needs read ended now_ended u (Ok (step.Message body)) heard =
    Becomes before [] after × (now_ended ≡ ended) × Represents fs ended u read (map message (heard ++ body ∷ []))
HasStepped Becomes d fs before after socket piece until needs read ended now_ended u (Ok step.More) heard =
    HasAskedMore Becomes d fs before after socket piece until needs read ended now_ended u heard
HasStepped Becomes d fs before after socket piece until needs read ended now_ended u (Ok (step.Over o)) heard =
    HasHeard Becomes d before after socket piece until needs read ended (Ok (Some o)) heard
HasStepped Becomes d fs before after socket piece until needs read ended now_ended u (Err none) heard =
    HasHeard Becomes d before after socket piece until needs read ended (Err none) heard

-- the hearing goes on
abbrev pub IfGoesOn : Result Step NoMemory → Type 0 → Type 0
IfGoesOn (Ok (step.Message body)) P = P
IfGoesOn (Ok step.More) P = P
IfGoesOn (Ok (step.Over o)) P = Unit {0}
IfGoesOn (Err none) P = Unit {0}

-- how much may still be asked for before a message is given out: bytes, or the one datagram, and the end
abbrev pub lacks_bytes : Unread → ℕ
lacks_bytes (framed p bytes index bad) = 4194305 - length bytes
lacks_bytes (plain p bytes given) = 4194305 - length bytes
lacks_bytes (datagrams None given) = 1
lacks_bytes (datagrams (Some x) given) = 0

abbrev pub one_unless : Bool → ℕ
one_unless true = 0
one_unless false = 1

abbrev pub to_come : Bool → Unread → ℕ
to_come ended u = 2 * lacks_bytes u + one_unless ended

-- a step brings a message, or less is to come
abbrev pub IsCloser : Bool → Unread → Result Step NoMemory → Bool → Unread → Type 0
IsCloser ended u (Ok (step.Message body)) ended' u' = count_given u' ≡ count_given u + 1
IsCloser ended u (Ok step.More) ended' u' = (count_given u' ≡ count_given u) × (to_come ended' u' < to_come ended u)
IsCloser ended u (Ok (step.Over o)) ended' u' = Unit {0}
IsCloser ended u (Err none) ended' u' = Unit {0}

-- as many messages were heard as are needed, so that the connection may go on
abbrev pub IfAllHeard : Result (Option Outcome) NoMemory → Type 0 → Type 0
IfAllHeard (Ok None) P = P
IfAllHeard (Ok (Some o)) P = Unit {0}
IfAllHeard (Err none) P = Unit {0}
