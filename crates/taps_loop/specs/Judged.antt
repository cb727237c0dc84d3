-- What an exchange between both ends of a connection says in other words: what was written, why it ended, and what the
-- accepted end heard of what the other end sent (RFC 9622 sections 9.2 and 9.3; where each outcome comes is local).
use Rattle.std.specs.Prelude.{◌≡◌, ◌≢◌, ◌≤◌, ◌<◌, ◌^◌, ◌⊎◌, ℕ, true, false, List, [], ◌∷◌, ◌++◌, length, map, Some, None}
use Rattle.std.specs.List.{concat}
use Rattle.taps_framer.specs.Layers.{Layer}
use Rattle.taps_chain.specs.ChainLaws.{AreFramers}
use Rattle.taps_chain.specs.declared.heard.BadAt.{BadAt}
use Rattle.taps_message.specs.declared.accepted.Accepted.{Accepted}
use Rattle.taps_socket.specs.declared.cause.Cause.{Cause}
use Rattle.taps_socket.specs.declared.item.Item.TheVariants as item
use Rattle.taps_socket.specs.declared.timed_call.TimedCall.{TimedCall}
use Rattle.taps_socket.specs.Calls.{Call, items_by}
use Rattle.taps_socket.specs.Shows.{timed_by}
use Rattle.taps_connection.specs.Encodings.{encoding_of}
use Rattle.taps_connection.specs.Outboxes.{refused, all_out}
use Rattle.taps_exchange.specs.declared.outcome.Outcome.{Outcome}
use Rattle.taps_exchange.specs.declared.outcome.Outcome.TheVariants as outcome
use Rattle.taps_exchange.specs.Decodings.{enough, lacks, breaks, decoding_of}
use Rattle.taps_exchange.specs.Members.{calls_on, pieces_read}
use Rattle.taps_exchange.specs.Turns.{IsExchange}
use Rattle.taps_exchange.specs.Written.{Turned, message_of, bodies_of, pieces_written, AllTookAll, HasSomeBytes, AreLeft, IsWritten}
use Rattle.taps_loop.specs.Loops.{Ends, sending, sent_in, waiting, peer_ended, hearing, turn_loop, heard_in}

-- the pieces that a socket wrote by these calls, and those that it read
abbrev pub wrote_on : ℕ → List Call → List (List ℕ)
wrote_on s calls = pieces_written (calls_on s calls)

abbrev pub read_on : ℕ → List Call → List (List ℕ)
read_on s calls = pieces_read (calls_on s calls)

-- every message was sent or had expired, and as many were heard as were sent
pub record HasHeardAll (x : Ends) (calls : List Call) : Type 0 where
  pub out : (sending x calls).stand ≡ all_out
  pub messages : List (List ℕ)
  pub heard : hearing x 0 calls ≡ enough messages

-- the newest call was timed, at the deadline or later: one by which the initiating end sends; or one by which the
-- accepted end hears, while no message was begun or queued
pub record EndsAtDeadline (x : Ends) (calls : List Call) : Type 0 where
  pub call : Call
  pub earlier : List Call
  pub newest : calls ≡ call ∷ earlier
  pub timed : TimedCall
  pub told : timed_by call ≡ Some timed
  pub late : x.from.until ≤ timed.at
  pub own : (timed.socket ≡ x.from.socket) ⊎ ((timed.socket ≡ x.to.socket) × (waiting x calls ≡ 0))

-- the newest call failed with this cause: a send of the initiating end, or a receive of the accepted one
pub record EndsInFailure (x : Ends) (calls : List Call) (cause : Cause) : Type 0 where
  pub call : Call
  pub earlier : List Call
  pub newest : calls ≡ call ∷ earlier
  pub failed : (items_by call ≡ item.DataFailed x.from.socket true cause ∷ [])
      ⊎ (items_by call ≡ item.DataFailed x.to.socket false cause ∷ [])

-- the other end ended its side, and fewer messages were heard than were sent, or than were sent and are begun or queued
pub record EndsTooEarly (x : Ends) (calls : List Call) : Type 0 where
  pub ended : peer_ended x calls ≡ true
  pub more : ℕ
  pub at_most : more ≤ waiting x calls
  pub messages : List (List ℕ)
  pub unread : List ℕ
  pub heard : hearing x more calls ≡ lacks messages unread

-- fewer were heard, and the bytes behind them are bad: the index, the layer and the place
pub record HearsBad (x : Ends) (calls : List Call) (b : BadAt) : Type 0 where
  pub more : ℕ
  pub at_most : more ≤ waiting x calls
  pub messages : List (List ℕ)
  pub layer : ℕ
  pub place : ℕ
  pub heard : hearing x more calls ≡ breaks messages layer place
  pub told : b ≡ record { message = length messages; layer = layer; place = place }

-- a message is refused by a layer
abbrev pub IsRefusedIn : Ends → List Call → ℕ → ℕ → Type 0
IsRefusedIn x calls number layer = (behind : List Accepted) × ((sending x calls).stand ≡ refused number layer behind)

-- each outcome, and where it comes
abbrev pub HasLoopCause : Ends → List Call → Outcome → Type 0
HasLoopCause x calls outcome.Done = HasHeardAll x calls × ((sending x calls).expired ≡ None)
HasLoopCause x calls (outcome.Expired place number) =
    HasHeardAll x calls × ((sending x calls).expired ≡ Some number) × (place ≡ 0)
HasLoopCause x calls outcome.Timed = EndsAtDeadline x calls
HasLoopCause x calls (outcome.DataFailed cause) = EndsInFailure x calls cause
HasLoopCause x calls outcome.PeerEnded = EndsTooEarly x calls
HasLoopCause x calls (outcome.BadFrame b) = HearsBad x calls b
HasLoopCause x calls (outcome.NotSpeakable place number layer) = IsRefusedIn x calls number layer × (place ≡ 0)

-- the initiating end reads nothing, and the accepted end writes nothing
pub record GoesOneWay (x : Ends) (calls : List Call) : Type 0 where
  pub reads_none : read_on x.from.socket calls ≡ []
  pub writes_none : wrote_on x.to.socket calls ≡ []

-- what was written is the messages that were sent and the front of the begun one; the bytes went one way; and the
-- outcome has its cause
pub record IsLoopJudged (x : Ends) (calls : List Call) (o : Outcome) : Type 0 where
  pub written : IsWritten x.from.encoding x.from.messages (sending x calls) (wrote_on x.from.socket calls)
      (AllTookAll (calls_on x.from.socket calls) × HasSomeBytes x.from.encoding)
  pub one_way : GoesOneWay x calls
  pub cause : HasLoopCause x calls o

-- so it is for each exchange of both ends, over two sockets
abbrev pub JudgesLoops : Type 0
JudgesLoops = (x : Ends) (calls : List Call) (o : Outcome) → x.to.socket ≢ x.from.socket →
    IsExchange (turn_loop x) calls o → IsLoopJudged x calls o

-- the reliable premise: the bytes that the one socket read are the first of those that the other wrote
abbrev pub IsReliableTo : ℕ → ℕ → List Call → Type 0
IsReliableTo from to calls = (rest : List ℕ) × (concat (wrote_on from calls) ≡ concat (read_on to calls) ++ rest)

-- both ends are of a stream, with the same framers, of which there is one at least; and the messages are not too many
-- to be numbered by the framers (local)
pub record AreFramedEnds (x : Ends) (fs : List Layer) : Type 0 where
  pub some : 0 < length fs
  pub framers : AreFramers fs
  pub encoding_is : x.from.encoding ≡ encoding_of true fs
  pub decoding_is : x.to.decoding ≡ decoding_of true fs
  pub few : length x.from.messages < 2 ^ 32

-- of the messages that the initiating end accepted these had their turn, so many of which were sent; the messages that
-- the accepted end heard are the first of those, in order and whole; and no bytes were told as bad
pub record HearsAsSent (x : Ends) (calls : List Call) (o : Outcome) : Type 0 where
  pub turned : List Turned
  pub left : List Accepted
  pub accepted : x.from.messages ≡ map message_of turned ++ left
  pub sent_is : sent_in x calls ≡ length (bodies_of turned)
  pub unheard : List (List ℕ)
  pub prefix : bodies_of turned ≡ heard_in x calls o ++ unheard
  pub none_bad : (b : BadAt) → o ≢ outcome.BadFrame b

-- where the bytes come as they were written, so it is for each exchange of both ends through framers
abbrev pub LoopsHearAsSent : Type 0
LoopsHearAsSent = (x : Ends) (fs : List Layer) (calls : List Call) (o : Outcome) → x.to.socket ≢ x.from.socket →
    AreFramedEnds x fs → IsExchange (turn_loop x) calls o → IsReliableTo x.from.socket x.to.socket calls →
    HearsAsSent x calls o

-- a stream with no framer has no boundaries: the bytes that were heard are the first of those of the messages that were
-- sent and of the begun one
pub record HearsBytesAsSent (x : Ends) (calls : List Call) (o : Outcome) : Type 0 where
  pub turned : List Turned
  pub left : List Accepted
  pub accepted : x.from.messages ≡ map message_of turned ++ left
  pub front : List ℕ
  pub front_is : AreLeft x.from.encoding (sending x calls).sent (sending x calls).stand front left
  pub unheard : List ℕ
  pub prefix : concat (bodies_of turned) ++ front ≡ concat (heard_in x calls o) ++ unheard

abbrev pub PlainLoopsHearAsSent : Type 0
PlainLoopsHearAsSent = (x : Ends) (calls : List Call) (o : Outcome) → x.to.socket ≢ x.from.socket →
    x.from.encoding ≡ encoding_of true [] → x.to.decoding ≡ decoding_of true [] → IsExchange (turn_loop x) calls o →
    IsReliableTo x.from.socket x.to.socket calls → HearsBytesAsSent x calls o
