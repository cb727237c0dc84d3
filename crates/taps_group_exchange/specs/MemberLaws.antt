-- What the exchange of a group says of each member's own calls, in other words (local).
use Rattle.std.specs.Prelude.{◌≡◌, ◌<◌, ℕ, true, List, ◌∷◌, slice_get, Some}
use Rattle.taps_socket.specs.Calls.{Call, items_of}
use Rattle.taps_socket.specs.Once.{IsOnce}
use Rattle.taps_exchange.specs.declared.outcome.Outcome.{Outcome}
use Rattle.taps_exchange.specs.declared.outcome.Outcome.TheVariants as outcome
use Rattle.taps_exchange.specs.Decodings.{messages_of}
use Rattle.taps_exchange.specs.Expiries.{ExpireInTime}
use Rattle.taps_exchange.specs.Members.{is_on, calls_on, pieces_read, has_ended, outbox_after}
use Rattle.taps_exchange.specs.Outcomes.{AreExchangeItems, HasHeardEnough, IsJudged, IsOut}
use Rattle.taps_exchange.specs.Turns.{Place, initiate, turn_of, turn_alone, done_or, IsInTurn, IsExchange}
use Rattle.taps_exchange.specs.Written.{pieces_written, AllTookAll, HasSomeBytes, IsWritten}
use Rattle.taps_group_exchange.specs.GroupExchanges.{told_of, sockets_in}

-- a member's own calls
abbrev pub own_calls : List Call → Place → List Call
own_calls calls p = calls_on p.member.socket calls

-- The calls on a member's socket are those of its exchange alone, done or begun: what it wrote is what it accepted, its
-- messages expired in time, its items are of its socket, and it heard what the bytes decode to that it read.
pub record IsOwnExchange (calls : List Call) (p : Place) : Type 0 where
  pub in_turn : IsInTurn (turn_alone p.member) (own_calls calls p)
  pub written : IsWritten p.member.encoding p.member.messages (outbox_after p.member (own_calls calls p))
      (pieces_written (own_calls calls p)) (AllTookAll (own_calls calls p) × HasSomeBytes p.member.encoding)
  pub in_time : ExpireInTime p.member (own_calls calls p) written.turned
  pub items : AreExchangeItems p.member.socket (items_of (own_calls calls p))
  pub heard : (told_of calls p).heard ≡ messages_of (p.member.decoding.hearing p.member.needs
      (pieces_read (own_calls calls p)) (has_ended (own_calls calls p)))

-- so it is of each member
abbrev pub EachOwn : List Place → List Call → Type 0
EachOwn places calls = (place : ℕ) (p : Place) → slice_get places place ≡ Some p → IsOwnExchange calls p

-- a member's own calls are an exchange of it alone with this outcome, which they give its cause
abbrev pub HasOwnEnd : List Call → Place → Outcome → Type 0
HasOwnEnd calls p o = IsJudged p.member (own_calls calls p) o

-- every member is done, but for those of its own messages that expired
abbrev pub AllFinished : List Place → List Call → Type 0
AllFinished places calls = (place : ℕ) (p : Place) → slice_get places place ≡ Some p →
    HasOwnEnd calls p (done_or (outbox_after p.member (own_calls calls p)).expired 0 outcome.Done)

-- each member before a place is done, with no expired message
abbrev pub DoneBefore : List Place → List Call → ℕ → Type 0
DoneBefore places calls end = (place : ℕ) (p : Place) → place < end → slice_get places place ≡ Some p →
    HasOwnEnd calls p outcome.Done

-- the member at a place has this outcome
pub record EndsAt (places : List Place) (calls : List Call) (place : ℕ) (o : Outcome) : Type 0 where
  pub member : Place
  pub there : slice_get places place ≡ Some member
  pub judged : HasOwnEnd calls member o

-- every message of every member was sent or expired
abbrev pub AllSent : List Place → List Call → Type 0
AllSent places calls = (place : ℕ) (p : Place) → slice_get places place ≡ Some p → IsOut p.member (own_calls calls p)

-- each member before a place heard as many messages as it needs
abbrev pub HeardBefore : List Place → List Call → ℕ → Type 0
HeardBefore places calls end = (place : ℕ) (p : Place) → place < end → slice_get places place ≡ Some p →
    HasHeardEnough p.member (own_calls calls p)

-- behind all sends, the first member by place that did not hear enough has this outcome
pub record EndsHearing (places : List Place) (calls : List Call) (o : Outcome) : Type 0 where
  pub all_sent : AllSent places calls
  pub place : ℕ
  pub before : HeardBefore places calls place
  pub ends : EndsAt places calls place o

-- the newest of all calls is on the socket of a member that has this outcome
pub record EndsNewest (places : List Place) (calls : List Call) (o : Outcome) : Type 0 where
  pub call : Call
  pub earlier : List Call
  pub newest : calls ≡ call ∷ earlier
  pub place : ℕ
  pub ends : EndsAt places calls place o
  pub own : is_on ends.member.member.socket call ≡ true

-- Each outcome, and the member that gives it its cause: every member is done; or the first one with an expired message
-- tells it; or a member has a message that a layer refuses; or the first one that did not hear enough ended it; or the
-- newest call did.
abbrev pub HasMemberCause : List Place → List Call → Outcome → Type 0
HasMemberCause places calls outcome.Done = (place : ℕ) (p : Place) → slice_get places place ≡ Some p →
    HasOwnEnd calls p outcome.Done
HasMemberCause places calls (outcome.Expired place number) =
    AllFinished places calls × (DoneBefore places calls place × EndsAt places calls place (outcome.Expired 0 number))
HasMemberCause places calls (outcome.NotSpeakable place number layer) =
    EndsAt places calls place (outcome.NotSpeakable 0 number layer)
HasMemberCause places calls outcome.PeerEnded = EndsHearing places calls outcome.PeerEnded
HasMemberCause places calls (outcome.BadFrame b) = EndsHearing places calls (outcome.BadFrame b)
HasMemberCause places calls outcome.Timed = EndsNewest places calls outcome.Timed
HasMemberCause places calls (outcome.DataFailed cause) = EndsNewest places calls (outcome.DataFailed cause)

-- What the calls of a group say of its members, whose sockets are distinct: each one's own calls, also where memory cut
-- the exchange short; and the cause of the outcome.
pub record JudgesMembers : Type 0 where
  pub begun : (places : List Place) (calls : List Call) → IsOnce (sockets_in places) →
      IsInTurn (turn_of (initiate places)) calls → EachOwn places calls
  pub judged : (places : List Place) (calls : List Call) (o : Outcome) → IsOnce (sockets_in places) →
      IsExchange (turn_of (initiate places)) calls o → HasMemberCause places calls o
