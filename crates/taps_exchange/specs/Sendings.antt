-- How the accepted messages of a connection have their turn, whatever calls came before (RFC 9622 section 9.2). A list
-- of calls stands with its newest one first.
use Rattle.std.specs.Prelude.{◌≡◌, ℕ, List, [], ◌∷◌, Option, Some, None, Result, Ok, Err}
use Rattle.taps_base.specs.declared.no_memory.NoMemory.{NoMemory}
use Rattle.taps_socket.specs.Calls.{Call}
use Rattle.taps_connection.specs.declared.sender.Sender.{Sender}
use Rattle.taps_connection.specs.Encodings.{Encoding}
use Rattle.taps_connection.specs.Outboxes.{Stand, refused, all_out, Outbox}
use Rattle.taps_connection.specs.Runs.{IsRun, AllGo}
use Rattle.taps_connection.specs.Senders.{settled}
use Rattle.taps_exchange.specs.declared.outcome.Outcome.{Outcome}
use Rattle.taps_exchange.specs.declared.outcome.Outcome.TheVariants as outcome
use Rattle.taps_exchange.specs.Turns.{stop}

-- none of the calls before the newest was timed or failed
abbrev pub OthersGo : List Call → Type 0
OthersGo [] = Unit {0}
OthersGo (call ∷ earlier) = AllGo earlier

-- a layer refuses the message whose turn it is, of the member at a place
abbrev pub refused_at : ℕ → Stand → Option Outcome
refused_at place (refused number layer behind) = Some (outcome.NotSpeakable place number layer)
refused_at place _ = None

-- the outcome that ends the sending, if one does: that of the newest call, which was timed or failed, or a refusal
abbrev pub ends_out : ℕ → Option Outcome → Stand → Option Outcome
ends_out place (Some o) stand = Some o
ends_out place None stand = refused_at place stand

-- Such an outcome ended the sending; or there is none, and all messages had their turn. What is kept tells how many
-- were sent, and which expired first.
pub record IsSentOut (place : ℕ) (calls : List Call) (box : Outbox) (stopped : Option Outcome)
    (t : Sender) : Type 0 where
  pub ends : ends_out place (stop calls) box.stand ≡ stopped
  pub all_had : stopped ≡ None → box.stand ≡ all_out
  pub sent : box.sent ≡ t.sent
  pub expired : box.expired ≡ t.expired

-- so it is, or memory ran out
abbrev pub IsSendingEnd : ℕ → List Call → Outbox → Result (Option Outcome) NoMemory → Sender → Type 0
IsSendingEnd place calls box (Ok stopped) t = IsSentOut place calls box stopped t
IsSendingEnd place calls box (Err none) t = Unit {0}

-- there are calls, each of which the outbox asked for, and with them the sending ended so
pub record HasSent {N : Type 0} (Becomes : N → List Call → N → Type 0) (e : Encoding) (before after : N)
    (socket until place : ℕ) (s : Sender) (result : Result (Option Outcome) NoMemory) (t : Sender) : Type 0 where
  pub calls : List Call
  pub becomes : Becomes before calls after
  pub others_go : OthersGo calls
  pub box : Outbox
  pub run : IsRun e socket until (settled e s) calls box
  pub ended : IsSendingEnd place calls box result t

-- all messages had their turn, so that the connection may go on
abbrev pub IfAllSent : Result (Option Outcome) NoMemory → Type 0 → Type 0
IfAllSent (Ok None) P = P
IfAllSent (Ok (Some o)) P = Unit {0}
IfAllSent (Err none) P = Unit {0}
