-- Rounds behind rounds.
use Rattle.std.proofs.Common.{◌≡◌, ℕ, Bool, List, ◌++◌, subst}
use Rattle.std.specs.Prelude.{Result, Ok, Err}
use Rattle.taps_base.specs.declared.no_memory.NoMemory.{NoMemory}
use Rattle.taps_framer.specs.Layers.{Layer}
use Rattle.taps_framer.specs.declared.framer.Framer as framer
use Rattle.taps_socket.specs.Calls.{Call}
use Rattle.taps_connection.specs.declared.connection.Connection.{Connection}
use Rattle.taps_connection.specs.declared.receiver.Receiver.{Receiver}
use Rattle.taps_connection.specs.declared.sender.Sender.{Sender}
use Rattle.taps_connection.specs.Encodings.{Encoding}
use Rattle.taps_connection.specs.Unread.{Unread}
use Rattle.taps_exchange.specs.declared.outcome.Outcome.{Outcome}
use Rattle.taps_loop.specs.declared.rounds.Round.{Round}
use Rattle.taps_loop.specs.declared.rounds.Round.TheVariants as round
use Rattle.taps_loop.specs.Loops.{Ends}
use Rattle.taps_loop.specs.Connections.{GoesRound}
use Rattle.taps_loop.specs.Rounds.{AreKept, Stands, HasRounded, IsTaken, IsTakenShort}

-- after so many rounds it is the sending end's turn
pub record GoesOn {N : Type 0} (Becomes : N → List Call → N → Type 0) (x : Ends) (e : Encoding) (stream : Bool) (fs : List Layer) (piece : ℕ) (before after : N) (s : Sender) (told : ℕ) (ended : Bool) (u : Unread) (ms : List (List ℕ)) (flag : Bool) : Type 0 where
  pub calls : List Call
  pub becomes : Becomes before calls after
  pub kept : AreKept x calls e stream fs piece s told ended u ms
  pub stands : Stands x calls s ms flag

module _ {N : Type 0} (Becomes : N → List Call → N → Type 0) (x : Ends) (e : Encoding) (stream : Bool) (fs : List Layer) (piece : ℕ) (a b c : N) (s t : Sender) (told told2 : ℕ) (ended ended2 : Bool) (u u2 : Unread) (ms ms2 : List (List ℕ)) (flag : Bool)
    (on : (a b c : N) (g h : List Call) → Becomes a g b → Becomes b h c → Becomes a (h ++ g) c) (k : GoesOn Becomes x e stream fs piece a b s told ended u ms flag) where
  pub goes_again : (again : Bool) → HasRounded Becomes x k.calls e stream fs piece b c (Ok (round.Again again)) t told2 ended2 u2 ms2 → GoesOn Becomes x e stream fs piece a c t told2 ended2 u2 ms2 again
  goes_again again h = record { calls = h.more ++ k.calls; becomes = on a b c k.calls h.more k.becomes h.becomes; kept = h.so.0; stands = h.so.1 }

  pub goes_over : (o : Outcome) → HasRounded Becomes x k.calls e stream fs piece b c (Ok (round.Over o)) t told2 ended2 u2 ms2 → IsTaken Becomes x a c o t.sent ms2
  goes_over o h = record { calls = h.more ++ k.calls; becomes = on a b c k.calls h.more k.becomes h.becomes; ended = h.so }

  pub goes_short : (none : NoMemory) → HasRounded Becomes x k.calls e stream fs piece b c (Err none) t told2 ended2 u2 ms2 → IsTakenShort Becomes x a c
  goes_short none h = record { calls = h.more ++ k.calls; becomes = on a b c k.calls h.more k.becomes h.becomes; in_turn = h.so }

-- a round of the connections as they are now, as one of what they were at first
pub rounds_on : {N : Type 0} {X : Type 0} {F : X → Type 0} {S T : Type 0} (boxed : (x : X) → framer.Ghosts (F x)) (Becomes : N → List Call → N → Type 0) (from from' : Connection S X F) (to to' : Connection T X F) (deadline : ℕ) (a b : N) (told : ℕ) (ms : List (List ℕ)) (P : Ends → List Call → Type 0) (result : Result Round NoMemory) (s : Sender) (told2 : ℕ) (r : Receiver X F) (ms2 : List (List ℕ)) →
    from' ≡ record from { sender = from'.sender } → to' ≡ record to { receiver = to'.receiver; sender = to'.sender } → GoesRound boxed Becomes from' to' deadline a b told ms P result s told2 r ms2 →
    GoesRound boxed Becomes (record from { sender = from'.sender }) (record to { receiver = to'.receiver; sender = to'.sender }) deadline a b told ms P result s told2 r ms2
rounds_on boxed Becomes from from' to to' deadline a b told ms P result s told2 r ms2 sender_kept kept h =
    subst (λ z. GoesRound boxed Becomes (record from { sender = from'.sender }) z deadline a b told ms P result s told2 r ms2) kept
    (subst (λ z. GoesRound boxed Becomes z to' deadline a b told ms P result s told2 r ms2) sender_kept h)
