-- What a call that comes next says of the sending.
use Rattle.std.proofs.Common.{◌≡◌, ℕ, Bool, true, false, List, Option, Some, None, refl, ap, sym, ◌∙◌}
use Rattle.taps_socket.specs.Calls.{Call, sends, receives, shuts, closes, begins, starts, waits, listens, accepts, Request, to_send, to_shut, to_receive, request_of}
use Rattle.taps_message.specs.declared.accepted.Accepted.{Accepted}
use Rattle.taps_connection.specs.Outboxes.{Stand, begun, ending, refused, all_out}
use Rattle.taps_exchange.specs.declared.outcome.Outcome.{Outcome}
use Rattle.taps_exchange.specs.Decodings.{Hearing, enough, lacks, breaks}
use Rattle.taps_exchange.specs.Members.{Member}
use Rattle.taps_exchange.specs.Turns.{Turn, asks, over, unless, turn_in, turn_out}

-- a send is of the rest of the begun message
pub record IsSendOf (m : Member) (stand : Stand) (socket : ℕ) (bytes : List ℕ) (until : ℕ) : Type 0 where
  pub number : ℕ
  pub ends : Bool
  pub behind : List Accepted
  pub stands : stand ≡ begun number ends bytes behind
  pub own : socket ≡ m.socket
  pub bounded : until ≡ m.until

pub send_asks : (m : Member) (o : Option Outcome) (stand : Stand) (e : Bool) (h : Hearing) (p : Outcome) (s : ℕ) (bytes : List ℕ) (u : ℕ) → unless o (turn_out m 0 stand (turn_in m e h (over p))) ≡ asks (to_send s bytes u) → IsSendOf m stand s bytes u
send_asks m (Some o) stand e h p s bytes u q = cc
send_asks m None (begun number ends rest behind) e h p s bytes u q =
    let r : to_send m.socket rest m.until ≡ to_send s bytes u = cc in
    let a : rest ≡ bytes = cc in
    record { number = number; ends = ends; behind = behind; stands = ap (λ v. begun number ends v behind) a; own = cc; bounded = cc }
send_asks m None (ending behind) e h p s bytes u q = cc
send_asks m None (refused number layer behind) e h p s bytes u q = cc
send_asks m None all_out e (enough ms) p s bytes u q = cc
send_asks m None all_out true (lacks ms l) p s bytes u q = cc
send_asks m None all_out false (lacks ms l) p s bytes u q = cc
send_asks m None all_out e (breaks ms l k) p s bytes u q = cc

-- the sending side is ended where it is to be
pub record IsShutOf (m : Member) (stand : Stand) (socket : ℕ) : Type 0 where
  pub behind : List Accepted
  pub stands : stand ≡ ending behind
  pub own : socket ≡ m.socket

pub shut_asks : (m : Member) (o : Option Outcome) (stand : Stand) (e : Bool) (h : Hearing) (p : Outcome) (s : ℕ) → unless o (turn_out m 0 stand (turn_in m e h (over p))) ≡ asks (to_shut s) → IsShutOf m stand s
shut_asks m (Some o) stand e h p s q = cc
shut_asks m None (begun number ends rest behind) e h p s q = cc
shut_asks m None (ending behind) e h p s q =
    let r : to_shut m.socket ≡ to_shut s = cc in
    record { behind = behind; stands = refl; own = cc }
shut_asks m None (refused number layer behind) e h p s q = cc
shut_asks m None all_out e (enough ms) p s q = cc
shut_asks m None all_out true (lacks ms l) p s q = cc
shut_asks m None all_out false (lacks ms l) p s q = cc
shut_asks m None all_out e (breaks ms l k) p s q = cc

-- a receive is of the member's socket, up to its deadline
pub record IsReceiveOf (m : Member) (socket until : ℕ) : Type 0 where
  pub own : socket ≡ m.socket
  pub bounded : until ≡ m.until

pub receive_asks : (m : Member) (o : Option Outcome) (stand : Stand) (e : Bool) (h : Hearing) (p : Outcome) (s most u : ℕ) → unless o (turn_out m 0 stand (turn_in m e h (over p))) ≡ asks (to_receive s most u) → IsReceiveOf m s u
receive_asks m (Some o) stand e h p s most u q = cc
receive_asks m None (begun number ends rest behind) e h p s most u q = cc
receive_asks m None (ending behind) e h p s most u q = cc
receive_asks m None (refused number layer behind) e h p s most u q = cc
receive_asks m None all_out e (enough ms) p s most u q = cc
receive_asks m None all_out true (lacks ms l) p s most u q = cc
receive_asks m None all_out false (lacks ms l) p s most u q =
    let r : to_receive m.socket (m.decoding.most m.piece l) m.until ≡ to_receive s most u = cc in
    record { own = cc; bounded = cc }
receive_asks m None all_out e (breaks ms l k) p s most u q = cc

-- it comes when all messages had their turn
pub receive_out : (m : Member) (o : Option Outcome) (stand : Stand) (e : Bool) (h : Hearing) (p : Outcome) (s most u : ℕ) → unless o (turn_out m 0 stand (turn_in m e h (over p))) ≡ asks (to_receive s most u) → stand ≡ all_out
receive_out m (Some o) stand e h p s most u q = cc
receive_out m None (begun number ends rest behind) e h p s most u q = cc
receive_out m None (ending behind) e h p s most u q = cc
receive_out m None (refused number layer behind) e h p s most u q = cc
receive_out m None all_out e h p s most u q = refl

-- nothing else is asked
abbrev is_data : Request → Bool
is_data (to_send s bytes u) = true
is_data (to_shut s) = true
is_data (to_receive s most u) = true
is_data _ = false

abbrev is_data_turn : Turn → Bool
is_data_turn (asks r) = is_data r
is_data_turn (over o) = true

data_turn : (m : Member) (o : Option Outcome) (stand : Stand) (e : Bool) (h : Hearing) (p : Outcome) → is_data_turn (unless o (turn_out m 0 stand (turn_in m e h (over p)))) ≡ true
data_turn m (Some o) stand e h p = refl
data_turn m None (begun number ends rest behind) e h p = refl
data_turn m None (ending behind) e h p = refl
data_turn m None (refused number layer behind) e h p = refl
data_turn m None all_out e (enough ms) p = refl
data_turn m None all_out true (lacks ms l) p = refl
data_turn m None all_out false (lacks ms l) p = refl
data_turn m None all_out e (breaks ms l k) p = refl

abbrev pub IsData : Call → Type 0
IsData (sends s bytes u a) = Unit {0}
IsData (receives s most u came a) = Unit {0}
IsData (shuts s) = Unit {0}
IsData _ = ⊥

data_call : (c : Call) → is_data (request_of c) ≡ true → IsData c
data_call (sends s bytes u a) q = tt
data_call (receives s most u came a) q = tt
data_call (shuts s) q = tt
data_call (closes s) q = cc
data_call (begins at) q = cc
data_call (starts l g a) q = cc
data_call (waits u a) q = cc
data_call (listens g a) q = cc
data_call (accepts l u a) q = cc

pub data_asks : (m : Member) (o : Option Outcome) (stand : Stand) (e : Bool) (h : Hearing) (p : Outcome) (c : Call) → unless o (turn_out m 0 stand (turn_in m e h (over p))) ≡ asks (request_of c) → IsData c
data_asks m o stand e h p c q = data_call c (ap is_data_turn (sym q) ∙ data_turn m o stand e h p)
