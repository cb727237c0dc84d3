-- How the bytes read on a connection's socket become messages, as functions (RFC 9622 section 9.3; bounds are local).
use Rattle.std.proofs.Common.{zero, suc}
use Rattle.std.specs.Prelude.{ℕ, ◌+◌, ◌-◌, Bool, true, false, nat_le, nat_lt, min, if◌then◌else◌, List, [], ◌∷◌, length, take, drop}
use Rattle.std.specs.List.{concat}
use Rattle.taps_framer.specs.Layers.{Layer, holds_whole_frame, is_viable, lives, first_frame}

-- what bytes begin with: a message and the number of its bytes; the begin of one; or none, with the layer and the place
-- that show it
pub data First : Type 0 where
  message : (body : List ℕ) → (used : ℕ) → First
  need : First
  bad : (layer place : ℕ) → First

-- as many messages as were needed; or fewer, with the bytes behind them; or fewer, and then something bad
pub data Hearing : Type 0 where
  enough : (messages : List (List ℕ)) → Hearing
  lacks : (messages : List (List ℕ)) → (unread : List ℕ) → Hearing
  breaks : (messages : List (List ℕ)) → (layer place : ℕ) → Hearing

abbrev pub messages_of : Hearing → List (List ℕ)
messages_of (enough ms) = ms
messages_of (lacks ms unread) = ms
messages_of (breaks ms layer place) = ms

-- what is heard of the pieces that were read, by how many messages are needed and whether the other end ended its
-- sending side; and how many bytes are asked for, by a bound and the bytes behind the messages
pub record Decoding : Type 0 where
  pub hearing : ℕ → List (List ℕ) → Bool → Hearing
  pub most : ℕ → List ℕ → ℕ

-- a message before what is heard behind it
abbrev pub behind : List ℕ → Hearing → Hearing
behind m (enough ms) = enough (m ∷ ms)
behind m (lacks ms unread) = lacks (m ∷ ms) unread
behind m (breaks ms layer place) = breaks (m ∷ ms) layer place

-- what bytes begin with, and then what the bytes behind it give
abbrev pub heard_by : First → ℕ → List ℕ → (ℕ → List ℕ → Hearing) → Hearing
heard_by (message m used) k x others = behind m (others (k + 1) (drop used x))
heard_by need k x others = lacks [] x
heard_by (bad layer place) k x others = breaks [] layer place

-- the first messages of a stream's bytes, as many as are needed, numbered from an index on
abbrev pub hears : (ℕ → List ℕ → First) → ℕ → ℕ → List ℕ → Hearing
hears first zero k x = enough []
hears first (suc n) k x = heard_by (first k x) k x (hears first n)

-- of a stream in frames: at once no more than the longest frame can lack
abbrev pub framed_decoding : (ℕ → List ℕ → First) → Decoding
framed_decoding first = record {
  hearing = λ needs pieces ended. hears first needs 0 (concat pieces);
  most = λ piece unread. min piece (4194304 - length unread);
}

-- of a stream that is one message: all its bytes after its end, and bad as soon as they are too many, ended or not
abbrev pub one_of : ℕ → List ℕ → Hearing
one_of zero x = enough (x ∷ [])
one_of (suc n) x = lacks (x ∷ []) []

abbrev pub hears_one : ℕ → List ℕ → Bool → Hearing
hears_one zero x ended = enough []
hears_one (suc n) x ended =
    if nat_lt 4194304 (length x) then breaks [] 0 4194304 else (if ended then one_of n x else lacks [] x)

abbrev pub plain_decoding : Decoding
plain_decoding = record {
  hearing = λ needs pieces ended. hears_one needs (concat pieces) ended;
  most = λ piece unread. piece;
}

-- of datagrams, each of which is one message or bad
abbrev pub datagram_by : First → Hearing → Hearing
datagram_by (message m used) others = behind m others
datagram_by need others = lacks [] []
datagram_by (bad layer place) others = breaks [] layer place

abbrev pub hears_datagrams : (List ℕ → First) → ℕ → List (List ℕ) → Hearing
hears_datagrams whole zero pieces = enough []
hears_datagrams whole (suc n) [] = lacks [] []
hears_datagrams whole (suc n) (x ∷ pieces) = datagram_by (whole x) (hears_datagrams whole n pieces)

abbrev pub datagram_decoding : (List ℕ → First) → Decoding
datagram_decoding whole = record {
  hearing = λ needs pieces ended. hears_datagrams whole needs pieces;
  most = λ piece unread. 65535;
}

-- the least place from one on, of so many at most, with whose byte the bytes neither begin with a frame nor begin one
abbrev pub place_from : Layer → ℕ → List ℕ → ℕ → ℕ → ℕ
place_from f k x p zero = p
place_from f k x p (suc n) = if lives f k (take (p + 1) x) then place_from f k x (p + 1) n else p

-- the place that shows that bytes are not exactly one frame
abbrev pub fault_place : Layer → ℕ → List ℕ → ℕ
fault_place f k x =
    if holds_whole_frame f k x then length (first_frame f k x)
    else if is_viable f k x then length x else place_from f k x 0 (length x)

-- a layer more stands before
abbrev pub deeper : First → First
deeper (message m used) = message m used
deeper need = need
deeper (bad layer place) = bad (suc layer) place

abbrev pub used_with : ℕ → First → First
used_with used (message m n) = message m used
used_with used need = need
used_with used (bad layer place) = bad (suc layer) place

-- the message whose bytes these are exactly, or the first layer at fault
abbrev pub whole_in : List Layer → ℕ → List ℕ → First
whole_in [] k x = message x 0
whole_in (f ∷ fs) k x =
    if holds_whole_frame f k x then
    (if nat_le (length x) (length (first_frame f k x)) then deeper (whole_in fs k (f.front k x))
    else bad 0 (fault_place f k x))
    else bad 0 (fault_place f k x)

-- what bytes begin with, through layers
abbrev pub first_in : List Layer → ℕ → List ℕ → First
first_in [] k x = need
first_in (f ∷ fs) k x =
    if holds_whole_frame f k x then used_with (length (first_frame f k x)) (whole_in fs k (f.front k x))
    else if is_viable f k x then need else bad 0 (place_from f k x 0 (length x))

-- of a connection over a stream or not, through these layers: a datagram's message has the index 0
abbrev pub decoding_of : Bool → List Layer → Decoding
decoding_of true [] = plain_decoding
decoding_of true (f ∷ fs) = framed_decoding (first_in (f ∷ fs))
decoding_of false fs = datagram_decoding (whole_in fs 0)
