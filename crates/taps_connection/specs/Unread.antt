-- What was read of a socket and not yet given out.
use Rattle.std.proofs.Common.{zero, suc}
use Rattle.std.specs.Prelude.{◌≡◌, ℕ, ◌-◌, ◌<◌, ◌≤◌, if◌then◌else◌, Bool, true, false, List, [], ◌++◌, length, take, min, Option, Some, None}
use Rattle.std.specs.Option.{option_map}
use Rattle.taps_chain.specs.declared.heard.BadAt.{BadAt}
use Rattle.taps_chain.specs.Ears.{state_of}
use Rattle.taps_chain.specs.Streams.{StreamState}
use Rattle.taps_socket.specs.declared.answers.RecvAnswer.{RecvAnswer}
use Rattle.taps_socket.specs.declared.answers.RecvAnswer.TheVariants as recv
use Rattle.taps_stack.specs.declared.stack.Stack.{Stack}
use Rattle.taps_stack.specs.StackTable.{is_stream}
use Rattle.taps_connection.specs.declared.framed.Framed.{Framed}
use Rattle.taps_connection.specs.declared.plain.Plain.{Plain}
use Rattle.taps_connection.specs.declared.datagrams.Datagrams.{Datagrams}

-- Of a stream that is heard through a chain with a layer: how many bytes are asked for at once, the bytes, the index
-- of the next message, and the Bad that was told, if any. Of a stream with the empty chain, which is one message: how
-- many bytes are asked for at once, the bytes, and whether the message was given out. Of datagrams: the one that is
-- held, if any, and how many were given out, as messages or as bad.
pub data Unread : Type 0 where
  framed : (piece : ℕ) → (bytes : List ℕ) → (index : ℕ) → (bad : Option BadAt) → Unread
  plain : (piece : ℕ) → (bytes : List ℕ) → (given : Bool) → Unread
  datagrams : (held : Option (List ℕ)) → (given : ℕ) → Unread

-- of a stack, a piece and so many layers, where nothing came
abbrev pub first_of_stream : ℕ → ℕ → Unread
first_of_stream piece zero = plain piece [] false
first_of_stream piece (suc n) = framed piece [] 0 None

abbrev pub first_unread : Stack → ℕ → ℕ → Unread
first_unread stack piece layers = if is_stream stack then first_of_stream piece layers else datagrams None 0

-- the number of messages and bad datagrams that were given out
abbrev pub one_if : Bool → ℕ
one_if false = 0
one_if true = 1

abbrev pub count_given : Unread → ℕ
count_given (framed piece bytes index bad) = index
count_given (plain piece bytes given) = one_if given
count_given (datagrams held given) = given

-- it is of a stream
abbrev pub is_stream_of : Unread → Bool
is_stream_of (framed piece bytes index bad) = true
is_stream_of (plain piece bytes given) = true
is_stream_of (datagrams held given) = false

-- how many bytes are asked for at once: a whole datagram, or a piece; through a chain no more than the longest frame
-- can lack
abbrev pub most_of : Unread → ℕ
most_of (framed piece bytes index bad) = min piece (4194304 - length bytes)
most_of (plain piece bytes given) = piece
most_of (datagrams held given) = 65535

-- nothing can be given out before more comes: nothing bad was told, and the bytes are fewer than the longest frame
-- has; or no more than a stream may have that is one message; or no datagram is held
abbrev pub IsWanting : Unread → Type 0
IsWanting (framed piece bytes index bad) = (bad ≡ None) × (length bytes < 4194304)
IsWanting (plain piece bytes given) = length bytes ≤ 4194304
IsWanting (datagrams held given) = held ≡ None

-- with bytes that came
abbrev pub with_bytes : List ℕ → Unread → Unread
with_bytes came (framed piece bytes index bad) = framed piece (bytes ++ came) index bad
with_bytes came (plain piece bytes given) = plain piece (bytes ++ came) given
with_bytes came (datagrams held given) = datagrams (Some came) given

-- after an answer by which bytes came
abbrev pub with_answer : RecvAnswer → List ℕ → Unread → Unread
with_answer (recv.Got count at) came u = with_bytes came u
with_answer recv.End came u = u
with_answer (recv.Timed at) came u = u
with_answer (recv.Failed cause) came u = u

-- what each kind of source keeps
abbrev pub framed_by : ℕ → StreamState → Unread
framed_by piece s = framed piece s.unread s.index s.bad

abbrev pub framed_unread : {X : Type 0} {F : X → Type 0} → Framed X F → Unread
framed_unread f = framed_by (length f.piece.items) (state_of f.ears)

abbrev pub plain_unread : Plain → Unread
plain_unread p = plain (length p.piece.items) p.bytes.unread p.given

abbrev pub datagrams_unread : Datagrams → Unread
datagrams_unread d = datagrams (option_map (λ n. take n d.buffer.items) d.held) d.given
