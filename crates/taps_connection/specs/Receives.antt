-- What a connection gives out next, and what it keeps then.
use Rattle.std.specs.Prelude.{◌≡◌, ℕ, ◌+◌, ◌<◌, ◌≤◌, Bool, true, false, List, [], ◌++◌, length, Some, None}
use Rattle.taps_framer.specs.Layers.{Layer}
use Rattle.taps_chain.specs.Chained.{chained, IsSpoken}
use Rattle.taps_chain.specs.Faults.{IsBadIn}
use Rattle.taps_chain.specs.Heard.{needs, fails, IsEnding}
use Rattle.taps_chain.specs.declared.heard.BadAt.{BadAt}
use Rattle.taps_chain.specs.declared.heard.Heard.{Heard}
use Rattle.taps_chain.specs.declared.heard.Heard.TheVariants as heard
use Rattle.taps_connection.specs.Unread.{Unread, framed, plain, datagrams}

-- of a stream through a chain: the message that the bytes begin with, which is taken out, or how they end the hearing
abbrev pub IsFramedAnswer : List Layer → ℕ → List ℕ → ℕ → Heard → Unread → Type 0
IsFramedAnswer fs piece x k (heard.Message m) v = (rest : List ℕ) ×
    (IsSpoken fs k m × (x ≡ chained fs k m ++ rest) × (v ≡ framed piece rest (k + 1) None))
IsFramedAnswer fs piece x k heard.Need v = IsEnding fs k x needs × (v ≡ framed piece x k None)
IsFramedAnswer fs piece x k (heard.Bad b) v =
    IsEnding fs k x (fails b.layer b.place) × (b.message ≡ k) × (v ≡ framed piece x k (Some b))
IsFramedAnswer fs piece x k heard.NoMemory v = v ≡ framed piece x k None

-- a stream that is one message has too many bytes
abbrev pub too_long : BadAt
too_long = record { message = 0; layer = 0; place = 4194304 }

-- of a stream that is one message: it is bad as soon as it has too many bytes, ended or not, and so it stays; else
-- all its bytes are the message, after its end, once
abbrev pub IsPlainAnswer : ℕ → List ℕ → Bool → Bool → Heard → Unread → Type 0
IsPlainAnswer piece x given ended (heard.Message m) v =
    (length x ≤ 4194304) × (ended ≡ true) × (given ≡ false) × (m ≡ x) × (v ≡ plain piece [] true)
IsPlainAnswer piece x given ended heard.Need v =
    (length x ≤ 4194304) × (ended ≡ true → given ≡ true) × (v ≡ plain piece x given)
IsPlainAnswer piece x given ended (heard.Bad b) v =
    (4194304 < length x) × (b ≡ too_long) × (v ≡ plain piece x given)
IsPlainAnswer piece x given ended heard.NoMemory v = ⊥

-- of a datagram: exactly one message, or bad at the first layer at fault; either way it is given out, once
abbrev pub IsDatagramAnswer : List Layer → List ℕ → ℕ → Heard → Unread → Type 0
IsDatagramAnswer fs x k (heard.Message m) v = IsSpoken fs 0 m × (x ≡ chained fs 0 m) × (v ≡ datagrams None (k + 1))
IsDatagramAnswer fs x k heard.Need v = ⊥
IsDatagramAnswer fs x k (heard.Bad b) v =
    IsBadIn fs 0 x b.layer b.place × (b.message ≡ k) × (v ≡ datagrams None (k + 1))
IsDatagramAnswer fs x k heard.NoMemory v = v ≡ datagrams (Some x) k

-- what is answered, by whether the stream ended, and what is kept then: after a Bad of a stream the same Bad for
-- good; and where memory ran out nothing changes
abbrev pub IsGivenOut : List Layer → Bool → Unread → Heard → Unread → Type 0
IsGivenOut fs ended (framed piece x k None) answer v = IsFramedAnswer fs piece x k answer v
IsGivenOut fs ended (framed piece x k (Some b)) answer v = (answer ≡ heard.Bad b) × (v ≡ framed piece x k (Some b))
IsGivenOut fs ended (plain piece x given) answer v = IsPlainAnswer piece x given ended answer v
IsGivenOut fs ended (datagrams None k) answer v = (answer ≡ heard.Need) × (v ≡ datagrams None k)
IsGivenOut fs ended (datagrams (Some x) k) answer v = IsDatagramAnswer fs x k answer v
