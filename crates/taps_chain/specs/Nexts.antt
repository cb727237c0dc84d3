-- What ears answer, and what they keep then.
use Rattle.std.specs.Prelude.{◌≡◌, ℕ, ◌+◌, ◌-◌, ◌<◌, ◌≤◌, List, [], ◌∷◌, ◌++◌, length, Option, Some, None, Result, Ok, Err}
use Rattle.taps_framer.specs.Layers.{Layer}
use Rattle.taps_chain.specs.Chained.{chained, IsSpoken}
use Rattle.taps_chain.specs.Heard.{Ending, needs, fails, IsEnding}
use Rattle.taps_chain.specs.Streams.{StreamState}
use Rattle.taps_chain.specs.declared.heard.BadAt.{BadAt}
use Rattle.taps_chain.specs.declared.heard.FeedError.{FeedError}
use Rattle.taps_chain.specs.declared.heard.FeedError.TheVariants as feed
use Rattle.taps_chain.specs.declared.heard.Heard.{Heard}
use Rattle.taps_chain.specs.declared.heard.Heard.TheVariants as heard

-- at least as many of the unread bytes are scanned as were, and no more than there are
abbrev pub ScansOn : StreamState → StreamState → Type 0
ScansOn s t = (s.scanned ≤ t.scanned) × (t.scanned ≤ length s.unread)

-- of a stream that is not bad: the message that the unread bytes begin with, whose bytes are taken out, or
-- how the unread bytes end the hearing; running out of memory changes nothing but what is scanned
abbrev pub IsNextOfGood : List Layer → StreamState → Heard → StreamState → Type 0
IsNextOfGood fs s (heard.Message m) t = (rest : List ℕ) ×
    (IsSpoken fs s.index m × (s.unread ≡ chained fs s.index m ++ rest) ×
    (t ≡ record s { unread = rest; index = s.index + 1; scanned = 0 }) × (s.scanned + length rest ≤ length s.unread))
IsNextOfGood fs s heard.Need t = IsEnding fs s.index s.unread needs × (t ≡ record s { scanned = length s.unread })
IsNextOfGood fs s (heard.Bad b) t =
    IsEnding fs s.index s.unread (fails b.layer b.place) × (b.message ≡ s.index) ×
    (t ≡ record s { bad = Some b; scanned = t.scanned }) × ScansOn s t
IsNextOfGood fs s heard.NoMemory t = (t ≡ record s { scanned = t.scanned }) × ScansOn s t

-- what is answered, by the Bad that was answered before: after one it is the same for good
abbrev pub IsNextAfter : Option BadAt → List Layer → StreamState → Heard → StreamState → Type 0
IsNextAfter None fs s answer t = IsNextOfGood fs s answer t
IsNextAfter (Some b) fs s answer t = (answer ≡ heard.Bad b) × (t ≡ s)

-- what is answered, and what is kept then
abbrev pub IsNext : List Layer → StreamState → Heard → StreamState → Type 0
IsNext fs s answer t = IsNextAfter s.bad fs s answer t

-- the answer is the first of what is heard: a message, or the end where there is none
abbrev pub IsFirstOf : List (List ℕ) → Ending → Heard → Type 0
IsFirstOf ms e heard.NoMemory = Unit {0}
IsFirstOf [] e (heard.Message m) = ⊥
IsFirstOf [] e heard.Need = e ≡ needs
IsFirstOf [] e (heard.Bad b) = e ≡ fails b.layer b.place
IsFirstOf (n ∷ ms) e (heard.Message m) = m ≡ n
IsFirstOf (n ∷ ms) e heard.Need = ⊥
IsFirstOf (n ∷ ms) e (heard.Bad b) = ⊥

-- the piece is appended and uses room up; or it is refused with the Bad that was answered; or memory ran
-- out for a piece that is longer than the room; a refusal changes nothing
abbrev pub IsFed : StreamState → List ℕ → Result (Unit {0}) FeedError → StreamState → Type 0
IsFed s piece (Ok _) t = (s.bad ≡ None) × (t ≡ record s { unread = s.unread ++ piece; room = s.room - length piece })
IsFed s piece (Err (feed.Bad b)) t = (s.bad ≡ Some b) × (t ≡ s)
IsFed s piece (Err feed.NoMemory) t = (s.bad ≡ None) × (s.room < length piece) × (t ≡ s)
