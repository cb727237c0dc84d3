-- What a connection keeps of its receiving stands for what was read from its socket and what it gave out.
use Rattle.std.specs.Prelude.{◌≡◌, ℕ, ◌≤◌, Bool, true, false, List, [], ◌∷◌, ◌++◌, length, map, Option, Some, None}
use Rattle.std.specs.List.{concat}
use Rattle.taps_framer.specs.Layers.{Layer}
use Rattle.taps_chain.specs.Chained.{chained, IsSpoken}
use Rattle.taps_chain.specs.Faults.{IsBadIn}
use Rattle.taps_chain.specs.Heard.{Ending, needs, fails, IsEnding, IsBegun, IsHeard}
use Rattle.taps_chain.specs.declared.heard.BadAt.{BadAt}
use Rattle.taps_chain.specs.declared.heard.Heard.{Heard}
use Rattle.taps_chain.specs.declared.heard.Heard.TheVariants as heard
use Rattle.taps_connection.specs.Unread.{Unread, framed, plain, datagrams}

-- what is given out: a message; or, of a datagram that is bad, the layer at fault and the place there
pub data Given : Type 0 where
  message : (body : List ℕ) → Given
  bad_datagram : (layer place : ℕ) → Given

-- what an answer gives out: a stream's Bad is not given out, since it stays
abbrev pub given_by : Unread → Heard → List Given
given_by u (heard.Message m) = message m ∷ []
given_by u heard.Need = []
given_by (framed piece bytes index bad) (heard.Bad b) = []
given_by (plain piece bytes given) (heard.Bad b) = []
given_by (datagrams held given) (heard.Bad b) = bad_datagram b.layer b.place ∷ []
given_by u heard.NoMemory = []

-- what a datagram gives: the message whose bytes it is at index 0, or the first layer at fault
abbrev pub IsGivenBy : List Layer → List ℕ → Given → Type 0
IsGivenBy fs x (message m) = IsSpoken fs 0 m × (x ≡ chained fs 0 m)
IsGivenBy fs x (bad_datagram l p) = IsBadIn fs 0 x l p

-- each datagram gives one
abbrev pub AreGivenBy : List Layer → List (List ℕ) → List Given → Type 0
AreGivenBy fs [] [] = Unit {0}
AreGivenBy fs (x ∷ xs) (g ∷ given) = IsGivenBy fs x g × AreGivenBy fs xs given
AreGivenBy fs [] (g ∷ given) = ⊥
AreGivenBy fs (x ∷ xs) [] = ⊥

-- the unread bytes are bad, as was told
abbrev pub IsBrokenOff : List Layer → ℕ → List ℕ → Option BadAt → Type 0
IsBrokenOff fs k x None = Unit {0}
IsBrokenOff fs k x (Some b) = IsEnding fs k x (fails b.layer b.place) × (b.message ≡ k)

-- of a stream through a chain, the messages that were given out begin the bytes that were read, and the unread ones
-- follow
pub record IsHeardSoFar (fs : List Layer) (bytes : List ℕ) (given : List Given) (unread : List ℕ) (index : ℕ)
    (bad : Option BadAt) : Type 0 where
  pub messages : List (List ℕ)
  pub given_out : given ≡ map message messages
  pub begun : IsBegun fs 0 bytes messages unread
  pub count : index ≡ length messages
  pub broken : IsBrokenOff fs index unread bad

-- of a stream that is one message, it was not given out, and all bytes that were read are unread; or it was, after
-- the end
abbrev pub IsWholeSoFar : Bool → List ℕ → List Given → List ℕ → Bool → Type 0
IsWholeSoFar ended bytes given unread false = (given ≡ []) × (unread ≡ bytes)
IsWholeSoFar ended bytes given unread true =
    (ended ≡ true) × (length bytes ≤ 4194304) × (given ≡ message bytes ∷ []) × (unread ≡ [])

-- of datagrams, each that was read was given out, and then one is held, if any
abbrev pub list_of : Option (List ℕ) → List (List ℕ)
list_of None = []
list_of (Some x) = x ∷ []

pub record AreGivenSoFar (fs : List Layer) (read : List (List ℕ)) (given : List Given) (held : Option (List ℕ))
    (count : ℕ) : Type 0 where
  pub before : List (List ℕ)
  pub split : read ≡ before ++ list_of held
  pub given_out : AreGivenBy fs before given
  pub counted : count ≡ length given

-- what is kept stands for the pieces that were read, by whether the stream ended, and for what was given out of them
abbrev pub Represents : List Layer → Bool → Unread → List (List ℕ) → List Given → Type 0
Represents fs ended (framed piece unread index bad) read given = IsHeardSoFar fs (concat read) given unread index bad
Represents fs ended (plain piece unread whole) read given = IsWholeSoFar ended (concat read) given unread whole
Represents fs ended (datagrams held count) read given = AreGivenSoFar fs read given held count

-- where the pieces are observable
abbrev pub RepresentsRead : List Layer → Bool → Unread → Option (List (List ℕ)) → List Given → Type 0
RepresentsRead fs ended u None given = Unit {0}
RepresentsRead fs ended u (Some read) given = Represents fs ended u read given

-- the messages that were given out are those that the bytes read decode to, with this ending and this rest
pub record IsDecoded (fs : List Layer) (bytes : List ℕ) (given : List Given) (e : Ending) (rest : List ℕ) : Type 0 where
  pub messages : List (List ℕ)
  pub given_out : given ≡ map message messages
  pub heard : IsHeard fs 0 bytes messages e rest

-- Where more is needed, all that the bytes of a stream through a chain decode to was given out. Where they are bad,
-- that is so too, and the bad message is the one behind these.
abbrev pub Decodes : List Layer → Unread → List (List ℕ) → List Given → Heard → Type 0
Decodes fs (framed piece unread index bad) read given heard.Need = IsDecoded fs (concat read) given needs unread
Decodes fs (framed piece unread index bad) read given (heard.Bad b) =
    IsDecoded fs (concat read) given (fails b.layer b.place) unread × (b.message ≡ length given)
Decodes fs u read given answer = Unit {0}
