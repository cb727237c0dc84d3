-- What one end of a stream hears of what the other sent, where both are joined reliably.
use Rattle.std.specs.Prelude.{◌≡◌, ℕ, Bool, true, List, ◌++◌, map, Option, Some, None}
use Rattle.std.specs.List.{concat}
use Rattle.taps_framer.specs.Layers.{Layer}
use Rattle.taps_chain.specs.declared.heard.Heard.{Heard}
use Rattle.taps_chain.specs.declared.heard.Heard.TheVariants as heard
use Rattle.taps_connection.specs.declared.sender.Begun.{Begun}
use Rattle.taps_connection.specs.Unread.{Unread}
use Rattle.taps_connection.specs.Encodings.{encoding_of}
use Rattle.taps_connection.specs.Written.{Writes}
use Rattle.taps_connection.specs.Receives.{IsGivenOut}
use Rattle.taps_connection.specs.Histories.{Given, message, RepresentsRead}

-- both are observable, and the bytes read at the one end are a prefix of those written at the other
abbrev pub AreJoined : Option (List (List ℕ)) → Option (List (List ℕ)) → Type 0
AreJoined None read = ⊥
AreJoined (Some written) None = ⊥
AreJoined (Some written) (Some read) = (rest : List ℕ) × (concat written ≡ concat read ++ rest)

-- what was given out are the first messages that were sent
pub record IsPrefixOf (given : List Given) (sent : List (List ℕ)) : Type 0 where
  pub heard : List (List ℕ)
  pub more : List (List ℕ)
  pub given_out : given ≡ map message heard
  pub prefix : sent ≡ heard ++ more

-- an answer is no Bad
abbrev pub IsNotBad : Heard → Type 0
IsNotBad (heard.Message m) = Unit {0}
IsNotBad heard.Need = Unit {0}
IsNotBad (heard.Bad b) = ⊥
IsNotBad heard.NoMemory = Unit {0}

-- whatever is answered next is no Bad
abbrev pub HearsNoBad : List Layer → Bool → Unread → Type 0
HearsNoBad fs ended u = (answer : Heard) (v : Unread) → IsGivenOut fs ended u answer v → IsNotBad answer

-- where one end wrote what it sent, and what the other keeps represents what it read and gave out, this is a prefix of
-- what was sent, and no Bad follows
abbrev pub IsHeardAsSent : List Layer → ℕ → Option Begun → Bool → Unread → Type 0
IsHeardAsSent fs number b ended u =
    (written read : Option (List (List ℕ))) (sent : List (List ℕ)) (front : List ℕ) (given : List Given) →
    AreJoined written read → Writes (encoding_of true fs) true written sent front number b →
    RepresentsRead fs ended u read given → IsPrefixOf given sent × HearsNoBad fs ended u
