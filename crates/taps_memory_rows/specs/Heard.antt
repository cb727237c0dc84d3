-- What one end of a connection in memory hears of what the other sent.
use Rattle.std.specs.Prelude.{ℕ, Bool, true, List, Option}
use Rattle.taps_framer.specs.Layers.{Layer}
use Rattle.taps_socket.specs.Net.{Net}
use Rattle.taps_connection.specs.declared.sender.Begun.{Begun}
use Rattle.taps_connection.specs.Unread.{Unread}
use Rattle.taps_connection.specs.Encodings.{encoding_of}
use Rattle.taps_connection.specs.Written.{Writes}
use Rattle.taps_connection.specs.Histories.{Given, RepresentsRead}
use Rattle.taps_connection.specs.Joined.{IsPrefixOf, HearsNoBad}

-- where the one wrote on its socket what it sent, and what the other keeps represents what it read on its own and gave
-- out, this is a prefix of what was sent, and no Bad follows
abbrev pub IsHeardOver : Net → List Layer → ℕ → ℕ → ℕ → Option Begun → Bool → Unread → Type 0
IsHeardOver net fs from to number begun ended u =
    (sent : List (List ℕ)) (front : List ℕ) (given : List Given) →
    Writes (encoding_of true fs) true (net.traffic from).written sent front number begun →
    RepresentsRead fs ended u (net.traffic to).read given → IsPrefixOf given sent × HearsNoBad fs ended u
