-- What a race's trace tells of its moments and attempts (RFC 9623 section 4.3). A trace stands with its newest item
-- first.
use Rattle.std.specs.Prelude.{◌≡◌, ℕ, Bool, true, false, max, List, [], ◌∷◌, ◌++◌, length, Option, None, Some}
use Rattle.std.specs.List.{list_any}
use Rattle.taps_socket.specs.declared.item.How.TheVariants.{Faulted}
use Rattle.taps_socket.specs.declared.item.Item.{Item}
use Rattle.taps_socket.specs.declared.item.Item.TheVariants.{Began, Started, Refused, Waited, Closed}

-- one Began stands first, and behind it attempts, waits and closes alone
abbrev pub IsRaceTrace : List Item → Type 0
IsRaceTrace [] = ⊥
IsRaceTrace (Began at ∷ earlier) = earlier ≡ []
IsRaceTrace (Started leaf target socket at ∷ earlier) = IsRaceTrace earlier
IsRaceTrace (Refused leaf target cause at ∷ earlier) = IsRaceTrace earlier
IsRaceTrace (Waited until at how ∷ earlier) = IsRaceTrace earlier
IsRaceTrace (Closed socket ∷ earlier) = IsRaceTrace earlier
IsRaceTrace (_ ∷ earlier) = ⊥

-- the moment at which the race began
abbrev pub begun : List Item → ℕ
begun [] = 0
begun (Began at ∷ earlier) = at
begun (_ ∷ earlier) = begun earlier

-- the moment that an item tells, and 0 for a close, which tells none
abbrev pub moment : Item → ℕ
moment (Began at) = at
moment (Started leaf target socket at) = at
moment (Refused leaf target cause at) = at
moment (Waited until at how) = at
moment _ = 0

-- the greatest moment told
abbrev pub last_moment : List Item → ℕ
last_moment [] = 0
last_moment (item ∷ earlier) = max (moment item) (last_moment earlier)

-- the attempts, oldest first, each with its socket if it was started
abbrev pub tries : List Item → List (Option ℕ)
tries [] = []
tries (Started leaf target socket at ∷ earlier) = tries earlier ++ Some socket ∷ []
tries (Refused leaf target cause at ∷ earlier) = tries earlier ++ None ∷ []
tries (_ ∷ earlier) = tries earlier

-- how many leaves were attempted
abbrev pub attempts : List Item → ℕ
attempts trace = length (tries trace)

-- the moment of the newest attempt
abbrev pub last_attempt : List Item → ℕ
last_attempt [] = 0
last_attempt (Started leaf target socket at ∷ earlier) = at
last_attempt (Refused leaf target cause at ∷ earlier) = at
last_attempt (_ ∷ earlier) = last_attempt earlier

-- the leaves that were attempted, the newest first
abbrev pub leaves : List Item → List ℕ
leaves [] = []
leaves (Started leaf target socket at ∷ earlier) = leaf ∷ leaves earlier
leaves (Refused leaf target cause at ∷ earlier) = leaf ∷ leaves earlier
leaves (_ ∷ earlier) = leaves earlier

-- a wait was faulted
abbrev pub is_fault : Item → Bool
is_fault (Waited until at Faulted) = true
is_fault _ = false

-- some wait was faulted
abbrev pub has_fault : List Item → Bool
has_fault trace = list_any is_fault trace
