-- Which calls of a session of both ends write and read: those of its exchange alone.
use Rattle.std.proofs.Common.{◌≡◌, ℕ, Bool, true, false, cond, List, [], ◌∷◌, ◌++◌, refl, sym, ap, subst, ◌∙◌}
use Rattle.taps_stack.specs.declared.target.Target.{Target}
use Rattle.taps_socket.specs.declared.answers.ListenAnswer.{ListenAnswer}
use Rattle.taps_socket.specs.declared.answers.AcceptAnswer.{AcceptAnswer}
use Rattle.taps_socket.specs.declared.answers.SendAnswer.TheVariants as send
use Rattle.taps_socket.specs.declared.answers.RecvAnswer.TheVariants as recv
use Rattle.taps_socket.specs.declared.item.Item.{Item}
use Rattle.taps_socket.specs.declared.item.Item.TheVariants as item
use Rattle.taps_socket.specs.Calls.{Call, begins, starts, waits, closes, listens, accepts, sends, shuts, receives, items_by, AddEach}
use Rattle.taps_socket.specs.RaceTrace.{IsRaceTrace}
use Rattle.taps_exchange.specs.Members.{is_on, calls_on, pieces_read, piece_by}
use Rattle.taps_exchange.specs.Written.{pieces_written, taken_by}

-- the pieces that calls on a socket wrote, and read
pub record Moves (s : ℕ) (calls : List Call) (wrote read : List (List ℕ)) : Type 0 where
  pub wrote_is : pieces_written (calls_on s calls) ≡ wrote
  pub read_is : pieces_read (calls_on s calls) ≡ read

-- a call that neither sends nor receives
abbrev IsSilent : Call → Type 0
IsSilent (sends socket bytes until answer) = ⊥
IsSilent (receives socket most until came answer) = ⊥
IsSilent _ = Unit {0}

abbrev IsRaceItem : Item → Type 0
IsRaceItem (item.Began at) = Unit {0}
IsRaceItem (item.Started leaf target socket at) = Unit {0}
IsRaceItem (item.Refused leaf target cause at) = Unit {0}
IsRaceItem (item.Waited until at how) = Unit {0}
IsRaceItem (item.Closed socket) = Unit {0}
IsRaceItem _ = ⊥

silent_call : (c : Call) (i : Item) → IsRaceItem i → items_by c ≡ i ∷ [] → IsSilent c
silent_call (begins at) i race e = tt
silent_call (starts leaf target answer) i race e = tt
silent_call (waits until answer) i race e = tt
silent_call (closes socket) i race e = tt
silent_call (listens target answer) i race e = tt
silent_call (accepts listener until answer) i race e = tt
silent_call (sends socket bytes until (send.Sent count at)) i race e = cc
silent_call (sends socket bytes until (send.Timed at)) i race e = cc
silent_call (sends socket bytes until (send.Failed cause)) i race e = (let same : item.DataFailed socket true cause ≡ i = cc in subst IsRaceItem (sym same) race)
silent_call (shuts socket) i race e = tt
silent_call (receives socket most until came (recv.Got count at)) i race e = cc
silent_call (receives socket most until came recv.End) i race e = (let same : item.Ended socket ≡ i = cc in subst IsRaceItem (sym same) race)
silent_call (receives socket most until came (recv.Timed at)) i race e = cc
silent_call (receives socket most until came (recv.Failed cause)) i race e = (let same : item.DataFailed socket false cause ≡ i = cc in subst IsRaceItem (sym same) race)

-- it moves nothing, on the socket or not
silent_wrote : (b : Bool) (c : Call) (own : List Call) → IsSilent c → pieces_written (cond b (c ∷ own) own) ≡ pieces_written own
silent_wrote false c own h = refl
silent_wrote true (begins at) own h = refl
silent_wrote true (starts leaf target answer) own h = refl
silent_wrote true (waits until answer) own h = refl
silent_wrote true (closes socket) own h = refl
silent_wrote true (listens target answer) own h = refl
silent_wrote true (accepts listener until answer) own h = refl
silent_wrote true (sends socket bytes until answer) own h = absurd h
silent_wrote true (shuts socket) own h = refl
silent_wrote true (receives socket most until came answer) own h = absurd h

silent_read : (b : Bool) (c : Call) (own : List Call) → IsSilent c → pieces_read (cond b (c ∷ own) own) ≡ pieces_read own
silent_read false c own h = refl
silent_read true (begins at) own h = refl
silent_read true (starts leaf target answer) own h = refl
silent_read true (waits until answer) own h = refl
silent_read true (closes socket) own h = refl
silent_read true (listens target answer) own h = refl
silent_read true (accepts listener until answer) own h = refl
silent_read true (sends socket bytes until answer) own h = absurd h
silent_read true (shuts socket) own h = refl
silent_read true (receives socket most until came answer) own h = absurd h

pub silent_moves : (s : ℕ) (c : Call) (calls : List Call) (wrote read : List (List ℕ)) → IsSilent c → Moves s calls wrote read → Moves s (c ∷ calls) wrote read
silent_moves s c calls wrote read h m =
    record { wrote_is = silent_wrote (is_on s c) c (calls_on s calls) h ∙ m.wrote_is; read_is = silent_read (is_on s c) c (calls_on s calls) h ∙ m.read_is }

-- any call more, behind calls that moved the same
more_wrote : (b : Bool) (c : Call) (own other : List Call) → pieces_written own ≡ pieces_written other → pieces_written (cond b (c ∷ own) own) ≡ pieces_written (cond b (c ∷ other) other)
more_wrote false c own other e = e
more_wrote true (begins at) own other e = e
more_wrote true (starts leaf target answer) own other e = e
more_wrote true (waits until answer) own other e = e
more_wrote true (closes socket) own other e = e
more_wrote true (listens target answer) own other e = e
more_wrote true (accepts listener until answer) own other e = e
more_wrote true (sends socket bytes until answer) own other e = ap (λ (v : List (List ℕ)). v ++ taken_by bytes answer) e
more_wrote true (shuts socket) own other e = e
more_wrote true (receives socket most until came answer) own other e = e

more_read : (b : Bool) (c : Call) (own other : List Call) → pieces_read own ≡ pieces_read other → pieces_read (cond b (c ∷ own) own) ≡ pieces_read (cond b (c ∷ other) other)
more_read false c own other e = e
more_read true (begins at) own other e = e
more_read true (starts leaf target answer) own other e = e
more_read true (waits until answer) own other e = e
more_read true (closes socket) own other e = e
more_read true (listens target answer) own other e = e
more_read true (accepts listener until answer) own other e = e
more_read true (sends socket bytes until answer) own other e = e
more_read true (shuts socket) own other e = e
more_read true (receives socket most until came answer) own other e = ap (λ (v : List (List ℕ)). v ++ piece_by came answer) e

pub moves_behind : (s : ℕ) (calls earlier : List Call) → Moves s earlier [] [] → Moves s (calls ++ earlier) (pieces_written (calls_on s calls)) (pieces_read (calls_on s calls))
moves_behind s [] earlier m = m
moves_behind s (c ∷ calls) earlier m =
    let h = moves_behind s calls earlier m in
    record {
      wrote_is = more_wrote (is_on s c) c (calls_on s (calls ++ earlier)) (calls_on s calls) h.wrote_is;
      read_is = more_read (is_on s c) c (calls_on s (calls ++ earlier)) (calls_on s calls) h.read_is;
    }

-- a race behind a listen moves nothing
abbrev AreRaceItems : List Item → Type 0
AreRaceItems [] = Unit {0}
AreRaceItems (i ∷ r) = IsRaceItem i × AreRaceItems r

are_race_items : (r : List Item) → IsRaceTrace r → AreRaceItems r
are_race_items [] t = absurd t
are_race_items (item.Began at ∷ r) t = (tt, subst AreRaceItems (sym t) tt)
are_race_items (item.Started leaf target socket at ∷ r) t = (tt, are_race_items r t)
are_race_items (item.Refused leaf target cause at ∷ r) t = (tt, are_race_items r t)
are_race_items (item.Waited until at how ∷ r) t = (tt, are_race_items r t)
are_race_items (item.Closed socket ∷ r) t = (tt, are_race_items r t)
are_race_items (item.Listening target socket at ∷ r) t = absurd t
are_race_items (item.NotListening target cause at ∷ r) t = absurd t
are_race_items (item.Accepted listener socket at ∷ r) t = absurd t
are_race_items (item.Faulted at ∷ r) t = absurd t
are_race_items (item.Shut socket ∷ r) t = absurd t
are_race_items (item.Ended socket ∷ r) t = absurd t
are_race_items (item.DataFailed socket sending cause ∷ r) t = absurd t

silent_race : (s : ℕ) (target : Target) (answer : ListenAnswer) (raced : List Call) (race : List Item) → AddEach raced race → AreRaceItems race → Moves s (raced ++ listens target answer ∷ []) [] []
silent_race s target answer [] [] each race = record { wrote_is = refl; read_is = refl }
silent_race s target answer [] (i ∷ r) each race = cc
silent_race s target answer (c ∷ raced) [] each race = cc
silent_race s target answer (c ∷ raced) (i ∷ r) each race =
    let own : items_by c ≡ i ∷ [] = cc in
    let others : AddEach raced r = cc in
    silent_moves s c (raced ++ listens target answer ∷ []) [] [] (silent_call c i race.0 own) (silent_race s target answer raced r others race.1)

-- so all calls of a session move what those of its exchange do
pub session_moves : (s : ℕ) (target : Target) (heard : ListenAnswer) (raced : List Call) (race : List Item) (listener until one two three : ℕ) (answer : AcceptAnswer) (calls : List Call) → AddEach raced race → IsRaceTrace race →
    Moves s (closes one ∷ closes two ∷ closes three ∷ (calls ++ accepts listener until answer ∷ (raced ++ listens target heard ∷ []))) (pieces_written (calls_on s calls)) (pieces_read (calls_on s calls))
session_moves s target heard raced race listener until one two three answer calls each trace =
    let before : List Call = raced ++ listens target heard ∷ [] in
    let begun : Moves s (accepts listener until answer ∷ before) [] [] = silent_moves s (accepts listener until answer) before [] [] tt (silent_race s target heard raced race each (are_race_items race trace)) in
    let middle = moves_behind s calls (accepts listener until answer ∷ before) begun in
    let wrote : List (List ℕ) = pieces_written (calls_on s calls) in
    let read : List (List ℕ) = pieces_read (calls_on s calls) in
    let all : List Call = calls ++ accepts listener until answer ∷ before in
    silent_moves s (closes one) (closes two ∷ closes three ∷ all) wrote read tt
    (silent_moves s (closes two) (closes three ∷ all) wrote read tt (silent_moves s (closes three) all wrote read tt middle))
