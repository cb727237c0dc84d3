-- The calls of a race are determined by its items.
use Rattle.std.proofs.Common.{◌≡◌, List, [], ◌∷◌, refl, ap, sym, ◌∙◌, subst}
use Rattle.std.specs.Prelude.{map, true, false}
use Rattle.taps_socket.specs.declared.item.Item.{Item}
use Rattle.taps_socket.specs.declared.item.Item.TheVariants as item
use Rattle.taps_socket.specs.declared.answers.StartAnswer.TheVariants as start
use Rattle.taps_socket.specs.declared.answers.ListenAnswer.TheVariants as listen
use Rattle.taps_socket.specs.declared.answers.AcceptAnswer.TheVariants as accept
use Rattle.taps_socket.specs.declared.answers.SendAnswer.TheVariants as send
use Rattle.taps_socket.specs.declared.answers.RecvAnswer.TheVariants as recv
use Rattle.taps_socket.specs.RaceTrace.{IsRaceTrace}
use Rattle.taps_socket.specs.Calls.{Call, begins, starts, waits, closes, listens, accepts, sends, shuts, receives, items_by, AddEach}

-- the call of an item of a race; other items have none
abbrev pub call_of : Item → Call
call_of (item.Began at) = begins at
call_of (item.Started leaf target socket at) = starts leaf target (start.Started socket at)
call_of (item.Refused leaf target cause at) = starts leaf target (start.Refused cause at)
call_of (item.Waited until at how) = waits until (record { at = at; how = how })
call_of (item.Closed socket) = closes socket
call_of _ = begins 0

abbrev pub IsOfRace : Item → Type 0
IsOfRace (item.Began at) = Unit {0}
IsOfRace (item.Started leaf target socket at) = Unit {0}
IsOfRace (item.Refused leaf target cause at) = Unit {0}
IsOfRace (item.Waited until at how) = Unit {0}
IsOfRace (item.Closed socket) = Unit {0}
IsOfRace _ = ⊥

pub of_race : (i : Item) (e : List Item) → IsRaceTrace (i ∷ e) → IsOfRace i
of_race (item.Began at) e h = tt
of_race (item.Started leaf target socket at) e h = tt
of_race (item.Refused leaf target cause at) e h = tt
of_race (item.Waited until at how) e h = tt
of_race (item.Closed socket) e h = tt
of_race i e h = absurd h

pub items_by_call : (i : Item) → IsOfRace i → items_by (call_of i) ≡ i ∷ []
items_by_call (item.Began at) h = refl
items_by_call (item.Started leaf target socket at) h = refl
items_by_call (item.Refused leaf target cause at) h = refl
items_by_call (item.Waited until at how) h = refl
items_by_call (item.Closed socket) h = refl
items_by_call i h = absurd h

head_of : (i j : Item) → i ∷ [] ≡ j ∷ [] → i ≡ j
head_of i j e = cc

no_item : {P : Type 0} (i : Item) → [] ≡ i ∷ [] → P
no_item i e = absurd (let z : [] ≡ i ∷ [] = e in cc)

-- a call that adds one item of a race is its call
its_call : (c : Call) (j i : Item) → j ∷ [] ≡ i ∷ [] → c ≡ call_of j → c ≡ call_of i
its_call c j i e h = subst (λ v. c ≡ call_of v) (head_of j i e) h

not_its : {P : Type 0} (j i : Item) → j ∷ [] ≡ i ∷ [] → IsOfRace i → (IsOfRace j → ⊥) → P
not_its j i e h never = absurd (never (subst IsOfRace (sym (head_of j i e)) h))

pub one_call : (c : Call) (i : Item) → IsOfRace i → items_by c ≡ i ∷ [] → c ≡ call_of i
one_call (begins at) i h e = its_call (begins at) (item.Began at) i e refl
one_call (starts leaf target (start.Started socket at)) i h e = its_call (starts leaf target (start.Started socket at)) (item.Started leaf target socket at) i e refl
one_call (starts leaf target (start.Refused cause at)) i h e = its_call (starts leaf target (start.Refused cause at)) (item.Refused leaf target cause at) i e refl
one_call (waits until answer) i h e = its_call (waits until answer) (item.Waited until answer.at answer.how) i e refl
one_call (closes socket) i h e = its_call (closes socket) (item.Closed socket) i e refl
one_call (listens target (listen.Listening socket at)) i h e = not_its (item.Listening target socket at) i e h (λ x. x)
one_call (listens target (listen.Refused cause at)) i h e = not_its (item.NotListening target cause at) i e h (λ x. x)
one_call (accepts listener until (accept.Accepted socket at)) i h e = not_its (item.Accepted listener socket at) i e h (λ x. x)
one_call (accepts listener until (accept.Timed at)) i h e = no_item i e
one_call (accepts listener until (accept.Faulted at)) i h e = not_its (item.Faulted at) i e h (λ x. x)
one_call (sends socket bytes until (send.Sent count at)) i h e = no_item i e
one_call (sends socket bytes until (send.Timed at)) i h e = no_item i e
one_call (sends socket bytes until (send.Failed cause)) i h e = not_its (item.DataFailed socket true cause) i e h (λ x. x)
one_call (shuts socket) i h e = not_its (item.Shut socket) i e h (λ x. x)
one_call (receives socket most until came (recv.Got count at)) i h e = no_item i e
one_call (receives socket most until came recv.End) i h e = not_its (item.Ended socket) i e h (λ x. x)
one_call (receives socket most until came (recv.Timed at)) i h e = no_item i e
one_call (receives socket most until came (recv.Failed cause)) i h e = not_its (item.DataFailed socket false cause) i e h (λ x. x)

abbrev AreOfRace : List Item → Type 0
AreOfRace [] = Unit {0}
AreOfRace (i ∷ e) = IsOfRace i × AreOfRace e

are_of_race : (t : List Item) → IsRaceTrace t → AreOfRace t
are_of_race [] h = tt
are_of_race (item.Began at ∷ e) h = (tt, subst AreOfRace (sym h) tt)
are_of_race (item.Started leaf target socket at ∷ e) h = (tt, are_of_race e h)
are_of_race (item.Refused leaf target cause at ∷ e) h = (tt, are_of_race e h)
are_of_race (item.Waited until at how ∷ e) h = (tt, are_of_race e h)
are_of_race (item.Closed socket ∷ e) h = (tt, are_of_race e h)
are_of_race (i ∷ e) h = absurd h

its_calls : (calls : List Call) (t : List Item) → AreOfRace t → AddEach calls t → calls ≡ map call_of t
its_calls [] [] h e = refl
its_calls [] (i ∷ t) h e = absurd (let z : [] ≡ (i ∷ []) ∷ map (λ i. i ∷ []) t = e in cc)
its_calls (c ∷ calls) [] h e = absurd (let z : items_by c ∷ map items_by calls ≡ [] = e in cc)
its_calls (c ∷ calls) (i ∷ t) h e =
    let z : items_by c ∷ map items_by calls ≡ (i ∷ []) ∷ map (λ i. i ∷ []) t = e in
    let first : items_by c ≡ i ∷ [] = cc in
    let rest : map items_by calls ≡ map (λ i. i ∷ []) t = cc in
    ap (λ v. v ∷ calls) (one_call c i h.0 first) ∙ ap (λ v. call_of i ∷ v) (its_calls calls t h.1 rest)

pub calls_are : (calls : List Call) (t : List Item) → IsRaceTrace t → AddEach calls t → calls ≡ map call_of t
calls_are calls t h e = its_calls calls t (are_of_race t h) e
