-- The bytes that sockets show on a socket that was given with none are the pieces of the calls on it.
use Rattle.std.proofs.Common.{◌≡◌, ◌<◌, ℕ, Bool, true, false, List, [], ◌∷◌, ◌++◌, Option, Some, None, refl, sym, ◌∙◌, ap, subst, not, inl, inr, if◌then◌else◌, arith, append_assoc, append-nil}
use Rattle.std.specs.Prelude.{◌==◌, ◌⊎◌}
use Rattle.std.specs.List.{concat}
use Rattle.std.specs.Option.{option_map}
use Rattle.std.proofs.lemmas.Bool.{eqb-true}
use Rattle.std.proofs.lemmas.List.Folds.{concat-append, list_any-append}
use Rattle.taps_socket.specs.declared.item.Item.{Item}
use Rattle.taps_socket.specs.declared.item.Item.TheVariants as item
use Rattle.taps_socket.specs.declared.answers.StartAnswer.TheVariants as start
use Rattle.taps_socket.specs.declared.answers.ListenAnswer.TheVariants as listen
use Rattle.taps_socket.specs.declared.answers.AcceptAnswer.TheVariants as accept
use Rattle.taps_socket.specs.declared.answers.SendAnswer.{SendAnswer}
use Rattle.taps_socket.specs.declared.answers.SendAnswer.TheVariants as send
use Rattle.taps_socket.specs.declared.answers.RecvAnswer.{RecvAnswer}
use Rattle.taps_socket.specs.declared.answers.RecvAnswer.TheVariants as recv
use Rattle.taps_socket.specs.Calls.{Call, begins, starts, waits, closes, listens, accepts, sends, shuts, receives, items_by, items_of}
use Rattle.taps_socket.specs.LiveSockets.{given, named, IsNewSocket}
use Rattle.taps_socket.specs.Net.{Net, Traffic, IsBlank, IsUnused, with_piece}
use Rattle.taps_socket.specs.RaceSockets.{has, closed}
use Rattle.taps_socket.specs.Shows.{Shows, IsLawful, AreLawful, told_after, written_by, read_by, piece_of, piece_in, grown, written_after, read_after}
use Rattle.taps_socket.specs.Sides.{carries_stream, is_connected}
use Rattle.taps_socket.proofs.Lists.{both, kept, or_right}
use Rattle.taps_socket.proofs.NamedSockets.{given_named}
use Rattle.taps_exchange.specs.Members.{calls_on, pieces_read, piece_by}
use Rattle.taps_exchange.specs.Written.{pieces_written, taken_by}
use Rattle.taps_session.specs.Observed.{AreShown, ShowsBytes}

-- the piece that a call moves, if it moves one, and all pieces that calls moved
abbrev list_of : Option (List ℕ) → List (List ℕ)
list_of None = []
list_of (Some piece) = piece ∷ []

abbrev moved : (Call → Option (List ℕ)) → List Call → List (List ℕ)
moved piece [] = []
moved piece (call ∷ earlier) = moved piece earlier ++ list_of (piece call)

-- what is shown after them
abbrev shown_after : (Call → Option (List ℕ)) → List Item → ℕ → List Call → Option (List (List ℕ)) → Option (List (List ℕ))
shown_after piece trace s [] shown = shown
shown_after piece trace s (call ∷ earlier) shown = grown (carries_stream (items_of earlier ++ trace) s) (piece call) (shown_after piece trace s earlier shown)

-- a socket that is named stays so, and its target too
not_equal : (x s : ℕ) (q : Bool) → (x == s) ≡ q → s < x → q ≡ false
not_equal x s true e less = let same : x ≡ s = eqb-true x s e in absurd (omega arith)
not_equal x s false e less = refl

other : (t : List Item) (x s : ℕ) → IsNewSocket x t → has (named t) s ≡ true → (x == s) ≡ false
other t x s new there = not_equal x s (x == s) refl (new s there)

record IsSame (s : ℕ) (t t' : List Item) : Type 0 where
  pub carries : carries_stream t' s ≡ carries_stream t s
  pub named : has (named t') s ≡ true

later : (i : Item) (t : List Item) (s : ℕ) → has (named t) s ≡ true → has (named (i ∷ t)) s ≡ true
later i t s h = rw list_any-append (or_right _ _ h)

same_on : (call : Call) (t : List Item) (told s : ℕ) → IsLawful call t told → has (named t) s ≡ true → IsSame s t (items_by call ++ t)
same_on (begins at) t told s lawful there = record { carries = refl; named = there }
same_on (starts leaf target (start.Started x at)) t told s lawful there = record { carries = rw (other t x s lawful.1 there) refl; named = later (item.Started leaf target x at) t s there }
same_on (starts leaf target (start.Refused cause at)) t told s lawful there = record { carries = refl; named = there }
same_on (waits until answer) t told s lawful there = record { carries = refl; named = later (item.Waited until answer.at answer.how) t s there }
same_on (closes x) t told s lawful there = record { carries = refl; named = later (item.Closed x) t s there }
same_on (listens target (listen.Listening x at)) t told s lawful there = record { carries = rw (other t x s lawful.2 there) refl; named = later (item.Listening target x at) t s there }
same_on (listens target (listen.Refused cause at)) t told s lawful there = record { carries = refl; named = there }
same_on (accepts listener until (accept.Accepted x at)) t told s lawful there = record { carries = rw (other t x s lawful.3 there) refl; named = later (item.Accepted listener x at) t s there }
same_on (accepts listener until (accept.Timed at)) t told s lawful there = record { carries = refl; named = there }
same_on (accepts listener until (accept.Faulted at)) t told s lawful there = record { carries = refl; named = there }
same_on (sends x bytes until (send.Sent count at)) t told s lawful there = record { carries = refl; named = there }
same_on (sends x bytes until (send.Timed at)) t told s lawful there = record { carries = refl; named = there }
same_on (sends x bytes until (send.Failed cause)) t told s lawful there = record { carries = refl; named = later (item.DataFailed x true cause) t s there }
same_on (shuts x) t told s lawful there = record { carries = refl; named = later (item.Shut x) t s there }
same_on (receives x most until came (recv.Got count at)) t told s lawful there = record { carries = refl; named = there }
same_on (receives x most until came recv.End) t told s lawful there = record { carries = refl; named = later (item.Ended x) t s there }
same_on (receives x most until came (recv.Timed at)) t told s lawful there = record { carries = refl; named = there }
same_on (receives x most until came (recv.Failed cause)) t told s lawful there = record { carries = refl; named = later (item.DataFailed x false cause) t s there }

-- nothing was moved yet, or the socket is named and shows what was moved
abbrev SoFar : (Call → Option (List ℕ)) → List Item → ℕ → Option (List (List ℕ)) → List Call → Type 0
SoFar piece trace s shown calls =
    ((shown_after piece trace s calls shown ≡ shown) × (moved piece calls ≡ []))
    ⊎ ((has (named (items_of calls ++ trace)) s ≡ true) × AreShown (carries_stream (items_of calls ++ trace) s) (shown_after piece trace s calls shown) (moved piece calls))

blank : (stream : Bool) (shown : Option (List (List ℕ))) → IsBlank shown → AreShown stream shown []
blank stream None h = tt
blank true (Some pieces) h = ap concat h
blank false (Some pieces) h = h

-- one piece more
grows : (stream : Bool) (piece : List ℕ) (shown : Option (List (List ℕ))) (pieces : List (List ℕ)) → AreShown stream shown pieces → AreShown stream (option_map (with_piece stream piece) shown) (pieces ++ piece ∷ [])
grows stream piece None pieces h = tt
grows true piece (Some was) pieces h = append-nil (concat was ++ piece) ∙ ap (λ v. v ++ piece) h ∙ ap (λ v. concat pieces ++ v) (sym (append-nil piece)) ∙ sym (concat-append pieces (piece ∷ []))
grows false piece (Some was) pieces h = ap (λ v. v ++ piece ∷ []) h

-- what is shown before a piece is what was moved
before_piece : (piece : Call → Option (List ℕ)) (trace : List Item) (s : ℕ) (shown : Option (List (List ℕ))) (calls : List Call) → IsBlank shown → SoFar piece trace s shown calls → AreShown (carries_stream (items_of calls ++ trace) s) (shown_after piece trace s calls shown) (moved piece calls)
before_piece piece trace s shown calls none so_far =
    elim so_far [
      | inl h ↦ (let first : AreShown (carries_stream (items_of calls ++ trace) s) shown [] = blank (carries_stream (items_of calls ++ trace) s) shown none in
          subst (λ v. AreShown (carries_stream (items_of calls ++ trace) s) v (moved piece calls)) (sym h.0) (subst (λ v. AreShown (carries_stream (items_of calls ++ trace) s) shown v) (sym h.1) first))
      | inr h ↦ h.1
    ]

-- behind one call more
over : (piece : Call → Option (List ℕ)) (call : Call) (trace : List Item) (told s : ℕ) (shown : Option (List (List ℕ))) (calls : List Call) (o : Option (List ℕ)) → piece call ≡ o → IsBlank shown
    → IsLawful call (items_of calls ++ trace) told → ((p : List ℕ) → piece call ≡ Some p → has (named (items_of calls ++ trace)) s ≡ true) → SoFar piece trace s shown calls → SoFar piece trace s shown (call ∷ calls)
over piece call trace told s shown calls None e none lawful named_if so_far =
    let assoc : items_of (call ∷ calls) ++ trace ≡ items_by call ++ (items_of calls ++ trace) = append_assoc (items_by call) (items_of calls) trace in
    let kept_shown : shown_after piece trace s (call ∷ calls) shown ≡ shown_after piece trace s calls shown = ap (λ v. grown (carries_stream (items_of calls ++ trace) s) v (shown_after piece trace s calls shown)) e in
    let kept_moved : moved piece (call ∷ calls) ≡ moved piece calls = ap (λ v. moved piece calls ++ list_of v) e ∙ append-nil (moved piece calls) in
    elim so_far [
      | inl h ↦ inl (kept_shown ∙ h.0, kept_moved ∙ h.1)
      | inr h ↦ (let same = same_on call (items_of calls ++ trace) told s lawful h.0 in
          let carries : carries_stream (items_of (call ∷ calls) ++ trace) s ≡ carries_stream (items_of calls ++ trace) s = ap (λ v. carries_stream v s) assoc ∙ same.carries in
          inr (
            subst (λ v. has (named v) s ≡ true) (sym assoc) same.named,
            subst (λ v. AreShown v (shown_after piece trace s (call ∷ calls) shown) (moved piece (call ∷ calls))) (sym carries)
                (subst (λ v. AreShown (carries_stream (items_of calls ++ trace) s) v (moved piece (call ∷ calls))) (sym kept_shown)
                (subst (λ v. AreShown (carries_stream (items_of calls ++ trace) s) (shown_after piece trace s calls shown) v) (sym kept_moved) h.1)),
          ))
    ]
over piece call trace told s shown calls (Some p) e none lawful named_if so_far =
    let assoc : items_of (call ∷ calls) ++ trace ≡ items_by call ++ (items_of calls ++ trace) = append_assoc (items_by call) (items_of calls) trace in
    let there = named_if p e in
    let same = same_on call (items_of calls ++ trace) told s lawful there in
    let carries : carries_stream (items_of (call ∷ calls) ++ trace) s ≡ carries_stream (items_of calls ++ trace) s = ap (λ v. carries_stream v s) assoc ∙ same.carries in
    let stream = carries_stream (items_of calls ++ trace) s in
    let more_shown : shown_after piece trace s (call ∷ calls) shown ≡ option_map (with_piece stream p) (shown_after piece trace s calls shown) = ap (λ v. grown stream v (shown_after piece trace s calls shown)) e in
    let more_moved : moved piece (call ∷ calls) ≡ moved piece calls ++ p ∷ [] = ap (λ v. moved piece calls ++ list_of v) e in
    let all : AreShown stream (option_map (with_piece stream p) (shown_after piece trace s calls shown)) (moved piece calls ++ p ∷ []) = grows stream p (shown_after piece trace s calls shown) (moved piece calls) (before_piece piece trace s shown calls none so_far) in
    inr (
      subst (λ v. has (named v) s ≡ true) (sym assoc) same.named,
      subst (λ v. AreShown v (shown_after piece trace s (call ∷ calls) shown) (moved piece (call ∷ calls))) (sym carries)
          (subst (λ v. AreShown stream v (moved piece (call ∷ calls))) (sym more_shown)
          (subst (λ v. AreShown stream (option_map (with_piece stream p) (shown_after piece trace s calls shown)) v) (sym more_moved) all)),
    )

so_far : (piece : Call → Option (List ℕ)) (trace : List Item) (told s : ℕ) (shown : Option (List (List ℕ))) (calls : List Call) → IsBlank shown → ((call : Call) (t : List Item) (now : ℕ) (p : List ℕ) → IsLawful call t now → piece call ≡ Some p → has (named t) s ≡ true)
    → AreLawful trace told calls → SoFar piece trace s shown calls
so_far piece trace told s shown [] none named_if lawful = inl (refl, refl)
so_far piece trace told s shown (call ∷ calls) none named_if lawful =
    over piece call trace (told_after calls told) s shown calls (piece call) refl none lawful.0 (λ p e. named_if call (items_of calls ++ trace) (told_after calls told) p lawful.0 e)
    (so_far piece trace told s shown calls none named_if lawful.1)

-- the pieces written and read by calls on a socket
written_is : (t : List Item) (s : ℕ) (calls : List Call) (shown : Option (List (List ℕ))) → written_after t calls s shown ≡ shown_after (λ call. written_by call s) t s calls shown
written_is t s [] shown = refl
written_is t s (call ∷ calls) shown = ap (grown (carries_stream (items_of calls ++ t) s) (written_by call s)) (written_is t s calls shown)

read_is : (t : List Item) (s : ℕ) (calls : List Call) (shown : Option (List (List ℕ))) → read_after t calls s shown ≡ shown_after (λ call. read_by call s) t s calls shown
read_is t s [] shown = refl
read_is t s (call ∷ calls) shown = ap (grown (carries_stream (items_of calls ++ t) s) (read_by call s)) (read_is t s calls shown)

taken_is : (bytes : List ℕ) (answer : SendAnswer) (pieces : List (List ℕ)) → pieces ++ taken_by bytes answer ≡ pieces ++ list_of (piece_of bytes answer)
taken_is bytes (send.Sent count at) pieces = refl
taken_is bytes (send.Timed at) pieces = refl
taken_is bytes (send.Failed cause) pieces = refl

came_is : (came : List ℕ) (answer : RecvAnswer) (pieces : List (List ℕ)) → pieces ++ piece_by came answer ≡ pieces ++ list_of (piece_in came answer)
came_is came (recv.Got count at) pieces = refl
came_is came recv.End pieces = refl
came_is came (recv.Timed at) pieces = refl
came_is came (recv.Failed cause) pieces = refl

-- a call that moves nothing that way
quiet : (pieces : List Call → List (List ℕ)) (q : Bool) (call : Call) (calls : List Call) (all : List (List ℕ)) → pieces (call ∷ calls) ≡ pieces calls → pieces calls ≡ all → pieces (if q then call ∷ calls else calls) ≡ all ++ []
quiet pieces true call calls all e h = e ∙ h ∙ sym (append-nil all)
quiet pieces false call calls all e h = h ∙ sym (append-nil all)

sent_so : (q : Bool) (x : ℕ) (bytes : List ℕ) (until : ℕ) (answer : SendAnswer) (calls : List Call) (all : List (List ℕ)) → pieces_written calls ≡ all
    → pieces_written (if q then sends x bytes until answer ∷ calls else calls) ≡ all ++ list_of (if q then piece_of bytes answer else None)
sent_so true x bytes until answer calls all h = ap (λ v. v ++ taken_by bytes answer) h ∙ taken_is bytes answer all
sent_so false x bytes until answer calls all h = h ∙ sym (append-nil all)

came_so : (q : Bool) (x most until : ℕ) (came : List ℕ) (answer : RecvAnswer) (calls : List Call) (all : List (List ℕ)) → pieces_read calls ≡ all
    → pieces_read (if q then receives x most until came answer ∷ calls else calls) ≡ all ++ list_of (if q then piece_in came answer else None)
came_so true x most until came answer calls all h = ap (λ v. v ++ piece_by came answer) h ∙ came_is came answer all
came_so false x most until came answer calls all h = h ∙ sym (append-nil all)

pieces_are_written : (s : ℕ) (calls : List Call) → pieces_written (calls_on s calls) ≡ moved (λ call. written_by call s) calls
pieces_are_written s [] = refl
pieces_are_written s (begins at ∷ calls) = pieces_are_written s calls ∙ sym (append-nil _)
pieces_are_written s (starts leaf target answer ∷ calls) = pieces_are_written s calls ∙ sym (append-nil _)
pieces_are_written s (waits until answer ∷ calls) = pieces_are_written s calls ∙ sym (append-nil _)
pieces_are_written s (closes x ∷ calls) = quiet pieces_written (x == s) (closes x) (calls_on s calls) _ refl (pieces_are_written s calls)
pieces_are_written s (listens target answer ∷ calls) = pieces_are_written s calls ∙ sym (append-nil _)
pieces_are_written s (accepts listener until answer ∷ calls) = pieces_are_written s calls ∙ sym (append-nil _)
pieces_are_written s (sends x bytes until answer ∷ calls) = sent_so (x == s) x bytes until answer (calls_on s calls) _ (pieces_are_written s calls)
pieces_are_written s (shuts x ∷ calls) = quiet pieces_written (x == s) (shuts x) (calls_on s calls) _ refl (pieces_are_written s calls)
pieces_are_written s (receives x most until came answer ∷ calls) = quiet pieces_written (x == s) (receives x most until came answer) (calls_on s calls) _ refl (pieces_are_written s calls)

pieces_are_read : (s : ℕ) (calls : List Call) → pieces_read (calls_on s calls) ≡ moved (λ call. read_by call s) calls
pieces_are_read s [] = refl
pieces_are_read s (begins at ∷ calls) = pieces_are_read s calls ∙ sym (append-nil _)
pieces_are_read s (starts leaf target answer ∷ calls) = pieces_are_read s calls ∙ sym (append-nil _)
pieces_are_read s (waits until answer ∷ calls) = pieces_are_read s calls ∙ sym (append-nil _)
pieces_are_read s (closes x ∷ calls) = quiet pieces_read (x == s) (closes x) (calls_on s calls) _ refl (pieces_are_read s calls)
pieces_are_read s (listens target answer ∷ calls) = pieces_are_read s calls ∙ sym (append-nil _)
pieces_are_read s (accepts listener until answer ∷ calls) = pieces_are_read s calls ∙ sym (append-nil _)
pieces_are_read s (sends x bytes until answer ∷ calls) = quiet pieces_read (x == s) (sends x bytes until answer) (calls_on s calls) _ refl (pieces_are_read s calls)
pieces_are_read s (shuts x ∷ calls) = quiet pieces_read (x == s) (shuts x) (calls_on s calls) _ refl (pieces_are_read s calls)
pieces_are_read s (receives x most until came answer ∷ calls) = came_so (x == s) x most until came answer (calls_on s calls) _ (pieces_are_read s calls)

-- a socket on which a call moves bytes is named
connected_named : (t : List Item) (s : ℕ) → is_connected t s ≡ true → has (named t) s ≡ true
connected_named t s h = given_named t s (kept (λ v. not (has (closed t) v)) (given t) s (both _ _ (both _ _ h).0).0).1

named_at : (t : List Item) (x s : ℕ) (q : Bool) (o : Option (List ℕ)) (p : List ℕ) → (x == s) ≡ q → has (named t) x ≡ true → (if q then o else None) ≡ Some p → has (named t) s ≡ true
named_at t x s true o p e there h = subst (λ v. has (named t) v ≡ true) (eqb-true x s e) there
named_at t x s false o p e there h = absurd (cc)

writes_named : (s : ℕ) (call : Call) (t : List Item) (told : ℕ) (p : List ℕ) → IsLawful call t told → written_by call s ≡ Some p → has (named t) s ≡ true
writes_named s (begins at) t told p lawful h = absurd (cc)
writes_named s (starts leaf target answer) t told p lawful h = absurd (cc)
writes_named s (waits until answer) t told p lawful h = absurd (cc)
writes_named s (closes x) t told p lawful h = absurd (cc)
writes_named s (listens target answer) t told p lawful h = absurd (cc)
writes_named s (accepts listener until answer) t told p lawful h = absurd (cc)
writes_named s (sends x bytes until answer) t told p lawful h = named_at t x s (x == s) (piece_of bytes answer) p refl (connected_named t x (both _ _ lawful.may).0) h
writes_named s (shuts x) t told p lawful h = absurd (cc)
writes_named s (receives x most until came answer) t told p lawful h = absurd (cc)

reads_named : (s : ℕ) (call : Call) (t : List Item) (told : ℕ) (p : List ℕ) → IsLawful call t told → read_by call s ≡ Some p → has (named t) s ≡ true
reads_named s (begins at) t told p lawful h = absurd (cc)
reads_named s (starts leaf target answer) t told p lawful h = absurd (cc)
reads_named s (waits until answer) t told p lawful h = absurd (cc)
reads_named s (closes x) t told p lawful h = absurd (cc)
reads_named s (listens target answer) t told p lawful h = absurd (cc)
reads_named s (accepts listener until answer) t told p lawful h = absurd (cc)
reads_named s (sends x bytes until answer) t told p lawful h = absurd (cc)
reads_named s (shuts x) t told p lawful h = absurd (cc)
reads_named s (receives x most until came answer) t told p lawful h = named_at t x s (x == s) (piece_in came answer) p refl (connected_named t x (both _ _ lawful.may).0) h

-- What sockets show of a socket without traffic, after these calls, are the pieces of the calls on it.
pub observed : (before after : Net) (calls : List Call) (s : ℕ) → Shows before calls after → IsUnused (before.traffic s) → ShowsBytes (carries_stream after.trace s) (after.traffic s) (calls_on s calls)
observed before after calls s shows unused =
    let first = (before.traffic s).written in
    let second = (before.traffic s).read in
    let writes = before_piece (λ call. written_by call s) before.trace s first calls unused.none_written (so_far (λ call. written_by call s) before.trace before.told s first calls unused.none_written (writes_named s) shows.lawful) in
    let reads = before_piece (λ call. read_by call s) before.trace s second calls unused.none_read (so_far (λ call. read_by call s) before.trace before.told s second calls unused.none_read (reads_named s) shows.lawful) in
    let written : AreShown (carries_stream after.trace s) (after.traffic s).written (pieces_written (calls_on s calls)) =
    rw (shows.trace, shows.written s, written_is before.trace s calls first, pieces_are_written s calls) writes in
    let read : AreShown (carries_stream after.trace s) (after.traffic s).read (pieces_read (calls_on s calls)) =
    rw (shows.trace, shows.read s, read_is before.trace s calls second, pieces_are_read s calls) reads in
    record { written = written; read = read }

-- the close of the socket moves none
pub but_the_close : (stream : Bool) (traffic : Traffic) (s : ℕ) (calls : List Call) → ShowsBytes stream traffic (calls_on s (closes s ∷ calls)) → ShowsBytes stream traffic (calls_on s calls)
but_the_close stream traffic s calls h =
    let e : pieces_written (calls_on s (closes s ∷ calls)) ≡ pieces_written (calls_on s calls) = pieces_are_written s (closes s ∷ calls) ∙ append-nil _ ∙ sym (pieces_are_written s calls) in
    let f : pieces_read (calls_on s (closes s ∷ calls)) ≡ pieces_read (calls_on s calls) = pieces_are_read s (closes s ∷ calls) ∙ append-nil _ ∙ sym (pieces_are_read s calls) in
    record { written = subst (AreShown stream traffic.written) e h.written; read = subst (AreShown stream traffic.read) f h.read }
