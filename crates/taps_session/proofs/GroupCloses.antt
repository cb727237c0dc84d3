-- The calls of a session of a group close every socket that they give.
use Rattle.std.proofs.Common.{◌≡◌, ◌+◌, ◌++◌, ◌||◌, ℕ, zero, suc, Bool, true, false, List, [], ◌∷◌, Option, Some, None, refl, sym, ◌∙◌, ap, subst, inl, inr, append-nil, append_assoc, map}
use Rattle.std.specs.Prelude.{◌⊎◌, ◌==◌}
use Rattle.std.proofs.lemmas.Bool.{eq-eqb, eqb-true}
use Rattle.std.proofs.lemmas.List.Folds.{list_any-append}
use Rattle.taps_socket.specs.declared.item.Item.{Item}
use Rattle.taps_socket.specs.declared.item.Item.TheVariants as item
use Rattle.taps_socket.specs.declared.race_answer.RaceAnswer.{RaceAnswer}
use Rattle.taps_socket.specs.declared.race_answer.RaceAnswer.TheVariants as answer
use Rattle.taps_socket.specs.Calls.{Call, closes, items_by, items_of, AddEach}
use Rattle.taps_socket.specs.LawfulRace.{IsLawfulRace, WinnerAlone}
use Rattle.taps_socket.specs.LiveSockets.{given}
use Rattle.taps_socket.specs.Net.{Net}
use Rattle.taps_socket.specs.RaceSockets.{has, closed, started, open_sockets}
use Rattle.taps_socket.specs.RaceTrace.{IsRaceTrace, last_moment}
use Rattle.taps_socket.specs.Rules.{Rules}
use Rattle.taps_socket.specs.Shown.{items_on}
use Rattle.taps_socket.specs.Shows.{AreLawful, Shows}
use Rattle.taps_socket.specs.Once.{IsOnce}
use Rattle.taps_socket.proofs.Lists.{either, false_by, or_left, or_right}
use Rattle.taps_racer.proofs.Stretches.{closed-append, given-append, given_in_race}
use Rattle.taps_listening.proofs.Onces.{once_after}
use Rattle.taps_stack.specs.declared.target.Target.{Target}
use Rattle.taps_exchange.specs.Turns.{Place, initiate, turn_of, IsInTurn}
use Rattle.taps_framer.specs.Layers.{Layer}
use Rattle.taps_group.specs.Closes.{close_calls}
use Rattle.taps_group_exchange.specs.declared.outcome.GroupOutcome.{GroupOutcome}
use Rattle.taps_group_exchange.specs.Cloning.{CloneRace, calls_of_races, sockets_of_races, socket_by, AreCloned, AreMade, GoesOn, IsCloneRace}
use Rattle.taps_group_exchange.specs.GroupExchanges.{AreGroupItems, sockets_in}
use Rattle.taps_group_exchange.specs.GroupSessions as groups
use Rattle.taps_group_exchange.specs.GroupSessions.{GroupCourse, IsCutBehind, IsCutGroup, IsExchangeUnless, IsGroupSession, IsUndone, places_after, sockets_by}
use Rattle.taps_group_exchange.specs.Members.{GroupTerms}
use Rattle.taps_group_exchange.proofs.GroupJudging.{items_are}
use Rattle.taps_command.specs.Nets.{IsClosedOnce}
use Rattle.taps_command.specs.Ready as given_file
use Rattle.taps_session.specs.FileSessions.{rules_of, targets_of}
use Rattle.taps_session.specs.Groups.{GroupBehind, GroupedCourse, IsCutAfter, IsCutSession, IsGroupAfter, IsGroupedSession, calls_behind, calls_of}
use Rattle.taps_session.proofs.Closes.{still_open}

-- each socket that these items give is closed by them, or is among these
abbrev pub Covers : List Item → List ℕ → Type 0
Covers items sockets = (s : ℕ) → has (given items) s ≡ true → (has (closed items) s ≡ true) ⊎ (has sockets s ≡ true)

covers_none : Covers [] []
covers_none s h = inl h

has_append : (xs ys : List ℕ) (s : ℕ) → has (xs ++ ys) s ≡ (has xs s || has ys s)
has_append xs ys s = rw list_any-append refl

has_first : (xs ys : List ℕ) (s : ℕ) → has xs s ≡ true → has (xs ++ ys) s ≡ true
has_first xs ys s h = has_append xs ys s ∙ or_left (has xs s) (has ys s) h

has_last : (xs ys : List ℕ) (s : ℕ) → has ys s ≡ true → has (xs ++ ys) s ≡ true
has_last xs ys s h = has_append xs ys s ∙ or_right (has xs s) (has ys s) h

-- of items behind others
covers_on : (a b : List Item) (xs ys : List ℕ) → Covers a xs → Covers b ys → Covers (b ++ a) (xs ++ ys)
covers_on a b xs ys ha hb s h =
    let both : (has (given a) s || has (given b) s) ≡ true = sym (has_append (given a) (given b) s) ∙ subst (λ v. has v s ≡ true) (given-append b a) h in
    elim (either (has (given a) s) (has (given b) s) both) [
      | inl is ↦ elim (ha s is) [
        | inl shut ↦ inl (subst (λ v. has v s ≡ true) (sym (closed-append b a)) (has_last (closed b) (closed a) s shut))
        | inr there ↦ inr (has_first xs ys s there)
      ]
      | inr is ↦ elim (hb s is) [
        | inl shut ↦ inl (subst (λ v. has v s ≡ true) (sym (closed-append b a)) (has_first (closed b) (closed a) s shut))
        | inr there ↦ inr (has_last xs ys s there)
      ]
    ]

-- a race covers the socket of its winner
alone_is : (t : List Item) (a : RaceAnswer) (s : ℕ) → WinnerAlone a (open_sockets t) → has (open_sockets t) s ≡ true → has (socket_by a) s ≡ true
alone_is t (answer.Ready leaf x at) s alone h = subst (λ v. has v s ≡ true) alone h
alone_is t answer.NoCandidate s alone h = subst (λ v. has v s ≡ true) alone h
alone_is t answer.AllFailed s alone h = subst (λ v. has v s ≡ true) alone h
alone_is t answer.Timeout s alone h = subst (λ v. has v s ≡ true) alone h
alone_is t answer.Closed s alone h = subst (λ v. has v s ≡ true) alone h
alone_is t answer.SocketFault s alone h = subst (λ v. has v s ≡ true) alone h

by_closed : (t : List Item) (a : RaceAnswer) (s : ℕ) (q : Bool) → has (closed t) s ≡ q → WinnerAlone a (open_sockets t) → has (started t) s ≡ true → (has (closed t) s ≡ true) ⊎ (has (socket_by a) s ≡ true)
by_closed t a s true e alone h = inl e
by_closed t a s false e alone h = inr (alone_is t a s alone (still_open t s h e))

race_covers : (t : List Item) (a : RaceAnswer) → IsRaceTrace t → WinnerAlone a (open_sockets t) → Covers t (socket_by a)
race_covers t a race alone s h = by_closed t a s (has (closed t) s) refl alone (subst (λ v. has v s ≡ true) (given_in_race t race) h)

-- calls that each added one of these items
one_each : (calls : List Call) (items : List Item) → AddEach calls items → items_of calls ≡ items
one_each [] [] e = refl
one_each [] (i ∷ items) e = cc
one_each (c ∷ calls) [] e = cc
one_each (c ∷ calls) (i ∷ items) e =
    let first : items_by c ≡ i ∷ [] = cc in
    let rest : map items_by calls ≡ map (λ (i : Item). i ∷ []) items = cc in
    ap (λ v. v ++ items_of calls) first ∙ ap (λ v. i ∷ v) (one_each calls items rest)

race_calls_cover : (rules : Rules) (first : ℕ) (targets : List Target) (calls : List Call) (t : List Item) (a : RaceAnswer) → AddEach calls t → IsLawfulRace rules first targets t a → Covers (items_of calls) (socket_by a)
race_calls_cover rules first targets calls t a each lawful =
    subst (λ v. Covers v (socket_by a)) (sym (one_each calls t each)) (race_covers t a lawful.race.race_trace lawful.over.winner_alone)

-- so the races of clones cover their sockets
clones_cover : (r : CloneRace) (races : List CloneRace) → Covers (items_of r.calls) (socket_by r.answer) → Covers (items_of (calls_of_races races)) (sockets_of_races races) → Covers (items_of (calls_of_races (r ∷ races))) (sockets_of_races (r ∷ races))
clones_cover r races one more =
    subst (λ v. Covers v (socket_by r.answer ++ sockets_of_races races)) (sym (items_on r.calls (calls_of_races races)))
    (covers_on (items_of r.calls) (items_of (calls_of_races races)) (socket_by r.answer) (sockets_of_races races) one more)

of_race : (g : GroupTerms) (leaf : ℕ) (r : CloneRace) → IsCloneRace g.target leaf g.timeout r → Covers (items_of r.calls) (socket_by r.answer)
of_race g leaf r h = race_calls_cover _ leaf (g.target ∷ []) r.calls r.items r.answer h.each h.lawful

none_behind : (races : List CloneRace) → races ≡ [] → Covers (items_of (calls_of_races races)) (sockets_of_races races)
none_behind races e = subst (λ v. Covers (items_of (calls_of_races v)) (sockets_of_races v)) (sym e) covers_none

goes_cover : (a : RaceAnswer) (races : List CloneRace) (s : Option GroupOutcome) (P : Type 0) → GoesOn a races s P → (P → Covers (items_of (calls_of_races races)) (sockets_of_races races)) → Covers (items_of (calls_of_races races)) (sockets_of_races races)
goes_cover (answer.Ready leaf socket at) races s P h onward = onward h
goes_cover answer.NoCandidate races s P h onward = none_behind races h.0
goes_cover answer.AllFailed races s P h onward = none_behind races h.0
goes_cover answer.Timeout races s P h onward = none_behind races h.0
goes_cover answer.Closed races s P h onward = none_behind races h.0
goes_cover answer.SocketFault races s P h onward = none_behind races h.0

cloned_cover : (g : GroupTerms) (leaf members left : ℕ) (races : List CloneRace) (s : Option GroupOutcome) → AreCloned g leaf members left races s → Covers (items_of (calls_of_races races)) (sockets_of_races races)
cloned_cover g leaf members zero races s h = none_behind races h.0
cloned_cover g leaf members (suc left) [] s h = covers_none
cloned_cover g leaf members (suc left) (r ∷ races) s (few, (race, goes)) =
    clones_cover r races (of_race g leaf r race) (goes_cover r.answer races s (AreCloned g (leaf + 1) (members + 1) left races s) goes (λ h. cloned_cover g (leaf + 1) (members + 1) left races s h))

made_cover : (g : GroupTerms) (leaf members : ℕ) (races : List CloneRace) → AreMade g leaf members races → Covers (items_of (calls_of_races races)) (sockets_of_races races)
made_cover g leaf members [] h = covers_none
made_cover g leaf members (r ∷ races) (few, (race, (gave, more))) = clones_cover r races (of_race g leaf r race) (made_cover g (leaf + 1) (members + 1) races more)

-- the items of an exchange give no socket
none_given : (sockets : List ℕ) (items : List Item) → AreGroupItems sockets items → given items ≡ []
none_given sockets [] h = refl
none_given sockets (item.Shut x ∷ items) h = none_given sockets items h.1
none_given sockets (item.Ended x ∷ items) h = none_given sockets items h.1
none_given sockets (item.DataFailed x sending cause ∷ items) h = none_given sockets items h.1
none_given sockets (item.Began at ∷ items) h = absurd h.0.1.1
none_given sockets (item.Started leaf target x at ∷ items) h = absurd h.0.1.1
none_given sockets (item.Refused leaf target cause at ∷ items) h = absurd h.0.1.1
none_given sockets (item.Waited until at how ∷ items) h = absurd h.0.1.1
none_given sockets (item.Closed x ∷ items) h = absurd h.0.1.1
none_given sockets (item.Listening target x at ∷ items) h = absurd h.0.1.1
none_given sockets (item.NotListening target cause at ∷ items) h = absurd h.0.1.1
none_given sockets (item.Accepted listener x at ∷ items) h = absurd h.0.1.1
none_given sockets (item.Faulted at ∷ items) h = absurd h.0.1.1

turn_covers : (places : List Place) (calls : List Call) → IsInTurn (turn_of (initiate places)) calls → Covers (items_of calls) []
turn_covers places calls h s there =
    let none : given (items_of calls) ≡ [] = none_given (sockets_in places) (items_of calls) (items_are places calls h) in
    absurd (let z : false ≡ true = subst (λ v. has v s ≡ true) none there in cc)

unless_covers : (stopped : Option GroupOutcome) (places : List Place) (calls : List Call) (o : GroupOutcome) → IsExchangeUnless stopped places calls o → Covers (items_of calls) []
unless_covers (Some ended) places calls o h = subst (λ v. Covers (items_of v) []) (sym h.0) covers_none
unless_covers None places calls o (x, (is, one)) = turn_covers places calls one.in_turn

-- at a clone for which there was no memory no socket stays open
shut_at_once : (r : CloneRace) (socket : ℕ) → socket_by r.answer ≡ socket ∷ [] → Covers (items_of r.calls) (socket_by r.answer) → Covers (items_of (closes socket ∷ r.calls)) []
shut_at_once r socket only covers s h =
    elim (covers s h) [
      | inl shut ↦ inl (or_right (socket == s) (has (closed (items_of r.calls)) s) shut)
      | inr there ↦ (let one : has (socket ∷ []) s ≡ true = subst (λ v. has v s ≡ true) only there in
          elim (either (socket == s) false one) [
            | inl same ↦ inl (or_left (socket == s) (has (closed (items_of r.calls)) s) same)
            | inr never ↦ absurd (let z : false ≡ true = never in cc)
          ])
    ]

undone_covers : (g : GroupTerms) (leaf : ℕ) (calls : List Call) → IsUndone g leaf calls → Covers (items_of calls) []
undone_covers g leaf calls (inl none) = subst (λ v. Covers (items_of v) []) (sym none) covers_none
undone_covers g leaf calls (inr (r, (socket, (is, race, only)))) = subst (λ v. Covers (items_of v) []) (sym is) (shut_at_once r socket only (of_race g leaf r race))

begun_covers : (g : GroupTerms) (first at : ℕ) (clones : List CloneRace) (calls : List Call) → IsCutBehind g first at clones calls → Covers (items_of calls) []
begun_covers g first at clones calls (inl h) = undone_covers g _ calls h.1
begun_covers g first at clones calls (inr h) = turn_covers (places_after g first at clones) calls h.1

-- the closes give none, and close theirs
close_gives : (sockets : List ℕ) → given (items_of (close_calls sockets)) ≡ []
close_gives [] = refl
close_gives (s ∷ sockets) = ap given (items_on (closes s ∷ []) (close_calls sockets)) ∙ given-append (items_of (close_calls sockets)) (item.Closed s ∷ []) ∙ close_gives sockets

close_closes : (sockets : List ℕ) (s : ℕ) → has sockets s ≡ true → has (closed (items_of (close_calls sockets))) s ≡ true
close_closes [] s h = h
close_closes (x ∷ sockets) s h =
    let all : closed (items_of (close_calls (x ∷ sockets))) ≡ closed (items_of (close_calls sockets)) ++ x ∷ [] = ap closed (items_on (closes x ∷ []) (close_calls sockets)) ∙ closed-append (items_of (close_calls sockets)) (item.Closed x ∷ []) in
    let there : has (closed (items_of (close_calls sockets)) ++ x ∷ []) s ≡ true = elim (either (x == s) (has sockets s) h) [
      | inl same ↦ has_last (closed (items_of (close_calls sockets))) (x ∷ []) s (or_left (x == s) false same)
      | inr more ↦ has_first (closed (items_of (close_calls sockets))) (x ∷ []) s (close_closes sockets s more)
    ] in
    subst (λ v. has v s ≡ true) (sym all) there

-- each socket that the items of these calls give is closed by them
abbrev pub CloseAll : List Call → Type 0
CloseAll calls = (s : ℕ) → has (given (items_of calls)) s ≡ true → has (closed (items_of calls)) s ≡ true

close_all : (sockets : List ℕ) (calls : List Call) → Covers (items_of calls) sockets → CloseAll (close_calls sockets ++ calls)
close_all sockets calls covers s h =
    let ends : List Call = close_calls sockets in
    let all : items_of (ends ++ calls) ≡ items_of ends ++ items_of calls = items_on calls ends in
    let gives : given (items_of (ends ++ calls)) ≡ given (items_of calls) = ap given all ∙ given-append (items_of ends) (items_of calls) ∙ ap (λ v. given (items_of calls) ++ v) (close_gives sockets) ∙ append-nil (given (items_of calls)) in
    let shuts : closed (items_of (ends ++ calls)) ≡ closed (items_of ends) ++ closed (items_of calls) = ap closed all ∙ closed-append (items_of ends) (items_of calls) in
    let there : has (closed (items_of ends) ++ closed (items_of calls)) s ≡ true = elim (covers s (subst (λ v. has v s ≡ true) gives h)) [
      | inl shut ↦ has_last (closed (items_of ends)) (closed (items_of calls)) s shut
      | inr one ↦ has_first (closed (items_of ends)) (closed (items_of calls)) s (close_closes sockets s one)
    ] in
    subst (λ v. has v s ≡ true) (sym shuts) there

covers_calls : (a b : List Call) (xs ys : List ℕ) → Covers (items_of a) xs → Covers (items_of b) ys → Covers (items_of (b ++ a)) (xs ++ ys)
covers_calls a b xs ys ha hb = subst (λ v. Covers v (xs ++ ys)) (sym (items_on a b)) (covers_on (items_of a) (items_of b) xs ys ha hb)

-- the race, the clones' races, what follows them, and the closes of all their sockets
all_closed : (first : ℕ) (clones : List CloneRace) (raced then : List Call) → Covers (items_of raced) (first ∷ []) → Covers (items_of (calls_of_races clones)) (sockets_of_races clones) → Covers (items_of then) []
    → CloseAll ((close_calls (sockets_by first clones) ++ (then ++ calls_of_races clones)) ++ raced)
all_closed first clones raced then one more rest =
    let behind : Covers (items_of (then ++ calls_of_races clones)) (sockets_of_races clones) =
    subst (λ v. Covers (items_of (then ++ calls_of_races clones)) v) (append-nil (sockets_of_races clones)) (covers_calls (calls_of_races clones) then (sockets_of_races clones) [] more rest) in
    let all : Covers (items_of ((then ++ calls_of_races clones) ++ raced)) (first ∷ sockets_of_races clones) = covers_calls raced (then ++ calls_of_races clones) (first ∷ []) (sockets_of_races clones) one behind in
    subst CloseAll (sym (append_assoc (close_calls (sockets_by first clones)) (then ++ calls_of_races clones) raced)) (close_all (sockets_by first clones) ((then ++ calls_of_races clones) ++ raced) all)

-- without a winner the race is all
alone_closed : (raced : List Call) → Covers (items_of raced) [] → CloseAll raced
alone_closed raced covers s h = elim (covers s h) [
  | inl shut ↦ shut
  | inr never ↦ absurd (let z : false ≡ true = never in cc)
]

session_closes : (g : GroupTerms) (first at : ℕ) (c : GroupCourse) (raced : List Call) → Covers (items_of raced) (first ∷ []) → IsGroupSession g first at c → CloseAll (groups.calls_of first c ++ raced)
session_closes g first at c raced one h =
    all_closed first c.clones raced c.exchange one (cloned_cover g g.leaf 1 g.clones c.clones h.stopped h.cloned) (unless_covers h.stopped (places_after g first at c.clones) c.exchange c.outcome h.exchanged)

cut_closes : (g : GroupTerms) (first at : ℕ) (calls raced : List Call) → Covers (items_of raced) (first ∷ []) → IsCutGroup g first at calls → CloseAll (calls ++ raced)
cut_closes g first at calls raced one h =
    subst (λ v. CloseAll (v ++ raced)) (sym h.split) (all_closed first h.clones raced h.begun one (made_cover g g.leaf 1 h.clones h.made) (begun_covers g first at h.clones h.begun h.cut))

after_closes : (shelf : List Layer) (ready : given_file.Ready) (race : List Item) (raced : List Call) (behind : Option GroupBehind) (a : RaceAnswer) → Covers (items_of raced) (socket_by a) → IsGroupAfter shelf ready race behind a → CloseAll (calls_behind behind ++ raced)
after_closes shelf ready race raced None (answer.Ready leaf socket at) covers h = absurd h
after_closes shelf ready race raced (Some b) (answer.Ready leaf socket at) covers h =
    session_closes _ b.socket (last_moment race) b.course raced (subst (λ v. Covers (items_of raced) (v ∷ [])) (sym h.first) covers) h.session
after_closes shelf ready race raced behind answer.NoCandidate covers h = subst (λ v. CloseAll (calls_behind v ++ raced)) (sym h) (alone_closed raced covers)
after_closes shelf ready race raced behind answer.AllFailed covers h = subst (λ v. CloseAll (calls_behind v ++ raced)) (sym h) (alone_closed raced covers)
after_closes shelf ready race raced behind answer.Timeout covers h = subst (λ v. CloseAll (calls_behind v ++ raced)) (sym h) (alone_closed raced covers)
after_closes shelf ready race raced behind answer.Closed covers h = subst (λ v. CloseAll (calls_behind v ++ raced)) (sym h) (alone_closed raced covers)
after_closes shelf ready race raced behind answer.SocketFault covers h = subst (λ v. CloseAll (calls_behind v ++ raced)) (sym h) (alone_closed raced covers)

cut_after_closes : (shelf : List Layer) (ready : given_file.Ready) (race : List Item) (raced begun : List Call) (a : RaceAnswer) → Covers (items_of raced) (socket_by a) → IsCutAfter shelf ready race begun a → CloseAll (begun ++ raced)
cut_after_closes shelf ready race raced begun (answer.Ready leaf socket at) covers h = cut_closes _ socket (last_moment race) begun raced covers h.cut
cut_after_closes shelf ready race raced begun answer.NoCandidate covers h = subst (λ v. CloseAll (v ++ raced)) (sym h) (alone_closed raced covers)
cut_after_closes shelf ready race raced begun answer.AllFailed covers h = subst (λ v. CloseAll (v ++ raced)) (sym h) (alone_closed raced covers)
cut_after_closes shelf ready race raced begun answer.Timeout covers h = subst (λ v. CloseAll (v ++ raced)) (sym h) (alone_closed raced covers)
cut_after_closes shelf ready race raced begun answer.Closed covers h = subst (λ v. CloseAll (v ++ raced)) (sym h) (alone_closed raced covers)
cut_after_closes shelf ready race raced begun answer.SocketFault covers h = subst (λ v. CloseAll (v ++ raced)) (sym h) (alone_closed raced covers)

-- a session of a group closes every socket that it gives
pub whole_closes : (shelf : List Layer) (ready : given_file.Ready) (c : GroupedCourse) → IsGroupedSession shelf ready c → CloseAll (calls_of c)
whole_closes shelf ready c h = after_closes shelf ready c.race c.raced c.behind c.answer (race_calls_cover (rules_of ready) 0 (targets_of ready) c.raced c.race c.answer h.each h.lawful) h.group

-- so does one that memory cut short
pub cut_session_closes : (shelf : List Layer) (ready : given_file.Ready) (calls : List Call) → IsCutSession shelf ready calls → CloseAll calls
cut_session_closes shelf ready calls h =
    subst CloseAll (sym h.split) (cut_after_closes shelf ready h.race h.raced h.begun h.answer (race_calls_cover (rules_of ready) 0 (targets_of ready) h.raced h.race h.answer h.each h.lawful) h.cut)

-- so every socket is closed once, where the calls are all
pub closed_once : (before after : Net) (calls : List Call) → before.trace ≡ [] → Shows before calls after → CloseAll calls → IsClosedOnce after.trace
closed_once before after calls fresh shows all =
    let only : after.trace ≡ items_of calls = shows.trace ∙ ap (λ v. items_of calls ++ v) fresh ∙ append-nil (items_of calls) in
    let once : IsOnce (closed (items_of calls ++ before.trace)) = once_after before.trace before.told calls shows.lawful (subst (λ v. IsOnce (closed v)) (sym fresh) tt) in
    record {
      all = λ s there. subst (λ v. has (closed v) s ≡ true) (sym only) (all s (subst (λ v. has (given v) s ≡ true) only there));
      once = subst (λ v. IsOnce (closed v)) (sym shows.trace) once;
    }

-- the sockets of which each is closed in turn are distinct
unlike : (x s : ℕ) → (s == x) ≡ false → (x == s) ≡ false
unlike x s e = false_by (x == s) (λ is. (let same : x ≡ s = eqb-true x s is in let z : true ≡ false = sym (eq-eqb s x (sym same)) ∙ e in cc))

first_not : (a b : Bool) → (a || b) ≡ false → a ≡ false
first_not false b h = refl
first_not true b h = h

last_not : (a b : Bool) → (a || b) ≡ false → b ≡ false
last_not false b h = h
last_not true b h = cc

apart : (xs ys : List ℕ) (s : ℕ) → IsOnce (xs ++ s ∷ ys) → has xs s ≡ false
apart [] ys s h = refl
apart (x ∷ xs) ys s h =
    let others : (has xs x || has (s ∷ ys) x) ≡ false = sym (has_append xs (s ∷ ys) x) ∙ h.0 in
    let one : (s == x) ≡ false = first_not (s == x) (has ys x) (last_not (has xs x) (has (s ∷ ys) x) others) in
    rw (unlike x s one, apart xs ys s h.1) refl

abbrev shuts : List ℕ → List ℕ
shuts sockets = closed (items_of (close_calls sockets))

shuts_more : (s : ℕ) (sockets : List ℕ) → shuts (s ∷ sockets) ≡ shuts sockets ++ s ∷ []
shuts_more s sockets = ap closed (items_on (closes s ∷ []) (close_calls sockets)) ∙ closed-append (items_of (close_calls sockets)) (item.Closed s ∷ [])

once_each : (sockets ys : List ℕ) → IsOnce (shuts sockets ++ ys) → IsOnce sockets
once_each [] ys h = tt
once_each (s ∷ sockets) ys h =
    let all : IsOnce (shuts sockets ++ (s ∷ ys)) = subst IsOnce (ap (λ v. v ++ ys) (shuts_more s sockets) ∙ append_assoc (shuts sockets) (s ∷ []) ys) h in
    (false_by (has sockets s) (λ there. (let z : true ≡ false = sym (close_closes sockets s there) ∙ apart (shuts sockets) ys s all in cc)), once_each sockets (s ∷ ys) all)

pub distinct : (t : List Item) (told : ℕ) (sockets : List ℕ) (calls : List Call) → AreLawful t told (close_calls sockets ++ calls) → IsOnce (closed t) → IsOnce sockets
distinct t told sockets calls lawful once =
    let all : List Call = close_calls sockets ++ calls in
    let behind : IsOnce (closed (items_of all ++ t)) = once_after t told all lawful once in
    let parted : closed (items_of all ++ t) ≡ shuts sockets ++ closed (items_of calls ++ t) =
    ap (λ v. closed (v ++ t)) (items_on calls (close_calls sockets)) ∙ ap closed (append_assoc (items_of (close_calls sockets)) (items_of calls) t) ∙ closed-append (items_of (close_calls sockets)) (items_of calls ++ t) in
    once_each sockets (closed (items_of calls ++ t)) (subst IsOnce parted behind)
