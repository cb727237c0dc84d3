-- The winner of a race in memory is the first that was started, and so the connection that is accepted first is its own.
use Rattle.std.proofs.Common.{◌≡◌, ℕ, Bool, true, false, not, ◌&&◌, ◌||◌, if◌then◌else◌, List, [], ◌∷◌, ◌++◌, length, Option, None, Some, refl, ap, sym, subst, ◌∙◌, arith, eq-eqb}
use Rattle.std.specs.Prelude.{◌==◌, ◌^◌, nat_lt, max, filter, option_map, unwrap_or}
use Rattle.std.specs.List.{list_any}
use Rattle.std.specs.Option.{option_or, option_map_or}
use Rattle.std.proofs.lemmas.Bool.{eqb-true}
use Rattle.std.proofs.lemmas.List.Folds.{list_any-append}
use Rattle.taps_stack.specs.declared.target.Target.{Target}
use Rattle.taps_stack.specs.StackTable.{is_stream}
use Rattle.taps_socket.specs.declared.cause.Cause.{Cause}
use Rattle.taps_socket.specs.declared.cause.Cause.TheVariants as cause
use Rattle.taps_socket.specs.declared.answers.StartAnswer.TheVariants as start
use Rattle.taps_socket.specs.declared.answers.WaitAnswer.{WaitAnswer}
use Rattle.taps_socket.specs.declared.answers.ListenAnswer.TheVariants as listen
use Rattle.taps_socket.specs.declared.answers.AcceptAnswer.TheVariants as accept
use Rattle.taps_socket.specs.declared.answers.SendAnswer.TheVariants as send
use Rattle.taps_socket.specs.declared.answers.RecvAnswer.TheVariants as recv
use Rattle.taps_socket.specs.declared.item.How.{How}
use Rattle.taps_socket.specs.declared.item.How.TheVariants as how
use Rattle.taps_socket.specs.declared.item.Item.{Item}
use Rattle.taps_socket.specs.declared.item.Item.TheVariants as item
use Rattle.taps_socket.specs.declared.race_answer.RaceAnswer.{RaceAnswer}
use Rattle.taps_socket.specs.declared.race_answer.RaceAnswer.TheVariants as answers
use Rattle.taps_socket.specs.Calls.{Call, begins, starts, waits, closes, listens, accepts, sends, shuts, receives, request_of, items_by, items_of, AddEach}
use Rattle.taps_socket.specs.LawfulRace.{Each, MayClose, AttemptsWhenDue, WaitsWhenNothingDue, ClosesInOrder}
use Rattle.taps_socket.specs.Over.{over, failure, is_cancelled, is_timed_out, has_failed}
use Rattle.taps_socket.specs.RaceSockets.{has, started, completed, broke, closed, open_sockets, pending_sockets, broken_sockets}
use Rattle.taps_socket.specs.RaceTrace.{IsRaceTrace, last_moment}
use Rattle.taps_socket.specs.Rules.{Rules}
use Rattle.taps_socket.specs.Standing.{Standing, standing}
use Rattle.taps_socket.specs.Winner.{ready}
use Rattle.taps_memory.specs.declared.listening.Listening.{Listening}
use Rattle.taps_memory.specs.Joined.{Ends, awaits, met_by, connections, is_socket, are_ends, AreJoinedReliably}
use Rattle.taps_memory.specs.Listeners.{live_listeners, listener_among, listener_on}
use Rattle.taps_memory.specs.MemoryAnswers.{Setting, State, is_to_fault, start_to, start_answer, wait_by, wait_answer}
use Rattle.taps_memory.specs.MemorySteps.{listener_for, answer_to, state_after, Follows}
use Rattle.taps_memory.specs.Memory.{Memory, net_of}
use Rattle.taps_memory.specs.Met.{MeetInMemory, IsAcceptedBehindRace, JoinsWinner}
use Rattle.taps_memory.specs.Pairs.{change_first}
use Rattle.taps_memory.specs.Targets.{same_target}
use Rattle.taps_memory.proofs.Pending.{closed_pending}

-- the trace that calls made
pub trace_of : (set : Setting) (calls : List Call) → (state_after set calls).trace ≡ items_of calls
trace_of set [] = refl
trace_of set (call ∷ calls) = ap (λ v. items_by call ++ v) (trace_of set calls)

-- once a race without a winner is over, a close leaves it over
chain_stays : (f c t z d d' : Bool) (a : RaceAnswer) → (d ≡ true → d' ≡ true) →
    (if f then Some answers.SocketFault else if c then Some answers.Closed else if t then Some answers.Timeout else if z then Some answers.NoCandidate else if d then Some answers.AllFailed else None) ≡ Some a →
    (if f then Some answers.SocketFault else if c then Some answers.Closed else if t then Some answers.Timeout else if z then Some answers.NoCandidate else if d' then Some answers.AllFailed else None) ≡ None → ⊥
chain_stays true c t z d d' a still h g = cc
chain_stays false true t z d d' a still h g = cc
chain_stays false false true z d d' a still h g = cc
chain_stays false false false true d d' a still h g = cc
chain_stays false false false false true true a still h g = cc
chain_stays false false false false true false a still h g = (let s = still refl in cc)
chain_stays false false false false false d' a still h g = cc

none_left : (s : ℕ) (pending : List ℕ) → (length pending == 0) ≡ true → (length (filter (λ x. not (s == x)) pending) == 0) ≡ true
none_left s [] h = refl
none_left s (x ∷ pending) h = absurd (let e : length (x ∷ pending) ≡ 0 = eqb-true (length (x ∷ pending)) 0 h in omega arith)

fails_still : (attempted : Bool) (s : ℕ) (pending pending' : List ℕ) → pending' ≡ filter (λ x. not (s == x)) pending → (attempted && (length pending == 0)) ≡ true → (attempted && (length pending' == 0)) ≡ true
fails_still true s pending pending' e h = subst (λ (v : List ℕ). (length v == 0) ≡ true) (sym e) (none_left s pending h)
fails_still false s pending pending' e h = cc

no_winner : (w : Option RaceAnswer) (fail : Option RaceAnswer) (a : Option RaceAnswer) → w ≡ None → option_or w fail ≡ a → fail ≡ a
no_winner None fail a e h = h
no_winner (Some b) fail a e h = cc

over_stays : (rules : Rules) (r : List Item) (s : ℕ) (a : RaceAnswer) → ready r ≡ None → over rules (standing r) ≡ Some a → over rules (standing (item.Closed s ∷ r)) ≡ None → ⊥
over_stays rules r s a unready h g =
    let now : Standing = standing (item.Closed s ∷ r) in
    let last : max 0 (last_moment r) ≡ last_moment r = omega arith in
    let before : failure rules (standing r) ≡ Some a = no_winner (ready r) (failure rules (standing r)) (Some a) unready h in
    let after : failure rules now ≡ None = no_winner (ready r) (failure rules now) None unready g in
    let same : failure rules (record now { last = last_moment r }) ≡ None = ap (λ v. failure rules (record now { last = v })) (sym last) ∙ after in
    chain_stays (standing r).faulted (is_cancelled rules (standing r)) (is_timed_out rules (standing r)) (length rules.gaps == 0) (has_failed rules (standing r)) (has_failed rules now) a
    (fails_still ((standing r).attempts == length rules.gaps) s (pending_sockets r) (pending_sockets (item.Closed s ∷ r)) (closed_pending r s)) before same

-- the call that added an item
pub started_call : (c : Call) (leaf : ℕ) (target : Target) (s at : ℕ) → items_by c ≡ item.Started leaf target s at ∷ [] → c ≡ starts leaf target (start.Started s at)
started_call (begins t) leaf target s at e = cc
started_call (starts l g (start.Started x t)) leaf target s at e = cc
started_call (starts l g (start.Refused cause t)) leaf target s at e = cc
started_call (waits u a) leaf target s at e = cc
started_call (closes x) leaf target s at e = cc
started_call (listens g (listen.Listening x t)) leaf target s at e = cc
started_call (listens g (listen.Refused cause t)) leaf target s at e = cc
started_call (accepts l u (accept.Accepted x t)) leaf target s at e = cc
started_call (accepts l u (accept.Timed t)) leaf target s at e = cc
started_call (accepts l u (accept.Faulted t)) leaf target s at e = cc
started_call (sends x b u (send.Sent n t)) leaf target s at e = cc
started_call (sends x b u (send.Timed t)) leaf target s at e = cc
started_call (sends x b u (send.Failed cause)) leaf target s at e = cc
started_call (shuts x) leaf target s at e = cc
started_call (receives x m u b (recv.Got n t)) leaf target s at e = cc
started_call (receives x m u b recv.End) leaf target s at e = cc
started_call (receives x m u b (recv.Timed t)) leaf target s at e = cc
started_call (receives x m u b (recv.Failed cause)) leaf target s at e = cc

record IsWaitOf (c : Call) (until : ℕ) (end : How) : Type 0 where
  answer : WaitAnswer
  is : c ≡ waits until answer
  ended : answer.how ≡ end

waited_call : (c : Call) (until at : ℕ) (end : How) → items_by c ≡ item.Waited until at end ∷ [] → IsWaitOf c until end
waited_call (begins t) until at end e = cc
waited_call (starts l g (start.Started x t)) until at end e = cc
waited_call (starts l g (start.Refused cause t)) until at end e = cc
waited_call (waits u a) until at end e = (let z : u ≡ until = cc in record { answer = a; is = ap (λ v. waits v a) z; ended = cc })
waited_call (closes x) until at end e = cc
waited_call (listens g (listen.Listening x t)) until at end e = cc
waited_call (listens g (listen.Refused cause t)) until at end e = cc
waited_call (accepts l u (accept.Accepted x t)) until at end e = cc
waited_call (accepts l u (accept.Timed t)) until at end e = cc
waited_call (accepts l u (accept.Faulted t)) until at end e = cc
waited_call (sends x b u (send.Sent n t)) until at end e = cc
waited_call (sends x b u (send.Timed t)) until at end e = cc
waited_call (sends x b u (send.Failed cause)) until at end e = cc
waited_call (shuts x) until at end e = cc
waited_call (receives x m u b (recv.Got n t)) until at end e = cc
waited_call (receives x m u b recv.End) until at end e = cc
waited_call (receives x m u b (recv.Timed t)) until at end e = cc
waited_call (receives x m u b (recv.Failed cause)) until at end e = cc

-- what a wait in memory ends with: no socket breaks, and the first pending one completes
abbrev pub IsEndOfWait : List ℕ → How → Type 0
IsEndOfWait pending how.Reached = Unit {0}
IsEndOfWait pending (how.Completed socket) = (others : List ℕ) × (pending ≡ socket ∷ others)
IsEndOfWait pending (how.Broke socket cause) = ⊥
IsEndOfWait pending how.Faulted = Unit {0}

idle_ends : (late : Bool) (pending : List ℕ) (reached faulted : WaitAnswer) → reached.how ≡ how.Reached → faulted.how ≡ how.Faulted → IsEndOfWait pending (if late then reached else faulted).how
idle_ends true pending reached faulted e g = subst (IsEndOfWait pending) (sym e) tt
idle_ends false pending reached faulted e g = subst (IsEndOfWait pending) (sym g) tt

wait_ends : (clock until : ℕ) (pending : List ℕ) → IsEndOfWait pending (wait_by clock until pending).how
wait_ends clock until [] = idle_ends (nat_lt until (2 ^ 63)) [] (record { at = max clock until; how = how.Reached }) (record { at = clock; how = how.Faulted }) refl refl
wait_ends clock until (socket ∷ others) = (others, refl)

answer_ends : (fault : Bool) (pending : List ℕ) (faulted going : WaitAnswer) → faulted.how ≡ how.Faulted → IsEndOfWait pending going.how → IsEndOfWait pending (if fault then faulted else going).how
answer_ends true pending faulted going e h = subst (IsEndOfWait pending) (sym e) tt
answer_ends false pending faulted going e h = h

-- a race behind a listener, which is all that came before it
module _ (set : Setting) (rules : Rules) (target : Target) (listener since : ℕ) where
  abbrev pub listened : Item
  listened = item.Listening target listener since

  abbrev pub behind : List Item → List Item
  behind r = r ++ listened ∷ []

  abbrev pub base : List Call
  base = listens target (listen.Listening listener since) ∷ []

  -- the calls of a race so far, which each added one of these items, by the rules
  pub record IsRacing (calls : List Call) (r : List Item) : Type 0 where
    pub each : AddEach calls r
    pub follows : Follows set (calls ++ base)
    pub race_trace : IsRaceTrace r
    pub attempts : Each (AttemptsWhenDue rules) r
    pub waits_so : Each (WaitsWhenNothingDue rules) r
    pub closes_so : Each (ClosesInOrder rules) r

  items_behind : (calls : List Call) (r : List Item) → AddEach calls r → items_of (calls ++ base) ≡ behind r
  items_behind [] [] e = refl
  items_behind [] (i ∷ r) e = cc
  items_behind (c ∷ calls) [] e = cc
  items_behind (c ∷ calls) (i ∷ r) e =
      let one : items_by c ≡ i ∷ [] = cc in
      let others : AddEach calls r = cc in
      ap (λ v. v ++ items_of (calls ++ base)) one ∙ ap (λ v. i ∷ v) (items_behind calls r others)

  pub trace_behind : (calls : List Call) (r : List Item) → AddEach calls r → (state_after set (calls ++ base)).trace ≡ behind r
  trace_behind calls r e = trace_of set (calls ++ base) ∙ items_behind calls r e

  -- no socket was started; or the first one began the first connection
  pub data First (trace : List Item) : Type 0 where
    none : started trace ≡ [] → connections trace ≡ [] → First trace
    one : (s : ℕ) (others : List ℕ) (more : List Ends) → started trace ≡ s ∷ others →
        connections trace ≡ record { listener = listener; starter = Some s; acceptor = None } ∷ more → First trace

  -- nothing completed, broke or was closed
  pub record IsQuiet (r : List Item) : Type 0 where
    pub none_broke : broke r ≡ []
    pub completed_none : completed (behind r) ≡ []
    pub broke_none : broke (behind r) ≡ []
    pub closed_none : closed (behind r) ≡ []
    pub listening : live_listeners (behind r) ≡ record { socket = listener; target = target } ∷ []
    pub first : First (behind r)

  -- a start for which a socket listens
  among_by : (t : Bool) (here : Listening) (l : ℕ) → option_map (λ (v : Listening). v.socket) (if t then Some here else None) ≡ Some l → l ≡ here.socket
  among_by true here l e = cc
  among_by false here l e = cc

  listener_found : (r : List Item) (g : Target) (l : ℕ) → live_listeners (behind r) ≡ record { socket = listener; target = target } ∷ [] → listener_on (behind r) g ≡ Some l → l ≡ listener
  listener_found r g l e h =
      let here : Listening = record { socket = listener; target = target } in
      among_by (same_target g target) here l (ap (λ v. listener_among v g) (sym e) ∙ h)

  started_by : (st : State) (o : Option ℕ) (s at : ℕ) → start_to set st o ≡ start.Started s at → (l : ℕ) × (o ≡ Some l)
  started_by st None s at e = cc
  started_by st (Some l) s at e = (l, refl)

  started_over : (st : State) (o : Option ℕ) (stream : Bool) (s at : ℕ) → (if stream then start_to set st o else start.Refused cause.Refused st.clock) ≡ start.Started s at → (l : ℕ) × (o ≡ Some l)
  started_over st o true s at e = started_by st o s at e
  started_over st o false s at e = cc

  start_heard : (calls : List Call) (r : List Item) (c : Call) (leaf : ℕ) (g : Target) (s at : ℕ) → AddEach calls r → IsQuiet r → items_by c ≡ item.Started leaf g s at ∷ [] →
      c ≡ answer_to set (state_after set (calls ++ base)) (request_of c) → listener_for (behind r) g ≡ listener
  start_heard calls r c leaf g s at each q e f =
      let st : State = state_after set (calls ++ base) in
      let is : c ≡ starts leaf g (start.Started s at) = started_call c leaf g s at e in
      let answered : starts leaf g (start.Started s at) ≡ starts leaf g (start_answer set st g) = sym is ∙ (f ∙ ap (λ v. answer_to set st (request_of v)) is) in
      let same : start_answer set st g ≡ start.Started s at = cc in
      let l = started_over st (listener_on st.trace g) (is_stream g.stack) s at same in
      let here : listener_on (behind r) g ≡ Some l.0 = ap (λ v. listener_on v g) (sym (trace_behind calls r each)) ∙ l.1 in
      ap (λ o. unwrap_or o 0) here ∙ listener_found r g l.0 q.listening here

  first_more : (r : List Item) (leaf : ℕ) (g : Target) (s at : ℕ) → listener_for (behind r) g ≡ listener → First (behind r) → First (item.Started leaf g s at ∷ behind r)
  first_more r leaf g s at heard (none a b) =
      one s [] [] (ap (λ (v : List ℕ). v ++ s ∷ []) a)
      (ap (λ (v : List Ends). v ++ record { listener = listener_for (behind r) g; starter = Some s; acceptor = None } ∷ []) b
      ∙ ap (λ n. record { listener = n; starter = Some s; acceptor = None } ∷ []) heard)
  first_more r leaf g s at heard (one t others more a b) =
      one t (others ++ s ∷ []) (more ++ record { listener = listener_for (behind r) g; starter = Some s; acceptor = None } ∷ [])
      (ap (λ (v : List ℕ). v ++ s ∷ []) a)
      (ap (λ (v : List Ends). v ++ record { listener = listener_for (behind r) g; starter = Some s; acceptor = None } ∷ []) b)

  quiet_started : (r : List Item) (leaf : ℕ) (g : Target) (s at : ℕ) → listener_for (behind r) g ≡ listener → IsQuiet r → IsQuiet (item.Started leaf g s at ∷ r)
  quiet_started r leaf g s at heard q =
      record {
        none_broke = q.none_broke;
        completed_none = q.completed_none;
        broke_none = q.broke_none;
        closed_none = q.closed_none;
        listening = q.listening;
        first = first_more r leaf g s at heard q.first;
      }

  first_refused : (r : List Item) (leaf : ℕ) (g : Target) (cause : Cause) (at : ℕ) → First (behind r) → First (item.Refused leaf g cause at ∷ behind r)
  first_refused r leaf g cause at (none a b) = none a b
  first_refused r leaf g cause at (one s others more a b) = one s others more a b

  quiet_refused : (r : List Item) (leaf : ℕ) (g : Target) (cause : Cause) (at : ℕ) → IsQuiet r → IsQuiet (item.Refused leaf g cause at ∷ r)
  quiet_refused r leaf g cause at q =
      record {
        none_broke = q.none_broke;
        completed_none = q.completed_none;
        broke_none = q.broke_none;
        closed_none = q.closed_none;
        listening = q.listening;
        first = first_refused r leaf g cause at q.first;
      }

  first_waited : (r : List Item) (until at : ℕ) (end : How) → First (behind r) → First (item.Waited until at end ∷ behind r)
  first_waited r until at end (none a b) = none a b
  first_waited r until at end (one s others more a b) = one s others more a b

  quiet_waited : (r : List Item) (until at : ℕ) (end : How) (pending : List ℕ) → IsEndOfWait pending end → ready (item.Waited until at end ∷ r) ≡ None → IsQuiet r → IsQuiet (item.Waited until at end ∷ r)
  quiet_waited r until at how.Reached pending h e q =
      record {
        none_broke = q.none_broke;
        completed_none = q.completed_none;
        broke_none = q.broke_none;
        closed_none = q.closed_none;
        listening = q.listening;
        first = first_waited r until at how.Reached q.first;
      }
  quiet_waited r until at (how.Completed s) pending h e q = absurd (some_ready (ready r) _ e)
    where
      some_ready : (o : Option RaceAnswer) (a : RaceAnswer) → option_or o (Some a) ≡ None → ⊥
      some_ready None a h = cc
      some_ready (Some b) a h = cc
  quiet_waited r until at (how.Broke s cause) pending h e q = absurd h
  quiet_waited r until at how.Faulted pending h e q =
      record {
        none_broke = q.none_broke;
        completed_none = q.completed_none;
        broke_none = q.broke_none;
        closed_none = q.closed_none;
        listening = q.listening;
        first = first_waited r until at how.Faulted q.first;
      }

  -- a wait ends as memory lets it
  pub wait_end : (calls : List Call) (r : List Item) (c : Call) (until at : ℕ) (end : How) → AddEach calls r → items_by c ≡ item.Waited until at end ∷ [] →
      c ≡ answer_to set (state_after set (calls ++ base)) (request_of c) → IsEndOfWait (pending_sockets (behind r)) end
  wait_end calls r c until at end each e f =
      let st : State = state_after set (calls ++ base) in
      let w = waited_call c until at end e in
      let answered : waits until w.answer ≡ waits until (wait_answer set st until) = sym w.is ∙ (f ∙ ap (λ v. answer_to set st (request_of v)) w.is) in
      let same : w.answer ≡ wait_answer set st until = cc in
      let ends : IsEndOfWait (pending_sockets st.trace) (wait_answer set st until).how =
      answer_ends (is_to_fault set.plan st.turns) (pending_sockets st.trace) (record { at = st.clock; how = how.Faulted }) (wait_by st.clock until (pending_sockets st.trace)) refl (wait_ends st.clock until (pending_sockets st.trace)) in
      let here : (wait_answer set st until).how ≡ end = ap (λ (v : WaitAnswer). v.how) (sym same) ∙ w.ended in
      subst (λ v. IsEndOfWait (pending_sockets v) end) (trace_behind calls r each) (subst (IsEndOfWait (pending_sockets st.trace)) here ends)

  -- no socket is closed
  none_broken : (sockets : List ℕ) → filter (has []) sockets ≡ []
  none_broken [] = refl
  none_broken (s ∷ sockets) = none_broken sockets

  not_closed : (r : List Item) (s : ℕ) (o : Option RaceAnswer) → over rules (standing r) ≡ o → MayClose o (standing r) s → ready r ≡ None → over rules (standing (item.Closed s ∷ r)) ≡ None →
      (over rules (standing r) ≡ None → IsQuiet r) → ⊥
  not_closed r s None is may unready e q =
      let none : broken_sockets r ≡ [] = ap (λ v. filter (has v) (open_sockets r)) (q is).none_broke ∙ none_broken (open_sockets r) in
      let z : false ≡ true = ap (λ v. has v s) (sym none) ∙ may in
      cc
  not_closed r s (Some a) is may unready e q = over_stays rules r s a unready is e

  pub tail_of : (c : Call) (calls : List Call) (i : Item) (r : List Item) → IsRacing (c ∷ calls) (i ∷ r) → IsRaceTrace r → IsRacing calls r
  tail_of c calls i r k t =
      record {
        each = (let e = k.each in cc);
        follows = k.follows.1;
        race_trace = t;
        attempts = k.attempts.1;
        waits_so = k.waits_so.1;
        closes_so = k.closes_so.1;
      }

  pub head_of : (c : Call) (calls : List Call) (i : Item) (r : List Item) → IsRacing (c ∷ calls) (i ∷ r) → items_by c ≡ i ∷ []
  head_of c calls i r k = (let e = k.each in cc)

  -- before the first completion, while the race goes on
  pub quiet : (calls : List Call) (r : List Item) → IsRacing calls r → ready r ≡ None → over rules (standing r) ≡ None → IsQuiet r
  quiet calls [] k e o = absurd k.race_trace
  quiet [] (i ∷ r) k e o = (let z = k.each in cc)
  quiet (c ∷ calls) (item.Began at ∷ r) k e o =
      subst (λ v. IsQuiet (item.Began at ∷ v)) (sym k.race_trace)
      (record { none_broke = refl; completed_none = refl; broke_none = refl; closed_none = refl; listening = refl; first = none refl refl })
  quiet (c ∷ calls) (item.Started leaf g s at ∷ r) k e o =
      let before = tail_of c calls (item.Started leaf g s at) r k k.race_trace in
      let q = quiet calls r before e k.attempts.0.not_over in
      quiet_started r leaf g s at (start_heard calls r c leaf g s at before.each q (head_of c calls (item.Started leaf g s at) r k) k.follows.0) q
  quiet (c ∷ calls) (item.Refused leaf g cause at ∷ r) k e o =
      quiet_refused r leaf g cause at (quiet calls r (tail_of c calls (item.Refused leaf g cause at) r k k.race_trace) e k.attempts.0.not_over)
  quiet (c ∷ calls) (item.Waited until at end ∷ r) k e o =
      let before = tail_of c calls (item.Waited until at end) r k k.race_trace in
      let ends = wait_end calls r c until at end before.each (head_of c calls (item.Waited until at end) r k) k.follows.0 in
      quiet_waited r until at end (pending_sockets (behind r)) ends e (quiet calls r before (none_before (ready r) end e) k.waits_so.0.not_over)
    where
      none_before : (w : Option RaceAnswer) (h : How) → ready (item.Waited until at h ∷ r) ≡ None → ready r ≡ None
      none_before w how.Reached e = e
      none_before w (how.Completed s) e = or_none (ready r) (ready r) refl _ e
        where
          or_none : (w v : Option RaceAnswer) → v ≡ w → (a : Option RaceAnswer) → option_or w a ≡ None → v ≡ None
          or_none None v is a h = is
          or_none (Some b) v is a h = cc
      none_before w (how.Broke s cause) e = e
      none_before w how.Faulted e = e
  quiet (c ∷ calls) (item.Closed s ∷ r) k e o =
      absurd (not_closed r s (over rules (standing r)) refl k.closes_so.0 e o (quiet calls r (tail_of c calls (item.Closed s) r k k.race_trace) e))
  quiet (c ∷ calls) (item.Listening g s at ∷ r) k e o = absurd k.race_trace
  quiet (c ∷ calls) (item.NotListening g cause at ∷ r) k e o = absurd k.race_trace
  quiet (c ∷ calls) (item.Accepted l s at ∷ r) k e o = absurd k.race_trace
  quiet (c ∷ calls) (item.Faulted at ∷ r) k e o = absurd k.race_trace
  quiet (c ∷ calls) (item.Shut s ∷ r) k e o = absurd k.race_trace
  quiet (c ∷ calls) (item.Ended s ∷ r) k e o = absurd k.race_trace
  quiet (c ∷ calls) (item.DataFailed s sending cause ∷ r) k e o = absurd k.race_trace

  -- the socket began the first connection, which was not accepted
  record BeganFirst (trace : List Item) (s : ℕ) : Type 0 where
    more : List Ends
    is : connections trace ≡ record { listener = listener; starter = Some s; acceptor = None } ∷ more

  all_kept : (sockets : List ℕ) → filter (λ s. true) sockets ≡ sockets
  all_kept [] = refl
  all_kept (s ∷ sockets) = ap (λ (v : List ℕ). s ∷ v) (all_kept sockets)

  pub pending_quiet : (r : List Item) → IsQuiet r → pending_sockets (behind r) ≡ started (behind r)
  pending_quiet r q =
      ap (λ v. filter (λ s. not (has v s || has (broke (behind r)) s)) (open_sockets (behind r))) q.completed_none
      ∙ (ap (λ v. filter (λ s. not (has v s)) (open_sockets (behind r))) q.broke_none
      ∙ (all_kept (open_sockets (behind r)) ∙ (ap (λ v. filter (λ s. not (has v s)) (started (behind r))) q.closed_none ∙ all_kept (started (behind r)))))

  first_won : (trace : List Item) (s : ℕ) (others : List ℕ) → started trace ≡ s ∷ others → First trace → BeganFirst trace s
  first_won trace s others e (none a b) = (let z : s ∷ others ≡ [] = sym e ∙ a in cc)
  first_won trace s others e (one t rest more a b) =
      let z : t ∷ rest ≡ s ∷ others = sym a ∙ e in
      let same : t ≡ s = cc in
      record { more = more; is = b ∙ ap (λ v. record { listener = listener; starter = Some v; acceptor = None } ∷ more) same }

  -- the winner of a race began the first connection
  by_ready : (r : List Item) (until t s : ℕ) (w : Option RaceAnswer) (place leaf from at : ℕ) → ready r ≡ w → option_or w (Some (answers.Ready place s t)) ≡ Some (answers.Ready leaf from at) →
      (ready r ≡ None → BeganFirst (behind r) s) → (ready r ≡ Some (answers.Ready leaf from at) → BeganFirst (behind r) from) → BeganFirst (behind r) from
  by_ready r until t s None place leaf from at is e won others =
      let z : answers.Ready place s t ≡ answers.Ready leaf from at = cc in
      let same : s ≡ from = cc in
      subst (BeganFirst (behind r)) same (won is)
  by_ready r until t s (Some a) place leaf from at is e won others = others (is ∙ e)

  wins : (calls : List Call) (r : List Item) (leaf from at : ℕ) → IsRacing calls r → ready r ≡ Some (answers.Ready leaf from at) → BeganFirst (behind r) from
  wins calls [] leaf from at k e = absurd k.race_trace
  wins [] (i ∷ r) leaf from at k e = (let z = k.each in cc)
  wins (c ∷ calls) (item.Began t ∷ r) leaf from at k e =
      (let z : ready [] ≡ Some (answers.Ready leaf from at) = ap ready (sym k.race_trace) ∙ e in cc)
  wins (c ∷ calls) (item.Started l g s t ∷ r) leaf from at k e =
      let h = wins calls r leaf from at (tail_of c calls (item.Started l g s t) r k k.race_trace) e in
      let new : List Ends = record { listener = listener_for (behind r) g; starter = Some s; acceptor = None } ∷ [] in
      record { more = h.more ++ new; is = ap (λ (v : List Ends). v ++ new) h.is }
  wins (c ∷ calls) (item.Refused l g cause t ∷ r) leaf from at k e =
      let h = wins calls r leaf from at (tail_of c calls (item.Refused l g cause t) r k k.race_trace) e in
      record { more = h.more; is = h.is }
  wins (c ∷ calls) (item.Waited until t how.Reached ∷ r) leaf from at k e =
      let h = wins calls r leaf from at (tail_of c calls (item.Waited until t how.Reached) r k k.race_trace) e in
      record { more = h.more; is = h.is }
  wins (c ∷ calls) (item.Waited until t (how.Completed s) ∷ r) leaf from at k e =
      let before = tail_of c calls (item.Waited until t (how.Completed s)) r k k.race_trace in
      let ends = wait_end calls r c until t (how.Completed s) before.each (head_of c calls (item.Waited until t (how.Completed s)) r k) k.follows.0 in
      let h = by_ready r until t s (ready r) _ leaf from at refl e
      (λ none. (let q = quiet calls r before none k.waits_so.0.not_over in first_won (behind r) s ends.0 (sym (pending_quiet r q) ∙ ends.1) q.first))
      (wins calls r leaf from at before) in
      record { more = h.more; is = h.is }
  wins (c ∷ calls) (item.Waited until t (how.Broke s cause) ∷ r) leaf from at k e =
      let h = wins calls r leaf from at (tail_of c calls (item.Waited until t (how.Broke s cause)) r k k.race_trace) e in
      record { more = h.more; is = h.is }
  wins (c ∷ calls) (item.Waited until t how.Faulted ∷ r) leaf from at k e =
      let h = wins calls r leaf from at (tail_of c calls (item.Waited until t how.Faulted) r k k.race_trace) e in
      record { more = h.more; is = h.is }
  wins (c ∷ calls) (item.Closed s ∷ r) leaf from at k e =
      let h = wins calls r leaf from at (tail_of c calls (item.Closed s) r k k.race_trace) e in
      record { more = h.more; is = h.is }
  wins (c ∷ calls) (item.Listening g s t ∷ r) leaf from at k e = absurd k.race_trace
  wins (c ∷ calls) (item.NotListening g cause t ∷ r) leaf from at k e = absurd k.race_trace
  wins (c ∷ calls) (item.Accepted l s t ∷ r) leaf from at k e = absurd k.race_trace
  wins (c ∷ calls) (item.Faulted t ∷ r) leaf from at k e = absurd k.race_trace
  wins (c ∷ calls) (item.Shut s ∷ r) leaf from at k e = absurd k.race_trace
  wins (c ∷ calls) (item.Ended s ∷ r) leaf from at k e = absurd k.race_trace
  wins (c ∷ calls) (item.DataFailed s sending cause ∷ r) leaf from at k e = absurd k.race_trace

  -- and so it is accepted first
  accepted_first : (trace : List Item) (from to at : ℕ) → BeganFirst trace from → are_ends (item.Accepted listener to at ∷ trace) from to ≡ true
  accepted_first trace from to at h =
      ap (λ (v : List Ends). list_any (λ e. is_socket e.starter from && is_socket e.acceptor to) (change_first (λ e. awaits e listener) (met_by to) v)) h.is
      ∙ (let a : (listener == listener) ≡ true = eq-eqb listener listener refl in
      let b : (from == from) ≡ true = eq-eqb from from refl in
      let c : (to == to) ≡ true = eq-eqb to to refl in
      rw (a, b, c) refl)

-- the two ends of a connection stay so
abbrev joins : ℕ → ℕ → Ends → Bool
joins s t e = is_socket e.starter s && is_socket e.acceptor t

not_met : (b : Bool) (acceptor : Option ℕ) (t : ℕ) → (if b then option_map_or (λ socket. false) acceptor true else false) ≡ true → is_socket acceptor t ≡ false
not_met true None t h = refl
not_met true (Some n) t h = cc
not_met false acceptor t h = cc

not_joined : (s t : ℕ) (e : Ends) → is_socket e.acceptor t ≡ false → joins s t e ≡ false
not_joined s t e h = (let b = is_socket e.starter s in ap (λ v. is_socket e.starter s && v) h ∙ and_false (is_socket e.starter s))
  where
    and_false : (b : Bool) → (b && false) ≡ false
    and_false true = refl
    and_false false = refl

or_other : (a b : Bool) → a ≡ false → (a || b) ≡ true → b ≡ true
or_other true b e h = cc
or_other false b e h = h

or_more : (a b c : Bool) → (b ≡ true → c ≡ true) → (a || b) ≡ true → (a || c) ≡ true
or_more true b c f h = refl
or_more false b c f h = f h

or_second : (a b : Bool) → b ≡ true → (a || b) ≡ true
or_second true b h = refl
or_second false b h = h

stay_changed : (es : List Ends) (l n s t : ℕ) → list_any (joins s t) es ≡ true → list_any (joins s t) (change_first (λ e. awaits e l) (met_by n) es) ≡ true
stay_changed [] l n s t h = h
stay_changed (e ∷ es) l n s t h = by_test (awaits e l) refl (stay_changed es l n s t)
  where
    by_test : (b : Bool) → awaits e l ≡ b → (list_any (joins s t) es ≡ true → list_any (joins s t) (change_first (λ e. awaits e l) (met_by n) es) ≡ true) → list_any (joins s t) (if b then met_by n e ∷ es else e ∷ change_first (λ e. awaits e l) (met_by n) es) ≡ true
    by_test true a behind =
        or_second (joins s t (met_by n e)) (list_any (joins s t) es)
        (or_other (joins s t e) (list_any (joins s t) es) (not_joined s t e (not_met (e.listener == l) e.acceptor t a)) h)
    by_test false a behind = or_more (joins s t e) (list_any (joins s t) es) _ behind h

ends_stay : (i : Item) (trace : List Item) (s t : ℕ) → are_ends trace s t ≡ true → are_ends (i ∷ trace) s t ≡ true
ends_stay (item.Began at) trace s t h = h
ends_stay (item.Started leaf target socket at) trace s t h =
    list_any-append (joins s t) (connections trace) (record { listener = listener_for trace target; starter = Some socket; acceptor = None } ∷ [])
    ∙ ap (λ v. v || list_any (joins s t) (record { listener = listener_for trace target; starter = Some socket; acceptor = None } ∷ [])) h
ends_stay (item.Refused leaf target cause at) trace s t h = h
ends_stay (item.Waited until at end) trace s t h = h
ends_stay (item.Closed socket) trace s t h = h
ends_stay (item.Listening target socket at) trace s t h = h
ends_stay (item.NotListening target cause at) trace s t h = h
ends_stay (item.Accepted listener socket at) trace s t h = stay_changed (connections trace) listener socket s t h
ends_stay (item.Faulted at) trace s t h = h
ends_stay (item.Shut socket) trace s t h = h
ends_stay (item.Ended socket) trace s t h = h
ends_stay (item.DataFailed socket sending cause) trace s t h = h

ends_stay_all : (items trace : List Item) (s t : ℕ) → are_ends trace s t ≡ true → are_ends (items ++ trace) s t ≡ true
ends_stay_all [] trace s t h = h
ends_stay_all (i ∷ items) trace s t h = ends_stay i (items ++ trace) s t (ends_stay_all items trace s t h)

ends_stay_behind : (later earlier : List Call) (s t : ℕ) → are_ends (items_of earlier) s t ≡ true → are_ends (items_of (later ++ earlier)) s t ≡ true
ends_stay_behind [] earlier s t h = h
ends_stay_behind (call ∷ later) earlier s t h = ends_stay_all (items_by call) (items_of (later ++ earlier)) s t (ends_stay_behind later earlier s t h)

follows_first : (set : Setting) (later earlier : List Call) → Follows set (later ++ earlier) → Follows set earlier
follows_first set [] earlier h = h
follows_first set (call ∷ later) earlier h = follows_first set later earlier h.1

-- a race that failed has no winner
never_ready : (f c t z d : Bool) (leaf socket at : ℕ) →
    (if f then Some answers.SocketFault else if c then Some answers.Closed else if t then Some answers.Timeout else if z then Some answers.NoCandidate else if d then Some answers.AllFailed else None) ≡ Some (answers.Ready leaf socket at) → ⊥
never_ready true c t z d leaf socket at h = cc
never_ready false true t z d leaf socket at h = cc
never_ready false false true z d leaf socket at h = cc
never_ready false false false true d leaf socket at h = cc
never_ready false false false false true leaf socket at h = cc
never_ready false false false false false leaf socket at h = cc

was_ready : (w fail : Option RaceAnswer) (a : RaceAnswer) → (fail ≡ Some a → ⊥) → option_or w fail ≡ Some a → w ≡ Some a
was_ready None fail a never h = absurd (never h)
was_ready (Some b) fail a never h = h

-- the race behind the listen, and its winner
pub racing_of : (set : Setting) (calls : List Call) (from to : ℕ) → Follows set calls → (h : IsAcceptedBehindRace calls from to) → IsRacing set h.rules h.target h.listener h.since h.raced h.race
racing_of set calls from to follows h =
    let raced : List Call = h.raced ++ listens h.target (listen.Listening h.listener h.since) ∷ [] in
    let met : List Call = accepts h.listener h.until (accept.Accepted to h.accepted) ∷ raced in
    let first : Follows set met = follows_first set h.later met (subst (Follows set) h.all follows) in
    let lawful = h.lawful.race in
    record {
      each = h.each;
      follows = first.1;
      race_trace = lawful.race_trace;
      attempts = lawful.attempts_when_due;
      waits_so = lawful.waits_when_nothing_due;
      closes_so = lawful.closes_in_order;
    }

pub won_by : (calls : List Call) (from to : ℕ) → (h : IsAcceptedBehindRace calls from to) → ready h.race ≡ Some (answers.Ready h.leaf from h.at)
won_by calls from to h =
    let race = standing h.race in
    was_ready (ready h.race) (failure h.rules race) (answers.Ready h.leaf from h.at)
    (never_ready race.faulted (is_cancelled h.rules race) (is_timed_out h.rules race) (length h.rules.gaps == 0) (has_failed h.rules race) h.leaf from h.at) h.lawful.over.over

pub meets : MeetInMemory
meets set calls from to follows h =
    let met : List Call = accepts h.listener h.until (accept.Accepted to h.accepted) ∷ (h.raced ++ listens h.target (listen.Listening h.listener h.since) ∷ []) in
    let began = wins set h.rules h.target h.listener h.since h.raced h.race h.leaf from h.at (racing_of set calls from to follows h) (won_by calls from to h) in
    let accepted = accepted_first set h.rules h.target h.listener h.since (behind set h.rules h.target h.listener h.since h.race) from to h.accepted began in
    let here : are_ends (items_of met) from to ≡ true =
    ap (λ v. are_ends (item.Accepted h.listener to h.accepted ∷ v) from to) (items_behind set h.rules h.target h.listener h.since h.raced h.race h.each) ∙ accepted in
    subst (λ v. are_ends (items_of v) from to ≡ true) (sym h.all) (ends_stay_behind h.later met from to here)

pub winner_joined : (m : Memory) → AreJoinedReliably (net_of m) → JoinsWinner m
winner_joined m joined calls from to h met =
    let trace : m.trace ≡ items_of calls = ap (λ (v : State). v.trace) h.state ∙ trace_of m.setting calls in
    joined from to (ap (λ v. are_ends v from to) trace ∙ meets m.setting calls from to h.follows met)
