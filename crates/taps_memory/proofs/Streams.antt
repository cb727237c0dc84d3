-- The winner of a race in memory was started over a stream.
use Rattle.std.proofs.Common.{◌≡◌, ℕ, suc, ◌+◌, ◌<◌, ◌≤◌, ◌⊎◌, inl, inr, Bool, true, false, if◌then◌else◌, List, [], ◌∷◌, ◌++◌, length, Option, None, Some, refl, ap, sym, subst, ◌∙◌, arith, eq-eqb, length-append}
use Rattle.std.specs.Prelude.{slice_get}
use Rattle.std.specs.Option.{option_or}
use Rattle.std.proofs.lemmas.Bool.{eqb-true, cases_lt}
use Rattle.std.proofs.lemmas.Option.{slice_get_within}
use Rattle.circular_buffer.proofs.Places.{slice_get-append_left, slice_get-append_right}
use Rattle.taps_stack.specs.declared.target.Target.{Target}
use Rattle.taps_stack.specs.StackTable.{is_stream}
use Rattle.taps_socket.specs.declared.answers.StartAnswer.TheVariants as start
use Rattle.taps_socket.specs.declared.cause.Cause.TheVariants as cause
use Rattle.taps_socket.specs.declared.item.How.TheVariants as how
use Rattle.taps_socket.specs.declared.item.Item.{Item}
use Rattle.taps_socket.specs.declared.item.Item.TheVariants as item
use Rattle.taps_socket.specs.declared.race_answer.RaceAnswer.{RaceAnswer}
use Rattle.taps_socket.specs.declared.race_answer.RaceAnswer.TheVariants as answers
use Rattle.taps_socket.specs.Calls.{Call, starts, request_of}
use Rattle.taps_socket.specs.LawfulRace.{Each, HasTarget}
use Rattle.taps_socket.specs.RaceSockets.{started}
use Rattle.taps_socket.specs.RaceTrace.{tries}
use Rattle.taps_socket.specs.Rules.{Rules}
use Rattle.taps_socket.specs.Winner.{is_socket, place_of, ready}
use Rattle.taps_memory.specs.Listeners.{listener_on}
use Rattle.taps_memory.specs.MemoryAnswers.{Setting, State, start_to, start_answer}
use Rattle.taps_memory.specs.MemorySteps.{answer_to, state_after}
use Rattle.taps_memory.specs.Met.{WinsOverStream}
use Rattle.taps_memory.proofs.Meeting.{started_call, racing_of, won_by, IsRacing, behind, base, quiet, pending_quiet, wait_end, tail_of, head_of}

-- the place of a socket among attempts
one_more_place : {X : Type 0} (o : X) (os : List X) (k : ℕ) → slice_get (o ∷ os) (k + 1) ≡ slice_get os k
one_more_place o os k = (let e : k + 1 ≡ suc k = omega arith in ap (slice_get (o ∷ os)) e)

is_same : (s : ℕ) (o : Option ℕ) → is_socket s o ≡ true → o ≡ Some s
is_same s None e = cc
is_same s (Some x) e = ap (λ v. Some v) (eqb-true x s e)

last_by : (b : Bool) (s : ℕ) (o : Option ℕ) (os : List (Option ℕ)) → is_socket s o ≡ b → slice_get (os ++ Some s ∷ []) (place_of s (os ++ Some s ∷ [])) ≡ Some (Some s) →
    slice_get (o ∷ (os ++ Some s ∷ [])) (if b then 0 else place_of s (os ++ Some s ∷ []) + 1) ≡ Some (Some s)
last_by true s o os e h = ap (λ v. Some v) (is_same s o e)
last_by false s o os e h = one_more_place o (os ++ Some s ∷ []) (place_of s (os ++ Some s ∷ [])) ∙ h

place_last : (s : ℕ) (os : List (Option ℕ)) → slice_get (os ++ Some s ∷ []) (place_of s (os ++ Some s ∷ [])) ≡ Some (Some s)
place_last s [] = ap (λ (b : Bool). slice_get (Some s ∷ []) (if b then 0 else 0 + 1)) (eq-eqb s s refl)
place_last s (o ∷ os) = last_by (is_socket s o) s o os refl (place_last s os)

more_by : (b : Bool) (s : ℕ) (o : Option ℕ) (os zs : List (Option ℕ)) → slice_get (o ∷ os) (if b then 0 else place_of s os + 1) ≡ Some (Some s) →
    (slice_get os (place_of s os) ≡ Some (Some s) → slice_get (os ++ zs) (place_of s (os ++ zs)) ≡ Some (Some s)) → slice_get (o ∷ (os ++ zs)) (if b then 0 else place_of s (os ++ zs) + 1) ≡ Some (Some s)
more_by true s o os zs h go = h
more_by false s o os zs h go = one_more_place o (os ++ zs) (place_of s (os ++ zs)) ∙ go (sym (one_more_place o os (place_of s os)) ∙ h)

place_more : (s : ℕ) (os zs : List (Option ℕ)) → slice_get os (place_of s os) ≡ Some (Some s) → slice_get (os ++ zs) (place_of s (os ++ zs)) ≡ Some (Some s)
place_more s [] zs h = (let none : Option (Option ℕ) = None in let z : none ≡ Some (Some s) = h in cc)
place_more s (o ∷ os) zs h = more_by (is_socket s o) s o os zs h (place_more s os zs)

-- a later attempt leaves the place of an earlier one
get_more : (os : List (Option ℕ)) (z : Option ℕ) (k s : ℕ) → slice_get os k ≡ Some (Some s) → slice_get (os ++ z ∷ []) k ≡ Some (Some s)
get_more os z k s h = slice_get-append_left os (z ∷ []) k (slice_get_within os k (Some s) h) ∙ h

-- an attempt at a place is an earlier one, or the newest
get_back : (os : List (Option ℕ)) (z : Option ℕ) (k s : ℕ) → slice_get (os ++ z ∷ []) k ≡ Some (Some s) → (slice_get os k ≡ Some (Some s)) ⊎ ((k ≡ length os) × (z ≡ Some s))
get_back os z k s h = by_place (cases_lt k (length os))
  where
    by_place : (k < length os) ⊎ (length os ≤ k) → (slice_get os k ≡ Some (Some s)) ⊎ ((k ≡ length os) × (z ≡ Some s))
    by_place (inl less) = inl (sym (slice_get-append_left os (z ∷ []) k less) ∙ h)
    by_place (inr most) =
        let within = slice_get_within (os ++ z ∷ []) k (Some s) h in
        let long = length-append os (z ∷ []) in
        let same : k ≡ length os = omega arith in
        let at : slice_get (os ++ z ∷ []) k ≡ Some z = slice_get-append_right os (z ∷ []) k 0 (omega arith) in
        inr (same, (let e : Some z ≡ Some (Some s) = sym at ∙ h in cc))

-- a start that was given a socket is over a stream
stream_started : (set : Setting) (st : State) (o : Option ℕ) (stream : Bool) (s at : ℕ) → (if stream then start_to set st o else start.Refused cause.Refused st.clock) ≡ start.Started s at → stream ≡ true
stream_started set st o true s at e = refl
stream_started set st o false s at e = cc

module _ (set : Setting) (rules : Rules) (target : Target) (listener since : ℕ) (targets : List Target) where
  abbrev Races : List Call → List Item → Type 0
  Races = IsRacing set rules target listener since

  abbrev before : List Item → List Item
  before = behind set rules target listener since

  start_stream : (c : Call) (calls : List Call) (leaf : ℕ) (g : Target) (s at : ℕ) (r : List Item) → Races (c ∷ calls) (item.Started leaf g s at ∷ r) → is_stream g.stack ≡ true
  start_stream c calls leaf g s at r k =
      let st : State = state_after set (calls ++ base set rules target listener since) in
      let is : c ≡ starts leaf g (start.Started s at) = started_call c leaf g s at (head_of set rules target listener since c calls (item.Started leaf g s at) r k) in
      let answered : starts leaf g (start.Started s at) ≡ starts leaf g (start_answer set st g) = sym is ∙ (k.follows.0 ∙ ap (λ v. answer_to set st (request_of v)) is) in
      let same : start_answer set st g ≡ start.Started s at = cc in
      stream_started set st (listener_on st.trace g) (is_stream g.stack) s at same

  -- the target of each attempt that was given a socket
  tried : (calls : List Call) (r : List Item) (k s : ℕ) (g : Target) → Races calls r → Each (HasTarget targets) r → slice_get (tries r) k ≡ Some (Some s) → slice_get targets k ≡ Some g → is_stream g.stack ≡ true
  tried calls [] k s g race aims h e = absurd race.race_trace
  tried [] (i ∷ r) k s g race aims h e = (let z = race.each in cc)
  tried (c ∷ calls) (item.Began at ∷ r) k s g race aims h e =
      (let none : Option (Option ℕ) = slice_get (tries []) k in let z : slice_get (tries []) k ≡ Some (Some s) = ap (λ v. slice_get (tries v) k) (sym race.race_trace) ∙ h in
      let within = slice_get_within (tries []) k (Some s) z in absurd (omega (arith, within)))
  tried (c ∷ calls) (item.Started leaf t x at ∷ r) k s g race aims h e =
      by_place (get_back (tries r) (Some x) k s h) (tried calls r k s g (tail_of set rules target listener since c calls (item.Started leaf t x at) r race race.race_trace) aims.1)
    where
      by_place : (slice_get (tries r) k ≡ Some (Some s)) ⊎ ((k ≡ length (tries r)) × (Some x ≡ Some s)) → (slice_get (tries r) k ≡ Some (Some s) → slice_get targets k ≡ Some g → is_stream g.stack ≡ true) → is_stream g.stack ≡ true
      by_place (inl earlier) others = others earlier e
      by_place (inr newest) others =
          let here : slice_get targets k ≡ Some t = ap (slice_get targets) newest.0 ∙ aims.0 in
          let same : t ≡ g = cc in
          subst (λ v. is_stream v.stack ≡ true) same (start_stream c calls leaf t x at r race)
  tried (c ∷ calls) (item.Refused leaf t cause at ∷ r) k s g race aims h e =
      by_place (get_back (tries r) None k s h) (tried calls r k s g (tail_of set rules target listener since c calls (item.Refused leaf t cause at) r race race.race_trace) aims.1)
    where
      by_place : (slice_get (tries r) k ≡ Some (Some s)) ⊎ ((k ≡ length (tries r)) × (None ≡ Some s)) → (slice_get (tries r) k ≡ Some (Some s) → slice_get targets k ≡ Some g → is_stream g.stack ≡ true) → is_stream g.stack ≡ true
      by_place (inl earlier) others = others earlier e
      by_place (inr newest) others = (let z = newest.1 in cc)
  tried (c ∷ calls) (item.Waited until at end ∷ r) k s g race aims h e =
      tried calls r k s g (tail_of set rules target listener since c calls (item.Waited until at end) r race race.race_trace) aims.1 h e
  tried (c ∷ calls) (item.Closed x ∷ r) k s g race aims h e =
      tried calls r k s g (tail_of set rules target listener since c calls (item.Closed x) r race race.race_trace) aims.1 h e
  tried (c ∷ calls) (item.Listening t x at ∷ r) k s g race aims h e = absurd race.race_trace
  tried (c ∷ calls) (item.NotListening t cause at ∷ r) k s g race aims h e = absurd race.race_trace
  tried (c ∷ calls) (item.Accepted l x at ∷ r) k s g race aims h e = absurd race.race_trace
  tried (c ∷ calls) (item.Faulted at ∷ r) k s g race aims h e = absurd race.race_trace
  tried (c ∷ calls) (item.Shut x ∷ r) k s g race aims h e = absurd race.race_trace
  tried (c ∷ calls) (item.Ended x ∷ r) k s g race aims h e = absurd race.race_trace
  tried (c ∷ calls) (item.DataFailed x sending cause ∷ r) k s g race aims h e = absurd race.race_trace

  -- the first socket that was started has its place among the attempts
  first_by : (earlier : List ℕ) (x s : ℕ) (others : List ℕ) (os : List (Option ℕ)) → earlier ++ x ∷ [] ≡ s ∷ others → ((more : List ℕ) → earlier ≡ s ∷ more → slice_get os (place_of s os) ≡ Some (Some s)) →
      slice_get (os ++ Some x ∷ []) (place_of s (os ++ Some x ∷ [])) ≡ Some (Some s)
  first_by [] x s others os e go =
      let same : s ≡ x = cc in
      subst (λ v. slice_get (os ++ Some v ∷ []) (place_of s (os ++ Some v ∷ [])) ≡ Some (Some s)) same (place_last s os)
  first_by (y ∷ earlier) x s others os e go =
      let same : y ≡ s = cc in
      place_more s os (Some x ∷ []) (go earlier (ap (λ v. v ∷ earlier) same))

  first_place : (r : List Item) (s : ℕ) (others : List ℕ) → started (before r) ≡ s ∷ others → slice_get (tries r) (place_of s (tries r)) ≡ Some (Some s)
  first_place [] s others e = cc
  first_place (item.Began at ∷ r) s others e = first_place r s others e
  first_place (item.Started leaf t x at ∷ r) s others e = first_by (started (before r)) x s others (tries r) e (first_place r s)
  first_place (item.Refused leaf t cause at ∷ r) s others e = place_more s (tries r) (None ∷ []) (first_place r s others e)
  first_place (item.Waited until at end ∷ r) s others e = first_place r s others e
  first_place (item.Closed x ∷ r) s others e = first_place r s others e
  first_place (item.Listening t x at ∷ r) s others e = first_place r s others e
  first_place (item.NotListening t cause at ∷ r) s others e = first_place r s others e
  first_place (item.Accepted l x at ∷ r) s others e = first_place r s others e
  first_place (item.Faulted at ∷ r) s others e = first_place r s others e
  first_place (item.Shut x ∷ r) s others e = first_place r s others e
  first_place (item.Ended x ∷ r) s others e = first_place r s others e
  first_place (item.DataFailed x sending cause ∷ r) s others e = first_place r s others e

  -- and so has the winner
  by_ready : (r : List Item) (t s : ℕ) (w : Option RaceAnswer) (leaf from at : ℕ) → ready r ≡ w → option_or w (Some (answers.Ready (place_of s (tries r)) s t)) ≡ Some (answers.Ready leaf from at) →
      (ready r ≡ None → slice_get (tries r) (place_of s (tries r)) ≡ Some (Some s)) → (ready r ≡ Some (answers.Ready leaf from at) → slice_get (tries r) leaf ≡ Some (Some from)) → slice_get (tries r) leaf ≡ Some (Some from)
  by_ready r t s None leaf from at is e won others =
      let z : answers.Ready (place_of s (tries r)) s t ≡ answers.Ready leaf from at = cc in
      let place : place_of s (tries r) ≡ leaf = cc in
      let same : s ≡ from = cc in
      ap (slice_get (tries r)) (sym place) ∙ (won is ∙ ap (λ v. Some (Some v)) same)
  by_ready r t s (Some a) leaf from at is e won others = others (is ∙ e)

  won_place : (calls : List Call) (r : List Item) (leaf from at : ℕ) → Races calls r → ready r ≡ Some (answers.Ready leaf from at) → slice_get (tries r) leaf ≡ Some (Some from)
  won_place calls [] leaf from at k e = absurd k.race_trace
  won_place [] (i ∷ r) leaf from at k e = (let z = k.each in cc)
  won_place (c ∷ calls) (item.Began t ∷ r) leaf from at k e = (let z : ready [] ≡ Some (answers.Ready leaf from at) = ap ready (sym k.race_trace) ∙ e in cc)
  won_place (c ∷ calls) (item.Started l g s t ∷ r) leaf from at k e =
      get_more (tries r) (Some s) leaf from (won_place calls r leaf from at (tail_of set rules target listener since c calls (item.Started l g s t) r k k.race_trace) e)
  won_place (c ∷ calls) (item.Refused l g cause t ∷ r) leaf from at k e =
      get_more (tries r) None leaf from (won_place calls r leaf from at (tail_of set rules target listener since c calls (item.Refused l g cause t) r k k.race_trace) e)
  won_place (c ∷ calls) (item.Waited until t how.Reached ∷ r) leaf from at k e =
      won_place calls r leaf from at (tail_of set rules target listener since c calls (item.Waited until t how.Reached) r k k.race_trace) e
  won_place (c ∷ calls) (item.Waited until t (how.Completed s) ∷ r) leaf from at k e =
      let earlier = tail_of set rules target listener since c calls (item.Waited until t (how.Completed s)) r k k.race_trace in
      let ends = wait_end set rules target listener since calls r c until t (how.Completed s) earlier.each (head_of set rules target listener since c calls (item.Waited until t (how.Completed s)) r k) k.follows.0 in
      by_ready r t s (ready r) leaf from at refl e
      (λ none. first_place r s ends.0 (sym (pending_quiet set rules target listener since r (quiet set rules target listener since calls r earlier none k.waits_so.0.not_over)) ∙ ends.1))
      (won_place calls r leaf from at earlier)
  won_place (c ∷ calls) (item.Waited until t (how.Broke s cause) ∷ r) leaf from at k e =
      won_place calls r leaf from at (tail_of set rules target listener since c calls (item.Waited until t (how.Broke s cause)) r k k.race_trace) e
  won_place (c ∷ calls) (item.Waited until t how.Faulted ∷ r) leaf from at k e =
      won_place calls r leaf from at (tail_of set rules target listener since c calls (item.Waited until t how.Faulted) r k k.race_trace) e
  won_place (c ∷ calls) (item.Closed s ∷ r) leaf from at k e =
      won_place calls r leaf from at (tail_of set rules target listener since c calls (item.Closed s) r k k.race_trace) e
  won_place (c ∷ calls) (item.Listening g s t ∷ r) leaf from at k e = absurd k.race_trace
  won_place (c ∷ calls) (item.NotListening g cause t ∷ r) leaf from at k e = absurd k.race_trace
  won_place (c ∷ calls) (item.Accepted l s t ∷ r) leaf from at k e = absurd k.race_trace
  won_place (c ∷ calls) (item.Faulted t ∷ r) leaf from at k e = absurd k.race_trace
  won_place (c ∷ calls) (item.Shut s ∷ r) leaf from at k e = absurd k.race_trace
  won_place (c ∷ calls) (item.Ended s ∷ r) leaf from at k e = absurd k.race_trace
  won_place (c ∷ calls) (item.DataFailed s sending cause ∷ r) leaf from at k e = absurd k.race_trace

pub wins_over_stream : WinsOverStream
wins_over_stream set calls from to follows h target e =
    let k = racing_of set calls from to follows h in
    let won : ready h.race ≡ Some (answers.Ready h.leaf from h.at) = won_by calls from to h in
    tried set h.rules h.target h.listener h.since h.targets h.raced h.race h.leaf from target k h.lawful.targets_in_order (won_place set h.rules h.target h.listener h.since h.targets h.raced h.race h.leaf from h.at k won) e
