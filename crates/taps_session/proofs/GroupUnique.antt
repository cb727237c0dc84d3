-- A script determines the session of a group: the races of its clones, its exchange, and how it ended.
use Rattle.std.proofs.Common.{◌≡◌, ◌+◌, ◌++◌, ℕ, zero, suc, List, [], ◌∷◌, Option, Some, None, refl, sym, ◌∙◌, ap, subst, append_assoc, arith}
use Rattle.taps_socket.specs.declared.race_answer.RaceAnswer.{RaceAnswer}
use Rattle.taps_socket.specs.declared.race_answer.RaceAnswer.TheVariants as answer
use Rattle.taps_socket.specs.Calls.{Call}
use Rattle.taps_script.specs.declared.line.Line.{Line}
use Rattle.taps_script.specs.OneRace.{GoesOneWay, IsScriptedRace}
use Rattle.taps_script.specs.ScriptSteps.{Follows}
use Rattle.taps_script.specs.ScriptSteps as steps
use Rattle.taps_exchange.specs.Turns.{Place, initiate, turn_of}
use Rattle.taps_group.specs.Clones.{clone_rules}
use Rattle.taps_group.specs.Closes.{close_calls}
use Rattle.taps_group_exchange.specs.declared.outcome.GroupOutcome.{GroupOutcome}
use Rattle.taps_group_exchange.specs.declared.outcome.GroupOutcome.TheVariants as ends
use Rattle.taps_group_exchange.specs.Cloning.{CloneRace, calls_of_races, AreCloned, Failed, GoesOn, IsCloneRace}
use Rattle.taps_group_exchange.specs.GroupSessions.{GroupCourse, IsExchangeUnless, IsGroupSession, calls_of, places_after, sockets_by}
use Rattle.taps_group_exchange.specs.Members.{GroupTerms}
use Rattle.taps_session.proofs.Simulating.{UniqueLaw, by_answers, suffix}

-- one race of a clone
race_of : (lines : List Line) (g : GroupTerms) (leaf : ℕ) (earlier : List Call) (r : CloneRace) → IsCloneRace g.target leaf g.timeout r → Follows lines (r.calls ++ earlier)
    → IsScriptedRace lines (clone_rules g.timeout) leaf (g.target ∷ []) earlier r.calls r.items r.answer
race_of lines g leaf earlier r race follows = record { lawful = race.lawful; each = race.each; follows = follows }

same_race : (lines : List Line) (g : GroupTerms) (leaf : ℕ) (earlier : List Call) (r q : CloneRace) → GoesOneWay lines → IsCloneRace g.target leaf g.timeout r → Follows lines (r.calls ++ earlier)
    → IsCloneRace g.target leaf g.timeout q → Follows lines (q.calls ++ earlier) → q ≡ r
same_race lines g leaf earlier r q one_way one follows two also =
    let (calls, items, answered) = one_way (clone_rules g.timeout) leaf (g.target ∷ []) earlier r.calls q.calls r.items q.items r.answer q.answer (race_of lines g leaf earlier r one follows) (race_of lines g leaf earlier q two also) in
    let same : record { calls = q.calls; items = q.items; answer = q.answer } ≡ record { calls = r.calls; items = r.items; answer = r.answer } = rw (calls, items, answered) refl in
    same

-- a race that failed ends the session in one way
same_failure : (a : RaceAnswer) (o p : GroupOutcome) → Failed a o → Failed a p → p ≡ o
same_failure answer.AllFailed o p h k = k ∙ sym h
same_failure answer.Timeout o p h k = k ∙ sym h
same_failure answer.SocketFault o p h k = k ∙ sym h
same_failure (answer.Ready leaf socket at) o p h k = absurd h
same_failure answer.NoCandidate o p h k = absurd h
same_failure answer.Closed o p h k = absurd h

-- behind the first race
behind_first : (lines : List Line) (r : CloneRace) (races : List CloneRace) (earlier : List Call) → Follows lines (calls_of_races (r ∷ races) ++ earlier) → Follows lines (calls_of_races races ++ (r.calls ++ earlier))
behind_first lines r races earlier h = subst (λ (v : List Call). Follows lines v) (append_assoc (calls_of_races races) r.calls earlier) h

abbrev AreSame : List CloneRace → List CloneRace → Option GroupOutcome → Option GroupOutcome → Type 0
AreSame races others s t = (others ≡ races) × (t ≡ s)

-- the races behind one are the same, or there are none
same_on : (a : RaceAnswer) (races others : List CloneRace) (s t : Option GroupOutcome) (P Q : Type 0) → GoesOn a races s P → GoesOn a others t Q → (P → Q → AreSame races others s t) → AreSame races others s t
same_on (answer.Ready leaf socket at) races others s t P Q h k onward = onward h k
same_on answer.AllFailed races others s t P Q (e, (o, (is, failed))) (f, (p, (was, also))) onward = (f ∙ sym e, was ∙ ap Some (same_failure answer.AllFailed o p failed also) ∙ sym is)
same_on answer.Timeout races others s t P Q (e, (o, (is, failed))) (f, (p, (was, also))) onward = (f ∙ sym e, was ∙ ap Some (same_failure answer.Timeout o p failed also) ∙ sym is)
same_on answer.SocketFault races others s t P Q (e, (o, (is, failed))) (f, (p, (was, also))) onward = (f ∙ sym e, was ∙ ap Some (same_failure answer.SocketFault o p failed also) ∙ sym is)
same_on answer.NoCandidate races others s t P Q (e, (o, (is, failed))) (f, (p, (was, also))) onward = absurd failed
same_on answer.Closed races others s t P Q (e, (o, (is, failed))) (f, (p, (was, also))) onward = absurd failed

-- the clones of a group are made in one way
pub same_clones : (lines : List Line) (g : GroupTerms) (leaf members left : ℕ) (earlier : List Call) (races others : List CloneRace) (s t : Option GroupOutcome) → GoesOneWay lines
    → AreCloned g leaf members left races s → Follows lines (calls_of_races races ++ earlier) → AreCloned g leaf members left others t → Follows lines (calls_of_races others ++ earlier) → AreSame races others s t
same_clones lines g leaf members zero earlier races others s t one_way h follows k also = (k.0 ∙ sym h.0, k.1 ∙ sym h.1)
same_clones lines g leaf members (suc left) earlier [] [] s t one_way h follows k also = (refl, k.1 ∙ sym h.1)
same_clones lines g leaf members (suc left) earlier [] (q ∷ others) s t one_way h follows k also = absurd (let few = k.0 in let many = h.0 in omega arith)
same_clones lines g leaf members (suc left) earlier (r ∷ races) [] s t one_way h follows k also = absurd (let few = h.0 in let many = k.0 in omega arith)
same_clones lines g leaf members (suc left) earlier (r ∷ races) (q ∷ others) s t one_way (few, (race, goes)) follows (few', (race', goes')) also =
    let one : Follows lines (calls_of_races races ++ (r.calls ++ earlier)) = behind_first lines r races earlier follows in
    let two : Follows lines (calls_of_races others ++ (q.calls ++ earlier)) = behind_first lines q others earlier also in
    let same : q ≡ r = same_race lines g leaf earlier r q one_way race (suffix lines (calls_of_races races) (r.calls ++ earlier) one) race' (suffix lines (calls_of_races others) (q.calls ++ earlier) two) in
    let goes'' : GoesOn r.answer others t (AreCloned g (leaf + 1) (members + 1) left others t) = subst (λ (v : CloneRace). GoesOn v.answer others t (AreCloned g (leaf + 1) (members + 1) left others t)) same goes' in
    let two' : Follows lines (calls_of_races others ++ (r.calls ++ earlier)) = subst (λ (v : CloneRace). Follows lines (calls_of_races others ++ (v.calls ++ earlier))) same two in
    let rest = same_on r.answer races others s t (AreCloned g (leaf + 1) (members + 1) left races s) (AreCloned g (leaf + 1) (members + 1) left others t) goes goes''
    (λ h k. same_clones lines g (leaf + 1) (members + 1) left (r.calls ++ earlier) races others s t one_way h one k two') in
    (ap (λ v. v ∷ others) same ∙ ap (λ v. r ∷ v) rest.0, rest.1)

-- and its exchange goes one way behind them
same_exchange : (lines : List Line) (stopped : Option GroupOutcome) (places : List Place) (calls others earlier : List Call) (o p : GroupOutcome) → UniqueLaw
    → IsExchangeUnless stopped places calls o → Follows lines (calls ++ earlier) → IsExchangeUnless stopped places others p → Follows lines (others ++ earlier) → (others ≡ calls) × (p ≡ o)
same_exchange lines (Some ended) places calls others earlier o p unique h follows k also = (k.0 ∙ sym h.0, k.1 ∙ sym h.1)
same_exchange lines None places calls others earlier o p unique (x, (is, one)) follows (y, (was, two)) also =
    let (same, out) = unique (steps.answer lines) (turn_of (initiate places)) earlier calls others x y one (by_answers lines (calls ++ earlier) follows) two (by_answers lines (others ++ earlier) also) in
    (same, was ∙ ap ends.Exchanged out ∙ sym is)

parts_same : (c d : GroupCourse) → d.clones ≡ c.clones → d.exchange ≡ c.exchange → d.outcome ≡ c.outcome → d ≡ c
parts_same c d a b e = let same : record { clones = d.clones; exchange = d.exchange; outcome = d.outcome } ≡ record { clones = c.clones; exchange = c.exchange; outcome = c.outcome } = rw (a, b, e) refl in same

-- without the closes
but_closes : (lines : List Line) (first : ℕ) (c : GroupCourse) (earlier : List Call) → Follows lines (calls_of first c ++ earlier) → Follows lines (c.exchange ++ (calls_of_races c.clones ++ earlier))
but_closes lines first c earlier h =
    let closes : List Call = close_calls (sockets_by first c.clones) in
    let apart : Follows lines (closes ++ ((c.exchange ++ calls_of_races c.clones) ++ earlier)) = subst (λ (v : List Call). Follows lines v) (append_assoc closes (c.exchange ++ calls_of_races c.clones) earlier) h in
    subst (λ (v : List Call). Follows lines v) (append_assoc c.exchange (calls_of_races c.clones) earlier) (suffix lines closes ((c.exchange ++ calls_of_races c.clones) ++ earlier) apart)

-- a script determines the session of a group
pub only_group : (lines : List Line) (g : GroupTerms) (first at : ℕ) (c d : GroupCourse) (earlier : List Call) → GoesOneWay lines → UniqueLaw
    → IsGroupSession g first at c → Follows lines (calls_of first c ++ earlier) → IsGroupSession g first at d → Follows lines (calls_of first d ++ earlier) → d ≡ c
only_group lines g first at c d earlier one_way unique one follows two also =
    let there = but_closes lines first c earlier follows in
    let here = but_closes lines first d earlier also in
    let (clones, stopped) = same_clones lines g g.leaf 1 g.clones earlier c.clones d.clones one.stopped two.stopped one_way
    one.cloned (suffix lines c.exchange (calls_of_races c.clones ++ earlier) there) two.cloned (suffix lines d.exchange (calls_of_races d.clones ++ earlier) here) in
    let exchanged : IsExchangeUnless one.stopped (places_after g first at c.clones) d.exchange d.outcome =
    subst (λ (v : Option GroupOutcome). IsExchangeUnless v (places_after g first at c.clones) d.exchange d.outcome) stopped
    (subst (λ (v : List CloneRace). IsExchangeUnless two.stopped (places_after g first at v) d.exchange d.outcome) clones two.exchanged) in
    let behind : Follows lines (d.exchange ++ (calls_of_races c.clones ++ earlier)) = subst (λ (v : List CloneRace). Follows lines (d.exchange ++ (calls_of_races v ++ earlier))) clones here in
    let (exchange, outcome) = same_exchange lines one.stopped (places_after g first at c.clones) c.exchange d.exchange (calls_of_races c.clones ++ earlier) c.outcome d.outcome unique one.exchanged there exchanged behind in
    parts_same c d clones exchange outcome
