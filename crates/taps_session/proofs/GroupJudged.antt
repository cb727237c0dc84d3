-- What a session of a group says of its members, in other words.
use Rattle.std.proofs.Common.{◌≡◌, ◌+◌, ◌++◌, ℕ, zero, suc, List, [], ◌∷◌, Option, Some, None, refl, sym, ◌∙◌, ap, subst}
use Rattle.taps_socket.specs.declared.item.Item.{Item}
use Rattle.taps_socket.specs.declared.race_answer.RaceAnswer.{RaceAnswer}
use Rattle.taps_socket.specs.declared.race_answer.RaceAnswer.TheVariants as answer
use Rattle.taps_socket.specs.Calls.{Call, items_of}
use Rattle.taps_socket.specs.Net.{Net}
use Rattle.taps_socket.specs.Once.{IsOnce}
use Rattle.taps_socket.specs.RaceSockets.{closed}
use Rattle.taps_socket.specs.Shows.{Shows}
use Rattle.taps_listening.proofs.Onces.{once_after}
use Rattle.taps_exchange.specs.declared.outcome.Outcome.{Outcome}
use Rattle.taps_exchange.specs.Turns.{Place}
use Rattle.taps_group_exchange.specs.declared.outcome.GroupOutcome.{GroupOutcome}
use Rattle.taps_group_exchange.specs.declared.outcome.GroupOutcome.TheVariants as ends
use Rattle.taps_group_exchange.specs.Cloning.{CloneRace, calls_of_races, AreCloned, Failed, GoesOn}
use Rattle.taps_group_exchange.specs.GroupExchanges.{sockets_in}
use Rattle.taps_group_exchange.specs.GroupSessions.{GroupCourse, IsExchangeUnless, IsGroupSession, calls_of, places_after, sockets_by}
use Rattle.taps_group_exchange.specs.MemberLaws.{EachOwn, HasMemberCause, JudgesMembers}
use Rattle.taps_group_exchange.specs.Members.{GroupTerms, places_from}
use Rattle.taps_session.specs.GroupLogs.{AreJudgedMembers}
use Rattle.taps_session.proofs.GroupCloses.{distinct}

-- no clone ends a session as an exchange does
never_so : (a : RaceAnswer) (o : GroupOutcome) (x : Outcome) → Failed a o → o ≡ ends.Exchanged x → ⊥
never_so answer.AllFailed o x h e = cc
never_so answer.Timeout o x h e = cc
never_so answer.SocketFault o x h e = cc
never_so (answer.Ready leaf socket at) o x h e = absurd h
never_so answer.NoCandidate o x h e = absurd h
never_so answer.Closed o x h e = absurd h

some_same : {A : Type 0} (x y : A) → Some x ≡ Some y → x ≡ y
some_same x y h = cc

stops_not : (a : RaceAnswer) (races : List CloneRace) (s : Option GroupOutcome) (P : Type 0) (x : Outcome) → GoesOn a races s P → s ≡ Some (ends.Exchanged x) → (P → ⊥) → ⊥
stops_not (answer.Ready leaf socket at) races s P x h e onward = onward h
stops_not answer.AllFailed races s P x (none, (o, (is, failed))) e onward = never_so answer.AllFailed o x failed (some_same o (ends.Exchanged x) (sym is ∙ e))
stops_not answer.Timeout races s P x (none, (o, (is, failed))) e onward = never_so answer.Timeout o x failed (some_same o (ends.Exchanged x) (sym is ∙ e))
stops_not answer.SocketFault races s P x (none, (o, (is, failed))) e onward = never_so answer.SocketFault o x failed (some_same o (ends.Exchanged x) (sym is ∙ e))
stops_not answer.NoCandidate races s P x (none, (o, (is, failed))) e onward = absurd failed
stops_not answer.Closed races s P x (none, (o, (is, failed))) e onward = absurd failed

not_so : (g : GroupTerms) (leaf members left : ℕ) (races : List CloneRace) (s : Option GroupOutcome) (x : Outcome) → AreCloned g leaf members left races s → s ≡ Some (ends.Exchanged x) → ⊥
not_so g leaf members zero races s x h e = (let z : None ≡ Some (ends.Exchanged x) = sym h.1 ∙ e in cc)
not_so g leaf members (suc left) [] s x h e = (let z = sym h.1 ∙ e in cc)
not_so g leaf members (suc left) (r ∷ races) s x (few, (race, goes)) e =
    stops_not r.answer races s (AreCloned g (leaf + 1) (members + 1) left races s) x goes e (λ h. not_so g (leaf + 1) (members + 1) left races s x h e)

exchanged_same : (x y : Outcome) → ends.Exchanged x ≡ ends.Exchanged y → x ≡ y
exchanged_same x y e = cc

own_by : (law : JudgesMembers) (s : Option GroupOutcome) (places : List Place) (calls : List Call) (o : GroupOutcome) → IsOnce (sockets_in places) → IsExchangeUnless s places calls o → EachOwn places calls
own_by law (Some ended) places calls o once h = subst (λ (v : List Call). EachOwn places v) (sym h.0) (law.begun places [] once tt)
own_by law None places calls o once (x, (is, one)) = law.begun places calls once one.in_turn

cause_by : (law : JudgesMembers) (g : GroupTerms) (races : List CloneRace) (s : Option GroupOutcome) (places : List Place) (calls : List Call) (o : GroupOutcome) (x : Outcome) → IsOnce (sockets_in places) → AreCloned g g.leaf 1 g.clones races s → IsExchangeUnless s places calls o
    → o ≡ ends.Exchanged x → HasMemberCause places calls x
cause_by law g races (Some ended) places calls o x once cloned h e = absurd (not_so g g.leaf 1 g.clones races (Some ended) x cloned (ap Some (sym h.1 ∙ e)))
cause_by law g races None places calls o x once cloned (y, (is, one)) e =
    subst (λ (v : Outcome). HasMemberCause places calls v) (exchanged_same y x (sym is ∙ e)) (law.judged places calls y once one)

-- the sockets of the members
sockets_from : (g : GroupTerms) (at place : ℕ) (sockets : List ℕ) → sockets_in (places_from g at place sockets) ≡ sockets
sockets_from g at place [] = refl
sockets_from g at place (s ∷ sockets) = ap (λ v. s ∷ v) (sockets_from g at (place + 1) sockets)

pub members_judged : (law : JudgesMembers) (g : GroupTerms) (first at : ℕ) (c : GroupCourse) → IsGroupSession g first at c → IsOnce (sockets_by first c.clones) → AreJudgedMembers (places_after g first at c.clones) c
members_judged law g first at c h once =
    let apart : IsOnce (sockets_in (places_after g first at c.clones)) = subst IsOnce (sym (sockets_from g _ 0 (sockets_by first c.clones))) once in
    record {
      distinct = apart;
      own = own_by law h.stopped (places_after g first at c.clones) c.exchange c.outcome apart h.exchanged;
      cause = λ o e. cause_by law g c.clones h.stopped (places_after g first at c.clones) c.exchange c.outcome o apart h.cloned h.exchanged e;
    }

-- the sockets that a session closes in turn are distinct
pub sockets_apart : (n n1 n2 : Net) (raced : List Call) (first : ℕ) (c : GroupCourse) → n.trace ≡ [] → Shows n raced n1 → Shows n1 (calls_of first c) n2 → IsOnce (sockets_by first c.clones)
sockets_apart n n1 n2 raced first c fresh one two =
    let before : IsOnce (closed (items_of raced ++ n.trace)) = once_after n.trace n.told raced one.lawful (subst (λ (v : List Item). IsOnce (closed v)) (sym fresh) tt) in
    distinct n1.trace n1.told (sockets_by first c.clones) (c.exchange ++ calls_of_races c.clones) two.lawful (subst (λ (v : List Item). IsOnce (closed v)) (sym one.trace) before)
