-- How the making of clones ended.
use Rattle.std.proofs.Common.{◌≡◌, ◌≤◌, ◌+◌, ℕ, zero, suc, List, [], ◌∷◌, length, sym, ap, subst, arith, length-append, Some, None}
use Rattle.std.proofs.lemmas.List.{length-map}
use Rattle.taps_socket.specs.declared.race_answer.RaceAnswer.{RaceAnswer}
use Rattle.taps_socket.specs.declared.race_answer.RaceAnswer.TheVariants as answer
use Rattle.taps_group.specs.Closes.{sockets_of}
use Rattle.taps_group.specs.Properties.{most_members}
use Rattle.taps_group.specs.declared.member.Member.{Member}
use Rattle.taps_group_exchange.specs.declared.outcome.GroupOutcome.{GroupOutcome}
use Rattle.taps_group_exchange.specs.declared.outcome.GroupOutcome.TheVariants as ends
use Rattle.taps_group_exchange.specs.Cloning.{CloneRace, socket_by, sockets_of_races, Failed, GaveSocket, GoesOn, AreCloned, AreMade}
use Rattle.taps_group_exchange.specs.GroupSessions.{sockets_by}
use Rattle.taps_group_exchange.specs.Members.{GroupTerms}

-- no outcome ended it, and so all clones were made
pub record AllMade (g : GroupTerms) (leaf members left : ℕ) (races : List CloneRace) : Type 0 where
  pub made : AreMade g leaf members races
  pub all : length races ≡ left

gave_by : (a : RaceAnswer) (races : List CloneRace) (Others : Type 0) → GoesOn a races None Others → GaveSocket a × Others
gave_by (answer.Ready leaf socket at) races Others h = (tt, h)
gave_by answer.NoCandidate races Others h = absurd (let z : None ≡ Some h.1.0 = h.1.1.0 in cc)
gave_by answer.AllFailed races Others h = absurd (let z : None ≡ Some h.1.0 = h.1.1.0 in cc)
gave_by answer.Timeout races Others h = absurd (let z : None ≡ Some h.1.0 = h.1.1.0 in cc)
gave_by answer.Closed races Others h = absurd (let z : None ≡ Some h.1.0 = h.1.1.0 in cc)
gave_by answer.SocketFault races Others h = absurd (let z : None ≡ Some h.1.0 = h.1.1.0 in cc)

pub all_made : (g : GroupTerms) (leaf members left : ℕ) (races : List CloneRace) → AreCloned g leaf members left races None → AllMade g leaf members left races
all_made g leaf members zero races h = record { made = subst (AreMade g leaf members) (sym h.0) (tt {0}); all = ap length h.0 }
all_made g leaf members (suc left) [] h = absurd (let z : None ≡ Some (ends.CloneLimit (most_members g.props)) = h.1 in cc)
all_made g leaf members (suc left) (r ∷ races) h =
    let k = gave_by r.answer races (AreCloned g (leaf + 1) (members + 1) left races None) h.1.1 in
    let rest = all_made g (leaf + 1) (members + 1) left races k.1 in
    let size = rest.all in
    record { made = (h.0, (h.1.0, (k.0, rest.made))); all = omega (arith, size) }

-- an outcome that ends the making of clones is none of an exchange
abbrev pub IsCloneEnd : GroupOutcome → Type 0
IsCloneEnd (ends.Exchanged o) = ⊥
IsCloneEnd (ends.CloneLimit limit) = Unit {0}
IsCloneEnd ends.CloneAllFailed = Unit {0}
IsCloneEnd ends.CloneTimeout = Unit {0}
IsCloneEnd ends.SocketFault = Unit {0}

end_of : (a : RaceAnswer) (o : GroupOutcome) → Failed a o → IsCloneEnd o
end_of (answer.Ready leaf socket at) o f = absurd f
end_of answer.NoCandidate o f = absurd f
end_of answer.AllFailed o f = subst IsCloneEnd (sym f) (tt {0})
end_of answer.Timeout o f = subst IsCloneEnd (sym f) (tt {0})
end_of answer.Closed o f = absurd f
end_of answer.SocketFault o f = subst IsCloneEnd (sym f) (tt {0})

end_by : (a : RaceAnswer) (races : List CloneRace) (o : GroupOutcome) (Others : Type 0) → (Others → IsCloneEnd o) → GoesOn a races (Some o) Others → IsCloneEnd o
end_by (answer.Ready leaf socket at) races o Others later h = later h
end_by answer.NoCandidate races o Others later h = absurd h.1.1.1
end_by answer.AllFailed races o Others later h = (let e : h.1.0 ≡ o = (let z : Some o ≡ Some h.1.0 = h.1.1.0 in cc) in subst IsCloneEnd e (end_of answer.AllFailed h.1.0 h.1.1.1))
end_by answer.Timeout races o Others later h = (let e : h.1.0 ≡ o = (let z : Some o ≡ Some h.1.0 = h.1.1.0 in cc) in subst IsCloneEnd e (end_of answer.Timeout h.1.0 h.1.1.1))
end_by answer.Closed races o Others later h = absurd h.1.1.1
end_by answer.SocketFault races o Others later h = (let e : h.1.0 ≡ o = (let z : Some o ≡ Some h.1.0 = h.1.1.0 in cc) in subst IsCloneEnd e (end_of answer.SocketFault h.1.0 h.1.1.1))

pub clone_end : (g : GroupTerms) (leaf members left : ℕ) (races : List CloneRace) (o : GroupOutcome) → AreCloned g leaf members left races (Some o) → IsCloneEnd o
clone_end g leaf members zero races o h = absurd (let z : Some o ≡ None = h.1 in cc)
clone_end g leaf members (suc left) [] o h = (let e : ends.CloneLimit (most_members g.props) ≡ o = (let z : Some o ≡ Some (ends.CloneLimit (most_members g.props)) = h.1 in cc) in subst IsCloneEnd e (tt {0}))
clone_end g leaf members (suc left) (r ∷ races) o h = end_by r.answer races o (AreCloned g (leaf + 1) (members + 1) left races (Some o)) (clone_end g (leaf + 1) (members + 1) left races o) h.1.1

-- each race gave a socket at most
one_at_most : (a : RaceAnswer) → length (socket_by a) ≤ 1
one_at_most (answer.Ready leaf socket at) = omega arith
one_at_most answer.NoCandidate = omega arith
one_at_most answer.AllFailed = omega arith
one_at_most answer.Timeout = omega arith
one_at_most answer.Closed = omega arith
one_at_most answer.SocketFault = omega arith

few_sockets : (races : List CloneRace) → length (sockets_of_races races) ≤ length races
few_sockets [] = omega arith
few_sockets (r ∷ races) =
    let size = length-append (socket_by r.answer) (sockets_of_races races) in
    let one = one_at_most r.answer in
    let rest = few_sockets races in
    omega (arith, size, one, rest)

pub few_members : {X : Type 0} {F : X → Type 0} (first : ℕ) (races : List CloneRace) (members : List (Member X F)) → sockets_of members ≡ sockets_by first races → length members ≤ length races + 1
few_members first races members e =
    let size : length (sockets_of members) ≡ length members = length-map members (λ (m : Member _ _). m.connection.socket) in
    let same : length (sockets_of members) ≡ length (first ∷ sockets_of_races races) = ap length e in
    let few = few_sockets races in
    omega (arith, size, same, few)
