-- One race more behind the races of clones.
use Rattle.std.proofs.Common.{◌≡◌, ◌≤◌, ◌<◌, ◌+◌, ℕ, zero, suc, List, [], ◌∷◌, ◌++◌, length, Option, Some, None, refl, sym, ap, ◌∙◌, subst, arith, append_assoc, append-nil, length-append}
use Rattle.taps_socket.specs.declared.race_answer.RaceAnswer.{RaceAnswer}
use Rattle.taps_socket.specs.declared.race_answer.RaceAnswer.TheVariants as answer
use Rattle.taps_group.specs.Properties.{most_members}
use Rattle.taps_group_exchange.specs.declared.outcome.GroupOutcome.{GroupOutcome}
use Rattle.taps_group_exchange.specs.declared.outcome.GroupOutcome.TheVariants as ends
use Rattle.taps_group_exchange.specs.Cloning.{CloneRace, IsCloneRace, calls_of_races, items_of_races, socket_by, sockets_of_races, Failed, GoesOn, GaveSocket, AreCloned, AreMade}
use Rattle.taps_group_exchange.specs.Members.{GroupTerms}

pub calls_more : (races : List CloneRace) (r : CloneRace) → calls_of_races (races ++ r ∷ []) ≡ r.calls ++ calls_of_races races
calls_more [] r = sym (append-nil r.calls)
calls_more (x ∷ races) r = ap (λ v. v ++ x.calls) (calls_more races r) ∙ append_assoc r.calls (calls_of_races races) x.calls

pub items_more : (races : List CloneRace) (r : CloneRace) → items_of_races (races ++ r ∷ []) ≡ r.items ++ items_of_races races
items_more [] r = sym (append-nil r.items)
items_more (x ∷ races) r = ap (λ v. v ++ x.items) (items_more races r) ∙ append_assoc r.items (items_of_races races) x.items

pub sockets_more : (races : List CloneRace) (r : CloneRace) → sockets_of_races (races ++ r ∷ []) ≡ sockets_of_races races ++ socket_by r.answer
sockets_more [] r = append-nil (socket_by r.answer)
sockets_more (x ∷ races) r = ap (λ v. socket_by x.answer ++ v) (sockets_more races r) ∙ sym (append_assoc (socket_by x.answer) (sockets_of_races races) (socket_by r.answer))

pub count_more : (races : List CloneRace) (r : CloneRace) → length (races ++ r ∷ []) ≡ length races + 1
count_more races r = length-append races (r ∷ [])

goes_on : (Others : Type 0) (a : RaceAnswer) (races : List CloneRace) (stopped : Option GroupOutcome) → GaveSocket a → Others → GoesOn a races stopped Others
goes_on Others (answer.Ready leaf socket at) races stopped gave h = h
goes_on Others answer.NoCandidate races stopped gave h = absurd gave
goes_on Others answer.AllFailed races stopped gave h = absurd gave
goes_on Others answer.Timeout races stopped gave h = absurd gave
goes_on Others answer.Closed races stopped gave h = absurd gave
goes_on Others answer.SocketFault races stopped gave h = absurd gave

stops : (Others : Type 0) (a : RaceAnswer) (o : GroupOutcome) → Failed a o → GoesOn a [] (Some o) Others
stops Others (answer.Ready leaf socket at) o h = absurd h
stops Others answer.NoCandidate o h = absurd h
stops Others answer.AllFailed o h = (refl, (o, (refl, h)))
stops Others answer.Timeout o h = (refl, (o, (refl, h)))
stops Others answer.Closed o h = absurd h
stops Others answer.SocketFault o h = (refl, (o, (refl, h)))

no_more : (n : ℕ) → n + 0 ≡ n
no_more n = omega arith

one_later : (n count : ℕ) → n + (count + 1) ≡ n + 1 + count
one_later n count = omega arith

-- the race of the next clone, by its number
next_first : (g : GroupTerms) (leaf : ℕ) (r : CloneRace) → IsCloneRace g.target (leaf + 0) g.timeout r → IsCloneRace g.target leaf g.timeout r
next_first g leaf r h = subst (λ n. IsCloneRace g.target n g.timeout r) (no_more leaf) h

next_later : (g : GroupTerms) (leaf : ℕ) (x : CloneRace) (races : List CloneRace) (r : CloneRace) → IsCloneRace g.target (leaf + length (x ∷ races)) g.timeout r → IsCloneRace g.target (leaf + 1 + length races) g.timeout r
next_later g leaf x races r h = let e : leaf + length (x ∷ races) ≡ leaf + 1 + length races = omega arith in subst (λ n. IsCloneRace g.target n g.timeout r) e h

pub made_more : (g : GroupTerms) (leaf members : ℕ) (races : List CloneRace) (r : CloneRace) → AreMade g leaf members races → members + length races < most_members g.props → IsCloneRace g.target (leaf + length races) g.timeout r → GaveSocket r.answer → AreMade g leaf members (races ++ r ∷ [])
made_more g leaf members [] r made below race gave = (omega (arith, below), (next_first g leaf r race, (gave, tt)))
made_more g leaf members (x ∷ races) r made below race gave =
    let here : members + 1 + length races < most_members g.props = omega (arith, below) in
    (made.0, (made.1.0, (made.1.1.0, made_more g (leaf + 1) (members + 1) races r made.1.1.1 here (next_later g leaf x races r race) gave)))

-- all clones were made
pub cloned_all : (g : GroupTerms) (leaf members left : ℕ) (races : List CloneRace) → AreMade g leaf members races → length races ≡ left → AreCloned g leaf members left races None
cloned_all g leaf members zero [] made all = (refl, refl)
cloned_all g leaf members (suc left) [] made all = absurd (omega (arith, all))
cloned_all g leaf members zero (x ∷ races) made all = absurd (omega (arith, all))
cloned_all g leaf members (suc left) (x ∷ races) made all =
    let rest : length races ≡ left = omega (arith, all) in
    (made.0, (made.1.0, goes_on _ x.answer races None made.1.1.0 (cloned_all g (leaf + 1) (members + 1) left races made.1.1.1 rest)))

-- the next one would be one too many
pub cloned_to_limit : (g : GroupTerms) (leaf members left : ℕ) (races : List CloneRace) → AreMade g leaf members races → length races < left → most_members g.props ≤ members + length races → AreCloned g leaf members left races (Some (ends.CloneLimit (most_members g.props)))
cloned_to_limit g leaf members zero [] made fewer full = absurd (omega (arith, fewer))
cloned_to_limit g leaf members (suc left) [] made fewer full = (omega (arith, full), refl)
cloned_to_limit g leaf members zero (x ∷ races) made fewer full = absurd (omega (arith, fewer))
cloned_to_limit g leaf members (suc left) (x ∷ races) made fewer full =
    let rest : length races < left = omega (arith, fewer) in
    let there : most_members g.props ≤ members + 1 + length races = omega (arith, full) in
    (made.0, (made.1.0, goes_on _ x.answer races (Some (ends.CloneLimit (most_members g.props))) made.1.1.0 (cloned_to_limit g (leaf + 1) (members + 1) left races made.1.1.1 rest there)))

-- the race of the next one failed
pub cloned_to_failure : (g : GroupTerms) (leaf members left : ℕ) (races : List CloneRace) (r : CloneRace) (o : GroupOutcome) → AreMade g leaf members races → length races < left → members + length races < most_members g.props →
    IsCloneRace g.target (leaf + length races) g.timeout r → Failed r.answer o → AreCloned g leaf members left (races ++ r ∷ []) (Some o)
cloned_to_failure g leaf members zero [] r o made fewer below race failed = absurd (omega (arith, fewer))
cloned_to_failure g leaf members (suc left) [] r o made fewer below race failed = (omega (arith, below), (next_first g leaf r race, stops _ r.answer o failed))
cloned_to_failure g leaf members zero (x ∷ races) r o made fewer below race failed = absurd (omega (arith, fewer))
cloned_to_failure g leaf members (suc left) (x ∷ races) r o made fewer below race failed =
    let rest : length races < left = omega (arith, fewer) in
    let here : members + 1 + length races < most_members g.props = omega (arith, below) in
    (made.0, (made.1.0, goes_on _ x.answer (races ++ r ∷ []) (Some o) made.1.1.0 (cloned_to_failure g (leaf + 1) (members + 1) left races r o made.1.1.1 rest here (next_later g leaf x races r race) failed)))
