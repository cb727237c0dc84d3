-- How the clones of a group are made, one after the other.
use Rattle.std.proofs.Common.{◌≡◌, ◌≤◌, ◌<◌, ◌+◌, ◌*◌, ◌-◌, ℕ, List, [], ◌∷◌, ◌++◌, length, refl, sym, ap, ◌∙◌, subst, arith, inl, inr, Some, None}
use Rattle.taps_base.specs.Counts.{Rose}
use Rattle.taps_framer.specs.declared.framer.Framer as framer
use Rattle.taps_stack.specs.declared.target.Target.{Target}
use Rattle.taps_socket.specs.declared.item.Item.{Item}
use Rattle.taps_socket.specs.declared.item.Item.TheVariants as item
use Rattle.taps_socket.specs.declared.race_answer.RaceAnswer.{RaceAnswer}
use Rattle.taps_socket.specs.declared.race_answer.RaceAnswer.TheVariants as answer
use Rattle.taps_socket.specs.Calls.{Call, closes, AddEach, HasAdded}
use Rattle.taps_socket.specs.LawfulRace.{IsLawfulRace}
use Rattle.taps_socket.specs.Net.{Net}
use Rattle.taps_group.specs.Clones.{clone_rules, IsFailure, Joins, Fails, ReachesLimit, FindsNoMemory, HasNotRaced, HasClosedAgain}
use Rattle.taps_group.specs.Closes.{sockets_of}
use Rattle.taps_group.specs.Groups.{IsSameGroup}
use Rattle.taps_group.specs.Properties.{most_members}
use Rattle.taps_group.specs.declared.group.Group.{Group}
use Rattle.taps_group_exchange.specs.declared.outcome.GroupOutcome.{GroupOutcome}
use Rattle.taps_group_exchange.specs.declared.outcome.GroupOutcome.TheVariants as ends
use Rattle.taps_group_exchange.specs.Cloning.{CloneRace, IsCloneRace, calls_of_races, socket_by, Failed}
use Rattle.taps_group_exchange.specs.GroupSessions.{IsUndone}
use Rattle.taps_group_exchange.specs.Members.{GroupTerms}
use Rattle.taps_cloning.specs.Opening.{IsOpenedGroup, HasOpenedAll, HasOpenedSome}
use Rattle.taps_cloning.proofs.Added.{added_each, added_none, close_behind}
use Rattle.taps_cloning.proofs.Growing.{AppendLaw, IsOpening, cloned_more, cloned_still, joined_group, same_group, members_count, most_same}
use Rattle.taps_cloning.proofs.Races.{count_more, made_more, cloned_all, cloned_to_limit, cloned_to_failure}

-- before the first one
pub opening_begins : {N : Type 0} {X : Type 0} {F : X → Type 0} (boxed : (x : X) → framer.Ghosts (F x)) (Becomes : N → List Call → N → Type 0) (before : N) (net : Net) (g : GroupTerms) (first : ℕ) (h : Group X F) → Becomes before [] before → IsOpenedGroup boxed g first net [] h → IsOpening boxed Becomes before before net net g first 0 h
opening_begins boxed Becomes before net g first h itself k = record {
  races = [];
  made = tt;
  counted = refl;
  raced = record { becomes = itself; trace = refl; preserved = refl; unused = tt; spare = omega arith; counted = omega arith };
  group = k;
}

-- a race of the group's target is one of the terms' target
clone_race : (target : Target) (leaf number timeout : ℕ) (g : GroupTerms) (r : CloneRace) → target ≡ g.target → leaf ≡ number → timeout ≡ g.timeout → AddEach r.calls r.items → IsLawfulRace (clone_rules timeout) leaf (target ∷ []) r.items r.answer → IsCloneRace g.target number g.timeout r
clone_race target leaf number timeout g r same here patience each lawful = record {
  each = each;
  lawful = subst (λ t. IsLawfulRace (clone_rules t) number (g.target ∷ []) r.items r.answer) patience (subst (λ n. IsLawfulRace (clone_rules timeout) n (g.target ∷ []) r.items r.answer) here (subst (λ t. IsLawfulRace (clone_rules timeout) leaf (t ∷ []) r.items r.answer) same lawful));
}

rose_since : (a b n : ℕ) → a ≤ b → Rose b n → Rose a n
rose_since a b n le h = omega (arith, le, h)

fault_of : (a : RaceAnswer) (o : GroupOutcome) → Failed a o → o ≡ ends.SocketFault → a ≡ answer.SocketFault
fault_of (answer.Ready leaf socket at) o f e = absurd f
fault_of answer.NoCandidate o f e = absurd f
fault_of answer.AllFailed o f e = absurd (let z : ends.CloneAllFailed ≡ ends.SocketFault = sym f ∙ e in cc)
fault_of answer.Timeout o f e = absurd (let z : ends.CloneTimeout ≡ ends.SocketFault = sym f ∙ e in cc)
fault_of answer.Closed o f e = absurd f
fault_of answer.SocketFault o f e = refl

none_by : (a : RaceAnswer) → IsFailure a → socket_by a ≡ []
none_by (answer.Ready leaf socket at) f = absurd f
none_by answer.NoCandidate f = refl
none_by answer.AllFailed f = refl
none_by answer.Timeout f = refl
none_by answer.Closed f = refl
none_by answer.SocketFault f = refl

module _ {N : Type 0} {X : Type 0} {F : X → Type 0} (boxed : (x : X) → framer.Ghosts (F x)) (Becomes : N → List Call → N → Type 0) (before now next : N) (net n1 n2 : Net) (g : GroupTerms) (first count leaf timeout : ℕ) (h h' : Group X F)
    (on : AppendLaw Becomes) (patience : timeout ≡ g.timeout) (number : leaf ≡ g.leaf + count) (fewer : count < g.clones) (later : n1.told ≤ n2.told) (added : HasAdded Becomes now next n1.trace n2.trace) (opening : IsOpening boxed Becomes before now net n1 g first count h) where
  so_many : length h.members.items ≡ 1 + length opening.races
  so_many = members_count boxed g first n1 opening.races h opening.made opening.group

  left : length opening.races < g.clones
  left = (let e = opening.counted in omega (arith, e, fewer))

  numbered : leaf ≡ g.leaf + length opening.races
  numbered = number ∙ ap (λ n. g.leaf + n) (sym opening.counted)

  below : length h.members.items < most_members h.props → 1 + length opening.races < most_members g.props
  below few = (let e = so_many in let most = most_same g h.props opening.group.props in omega (arith, few, e, most))

  race : (items : List Item) (a : RaceAnswer) → CloneRace
  race items a = record { calls = added.calls; items = items; answer = a }

  -- one more
  pub opening_on : (place total : ℕ) → count + 1 ≡ total → length h.members.items < most_members h.props → Joins boxed leaf timeout n1 n2 h place h' → IsOpening boxed Becomes before next net n2 g first total h'
  opening_on place total more few j =
      let c = j.raced.carried_out in
      let r : CloneRace = record { calls = added.calls; items = j.raced.race; answer = answer.Ready 0 j.socket j.at } in
      let each = added_each Becomes now next n1.trace n2.trace j.raced.race added c.items in
      let own = clone_race h.target leaf (g.leaf + length opening.races) timeout g r opening.group.target numbered patience each c.lawful in
      let some : 1 ≤ length h.members.items = (let e = so_many in omega (arith, e)) in
      record {
        races = opening.races ++ r ∷ [];
        made = made_more g g.leaf 1 opening.races r opening.made (below few) own (tt {0});
        counted = count_more opening.races r ∙ (ap (λ n. n + 1) opening.counted ∙ more);
        raced = cloned_more Becomes before now next net n1 n2 on h.target leaf timeout opening.races r opening.raced added.becomes c;
        group = joined_group boxed g first leaf timeout n1 n2 opening.races h r place h' j refl some later opening.group;
      }

  -- the race of the next one failed
  pub opening_fails : (a : RaceAnswer) (o : GroupOutcome) → length h.members.items < most_members h.props → Fails leaf timeout n1 n2 h a h' → Failed a o → HasOpenedAll boxed Becomes before next net n2 g first (Some o) h'
  opening_fails a o few f failed =
      let c = f.raced.carried_out in
      let r : CloneRace = record { calls = added.calls; items = f.raced.race; answer = a } in
      let each = added_each Becomes now next n1.trace n2.trace f.raced.race added c.items in
      let own = clone_race h.target leaf (g.leaf + length opening.races) timeout g r opening.group.target numbered patience each c.lawful in
      let size = count_more opening.races r in
      let fewer_left = left in
      record {
        races = opening.races ++ r ∷ [];
        cloned = cloned_to_failure g g.leaf 1 g.clones opening.races r o opening.made left (below few) own failed;
        few = omega (arith, size, fewer_left);
        raced = cloned_more Becomes before now next net n1 n2 on h.target leaf timeout opening.races r opening.raced added.becomes c;
        group = same_group boxed g first leaf timeout n1 n2 opening.races h r h' a f.same f.raced (none_by a f.failure) later opening.group;
        fault = λ e. rose_since net.faults n1.faults n2.faults opening.raced.counted (c.fault (fault_of a o failed (let z : o ≡ ends.SocketFault = cc in z)));
      }

  -- the group has as many members as it may have
  pub opening_full : (limit : ℕ) → ReachesLimit n1 n2 h limit h' → HasOpenedAll boxed Becomes before next net n2 g first (Some (ends.CloneLimit limit)) h'
  opening_full limit f =
      let most = most_same g h.props opening.group.props in
      let size = so_many in
      let reached = f.reached in
      let limit_is = f.limit_is in
      let fewer_left = left in
      let full : most_members g.props ≤ 1 + length opening.races = omega (arith, most, size, reached, limit_is) in
      let own : limit ≡ most_members g.props = f.limit_is ∙ most in
      let still : Becomes now [] next = subst (λ calls. Becomes now calls next) (added_none Becomes now next n1.trace n2.trace added (ap (λ (v : Net). v.trace) f.no_call)) added.becomes in
      subst (λ l. HasOpenedAll boxed Becomes before next net n2 g first (Some (ends.CloneLimit l)) h') (sym own) (record {
        races = opening.races;
        cloned = cloned_to_limit g g.leaf 1 g.clones opening.races opening.made left full;
        few = omega (arith, fewer_left);
        raced = cloned_still Becomes before now next net n1 n2 on opening.races opening.raced still f.no_call;
        group = subst (λ n. IsOpenedGroup boxed g first n opening.races h') (sym f.no_call) (subst (IsOpenedGroup boxed g first n1 opening.races) (sym f.same) opening.group);
        fault = λ e. absurd (let z : ends.CloneLimit (most_members g.props) ≡ ends.SocketFault = cc in cc);
      })

  -- there was no memory for it
  short_by : (begun : List Call) → added.calls ≡ begun → n1.spare ≤ n2.spare + 6 → IsUndone g (g.leaf + length opening.races) begun → IsSameGroup h h' → HasOpenedSome Becomes before next net n2 g first h'
  short_by begun e room undone same =
      let spare = opening.raced.spare in
      record {
        races = opening.races;
        begun = begun;
        made = opening.made;
        fewer = left;
        undone = undone;
        becomes = on before now next (calls_of_races opening.races) begun opening.raced.becomes (subst (λ calls. Becomes now calls next) e added.becomes);
        spare = omega (arith, spare, room);
        sockets = ap sockets_of same.members ∙ opening.group.sockets;
      }

  not_raced : HasNotRaced n1 n2 → IsSameGroup h h' → HasOpenedSome Becomes before next net n2 g first h'
  not_raced n same =
      let kept = n.spare in
      short_by [] (added_none Becomes now next n1.trace n2.trace added (ap (λ (v : Net). v.trace) n.same)) (omega (arith, kept)) (inl refl) same

  closed_again : HasClosedAgain h.target leaf timeout n1 n2 → IsSameGroup h h' → HasOpenedSome Becomes before next net n2 g first h'
  closed_again k same =
      let c = k.raced.carried_out in
      let items : n2.trace ≡ (item.Closed k.socket ∷ k.raced.race) ++ n1.trace = ap (λ (v : Net). v.trace) k.closed ∙ ap (λ v. item.Closed k.socket ∷ v) c.items in
      let each = added_each Becomes now next n1.trace n2.trace (item.Closed k.socket ∷ k.raced.race) added items in
      let last = close_behind added.calls k.socket k.raced.race each in
      let r : CloneRace = record { calls = last.others; items = k.raced.race; answer = answer.Ready 0 k.socket k.at } in
      let own = clone_race h.target leaf (g.leaf + length opening.races) timeout g r opening.group.target numbered patience last.each c.lawful in
      let few : length k.raced.race ≤ 4 * length (h.target ∷ []) + 1 = c.few in
      let few5 : length k.raced.race ≤ 5 = omega (arith, few) in
      let room = c.room in
      let spare : n2.spare ≡ k.raced_to.spare - 1 = ap (λ (v : Net). v.spare) k.closed in
      short_by (closes k.socket ∷ last.others) last.split (omega (arith, few5, room, spare)) (inr (r, (k.socket, (refl, own, refl)))) same

  pub opening_short : FindsNoMemory leaf timeout n1 n2 h h' → HasOpenedSome Becomes before next net n2 g first h'
  opening_short f = elim f.undone [
    | inl n ↦ not_raced n f.same
    | inr k ↦ closed_again k f.same
  ]

-- all of them were made
pub opening_ends : {N : Type 0} {X : Type 0} {F : X → Type 0} (boxed : (x : X) → framer.Ghosts (F x)) (Becomes : N → List Call → N → Type 0) (before now : N) (net n1 : Net) (g : GroupTerms) (first count : ℕ) (h : Group X F) → count ≡ g.clones → IsOpening boxed Becomes before now net n1 g first count h → HasOpenedAll boxed Becomes before now net n1 g first None h
opening_ends boxed Becomes before now net n1 g first count h all o =
    let size : length o.races ≡ g.clones = o.counted ∙ all in
    record {
      races = o.races;
      cloned = cloned_all g g.leaf 1 g.clones o.races o.made size;
      few = omega (arith, size);
      raced = o.raced;
      group = o.group;
      fault = λ e. absurd (let z : None ≡ Some ends.SocketFault = e in cc);
    }
