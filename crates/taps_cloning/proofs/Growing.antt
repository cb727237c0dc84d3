-- One more clone of a group, or none.
use Rattle.std.proofs.Common.{◌≡◌, ◌≤◌, ◌+◌, ◌*◌, ℕ, true, false, not, List, [], ◌∷◌, ◌++◌, length, refl, sym, ap, ◌∙◌, subst, arith, append_assoc, append-nil, length-append, eq-eqb}
use Rattle.std.specs.Prelude.{◌==◌}
use Rattle.std.proofs.lemmas.Bool.{eqb-true}
use Rattle.std.proofs.lemmas.List.{map-append, length-map}
use Rattle.taps_chain.specs.ChainLaws.{AreFramers}
use Rattle.taps_chain.specs.Layers.{layers_of}
use Rattle.taps_framer.specs.declared.framer.Framer as framer
use Rattle.taps_property.specs.declared.conn_state.ConnState.TheVariants.{Established}
use Rattle.taps_property.specs.declared.connection_props.ConnectionProps.{ConnectionProps}
use Rattle.taps_stack.specs.StackTable.{is_stream}
use Rattle.taps_stack.specs.declared.target.Target.{Target}
use Rattle.taps_socket.specs.declared.item.Item.{Item}
use Rattle.taps_socket.specs.declared.race_answer.RaceAnswer.{RaceAnswer}
use Rattle.taps_socket.specs.declared.race_answer.RaceAnswer.TheVariants as answer
use Rattle.taps_socket.specs.Calls.{Call, HasAdded}
use Rattle.taps_socket.specs.Net.{Net, IsUnused, PreservesTraffic}
use Rattle.taps_socket.specs.RaceSockets.{has, started, closed, open_sockets}
use Rattle.taps_socket.proofs.Lists.{kept, false_by}
use Rattle.taps_racer.specs.CarriedOut.{IsCarriedOut}
use Rattle.taps_connection.specs.Conditions.{IsHeld}
use Rattle.taps_connection.specs.Unread.{first_unread}
use Rattle.taps_group.specs.Clones.{clone_rules, HasRaced, IsClone, Joins}
use Rattle.taps_group.specs.Closes.{sockets_of}
use Rattle.taps_group.specs.Groups.{IsSameGroup}
use Rattle.taps_group.specs.Properties.{most_members, first_priority}
use Rattle.taps_group.specs.declared.group.Group.{Group}
use Rattle.taps_group.specs.declared.member.Member.{Member}
use Rattle.taps_group_exchange.specs.Cloning.{CloneRace, calls_of_races, items_of_races, socket_by, sockets_of_races, GaveSocket, AreMade}
use Rattle.taps_group_exchange.specs.GroupSessions.{sockets_by}
use Rattle.taps_group_exchange.specs.Members.{GroupTerms, own_priority}
use Rattle.taps_cloning.specs.Opening.{AreUnused, HasCloned, IsOpened, AreOpened, IsOpenedGroup}
use Rattle.taps_cloning.proofs.Keeping.{opened_along, opened_more, ready_in_time}
use Rattle.taps_cloning.proofs.Races.{calls_more, items_more, sockets_more, count_more}

-- calls of two lists follow one another
abbrev pub AppendLaw : {N : Type 0} → (N → List Call → N → Type 0) → Type 0
AppendLaw Becomes = (x y z : _) (first then : List Call) → Becomes x first y → Becomes y then z → Becomes x (then ++ first) z

-- so many clones were made
pub record IsOpening {N : Type 0} {X : Type 0} {F : X → Type 0} (boxed : (x : X) → framer.Ghosts (F x)) (Becomes : N → List Call → N → Type 0) (before now : N) (net net' : Net) (g : GroupTerms) (first count : ℕ) (h : Group X F) : Type 0 where
  pub races : List CloneRace
  pub made : AreMade g g.leaf 1 races
  pub counted : length races ≡ count
  pub raced : HasCloned Becomes before now net net' races
  pub group : IsOpenedGroup boxed g first net' races h

-- sockets without traffic
pub unused_more : (net : Net) (sockets others : List ℕ) → AreUnused net sockets → AreUnused net others → AreUnused net (sockets ++ others)
unused_more net [] others h k = k
unused_more net (s ∷ sockets) others h k = (h.0, unused_more net sockets others h.1 k)

unused_same : (net net' : Net) (sockets : List ℕ) → net'.traffic ≡ net.traffic → AreUnused net' sockets → AreUnused net sockets
unused_same net net' [] e h = tt
unused_same net net' (s ∷ sockets) e h = (subst (λ (t : ℕ → _). IsUnused (t s)) e h.0, unused_same net net' sockets e h.1)

-- the winner of a race was started in it
first_same : (s : ℕ) → has (s ∷ []) s ≡ true
first_same s = rw (eq-eqb s s refl) refl

winner_started : (race : List Item) (socket : ℕ) → open_sockets race ≡ socket ∷ [] → has (started race) socket ≡ true
winner_started race socket alone =
    let own : has (open_sockets race) socket ≡ true = subst (λ v. has v socket ≡ true) (sym alone) (first_same socket) in
    (kept (λ s. not (has (closed race) s)) (started race) socket own).1

unused_by : (target : Target) (leaf timeout : ℕ) (n1 n2 : Net) (race : List Item) (a : RaceAnswer) → IsCarriedOut (clone_rules timeout) leaf (target ∷ []) n1 n2 race a → AreUnused n2 (socket_by a)
unused_by target leaf timeout n1 n2 race (answer.Ready n socket at) c = (c.unused socket (winner_started race socket c.lawful.over.winner_alone), tt)
unused_by target leaf timeout n1 n2 race answer.NoCandidate c = tt
unused_by target leaf timeout n1 n2 race answer.AllFailed c = tt
unused_by target leaf timeout n1 n2 race answer.Timeout c = tt
unused_by target leaf timeout n1 n2 race answer.Closed c = tt
unused_by target leaf timeout n1 n2 race answer.SocketFault c = tt

pub race_of : {N : Type 0} (Becomes : N → List Call → N → Type 0) (a b : N) (t t' race : List Item) (x : RaceAnswer) → HasAdded Becomes a b t t' → CloneRace
race_of Becomes a b t t' race x added = record { calls = added.calls; items = race; answer = x }

module _ {N : Type 0} (Becomes : N → List Call → N → Type 0) (before now next : N) (net n1 n2 : Net) (on : AppendLaw Becomes) where
  -- one race more
  pub cloned_more : (target : Target) (leaf timeout : ℕ) (races : List CloneRace) (r : CloneRace) → HasCloned Becomes before now net n1 races → Becomes now r.calls next → IsCarriedOut (clone_rules timeout) leaf (target ∷ []) n1 n2 r.items r.answer → HasCloned Becomes before next net n2 (races ++ r ∷ [])
  cloned_more target leaf timeout races r h became c =
      let few : length r.items ≤ 4 * length (target ∷ []) + 1 = c.few in
      let room = c.room in
      let spare = h.spare in
      let size = count_more races r in
      let counted = h.counted in
      let more = c.counted in
      let preserved : PreservesTraffic net n2 = c.preserved ∙ ap (λ (v : Net). record v { trace = n2.trace; told = n2.told; spare = n2.spare; faults = n2.faults }) h.preserved in
      let own : AreUnused net (socket_by r.answer) = unused_same net n2 (socket_by r.answer) (ap (λ (v : Net). v.traffic) preserved) (unused_by target leaf timeout n1 n2 r.items r.answer c) in
      record {
        becomes = subst (λ calls. Becomes before calls next) (sym (calls_more races r)) (on before now next (calls_of_races races) r.calls h.becomes became);
        trace = c.items ∙ (ap (λ v. r.items ++ v) h.trace ∙ (sym (append_assoc r.items (items_of_races races) net.trace) ∙ ap (λ v. v ++ net.trace) (sym (items_more races r))));
        preserved = preserved;
        unused = subst (AreUnused net) (sym (sockets_more races r)) (unused_more net (sockets_of_races races) (socket_by r.answer) h.unused own);
        spare = (let few5 : length r.items ≤ 5 = omega (arith, few) in omega (arith, few5, room, spare, size));
        counted = omega (arith, counted, more);
      }

  -- no race more
  pub cloned_still : (races : List CloneRace) → HasCloned Becomes before now net n1 races → Becomes now [] next → n2 ≡ n1 → HasCloned Becomes before next net n2 races
  cloned_still races h became same = subst (λ n. HasCloned Becomes before next net n races) (sym same) (record {
    becomes = on before now next (calls_of_races races) [] h.becomes became;
    trace = h.trace;
    preserved = h.preserved;
    unused = h.unused;
    spare = h.spare;
    counted = h.counted;
  })

-- a clone has the priority of one of which nothing is said
later_priority : (g : GroupTerms) (n : ℕ) → 1 ≤ n → own_priority g n ≡ first_priority
later_priority g n some =
    let e : (n == 0) ≡ false = false_by (n == 0) (λ is. let zero_it : n ≡ 0 = eqb-true n 0 is in omega (arith, some, zero_it)) in
    rw e refl

-- each race gave a socket
one_by : (a : RaceAnswer) → GaveSocket a → length (socket_by a) ≡ 1
one_by (answer.Ready leaf socket at) h = refl
one_by answer.NoCandidate h = absurd h
one_by answer.AllFailed h = absurd h
one_by answer.Timeout h = absurd h
one_by answer.Closed h = absurd h
one_by answer.SocketFault h = absurd h

made_count : (g : GroupTerms) (leaf members : ℕ) (races : List CloneRace) → AreMade g leaf members races → length (sockets_of_races races) ≡ length races
made_count g leaf members [] h = refl
made_count g leaf members (r ∷ races) h =
    let size = length-append (socket_by r.answer) (sockets_of_races races) in
    let one = one_by r.answer h.1.1.0 in
    let rest = made_count g (leaf + 1) (members + 1) races h.1.1.1 in
    omega (arith, size, one, rest)

pub members_count : {X : Type 0} {F : X → Type 0} (boxed : (x : X) → framer.Ghosts (F x)) (g : GroupTerms) (first : ℕ) (net : Net) (races : List CloneRace) (h : Group X F) → AreMade g g.leaf 1 races → IsOpenedGroup boxed g first net races h → length h.members.items ≡ 1 + length races
members_count boxed g first net races h made k =
    let size : length (sockets_of h.members.items) ≡ length h.members.items = length-map h.members.items (λ (m : Member _ _). m.connection.socket) in
    let e : length (sockets_of h.members.items) ≡ length (first ∷ sockets_of_races races) = ap length k.sockets in
    let count = made_count g g.leaf 1 races made in
    omega (arith, size, e, count)

pub most_same : (g : GroupTerms) (props : ConnectionProps) → props ≡ record g.props { conn_state = Established } → most_members props ≡ most_members g.props
most_same g props e = ap most_members e

-- the new member
module _ {X : Type 0} {F : X → Type 0} (boxed : (x : X) → framer.Ghosts (F x)) (g : GroupTerms) (first leaf timeout : ℕ) (n1 n2 : Net) (races : List CloneRace) (h : Group X F) where
  opened_clone : (socket at place : ℕ) (m : Member X F) → IsOpenedGroup boxed g first n1 races h → HasRaced h.target leaf timeout n1 n2 (answer.Ready 0 socket at) → IsClone boxed socket at h.target.stack (layers_of boxed h.chain) h.props h.piece m → IsHeld n2.trace socket (is_stream h.target.stack) false false → 1 ≤ place →
      IsOpened boxed g n2.told n2.trace place m
  opened_clone socket at place m k raced clone held some =
      let c = raced.carried_out in
      let in_time : at ≤ n2.told = subst (λ n. at ≤ n) (sym c.told_last) (ready_in_time timeout raced.race 0 socket at c.lawful.over.over) in
      let layers = clone.layers ∙ k.layers in
      record {
        unused = record {
          since = at;
          sender = clone.sender;
          before = in_time;
          unread = clone.unread ∙ (ap (λ s. first_unread s h.piece (length (layers_of boxed h.chain))) (sym clone.stack_is)
              ∙ (ap (λ p. first_unread m.connection.stack p (length (layers_of boxed h.chain))) k.piece
              ∙ ap (λ fs. first_unread m.connection.stack g.piece (length fs)) (sym clone.layers)));
          goes_on = clone.goes_on;
          framers = subst AreFramers (sym layers) k.framers;
          held = subst (λ s. IsHeld n2.trace s (is_stream m.connection.stack) false false) (sym clone.socket_is) (subst (λ s. IsHeld n2.trace socket (is_stream s) false false) (sym clone.stack_is) held);
        };
        stack = clone.stack_is ∙ ap (λ (t : Target). t.stack) k.target;
        layers = layers;
        priority = clone.priority ∙ sym (later_priority g place some);
      }

  -- the group with one more
  pub joined_group : (r : CloneRace) (place : ℕ) (h' : Group X F) (j : Joins boxed leaf timeout n1 n2 h place h') → r.answer ≡ answer.Ready 0 j.socket j.at → 1 ≤ length h.members.items → n1.told ≤ n2.told → IsOpenedGroup boxed g first n1 races h → IsOpenedGroup boxed g first n2 (races ++ r ∷ []) h'
  joined_group r place h' j same some later k =
      let joined = j.joined in
      let rest = joined.rest in
      let m = joined.member in
      let c = j.raced.carried_out in
      let sockets : sockets_of h'.members.items ≡ sockets_by first races ++ j.socket ∷ [] =
      ap sockets_of joined.members ∙ (map-append (λ (x : Member X F). x.connection.socket) h.members.items (m ∷ []) ∙ (ap (λ v. v ++ m.connection.socket ∷ []) k.sockets ∙ ap (λ s. sockets_by first races ++ s ∷ []) joined.clone.socket_is)) in
      let own : socket_by r.answer ≡ j.socket ∷ [] = ap socket_by same in
      record {
        target = ap (λ (v : Group X F). v.target) rest ∙ k.target;
        layers = ap (λ (v : Group X F). layers_of boxed v.chain) rest ∙ k.layers;
        framers = k.framers;
        piece = ap (λ (v : Group X F). v.piece) rest ∙ k.piece;
        props = ap (λ (v : Group X F). v.props) rest ∙ k.props;
        none_accepted = ap (λ (v : Group X F). v.order.items) rest ∙ k.none_accepted;
        sockets = sockets ∙ (ap (λ v. first ∷ (sockets_of_races races ++ v)) (sym own) ∙ ap (λ v. first ∷ v) (sym (sockets_more races r)));
        members = subst (AreOpened boxed g n2.told n2.trace 0) (sym joined.members)
            (opened_more boxed g n2.told n2.trace 0 h.members.items m (opened_along boxed g n1.told n2.told j.raced.race n1.trace n2.trace 0 h.members.items c.new_sockets c.items later k.members)
            (opened_clone j.socket j.at (0 + length h.members.items) m k j.raced joined.clone j.held (omega (arith, some))));
      }

  -- the group without one
  pub same_group : (r : CloneRace) (h' : Group X F) (a : RaceAnswer) → IsSameGroup h h' → HasRaced h.target leaf timeout n1 n2 a → socket_by r.answer ≡ [] → n1.told ≤ n2.told → IsOpenedGroup boxed g first n1 races h → IsOpenedGroup boxed g first n2 (races ++ r ∷ []) h'
  same_group r h' a same raced none later k =
      let rest = same.rest in
      let c = raced.carried_out in
      record {
        target = ap (λ (v : Group X F). v.target) rest ∙ k.target;
        layers = ap (λ (v : Group X F). layers_of boxed v.chain) rest ∙ k.layers;
        framers = k.framers;
        piece = ap (λ (v : Group X F). v.piece) rest ∙ k.piece;
        props = ap (λ (v : Group X F). v.props) rest ∙ k.props;
        none_accepted = ap (λ (v : Group X F). v.order.items) rest ∙ k.none_accepted;
        sockets = ap sockets_of same.members ∙ (k.sockets ∙ (ap (λ v. first ∷ v) (sym (append-nil (sockets_of_races races))) ∙ (ap (λ v. first ∷ (sockets_of_races races ++ v)) (sym none) ∙ ap (λ v. first ∷ v) (sym (sockets_more races r)))));
        members = subst (AreOpened boxed g n2.told n2.trace 0) (sym same.members) (opened_along boxed g n1.told n2.told raced.race n1.trace n2.trace 0 h.members.items c.new_sockets c.items later k.members);
      }
