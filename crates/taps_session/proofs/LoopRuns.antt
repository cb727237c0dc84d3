-- From the calls of a session of both ends on recorded sockets to what is told of it.
use Rattle.std.proofs.Common.{◌≡◌, ◌<◌, ◌||◌, ◌++◌, ℕ, Bool, true, false, List, [], ◌∷◌, Some, Ok, Err, refl, sym, ◌∙◌, ap, subst, inl, inr, length, arith}
use Rattle.std.specs.Prelude.{◌==◌}
use Rattle.std.proofs.lemmas.Bool.{eqb-true}
use Rattle.std.proofs.lemmas.List.{append_cancel_right}
use Rattle.std.proofs.lemmas.List.Folds.{list_any-append}
use Rattle.taps_base.specs.Counts.{Rose}
use Rattle.taps_base.specs.declared.no_memory.NoMemory.{NoMemory}
use Rattle.taps_framer.specs.Layers.{Layer}
use Rattle.taps_stack.specs.declared.target.Target.{Target}
use Rattle.taps_socket.specs.declared.answers.ListenAnswer.TheVariants as listen
use Rattle.taps_socket.specs.declared.item.Item.{Item}
use Rattle.taps_socket.specs.declared.item.Item.TheVariants as item
use Rattle.taps_socket.specs.declared.race_answer.RaceAnswer.{RaceAnswer}
use Rattle.taps_socket.specs.declared.race_answer.RaceAnswer.TheVariants as answers
use Rattle.taps_socket.specs.Calls.{Call, listens, items_of, HasAdded}
use Rattle.taps_socket.specs.LawfulRace.{IsLawfulRace}
use Rattle.taps_socket.specs.LiveSockets.{given, named, IsNewSocket}
use Rattle.taps_socket.specs.Net.{Net, with_spare}
use Rattle.taps_socket.specs.Once.{IsOnce}
use Rattle.taps_socket.specs.RaceSockets.{has, closed}
use Rattle.taps_socket.specs.RaceTrace.{last_moment}
use Rattle.taps_socket.specs.Recorded.{Recorded, Records}
use Rattle.taps_socket.specs.Rules.{Rules}
use Rattle.taps_socket.proofs.Lists.{either, or_left, or_right, false_by}
use Rattle.taps_socket.proofs.NamedSockets.{closed_named}
use Rattle.taps_connection.specs.Listeners.{IsListening}
use Rattle.taps_connection.specs.declared.listener.Listener.{Listener}
use Rattle.taps_loop.specs.Rounds.{AreLoopItems}
use Rattle.taps_command.specs.Nets.{HasRun, IsClosedOnce, uncalled}
use Rattle.taps_command.specs.Ready.{Ready}
use Rattle.taps_session.specs.FileSessions.{listened, rules_of, targets_of}
use Rattle.taps_session.specs.Loops.{Behind, lost, dropped, timed, faulted, exchanged, Course, IsBehind, IsBegunBehind, behind_of, calls_of, up_to, beyond, members_of, members_by, outcome_of, outcome_by, held_of, IsTimedSo, IsSeenBoth, IsLoopOf, EndsBoth}
use Rattle.taps_session.specs.RacedBehind.{HasRacedBehind, IsRacedBehind}
use Rattle.taps_session.specs.Services.{first_target}
use Rattle.taps_session.specs.declared.looping.LoopEnded.{LoopEnded}
use Rattle.taps_session.proofs.Carrying.{ShowLaw}
use Rattle.taps_session.proofs.Ending.{AppendLaw}
use Rattle.taps_session.proofs.Observing.{observed}
use Rattle.taps_session.proofs.ServiceRuns.{IsRoomy}

-- what is seen of a recorder
abbrev seen : {N : Type 0} → (N → Net) → Recorded N → Net
seen net r = with_spare (net r.net) r.spare

-- a race that was carried out behind a listener over recorded sockets
pub record IsRacedOn {N : Type 0} (Becomes : N → List Call → N → Type 0) (net : N → Net) (a a' a2 b : Recorded N) (ready : Ready) (target : Target) (l : Listener) (rules : Rules) (targets : List Target) (x : RaceAnswer) : Type 0 where
  pub on : AppendLaw Becomes
  pub show : ShowLaw Becomes net
  pub room : IsRoomy Becomes net a a'
  pub first : first_target (listened ready) ≡ Some target
  pub same_rules : rules ≡ rules_of ready
  pub same_targets : targets ≡ targets_of ready
  pub listening : IsListening (Records Becomes) a' a2 (with_spare (net a'.net) a'.spare) (with_spare (net a2.net) a2.spare) target 1 l
  pub added : HasAdded (Records Becomes) a2 b (net a2.net).trace (net b.net).trace
  pub raced : HasRacedBehind rules targets (with_spare (net a2.net) a2.spare) (with_spare (net b.net) b.spare) x

module _ {N : Type 0} (Becomes : N → List Call → N → Type 0) (net : N → Net) (a a' a2 b : Recorded N) (ready : Ready) (target : Target) (l : Listener) (rules : Rules) (targets : List Target) (x : RaceAnswer) (h : IsRacedOn Becomes net a a' a2 b ready target l rules targets x) where
  start : (net a2.net).trace ≡ item.Listening target l.socket h.listening.at ∷ []
  start = ap (λ (v : Net). v.trace) h.listening.changed ∙ ap (λ t. item.Listening target l.socket h.listening.at ∷ t) (ap (λ (v : Net). v.trace) h.room.roomy ∙ h.room.fresh)

  pub stands : IsRacedBehind rules targets l.socket target (seen net a2) (seen net b) h.raced.race x
  stands = h.raced.behind l.socket h.listening.at target start

  same_race : h.raced.race ≡ h.added.items
  same_race = append_cancel_right h.raced.race h.added.items (net a2.net).trace (sym stands.items ∙ h.added.added)

  pub told_is : (net b.net).told ≡ last_moment h.added.items
  told_is = stands.told_last ∙ ap last_moment same_race

  abbrev pub course_with : Behind → Course
  course_with behind = record { listener = l.socket; since = h.listening.at; raced = h.added.calls; race = h.added.items; answer = x; behind = behind }

  lawful : IsLawfulRace (rules_of ready) 0 (targets_of ready) h.added.items x
  lawful =
      subst (λ v. IsLawfulRace (rules_of ready) 0 v h.added.items x) h.same_targets
      (subst (λ v. IsLawfulRace v 0 targets h.added.items x) h.same_rules
      (subst (λ v. IsLawfulRace rules 0 targets v x) same_race stands.lawful))

  first_calls : Becomes a.net (h.added.calls ++ listens target (listen.Listening l.socket h.listening.at) ∷ []) b.net
  first_calls = h.on a.net a2.net b.net (listens target (listen.Listening l.socket h.listening.at) ∷ []) h.added.calls
      (h.on a.net a'.net a2.net [] (listens target (listen.Listening l.socket h.listening.at) ∷ []) h.room.none.becomes h.listening.becomes.becomes) h.added.becomes.becomes

  timed_same : (net b.net).timed ≡ (net a.net).timed
  timed_same = ap (λ (v : Net). v.timed) stands.preserved ∙ ap (λ (v : Net). v.timed) h.listening.changed ∙ ap (λ (v : Net). v.timed) h.room.roomy

  faults_same : (net a2.net).faults ≡ (net a.net).faults
  faults_same = ap (λ (v : Net). v.faults) h.listening.changed ∙ ap (λ (v : Net). v.faults) h.room.roomy

  pub race_items : (net b.net).trace ≡ h.added.items ++ item.Listening target l.socket h.listening.at ∷ []
  race_items = h.added.added ∙ ap (λ v. h.added.items ++ v) start

  -- what is seen behind all calls
  abbrev more_of : Behind → List Call
  more_of behind = behind_of ready (course_with behind)

  abbrev first_items : List Item
  first_items = h.added.items ++ item.Listening target l.socket h.listening.at ∷ []

  whole : (c : Recorded N) (behind : Behind) → Becomes b.net (more_of behind) c.net → Becomes a.net (calls_of ready target (course_with behind)) c.net
  whole c behind bc = h.on a.net b.net c.net (h.added.calls ++ listens target (listen.Listening l.socket h.listening.at) ∷ []) (more_of behind) first_calls bc

  pub items_behind : (c : Recorded N) (behind : Behind) → Becomes b.net (more_of behind) c.net → (net c.net).trace ≡ items_of (more_of behind) ++ first_items
  items_behind c behind bc = (h.show b.net c.net (more_of behind) bc).trace ∙ ap (λ v. items_of (more_of behind) ++ v) race_items

  seen_so : (c : Recorded N) (behind : Behind) → Becomes b.net (more_of behind) c.net → IsTimedSo behind (net b.net).timed (net c.net).timed → ((at : ℕ) → behind ≡ faulted at → Rose (net b.net).faults (net c.net).faults)
      → IsSeenBoth (course_with behind) (uncalled (net a.net)) (record { net = net c.net; calls = calls_of ready target (course_with behind) })
  seen_so c behind bc so fault =
      let early = (h.show a.net b.net (h.added.calls ++ listens target (listen.Listening l.socket h.listening.at) ∷ []) first_calls).faults in
      let late = (h.show b.net c.net (more_of behind) bc).faults in
      let same = faults_same in
      record {
        timed_so = subst (λ v. IsTimedSo behind v (net c.net).timed) timed_same so;
        fault = λ e. (let rose : Rose (net a2.net).faults (net b.net).faults = stands.fault e in omega (arith, rose, late, same));
        accept_fault = λ at e. (let rose : Rose (net b.net).faults (net c.net).faults = fault at e in omega (arith, rose, early));
        observed = λ s unused. observed (net a.net) (net c.net) (calls_of ready target (course_with behind)) s (h.show a.net c.net (calls_of ready target (course_with behind)) (whole c behind bc)) unused;
      }

  pub cut_at : (c : Recorded N) (shelf : List Layer) (behind : Behind) (none : NoMemory) → Becomes b.net (more_of behind) c.net → IsBegunBehind shelf ready target x behind → IsClosedOnce (net c.net).trace
      → HasRun Becomes a.net c.net (net a.net) (net c.net) (EndsBoth shelf ready target (Err none))
  cut_at c shelf behind none bc begun once =
      record {
        calls = calls_of ready target (course_with behind);
        becomes = whole c behind bc;
        shows = h.show a.net c.net (calls_of ready target (course_with behind)) (whole c behind bc);
        holds = record {
          ended = tt;
          leaves = inr (record { target = target; first = h.first; begun = inr (inr (record { course = course_with behind; all = refl; each = h.added.each; lawful = lawful; behind = begun })) });
          closed_once = once;
        };
      }

-- the items of a session are those before the answer and those behind it
parts_so : (x : RaceAnswer) (behind race : List Item) → behind ++ race ≡ beyond x behind ++ up_to x behind race
parts_so (answers.Ready leaf socket at) behind race = refl
parts_so x behind race = refl

-- a whole course is begun
begun_so : (shelf : List Layer) (ready : Ready) (target : Target) (x : RaceAnswer) (behind : Behind) → IsBehind shelf ready target x behind → IsBegunBehind shelf ready target x behind
begun_so shelf ready target (answers.Ready leaf socket at) lost h = absurd h
begun_so shelf ready target (answers.Ready leaf socket at) dropped h = absurd h
begun_so shelf ready target (answers.Ready leaf socket at) (timed when) h = tt
begun_so shelf ready target (answers.Ready leaf socket at) (faulted when) h = tt
begun_so shelf ready target (answers.Ready leaf socket at) (exchanged to since calls o) h = h.in_turn
begun_so shelf ready target x lost h = tt
begun_so shelf ready target x behind h = absurd h

module _ {N : Type 0} (Becomes : N → List Call → N → Type 0) (net : N → Net) (a a' a2 b : Recorded N) (ready : Ready) (target : Target) (l : Listener) (rules : Rules) (targets : List Target) (x : RaceAnswer) (h : IsRacedOn Becomes net a a' a2 b ready target l rules targets x) where
  abbrev course : Behind → Course
  course = course_with Becomes net a a' a2 b ready target l rules targets x h

  pub finished : (c : Recorded N) (shelf : List Layer) (behind : Behind) (e : LoopEnded) → Becomes b.net (behind_of ready (course behind)) c.net → IsBehind shelf ready target x behind
      → IsTimedSo behind (net b.net).timed (net c.net).timed → ((at : ℕ) → behind ≡ faulted at → Rose (net b.net).faults (net c.net).faults) → IsClosedOnce (net c.net).trace
      → e.before ≡ length (held_of shelf ready target (course behind)).before → Some x ≡ Some e.answer → members_of shelf ready target x behind ≡ members_by e.looped → outcome_of behind ≡ outcome_by e.looped
      → HasRun Becomes a.net c.net (net a.net) (net c.net) (EndsBoth shelf ready target (Ok e))
  finished c shelf behind e bc ok so fault once count answer members outcome =
      let session : IsLoopOf shelf ready target (course behind) = record { each = h.added.each; lawful = lawful Becomes net a a' a2 b ready target l rules targets x h; behind = ok } in
      let items = items_behind Becomes net a a' a2 b ready target l rules targets x h c behind bc in
      record {
        calls = calls_of ready target (course behind);
        becomes = whole Becomes net a a' a2 b ready target l rules targets x h c behind bc;
        shows = h.show a.net c.net (calls_of ready target (course behind)) (whole Becomes net a a' a2 b ready target l rules targets x h c behind bc);
        holds = record {
          ended = record {
            held = held_of shelf ready target (course behind);
            ran = inr (record {
              course = course behind;
              calls = refl;
              session = session;
              seen = seen_so Becomes net a a' a2 b ready target l rules targets x h c behind bc so fault;
              kept = refl;
            });
            items = items ∙ parts_so x (items_of (behind_of ready (course behind))) (h.added.items ++ item.Listening target l.socket h.listening.at ∷ []);
            before = count;
            answer = answer;
            members = members;
            outcome = outcome;
          };
          leaves = inr (record { target = target; first = h.first; begun = inr (inr (record { course = course behind; all = refl; each = h.added.each; lawful = session.lawful; behind = begun_so shelf ready target x behind ok })) });
          closed_once = once;
        };
      }

-- items of both ends' data give and close no socket
loop_given : (from to : ℕ) (items t : List Item) → AreLoopItems from to items → given (items ++ t) ≡ given t
loop_given from to [] t h = refl
loop_given from to (item.Shut s ∷ items) t h = loop_given from to items t h.1
loop_given from to (item.Ended s ∷ items) t h = loop_given from to items t h.1
loop_given from to (item.DataFailed s sending cause ∷ items) t h = loop_given from to items t h.1
loop_given from to (i ∷ items) t h = elim h.0 [
  | inl never ↦ absurd never
  | inr never ↦ absurd never
]

loop_closed : (from to : ℕ) (items t : List Item) → AreLoopItems from to items → closed (items ++ t) ≡ closed t
loop_closed from to [] t h = refl
loop_closed from to (item.Shut s ∷ items) t h = loop_closed from to items t h.1
loop_closed from to (item.Ended s ∷ items) t h = loop_closed from to items t h.1
loop_closed from to (item.DataFailed s sending cause ∷ items) t h = loop_closed from to items t h.1
loop_closed from to (i ∷ items) t h = elim h.0 [
  | inl never ↦ absurd never
  | inr never ↦ absurd never
]

-- the number of the accepted socket is another one than those before
less_than : (x s : ℕ) (q : Bool) → (x == s) ≡ q → s < x → q ≡ false
less_than x s true e less = let same : x ≡ s = eqb-true x s e in absurd (omega arith)
less_than x s false e less = refl

more_than : (x s : ℕ) (q : Bool) → (s == x) ≡ q → s < x → q ≡ false
more_than x s true e less = let same : s ≡ x = eqb-true s x e in absurd (omega arith)
more_than x s false e less = refl

never_both : (p q : Bool) → p ≡ false → q ≡ false → (p || q) ≡ false
never_both p q e f = rw (e, f) refl

among : (p q r : Bool) → (p || r) ≡ true → (p || (q || r)) ≡ true
among true q r h = refl
among false q r h = or_right q r h

itself : (p q r : Bool) → q ≡ true → (p || (q || r)) ≡ true
itself true q r h = refl
itself false q r h = or_left q r h

by_append : (xs : List ℕ) (to s : ℕ) → has (xs ++ to ∷ []) s ≡ true → (has xs s || has (to ∷ []) s) ≡ true
by_append xs to s h = rw list_any-append at h

-- with the closes of both ends and of the listener every socket is closed once
pub closed_looped : (l from to at : ℕ) (items t : List Item) → IsNewSocket to t → has (named t) l ≡ true → has (named t) from ≡ true → AreLoopItems from to items → IsClosedOnce (item.Closed l ∷ item.Closed from ∷ t)
    → IsClosedOnce (item.Closed l ∷ item.Closed to ∷ item.Closed from ∷ (items ++ item.Accepted l to at ∷ t))
closed_looped l from to at items t new l_named from_named own h =
    let gives : given (items ++ item.Accepted l to at ∷ t) ≡ given t ++ to ∷ [] = loop_given from to items (item.Accepted l to at ∷ t) own in
    let shuts : closed (items ++ item.Accepted l to at ∷ t) ≡ closed t = loop_closed from to items (item.Accepted l to at ∷ t) own in
    let unclosed : has (closed t) to ≡ false = false_by (has (closed t) to) (λ is. (let less : to < to = new to (closed_named t to is) in omega arith)) in
    record {
      all = λ s there.
          let there' : (has (given t) s || has (to ∷ []) s) ≡ true = by_append (given t) to s (subst (λ v. has v s ≡ true) gives there) in
          subst (λ v. has (l ∷ to ∷ from ∷ v) s ≡ true) (sym shuts)
          (elim (either (has (given t) s) (has (to ∷ []) s) there') [
            | inl before ↦ among (l == s) (to == s) (has (from ∷ closed t) s) (h.all s before)
            | inr is ↦ itself (l == s) (to == s) (has (from ∷ closed t) s) (elim (either (to == s) false is) [
              | inl same ↦ same
              | inr wrong ↦ (let z : false ≡ true = wrong in cc)
            ])
          ]);
      once = subst (λ v. IsOnce (l ∷ to ∷ from ∷ v)) (sym shuts) (
        never_both (to == l) (has (from ∷ closed t) l) (less_than to l (to == l) refl (new l l_named)) h.once.0,
        (never_both (from == to) (has (closed t) to) (more_than to from (from == to) refl (new from from_named)) unclosed, h.once.1),
      );
    }
