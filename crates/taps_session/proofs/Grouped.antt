-- From a race, and the session of a group behind it, to what is told of it.
use Rattle.std.proofs.Common.{◌≡◌, ◌≤◌, ◌<◌, ℕ, zero, suc, true, false, List, [], ◌∷◌, ◌++◌, Option, Some, None, Result, Ok, Err, length, refl, sym, ◌∙◌, ap, subst, inl, inr, map, append-nil, arith}
use Rattle.std.specs.Prelude.{reverse}
use Rattle.std.specs.Result.{IsErr}
use Rattle.taps_base.specs.Counts.{Rose}
use Rattle.taps_base.specs.declared.no_memory.NoMemory.{NoMemory}
use Rattle.taps_framer.specs.Layers.{Layer}
use Rattle.taps_stack.specs.declared.target.Target.{Target}
use Rattle.taps_socket.specs.declared.item.Item.{Item}
use Rattle.taps_socket.specs.declared.race_answer.RaceAnswer.{RaceAnswer}
use Rattle.taps_socket.specs.declared.race_answer.RaceAnswer.TheVariants as answers
use Rattle.taps_socket.specs.Calls.{Call, closes, items_of, HasAdded}
use Rattle.taps_socket.specs.Net.{Net, with_spare}
use Rattle.taps_socket.specs.RaceTrace.{last_moment}
use Rattle.taps_socket.specs.Recorded.{Recorded, Records}
use Rattle.taps_socket.specs.Rules.{Rules}
use Rattle.taps_socket.specs.Shows.{Shows}
use Rattle.taps_exchange.specs.declared.outcome.Outcome.{Outcome}
use Rattle.taps_exchange.specs.declared.outcome.Outcome.TheVariants as outcome
use Rattle.taps_group_exchange.specs.declared.outcome.GroupOutcome.{GroupOutcome}
use Rattle.taps_group_exchange.specs.declared.outcome.GroupOutcome.TheVariants as ends
use Rattle.taps_group_exchange.specs.declared.told.Told.{Told}
use Rattle.taps_group_exchange.specs.Cloning.{sockets_of_races}
use Rattle.taps_group_exchange.specs.GroupExchanges.{told_by}
use Rattle.taps_group_exchange.specs.GroupSessions as groups
use Rattle.taps_group_exchange.specs.GroupSessions.{IsCutBehind, IsCutGroup, IsGroupSession}
use Rattle.taps_group_exchange.specs.MemberLaws.{JudgesMembers}
use Rattle.taps_group_exchange.specs.Members.{GroupTerms}
use Rattle.taps_cloning.specs.Holding.{IsCutHeld, count_with, members_told}
use Rattle.taps_cloning.specs.Opening.{AreUnused}
use Rattle.taps_cloning.specs.declared.held.HeldGroup.{HeldGroup}
use Rattle.taps_text.specs.declared.outcome.Outcome.TheVariants as line
use Rattle.taps_command.specs.Nets.{HasRun, SocketsState, uncalled}
use Rattle.taps_command.specs.Ready.{Ready}
use Rattle.taps_command.proofs.Running.{none_closed}
use Rattle.taps_session.specs.FileGroups.{group_of}
use Rattle.taps_session.specs.FileSessions.{targets_of}
use Rattle.taps_session.specs.Groups.{GroupBehind, GroupedCourse, calls_behind, IsCutSession, IsGroupedSession}
use Rattle.taps_session.specs.GroupLogs.{ShowBytesOf, HoldsGrouped, IsGroupSeen, held_of_group, log_by, outcome_with}
use Rattle.taps_session.specs.GroupParts.{EndsGrouped, GroupGoesOn, IsGroupEnded, IsWithWinner, log_told, logs_by, outcome_by}
use Rattle.taps_session.specs.Raced.{HasUnusedWinner}
use Rattle.taps_session.specs.Session.{parted}
use Rattle.taps_session.specs.SessionLogs.{Held, outcome_told}
use Rattle.taps_session.specs.declared.grouping.GroupEnded.{GroupEnded}
use Rattle.taps_session.proofs.Carrying.{IsCarried, ShowLaw, all_items, count_is, has_race, seen}
use Rattle.taps_session.proofs.Recording.{returned}
use Rattle.taps_session.proofs.Ending.{AppendLaw, HasRace}
use Rattle.taps_session.proofs.GroupCloses.{closed_once, cut_session_closes, whole_closes}
use Rattle.taps_session.proofs.GroupJudged.{members_judged, sockets_apart}
use Rattle.taps_session.proofs.Logs.{no_calls, no_items}
use Rattle.taps_session.proofs.Observing.{observed}
use Rattle.taps_session.proofs.Parts.{parts}

-- what was sent and heard, as it is told
logs_are : (told : List Told) → map log_told told ≡ map log_by (map told_by told)
logs_are [] = refl
logs_are (t ∷ told) = ap (λ v. log_told t ∷ v) (logs_are told)

-- an exchange ends with no fault
never_faulted : (o : Outcome) → outcome_told o ≡ line.SocketFault → ⊥
never_faulted outcome.Done e = cc
never_faulted (outcome.Expired member number) e = cc
never_faulted outcome.Timed e = cc
never_faulted (outcome.DataFailed cause) e = cc
never_faulted outcome.PeerEnded e = cc
never_faulted (outcome.BadFrame bad) e = cc
never_faulted (outcome.NotSpeakable member number layer) e = cc

is_fault : (o : GroupOutcome) → outcome_with o ≡ line.SocketFault → o ≡ ends.SocketFault
is_fault (ends.Exchanged x) e = absurd (never_faulted x e)
is_fault (ends.CloneLimit limit) e = cc
is_fault ends.CloneAllFailed e = cc
is_fault ends.CloneTimeout e = cc
is_fault ends.SocketFault e = refl

rose_behind : (before then now : ℕ) → before ≤ then → Rose then now → Rose before now
rose_behind before then now few rose = omega arith

-- the bytes of sockets that had none before
bytes_of : (n n' : Net) (calls : List Call) (sockets : List ℕ) → Shows n calls n' → AreUnused n sockets → ShowBytesOf n' sockets calls
bytes_of n n' calls [] shows unused = tt
bytes_of n n' calls (s ∷ sockets) shows unused = (observed n n' calls s shows unused.0, bytes_of n n' calls sockets shows unused.1)

module _ {S : Type 0} (Becomes : S → List Call → S → Type 0) (a b c : S) (n n1 n2 : Net) (shelf : List Layer) (ready : Ready) (raced : List Call) (race : List Item) (on : AppendLaw Becomes) (law : JudgesMembers) (fresh : n.trace ≡ [])
    (shows : (calls : List Call) → Becomes a calls c → Shows n calls n2) (shows_first : (calls : List Call) → Becomes a calls b → Shows n calls n1) (shows_then : (calls : List Call) → Becomes b calls c → Shows n1 calls n2) where
  -- the session of the group was held
  held_behind : (leaf socket won count : ℕ) (h : HeldGroup) → count ≡ length race → HasRace Becomes a b n n1 ready raced race (answers.Ready leaf socket won) → n1.told ≡ last_moment race
      → IsWithWinner Becomes b c n1 n2 shelf ready (targets_of ready) leaf socket (Ok (Some h))
      → HasRun Becomes a c n n2 (EndsGrouped shelf ready (Ok (record { raced = count; answer = answers.Ready leaf socket won; held = Some h })))
  held_behind leaf socket won count h counted r told w =
      let e = w.group in
      let g : GroupTerms = group_of shelf ready w.target in
      let session : IsGroupSession g socket (last_moment race) e.course = subst (λ (v : ℕ). IsGroupSession g socket v e.course) told e.session in
      let b' : GroupBehind = record { target = w.target; socket = socket; course = e.course } in
      let course : GroupedCourse = record { raced = raced; race = race; answer = answers.Ready leaf socket won; behind = Some b' } in
      let grouped : IsGroupedSession shelf ready course = record { each = r.each; lawful = r.lawful; group = record { target = w.won; first = refl; session = session } } in
      let behind : List Call = groups.calls_of socket e.course in
      let becomes : Becomes a (behind ++ raced) c = on a b c raced behind r.becomes e.becomes in
      let then = shows_then behind e.becomes in
      let told_members : members_told g socket n1.told e.course ≡ members_told g socket (last_moment race) e.course = ap (λ v. members_told g socket v e.course) told in
      let seen : IsGroupSeen shelf ready course n n2 = record {
        items = then.trace ∙ ap (λ v. items_of behind ++ v) r.items;
        timed = e.timed ∙ ap (count_with h.outcome) r.timed ∙ ap (λ v. count_with v n.timed) (sym e.outcome);
        fault = λ f. cc;
        clone_fault = λ f. rose_behind n.faults n1.faults n2.faults (shows_first raced r.becomes).faults (e.fault (sym e.outcome ∙ is_fault e.course.outcome f));
        judged = members_judged law g socket (last_moment race) e.course session (sockets_apart n n1 n2 raced socket e.course fresh (shows_first raced r.becomes) then);
        observed = (observed n1 n2 behind socket then r.unused, bytes_of n1 n2 behind (sockets_of_races e.course.clones) then e.unused);
      } in
      record {
        calls = behind ++ raced;
        becomes = becomes;
        shows = shows (behind ++ raced) becomes;
        holds = record {
          ended = record {
            course = course;
            calls = refl;
            session = grouped;
            seen = seen;
            raced = counted;
            answer = refl;
            members = logs_are h.members.items ∙ ap (map log_by) (e.told_is ∙ told_members);
            outcome = ap outcome_with (sym e.outcome);
          };
          leaves = inr (inl (record { course = course; all = refl; session = grouped }));
          closed_once = closed_once n n2 (behind ++ raced) fresh (shows (behind ++ raced) becomes) (whole_closes shelf ready course grouped);
        };
      }

  -- memory cut it short
  cut_behind : (leaf socket won : ℕ) (none : NoMemory) → HasRace Becomes a b n n1 ready raced race (answers.Ready leaf socket won) → n1.told ≡ last_moment race
      → IsWithWinner Becomes b c n1 n2 shelf ready (targets_of ready) leaf socket (Err none) → HasRun Becomes a c n n2 (EndsGrouped shelf ready (Err none))
  cut_behind leaf socket won none r told w =
      let e = w.group in
      let g : GroupTerms = group_of shelf ready w.target in
      let cut : IsCutGroup g socket (last_moment race) e.calls = subst (λ (v : ℕ). IsCutGroup g socket v e.calls) told e.cut in
      let begun : IsCutSession shelf ready (e.calls ++ raced) = record {
        raced = raced;
        race = race;
        answer = answers.Ready leaf socket won;
        begun = e.calls;
        split = refl;
        each = r.each;
        lawful = r.lawful;
        cut = record { target = w.target; won = w.won; cut = cut };
      } in
      let becomes : Becomes a (e.calls ++ raced) c = on a b c raced e.calls r.becomes e.becomes in
      record {
        calls = e.calls ++ raced;
        becomes = becomes;
        shows = shows (e.calls ++ raced) becomes;
        holds = record {
          ended = tt;
          leaves = inr (inr begun);
          closed_once = closed_once n n2 (e.calls ++ raced) fresh (shows (e.calls ++ raced) becomes) (cut_session_closes shelf ready (e.calls ++ raced) begun);
        };
      }

  -- there was no winner
  alone_behind : (x : RaceAnswer) (count : ℕ) → count ≡ length race → HasRace Becomes a b n n1 ready raced race x → IsGroupedSession shelf ready (record { raced = raced; race = race; answer = x; behind = None })
      → Becomes b [] c → n2 ≡ n1 → HasRun Becomes a c n n2 (EndsGrouped shelf ready (Ok (record { raced = count; answer = x; held = None })))
  alone_behind x count counted r grouped none same =
      let course : GroupedCourse = record { raced = raced; race = race; answer = x; behind = None } in
      let becomes : Becomes a raced c = on a b c raced [] r.becomes none in
      let seen : IsGroupSeen shelf ready course n n2 = record {
        items = ap (λ (v : Net). v.trace) same ∙ r.items;
        timed = ap (λ (v : Net). v.timed) same ∙ r.timed;
        fault = λ f. subst (λ (v : Net). Rose n.faults v.faults) (sym same) (r.fault f);
        clone_fault = λ f. cc;
        judged = tt;
        observed = tt;
      } in
      record {
        calls = raced;
        becomes = becomes;
        shows = shows raced becomes;
        holds = record {
          ended = record {
            course = course;
            calls = refl;
            session = grouped;
            seen = seen;
            raced = counted;
            answer = refl;
            members = refl;
            outcome = refl;
          };
          leaves = inr (inl (record { course = course; all = refl; session = grouped }));
          closed_once = closed_once n n2 raced fresh (shows raced becomes) (whole_closes shelf ready course grouped);
        };
      }

  -- the session went on behind its race and came to an end
  pub grouped_ok : (x : RaceAnswer) (count : ℕ) (o : Option HeldGroup) → count ≡ length race → HasRace Becomes a b n n1 ready raced race x → n1.told ≡ last_moment race
      → GroupGoesOn Becomes b c n1 n2 shelf ready (targets_of ready) x (Ok o) → HasRun Becomes a c n n2 (EndsGrouped shelf ready (Ok (record { raced = count; answer = x; held = o })))
  grouped_ok (answers.Ready leaf socket won) count (Some h) counted r told go = held_behind leaf socket won count h counted r told go
  grouped_ok (answers.Ready leaf socket won) count None counted r told go = absurd go.group
  grouped_ok x count (Some h) counted r told go = absurd go
  grouped_ok x count None counted r told go = alone_behind x count counted r (record { each = r.each; lawful = r.lawful; group = refl }) go.0 go.1

  -- or memory cut it short
  pub grouped_err : (x : RaceAnswer) (none : NoMemory) → HasRace Becomes a b n n1 ready raced race x → n1.told ≡ last_moment race
      → GroupGoesOn Becomes b c n1 n2 shelf ready (targets_of ready) x (Err none) → HasRun Becomes a c n n2 (EndsGrouped shelf ready (Err none))
  grouped_err (answers.Ready leaf socket won) none r told go = cut_behind leaf socket won none r told go
  grouped_err x none r told go = absurd go

-- a race over recorded sockets is one over the sockets below
unused_under : (n : Net) (s : ℕ) (x : RaceAnswer) → HasUnusedWinner (with_spare n s) x → HasUnusedWinner n x
unused_under n s (answers.Ready leaf socket at) h = h
unused_under n s x h = tt

race_under : {N : Type 0} (Becomes : N → List Call → N → Type 0) (net : N → Net) (a b : Recorded N) (ready : Ready) (raced : List Call) (race : List Item) (x : RaceAnswer) → HasRace (Records Becomes) a b (seen net a) (seen net b) ready raced race x
    → HasRace Becomes a.net b.net (net a.net) (net b.net) ready raced race x
race_under Becomes net a b ready raced race x r = record {
  becomes = r.becomes.becomes;
  each = r.each;
  items = r.items;
  lawful = r.lawful;
  timed = r.timed;
  unused = unused_under (net b.net) b.spare x r.unused;
  fault = r.fault;
  closed_once = r.closed_once;
}

module _ {N : Type 0} (Becomes : N → List Call → N → Type 0) (net : N → Net) (a a' b : Recorded N) (shelf : List Layer) (ready : Ready) (on : AppendLaw Becomes) (law : JudgesMembers) (show : ShowLaw Becomes net) where
  told_there : (rules : Rules) (targets : List Target) (x : RaceAnswer) (h : IsCarried Becomes net a a' b ready rules targets x) → (net b.net).told ≡ last_moment h.added.items
  told_there rules targets x h = h.raced.told_last ∙ ap last_moment (all_items Becomes net a a' b ready rules targets x h)

  -- the session behind a race over recorded sockets
  pub carried_group : (c : Recorded N) (rules : Rules) (targets : List Target) (x : RaceAnswer) (items : List Item) (count : ℕ) (o : Option HeldGroup) → IsCarried Becomes net a a' b ready rules targets x → reverse items ≡ (net b.net).trace → count ≡ length items
      → GroupGoesOn Becomes b.net c.net (net b.net) (net c.net) shelf ready targets x (Ok o)
      → HasRun Becomes a.net c.net (net a.net) (net c.net) (EndsGrouped shelf ready (Ok (record { raced = count; answer = x; held = o })))
  carried_group c rules targets x items count o h recorded counted go =
      let raced : List Call = h.added.calls ++ [] in
      grouped_ok Becomes a.net b.net c.net (net a.net) (net b.net) (net c.net) shelf ready raced h.added.items on law h.fresh (show a.net c.net) (show a.net b.net) (show b.net c.net) x count o
      (counted ∙ count_is items (net b.net).trace h.added.items recorded (all_items Becomes net a a' b ready rules targets x h))
      (race_under Becomes net a b ready raced h.added.items x (has_race Becomes net a a' b ready rules targets x on h))
      (told_there rules targets x h) (subst (λ v. GroupGoesOn Becomes b.net c.net (net b.net) (net c.net) shelf ready v x (Ok o)) h.same_targets go)

  pub carried_group_cut : (c : Recorded N) (rules : Rules) (targets : List Target) (x : RaceAnswer) (none : NoMemory) → IsCarried Becomes net a a' b ready rules targets x
      → GroupGoesOn Becomes b.net c.net (net b.net) (net c.net) shelf ready targets x (Err none) → HasRun Becomes a.net c.net (net a.net) (net c.net) (EndsGrouped shelf ready (Err none))
  carried_group_cut c rules targets x none h go =
      let raced : List Call = h.added.calls ++ [] in
      grouped_err Becomes a.net b.net c.net (net a.net) (net b.net) (net c.net) shelf ready raced h.added.items on law h.fresh (show a.net c.net) (show a.net b.net) (show b.net c.net) x none
      (race_under Becomes net a b ready raced h.added.items x (has_race Becomes net a a' b ready rules targets x on h))
      (told_there rules targets x h) (subst (λ v. GroupGoesOn Becomes b.net c.net (net b.net) (net c.net) shelf ready v x (Err none)) h.same_targets go)

-- only room was made, or none
none_made : {N : Type 0} (Becomes : N → List Call → N → Type 0) (net : N → Net) (a b : N) (shelf : List Layer) (ready : Ready) (none : NoMemory) → ShowLaw Becomes net → (net a).trace ≡ [] → net b ≡ with_spare (net a) (net b).spare → Becomes a [] b
    → HasRun Becomes a b (net a) (net b) (EndsGrouped shelf ready (Err none))
none_made Becomes net a b shelf ready none show fresh same becomes = record {
  calls = [];
  becomes = becomes;
  shows = show a b [] becomes;
  holds = record {
    ended = tt;
    leaves = inl (ap (λ (v : Net). record { net = v; calls = [] }) same);
    closed_once = none_closed (net b).trace (ap (λ (v : Net). v.trace) same ∙ fresh);
  };
}

pub group_not_reserved : {N : Type 0} (Becomes : N → List Call → N → Type 0) (net : N → Net) (a b : Recorded N) (shelf : List Layer) (ready : Ready) (r : Result GroupEnded NoMemory) → IsErr r
    → ShowLaw Becomes net → (net a.net).trace ≡ [] → with_spare (net b.net) b.spare ≡ with_spare (with_spare (net a.net) a.spare) b.spare → Records Becomes a [] b
    → HasRun Becomes a.net b.net (net a.net) (net b.net) (EndsGrouped shelf ready r)
group_not_reserved Becomes net a b shelf ready (Ok e) err show fresh roomy h = absurd (let wrong : false ≡ true = err in cc)
group_not_reserved Becomes net a b shelf ready (Err none) err show fresh roomy h =
    none_made Becomes net a.net b.net shelf ready none show fresh (ap (λ v. with_spare v (net b.net).spare) roomy) h.becomes

pub group_not_raced : {N : Type 0} (Becomes : N → List Call → N → Type 0) (net : N → Net) (a a' b : Recorded N) (shelf : List Layer) (ready : Ready) (r : Result GroupEnded NoMemory) → IsErr r
    → AppendLaw Becomes → ShowLaw Becomes net → (net a.net).trace ≡ [] → with_spare (net a'.net) a'.spare ≡ with_spare (with_spare (net a.net) a.spare) a'.spare → Records Becomes a [] a'
    → with_spare (net b.net) b.spare ≡ with_spare (net a'.net) a'.spare → HasAdded (Records Becomes) a' b (net a'.net).trace (net b.net).trace
    → HasRun Becomes a.net b.net (net a.net) (net b.net) (EndsGrouped shelf ready r)
group_not_raced Becomes net a a' b shelf ready (Ok e) err on show fresh roomy h same added = absurd (let wrong : false ≡ true = err in cc)
group_not_raced Becomes net a a' b shelf ready (Err none) err on show fresh roomy h same added =
    let trace : (net b.net).trace ≡ (net a'.net).trace = ap (λ (v : Net). v.trace) same in
    let calls : added.calls ≡ [] = no_calls added.calls added.items (no_items added.items (net a'.net).trace (sym added.added ∙ trace)) added.each in
    let then : Becomes a'.net [] b.net = subst (λ (c : List Call). Becomes a'.net c b.net) calls added.becomes.becomes in
    let here : net a'.net ≡ with_spare (net a.net) (net a'.net).spare = ap (λ v. with_spare v (net a'.net).spare) roomy in
    let there : net b.net ≡ with_spare (net a'.net) (net b.net).spare = ap (λ v. with_spare v (net b.net).spare) same in
    none_made Becomes net a.net b.net shelf ready none show fresh (there ∙ ap (λ v. with_spare v (net b.net).spare) here) (on a.net a'.net b.net [] [] h.becomes then)

-- the items behind a race are those of its group
behind_race : (before : List Item) (c : GroupedCourse) (trace : List Item) → before ≡ [] → trace ≡ items_of (calls_behind c.behind) ++ (c.race ++ before) → trace ≡ items_of (calls_behind c.behind) ++ c.race
behind_race before c trace fresh e = e ∙ ap (λ v. items_of (calls_behind c.behind) ++ v) (ap (λ v. c.race ++ v) fresh ∙ append-nil c.race)

-- what is kept is the session
kept_group : (shelf : List Layer) (ready : Ready) (e : GroupEnded) (items : List Item) (old new : SocketsState) (s : Held) → old.net.trace ≡ [] → reverse items ≡ new.net.trace
    → s ≡ parted items e.raced (Some e.answer) (logs_by e.held) (outcome_by e.held) → (x : IsGroupEnded shelf ready e old new) → s ≡ held_of_group shelf ready x.course
kept_group shelf ready e items old new s fresh recorded is x =
    let c = x.course in
    let split = recorded ∙ behind_race old.net.trace c new.net.trace fresh x.seen.items in
    is ∙ parts items c.race (items_of (calls_behind c.behind)) e.raced (Some e.answer) (logs_by e.held) (outcome_by e.held) split x.raced
    ∙ rw (x.answer, x.members, x.outcome) refl

-- of sockets that were lent to the recorder
pub group_held : {N T : Type 0} (First : T → List Call → T → Type 0) (Becomes : N → List Call → N → Type 0) (net : N → Net) (x y : T) (a b a' b' : N) (shelf : List Layer) (ready : Ready) (e : GroupEnded) (items : List Item) (s : Held)
    → a' ≡ a → b' ≡ b → ((calls : List Call) → First x calls y → Becomes a' calls b') → (net a).trace ≡ [] → reverse items ≡ (net b').trace → s ≡ parted items e.raced (Some e.answer) (logs_by e.held) (outcome_by e.held)
    → HasRun First x y (net a') (net b') (EndsGrouped shelf ready (Ok e)) → HasRun Becomes a b (net a) (net b) (HoldsGrouped shelf ready (Ok s))
group_held First Becomes net x y a b a' b' shelf ready e items s ea eb to fresh recorded is r =
    let ended = r.holds.ended in
    let all : HasRun First x y (net a') (net b') (HoldsGrouped shelf ready (Ok s)) = record {
      calls = r.calls;
      becomes = r.becomes;
      shows = r.shows;
      holds = record {
        held = record {
          course = ended.course;
          calls = ended.calls;
          session = ended.session;
          seen = ended.seen;
          kept = kept_group shelf ready e items (uncalled (net a')) (record { net = net b'; calls = r.calls }) s (ap (λ v. (net v).trace) ea ∙ fresh) recorded is ended;
        };
        leaves = r.holds.leaves;
        closed_once = r.holds.closed_once;
      };
    } in
    returned First Becomes net x y a b a' b' (HoldsGrouped shelf ready (Ok s)) ea eb to all

-- a socket that is closed at once is a session that memory cut short before its first clone
none_begun : (g : GroupTerms) (first at : ℕ) (count : ℕ) → g.clones ≡ count → IsCutBehind g first at [] []
none_begun g first at zero e = inr (sym e, tt)
none_begun g first at (suc n) e = inl (subst (λ v. zero < v) (sym e) (omega arith), inl refl)

pub cut_at_first : {N : Type 0} (Becomes : N → List Call → N → Type 0) (a b : N) (n : Net) (g : GroupTerms) (first : ℕ) → Becomes a (closes first ∷ []) b → IsCutHeld Becomes a b n g first
cut_at_first Becomes a b n g first h = record {
  calls = closes first ∷ [];
  becomes = h;
  cut = record { clones = []; begun = []; made = tt; cut = none_begun g first n.told g.clones refl; split = refl };
}
