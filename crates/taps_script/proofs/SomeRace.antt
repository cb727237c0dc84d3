-- A race over scripted sockets has its answer at last: each command that is not the last brings one item more, and there are few.
use Rattle.std.proofs.Common.{◌≡◌, ℕ, zero, suc, ◌+◌, ◌*◌, ◌<◌, ◌≤◌, ◌^◌, ◌-◌, Bool, true, false, ◌||◌, List, [], ◌∷◌, ◌++◌, length, length-append, refl, ap, sym, ◌∙◌, subst, inl, inr, arith, if◌then◌else◌}
use Rattle.std.specs.Prelude.{◌==◌, slice_get, None, Some}
use Rattle.std.proofs.lemmas.Bool.{eqb-true, ltb-true}
use Rattle.std.proofs.lemmas.List.{append_cancel_right}
use Rattle.std.proofs.lemmas.List.Folds.{list_any-append}
use Rattle.taps_stack.specs.declared.target.Target.{Target}
use Rattle.taps_socket.specs.declared.cause.Cause.TheVariants.{Memory}
use Rattle.taps_socket.specs.declared.item.How.{How}
use Rattle.taps_socket.specs.declared.item.Item.{Item}
use Rattle.taps_socket.specs.declared.item.Item.TheVariants as item
use Rattle.taps_socket.specs.declared.answers.StartAnswer.{StartAnswer}
use Rattle.taps_socket.specs.declared.answers.StartAnswer.TheVariants as start
use Rattle.taps_socket.specs.declared.answers.WaitAnswer.{WaitAnswer}
use Rattle.taps_socket.specs.declared.race_answer.RaceAnswer.{RaceAnswer}
use Rattle.taps_socket.specs.RaceTrace.{attempts}
use Rattle.taps_socket.specs.RaceSockets.{has, started, pending_sockets}
use Rattle.taps_socket.specs.LiveSockets.{named, named_by_end}
use Rattle.taps_socket.specs.Rules.{Rules}
use Rattle.taps_socket.specs.Calls.{Call, begins, starts as to_starts, waits as to_waits, closes as to_closes, items_of, AddEach, started_item, started_at}
use Rattle.taps_socket.specs.Net.{Net, with_item, with_faults, IsUnused, GivesNewSocket}
use Rattle.taps_socket.specs.Shown.{items_on}
use Rattle.taps_socket.proofs.Lists.{both, either}
use Rattle.taps_racer.specs.declared.command.Command.{Command}
use Rattle.taps_racer.specs.declared.command.Command.TheVariants.{Start, Wait, Close, Finish}
use Rattle.taps_racer.specs.declared.event.Told.TheVariants as told
use Rattle.taps_racer.specs.Kept.{Kept, fresh}
use Rattle.taps_racer.specs.Commands.{command_of}
use Rattle.taps_racer.specs.Steps.{heard}
use Rattle.taps_racer.specs.Stands.{IsRun}
use Rattle.taps_racer.specs.UnderWay.{UnderWay, told_of}
use Rattle.taps_racer.proofs.UnderWay.{next_is, starts, waits, closes, close_live, has_room, grown}
use Rattle.taps_racer.proofs.CarriedOut.{begins as begins_race, carried_out}
use Rattle.taps_script.specs.declared.line.Fate.{Fate}
use Rattle.taps_script.specs.declared.line.Fate.TheVariants.{Refuses, Completes, Breaks, Silent}
use Rattle.taps_script.specs.declared.line.Line.{Line}
use Rattle.taps_script.specs.ScriptLines.{fate_under}
use Rattle.taps_script.specs.ScriptAnswers.{wait_answer, start_answer, start_by}
use Rattle.taps_script.specs.ScriptSteps.{Follows, clock_after}
use Rattle.taps_script.specs.ScriptNet.{Scripted, IsKept, count_after}
use Rattle.taps_script.specs.SomeRace.{GoesSomeWay, GoesOnFrom}
use Rattle.taps_script.proofs.Named.{live_named}
use Rattle.taps_script.proofs.Lawfuls.{no_fewer}
use Rattle.taps_script.proofs.ScriptKept.{answer_may}

-- sockets that answered these calls by the script: the clock is past the last reported time, and each named socket is numbered below the next one
record MayGo (lines : List Line) (calls : List Call) (told : ℕ) : Type 0 where
  pub follows : Follows lines calls
  pub later : told ≤ clock_after lines calls
  pub fits : clock_after lines calls < 2 ^ 63
  pub below : (s : ℕ) → has (named (items_of calls)) s ≡ true → s < length (started (items_of calls))

-- no traffic, and room for all items
abbrev at_first : List Target → List Item → ℕ → Net
at_first targets trace at = record { trace = trace; told = at; spare = 4 * length targets + 1; faults = 0; traffic = λ s. record { room = 0; last_sent = None; written = None; read = None }; timed = 0; last_timed = None }

-- what is fixed
record Course : Type 0 where
  pub lines : List Line
  pub rules : Rules
  pub first : ℕ
  pub targets : List Target
  pub earlier : List Call
  pub at : ℕ

abbrev before_of : Course → Net
before_of c = at_first c.targets (items_of c.earlier) c.at

-- a race is under way behind the earlier calls
record IsOnItsWay (c : Course) (k : Kept) (now : Net) (calls : List Call) : Type 0 where
  pub under : UnderWay k c.rules c.first c.targets (before_of c) now
  pub each : AddEach calls (items_of calls)
  pub trace : now.trace ≡ items_of (calls ++ c.earlier)
  pub may : MayGo c.lines (calls ++ c.earlier) now.told

-- it goes on by one call
record GoesOn (c : Course) (now : Net) : Type 0 where
  pub kept : Kept
  pub later : Net
  pub calls : List Call
  pub way : IsOnItsWay c kept later calls
  pub one : length later.trace ≡ length now.trace + 1

-- a start is answered at the clock, and gives the next number
at_by_fate : (fate : Fate) (n now : ℕ) → started_at (start_by fate n now) ≡ now
at_by_fate (Refuses cause) n now = refl
at_by_fate (Completes delay) n now = refl
at_by_fate (Breaks delay cause) n now = refl
at_by_fate Silent n now = refl

at_by : (q : Bool) (fate : Fate) (n now : ℕ) → started_at (if q then start.Refused Memory now else start_by fate n now) ≡ now
at_by true fate n now = refl
at_by false fate n now = at_by_fate fate n now

start_at : (lines : List Line) (now : ℕ) (t : List Item) (leaf : ℕ) → started_at (start_answer lines now t leaf) ≡ now
start_at lines now t leaf = at_by (length (started t) == 2 ^ 32 - 1) (fate_under leaf lines) (length (started t)) now

abbrev HasNumber : StartAnswer → ℕ → Type 0
HasNumber (start.Started socket at) n = socket ≡ n
HasNumber (start.Refused cause at) n = Unit {0}

number_by_fate : (fate : Fate) (n now : ℕ) → HasNumber (start_by fate n now) n
number_by_fate (Refuses cause) n now = tt
number_by_fate (Completes delay) n now = refl
number_by_fate (Breaks delay cause) n now = refl
number_by_fate Silent n now = refl

number_by : (q : Bool) (fate : Fate) (n now : ℕ) → HasNumber (if q then start.Refused Memory now else start_by fate n now) n
number_by true fate n now = tt
number_by false fate n now = number_by_fate fate n now

start_number : (lines : List Line) (now : ℕ) (t : List Item) (leaf : ℕ) → HasNumber (start_answer lines now t leaf) (length (started t))
start_number lines now t leaf = number_by (length (started t) == 2 ^ 32 - 1) (fate_under leaf lines) (length (started t)) now

unused_at : (c : Course) (k : Kept) (now : Net) (s : ℕ) → UnderWay k c.rules c.first c.targets (before_of c) now → IsUnused (now.traffic s)
unused_at c k now s under =
    subst (λ f. IsUnused (f s)) (sym (ap (λ n. n.traffic) under.1.preserved)) (record { no_room = refl; never_sent = refl; none_written = tt; none_read = tt })

gives : (a : StartAnswer) (now : Net) (t : List Item) → now.trace ≡ t → HasNumber a (length (started t)) → ((s : ℕ) → has (named t) s ≡ true → s < length (started t)) → ((s : ℕ) → IsUnused (now.traffic s)) → GivesNewSocket a now
gives (start.Started socket at) now t same number below unused =
    record { number = λ s h. (let less = below s (subst (λ r. has (named r) s ≡ true) same h) in omega arith); unused = unused socket }
gives (start.Refused cause at) now t same number below unused = tt

-- the sockets named after a start
below_start : (leaf : ℕ) (target : Target) (a : StartAnswer) (t : List Item) (s : ℕ) → HasNumber a (length (started t)) → ((s : ℕ) → has (named t) s ≡ true → s < length (started t)) → has (named (started_item leaf target a ∷ t)) s ≡ true → s < length (started (started_item leaf target a ∷ t))
below_start leaf target (start.Started x at) t s number below h =
    let longer = length-append (started t) (x ∷ []) in
    elim (either (x == s) (has (named t) s) h) as (λ _. s < length (started t ++ x ∷ [])) [
      | inl same ↦ (let is : x ≡ s = eqb-true x s same in omega arith)
      | inr old ↦ (let less = below s old in omega arith)
    ]
below_start leaf target (start.Refused cause at) t s number below h = below s h

start_may : (lines : List Line) (calls : List Call) (told leaf : ℕ) (target : Target) → MayGo lines calls told → MayGo lines (to_starts leaf target (start_answer lines (clock_after lines calls) (items_of calls) leaf) ∷ calls) (started_at (start_answer lines (clock_after lines calls) (items_of calls) leaf))
start_may lines calls told leaf target m =
    let at : started_at (start_answer lines (clock_after lines calls) (items_of calls) leaf) ≡ clock_after lines calls = start_at lines (clock_after lines calls) (items_of calls) leaf in
    record {
      follows = (refl, m.follows);
      later = omega arith;
      fits = m.fits;
      below = λ s h. below_start leaf target (start_answer lines (clock_after lines calls) (items_of calls) leaf) (items_of calls) s (start_number lines (clock_after lines calls) (items_of calls) leaf) m.below h;
    }

-- the sockets named after a wait, and after a close
below_wait : (end : How) (t : List Item) (s : ℕ) → ((x : ℕ) → has (named_by_end end) x ≡ true → has (named t) x ≡ true) → ((x : ℕ) → has (named t) x ≡ true → x < length (started t)) → has (named_by_end end ++ named t) s ≡ true → s < length (started t)
below_wait end t s names below h =
    elim (either (has (named_by_end end) s) (has (named t) s) (rw list_any-append at h)) as (λ _. s < length (started t)) [
      | inl own ↦ below s (names s own)
      | inr old ↦ below s old
    ]

below_close : (t : List Item) (x s : ℕ) → x < length (started t) → ((x : ℕ) → has (named t) x ≡ true → x < length (started t)) → ((x == s) || has (named t) s) ≡ true → s < length (started t)
below_close t x s less below h =
    elim (either (x == s) (has (named t) s) h) as (λ _. s < length (started t)) [
      | inl same ↦ subst (λ v. v < length (started t)) (eqb-true x s same) less
      | inr old ↦ below s old
    ]

-- a leaf that is asked for has a target
some_item : {X : Type 0} (xs : List X) (k : ℕ) → k < length xs → (x : X) × (slice_get xs k ≡ Some x)
some_item [] k h = absurd (omega arith)
some_item (x ∷ xs) zero h = (x, refl)
some_item (x ∷ xs) (suc k) h = some_item xs k (omega arith)

is_listed : (c : Course) (k : Kept) (now : Net) (leaf : ℕ) → command_of k ≡ Start leaf → UnderWay k c.rules c.first c.targets (before_of c) now → leaf < length c.targets
is_listed c k now leaf asked under =
    let u = under.1 in
    let next = next_is k c.rules c.first c.targets (before_of c) now under.0 (Start leaf) u asked in
    let room : attempts under.0 < length k.rules.gaps = ltb-true _ _ (both _ _ next.1.due).0 in
    let place : leaf ≡ attempts under.0 = next.0 in
    let gaps : length k.rules.gaps ≡ length c.targets = ap (λ r. length r.gaps) u.same_rules ∙ u.leaves in
    omega arith

starts_on : (c : Course) (k : Kept) (now : Net) (calls : List Call) (leaf : ℕ) (target : Target) → slice_get c.targets leaf ≡ Some target → command_of k ≡ Start leaf → IsOnItsWay c k now calls → GoesOn c now
starts_on c k now calls leaf target aims asked h =
    let cs = calls ++ c.earlier in
    let a = start_answer c.lines (clock_after c.lines cs) (items_of cs) (c.first + leaf) in
    let k' = heard k (told_of leaf a) in
    let later = with_item now (started_item (c.first + leaf) target a) (started_at a) in
    let room = has_room k c.rules c.first c.targets (before_of c) now (Start leaf) asked (λ e. e) h.under in
    let at : started_at a ≡ clock_after c.lines cs = start_at c.lines (clock_after c.lines cs) (items_of cs) (c.first + leaf) in
    let m = h.may in
    let late = m.later in
    let fits = m.fits in
    record {
      kept = k';
      later = later;
      calls = to_starts (c.first + leaf) target a ∷ calls;
      way = record {
        under = starts k k' c.rules c.first c.targets (before_of c) now later leaf target a asked aims refl (record { later = omega arith; fits = omega arith }) (gives a now (items_of cs) h.trace (start_number c.lines (clock_after c.lines cs) (items_of cs) (c.first + leaf)) m.below (λ s. unused_at c k now s h.under)) room refl h.under;
        each = ap (λ v. (started_item (c.first + leaf) target a ∷ []) ∷ v) h.each;
        trace = ap (λ v. started_item (c.first + leaf) target a ∷ v) h.trace;
        may = start_may c.lines cs now.told (c.first + leaf) target m;
      };
      one = omega arith;
    }

-- a wait
waits_on : (c : Course) (k : Kept) (now : Net) (calls : List Call) (until : ℕ) → command_of k ≡ Wait until → IsOnItsWay c k now calls → GoesOn c now
waits_on c k now calls until asked h =
    let cs = calls ++ c.earlier in
    let a = wait_answer c.lines (clock_after c.lines cs) (items_of cs) until in
    let k' = heard k (told.Waited until a.at a.how) in
    let later = with_faults (with_item now (item.Waited until a.at a.how) a.at) (count_after a.how now.faults) in
    let room = has_room k c.rules c.first c.targets (before_of c) now (Wait until) asked (λ e. e) h.under in
    let m = h.may in
    let may = answer_may c.lines (items_of cs) (clock_after c.lines cs) until m.fits in
    let late = m.later in
    let later_at = may.later in
    let names = may.names in
    record {
      kept = k';
      later = later;
      calls = to_waits until a ∷ calls;
      way = record {
        under = waits k k' c.rules c.first c.targets (before_of c) now later until a.at a.how asked refl (record { later = omega arith; fits = may.fits }) (may.ends now later h.trace refl) (no_fewer a.how now.faults) room refl h.under;
        each = ap (λ v. (item.Waited until a.at a.how ∷ []) ∷ v) h.each;
        trace = ap (λ v. item.Waited until a.at a.how ∷ v) h.trace;
        may = record {
          follows = (refl, m.follows);
          later = omega arith;
          fits = may.fits;
          below = λ s own. below_wait a.how (items_of cs) s names m.below own;
        };
      };
      one = omega arith;
    }

-- a close
closes_on : (c : Course) (k : Kept) (now : Net) (calls : List Call) (s : ℕ) → command_of k ≡ Close s → IsOnItsWay c k now calls → GoesOn c now
closes_on c k now calls s asked h =
    let cs = calls ++ c.earlier in
    let k' = heard k (told.Closed s) in
    let later = with_item now (item.Closed s) now.told in
    let room = has_room k c.rules c.first c.targets (before_of c) now (Close s) asked (λ e. e) h.under in
    let m = h.may in
    let live = close_live k c.rules c.first c.targets (before_of c) now s asked h.under in
    let there : has (named (items_of cs)) s ≡ true = subst (λ r. has (named r) s ≡ true) h.trace (live_named now.trace s live) in
    record {
      kept = k';
      later = later;
      calls = to_closes s ∷ calls;
      way = record {
        under = closes k k' c.rules c.first c.targets (before_of c) now later s asked refl room refl h.under;
        each = ap (λ v. (item.Closed s ∷ []) ∷ v) h.each;
        trace = ap (λ v. item.Closed s ∷ v) h.trace;
        may = record {
          follows = (refl, m.follows);
          later = m.later;
          fits = m.fits;
          below = λ x own. below_close (items_of cs) s x (m.below s there) m.below own;
        };
      };
      one = omega arith;
    }

-- or it has its answer
finishes : (c : Course) (k : Kept) (now : Net) (calls : List Call) (a : RaceAnswer) → command_of k ≡ Finish a → IsOnItsWay c k now calls → GoesSomeWay c.lines c.rules c.first c.targets c.earlier
finishes c k now calls a asked h =
    let (race, answer, has, out) = carried_out k k c.rules c.first c.targets (before_of c) now a asked refl h.under in
    let same : race ≡ items_of calls = append_cancel_right race (items_of calls) (items_of c.earlier) (sym out.items ∙ (h.trace ∙ items_on c.earlier calls)) in
    (calls, race, answer, record { lawful = out.lawful; each = subst (AddEach calls) (sym same) h.each; follows = h.may.follows })

-- by its next command
by_command : (c : Course) (k : Kept) (now : Net) (calls : List Call) (next : Command) → command_of k ≡ next → IsOnItsWay c k now calls → (GoesOn c now → GoesSomeWay c.lines c.rules c.first c.targets c.earlier) → GoesSomeWay c.lines c.rules c.first c.targets c.earlier
by_command c k now calls (Start leaf) asked h more =
    let listed = some_item c.targets leaf (is_listed c k now leaf asked h.under) in
    more (starts_on c k now calls leaf listed.0 listed.1 asked h)
by_command c k now calls (Wait until) asked h more = more (waits_on c k now calls until asked h)
by_command c k now calls (Close s) asked h more = more (closes_on c k now calls s asked h)
by_command c k now calls (Finish a) asked h more = finishes c k now calls a asked h

-- as many items more as there may be
within : (left : ℕ) (c : Course) (k : Kept) (now : Net) (calls : List Call) → 4 * length c.targets + 2 + length (items_of c.earlier) ≤ length now.trace + left → IsOnItsWay c k now calls → GoesSomeWay c.lines c.rules c.first c.targets c.earlier
within zero c k now calls room h = let few = grown k c.rules c.first c.targets (before_of c) now h.under in absurd (omega arith)
within (suc left) c k now calls room h =
    by_command c k now calls (command_of k) refl h (λ on. (let one = on.one in within left c on.kept on.later on.calls (omega arith) on.way))

-- it begins at the clock
abbrev begun_at : Rules → ℕ → Kept
begun_at rules at = record (fresh rules) { begun = at; last = at }

runs_at : (rules : Rules) (at first : ℕ) → IsRun (begun_at rules at) first (item.Began at ∷ [])
runs_at rules at first =
    record {
      stands = record { begun = refl; last = omega arith; last_attempt = refl; faulted = refl; ready = refl; attempts = refl; in_order = (tt, tt); rightly = (tt, tt) };
      race = record { race_trace = refl; attempts_in_order = (tt, tt); attempts_when_due = (tt, tt); waits_when_nothing_due = (tt, tt); closes_in_order = (tt, tt) };
    }

first_call : (c : Course) → length c.rules.gaps ≡ length c.targets → pending_sockets (items_of c.earlier) ≡ [] → MayGo c.lines c.earlier c.at → GoesOn c (before_of c)
first_call c leaves idle m =
    let before = before_of c in
    let at = clock_after c.lines c.earlier in
    let later = with_item before (item.Began at) at in
    record {
      kept = begun_at c.rules at;
      later = later;
      calls = begins at ∷ [];
      way = record {
        under = begins_race (begun_at c.rules at) c.rules c.first c.targets before later at (runs_at c.rules at) refl leaves idle (omega arith) refl;
        each = refl;
        trace = refl;
        may = record { follows = (refl, m.follows); later = omega arith; fits = m.fits; below = m.below };
      };
      one = omega arith;
    }

goes_some_way : (c : Course) → length c.rules.gaps ≡ length c.targets → pending_sockets (items_of c.earlier) ≡ [] → MayGo c.lines c.earlier c.at → GoesSomeWay c.lines c.rules c.first c.targets c.earlier
goes_some_way c leaves idle m =
    let on = first_call c leaves idle m in
    let one = on.one in
    within (4 * length c.targets + 1) c on.kept on.later on.calls (omega arith) on.way

-- what scripted sockets keep lets them go on
pub goes_on_from : (s : Scripted) (waits started : ℕ) (events : List WaitAnswer) → IsKept s.lines s.trace s.clock s.told waits started events → GoesOnFrom s
goes_on_from s waits started_count events kept earlier h idle rules first targets leaves =
    let c : Course = record { lines = s.lines; rules = rules; first = first; targets = targets; earlier = earlier; at = s.told } in
    let clock : s.clock ≡ clock_after s.lines earlier = h.clock in
    let late = kept.told_before in
    let fits = kept.fits in
    let count = kept.started_are in
    let below : (q : ℕ) → has (named (items_of earlier)) q ≡ true → q < length (started (items_of earlier)) = λ q own. (let less = kept.named_below q (subst (λ r. has (named r) q ≡ true) (sym h.trace) own) in let same : length (started s.trace) ≡ length (started (items_of earlier)) = ap (λ r. length (started r)) h.trace in omega arith) in
    goes_some_way c leaves (subst (λ r. pending_sockets r ≡ []) h.trace idle) (record { follows = h.follows; later = omega arith; fits = omega arith; below = below })
