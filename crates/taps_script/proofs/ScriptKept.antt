-- What is kept of sockets by a script stays what the lines and the items tell, as items come; and the answers are those that sockets may give.
use Rattle.std.proofs.Common.{◌≡◌, ◌⊎◌, inl, inr, ℕ, zero, suc, ◌+◌, ◌-◌, ◌<◌, ◌≤◌, ◌^◌, Bool, true, false, not, ◌||◌, List, [], ◌∷◌, ◌++◌, length, reverse, length-append, refl, ap, sym, ◌∙◌, subst, arith, if◌then◌else◌}
use Rattle.std.specs.Prelude.{◌==◌, filter, max, min, nat_lt, nat_le, slice_get, slice_set, Option, None, Some, IfSome}
use Rattle.std.specs.Option.{option_to_list, option_map_or}
use Rattle.std.proofs.lemmas.List.{reverse-append}
use Rattle.std.proofs.lemmas.Bool.{eqb-true, eq-eqb, ltb-true}
use Rattle.taps_base.specs.Counts.{Rose, one_more}
use Rattle.taps_stack.specs.declared.target.Target.{Target}
use Rattle.taps_socket.specs.declared.item.How.{How}
use Rattle.taps_socket.specs.declared.item.How.TheVariants as how
use Rattle.taps_socket.specs.declared.item.Item.{Item}
use Rattle.taps_socket.specs.declared.item.Item.TheVariants as item
use Rattle.taps_script.specs.declared.line.Fate.{Fate}
use Rattle.taps_script.specs.declared.line.Fate.TheVariants as fate
use Rattle.taps_script.specs.declared.line.Line.{Line}
use Rattle.taps_socket.specs.declared.answers.WaitAnswer.{WaitAnswer}
use Rattle.taps_socket.specs.RaceSockets.{has, started, pending_sockets}
use Rattle.taps_socket.specs.LiveSockets.{named, named_by_end}
use Rattle.taps_socket.proofs.NamedSockets.{started_named}
use Rattle.taps_stack.specs.StackTable.{is_stream}
use Rattle.taps_socket.specs.Sides.{target_of}
use Rattle.taps_socket.specs.Net.{Net, MayEnd}
use Rattle.taps_script.specs.Channels.{Channel, fresh, IsWithin}
use Rattle.taps_script.specs.ScriptLines.{late_of, fate_under, is_to_fault}
use Rattle.taps_script.specs.ScriptAnswers as answers
use Rattle.taps_script.specs.ScriptAnswers.{to_come, event, time_in, events, is_of, first_event, idle_answer, answer_by, wait_answer}
use Rattle.taps_script.specs.ScriptNet.{IsKept, AreChannels, IsChannelOf, IsQuiet, without_told, count_after}
use Rattle.taps_script.proofs.ScriptEvents.{IsEventOf, event_of, completed_pending, broke_pending, closed_pending, without, pending_started, started_events, first_among}

-- an item that starts no socket, tells no event and names no new socket leaves what is kept
record Leaves (i : Item) (t : List Item) : Type 0 where
  pub waits : answers.waits (i ∷ t) ≡ answers.waits t
  pub started : started (i ∷ t) ≡ started t
  pub events : (lines : List Line) → events lines (i ∷ t) ≡ events lines t
  pub named : (s : ℕ) → has (named (i ∷ t)) s ≡ true → has (named t) s ≡ true
  pub event : (lines : List Line) (s : ℕ) → event lines (i ∷ t) s ≡ event lines t s
  pub target : (s : ℕ) → target_of (i ∷ t) s ≡ target_of t s

named_one : (t : List Item) (x s : ℕ) → has (named t) x ≡ true → ((x == s) || has (named t) s) ≡ true → has (named t) s ≡ true
named_one t x s there h = by_test (x == s) refl h
  where
    by_test : (q : Bool) → (x == s) ≡ q → (q || has (named t) s) ≡ true → has (named t) s ≡ true
    by_test true e h = subst (λ v. has (named t) v ≡ true) (eqb-true x s e) there
    by_test false e h = h

leaves : (i : Item) (t : List Item) → IsQuiet i t → Leaves i t
leaves (item.Began at) t q = record { waits = refl; started = refl; events = λ lines. refl; named = λ s h. h; event = λ lines s. refl; target = λ s. refl }
leaves (item.Refused leaf target cause at) t q = record { waits = refl; started = refl; events = λ lines. refl; named = λ s h. h; event = λ lines s. refl; target = λ s. refl }
leaves (item.NotListening target cause at) t q = record { waits = refl; started = refl; events = λ lines. refl; named = λ s h. h; event = λ lines s. refl; target = λ s. refl }
leaves (item.Shut x) t q = record { waits = refl; started = refl; events = λ lines. refl; named = λ s h. named_one t x s q h; event = λ lines s. refl; target = λ s. refl }
leaves (item.Ended x) t q = record { waits = refl; started = refl; events = λ lines. refl; named = λ s h. named_one t x s q h; event = λ lines s. refl; target = λ s. refl }
leaves (item.DataFailed x sending cause) t q = record { waits = refl; started = refl; events = λ lines. refl; named = λ s h. named_one t x s q h; event = λ lines s. refl; target = λ s. refl }
leaves i t q = absurd q

pub kept_quiet : (lines : List Line) (t : List Item) (now now' told told' waits n : ℕ) (i : Item) (es : List WaitAnswer) → IsKept lines t now told waits n es → IsQuiet i t → told' ≤ now' → now' < 2 ^ 63 → IsKept lines (i ∷ t) now' told' waits n es
kept_quiet lines t now now' told told' waits n i es h quiet before fits =
    let l = leaves i t quiet in
    record {
      fits = fits;
      told_before = before;
      waits_are = h.waits_are ∙ sym l.waits;
      started_are = h.started_are ∙ ap length (sym l.started);
      events_are = h.events_are ∙ sym (l.events lines);
      named_below = λ s there. h.named_below s (l.named s there);
    }

-- a channel stays that of a socket where an item leaves its event and its target
still_channel : (lines : List Line) (t t' : List Item) (s : ℕ) (c : Channel) → event lines t' s ≡ event lines t s → target_of t' s ≡ target_of t s → IsChannelOf lines t s c → IsChannelOf lines t' s c
still_channel lines t t' s c e a h =
    record {
      stream = h.stream ∙ ap (λ o. option_map_or (λ target. is_stream target.stack) o true) (sym a);
      done = h.done ∙ ap time_in (sym e);
      fits = h.fits;
      within = h.within;
    }

still_channels : (lines : List Line) (t t' : List Item) (n : ℕ) (cs : List Channel) → ((s : ℕ) → event lines t' s ≡ event lines t s) → ((s : ℕ) → target_of t' s ≡ target_of t s) → AreChannels lines t n cs → AreChannels lines t' n cs
still_channels lines t t' n cs e a h = record { count = h.count; each = λ s c there. still_channel lines t t' s c (e s) (a s) (h.each s c there) }

pub channels_quiet : (lines : List Line) (t : List Item) (n : ℕ) (i : Item) (cs : List Channel) → IsQuiet i t → AreChannels lines t n cs → AreChannels lines (i ∷ t) n cs
channels_quiet lines t n i cs quiet h = let l = leaves i t quiet in still_channels lines t (i ∷ t) n cs (l.event lines) l.target h

pub channels_waited : (lines : List Line) (t : List Item) (n until at : ℕ) (end : How) (cs : List Channel) → AreChannels lines t n cs → AreChannels lines (item.Waited until at end ∷ t) n cs
channels_waited lines t n until at end cs h = still_channels lines t (item.Waited until at end ∷ t) n cs (λ s. refl) (λ s. refl) h

pub channels_closed : (lines : List Line) (t : List Item) (n x : ℕ) (cs : List Channel) → AreChannels lines t n cs → AreChannels lines (item.Closed x ∷ t) n cs
channels_closed lines t n x cs h = still_channels lines t (item.Closed x ∷ t) n cs (λ s. refl) (λ s. refl) h

-- a start
not_named : (t : List Item) (n : ℕ) → ((s : ℕ) → has (named t) s ≡ true → s < n) → has (named t) n ≡ false
not_named t n below = by_test (has (named t) n) refl
  where
    by_test : (q : Bool) → has (named t) n ≡ q → q ≡ false
    by_test true e = (let less = below n e in absurd (omega arith))
    by_test false e = refl

below_next : (t : List Item) (n s : ℕ) (q : Bool) → (n == s) ≡ q → ((s : ℕ) → has (named t) s ≡ true → s < n) → (q || has (named t) s) ≡ true → s < n + 1
below_next t n s true e below h = let same : n ≡ s = eqb-true n s e in omega arith
below_next t n s false e below h = let less = below s h in omega arith

started_so : (lines : List Line) (t : List Item) (now told waits n n' leaf at : ℕ) (target : Target) (es es' : List WaitAnswer) → IsKept lines t now told waits n es → n' ≡ n + 1 → es' ≡ es ++ option_to_list (to_come (fate_under leaf lines) n at) → IsKept lines (item.Started leaf target n at ∷ t) now now waits n' es'
started_so lines t now told waits n n' leaf at target es es' h next more =
    record {
      fits = h.fits;
      told_before = omega arith;
      waits_are = h.waits_are;
      started_are = (let longer = length-append (started t) (n ∷ []) in let count = h.started_are in omega arith);
      events_are = more ∙ ap (λ es. es ++ option_to_list (to_come (fate_under leaf lines) n at)) h.events_are ∙ sym (started_events lines t leaf n at target (not_named t n h.named_below));
      named_below = λ s there. (let less = below_next t n s (n == s) refl h.named_below there in omega arith);
    }

pub kept_started : (lines : List Line) (t : List Item) (now told waits n n' leaf x at : ℕ) (target : Target) (es es' : List WaitAnswer) → IsKept lines t now told waits n es → x ≡ n → at ≡ now → n' ≡ n + 1 → es' ≡ es ++ option_to_list (to_come (fate_under leaf lines) x now) → IsKept lines (item.Started leaf target x at ∷ t) now now waits n' es'
kept_started lines t now told waits n n' leaf x at target es es' h number moment next more =
    rw (number, moment) (started_so lines t now told waits n n' leaf now target es es' h next (rw number at more))

-- the channel of a started socket
event_by : (q : Bool) (at : ℕ) (end : How) → nat_lt at (2 ^ 63) ≡ q → time_in (if q then Some (record { at = at; how = end }) else None) < 2 ^ 63
event_by true at end e = ltb-true _ _ e
event_by false at end e = omega arith

pub time_fits : (fate : Fate) (socket at : ℕ) → time_in (to_come fate socket at) < 2 ^ 63
time_fits (fate.Completes delay) socket at = event_by (nat_lt (at + delay) (2 ^ 63)) (at + delay) _ refl
time_fits (fate.Breaks delay cause) socket at = event_by (nat_lt (at + delay) (2 ^ 63)) (at + delay) _ refl
time_fits (fate.Refuses cause) socket at = omega arith
time_fits fate.Silent socket at = omega arith

at_place : (cs : List Channel) (x c : Channel) (s : ℕ) → slice_get (cs ++ x ∷ []) s ≡ Some c → ((s < length cs) × (slice_get cs s ≡ Some c)) ⊎ ((s ≡ length cs) × (x ≡ c))
at_place [] x c zero h = inr (refl, cc)
at_place [] x c (suc s) h = absurd (let z : None ≡ Some c = h in cc)
at_place (y ∷ cs) x c zero h = inl (omega arith, h)
at_place (y ∷ cs) x c (suc s) h =
    elim (at_place cs x c s h) as (λ _. ((suc s < suc (length cs)) × (slice_get (y ∷ cs) (suc s) ≡ Some c)) ⊎ ((suc s ≡ suc (length cs)) × (x ≡ c))) [
      | inl p ↦ inl ((let less = p.0 in omega arith), p.1)
      | inr p ↦ inr ((let same = p.0 in omega arith), p.1)
    ]

channel_started : (lines : List Line) (t : List Item) (leaf n at : ℕ) (target : Target) (x : Channel) (stream : Bool) (done : ℕ) → x ≡ fresh stream done → stream ≡ is_stream target.stack → done ≡ time_in (to_come (fate_under leaf lines) n at) → IsChannelOf lines (item.Started leaf target n at ∷ t) n x
channel_started lines t leaf n at target x stream done is streams times =
    subst (IsChannelOf lines (item.Started leaf target n at ∷ t) n) (sym is) (record {
      stream = rw (eq-eqb n n refl) streams;
      done = rw (eq-eqb n n refl) times;
      fits = subst (λ v. v < 2 ^ 63) (sym times) (time_fits (fate_under leaf lines) n at);
      within = omega arith;
    })

not_this : (n s : ℕ) → s < n → (n == s) ≡ false
not_this n s h = by_test (n == s) refl
  where
    by_test : (q : Bool) → (n == s) ≡ q → q ≡ false
    by_test true e = (let same : n ≡ s = eqb-true n s e in absurd (omega arith))
    by_test false e = refl

pub channels_started : (lines : List Line) (t : List Item) (n n' x leaf at : ℕ) (target : Target) (cs cs' : List Channel) (c : Channel) (stream : Bool) (done : ℕ) → AreChannels lines t n cs → x ≡ n → n' ≡ n + 1 → cs' ≡ cs ++ c ∷ [] →
    c ≡ fresh stream done → stream ≡ is_stream target.stack → done ≡ time_in (to_come (fate_under leaf lines) x at) → AreChannels lines (item.Started leaf target x at ∷ t) n' cs'
channels_started lines t n n' x leaf at target cs cs' c stream done h number next more is streams times =
    let len = length-append cs (c ∷ []) in
    let count = h.count in
    let longer : length cs' ≡ length (cs ++ c ∷ []) = ap length more in
    record { count = omega arith; each = λ s d there. each s d (subst (λ v. slice_get v s ≡ Some d) more there) }
  where
    each : (s : ℕ) (d : Channel) → slice_get (cs ++ c ∷ []) s ≡ Some d → IsChannelOf lines (item.Started leaf target x at ∷ t) s d
    each s d there = elim (at_place cs c d s there) as (λ _. IsChannelOf lines (item.Started leaf target x at ∷ t) s d) [
      | inl p ↦ (let less = p.0 in let count = h.count in let other : (x == s) ≡ false = not_this x s (omega arith) in
          still_channel lines t (item.Started leaf target x at ∷ t) s d (rw other refl) (rw other refl) (h.each s d p.1))
      | inr p ↦ (let count = h.count in let place : x ≡ s = number ∙ count ∙ sym p.0 in
          subst (λ v. IsChannelOf lines (item.Started leaf target x at ∷ t) v d) place (subst (IsChannelOf lines (item.Started leaf target x at ∷ t) x) p.1 (channel_started lines t leaf x at target c stream done is streams times)))
    ]

-- a wait
told_events : (lines : List Line) (t : List Item) (until at : ℕ) (end : How) → events lines (item.Waited until at end ∷ t) ≡ without_told end (events lines t)
told_events lines t until at how.Reached = refl
told_events lines t until at (how.Completed x) = without lines t (item.Waited until at (how.Completed x) ∷ t) x (completed_pending t until at x) (λ s. refl)
told_events lines t until at (how.Broke x cause) = without lines t (item.Waited until at (how.Broke x cause) ∷ t) x (broke_pending t until at x cause) (λ s. refl)
told_events lines t until at how.Faulted = refl

told_named : (t : List Item) (n until at s : ℕ) (end : How) → ((s : ℕ) → has (named_by_end end) s ≡ true → s < n) → ((s : ℕ) → has (named t) s ≡ true → s < n) → has (named (item.Waited until at end ∷ t)) s ≡ true → s < n
told_named t n until at s how.Reached own below h = below s h
told_named t n until at s (how.Completed x) own below h = first_below t n x s (x == s) refl own below h
  where
    first_below : (t : List Item) (n x s : ℕ) (q : Bool) → (x == s) ≡ q → ((s : ℕ) → ((x == s) || false) ≡ true → s < n) → ((s : ℕ) → has (named t) s ≡ true → s < n) → (q || has (named t) s) ≡ true → s < n
    first_below t n x s true e own below h = own s (rw e refl)
    first_below t n x s false e own below h = below s h
told_named t n until at s (how.Broke x cause) own below h = first_below t n x s (x == s) refl own below h
  where
    first_below : (t : List Item) (n x s : ℕ) (q : Bool) → (x == s) ≡ q → ((s : ℕ) → ((x == s) || false) ≡ true → s < n) → ((s : ℕ) → has (named t) s ≡ true → s < n) → (q || has (named t) s) ≡ true → s < n
    first_below t n x s true e own below h = own s (rw e refl)
    first_below t n x s false e own below h = below s h
told_named t n until at s how.Faulted own below h = below s h

pub kept_waited : (lines : List Line) (t : List Item) (now told waits waits' n until at : ℕ) (end : How) (es es' : List WaitAnswer) → IsKept lines t now told waits n es → waits' ≡ waits + 1 → at < 2 ^ 63 → ((s : ℕ) → has (named_by_end end) s ≡ true → has (named t) s ≡ true) → es' ≡ without_told end es → IsKept lines (item.Waited until at end ∷ t) at at waits' n es'
kept_waited lines t now told waits waits' n until at end es es' h next fits names less =
    record {
      fits = fits;
      told_before = omega arith;
      waits_are = next ∙ ap (λ w. w + 1) h.waits_are;
      started_are = h.started_are;
      events_are = less ∙ ap (without_told end) h.events_are ∙ sym (told_events lines t until at end);
      named_below = λ s there. told_named t n until at s end (λ s own. h.named_below s (names s own)) h.named_below there;
    }

-- a close
pub kept_closed : (lines : List Line) (t : List Item) (now told waits n x : ℕ) (es es' : List WaitAnswer) → IsKept lines t now told waits n es → has (named t) x ≡ true → es' ≡ filter (λ e. not (is_of x e)) es → IsKept lines (item.Closed x ∷ t) now told waits n es'
kept_closed lines t now told waits n x es es' h there less =
    record {
      fits = h.fits;
      told_before = h.told_before;
      waits_are = h.waits_are;
      started_are = h.started_are;
      events_are = less ∙ ap (filter (λ e. not (is_of x e))) h.events_are ∙ sym (without lines t (item.Closed x ∷ t) x (closed_pending t x) (λ s. refl));
      named_below = λ s own. closed_below (x == s) s refl own;
    }
  where
    closed_below : (q : Bool) (s : ℕ) → (x == s) ≡ q → (q || has (named t) s) ≡ true → s < n
    closed_below true s e own = subst (λ v. v < n) (eqb-true x s e) (h.named_below x there)
    closed_below false s e own = h.named_below s own

-- a wait's answer is of a pending socket, or of none
pub record MayAnswer (lines : List Line) (t : List Item) (now until : ℕ) (a : WaitAnswer) : Type 0 where
  pub later : now ≤ a.at
  pub fits : a.at < 2 ^ 63
  pub ends : (before after : Net) → before.trace ≡ t → after.faults ≡ count_after a.how before.faults → MayEnd a.how until a.at before after
  pub names : (s : ℕ) → has (named_by_end a.how) s ≡ true → has (named t) s ≡ true

pub record IsPending (t : List Item) (v : WaitAnswer) : Type 0 where
  pub number : ℕ
  pub is_event : IsEventOf number v
  pub pending : has (pending_sockets t) number ≡ true

pub first_pending : (lines : List Line) (t : List Item) → IfSome (first_event (events lines t)) (IsPending t)
first_pending lines t = first_among (IsPending t) (event lines t) (pending_sockets t) None tt (λ s v there e. record { number = s; is_event = event_of lines t s v e; pending = there })

pending_ends : (t : List Item) (until at s : ℕ) (end : How) (before after : Net) → named_by_end end ≡ s ∷ [] → has (pending_sockets t) s ≡ true → before.trace ≡ t → MayEnd end until at before after
pending_ends t until at s how.Reached before after names there same = let z : [] ≡ s ∷ [] = names in cc
pending_ends t until at s (how.Completed x) before after names there same = let e : s ≡ x = cc in rw (same, ← e) there
pending_ends t until at s (how.Broke x cause) before after names there same = let e : s ≡ x = cc in rw (same, ← e) there
pending_ends t until at s how.Faulted before after names there same = let z : [] ≡ s ∷ [] = names in cc

named_only : (t : List Item) (s x : ℕ) (end : How) → named_by_end end ≡ s ∷ [] → has (named t) s ≡ true → has (named_by_end end) x ≡ true → has (named t) x ≡ true
named_only t s x end names there h = by_test (s == x) refl (rw names at h)
  where
    by_test : (q : Bool) → (s == x) ≡ q → (q || false) ≡ true → has (named t) x ≡ true
    by_test true e h = subst (λ v. has (named t) v ≡ true) (eqb-true s x e) there
    by_test false e h = cc

rises : (f g : ℕ) → g ≡ one_more f → Rose f g
rises f g e = omega arith

faulted : (lines : List Line) (t : List Item) (now until : ℕ) → now < 2 ^ 63 → MayAnswer lines t now until (record { at = now; how = how.Faulted })
faulted lines t now until fits =
    record { later = omega arith; fits = fits; ends = λ before after same count. rises before.faults after.faults count; names = λ s h. (let z : false ≡ true = h in cc) }

idle : (lines : List Line) (t : List Item) (now late until : ℕ) (q : Bool) → nat_lt until (2 ^ 63) ≡ q → now < 2 ^ 63 → MayAnswer lines t now until (if q then record { at = min (max now until + late) (2 ^ 63 - 1); how = how.Reached } else record { at = now; how = how.Faulted })
idle lines t now late until false e fits = faulted lines t now until fits
idle lines t now late until true e fits =
    let high : until < 2 ^ 63 = ltb-true _ _ e in
    record { later = omega arith; fits = omega arith; ends = λ before after same count. (omega arith, high); names = λ s h. (let z : false ≡ true = h in cc) }

by_event : (lines : List Line) (t : List Item) (now late until : ℕ) (o : Option WaitAnswer) → now < 2 ^ 63 → IfSome o (IsPending t) → MayAnswer lines t now until (answer_by now late until o)
by_event lines t now late until None fits h = idle lines t now late until (nat_lt until (2 ^ 63)) refl fits
by_event lines t now late until (Some v) fits h = by_moment (nat_le v.at until) refl
  where
    by_moment : (q : Bool) → nat_le v.at until ≡ q → MayAnswer lines t now until (if q then record { at = max now v.at; how = v.how } else idle_answer now late until)
    by_moment false e = idle lines t now late until (nat_lt until (2 ^ 63)) refl fits
    by_moment true e =
        (let small = h.is_event.fits in
        record {
          later = omega arith;
          fits = omega arith;
          ends = λ before after same count. pending_ends t until (max now v.at) h.number v.how before after h.is_event.socket h.pending same;
          names = λ s own. named_only t h.number s v.how h.is_event.socket (started_named t h.number (pending_started t h.number h.pending)) own;
        })

may_by : (lines : List Line) (t : List Item) (now until : ℕ) (q : Bool) → now < 2 ^ 63 → MayAnswer lines t now until (if q then record { at = now; how = how.Faulted } else answer_by now (late_of lines) until (first_event (events lines t)))
may_by lines t now until true fits = faulted lines t now until fits
may_by lines t now until false fits = by_event lines t now (late_of lines) until (first_event (events lines t)) fits (first_pending lines t)

pub answer_may : (lines : List Line) (t : List Item) (now until : ℕ) → now < 2 ^ 63 → MayAnswer lines t now until (wait_answer lines now t until)
answer_may lines t now until fits = may_by lines t now until (is_to_fault lines (answers.waits t)) fits

-- each wait is an item
pub waits_few : (t : List Item) → answers.waits t ≤ length t
waits_few [] = omega arith
waits_few (item.Waited until at end ∷ r) = let few = waits_few r in omega arith
waits_few (i ∷ r) = let few = waits_few r in omega arith

-- the newest item stands first
pub newest : (items items' : List Item) (i : Item) → items' ≡ items ++ i ∷ [] → reverse items' ≡ i ∷ reverse items
newest items items' i e = ap reverse e ∙ reverse-append items (i ∷ [])

-- another channel of a socket
set_place : (cs : List Channel) (k s : ℕ) (x d : Channel) → slice_get (slice_set cs k x) s ≡ Some d → ((k ≡ s) × (x ≡ d)) ⊎ (slice_get cs s ≡ Some d)
set_place [] k s x d h = inr h
set_place (c ∷ cs) zero zero x d h = inl (refl, cc)
set_place (c ∷ cs) zero (suc s) x d h = inr h
set_place (c ∷ cs) (suc k) zero x d h = inr h
set_place (c ∷ cs) (suc k) (suc s) x d h =
    elim (set_place cs k s x d h) as (λ _. ((suc k ≡ suc s) × (x ≡ d)) ⊎ (slice_get cs s ≡ Some d)) [
      | inl p ↦ inl (ap (λ n. suc n) p.0, p.1)
      | inr p ↦ inr p
    ]

set_length : (cs : List Channel) (k : ℕ) (x : Channel) → length (slice_set cs k x) ≡ length cs
set_length [] k x = refl
set_length (c ∷ cs) zero x = refl
set_length (c ∷ cs) (suc k) x = ap (λ n. suc n) (set_length cs k x)

pub channels_set : (lines : List Line) (t : List Item) (n k : ℕ) (cs cs' : List Channel) (c x : Channel) → AreChannels lines t n cs → slice_get cs k ≡ Some c → cs' ≡ slice_set cs k x → x.stream ≡ c.stream → x.done ≡ c.done → IsWithin lines x → AreChannels lines t n cs'
channels_set lines t n k cs cs' c x h there set streams times within =
    subst (AreChannels lines t n) (sym set) (record { count = h.count ∙ sym (set_length cs k x); each = each })
  where
    each : (s : ℕ) (d : Channel) → slice_get (slice_set cs k x) s ≡ Some d → IsChannelOf lines t s d
    each s d at = elim (set_place cs k s x d at) as (λ _. IsChannelOf lines t s d) [
      | inl p ↦ (let was = h.each k c there in
          subst (λ v. IsChannelOf lines t v d) p.0 (subst (IsChannelOf lines t k) p.1 (record {
            stream = streams ∙ was.stream;
            done = times ∙ was.done;
            fits = subst (λ v. v < 2 ^ 63) (sym times) was.fits;
            within = within;
          })))
      | inr p ↦ h.each s d p
    ]

-- there is a channel at each place
pub some_channel : (cs : List Channel) (k : ℕ) → k < length cs → (c : Channel) × (slice_get cs k ≡ Some c)
some_channel [] k h = absurd (omega arith)
some_channel (c ∷ cs) zero h = (c, refl)
some_channel (c ∷ cs) (suc k) h = some_channel cs k (omega arith)
