-- Which sockets calls name that follow a script: a start the next number, and the end of a wait one that is pending.
use Rattle.std.proofs.Common.{◌≡◌, ℕ, ◌<◌, Bool, true, false, ◌||◌, List, [], ◌∷◌, ◌++◌, length, length-append, refl, sym, subst, inl, inr, arith, if◌then◌else◌}
use Rattle.std.specs.Prelude.{◌==◌, nat_lt, nat_le, min, max, map, ◌+◌, ◌-◌, ◌^◌, Option, None, Some, IfSome}
use Rattle.std.proofs.lemmas.Bool.{eqb-true}
use Rattle.std.proofs.lemmas.List.Folds.{list_any-append}
use Rattle.taps_stack.specs.declared.target.Target.{Target}
use Rattle.taps_socket.specs.declared.cause.Cause.TheVariants.{Memory}
use Rattle.taps_socket.specs.declared.item.How.{How}
use Rattle.taps_socket.specs.declared.item.How.TheVariants as how
use Rattle.taps_socket.specs.declared.item.Item.{Item}
use Rattle.taps_socket.specs.declared.item.Item.TheVariants as item
use Rattle.taps_socket.specs.declared.answers.StartAnswer.{StartAnswer}
use Rattle.taps_socket.specs.declared.answers.StartAnswer.TheVariants as start
use Rattle.taps_socket.specs.declared.answers.ListenAnswer.TheVariants as listen
use Rattle.taps_socket.specs.declared.answers.AcceptAnswer.TheVariants as accept
use Rattle.taps_socket.specs.declared.answers.SendAnswer.TheVariants as send
use Rattle.taps_socket.specs.declared.answers.RecvAnswer.TheVariants as recv
use Rattle.taps_socket.specs.declared.answers.WaitAnswer.{WaitAnswer}
use Rattle.taps_socket.specs.RaceSockets.{has, started, broke, pending_sockets}
use Rattle.taps_socket.specs.LiveSockets.{named_by_end}
use Rattle.taps_socket.specs.Calls.{Call, begins, starts, waits, closes, listens, accepts, sends, shuts, receives, items_of}
use Rattle.taps_socket.proofs.Lists.{either}
use Rattle.taps_script.specs.declared.line.Fate.{Fate}
use Rattle.taps_script.specs.declared.line.Fate.TheVariants.{Refuses, Completes, Breaks, Silent}
use Rattle.taps_script.specs.declared.line.Line.{Line}
use Rattle.taps_script.specs.ScriptLines.{late_of, is_to_fault, fate_under}
use Rattle.taps_script.specs.ScriptAnswers as answers
use Rattle.taps_script.specs.ScriptAnswers.{events, first_event, idle_answer, answer_by, wait_answer, start_by, start_answer}
use Rattle.taps_script.specs.ScriptSteps.{Follows, clock_after}
use Rattle.taps_script.proofs.ScriptEvents.{pending_started}
use Rattle.taps_script.proofs.ScriptKept.{IsPending, first_pending}
use Rattle.taps_script.proofs.RaceCalls.{call_of}

-- a start gives the next number
number_by_fate : (fate : Fate) (n now socket at : ℕ) → start.Started socket at ≡ start_by fate n now → socket ≡ n
number_by_fate (Refuses cause) n now socket at e = cc
number_by_fate (Completes delay) n now socket at e = cc
number_by_fate (Breaks delay cause) n now socket at e = cc
number_by_fate Silent n now socket at e = cc

number_by : (q : Bool) (fate : Fate) (n now socket at : ℕ) → start.Started socket at ≡ (if q then start.Refused Memory now else start_by fate n now) → socket ≡ n
number_by true fate n now socket at e = cc
number_by false fate n now socket at e = number_by_fate fate n now socket at e

its_answer : (leaf : ℕ) (target : Target) (a b : StartAnswer) → starts leaf target a ≡ starts leaf target b → a ≡ b
its_answer leaf target a b e = cc

pub start_number : (lines : List Line) (now : ℕ) (t : List Item) (leaf : ℕ) (target : Target) (socket at : ℕ) → starts leaf target (start.Started socket at) ≡ starts leaf target (start_answer lines now t leaf) → socket ≡ length (started t)
start_number lines now t leaf target socket at e =
    number_by (length (started t) == 2 ^ 32 - 1) (fate_under leaf lines) (length (started t)) now socket at (its_answer leaf target (start.Started socket at) (start_answer lines now t leaf) e)

-- the end of a wait names pending sockets alone
abbrev pub NamesPending : List Item → How → Type 0
NamesPending t end = (s : ℕ) → has (named_by_end end) s ≡ true → has (pending_sockets t) s ≡ true

names_one : (t : List Item) (x : ℕ) (end : How) → named_by_end end ≡ x ∷ [] → has (pending_sockets t) x ≡ true → NamesPending t end
names_one t x end names there s h =
    elim (either (x == s) false (rw names at h)) as (λ _. has (pending_sockets t) s ≡ true) [
      | inl same ↦ subst (λ v. has (pending_sockets t) v ≡ true) (eqb-true x s same) there
      | inr none ↦ absurd (let z : false ≡ true = none in cc)
    ]

abbrev AnswersPending : List Item → WaitAnswer → Type 0
AnswersPending t a = NamesPending t a.how

idle_names : (q : Bool) (t : List Item) (now late until : ℕ) → AnswersPending t (if q then record { at = min (max now until + late) (2 ^ 63 - 1); how = how.Reached } else record { at = now; how = how.Faulted })
idle_names true t now late until s h = cc
idle_names false t now late until s h = cc

event_names : (q : Bool) (t : List Item) (now late until : ℕ) (v : WaitAnswer) → IsPending t v → AnswersPending t (if q then record { at = max now v.at; how = v.how } else idle_answer now late until)
event_names true t now late until v h = names_one t h.number v.how h.is_event.socket h.pending
event_names false t now late until v h = idle_names (nat_lt until (2 ^ 63)) t now late until

names_by : (t : List Item) (now late until : ℕ) (o : Option WaitAnswer) → IfSome o (IsPending t) → AnswersPending t (answer_by now late until o)
names_by t now late until None h = idle_names (nat_lt until (2 ^ 63)) t now late until
names_by t now late until (Some v) h = event_names (nat_le v.at until) t now late until v h

fault_or : (q : Bool) (t : List Item) (now : ℕ) (a : WaitAnswer) → AnswersPending t a → AnswersPending t (if q then record { at = now; how = how.Faulted } else a)
fault_or true t now a h = λ s none. cc
fault_or false t now a h = h

answer_of : (until : ℕ) (a b : WaitAnswer) → waits until a ≡ waits until b → a ≡ b
answer_of until a b e = cc

pub end_names : (lines : List Line) (now : ℕ) (t : List Item) (until at : ℕ) (end : How) → waits until (record { at = at; how = end }) ≡ waits until (wait_answer lines now t until) → NamesPending t end
end_names lines now t until at end e =
    subst (AnswersPending t) (sym (answer_of until (record { at = at; how = end }) (wait_answer lines now t until) e)) (fault_or (is_to_fault lines (answers.waits t)) t now (answer_by now (late_of lines) until (first_event (events lines t))) (names_by t now (late_of lines) until (first_event (events lines t)) (first_pending lines t)))

-- so each started socket is numbered below the next one
one_below : (xs : List ℕ) (x s : ℕ) → x ≡ length xs → (has xs s ≡ true → s < length xs) → has (xs ++ x ∷ []) s ≡ true → s < length (xs ++ x ∷ [])
one_below xs x s next old h =
    let longer = length-append xs (x ∷ []) in
    elim (either (has xs s) ((x == s) || false) (rw list_any-append at h)) as (λ _. s < length (xs ++ x ∷ [])) [
      | inl there ↦ (let less = old there in omega arith)
      | inr here ↦ elim (either (x == s) false here) as (λ _. s < length (xs ++ x ∷ [])) [ inl same ↦ (let is : x ≡ s = eqb-true x s same in omega arith) | inr none ↦ absurd (let z : false ≡ true = none in cc) ]
    ]

pub started_below : (lines : List Line) (calls : List Call) (s : ℕ) → Follows lines calls → has (started (items_of calls)) s ≡ true → s < length (started (items_of calls))
started_below lines [] s f h = cc
started_below lines (begins at ∷ e) s f h = started_below lines e s f.1 h
started_below lines (starts leaf target (start.Started x at) ∷ e) s f h =
    one_below (started (items_of e)) x s (start_number lines (clock_after lines e) (items_of e) leaf target x at f.0) (started_below lines e s f.1) h
started_below lines (starts leaf target (start.Refused cause at) ∷ e) s f h = started_below lines e s f.1 h
started_below lines (waits until answer ∷ e) s f h = started_below lines e s f.1 h
started_below lines (closes socket ∷ e) s f h = started_below lines e s f.1 h
started_below lines (listens target (listen.Listening socket at) ∷ e) s f h = started_below lines e s f.1 h
started_below lines (listens target (listen.Refused cause at) ∷ e) s f h = started_below lines e s f.1 h
started_below lines (accepts listener until (accept.Accepted socket at) ∷ e) s f h = started_below lines e s f.1 h
started_below lines (accepts listener until (accept.Timed at) ∷ e) s f h = started_below lines e s f.1 h
started_below lines (accepts listener until (accept.Faulted at) ∷ e) s f h = started_below lines e s f.1 h
started_below lines (sends socket bytes until (send.Sent count at) ∷ e) s f h = started_below lines e s f.1 h
started_below lines (sends socket bytes until (send.Timed at) ∷ e) s f h = started_below lines e s f.1 h
started_below lines (sends socket bytes until (send.Failed cause) ∷ e) s f h = started_below lines e s f.1 h
started_below lines (shuts socket ∷ e) s f h = started_below lines e s f.1 h
started_below lines (receives socket most until came (recv.Got count at) ∷ e) s f h = started_below lines e s f.1 h
started_below lines (receives socket most until came recv.End ∷ e) s f h = started_below lines e s f.1 h
started_below lines (receives socket most until came (recv.Timed at) ∷ e) s f h = started_below lines e s f.1 h
started_below lines (receives socket most until came (recv.Failed cause) ∷ e) s f h = started_below lines e s f.1 h

-- and each that broke in a race behind earlier calls
pub broke_below : (lines : List Line) (earlier : List Call) (t : List Item) (s : ℕ) → Follows lines (map call_of t ++ earlier) → has (broke t) s ≡ true → s < length (started (items_of (map call_of t ++ earlier)))
broke_below lines earlier [] s f h = cc
broke_below lines earlier (item.Began at ∷ r) s f h = broke_below lines earlier r s f.1 h
broke_below lines earlier (item.Started leaf target x at ∷ r) s f h =
    let longer = length-append (started (items_of (map call_of r ++ earlier))) (x ∷ []) in
    let less = broke_below lines earlier r s f.1 h in
    omega arith
broke_below lines earlier (item.Refused leaf target cause at ∷ r) s f h = broke_below lines earlier r s f.1 h
broke_below lines earlier (item.Waited until at how.Reached ∷ r) s f h = broke_below lines earlier r s f.1 h
broke_below lines earlier (item.Waited until at (how.Completed x) ∷ r) s f h = broke_below lines earlier r s f.1 h
broke_below lines earlier (item.Waited until at (how.Broke x cause) ∷ r) s f h =
    elim (either (x == s) (has (broke r) s) h) as (λ _. s < length (started (items_of (map call_of r ++ earlier)))) [
      | inl same ↦ started_below lines (map call_of r ++ earlier) s f.1 (pending_started (items_of (map call_of r ++ earlier)) s (end_names lines (clock_after lines (map call_of r ++ earlier)) (items_of (map call_of r ++ earlier)) until at (how.Broke x cause) f.0 s (rw same refl)))
      | inr old ↦ broke_below lines earlier r s f.1 old
    ]
broke_below lines earlier (item.Waited until at how.Faulted ∷ r) s f h = broke_below lines earlier r s f.1 h
broke_below lines earlier (item.Closed x ∷ r) s f h = broke_below lines earlier r s f.1 h
broke_below lines earlier (item.Listening target x at ∷ r) s f h = broke_below lines earlier r s f.1 h
broke_below lines earlier (item.NotListening target cause at ∷ r) s f h = broke_below lines earlier r s f.1 h
broke_below lines earlier (item.Accepted listener x at ∷ r) s f h = broke_below lines earlier r s f.1 h
broke_below lines earlier (item.Faulted at ∷ r) s f h = broke_below lines earlier r s f.1 h
broke_below lines earlier (item.Shut x ∷ r) s f h = broke_below lines earlier r s f.1 h
broke_below lines earlier (item.Ended x ∷ r) s f h = broke_below lines earlier r s f.1 h
broke_below lines earlier (item.DataFailed x sending cause ∷ r) s f h = broke_below lines earlier r s f.1 h
