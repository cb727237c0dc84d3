-- What a send and a receive may come to, by the definition of a script's answers.
use Rattle.std.proofs.Common.{◌≡◌, ℕ, ◌+◌, ◌<◌, ◌≤◌, ◌^◌, Bool, true, false, List, [], ◌∷◌, length, refl, ap, subst, arith, if◌then◌else◌}
use Rattle.std.specs.Prelude.{nat_lt, nat_le, max, ◌&&◌, Option, None, Some, unwrap_or, option_map}
use Rattle.std.specs.Option.{option_and_then, option_or, option_map_or}
use Rattle.std.proofs.lemmas.Bool.{ltb-true, leb-true}
use Rattle.taps_socket.specs.declared.cause.Cause.{Cause}
use Rattle.taps_socket.specs.declared.answers.SendAnswer.TheVariants as send
use Rattle.taps_socket.specs.declared.answers.RecvAnswer.TheVariants as recv
use Rattle.taps_socket.specs.Net.{IsCount}
use Rattle.taps_script.specs.declared.line.Line.{Line}
use Rattle.taps_script.specs.declared.line.Line.TheVariants.{Begin, Late, Fault, Leaf, Take, Give, Peer}
use Rattle.taps_script.specs.ScriptTexts.{LinesFit}
use Rattle.taps_script.specs.ScriptLines.{take_in, hold_in}
use Rattle.taps_script.specs.PeerTimes.{has_ended, failure, time_of, next_by, next_time}
use Rattle.taps_script.specs.DataAnswers.{Link, limited, taken, send_by, send_at, send_held, send_step, ReceiveStep, found, closing_by, closing, receive_by, receive_at, up_to, receive_next, receive_step}
use Rattle.taps_script.specs.ReceiveFacts.{IsReceived}
use Rattle.taps_script.specs.ScriptNet.{IsSendStep}

-- limits are of at least one byte
take_fits : (lines : List Line) (most : ℕ) → LinesFit lines → take_in lines ≡ Some most → 1 ≤ most
take_fits [] most fit e = let z : None ≡ Some most = e in absurd cc
take_fits (Take n ∷ lines) most fit e = let same : n ≡ most = ap (λ o. unwrap_or o 0) e in let h = fit.0.0 in omega arith
take_fits (Begin m ∷ lines) most fit e = take_fits lines most fit.1 e
take_fits (Late m ∷ lines) most fit e = take_fits lines most fit.1 e
take_fits (Fault m ∷ lines) most fit e = take_fits lines most fit.1 e
take_fits (Leaf k f ∷ lines) most fit e = take_fits lines most fit.1 e
take_fits (Give m ∷ lines) most fit e = take_fits lines most fit.1 e
take_fits (Peer p ∷ lines) most fit e = take_fits lines most fit.1 e

limit_some : (o : Option ℕ) (n : ℕ) → ((most : ℕ) → o ≡ Some most → 1 ≤ most) → 1 ≤ n → IsCount (limited o n) n
limit_some None n fit some = record { some = some; within = omega arith }
limit_some (Some most) n fit some = let low = fit most refl in record { some = omega arith; within = omega arith }

taken_some : (lines : List Line) (stream : Bool) (n : ℕ) → LinesFit lines → 1 ≤ n → IsCount (taken lines stream n) n × (stream ≡ false → taken lines stream n ≡ n)
taken_some lines true n fit some = (limit_some (take_in lines) n (λ most e. take_fits lines most fit e) some, λ e. (let z : true ≡ false = e in absurd cc))
taken_some lines false n fit some = (record { some = some; within = omega arith }, λ e. refl)

-- a send
may_by : (o : Option Cause) (stream : Bool) (now count n until told : ℕ) → told ≤ now → now < 2 ^ 63 → IsCount count n → (stream ≡ false → count ≡ n) → IsSendStep (send_by o now count) stream n until told
may_by (Some cause) stream now count n until told later fits some whole = record { later = later; fits = fits; answer = tt }
may_by None stream now count n until told later fits some whole = record { later = later; fits = fits; answer = (some, whole, refl) }

may_at : (lines : List Line) (link : Link) (now n until told : ℕ) → LinesFit lines → told ≤ now → now < 2 ^ 63 → 1 ≤ n → IsSendStep (send_at lines link now n) link.stream n until told
may_at lines link now n until told fit later fits some =
    let t = taken_some lines link.stream n fit some in
    may_by (failure link.done now lines) link.stream now (taken lines link.stream n) n until told later fits t.0 t.1

may_held : (lines : List Line) (link : Link) (now n until hold told : ℕ) (p q : Bool) → nat_lt now hold ≡ p → nat_le hold until ≡ q → LinesFit lines → told ≤ now → now < 2 ^ 63 → until < 2 ^ 63 → 1 ≤ n →
    IsSendStep (if p then (if q then send_at lines link hold n else record { clock = max now until; answer = send.Timed (max now until) }) else send_at lines link now n) link.stream n until told
may_held lines link now n until hold told true true e f fit later fits ends some =
    let past : now < hold = ltb-true _ _ e in let in_time : hold ≤ until = leb-true _ _ f in may_at lines link hold n until told fit (omega arith) (omega arith) some
may_held lines link now n until hold told true false e f fit later fits ends some = record { later = omega arith; fits = omega arith; answer = (omega arith, refl) }
may_held lines link now n until hold told false q e f fit later fits ends some = may_at lines link now n until told fit later fits some

may_step : (lines : List Line) (link : Link) (now n until told : ℕ) (o : Option ℕ) → LinesFit lines → told ≤ now → now < 2 ^ 63 → until < 2 ^ 63 → 1 ≤ n →
    IsSendStep (option_map_or (λ delay. send_held lines link now n until (link.done + delay)) o (send_at lines link now n)) link.stream n until told
may_step lines link now n until told None fit later fits ends some = may_at lines link now n until told fit later fits some
may_step lines link now n until told (Some delay) fit later fits ends some =
    may_held lines link now n until (link.done + delay) told (nat_lt now (link.done + delay)) (nat_le (link.done + delay) until) refl refl fit later fits ends some

pub may_send_step : (lines : List Line) (link : Link) (now n until told : ℕ) → LinesFit lines → told ≤ now → now < 2 ^ 63 → until < 2 ^ 63 → 1 ≤ n → IsSendStep (send_step lines link now n until) link.stream n until told
may_send_step lines link now n until told fit later fits ends some = may_step lines link now n until told (hold_in lines) fit later fits ends some

closed_by : (lines : List Line) (link : Link) (now now' most until : ℕ) (b : Bool) (o : Option Cause) (step : ReceiveStep) → (b ≡ true → link.stream ≡ true) → now ≤ now' → now' < 2 ^ 63 →
    option_map (λ answer. (let s : ReceiveStep = record { clock = now'; came = []; answer = answer } in s)) (closing_by b o) ≡ Some step → IsReceived lines link now most until step
closed_by lines link now now' most until true o step streams later fits e =
    let is : (let s : ReceiveStep = record { clock = now'; came = []; answer = recv.End } in s) ≡ step = cc in
    subst (IsReceived lines link now most until) is (record { later = later; fits = fits; answer = streams refl })
closed_by lines link now now' most until false None step streams later fits e = let z : None ≡ Some step = e in absurd cc
closed_by lines link now now' most until false (Some cause) step streams later fits e =
    let is : (let s : ReceiveStep = record { clock = now'; came = []; answer = recv.Failed cause } in s) ≡ step = cc in
    subst (IsReceived lines link now most until) is (record { later = later; fits = fits; answer = tt })

first_true : (a b : Bool) → (a && b) ≡ true → a ≡ true
first_true true b h = refl
first_true false b h = h

found_by : (lines : List Line) (link : Link) (now now' most until : ℕ) (came : List ℕ) (step : ReceiveStep) → came ≡ found lines link now' most → now ≤ now' → now' < 2 ^ 63 →
    receive_by now' came (closing lines link now') ≡ Some step → IsReceived lines link now most until step
found_by lines link now now' most until [] step is later fits e =
    closed_by lines link now now' most until (link.stream && has_ended link.done now' lines) (failure link.done now' lines) step (λ h. first_true link.stream (has_ended link.done now' lines) h) later fits e
found_by lines link now now' most until (b ∷ came) step is later fits e =
    let whole : (let s : ReceiveStep = record { clock = now'; came = b ∷ came; answer = recv.Got (length (b ∷ came)) now' } in s) ≡ step = cc in
    subst (IsReceived lines link now most until) whole (record { later = later; fits = fits; answer = (refl, omega arith, refl, is) })

found_at : (lines : List Line) (link : Link) (now now' most until : ℕ) (step : ReceiveStep) → now ≤ now' → now' < 2 ^ 63 → receive_at lines link most now' ≡ Some step → IsReceived lines link now most until step
found_at lines link now now' most until step later fits e = found_by lines link now now' most until (found lines link now' most) step refl later fits e

-- the next time of the other end is past this one
next_past : (o : Option ℕ) (stream : Bool) (done now at : ℕ) (lines : List Line) → ((at : ℕ) → next_time stream done now lines ≡ Some at → now < at) → next_by o now (next_time stream done now lines) ≡ Some at → now < at
next_past None stream done now at lines more e = more at e
next_past (Some v) stream done now at lines more e = by_test (nat_lt now v) refl e
  where
    by_test : (q : Bool) → nat_lt now v ≡ q → (if q then Some v else next_time stream done now lines) ≡ Some at → now < at
    by_test true f e = (let past : now < v = ltb-true _ _ f in let same : v ≡ at = ap (λ o. unwrap_or o 0) e in omega arith)
    by_test false f e = more at e

past : (stream : Bool) (done now : ℕ) (lines : List Line) (at : ℕ) → next_time stream done now lines ≡ Some at → now < at
past stream done now [] at e = let z : None ≡ Some at = e in absurd cc
past stream done now (line ∷ lines) at e = next_past (time_of stream done line) stream done now at lines (past stream done now lines) e

found_next : (lines : List Line) (link : Link) (now most until : ℕ) (o : Option ℕ) (step : ReceiveStep) → next_time link.stream link.done now lines ≡ o → now < 2 ^ 63 → until < 2 ^ 63 →
    option_and_then (receive_at lines link most) (option_and_then (up_to until) o) ≡ Some step → IsReceived lines link now most until step
found_next lines link now most until None step is fits ends e = let z : None ≡ Some step = e in absurd cc
found_next lines link now most until (Some at) step is fits ends e = by_test (nat_le at until) refl e
  where
    by_test : (q : Bool) → nat_le at until ≡ q → option_and_then (receive_at lines link most) (if q then Some at else None) ≡ Some step → IsReceived lines link now most until step
    by_test true f e = (let later : now < at = past link.stream link.done now lines at is in let in_time : at ≤ until = leb-true _ _ f in found_at lines link now at most until step (omega arith) (omega arith) e)
    by_test false f e = (let z : None ≡ Some step = e in absurd cc)

received_by : (lines : List Line) (link : Link) (now most until : ℕ) (o p : Option ReceiveStep) → receive_at lines link most now ≡ o → receive_next lines link most now until ≡ p → now < 2 ^ 63 → until < 2 ^ 63 →
    IsReceived lines link now most until (unwrap_or (option_or o p) (record { clock = max now until; came = []; answer = recv.Timed (max now until) }))
received_by lines link now most until (Some step) p e f fits ends = found_at lines link now now most until step (omega arith) fits e
received_by lines link now most until None (Some step) e f fits ends = found_next lines link now most until (next_time link.stream link.done now lines) step refl fits ends f
received_by lines link now most until None None e f fits ends = record { later = omega arith; fits = omega arith; answer = (omega arith, refl) }

pub is_received : (lines : List Line) (link : Link) (now most until : ℕ) → now < 2 ^ 63 → until < 2 ^ 63 → IsReceived lines link now most until (receive_step lines link now most until)
is_received lines link now most until fits ends = received_by lines link now most until (receive_at lines link most now) (receive_next lines link most now until) refl refl fits ends
