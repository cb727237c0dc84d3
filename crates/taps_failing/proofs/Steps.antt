-- What a call that was passed on makes of the whole record, and how a wait may end.
use Rattle.std.proofs.Common.{◌≡◌, ℕ, ◌+◌, ◌-◌, ◌≤◌, Bool, true, false, ◌&&◌, if◌then◌else◌, List, [], ◌∷◌, ◌++◌, refl, sym, ap, ◌∙◌, subst, arith}
use Rattle.taps_base.specs.Counts.{Rose}
use Rattle.taps_socket.specs.declared.answers.AcceptAnswer.TheVariants as accept
use Rattle.taps_socket.specs.declared.answers.SendAnswer.TheVariants as send
use Rattle.taps_socket.specs.declared.answers.RecvAnswer.TheVariants as recv
use Rattle.taps_socket.specs.declared.item.How.{How}
use Rattle.taps_socket.specs.declared.item.How.TheVariants as how
use Rattle.taps_socket.specs.declared.item.Item.{Item}
use Rattle.taps_socket.specs.RaceSockets.{has}
use Rattle.taps_socket.specs.Sides.{carries_stream}
use Rattle.taps_socket.specs.Calls.{Call, begins, starts, waits, closes, listens, accepts, sends, shuts, receives, items_by}
use Rattle.taps_socket.specs.Net.{Net, after_call, with_faults, MayEnd}
use Rattle.taps_socket.specs.Shows.{IsLawful, EndsInTime, is_faulted, is_fault_end, told_by}
use Rattle.taps_socket.specs.Shown.{shows_call}
use Rattle.taps_failing.specs.declared.failure.Failure.{Failure}
use Rattle.taps_failing.specs.declared.failure.Failure.TheVariants.{Ahead, Past, Faulted}
use Rattle.std.specs.Prelude.{◌==◌}
use Rattle.taps_failing.specs.FailingCalls.{is_numbered, is_next, turned, is_failing, failure_by}
use Rattle.taps_failing.specs.SameSockets.{TellsSameSockets}
use Rattle.taps_failing.proofs.Same.{pending_same}
use Rattle.taps_failing.specs.FailingNet.{Own, FailingState, own_faults, failing_net, BecomesFailing}

turned_by : (q : Bool) (n : ℕ) → own_faults (if q then Past else Ahead n) ≡ 0
turned_by true n = refl
turned_by false n = refl

pub turned_faults : (f : Failure) → own_faults (turned f) ≡ own_faults f
turned_faults (Ahead n) = turned_by (n == 0) (n - 1)
turned_faults Past = refl
turned_faults Faulted = refl

turn_by : (r fault : Bool) (f : Failure) → r ≡ false → (if r && fault then Faulted else turned f) ≡ turned f
turn_by true fault f e = cc
turn_by false fault f e = refl

-- after a numbered call that was passed on
pub turned_is : (c : Call) (f : Failure) → is_numbered c ≡ true → is_next f ≡ false → failure_by c f ≡ turned f
turned_is c f numbered next = rw numbered (turn_by (is_next f) (is_faulted c) f next)

-- the spare after items
abbrev pub spare_after : List Item → ℕ → ℕ
spare_after [] spare = spare
spare_after (i ∷ more) spare = spare - 1

-- the own record after a call, with the failing call standing so
abbrev pub own_with : Call → Own → Failure → Own
own_with c o f = record {
  trace = items_by c ++ o.trace;
  told = told_by c o.told;
  spare = spare_after (items_by c) o.spare;
  failure = f;
}

-- the two traces agree on which sockets carry a stream
abbrev pub SameStreams : Net → Own → Type 0
SameStreams n o = (s : ℕ) → carries_stream n.trace s ≡ carries_stream o.trace s

seen_at : (c : Call) (n : Net) (x : ℕ) (o : Own) (f : Failure) → SameStreams n o
    → failing_net (with_faults (after_call c n) x) (own_with c o f) ≡ with_faults (after_call c (failing_net n o)) (x + own_faults f)
seen_at (begins at) n x o f same = refl
seen_at (starts leaf target answer) n x o f same = refl
seen_at (waits until answer) n x o f same = refl
seen_at (closes socket) n x o f same = refl
seen_at (listens target answer) n x o f same = refl
seen_at (accepts listener until (accept.Accepted socket at)) n x o f same = refl
seen_at (accepts listener until (accept.Timed at)) n x o f same = refl
seen_at (accepts listener until (accept.Faulted at)) n x o f same = refl
seen_at (sends socket bytes until (send.Sent count at)) n x o f same = rw (same socket) refl
seen_at (sends socket bytes until (send.Timed at)) n x o f same = refl
seen_at (sends socket bytes until (send.Failed cause)) n x o f same = refl
seen_at (shuts socket) n x o f same = refl
seen_at (receives socket most until came (recv.Got count at)) n x o f same = rw (same socket) refl
seen_at (receives socket most until came recv.End) n x o f same = refl
seen_at (receives socket most until came (recv.Timed at)) n x o f same = refl
seen_at (receives socket most until came (recv.Failed cause)) n x o f same = refl

-- what a call makes of the others and of the own record is what it makes of both together
pub seen : (c : Call) (n m : Net) (o : Own) (f : Failure) → SameStreams n o
    → m ≡ with_faults (after_call c n) m.faults
    → failing_net m (own_with c o f) ≡ with_faults (after_call c (failing_net n o)) (m.faults + own_faults f)
seen c n m o f same e = ap (λ v. failing_net v (own_with c o f)) e ∙ seen_at c n m.faults o f same

-- a call that was passed on
pub goes_passed : {N : Type 0} (net : N → Net) (Becomes : N → List Call → N → Type 0) (a b : FailingState N) (c : Call)
    → is_failing c a.own.failure ≡ false → b.own.failure ≡ failure_by c a.own.failure → Becomes a.net (c ∷ []) b.net
    → failing_net (net b.net) b.own ≡ with_faults (after_call c (failing_net (net a.net) a.own)) (failing_net (net b.net) b.own).faults
    → IsLawful c a.own.trace a.own.told
    → (failing_net (net a.net) a.own).faults ≤ (failing_net (net b.net) b.own).faults
    → (is_faulted c ≡ true → Rose (failing_net (net a.net) a.own).faults (failing_net (net b.net) b.own).faults)
    → BecomesFailing net Becomes a (c ∷ []) b
goes_passed net Becomes a b c passes failure becomes e lawful faults rose =
    record {
      becomes = rw passes becomes;
      failure = failure;
      failed = (λ fails. (let z : true ≡ false = sym fails ∙ passes in cc), tt);
      shows = shows_call c (failing_net (net a.net) a.own) (failing_net (net b.net) b.own) e lawful faults rose;
    }

-- how a wait may end for the others is how it may end for all
pub ends_on : (how : How) (until at : ℕ) (n m : Net) (o p : Own) → TellsSameSockets o.trace n.trace
    → own_faults p.failure ≡ own_faults o.failure → MayEnd how until at n m
    → MayEnd how until at (failing_net n o) (failing_net m p)
ends_on how.Reached until at n m o p same count h = h
ends_on (how.Completed socket) until at n m o p same count h = subst (λ v. has v socket ≡ true) (sym (pending_same o.trace n.trace same)) h
ends_on (how.Broke socket cause) until at n m o p same count h = subst (λ v. has v socket ≡ true) (sym (pending_same o.trace n.trace same)) h
ends_on how.Faulted until at n m o p same count h = let rose = h in omega arith

pub ends_in_time : (how : How) (until at : ℕ) (n m : Net) → MayEnd how until at n m → EndsInTime how until at n.trace
ends_in_time how.Reached until at n m h = h
ends_in_time (how.Completed socket) until at n m h = h
ends_in_time (how.Broke socket cause) until at n m h = h
ends_in_time how.Faulted until at n m h = tt

pub end_rose : (how : How) (until at : ℕ) (n m : Net) → MayEnd how until at n m → is_fault_end how ≡ true
    → Rose n.faults m.faults
end_rose how.Reached until at n m h e = (let z : false ≡ true = e in cc)
end_rose (how.Completed socket) until at n m h e = (let z : false ≡ true = e in cc)
end_rose (how.Broke socket cause) until at n m h e = (let z : false ≡ true = e in cc)
end_rose how.Faulted until at n m h e = h
