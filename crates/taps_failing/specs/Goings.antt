-- How failing sockets go from call to call: through none, and through calls and then others.
use Rattle.std.proofs.Common.{◌≡◌, ℕ, Bool, true, false, if◌then◌else◌, List, [], ◌∷◌, ◌++◌, refl, sym, ap, ◌∙◌, subst}
use Rattle.taps_socket.specs.Calls.{Call, request_of}
use Rattle.taps_socket.specs.Net.{Net}
use Rattle.taps_socket.specs.Shows.{told_by, told_after}
use Rattle.taps_socket.specs.Shown.{shows_none, shows_on}
use Rattle.taps_failing.specs.declared.failure.Failure.{Failure}
use Rattle.taps_failing.specs.FailingCalls.{is_failing, failure_by, failure_after, passed_on, failed_call, AreFailed}
use Rattle.taps_failing.specs.FailingNet.{FailingState, failing_net, BecomesFailing}

-- no call
pub goes_none : {N : Type 0} (net : N → Net) (Becomes : N → List Call → N → Type 0) (a : FailingState N)
    → Becomes a.net [] a.net → BecomesFailing net Becomes a [] a
goes_none net Becomes a becomes =
    record { becomes = becomes; failure = refl; failed = tt; shows = shows_none (failing_net (net a.net) a.own) }

failure_on : (g h : List Call) (f x : Failure) → x ≡ failure_after g f
    → failure_after (h ++ g) f ≡ failure_after h x
failure_on g [] f x e = sym e
failure_on g (c ∷ h) f x e = ap (failure_by c) (failure_on g h f x e)

passed_or : (q r : Bool) (c : Call) (g h t : List Call) → q ≡ r → t ≡ h ++ g
    → (if q then t else c ∷ t) ≡ (if r then h else c ∷ h) ++ g
passed_or true true c g h t e more = more
passed_or true false c g h t e more = cc
passed_or false true c g h t e more = cc
passed_or false false c g h t e more = ap (λ v. c ∷ v) more

passed_both : (g h : List Call) (f x : Failure) → x ≡ failure_after g f
    → passed_on (h ++ g) f ≡ passed_on h x ++ passed_on g f
passed_both g [] f x e = refl
passed_both g (c ∷ h) f x e =
    passed_or (is_failing c (failure_after (h ++ g) f)) (is_failing c (failure_after h x)) c (passed_on g f)
    (passed_on h x) (passed_on (h ++ g) f) (ap (is_failing c) (failure_on g h f x e)) (passed_both g h f x e)

told_on : (g h : List Call) (a b : ℕ) → b ≡ told_after g a → told_after (h ++ g) a ≡ told_after h b
told_on g [] a b e = sym e
told_on g (c ∷ h) a b e = ap (told_by c) (told_on g h a b e)

failed_both : (g h : List Call) (f x : Failure) (a b : ℕ) → x ≡ failure_after g f → b ≡ told_after g a
    → AreFailed g f a → AreFailed h x b → AreFailed (h ++ g) f a
failed_both g [] f x a b e t p q = p
failed_both g (c ∷ h) f x a b e t p q = (
  λ fails. q.0 (sym (ap (is_failing c) (failure_on g h f x e)) ∙ fails)
      ∙ ap (λ v. failed_call v (request_of c)) (sym (told_on g h a b t)),
  failed_both g h f x a b e t p q.1,
)

-- calls, and then others
pub goes_on : {N : Type 0} (net : N → Net) (Becomes : N → List Call → N → Type 0) (a b c : FailingState N)
    (first more : List Call)
    → ((x y z : N) (g h : List Call) → Becomes x g y → Becomes y h z → Becomes x (h ++ g) z)
    → BecomesFailing net Becomes a first b → BecomesFailing net Becomes b more c
    → BecomesFailing net Becomes a (more ++ first) c
goes_on net Becomes a b c first more on p q =
    record {
      becomes = subst (λ v. Becomes a.net v c.net)
          (sym (passed_both first more a.own.failure b.own.failure p.failure))
          (on a.net b.net c.net (passed_on first a.own.failure) (passed_on more b.own.failure) p.becomes q.becomes);
      failure = q.failure ∙ sym (failure_on first more a.own.failure b.own.failure p.failure);
      failed = failed_both first more a.own.failure b.own.failure a.own.told b.own.told p.failure p.shows.told p.failed
          q.failed;
      shows = shows_on (failing_net (net a.net) a.own) (failing_net (net b.net) b.own) (failing_net (net c.net) c.own)
          first more p.shows q.shows;
    }
