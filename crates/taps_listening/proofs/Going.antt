-- Calls of a session, one list of them behind another.
use Rattle.std.proofs.Common.{◌≡◌, ℕ, List, [], ◌∷◌, ◌++◌, refl, ap, sym, subst, ◌∙◌, append_assoc}
use Rattle.taps_socket.specs.Calls.{Call}
use Rattle.taps_exchange.specs.declared.outcome.Outcome.{Outcome}
use Rattle.taps_listening.specs.Accepts.{IsServedNext, IsCutBut}
use Rattle.taps_listening.specs.ListenRules.{ListenRules}
use Rattle.taps_listening.specs.Listening.{Course, course_by, course_from, turn_at, connection_in, closes_if, AllInTurn, Goes}
use Rattle.taps_listening.specs.Serving.{Served}

pub course_behind : (r : ListenRules) (k : Course) (more calls : List Call) → course_from r k (more ++ calls) ≡ course_from r (course_from r k calls) more
course_behind r k [] calls = refl
course_behind r k (call ∷ more) calls = ap (λ v. course_by r v call) (course_behind r k more calls)

pub turns_behind : (r : ListenRules) (k : Course) (more calls : List Call) → AllInTurn r k calls → AllInTurn r (course_from r k calls) more → AllInTurn r k (more ++ calls)
turns_behind r k [] calls a b = a
turns_behind r k (call ∷ more) calls a b = (ap (turn_at r) (course_behind r k more calls) ∙ b.0, turns_behind r k more calls a b.1)

module _ {N : Type 0} (Becomes : N → List Call → N → Type 0) (r : ListenRules) (x y z : N) (a b : Course) (on : (a b c : N) (g h : List Call) → Becomes a g b → Becomes b h c → Becomes a (h ++ g) c) (p : Goes Becomes r x y a b) where
  pub goes_on : (c : Course) → Goes Becomes r y z b c → Goes Becomes r x z a c
  goes_on c q =
      record {
        calls = q.calls ++ p.calls;
        becomes = on x y z p.calls q.calls p.becomes q.becomes;
        in_turn = turns_behind r a q.calls p.calls p.in_turn (subst (λ v. AllInTurn r v q.calls) (sym p.reaches) q.in_turn);
        reaches = course_behind r a q.calls p.calls ∙ (ap (λ v. course_from r v q.calls) p.reaches ∙ q.reaches);
      }

  pub next_on : (listener : ℕ) (served : List Served) (o : Outcome) (sent : ℕ) (heard : List (List ℕ)) → IsServedNext Becomes r y z listener b served o sent heard → IsServedNext Becomes r x z listener a served o sent heard
  next_on listener served o sent heard q = record { out = q.out; goes = goes_on _ q.goes; told = q.told; own = q.own }

  pub cut_on : (listener : ℕ) → IsCutBut Becomes r y z listener b → IsCutBut Becomes r x z listener a
  cut_on listener q =
      record {
        calls = q.calls ++ p.calls;
        course = q.course;
        in_turn = turns_behind r a q.calls p.calls p.in_turn (subst (λ v. AllInTurn r v q.calls) (sym p.reaches) q.in_turn);
        reaches = course_behind r a q.calls p.calls ∙ (ap (λ v. course_from r v q.calls) p.reaches ∙ q.reaches);
        listens = q.listens;
        becomes = subst (λ v. Becomes x v z) (append_assoc (closes_if (connection_in q.course.phase)) q.calls p.calls) (on x y z p.calls (closes_if (connection_in q.course.phase) ++ q.calls) p.becomes q.becomes);
      }
