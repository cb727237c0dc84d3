-- Calls on a connection, one list of them behind another.
use Rattle.std.proofs.Common.{◌≡◌, ℕ, List, [], ◌∷◌, ◌++◌, refl, ap, sym, subst, ◌∙◌}
use Rattle.std.specs.Prelude.{Result, Ok, Err}
use Rattle.taps_base.specs.declared.no_memory.NoMemory.{NoMemory}
use Rattle.taps_socket.specs.Calls.{Call}
use Rattle.taps_exchange.specs.declared.exchanged.Exchanged.{Exchanged}
use Rattle.taps_listening.specs.ListenRules.{ListenRules}
use Rattle.taps_listening.specs.Served.{Serves, HasServed}
use Rattle.taps_listening.specs.Serving.{Served, turn_serving, with_call, served_after, AllServing}

after_behind : (c : Served) (more calls : List Call) → served_after c (more ++ calls) ≡ served_after (served_after c calls) more
after_behind c [] calls = refl
after_behind c (call ∷ more) calls = ap (λ v. with_call v call) (after_behind c more calls)

turns_behind : (r : ListenRules) (place : ℕ) (c : Served) (more calls : List Call) → AllServing r place c calls → AllServing r place (served_after c calls) more → AllServing r place c (more ++ calls)
turns_behind r place c [] calls a b = a
turns_behind r place c (call ∷ more) calls a b =
    (ap (turn_serving r place) (after_behind c more calls) ∙ b.0, turns_behind r place c more calls a b.1)

pub serves_on : {N : Type 0} (Becomes : N → List Call → N → Type 0) (r : ListenRules) (place : ℕ) (x y z : N) (a b c : Served) →
    ((a b c : N) (g h : List Call) → Becomes a g b → Becomes b h c → Becomes a (h ++ g) c) → Serves Becomes r place x y a b → Serves Becomes r place y z b c → Serves Becomes r place x z a c
serves_on Becomes r place x y z a b c on p q =
    record {
      calls = q.calls ++ p.calls;
      becomes = on x y z p.calls q.calls p.becomes q.becomes;
      in_turn = turns_behind r place a q.calls p.calls p.in_turn (subst (λ v. AllServing r place v q.calls) (sym p.reaches) q.in_turn);
      reaches = after_behind a q.calls p.calls ∙ (ap (λ v. served_after v q.calls) p.reaches ∙ q.reaches);
    }

-- what comes of the exchange from a later state on, comes of it from an earlier one on
pub served_on : {N : Type 0} (Becomes : N → List Call → N → Type 0) (r : ListenRules) (place : ℕ) (x y z : N) (a b : Served) (result : Result Exchanged NoMemory) →
    ((a b c : N) (g h : List Call) → Becomes a g b → Becomes b h c → Becomes a (h ++ g) c) → Serves Becomes r place x y a b → HasServed Becomes r place y z b result → HasServed Becomes r place x z a result
served_on Becomes r place x y z a b (Ok e) on p q =
    record { out = q.out; serves = serves_on Becomes r place x y z a b q.out on p q.serves; is_over = q.is_over; told = q.told }
served_on Becomes r place x y z a b (Err none) on p q =
    record { out = q.out; serves = serves_on Becomes r place x y z a b q.out on p q.serves }
