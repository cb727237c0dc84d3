-- In a race that follows a script at most one open socket broke.
use Rattle.std.proofs.Common.{◌≡◌, ℕ, Bool, true, false, not, ◌||◌, List, [], ◌∷◌, ◌++◌, length, sym, subst, ◌∙◌, inl, inr, arith}
use Rattle.std.specs.Prelude.{◌==◌, map}
use Rattle.std.proofs.lemmas.Bool.{eqb-true}
use Rattle.std.proofs.lemmas.List.Folds.{list_any-append}
use Rattle.taps_stack.specs.declared.target.Target.{Target}
use Rattle.taps_socket.specs.declared.cause.Cause.{Cause}
use Rattle.taps_socket.specs.declared.item.How.TheVariants as how
use Rattle.taps_socket.specs.declared.item.Item.{Item}
use Rattle.taps_socket.specs.declared.item.Item.TheVariants as item
use Rattle.taps_socket.specs.RaceTrace.{IsRaceTrace}
use Rattle.taps_socket.specs.RaceSockets.{has, started, closed, broke, open_sockets, broken_sockets}
use Rattle.taps_socket.specs.Rules.{Rules}
use Rattle.taps_socket.specs.LawfulRace.{Each, AttemptsWhenDue, WaitsWhenNothingDue}
use Rattle.taps_socket.specs.Calls.{Call, items_of}
use Rattle.taps_socket.proofs.Lists.{either, kept, keeps}
use Rattle.taps_script.specs.declared.line.Line.{Line}
use Rattle.taps_script.specs.ScriptSteps.{Follows, clock_after}
use Rattle.taps_script.proofs.RaceCalls.{call_of}
use Rattle.taps_script.proofs.ScriptNumbers.{start_number, broke_below}

-- the parts of an open socket that broke
record IsBroken (t : List Item) (s : ℕ) : Type 0 where
  pub broke : has (broke t) s ≡ true
  pub not_closed : not (has (closed t) s) ≡ true
  pub started : has (started t) s ≡ true

is_broken : (t : List Item) (s : ℕ) → has (broken_sockets t) s ≡ true → IsBroken t s
is_broken t s h =
    let b = kept (has (broke t)) (open_sockets t) s h in
    let o = kept (λ s. not (has (closed t) s)) (started t) s b.1 in
    record { broke = b.0; not_closed = o.0; started = o.1 }

of_broken : (t : List Item) (s : ℕ) → IsBroken t s → has (broken_sockets t) s ≡ true
of_broken t s h = keeps (has (broke t)) (open_sockets t) s h.broke (keeps (λ s. not (has (closed t) s)) (started t) s h.not_closed h.started)

-- there is none where the list of them is empty
none_broken : (t : List Item) (s : ℕ) → broken_sockets t ≡ [] → IsBroken t s → ⊥
none_broken t s e h = let z : has [] s ≡ true = rw e at (of_broken t s h) in cc

-- a socket that was just started did not break
old_broken : (lines : List Line) (earlier : List Call) (r : List Item) (leaf : ℕ) (target : Target) (x at s : ℕ) → Follows lines (map call_of r ++ earlier) → x ≡ length (started (items_of (map call_of r ++ earlier))) → IsBroken (item.Started leaf target x at ∷ r) s → IsBroken r s
old_broken lines earlier r leaf target x at s f next h =
    elim (either (has (started r) s) ((x == s) || false) (rw list_any-append at h.started)) as (λ _. IsBroken r s) [
      | inl old ↦ record { broke = h.broke; not_closed = h.not_closed; started = old }
      | inr here ↦ elim (either (x == s) false here) as (λ _. IsBroken r s) [
        | inl same ↦ absurd (let is : x ≡ s = eqb-true x s same in let less = broke_below lines earlier r s f h.broke in omega arith)
        | inr none ↦ absurd (let z : false ≡ true = none in cc)
      ]
    ]

-- where there was none, it is the one of which a wait told
it_broke : (r : List Item) (until at x : ℕ) (cause : Cause) (s : ℕ) → broken_sockets r ≡ [] → IsBroken (item.Waited until at (how.Broke x cause) ∷ r) s → x ≡ s
it_broke r until at x cause s none h =
    elim (either (x == s) (has (broke r) s) h.broke) as (λ _. x ≡ s) [
      | inl same ↦ eqb-true x s same
      | inr old ↦ absurd (none_broken r s none (record { broke = old; not_closed = h.not_closed; started = h.started }))
    ]

-- a close leaves no more
not_either : (q c : Bool) → not (q || c) ≡ true → not c ≡ true
not_either false c h = h
not_either true c h = cc

still_broken : (r : List Item) (x s : ℕ) → IsBroken (item.Closed x ∷ r) s → IsBroken r s
still_broken r x s h = record { broke = h.broke; not_closed = not_either (x == s) (has (closed r) s) h.not_closed; started = h.started }

same_broken : (lines : List Line) (earlier : List Call) (rules : Rules) (t : List Item) → IsRaceTrace t → Follows lines (map call_of t ++ earlier) → Each (AttemptsWhenDue rules) t → Each (WaitsWhenNothingDue rules) t → (s other : ℕ) → IsBroken t s → IsBroken t other → s ≡ other
same_broken lines earlier rules [] race f a w s other h g = let z = h.broke in cc
same_broken lines earlier rules (item.Began at ∷ r) race f a w s other h g = absurd (let z : has (broke []) s ≡ true = subst (λ v. has (broke v) s ≡ true) race h.broke in cc)
same_broken lines earlier rules (item.Started leaf target x at ∷ r) race f a w s other h g =
    absurd (none_broken r s a.0.none_broken (old_broken lines earlier r leaf target x at s f.1 (start_number lines (clock_after lines (map call_of r ++ earlier)) (items_of (map call_of r ++ earlier)) leaf target x at f.0) h))
same_broken lines earlier rules (item.Refused leaf target cause at ∷ r) race f a w s other h g =
    same_broken lines earlier rules r race f.1 a.1 w.1 s other (record { broke = h.broke; not_closed = h.not_closed; started = h.started }) (record { broke = g.broke; not_closed = g.not_closed; started = g.started })
same_broken lines earlier rules (item.Waited until at how.Reached ∷ r) race f a w s other h g =
    same_broken lines earlier rules r race f.1 a.1 w.1 s other (record { broke = h.broke; not_closed = h.not_closed; started = h.started }) (record { broke = g.broke; not_closed = g.not_closed; started = g.started })
same_broken lines earlier rules (item.Waited until at (how.Completed x) ∷ r) race f a w s other h g =
    same_broken lines earlier rules r race f.1 a.1 w.1 s other (record { broke = h.broke; not_closed = h.not_closed; started = h.started }) (record { broke = g.broke; not_closed = g.not_closed; started = g.started })
same_broken lines earlier rules (item.Waited until at (how.Broke x cause) ∷ r) race f a w s other h g =
    sym (it_broke r until at x cause s w.0.none_broken h) ∙ it_broke r until at x cause other w.0.none_broken g
same_broken lines earlier rules (item.Waited until at how.Faulted ∷ r) race f a w s other h g =
    same_broken lines earlier rules r race f.1 a.1 w.1 s other (record { broke = h.broke; not_closed = h.not_closed; started = h.started }) (record { broke = g.broke; not_closed = g.not_closed; started = g.started })
same_broken lines earlier rules (item.Closed x ∷ r) race f a w s other h g = same_broken lines earlier rules r race f.1 a.1 w.1 s other (still_broken r x s h) (still_broken r x other g)
same_broken lines earlier rules (i ∷ r) race f a w s other h g = absurd race

pub one_broken : (lines : List Line) (earlier : List Call) (rules : Rules) (t : List Item) → IsRaceTrace t → Follows lines (map call_of t ++ earlier) → Each (AttemptsWhenDue rules) t → Each (WaitsWhenNothingDue rules) t → (s other : ℕ) → has (broken_sockets t) s ≡ true → has (broken_sockets t) other ≡ true → s ≡ other
one_broken lines earlier rules t race f a w s other h g = same_broken lines earlier rules t race f a w s other (is_broken t s h) (is_broken t other g)
