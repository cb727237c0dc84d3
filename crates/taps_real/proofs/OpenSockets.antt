-- The sockets of the system are open as long as their numbers were not closed, as items come.
use Rattle.std.proofs.Common.{◌≡◌, inl, inr, ℕ, ◌<◌, true, false, not, ◌||◌, List, [], ◌∷◌, ◌++◌, ◌+◌, length, length-append, refl, ap, sym, ◌∙◌, subst, arith}
use Rattle.std.specs.Prelude.{◌==◌, slice_get, slice_set, Some}
use Rattle.std.proofs.lemmas.Bool.{eq-eqb}
use Rattle.taps_socket.specs.declared.item.Item.{Item}
use Rattle.taps_socket.specs.declared.item.Item.TheVariants as item
use Rattle.taps_socket.specs.RaceSockets.{has, closed}
use Rattle.taps_socket.specs.LiveSockets.{named}
use Rattle.taps_socket.proofs.NamedSockets.{closed_named}
use Rattle.taps_socket.proofs.Lists.{absent}
use Rattle.taps_real.specs.declared.held.Held.{Held}
use Rattle.taps_real.specs.declared.held.Held.TheVariants.{Closed}
use Rattle.taps_real.specs.OpenSockets.{is_open, AreOpen}
use Rattle.taps_real.proofs.Places.{at_place, set_place, set_length}
use Rattle.taps_real.proofs.Kept.{not_named}

-- an item that closes none
pub open_still : (t t' : List Item) (n : ℕ) (es : List Held) → closed t' ≡ closed t → AreOpen t n es → AreOpen t' n es
open_still t t' n es same h = record { count_is = h.count_is; each = λ s e there. h.each s e there ∙ ap (λ xs. not (has xs s)) (sym same) }

-- one that gives a socket
pub open_given : (t t' : List Item) (n n' : ℕ) (es es' : List Held) (e : Held) → AreOpen t n es → n' ≡ n + 1 → ((s : ℕ) → has (named t) s ≡ true → s < n) → closed t' ≡ closed t → es' ≡ es ++ e ∷ [] → is_open e ≡ true → AreOpen t' n' es'
open_given t t' n n' es es' e h next below same more opened =
    let len = length-append es (e ∷ []) in
    let count = h.count_is in
    let longer : length es' ≡ length (es ++ e ∷ []) = ap length more in
    let none : has (closed t) n ≡ false = absent (has (closed t) n) (has (named t) n) (closed_named t n) (not_named t n below) in
    record { count_is = omega arith; each = λ s d there. each none s d (subst (λ v. slice_get v s ≡ Some d) more there) }
  where
    each : has (closed t) n ≡ false → (s : ℕ) (d : Held) → slice_get (es ++ e ∷ []) s ≡ Some d → is_open d ≡ not (has (closed t') s)
    each none s d there = elim (at_place es e d s there) as (λ _. is_open d ≡ not (has (closed t') s)) [
      | inl p ↦ h.each s d p.1 ∙ ap (λ xs. not (has xs s)) (sym same)
      | inr p ↦ (let place : n ≡ s = h.count_is ∙ sym p.0 in
          let never : has (closed t') s ≡ false = ap (λ xs. has xs s) same ∙ (ap (has (closed t)) (sym place) ∙ none) in
          ap is_open (sym p.1) ∙ (opened ∙ ap not (sym never)))
    ]

-- a close
pub open_closed : (t : List Item) (n x : ℕ) (es es' : List Held) → AreOpen t n es → es' ≡ slice_set es x Closed → AreOpen (item.Closed x ∷ t) n es'
open_closed t n x es es' h set = record { count_is = h.count_is ∙ (sym (set_length es x Closed) ∙ ap length (sym set)); each = λ s d there. each s d (subst (λ v. slice_get v s ≡ Some d) set there) }
  where
    each : (s : ℕ) (d : Held) → slice_get (slice_set es x Closed) s ≡ Some d → is_open d ≡ not ((x == s) || has (closed t) s)
    each s d there = elim (set_place es x s Closed d there) as (λ _. is_open d ≡ not ((x == s) || has (closed t) s)) [
      | inl p ↦ (rw (← p.1, eq-eqb x s p.0) refl)
      | inr p ↦ (rw p.0 (h.each s d p.1))
    ]
