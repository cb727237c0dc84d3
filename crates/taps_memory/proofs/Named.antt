-- A socket that may be used, or that is pending, is named.
use Rattle.std.proofs.Common.{◌≡◌, ℕ, Bool, true, false, not, ◌||◌, List, refl, subst}
use Rattle.std.specs.Prelude.{◌==◌}
use Rattle.std.proofs.lemmas.Bool.{eqb-true}
use Rattle.taps_socket.specs.declared.item.How.{How}
use Rattle.taps_socket.specs.declared.item.How.TheVariants as how
use Rattle.taps_socket.specs.declared.item.Item.{Item}
use Rattle.taps_socket.specs.RaceSockets.{has, started, completed, broke, closed, open_sockets, pending_sockets}
use Rattle.taps_socket.specs.LiveSockets.{given, live_sockets, named, named_by_end}
use Rattle.taps_socket.specs.Sides.{is_connected, may_accept, may_send, may_receive, may_shut}
use Rattle.taps_socket.specs.Shows.{EndsInTime}
use Rattle.taps_socket.proofs.NamedSockets.{given_named, started_named}
use Rattle.taps_socket.proofs.Lists.{both, kept}

pub live_named : (t : List Item) (s : ℕ) → has (live_sockets t) s ≡ true → has (named t) s ≡ true
live_named t s h = given_named t s (kept (λ s. not (has (closed t) s)) (given t) s h).1

pub listener_named : (t : List Item) (s : ℕ) → may_accept t s ≡ true → has (named t) s ≡ true
listener_named t s h = live_named t s (both _ _ h).0

connected_named : (t : List Item) (s : ℕ) → is_connected t s ≡ true → has (named t) s ≡ true
connected_named t s h = live_named t s (both _ _ (both _ _ h).0).0

pub sender_named : (t : List Item) (s : ℕ) → may_send t s ≡ true → has (named t) s ≡ true
sender_named t s h = connected_named t s (both _ _ h).0

pub receiver_named : (t : List Item) (s : ℕ) → may_receive t s ≡ true → has (named t) s ≡ true
receiver_named t s h = connected_named t s (both _ _ h).0

pub shutter_named : (t : List Item) (s : ℕ) → may_shut t s ≡ true → has (named t) s ≡ true
shutter_named t s h = sender_named t s (both _ _ h).0

pub pending_named : (t : List Item) (s : ℕ) → has (pending_sockets t) s ≡ true → has (named t) s ≡ true
pending_named t s h = started_named t s (kept (λ s. not (has (closed t) s)) (started t) s (kept (λ s. not (has (completed t) s || has (broke t) s)) (open_sockets t) s h).1).1

-- a wait names none but a pending socket
named_only : (t : List Item) (s x : ℕ) (q : Bool) → (x == s) ≡ q → has (named t) x ≡ true → (q || false) ≡ true → has (named t) s ≡ true
named_only t s x true e there h = subst (λ v. has (named t) v ≡ true) (eqb-true x s e) there
named_only t s x false e there h = cc

pub end_named : (t : List Item) (until at s : ℕ) (end : How) → EndsInTime end until at t → has (named_by_end end) s ≡ true → has (named t) s ≡ true
end_named t until at s how.Reached p h = (let z : false ≡ true = h in absurd cc)
end_named t until at s (how.Completed x) p h = named_only t s x (x == s) refl (pending_named t x p) h
end_named t until at s (how.Broke x cause) p h = named_only t s x (x == s) refl (pending_named t x p) h
end_named t until at s how.Faulted p h = (let z : false ≡ true = h in absurd cc)

-- a socket that a wait completes was started
pub completed_started : (t : List Item) (until at : ℕ) (end : How) → EndsInTime end until at t → (x : ℕ) → end ≡ how.Completed x → has (started t) x ≡ true
completed_started t until at how.Reached p x e = (let z : how.Reached ≡ how.Completed x = e in absurd cc)
completed_started t until at (how.Completed y) p x e =
    let same : y ≡ x = cc in
    subst (λ v. has (started t) v ≡ true) same (kept (λ s. not (has (closed t) s)) (started t) y (kept (λ s. not (has (completed t) s || has (broke t) s)) (open_sockets t) y p).1).1
completed_started t until at (how.Broke y cause) p x e = (let z : how.Broke y cause ≡ how.Completed x = e in absurd cc)
completed_started t until at how.Faulted p x e = (let z : how.Faulted ≡ how.Completed x = e in absurd cc)
