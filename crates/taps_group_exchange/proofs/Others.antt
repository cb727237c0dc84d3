-- What calls on one member's socket leave of the others.
use Rattle.std.proofs.Common.{◌≡◌, ◌⊎◌, inl, inr, ℕ, zero, suc, ◌≤◌, Bool, true, false, not, ◌||◌, ◌&&◌, List, [], ◌∷◌, ◌++◌, map, slice_get, slice_set, Option, Some, None, refl, sym, ap, ◌∙◌, subst, arith}
use Rattle.std.specs.Prelude.{◌==◌}
use Rattle.std.specs.Option.{option_map_or}
use Rattle.taps_stack.specs.StackTable.{is_stream}
use Rattle.taps_socket.specs.declared.item.Item.{Item}
use Rattle.taps_socket.specs.declared.item.Item.TheVariants as item
use Rattle.taps_socket.specs.LiveSockets.{live_sockets, named}
use Rattle.taps_socket.specs.RaceSockets.{has, completed}
use Rattle.taps_socket.specs.Sides.{accepted, failed}
use Rattle.taps_socket.specs.Net.{Net}
use Rattle.taps_socket.specs.Once.{IsOnce}
use Rattle.taps_socket.proofs.Unnamed.{IsAlike, unnamed}
use Rattle.taps_connection.specs.Conditions.{IsHeld}
use Rattle.taps_connection.specs.Senders.{rest_of}
use Rattle.taps_exchange.specs.Outcomes.{AreExchangeItems}
use Rattle.taps_exchange.proofs.Behind.{live_own}
use Rattle.taps_framer.specs.declared.framer.Framer as framer
use Rattle.taps_group.specs.declared.member.Member.{Member}
use Rattle.taps_group.proofs.Places.{set_here, set_there}
use Rattle.taps_group_exchange.specs.Standing.{AllOf, MayTalk}
use Rattle.taps_group_exchange.proofs.Zips.{not_here, other_way}

-- items of one socket's data name no other
unnamed_items : (t s : ℕ) (items : List Item) → (t == s) ≡ false → AreExchangeItems t items → has (named items) s ≡ false
unnamed_items t s [] other h = refl
unnamed_items t s (item.Shut x ∷ items) other h = ap (λ (v : ℕ). (v == s) || has (named items) s) h.0 ∙ (ap (λ b. b || has (named items) s) other ∙ unnamed_items t s items other h.1)
unnamed_items t s (item.Ended x ∷ items) other h = ap (λ (v : ℕ). (v == s) || has (named items) s) h.0 ∙ (ap (λ b. b || has (named items) s) other ∙ unnamed_items t s items other h.1)
unnamed_items t s (item.DataFailed x sending cause ∷ items) other h = ap (λ (v : ℕ). (v == s) || has (named items) s) h.0 ∙ (ap (λ b. b || has (named items) s) other ∙ unnamed_items t s items other h.1)
unnamed_items t s (i ∷ items) other h = absurd h.0

-- a socket that they do not name is held as before
pub held_along : (t s : ℕ) (stream is_shut has_ended : Bool) (items trace trace' : List Item) → (t == s) ≡ false → AreExchangeItems t items → trace' ≡ items ++ trace → IsHeld trace s stream is_shut has_ended → IsHeld trace' s stream is_shut has_ended
held_along t s stream is_shut has_ended items trace trace' other own is h =
    let k : IsAlike trace (items ++ trace) s = unnamed items trace s (unnamed_items t s items other own) in
    let live : has (live_sockets (items ++ trace)) s ≡ has (live_sockets trace) s = ap (λ l. has l s) (live_own t items trace own) in
    subst (λ v. IsHeld v s stream is_shut has_ended) (sym is) (record {
      connected =
          ap (λ q. q && (has (completed (items ++ trace)) s || has (accepted (items ++ trace)) s) && not (has (failed (items ++ trace)) s)) live
          ∙ (ap (λ q. has (live_sockets trace) s && (q || has (accepted (items ++ trace)) s) && not (has (failed (items ++ trace)) s)) k.completed
          ∙ (ap (λ q. has (live_sockets trace) s && (has (completed trace) s || q) && not (has (failed (items ++ trace)) s)) k.accepted
          ∙ (ap (λ q. has (live_sockets trace) s && (has (completed trace) s || has (accepted trace) s) && not q) k.failed ∙ h.connected)));
      carries = ap (λ o. option_map_or (λ target. is_stream target.stack) o true) k.target ∙ h.carries;
      shut_by = k.shut ∙ h.shut_by;
      ended_by = k.ended ∙ h.ended_by;
    })

-- two members at two places have two sockets
pub once_apart : {M : Type 0} (f : M → ℕ) (members : List M) (i k : ℕ) (x m : M) → IsOnce (map f members) → slice_get members i ≡ Some x → slice_get members k ≡ Some m → (i ≡ k → ⊥) → (f m == f x) ≡ false
once_apart f [] i k x m once here there differs = absurd (let none : Option _ = None in let z : none ≡ Some x = here in cc)
once_apart f (y ∷ members) zero zero x m once here there differs = absurd (differs refl)
once_apart f (y ∷ members) zero (suc k) x m once here there differs =
    let same : y ≡ x = cc in
    not_here f members k (f x) m (subst (λ v. has (map f members) (f v) ≡ false) same once.0) there
once_apart f (y ∷ members) (suc i) zero x m once here there differs =
    let same : y ≡ m = cc in
    other_way (f x) (f m) (not_here f members i (f m) x (subst (λ v. has (map f members) (f v) ≡ false) same once.0) here)
once_apart f (y ∷ members) (suc i) (suc k) x m once here there differs = once_apart f members i k x m once.1 here there (λ e. differs (ap suc e))

pub same_or_not : (i k : ℕ) → (i ≡ k) ⊎ (i ≡ k → ⊥)
same_or_not zero zero = inl refl
same_or_not zero (suc k) = inr (λ e. omega (arith, e))
same_or_not (suc i) zero = inr (λ e. omega (arith, e))
same_or_not (suc i) (suc k) = by (same_or_not i k)
  where
    by : (i ≡ k) ⊎ (i ≡ k → ⊥) → (suc i ≡ suc k) ⊎ (suc i ≡ suc k → ⊥)
    by (inl e) = inl (ap suc e)
    by (inr n) = inr (λ e. n (omega (arith, e)))

-- what holds of all, where one changed on its own socket
pub all_set : {M : Type 0} (f : M → ℕ) (P P' : M → Type 0) (members members' : List M) (k : ℕ) (m n : M) → IsOnce (map f members) → slice_get members k ≡ Some m → members' ≡ slice_set members k n → ((x : M) → (f m == f x) ≡ false → P x → P' x) → P' n → AllOf P members → AllOf P' members'
all_set f P P' members members' k m n once at changed others here all = subst (AllOf P') (sym changed) by
  where
    at_place : (i : ℕ) (x : _) → (i ≡ k) ⊎ (i ≡ k → ⊥) → slice_get (slice_set members k n) i ≡ Some x → P' x
    at_place i x (inl e) h = (let one : Some n ≡ Some x = sym (set_here members k n m at) ∙ (ap (slice_get (slice_set members k n)) (sym e) ∙ h) in subst P' (let same : n ≡ x = cc in same) here)
    at_place i x (inr ne) h = (let there : slice_get members i ≡ Some x = sym (set_there members k i n ne) ∙ h in others x (once_apart f members i k x m once there at ne) (all i x there))

    by : AllOf P' (slice_set members k n)
    by i x h = at_place i x (same_or_not i k) h

pub map_set : {A : Type 0} (f : A → ℕ) (xs : List A) (i : ℕ) (x y : A) → slice_get xs i ≡ Some x → f y ≡ f x → map f (slice_set xs i y) ≡ map f xs
map_set f [] i x y at same = refl
map_set f (z ∷ zs) zero x y at same = ap (λ v. v ∷ map f zs) (same ∙ ap f (let one : x ≡ z = cc in one))
map_set f (z ∷ zs) (suc i) x y at same = ap (λ v. f z ∷ v) (map_set f zs i x y at same)

-- another member may still talk
pub talks_along : {X : Type 0} {F : X → Type 0} (boxed : (x : X) → framer.Ghosts (F x)) (net net' : Net) (s : ℕ) (items : List Item) (x : Member X F) → (s == x.connection.socket) ≡ false → AreExchangeItems s items → net'.trace ≡ items ++ net.trace → net'.traffic x.connection.socket ≡ net.traffic x.connection.socket → MayTalk boxed net x → MayTalk boxed net' x
talks_along boxed net net' s items x other own trace traffic t = record {
  held = held_along s x.connection.socket (is_stream x.connection.stack) x.connection.sender.shut x.connection.receiver.ended items net.trace net'.trace other own trace t.held;
  room = subst (λ v. rest_of x.connection.sender ≤ v.room) (sym traffic) t.room;
  framers = t.framers;
  receiving = t.receiving;
  none_given = t.none_given;
  goes_on = t.goes_on;
}
