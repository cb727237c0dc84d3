-- By what a racer keeps its race stands as by the trace.
use Rattle.std.proofs.Common.{◌≡◌, ℕ, Bool, true, false, not, ◌||◌, List, [], ◌∷◌, ◌++◌, length, map, append-nil, refl, ap, ◌∙◌, if◌then◌else◌}
use Rattle.std.specs.Prelude.{filter, Option, None, Some}
use Rattle.std.specs.List.{filter_map, cons_option}
use Rattle.std.proofs.lemmas.List.{length-map}
use Rattle.std.proofs.lemmas.List.Elements.{filter_map-append}
use Rattle.taps_socket.specs.declared.item.Item.{Item}
use Rattle.taps_socket.specs.declared.item.Item.TheVariants as item
use Rattle.taps_socket.specs.RaceTrace.{tries}
use Rattle.taps_socket.specs.RaceSockets.{has, started, closed, broke, completed}
use Rattle.taps_socket.specs.Standing.{standing}
use Rattle.taps_racer.specs.declared.attempt.Attempt.{Attempt}
use Rattle.taps_racer.specs.declared.attempt.Attempt.TheVariants.{Refused, Started}
use Rattle.taps_racer.specs.Attempts.{socket_of, open_socket, pending_socket, broken_socket}
use Rattle.taps_racer.specs.Kept.{Kept, standing_of}
use Rattle.taps_racer.specs.Stands.{state_by, attempt_in, StandsFor}

-- the sockets of the attempts are those that were tried
pub tried : (t : List Item) (os : List (Option ℕ)) → map socket_of (map (attempt_in t) os) ≡ os
tried t [] = refl
tried t (None ∷ os) = ap (λ r. None ∷ r) (tried t os)
tried t (Some s ∷ os) = ap (λ r. Some s ∷ r) (tried t os)

had : (t : List Item) (os : List (Option ℕ)) → filter_map socket_of (map (attempt_in t) os) ≡ filter_map (λ o. o) os
had t [] = refl
had t (None ∷ os) = had t os
had t (Some s ∷ os) = ap (λ r. s ∷ r) (had t os)

-- those that were tried and not refused are those that were started
pub tried_started : (t : List Item) → filter_map (λ o. o) (tries t) ≡ started t
tried_started [] = refl
tried_started (item.Started leaf target s at ∷ r) = filter_map-append (λ o. o) (tries r) (Some s ∷ []) ∙ ap (λ xs. xs ++ s ∷ []) (tried_started r)
tried_started (item.Refused leaf target cause at ∷ r) = filter_map-append (λ o. o) (tries r) (None ∷ []) ∙ append-nil _ ∙ tried_started r
tried_started (item.Began at ∷ r) = tried_started r
tried_started (item.Waited until at how ∷ r) = tried_started r
tried_started (item.Closed s ∷ r) = tried_started r
tried_started (_ ∷ r) = tried_started r

-- each state by what it was made of
open_by : (c b d : Bool) (s : ℕ) → open_socket (Started s (state_by c b d)) ≡ (if not c then Some s else None)
open_by true b d s = refl
open_by false true d s = refl
open_by false false true s = refl
open_by false false false s = refl

pending_by : (c b d : Bool) (s : ℕ) → pending_socket (Started s (state_by c b d)) ≡ (if not c then (if not (d || b) then Some s else None) else None)
pending_by true b d s = refl
pending_by false true true s = refl
pending_by false true false s = refl
pending_by false false true s = refl
pending_by false false false s = refl

broken_by : (c b d : Bool) (s : ℕ) → broken_socket (Started s (state_by c b d)) ≡ (if not c then (if b then Some s else None) else None)
broken_by true b d s = refl
broken_by false true d s = refl
broken_by false false true s = refl
broken_by false false false s = refl

-- what a search for sockets finds is what a filter keeps
one_sifted : (p : Bool) (s : ℕ) (rest : List ℕ) → cons_option (if p then Some s else None) rest ≡ (if p then s ∷ rest else rest)
one_sifted true s rest = refl
one_sifted false s rest = refl

sifted : (f : Attempt → Option ℕ) (t : List Item) (p : ℕ → Bool) → f Refused ≡ None → ((s : ℕ) → f (attempt_in t (Some s)) ≡ (if p s then Some s else None)) → (os : List (Option ℕ)) → filter_map f (map (attempt_in t) os) ≡ filter p (filter_map (λ o. o) os)
sifted f t p none some [] = refl
sifted f t p none some (None ∷ os) = rw none (sifted f t p none some os)
sifted f t p none some (Some s ∷ os) = rw (some s, sifted f t p none some os) (one_sifted (p s) s (filter p (filter_map (λ o. o) os)))

one_sifted_twice : (p : Bool) (q : ℕ → Bool) (s : ℕ) (rest : List ℕ) → cons_option (if p then (if q s then Some s else None) else None) (filter q rest) ≡ filter q (if p then s ∷ rest else rest)
one_sifted_twice true q s rest = one_sifted (q s) s (filter q rest)
one_sifted_twice false q s rest = refl

sifted_twice : (f : Attempt → Option ℕ) (t : List Item) (p q : ℕ → Bool) → f Refused ≡ None → ((s : ℕ) → f (attempt_in t (Some s)) ≡ (if p s then (if q s then Some s else None) else None)) → (os : List (Option ℕ)) → filter_map f (map (attempt_in t) os) ≡ filter q (filter p (filter_map (λ o. o) os))
sifted_twice f t p q none some [] = refl
sifted_twice f t p q none some (None ∷ os) = rw none (sifted_twice f t p q none some os)
sifted_twice f t p q none some (Some s ∷ os) = rw (some s, sifted_twice f t p q none some os) (one_sifted_twice (p s) q s (filter p (filter_map (λ o. o) os)))

pub stands_alike : (k : Kept) (first : ℕ) (t : List Item) → StandsFor k first t → standing_of k ≡ standing t
stands_alike k first t h =
    let count : length k.attempts ≡ length (tries t) = ap length h.attempts ∙ length-map (tries t) (attempt_in t) in
    let all = ap (filter_map socket_of) h.attempts ∙ had t (tries t) ∙ tried_started t in
    let opens = ap (filter_map open_socket) h.attempts ∙ sifted open_socket t (λ s. not (has (closed t) s)) refl (λ s. open_by (has (closed t) s) (has (broke t) s) (has (completed t) s) s) (tries t) ∙ ap (filter (λ s. not (has (closed t) s))) (tried_started t) in
    let pendings = ap (filter_map pending_socket) h.attempts ∙ sifted_twice pending_socket t (λ s. not (has (closed t) s)) (λ s. not (has (completed t) s || has (broke t) s)) refl (λ s. pending_by (has (closed t) s) (has (broke t) s) (has (completed t) s) s) (tries t) ∙ ap (λ xs. filter (λ s. not (has (completed t) s || has (broke t) s)) (filter (λ s. not (has (closed t) s)) xs)) (tried_started t) in
    let brokens = ap (filter_map broken_socket) h.attempts ∙ sifted_twice broken_socket t (λ s. not (has (closed t) s)) (has (broke t)) refl (λ s. broken_by (has (closed t) s) (has (broke t) s) (has (completed t) s) s) (tries t) ∙ ap (λ xs. filter (has (broke t)) (filter (λ s. not (has (closed t) s)) xs)) (tried_started t) in
    rw (h.begun, h.last, h.last_attempt, h.faulted, h.ready, count, all, opens, pendings, brokens) refl
