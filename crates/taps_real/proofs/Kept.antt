-- What is kept beside the items stays so as items come.
use Rattle.std.proofs.Common.{◌≡◌, ℕ, ◌+◌, ◌<◌, ◌^◌, Bool, true, false, ◌||◌, List, [], ◌∷◌, ◌++◌, length, reverse, length-append, refl, ap, sym, ◌∙◌, subst, arith}
use Rattle.std.specs.Prelude.{◌==◌, not, filter}
use Rattle.std.proofs.lemmas.List.{reverse-append}
use Rattle.std.proofs.lemmas.List.Folds.{list_any-append}
use Rattle.std.proofs.lemmas.Bool.{eqb-true}
use Rattle.taps_stack.specs.declared.target.Target.{Target}
use Rattle.taps_socket.specs.declared.item.How.{How}
use Rattle.taps_socket.specs.declared.item.Item.{Item}
use Rattle.taps_socket.specs.declared.item.Item.TheVariants as item
use Rattle.taps_socket.specs.RaceSockets.{has, closed, pending_sockets}
use Rattle.taps_socket.specs.LiveSockets.{given, named, named_by_end}
use Rattle.taps_socket.specs.Sides.{carries_stream}
use Rattle.taps_socket.specs.Shows.{EndsInTime}
use Rattle.taps_real.specs.Tables.{Table, IsKept, IsQuiet, without_told}
use Rattle.taps_real.proofs.Named.{end_named}
use Rattle.taps_real.proofs.Pending.{waited_pending, closed_pending, started_pending}

-- the newest item stands first
pub newest : (items items' : List Item) (i : Item) → items' ≡ items ++ i ∷ [] → reverse items' ≡ i ∷ reverse items
newest items items' i e = ap reverse e ∙ reverse-append items (i ∷ [])

-- a quiet item
named_one : (t : List Item) (x s : ℕ) (q : Bool) → (x == s) ≡ q → has (named t) x ≡ true → (q || has (named t) s) ≡ true → has (named t) s ≡ true
named_one t x s true e there h = subst (λ v. has (named t) v ≡ true) (eqb-true x s e) there
named_one t x s false e there h = h

record Leaves (i : Item) (t : List Item) : Type 0 where
  pub given : given (i ∷ t) ≡ given t
  pub pending : pending_sockets (i ∷ t) ≡ pending_sockets t
  pub named : (s : ℕ) → has (named (i ∷ t)) s ≡ true → has (named t) s ≡ true
  pub streams : (s : ℕ) → carries_stream (i ∷ t) s ≡ carries_stream t s
  pub closed : closed (i ∷ t) ≡ closed t

leaves : (i : Item) (t : List Item) → IsQuiet i t → Leaves i t
leaves (item.Began at) t q = record { given = refl; pending = refl; named = λ s h. h; streams = λ s. refl; closed = refl }
leaves (item.Refused leaf target cause at) t q = record { given = refl; pending = refl; named = λ s h. h; streams = λ s. refl; closed = refl }
leaves (item.NotListening target cause at) t q = record { given = refl; pending = refl; named = λ s h. h; streams = λ s. refl; closed = refl }
leaves (item.Faulted at) t q = record { given = refl; pending = refl; named = λ s h. h; streams = λ s. refl; closed = refl }
leaves (item.Shut x) t q = record { given = refl; pending = refl; named = λ s h. named_one t x s (x == s) refl q h; streams = λ s. refl; closed = refl }
leaves (item.Ended x) t q = record { given = refl; pending = refl; named = λ s h. named_one t x s (x == s) refl q h; streams = λ s. refl; closed = refl }
leaves (item.DataFailed x sending cause) t q = record { given = refl; pending = refl; named = λ s h. named_one t x s (x == s) refl q h; streams = λ s. refl; closed = refl }
leaves i t q = absurd q

pub quiet_streams : (i : Item) (t : List Item) (s : ℕ) → IsQuiet i t → carries_stream (i ∷ t) s ≡ carries_stream t s
quiet_streams i t s quiet = (leaves i t quiet).streams s

pub quiet_closed : (i : Item) (t : List Item) → IsQuiet i t → closed (i ∷ t) ≡ closed t
quiet_closed i t quiet = (leaves i t quiet).closed

pub kept_quiet : (t : List Item) (told at n : ℕ) (i : Item) (ps : List ℕ) → IsKept t told n ps → IsQuiet i t → at < 2 ^ 63 → IsKept (i ∷ t) at n ps
kept_quiet t told at n i ps h quiet fits =
    let l = leaves i t quiet in
    record {
      fits = fits;
      given_are = h.given_are ∙ ap length (sym l.given);
      pending_are = h.pending_are ∙ sym l.pending;
      named_below = λ s there. h.named_below s (l.named s there);
    }

-- a socket more
pub number_of : (x n : ℕ) (v w : Table) → x ≡ length (given w.trace) → v ≡ w → n ≡ length (given v.trace) → x ≡ n
number_of x n v w e is count = e ∙ (ap (λ t. length (given t.trace)) (sym is) ∙ sym count)

pub not_named : (t : List Item) (n : ℕ) → ((s : ℕ) → has (named t) s ≡ true → s < n) → has (named t) n ≡ false
not_named t n below = by_test (has (named t) n) refl
  where
    by_test : (q : Bool) → has (named t) n ≡ q → q ≡ false
    by_test true e = (let less = below n e in absurd (omega arith))
    by_test false e = refl

below_next : (t : List Item) (n s : ℕ) (q : Bool) → (n == s) ≡ q → ((s : ℕ) → has (named t) s ≡ true → s < n) → (q || has (named t) s) ≡ true → s < n + 1
below_next t n s true e below h = let same : n ≡ s = eqb-true n s e in omega arith
below_next t n s false e below h = let less = below s h in omega arith

started_so : (t : List Item) (told n n' leaf at : ℕ) (target : Target) (ps ps' : List ℕ) → IsKept t told n ps → at < 2 ^ 63 → n' ≡ n + 1 → ps' ≡ ps ++ n ∷ [] → IsKept (item.Started leaf target n at ∷ t) at n' ps'
started_so t told n n' leaf at target ps ps' h fits next more =
    record {
      fits = fits;
      given_are = (let longer = length-append (given t) (n ∷ []) in let count = h.given_are in omega arith);
      pending_are = more ∙ ap (λ xs. xs ++ n ∷ []) h.pending_are ∙ sym (started_pending t leaf n at target (not_named t n h.named_below));
      named_below = λ s there. (let less = below_next t n s (n == s) refl h.named_below there in omega arith);
    }

pub kept_started : (t : List Item) (told n n' leaf x at : ℕ) (target : Target) (ps ps' : List ℕ) → IsKept t told n ps → at < 2 ^ 63 → x ≡ n → n' ≡ n + 1 → ps' ≡ ps ++ x ∷ [] → IsKept (item.Started leaf target x at ∷ t) at n' ps'
kept_started t told n n' leaf x at target ps ps' h fits number next more =
    rw number (started_so t told n n' leaf at target ps ps' h fits next (rw number at more))

pub kept_listening : (t : List Item) (told n n' x at : ℕ) (target : Target) (ps : List ℕ) → IsKept t told n ps → at < 2 ^ 63 → x ≡ n → n' ≡ n + 1 → IsKept (item.Listening target x at ∷ t) at n' ps
kept_listening t told n n' x at target ps h fits number next =
    record {
      fits = fits;
      given_are = (let longer = length-append (given t) (x ∷ []) in let count = h.given_are in omega arith);
      pending_are = h.pending_are;
      named_below = λ s there. (let less = below_next t n s (n == s) refl h.named_below (rw number at there) in omega arith);
    }

accepted_below : (t : List Item) (n x s : ℕ) (q : Bool) → (x == s) ≡ q → has (named t) x ≡ true → ((s : ℕ) → has (named t) s ≡ true → s < n) → (q || ((n == s) || has (named t) s)) ≡ true → s < n + 1
accepted_below t n x s true e there below h = let same : x ≡ s = eqb-true x s e in let less = below x there in omega arith
accepted_below t n x s false e there below h = below_next t n s (n == s) refl below h

pub kept_accepted : (t : List Item) (told n n' listener x at : ℕ) (ps : List ℕ) → IsKept t told n ps → at < 2 ^ 63 → x ≡ n → n' ≡ n + 1 → has (named t) listener ≡ true → IsKept (item.Accepted listener x at ∷ t) at n' ps
kept_accepted t told n n' listener x at ps h fits number next there =
    record {
      fits = fits;
      given_are = (let longer = length-append (given t) (x ∷ []) in let count = h.given_are in omega arith);
      pending_are = h.pending_are;
      named_below = λ s own. (let less = accepted_below t n listener s (listener == s) refl there h.named_below (rw number at own) in omega arith);
    }

-- a wait
either_below : (t : List Item) (n s : ℕ) (q : Bool) → (q ≡ true → s < n) → ((s : ℕ) → has (named t) s ≡ true → s < n) → (q || has (named t) s) ≡ true → s < n
either_below t n s true own below h = own refl
either_below t n s false own below h = below s h

pub kept_waited : (t : List Item) (told n until at : ℕ) (end : How) (ps ps' : List ℕ) → IsKept t told n ps → at < 2 ^ 63 → EndsInTime end until at t → ps' ≡ without_told end ps → IsKept (item.Waited until at end ∷ t) at n ps'
kept_waited t told n until at end ps ps' h fits ends less =
    record {
      fits = fits;
      given_are = h.given_are;
      pending_are = less ∙ ap (without_told end) h.pending_are ∙ sym (waited_pending t until at end);
      named_below = λ s there. either_below t n s (has (named_by_end end) s) (λ own. h.named_below s (end_named t until at s end ends own)) h.named_below (rw list_any-append at there);
    }

-- a close
pub kept_closed : (t : List Item) (told n x : ℕ) (ps ps' : List ℕ) → IsKept t told n ps → has (named t) x ≡ true → ps' ≡ filter (λ s. not (x == s)) ps → IsKept (item.Closed x ∷ t) told n ps'
kept_closed t told n x ps ps' h there less =
    record {
      fits = h.fits;
      given_are = h.given_are;
      pending_are = less ∙ ap (filter (λ s. not (x == s))) h.pending_are ∙ sym (closed_pending t x);
      named_below = λ s own. h.named_below s (named_one t x s (x == s) refl there own);
    }

-- another reported time
pub kept_told : (t : List Item) (told at n : ℕ) (ps : List ℕ) → IsKept t told n ps → at < 2 ^ 63 → IsKept t at n ps
kept_told t told at n ps h fits = record { fits = fits; given_are = h.given_are; pending_are = h.pending_are; named_below = h.named_below }
