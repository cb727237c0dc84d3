-- What is kept beside the items stays so as items come.
use Rattle.std.proofs.Common.{◌≡◌, ℕ, ◌+◌, ◌<◌, ◌^◌, Bool, true, false, ◌||◌, List, [], ◌∷◌, ◌++◌, length, reverse, length-append, refl, ap, sym, ◌∙◌, subst, arith, if◌then◌else◌}
use Rattle.std.specs.Prelude.{◌==◌, not, filter, Option, Some}
use Rattle.std.specs.Option.{option_map_or}
use Rattle.std.proofs.lemmas.List.{reverse-append}
use Rattle.std.proofs.lemmas.List.Folds.{list_any-append}
use Rattle.std.proofs.lemmas.Bool.{eqb-true}
use Rattle.taps_stack.specs.declared.target.Target.{Target}
use Rattle.taps_stack.specs.StackTable.{is_stream}
use Rattle.taps_socket.specs.declared.item.How.{How}
use Rattle.taps_socket.specs.declared.item.Item.{Item}
use Rattle.taps_socket.specs.declared.item.Item.TheVariants as item
use Rattle.taps_socket.specs.RaceSockets.{has, started, completed, pending_sockets}
use Rattle.taps_socket.specs.LiveSockets.{given, named, named_by_end}
use Rattle.taps_socket.specs.Sides.{listeners, accepted, target_of}
use Rattle.taps_socket.specs.Shows.{EndsInTime}
use Rattle.taps_memory.specs.declared.listening.Listening.{Listening}
use Rattle.taps_memory.specs.Listeners.{live_listeners, without_listener}
use Rattle.taps_memory.specs.MemoryAnswers.{most_listeners}
use Rattle.taps_memory.specs.Joined.{connections}
use Rattle.taps_memory.specs.Kept.{IsKept, IsQuiet, without_told}
use Rattle.taps_memory.proofs.Named.{end_named}
use Rattle.taps_memory.proofs.Pending.{waited_pending, closed_pending, started_pending}

-- the newest item stands first
pub newest : (items items' : List Item) (i : Item) → items' ≡ items ++ i ∷ [] → reverse items' ≡ i ∷ reverse items
newest items items' i e = ap reverse e ∙ reverse-append items (i ∷ [])

named_one : (t : List Item) (x s : ℕ) (q : Bool) → (x == s) ≡ q → has (named t) x ≡ true → (q || has (named t) s) ≡ true → has (named t) s ≡ true
named_one t x s true e there h = subst (λ v. has (named t) v ≡ true) (eqb-true x s e) there
named_one t x s false e there h = h

-- a quiet item
pub record Leaves (i : Item) (t : List Item) : Type 0 where
  pub given : given (i ∷ t) ≡ given t
  pub pending : pending_sockets (i ∷ t) ≡ pending_sockets t
  pub named : (s : ℕ) → has (named (i ∷ t)) s ≡ true → has (named t) s ≡ true
  pub targets : (s : ℕ) → target_of (i ∷ t) s ≡ target_of t s
  pub listened : listeners (i ∷ t) ≡ listeners t
  pub listening : live_listeners (i ∷ t) ≡ live_listeners t
  pub started : started (i ∷ t) ≡ started t
  pub completed : completed (i ∷ t) ≡ completed t
  pub accepted : accepted (i ∷ t) ≡ accepted t
  pub connections : connections (i ∷ t) ≡ connections t

pub leaves : (i : Item) (t : List Item) → IsQuiet i t → Leaves i t
leaves (item.Began at) t q = record { given = refl; pending = refl; named = λ s h. h; targets = λ s. refl; listened = refl; listening = refl; started = refl; completed = refl; accepted = refl; connections = refl }
leaves (item.Refused leaf target cause at) t q = record { given = refl; pending = refl; named = λ s h. h; targets = λ s. refl; listened = refl; listening = refl; started = refl; completed = refl; accepted = refl; connections = refl }
leaves (item.NotListening target cause at) t q = record { given = refl; pending = refl; named = λ s h. h; targets = λ s. refl; listened = refl; listening = refl; started = refl; completed = refl; accepted = refl; connections = refl }
leaves (item.Faulted at) t q = record { given = refl; pending = refl; named = λ s h. h; targets = λ s. refl; listened = refl; listening = refl; started = refl; completed = refl; accepted = refl; connections = refl }
leaves (item.Shut x) t q = record { given = refl; pending = refl; named = λ s h. named_one t x s (x == s) refl q h; targets = λ s. refl; listened = refl; listening = refl; started = refl; completed = refl; accepted = refl; connections = refl }
leaves (item.Ended x) t q = record { given = refl; pending = refl; named = λ s h. named_one t x s (x == s) refl q h; targets = λ s. refl; listened = refl; listening = refl; started = refl; completed = refl; accepted = refl; connections = refl }
leaves (item.DataFailed x sending cause) t q = record { given = refl; pending = refl; named = λ s h. named_one t x s (x == s) refl q h; targets = λ s. refl; listened = refl; listening = refl; started = refl; completed = refl; accepted = refl; connections = refl }
leaves i t q = absurd q

-- what the socket carries follows from its target
abbrev streams_to : Option Target → Bool
streams_to target = option_map_or (λ target. is_stream target.stack) target true

pub kept_quiet : (t : List Item) (told at n m : ℕ) (i : Item) (ps : List ℕ) (ls : List Listening) → IsKept t told n m ps ls → IsQuiet i t → at < 2 ^ 63 → IsKept (i ∷ t) at n m ps ls
kept_quiet t told at n m i ps ls h quiet fits =
    let l = leaves i t quiet in
    record {
      fits = fits;
      given_are = h.given_are ∙ ap length (sym l.given);
      listened_are = h.listened_are ∙ ap length (sym l.listened);
      few = h.few;
      pending_are = h.pending_are ∙ sym l.pending;
      listening_are = h.listening_are ∙ sym l.listening;
      named_below = λ s there. h.named_below s (l.named s there);
      streams = λ s. ap streams_to (l.targets s) ∙ h.streams s;
    }

-- a socket more
pub not_named : (t : List Item) (n : ℕ) → ((s : ℕ) → has (named t) s ≡ true → s < n) → has (named t) n ≡ false
not_named t n below = by_test (has (named t) n) refl
  where
    by_test : (q : Bool) → has (named t) n ≡ q → q ≡ false
    by_test true e = (let less = below n e in absurd (omega arith))
    by_test false e = refl

below_next : (t : List Item) (n s : ℕ) (q : Bool) → (n == s) ≡ q → ((s : ℕ) → has (named t) s ≡ true → s < n) → (q || has (named t) s) ≡ true → s < n + 1
below_next t n s true e below h = let same : n ≡ s = eqb-true n s e in omega arith
below_next t n s false e below h = let less = below s h in omega arith

-- its target carries a stream, as those of the others do
stream_more : (q : Bool) (target other : Option Target) → streams_to target ≡ true → streams_to other ≡ true → streams_to (if q then target else other) ≡ true
stream_more true target other h g = h
stream_more false target other h g = g

started_so : (t : List Item) (told n n' m leaf at : ℕ) (target : Target) (ps ps' : List ℕ) (ls : List Listening) → IsKept t told n m ps ls → at < 2 ^ 63 → n' ≡ n + 1 → ps' ≡ ps ++ n ∷ [] → is_stream target.stack ≡ true → IsKept (item.Started leaf target n at ∷ t) at n' m ps' ls
started_so t told n n' m leaf at target ps ps' ls h fits next more stream =
    record {
      fits = fits;
      given_are = (let longer = length-append (given t) (n ∷ []) in let count = h.given_are in omega arith);
      listened_are = h.listened_are;
      few = h.few;
      pending_are = more ∙ ap (λ xs. xs ++ n ∷ []) h.pending_are ∙ sym (started_pending t leaf n at target (not_named t n h.named_below));
      listening_are = h.listening_are;
      named_below = λ s there. (let less = below_next t n s (n == s) refl h.named_below there in omega arith);
      streams = λ s. stream_more (n == s) (Some target) (target_of t s) stream (h.streams s);
    }

pub kept_started : (t : List Item) (told n n' m leaf x at : ℕ) (target : Target) (ps ps' : List ℕ) (ls : List Listening) → IsKept t told n m ps ls → at < 2 ^ 63 → x ≡ n → n' ≡ n + 1 → ps' ≡ ps ++ x ∷ [] → is_stream target.stack ≡ true → IsKept (item.Started leaf target x at ∷ t) at n' m ps' ls
kept_started t told n n' m leaf x at target ps ps' ls h fits number next more stream =
    rw number (started_so t told n n' m leaf at target ps ps' ls h fits next (rw number at more) stream)

pub kept_listening : (t : List Item) (told n n' m m' x at : ℕ) (target : Target) (ps : List ℕ) (ls ls' : List Listening) → IsKept t told n m ps ls → at < 2 ^ 63 → x ≡ n → n' ≡ n + 1 → m' ≡ m + 1 → m < most_listeners → ls' ≡ ls ++ record { socket = x; target = target } ∷ [] → is_stream target.stack ≡ true →
    IsKept (item.Listening target x at ∷ t) at n' m' ps ls'
kept_listening t told n n' m m' x at target ps ls ls' h fits number next listened few more stream =
    record {
      fits = fits;
      given_are = (let longer = length-append (given t) (x ∷ []) in let count = h.given_are in omega arith);
      listened_are = (let count = h.listened_are in omega arith);
      few = omega arith;
      pending_are = h.pending_are;
      listening_are = more ∙ ap (λ xs. xs ++ record { socket = x; target = target } ∷ []) h.listening_are;
      named_below = λ s there. (let less = below_next t n s (n == s) refl h.named_below (rw number at there) in omega arith);
      streams = λ s. stream_more (x == s) (Some target) (target_of t s) stream (h.streams s);
    }

accepted_below : (t : List Item) (n x s : ℕ) (q : Bool) → (x == s) ≡ q → has (named t) x ≡ true → ((s : ℕ) → has (named t) s ≡ true → s < n) → (q || ((n == s) || has (named t) s)) ≡ true → s < n + 1
accepted_below t n x s true e there below h = let same : x ≡ s = eqb-true x s e in let less = below x there in omega arith
accepted_below t n x s false e there below h = below_next t n s (n == s) refl below h

pub kept_accepted : (t : List Item) (told n n' m listener x at : ℕ) (ps : List ℕ) (ls : List Listening) → IsKept t told n m ps ls → at < 2 ^ 63 → x ≡ n → n' ≡ n + 1 → has (named t) listener ≡ true → IsKept (item.Accepted listener x at ∷ t) at n' m ps ls
kept_accepted t told n n' m listener x at ps ls h fits number next there =
    record {
      fits = fits;
      given_are = (let longer = length-append (given t) (x ∷ []) in let count = h.given_are in omega arith);
      listened_are = h.listened_are;
      few = h.few;
      pending_are = h.pending_are;
      listening_are = h.listening_are;
      named_below = λ s own. (let less = accepted_below t n listener s (listener == s) refl there h.named_below (rw number at own) in omega arith);
      streams = λ s. stream_more (x == s) (target_of t listener) (target_of t s) (h.streams listener) (h.streams s);
    }

-- a wait
either_below : (t : List Item) (n s : ℕ) (q : Bool) → (q ≡ true → s < n) → ((s : ℕ) → has (named t) s ≡ true → s < n) → (q || has (named t) s) ≡ true → s < n
either_below t n s true own below h = own refl
either_below t n s false own below h = below s h

pub kept_waited : (t : List Item) (told n m until at : ℕ) (end : How) (ps ps' : List ℕ) (ls : List Listening) → IsKept t told n m ps ls → at < 2 ^ 63 → EndsInTime end until at t → ps' ≡ without_told end ps → IsKept (item.Waited until at end ∷ t) at n m ps' ls
kept_waited t told n m until at end ps ps' ls h fits ends less =
    record {
      fits = fits;
      given_are = h.given_are;
      listened_are = h.listened_are;
      few = h.few;
      pending_are = less ∙ ap (without_told end) h.pending_are ∙ sym (waited_pending t until at end);
      listening_are = h.listening_are;
      named_below = λ s there. either_below t n s (has (named_by_end end) s) (λ own. h.named_below s (end_named t until at s end ends own)) h.named_below (rw list_any-append at there);
      streams = h.streams;
    }

-- a close
pub kept_closed : (t : List Item) (told n m x : ℕ) (ps ps' : List ℕ) (ls ls' : List Listening) → IsKept t told n m ps ls → has (named t) x ≡ true → ps' ≡ filter (λ s. not (x == s)) ps → ls' ≡ without_listener x ls → IsKept (item.Closed x ∷ t) told n m ps' ls'
kept_closed t told n m x ps ps' ls ls' h there less fewer =
    record {
      fits = h.fits;
      given_are = h.given_are;
      listened_are = h.listened_are;
      few = h.few;
      pending_are = less ∙ ap (filter (λ s. not (x == s))) h.pending_are ∙ sym (closed_pending t x);
      listening_are = fewer ∙ ap (without_listener x) h.listening_are;
      named_below = λ s own. h.named_below s (named_one t x s (x == s) refl there own);
      streams = h.streams;
    }

-- another reported time
pub kept_told : (t : List Item) (told at n m : ℕ) (ps : List ℕ) (ls : List Listening) → IsKept t told n m ps ls → at < 2 ^ 63 → IsKept t at n m ps ls
kept_told t told at n m ps ls h fits = record { fits = fits; given_are = h.given_are; listened_are = h.listened_are; few = h.few; pending_are = h.pending_are; listening_are = h.listening_are; named_below = h.named_below; streams = h.streams }
