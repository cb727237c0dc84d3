-- The connections that are kept are those of the items when one of them is accepted.
use Rattle.std.proofs.Common.{◌≡◌, ℕ, ◌+◌, ◌<◌, Bool, true, false, ◌||◌, List, [], ◌∷◌, refl, ap, sym, ◌∙◌, arith, if◌then◌else◌, inl, inr, ◌⊎◌}
use Rattle.std.specs.Prelude.{◌==◌, map, Option, Some, None}
use Rattle.std.specs.Option.{option_map_or}
use Rattle.std.proofs.lemmas.Bool.{eqb-true}
use Rattle.taps_socket.specs.declared.item.Item.{Item}
use Rattle.taps_socket.specs.declared.item.Item.TheVariants as item
use Rattle.taps_socket.specs.RaceSockets.{has}
use Rattle.taps_socket.specs.Sides.{accepted}
use Rattle.taps_memory.specs.declared.link.Link.{Link}
use Rattle.taps_memory.specs.Pairs.{is_at, has_no_socket, change_first, first_of}
use Rattle.taps_memory.specs.Links.{pair_of, link_has, link_waits, has_link, accepted_link}
use Rattle.taps_memory.specs.Joined.{Ends, ends_of, is_socket, awaits, met_by}
use Rattle.taps_memory.specs.Kept.{IsSound, AreSound, AreLinked, some_waits, unmet_count}
use Rattle.taps_memory.proofs.Linked.{either_false, false_unless, left_true, right_true, absent_at}

-- one that waits has no socket at its other end
waits_by : (q r : Bool) → (if q then r else false) ≡ true → r ≡ true
waits_by true r h = h
waits_by false r h = (let z : false ≡ true = h in cc)

pub waiting : (listener : ℕ) (l : Link) → link_waits listener l ≡ true → has_no_socket l.acceptor.end ≡ true
waiting listener l h = waits_by (l.listener == listener) (has_no_socket l.acceptor.end) h

pub no_end : (o : Option ℕ) (s : ℕ) → option_map_or (λ (x : ℕ). false) o true ≡ true → is_socket o s ≡ false
no_end None s h = refl
no_end (Some x) s h = (let z : false ≡ true = h in cc)

-- the sockets of the accepted one
own_has : (listener n s : ℕ) (l : Link) → link_waits listener l ≡ true → link_has s (accepted_link n l) ≡ (link_has s l || (n == s))
own_has listener n s l w =
    let none : is_at l.acceptor.end s ≡ false = no_end l.acceptor.end.socket s (waiting listener l w) in
    rw none (keep_first (is_at l.starter.end s) (n == s))
  where
    keep_first : (a q : Bool) → (a || q) ≡ ((a || false) || q)
    keep_first true q = refl
    keep_first false q = refl

swap : (a q b : Bool) → ((a || q) || b) ≡ ((a || b) || q)
swap true q b = refl
swap false true true = refl
swap false true false = refl
swap false false true = refl
swap false false false = refl

assoc : (a b q : Bool) → (a || (b || q)) ≡ ((a || b) || q)
assoc true b q = refl
assoc false b q = refl

has_by : (b : Bool) (listener n s : ℕ) (l : Link) (links : List Link) → link_waits listener l ≡ b →
    (some_waits listener links ≡ true → has_link (change_first (link_waits listener) (accepted_link n) links) s ≡ (has_link links s || (n == s))) →
    (b || some_waits listener links) ≡ true →
    has_link (if b then accepted_link n l ∷ links else l ∷ change_first (link_waits listener) (accepted_link n) links) s ≡ ((link_has s l || has_link links s) || (n == s))
has_by true listener n s l links e ih h = ap (λ v. v || has_link links s) (own_has listener n s l e) ∙ swap (link_has s l) (n == s) (has_link links s)
has_by false listener n s l links e ih h = ap (λ v. link_has s l || v) (ih h) ∙ assoc (link_has s l) (has_link links s) (n == s)

pub has_accepted : (listener n s : ℕ) (links : List Link) → some_waits listener links ≡ true → has_link (change_first (link_waits listener) (accepted_link n) links) s ≡ (has_link links s || (n == s))
has_accepted listener n s [] h = (let z : false ≡ true = h in cc)
has_accepted listener n s (l ∷ links) h = has_by (link_waits listener l) listener n s l links refl (has_accepted listener n s links) h

some_by : (b : Bool) (listener : ℕ) (l k : Link) (links : List Link) → (first_of (link_waits listener) links ≡ Some k → some_waits listener links ≡ true) → (if b then Some l else first_of (link_waits listener) links) ≡ Some k → (b || some_waits listener links) ≡ true
some_by true listener l k links ih h = refl
some_by false listener l k links ih h = ih h

pub some_of : (listener : ℕ) (k : Link) (links : List Link) → first_of (link_waits listener) links ≡ Some k → some_waits listener links ≡ true
some_of listener k [] h = (let z : None ≡ Some k = h in absurd cc)
some_of listener k (l ∷ links) h = some_by (link_waits listener l) listener l k links (some_of listener k links) h

-- they stay sound
sound_met : (n : ℕ) (l : Link) → IsSound l → link_has n l ≡ false → IsSound (accepted_link n l)
sound_met n l h none =
    record {
      starter = h.starter;
      acceptor = h.acceptor;
      unmet = λ u. absurd (let z : false ≡ true = u in cc);
      apart = λ s own. false_unless (n == s) (λ e. (let same : n ≡ s = eqb-true n s e in
          let there : is_at l.starter.end n ≡ true = ap (is_at l.starter.end) same ∙ own in
          let z : true ≡ false = sym there ∙ (either_false (is_at l.starter.end n) (is_at l.acceptor.end n) none).0 in cc));
    }

own_or : (a q : Bool) → (a || q) ≡ true → (a ≡ true) ⊎ (q ≡ true)
own_or true q h = inl refl
own_or false q h = inr h

sound_by : (b : Bool) (listener n : ℕ) (l : Link) (links : List Link) → link_waits listener l ≡ b → AreSound (l ∷ links) → link_has n l ≡ false → has_link links n ≡ false → (b || some_waits listener links) ≡ true →
    (some_waits listener links ≡ true → AreSound (change_first (link_waits listener) (accepted_link n) links)) →
    AreSound (if b then accepted_link n l ∷ links else l ∷ change_first (link_waits listener) (accepted_link n) links)
sound_by true listener n l links e h none absent some ih = (sound_met n l h.0 none, λ s own. apart s (own_or (link_has s l) (n == s) (sym (own_has listener n s l e) ∙ own)), h.2)
  where
    apart : (s : ℕ) → (link_has s l ≡ true) ⊎ ((n == s) ≡ true) → has_link links s ≡ false
    apart s (inl there) = h.1 s there
    apart s (inr own) = ap (has_link links) (sym (eqb-true n s own)) ∙ absent
sound_by false listener n l links e h none absent some ih = (h.0, λ s own. has_accepted listener n s links some ∙ (rw (h.1 s own) (not_new s own (n == s) refl)), ih some)
  where
    not_new : (s : ℕ) → link_has s l ≡ true → (q : Bool) → (n == s) ≡ q → q ≡ false
    not_new s own true e = (let z : true ≡ false = sym own ∙ (ap (λ v. link_has v l) (sym (eqb-true n s e)) ∙ none) in absurd cc)
    not_new s own false e = refl

sound_accepted : (listener n : ℕ) (links : List Link) → AreSound links → has_link links n ≡ false → some_waits listener links ≡ true → AreSound (change_first (link_waits listener) (accepted_link n) links)
sound_accepted listener n [] h none some = tt
sound_accepted listener n (l ∷ links) h none some =
    let parts = either_false (link_has n l) (has_link links n) none in
    sound_by (link_waits listener l) listener n l links refl h parts.0 parts.1 some (λ more. sound_accepted listener n links h.2 parts.1 more)

-- the ends are those of the items
ends_by : (b : Bool) (n : ℕ) (l : Link) (rest : List Ends) (links more : List Link) → map (λ l. ends_of (pair_of l)) more ≡ rest →
    map (λ l. ends_of (pair_of l)) (if b then accepted_link n l ∷ links else l ∷ more) ≡ (if b then met_by n (ends_of (pair_of l)) ∷ map (λ l. ends_of (pair_of l)) links else ends_of (pair_of l) ∷ rest)
ends_by true n l rest links more e = refl
ends_by false n l rest links more e = ap (λ v. ends_of (pair_of l) ∷ v) e

ends_accepted : (listener n : ℕ) (links : List Link) → map (λ l. ends_of (pair_of l)) (change_first (link_waits listener) (accepted_link n) links) ≡ change_first (λ e. awaits e listener) (met_by n) (map (λ l. ends_of (pair_of l)) links)
ends_accepted listener n [] = refl
ends_accepted listener n (l ∷ links) = ends_by (link_waits listener l) n l (change_first (λ e. awaits e listener) (met_by n) (map (λ l. ends_of (pair_of l)) links)) links (change_first (link_waits listener) (accepted_link n) links) (ends_accepted listener n links)

-- one fewer waits
unmet_by : (b : Bool) (listener n : ℕ) (l : Link) (links : List Link) → link_waits listener l ≡ b → (b || some_waits listener links) ≡ true →
    (some_waits listener links ≡ true → unmet_count (change_first (link_waits listener) (accepted_link n) links) + 1 ≡ unmet_count links) →
    unmet_count (if b then accepted_link n l ∷ links else l ∷ change_first (link_waits listener) (accepted_link n) links) + 1 ≡ unmet_count (l ∷ links)
unmet_by true listener n l links e h ih = (let one : has_no_socket l.acceptor.end ≡ true = waiting listener l e in rw one (omega arith))
unmet_by false listener n l links e h ih = (let more = ih h in omega arith)

pub unmet_accepted : (listener n : ℕ) (links : List Link) → some_waits listener links ≡ true → unmet_count (change_first (link_waits listener) (accepted_link n) links) + 1 ≡ unmet_count links
unmet_accepted listener n [] h = (let z : false ≡ true = h in absurd cc)
unmet_accepted listener n (l ∷ links) h = unmet_by (link_waits listener l) listener n l links refl h (unmet_accepted listener n links)

-- all of it
linked_accepted_so : (t : List Item) (n n' listener at : ℕ) (links : List Link) → AreLinked t n links → n' ≡ n + 1 → some_waits listener links ≡ true →
    AreLinked (item.Accepted listener n at ∷ t) n' (change_first (link_waits listener) (accepted_link n) links)
linked_accepted_so t n n' listener at links h next some =
    record {
      sound = sound_accepted listener n links h.sound (absent_at t n links h) some;
      below = λ s there. below s (own_or (has_link links s) (n == s) (sym (has_accepted listener n s links some) ∙ there));
      starts = λ s there. has_accepted listener n s links some ∙ left_true (has_link links s) (n == s) (h.starts s there);
      completes = λ s there. has_accepted listener n s links some ∙ left_true (has_link links s) (n == s) (h.completes s there);
      accepts = λ s there. has_accepted listener n s links some ∙ accepts s (own_or (n == s) (has (accepted t) s) there);
      ends = ends_accepted listener n links ∙ ap (change_first (λ e. awaits e listener) (met_by n)) h.ends;
    }
  where
    below : (s : ℕ) → (has_link links s ≡ true) ⊎ ((n == s) ≡ true) → s < n'
    below s (inl there) = (let less = h.below s there in omega arith)
    below s (inr own) = (let same : n ≡ s = eqb-true n s own in omega arith)

    accepts : (s : ℕ) → ((n == s) ≡ true) ⊎ (has (accepted t) s ≡ true) → (has_link links s || (n == s)) ≡ true
    accepts s (inl own) = right_true (has_link links s) (n == s) own
    accepts s (inr there) = left_true (has_link links s) (n == s) (h.accepts s there)

pub linked_accepted : (t : List Item) (n n' x listener at : ℕ) (links : List Link) → AreLinked t n links → x ≡ n → n' ≡ n + 1 → some_waits listener links ≡ true →
    AreLinked (item.Accepted listener x at ∷ t) n' (change_first (link_waits listener) (accepted_link x) links)
linked_accepted t n n' x listener at links h number next some = rw number (linked_accepted_so t n n' listener at links h next some)
