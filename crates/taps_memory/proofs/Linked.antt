-- The connections that are kept are those of the items, as items come and ends change.
use Rattle.std.proofs.Common.{◌≡◌, ℕ, suc, ◌+◌, ◌<◌, ◌≤◌, Bool, true, false, ◌||◌, List, [], ◌∷◌, ◌++◌, length, refl, ap, sym, ◌∙◌, subst, arith, if◌then◌else◌, length-append, inl, inr, ◌⊎◌}
use Rattle.std.specs.Prelude.{◌==◌, map, Option, Some, None}
use Rattle.std.specs.Option.{option_map_or}
use Rattle.std.proofs.lemmas.List.Folds.{list_any-append}
use Rattle.std.proofs.lemmas.List.{map-append, length-drop}
use Rattle.std.proofs.lemmas.Bool.{eqb-true}
use Rattle.taps_stack.specs.declared.target.Target.{Target}
use Rattle.taps_socket.specs.declared.item.How.{How}
use Rattle.taps_socket.specs.declared.item.How.TheVariants as how
use Rattle.taps_socket.specs.declared.item.Item.{Item}
use Rattle.taps_socket.specs.declared.item.Item.TheVariants as item
use Rattle.taps_socket.specs.RaceSockets.{has, started, completed}
use Rattle.taps_socket.specs.Sides.{accepted}
use Rattle.taps_memory.specs.declared.link.Link.{Link}
use Rattle.taps_memory.specs.Pairs.{is_at, has_no_socket, change_first, first_of, shut_end, closed_end, taken_end, under_way, other_end}
use Rattle.taps_memory.specs.Sides.{Side, new_side, with_end, roomy_side, sent_side}
use Rattle.taps_memory.specs.Links.{pair_of, link_has, has_link, link_with_own, started_link, read_link}
use Rattle.taps_memory.specs.MemorySteps.{listener_for}
use Rattle.taps_memory.specs.Joined.{Ends, ends_of, is_socket, connections}
use Rattle.taps_memory.specs.Kept.{IsSound, AreSound, AreLinked, unmet_count}

-- a change that leaves the sockets of a connection
abbrev pub KeepsEnds : (Link → Link) → Type 0
KeepsEnds f = (l : Link) → ends_of (pair_of (f l)) ≡ ends_of (pair_of l)

same_has : (f : Link → Link) → KeepsEnds f → (l : Link) (q : ℕ) → link_has q (f l) ≡ link_has q l
same_has f keeps l q = ap (λ (e : Ends). is_socket e.starter q || is_socket e.acceptor q) (keeps l)

abbrev no_acceptor : Ends → Bool
no_acceptor e = option_map_or (λ (x : ℕ). false) e.acceptor true

same_unmet : (f : Link → Link) → KeepsEnds f → (l : Link) → has_no_socket (f l).acceptor.end ≡ has_no_socket l.acceptor.end
same_unmet f keeps l = ap no_acceptor (keeps l)

-- in all connections
has_by : (b : Bool) (f : Link → Link) → KeepsEnds f → (l : Link) (rest more : List Link) (q : ℕ) → has_link rest q ≡ has_link more q → has_link (if b then f l ∷ more else l ∷ rest) q ≡ (link_has q l || has_link more q)
has_by true f keeps l rest more q e = ap (λ v. v || has_link more q) (same_has f keeps l q)
has_by false f keeps l rest more q e = ap (λ v. link_has q l || v) e

pub has_changed : (test : Link → Bool) (f : Link → Link) → KeepsEnds f → (links : List Link) (q : ℕ) → has_link (change_first test f links) q ≡ has_link links q
has_changed test f keeps [] q = refl
has_changed test f keeps (l ∷ links) q = has_by (test l) f keeps l (change_first test f links) links q (has_changed test f keeps links q)

ends_by : (b : Bool) (f : Link → Link) → KeepsEnds f → (l : Link) (rest more : List Link) → map (λ l. ends_of (pair_of l)) rest ≡ map (λ l. ends_of (pair_of l)) more →
    map (λ l. ends_of (pair_of l)) (if b then f l ∷ more else l ∷ rest) ≡ ends_of (pair_of l) ∷ map (λ l. ends_of (pair_of l)) more
ends_by true f keeps l rest more e = ap (λ v. v ∷ map (λ l. ends_of (pair_of l)) more) (keeps l)
ends_by false f keeps l rest more e = ap (λ v. ends_of (pair_of l) ∷ v) e

ends_changed : (test : Link → Bool) (f : Link → Link) → KeepsEnds f → (links : List Link) → map (λ l. ends_of (pair_of l)) (change_first test f links) ≡ map (λ l. ends_of (pair_of l)) links
ends_changed test f keeps [] = refl
ends_changed test f keeps (l ∷ links) = ends_by (test l) f keeps l (change_first test f links) links (ends_changed test f keeps links)

unmet_by : (b : Bool) (f : Link → Link) → KeepsEnds f → (l : Link) (rest more : List Link) → unmet_count rest ≡ unmet_count more →
    unmet_count (if b then f l ∷ more else l ∷ rest) ≡ unmet_count (l ∷ more)
unmet_by true f keeps l rest more e = ap (λ v. (if v then 1 else 0) + unmet_count more) (same_unmet f keeps l)
unmet_by false f keeps l rest more e = ap (λ v. (if has_no_socket l.acceptor.end then 1 else 0) + v) e

pub unmet_changed : (test : Link → Bool) (f : Link → Link) → KeepsEnds f → (links : List Link) → unmet_count (change_first test f links) ≡ unmet_count links
unmet_changed test f keeps [] = refl
unmet_changed test f keeps (l ∷ links) = unmet_by (test l) f keeps l (change_first test f links) links (unmet_changed test f keeps links)

length_by : (b : Bool) (x l : Link) (rest more : List Link) → length rest ≡ length more → length (if b then x ∷ more else l ∷ rest) ≡ length (l ∷ more)
length_by true x l rest more e = refl
length_by false x l rest more e = ap (λ v. suc v) e

pub length_changed : (test : Link → Bool) (f : Link → Link) (links : List Link) → length (change_first test f links) ≡ length links
length_changed test f [] = refl
length_changed test f (l ∷ links) = length_by (test l) (f l) l (change_first test f links) links (length_changed test f links)

-- they stay sound
abbrev Stays : (Link → Bool) → (Link → Link) → List Link → Type 0
Stays test f links = (l : Link) → IsSound l → test l ≡ true → first_of test links ≡ Some l → IsSound (f l)

sound_by : (b : Bool) (test : Link → Bool) (f : Link → Link) → KeepsEnds f → (l : Link) (links : List Link) → Stays test f (l ∷ links) → test l ≡ b → AreSound (l ∷ links) → (Stays test f links → AreSound (change_first test f links)) → AreSound (if b then f l ∷ links else l ∷ change_first test f links)
sound_by true test f keeps l links stays e h rest = (stays l h.0 e (rw e refl), λ q own. h.1 q (sym (same_has f keeps l q) ∙ own), h.2)
sound_by false test f keeps l links stays e h rest = (h.0, λ q own. has_changed test f keeps links q ∙ h.1 q own, rest (λ k sound t first. stays k sound t (rw e first)))

pub sound_changed : (test : Link → Bool) (f : Link → Link) → KeepsEnds f → (links : List Link) → Stays test f links → AreSound links → AreSound (change_first test f links)
sound_changed test f keeps [] stays h = tt
sound_changed test f keeps (l ∷ links) stays h = sound_by (test l) test f keeps l links stays refl h (λ rest. sound_changed test f keeps links rest h.2)

pub linked_changed : (t : List Item) (n : ℕ) (test : Link → Bool) (f : Link → Link) (links : List Link) → KeepsEnds f → Stays test f links → AreLinked t n links → AreLinked t n (change_first test f links)
linked_changed t n test f links keeps stays h =
    record {
      sound = sound_changed test f keeps links stays h.sound;
      below = λ s there. h.below s (sym (has_changed test f keeps links s) ∙ there);
      starts = λ s there. has_changed test f keeps links s ∙ h.starts s there;
      completes = λ s there. has_changed test f keeps links s ∙ h.completes s there;
      accepts = λ s there. has_changed test f keeps links s ∙ h.accepts s there;
      ends = ends_changed test f keeps links ∙ h.ends;
    }

-- a change of the side of a socket
pub record IsGrowing (c : Side → Side) : Type 0 where
  pub socket : (x : Side) → (c x).end.socket ≡ x.end.socket
  pub taken : (x : Side) → (c x).end.taken ≡ x.end.taken
  pub longer : (x : Side) → length x.end.written ≤ length (c x).end.written

own_ends_by : (b : Bool) (c : Side → Side) → IsGrowing c → (l : Link) → ends_of (pair_of (if b then record l { starter = c l.starter } else record l { acceptor = c l.acceptor })) ≡ ends_of (pair_of l)
own_ends_by true c g l = ap (λ v. (let e : Ends = record { listener = l.listener; starter = v; acceptor = l.acceptor.end.socket } in e)) (g.socket l.starter)
own_ends_by false c g l = ap (λ v. (let e : Ends = record { listener = l.listener; starter = l.starter.end.socket; acceptor = v } in e)) (g.socket l.acceptor)

pub own_keeps : (c : Side → Side) → IsGrowing c → (s : ℕ) → KeepsEnds (link_with_own c s)
own_keeps c g s l = own_ends_by (is_at l.starter.end s) c g l

-- an end with a socket has one
pub has_one : (o : Option ℕ) (s : ℕ) → is_socket o s ≡ true → option_map_or (λ (x : ℕ). false) o true ≡ true → ⊥
has_one None s h e = (let z : false ≡ true = h in cc)
has_one (Some x) s h e = (let z : false ≡ true = e in cc)

pub other_one : (a b : Bool) → (a || b) ≡ true → a ≡ false → b ≡ true
other_one true b h e = (let z : true ≡ false = e in absurd cc)
other_one false b h e = h

sound_own_by : (b : Bool) (c : Side → Side) → IsGrowing c → (s : ℕ) (l : Link) → is_at l.starter.end s ≡ b → IsSound l → link_has s l ≡ true → IsSound (if b then record l { starter = c l.starter } else record l { acceptor = c l.acceptor })
sound_own_by true c g s l e h own =
    record {
      starter = (let a = h.starter in let t = g.taken l.starter in let n = g.longer l.starter in omega arith);
      acceptor = h.acceptor;
      unmet = λ u. ((h.unmet u).0, g.taken l.starter ∙ (h.unmet u).1);
      apart = λ q at. h.apart q (sym (ap (λ o. is_socket o q) (g.socket l.starter)) ∙ at);
    }
sound_own_by false c g s l e h own =
    record {
      starter = h.starter;
      acceptor = (let a = h.acceptor in let t = g.taken l.acceptor in let n = g.longer l.acceptor in omega arith);
      unmet = λ u. absurd (has_one l.acceptor.end.socket s (other_one (is_at l.starter.end s) (is_at l.acceptor.end s) own e) (sym (ap (λ o. option_map_or (λ (x : ℕ). false) o true) (g.socket l.acceptor)) ∙ u));
      apart = λ q at. ap (λ o. is_socket o q) (g.socket l.acceptor) ∙ h.apart q at;
    }

pub sound_own : (c : Side → Side) → IsGrowing c → (s : ℕ) (l : Link) → IsSound l → link_has s l ≡ true → IsSound (link_with_own c s l)
sound_own c g s l h own = sound_own_by (is_at l.starter.end s) c g s l refl h own

pub grows_closed : IsGrowing (with_end closed_end)
grows_closed = record { socket = λ x. refl; taken = λ x. refl; longer = λ x. omega arith }

pub grows_shut : IsGrowing (with_end shut_end)
grows_shut = record { socket = λ x. refl; taken = λ x. refl; longer = λ x. omega arith }

pub grows_roomy : (bytes : ℕ) → IsGrowing (roomy_side bytes)
grows_roomy bytes = record { socket = λ x. refl; taken = λ x. refl; longer = λ x. omega arith }

pub grows_sent : (bytes : List ℕ) (at : ℕ) → IsGrowing (sent_side bytes at)
grows_sent bytes at = record { socket = λ x. refl; taken = λ x. refl; longer = λ x. omega (arith, length-append x.end.written bytes) }

pub linked_own : (t : List Item) (n : ℕ) (c : Side → Side) (s : ℕ) (links : List Link) → IsGrowing c → AreLinked t n links → AreLinked t n (change_first (link_has s) (link_with_own c s) links)
linked_own t n c s links g h = linked_changed t n (link_has s) (link_with_own c s) links (own_keeps c g s) (λ l sound own first. sound_own c g s l sound own) h

-- so many of the bytes that are under way are read
read_ends_by : (b : Bool) (count : ℕ) (l : Link) → ends_of (pair_of (if b then record l { acceptor = with_end (taken_end count) l.acceptor } else record l { starter = with_end (taken_end count) l.starter })) ≡ ends_of (pair_of l)
read_ends_by true count l = refl
read_ends_by false count l = refl

pub read_keeps : (s count : ℕ) → KeepsEnds (read_link s count)
read_keeps s count l = read_ends_by (is_at l.starter.end s) count l

taken_within : (x : Side) (count : ℕ) → x.end.taken ≤ length x.end.written → count ≤ length (under_way x.end) → x.end.taken + count ≤ length x.end.written
taken_within x count h few = let n = length-drop x.end.taken x.end.written in omega arith

taken_none : (x : Side) (count : ℕ) → x ≡ new_side x.end.capacity None → count ≤ length (under_way x.end) → with_end (taken_end count) x ≡ x
taken_none x count e few =
    let empty : length (under_way x.end) ≡ 0 = ap (λ (y : Side). length (under_way y.end)) e in
    let none : x.end.taken + count ≡ x.end.taken = omega arith in
    ap (λ v. (let y : Side = record x { end = record x.end { taken = v } } in y)) none

sound_read_by : (b : Bool) (s count : ℕ) (l : Link) → is_at l.starter.end s ≡ b → IsSound l → link_has s l ≡ true → count ≤ length (under_way (if b then l.acceptor.end else l.starter.end)) →
    IsSound (if b then record l { acceptor = with_end (taken_end count) l.acceptor } else record l { starter = with_end (taken_end count) l.starter })
sound_read_by true s count l e h own few =
    record {
      starter = h.starter;
      acceptor = taken_within l.acceptor count h.acceptor few;
      unmet = λ u. (let same = taken_none l.acceptor count (h.unmet u).0 few in (same ∙ (h.unmet u).0, (h.unmet u).1));
      apart = h.apart;
    }
sound_read_by false s count l e h own few =
    record {
      starter = taken_within l.starter count h.starter few;
      acceptor = h.acceptor;
      unmet = λ u. absurd (has_one l.acceptor.end.socket s (other_one (is_at l.starter.end s) (is_at l.acceptor.end s) own e) u);
      apart = h.apart;
    }

other_by : (b : Bool) (x y : Link) → (if b then (pair_of x).acceptor else (pair_of x).starter) ≡ (if b then x.acceptor.end else x.starter.end)
other_by true x y = refl
other_by false x y = refl

pub sound_read : (s count : ℕ) (l : Link) → IsSound l → link_has s l ≡ true → count ≤ length (under_way (other_end (pair_of l) s)) → IsSound (read_link s count l)
sound_read s count l h own few = sound_read_by (is_at l.starter.end s) s count l refl h own (subst (λ e. count ≤ length (under_way e)) (other_by (is_at l.starter.end s) l l) few)

pub linked_read : (t : List Item) (n s count : ℕ) (links : List Link) → AreLinked t n links → ((l : Link) → first_of (link_has s) links ≡ Some l → count ≤ length (under_way (other_end (pair_of l) s))) → AreLinked t n (change_first (link_has s) (read_link s count) links)
linked_read t n s count links h few = linked_changed t n (link_has s) (read_link s count) links (read_keeps s count) (λ l sound own first. sound_read s count l sound own (few l first)) h

-- an item that begins no connection, and completes and accepts none
pub linked_still : (t t' : List Item) (n : ℕ) (links : List Link) → started t' ≡ started t → completed t' ≡ completed t → accepted t' ≡ accepted t → connections t' ≡ connections t → AreLinked t n links → AreLinked t' n links
linked_still t t' n links st co ac cs h =
    record {
      sound = h.sound;
      below = h.below;
      starts = λ s there. h.starts s (sym (ap (λ xs. has xs s) st) ∙ there);
      completes = λ s there. h.completes s (sym (ap (λ xs. has xs s) co) ∙ there);
      accepts = λ s there. h.accepts s (sym (ap (λ xs. has xs s) ac) ∙ there);
      ends = h.ends ∙ sym cs;
    }

-- a wait that completes a socket that was started
completes_by : (q : Bool) (x s : ℕ) (links : List Link) (t : List Item) → (x == s) ≡ q → has_link links x ≡ true → (has (completed t) s ≡ true → has_link links s ≡ true) → (q || has (completed t) s) ≡ true → has_link links s ≡ true
completes_by true x s links t e own more h = subst (λ v. has_link links v ≡ true) (eqb-true x s e) own
completes_by false x s links t e own more h = more h

pub linked_waited : (t : List Item) (n until at : ℕ) (end : How) (links : List Link) → ((x : ℕ) → end ≡ how.Completed x → has (started t) x ≡ true) → AreLinked t n links → AreLinked (item.Waited until at end ∷ t) n links
linked_waited t n until at how.Reached links own h = linked_still t (item.Waited until at how.Reached ∷ t) n links refl refl refl refl h
linked_waited t n until at (how.Completed x) links own h =
    record {
      sound = h.sound;
      below = h.below;
      starts = h.starts;
      completes = λ s there. completes_by (x == s) x s links t refl (h.starts x (own x refl)) (h.completes s) there;
      accepts = h.accepts;
      ends = h.ends;
    }
linked_waited t n until at (how.Broke x cause) links own h = linked_still t (item.Waited until at (how.Broke x cause) ∷ t) n links refl refl refl refl h
linked_waited t n until at how.Faulted links own h = linked_still t (item.Waited until at how.Faulted ∷ t) n links refl refl refl refl h

-- a connection more
last_has : (links : List Link) (c l n s : ℕ) → has_link (links ++ started_link c l n ∷ []) s ≡ (has_link links s || ((n == s) || false))
last_has links c l n s = list_any-append (link_has s) links (started_link c l n ∷ []) ∙ ap (λ v. has_link links s || v) (drop_false (n == s))
  where
    drop_false : (q : Bool) → ((q || false) || false) ≡ (q || false)
    drop_false true = refl
    drop_false false = refl

has_last_by : (a q : Bool) → (a || (q || false)) ≡ true → (a ≡ true) ⊎ (q ≡ true)
has_last_by true q h = inl refl
has_last_by false true h = inr refl
has_last_by false false h = (let z : false ≡ true = h in cc)

pub left_true : (a b : Bool) → a ≡ true → (a || b) ≡ true
left_true true b h = refl
left_true false b h = (let z : false ≡ true = h in cc)

pub right_true : (a b : Bool) → b ≡ true → (a || b) ≡ true
right_true true b h = refl
right_true false b h = h

pub false_unless : (q : Bool) → (q ≡ true → ⊥) → q ≡ false
false_unless true h = absurd (h refl)
false_unless false h = refl

pub either_false : (a b : Bool) → (a || b) ≡ false → (a ≡ false) × (b ≡ false)
either_false true b h = (let z : true ≡ false = h in cc)
either_false false b h = (refl, h)

sound_new : (c l n : ℕ) → IsSound (started_link c l n)
sound_new c l n = record { starter = omega arith; acceptor = omega arith; unmet = λ u. (refl, refl); apart = λ s h. refl }

sound_more : (links : List Link) (c l n : ℕ) → AreSound links → has_link links n ≡ false → AreSound (links ++ started_link c l n ∷ [])
sound_more [] c l n h none = (sound_new c l n, λ s own. refl, tt)
sound_more (x ∷ links) c l n h none =
    let parts = either_false (link_has n x) (has_link links n) none in
    (h.0, λ s own. apart s own (h.1 s own) parts.0, sound_more links c l n h.2 parts.1)
  where
    apart : (s : ℕ) → link_has s x ≡ true → has_link links s ≡ false → link_has n x ≡ false → has_link (links ++ started_link c l n ∷ []) s ≡ false
    apart s own rest absent =
        last_has links c l n s ∙ (rw rest (not_new (n == s) refl))
      where
        not_new : (q : Bool) → (n == s) ≡ q → (q || false) ≡ false
        not_new true e = (let z : true ≡ false = sym own ∙ (ap (λ v. link_has v x) (sym (eqb-true n s e)) ∙ absent) in absurd cc)
        not_new false e = refl

pub absent_at : (t : List Item) (n : ℕ) (links : List Link) → AreLinked t n links → has_link links n ≡ false
absent_at t n links h = false_unless (has_link links n) (λ e. (let z = h.below n e in omega arith))

pub unmet_more : (links : List Link) (c l n : ℕ) → unmet_count (links ++ started_link c l n ∷ []) ≡ unmet_count links + 1
unmet_more [] c l n = refl
unmet_more (x ∷ links) c l n = (let h = unmet_more links c l n in omega arith)

starts_by : (xs : List ℕ) (n s : ℕ) → has (xs ++ n ∷ []) s ≡ (has xs s || ((n == s) || false))
starts_by xs n s = list_any-append (λ x. x == s) xs (n ∷ [])

linked_started_so : (t : List Item) (n n' c listener leaf at : ℕ) (target : Target) (links : List Link) → AreLinked t n links → n' ≡ n + 1 → listener ≡ listener_for t target → AreLinked (item.Started leaf target n at ∷ t) n' (links ++ started_link c listener n ∷ [])
linked_started_so t n n' c listener leaf at target links h next is =
    record {
      sound = sound_more links c listener n h.sound (absent_at t n links h);
      below = λ s there. below s (has_last_by (has_link links s) (n == s) (sym (last_has links c listener n s) ∙ there));
      starts = λ s there. starts s (has_last_by (has (started t) s) (n == s) (sym (starts_by (started t) n s) ∙ there));
      completes = λ s there. more s (h.completes s there);
      accepts = λ s there. more s (h.accepts s there);
      ends = map-append (λ l. ends_of (pair_of l)) links (started_link c listener n ∷ []) ∙
          (ap (λ v. v ++ record { listener = listener; starter = Some n; acceptor = None } ∷ []) h.ends ∙
          ap (λ v. connections t ++ (let e : Ends = record { listener = v; starter = Some n; acceptor = None } in e) ∷ []) is);
    }
  where
    more : (s : ℕ) → has_link links s ≡ true → has_link (links ++ started_link c listener n ∷ []) s ≡ true
    more s there = last_has links c listener n s ∙ left_true (has_link links s) ((n == s) || false) there

    below : (s : ℕ) → (has_link links s ≡ true) ⊎ ((n == s) ≡ true) → s < n'
    below s (inl there) = (let less = h.below s there in omega arith)
    below s (inr own) = (let same : n ≡ s = eqb-true n s own in omega arith)

    starts : (s : ℕ) → (has (started t) s ≡ true) ⊎ ((n == s) ≡ true) → has_link (links ++ started_link c listener n ∷ []) s ≡ true
    starts s (inl there) = more s (h.starts s there)
    starts s (inr own) = last_has links c listener n s ∙ right_true (has_link links s) ((n == s) || false) (left_true (n == s) false own)

pub linked_started : (t : List Item) (n n' x c listener leaf at : ℕ) (target : Target) (links : List Link) → AreLinked t n links → x ≡ n → n' ≡ n + 1 → listener ≡ listener_for t target → AreLinked (item.Started leaf target x at ∷ t) n' (links ++ started_link c listener x ∷ [])
linked_started t n n' x c listener leaf at target links h number next is = rw number (linked_started_so t n n' c listener leaf at target links h next is)

-- a socket that listens
pub linked_listening : (t : List Item) (n n' x at : ℕ) (target : Target) (links : List Link) → n' ≡ n + 1 → AreLinked t n links → AreLinked (item.Listening target x at ∷ t) n' links
linked_listening t n n' x at target links next h =
    record {
      sound = h.sound;
      below = λ s there. (let less = h.below s there in omega arith);
      starts = h.starts;
      completes = h.completes;
      accepts = h.accepts;
      ends = h.ends;
    }
