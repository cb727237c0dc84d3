-- The traffic of sockets as ends change.
use Rattle.std.proofs.Common.{◌≡◌, ℕ, zero, suc, ◌+◌, ◌-◌, ◌≤◌, Bool, true, false, ◌||◌, List, [], ◌∷◌, ◌++◌, length, take, drop, refl, ap, sym, ◌∙◌, subst, arith, if◌then◌else◌, length-append}
use Rattle.std.specs.Prelude.{◌==◌, Option, Some, None, max}
use Rattle.std.specs.List.{concat}
use Rattle.std.proofs.Math.Path.{fun_ext}
use Rattle.std.proofs.lemmas.List.{append-nil, take-append-le}
use Rattle.std.proofs.lemmas.Bool.{eqb-true, eq-eqb}
use Rattle.taps_socket.specs.Net.{Traffic, IsUnused, sent_on, received_on, with_piece}
use Rattle.taps_memory.specs.declared.link.Link.{Link}
use Rattle.taps_memory.specs.Pairs.{is_at, change_first, first_of, has_no_socket, given_end, closed_end, shut_end, taken_end, under_way, other_end}
use Rattle.taps_memory.specs.Sides.{Side, new_side, with_end, roomy_side, sent_side, as_piece, traffic_of, no_traffic}
use Rattle.taps_memory.specs.Links.{pair_of, link_has, link_waits, has_link, link_with_own, started_link, accepted_link, read_link, traffic_in, traffic_at}
use Rattle.taps_memory.specs.Joined.{Ends, is_socket}
use Rattle.taps_memory.specs.Kept.{IsSound, AreSound}
use Rattle.taps_memory.proofs.Linked.{KeepsEnds, IsGrowing, own_keeps, read_keeps, grows_closed, grows_shut, grows_roomy, grows_sent, other_one, either_false}
use Rattle.taps_memory.proofs.Accepting.{waiting, no_end}

-- a change of a connection at a socket, and of what is seen there
pub record IsSeen (P : Link → Type 0) (s : ℕ) (f : Link → Link) (g : Traffic → Traffic) : Type 0 where
  pub keeps : KeepsEnds f
  pub own : (l : Link) → P l → IsSound l → link_has s l ≡ true → traffic_in (f l) s ≡ g (traffic_in l s)
  pub other : (l : Link) (q : ℕ) → IsSound l → link_has s l ≡ true → link_has q l ≡ true → (s == q) ≡ false → traffic_in (f l) q ≡ traffic_in l q

same_has : (f : Link → Link) → KeepsEnds f → (l : Link) (q : ℕ) → link_has q (f l) ≡ link_has q l
same_has f keeps l q = ap (λ (e : Ends). is_socket e.starter q || is_socket e.acceptor q) (keeps l)

-- in the first connection that has it
here_by : (b : Bool) (P : Link → Type 0) (s q : ℕ) (f : Link → Link) (g : Traffic → Traffic) → IsSeen P s f g → (l : Link) (links : List Link) → P l → IsSound l → link_has s l ≡ true → (s == q) ≡ b →
    traffic_at (f l ∷ links) q ≡ (if b then g (traffic_in l s) else traffic_at (l ∷ links) q)
here_by true P s q f g h l links p sound own e =
    let same : s ≡ q = eqb-true s q e in
    subst (λ v. traffic_at (f l ∷ links) v ≡ g (traffic_in l s)) same (rw (same_has f h.keeps l s ∙ own) (h.own l p sound own))
here_by false P s q f g h l links p sound own e = by_test (link_has q l) refl
  where
    by_test : (b : Bool) → link_has q l ≡ b → traffic_at (f l ∷ links) q ≡ traffic_at (l ∷ links) q
    by_test true t = rw (same_has f h.keeps l q ∙ t, t) (h.other l q sound own t e)
    by_test false t = rw (same_has f h.keeps l q ∙ t, t) refl

there_by : (b : Bool) (s q : ℕ) (g : Traffic → Traffic) (l : Link) (links more : List Link) → link_has s l ≡ false → (s == q) ≡ b →
    traffic_at more q ≡ (if b then g (traffic_at links s) else traffic_at links q) →
    traffic_at (l ∷ more) q ≡ (if b then g (traffic_at links s) else traffic_at (l ∷ links) q)
there_by true s q g l links more not e h =
    let same : s ≡ q = eqb-true s q e in
    let away : link_has q l ≡ false = ap (λ v. link_has v l) (sym same) ∙ not in
    rw away h
there_by false s q g l links more not e h = by_test (link_has q l) refl
  where
    by_test : (b : Bool) → link_has q l ≡ b → traffic_at (l ∷ more) q ≡ traffic_at (l ∷ links) q
    by_test true t = rw t refl
    by_test false t = rw t h

seen_by : (b : Bool) (P : Link → Type 0) (s q : ℕ) (f : Link → Link) (g : Traffic → Traffic) → IsSeen P s f g → (l : Link) (links : List Link) → ((k : Link) → first_of (link_has s) (l ∷ links) ≡ Some k → P k) → link_has s l ≡ b → AreSound (l ∷ links) → (b || has_link links s) ≡ true →
    (((k : Link) → first_of (link_has s) links ≡ Some k → P k) → has_link links s ≡ true → traffic_at (change_first (link_has s) f links) q ≡ (if s == q then g (traffic_at links s) else traffic_at links q)) →
    traffic_at (if b then f l ∷ links else l ∷ change_first (link_has s) f links) q ≡ (if s == q then g (if b then traffic_in l s else traffic_at links s) else traffic_at (l ∷ links) q)
seen_by true P s q f g h l links first own sound there ih = here_by (s == q) P s q f g h l links (first l (rw own refl)) sound.0 own refl
seen_by false P s q f g h l links first own sound there ih = there_by (s == q) s q g l links (change_first (link_has s) f links) own refl (ih (λ k e. first k (rw own e)) there)

seen_at : (P : Link → Type 0) (s q : ℕ) (f : Link → Link) (g : Traffic → Traffic) → IsSeen P s f g → (links : List Link) → ((k : Link) → first_of (link_has s) links ≡ Some k → P k) → AreSound links → has_link links s ≡ true →
    traffic_at (change_first (link_has s) f links) q ≡ (if s == q then g (traffic_at links s) else traffic_at links q)
seen_at P s q f g h [] first sound there = (let z : false ≡ true = there in absurd cc)
seen_at P s q f g h (l ∷ links) first sound there = seen_by (link_has s l) P s q f g h l links first refl sound there (λ less more. seen_at P s q f g h links less sound.2 more)

pub seen : (P : Link → Type 0) (s : ℕ) (f : Link → Link) (g : Traffic → Traffic) → IsSeen P s f g → (links : List Link) → ((k : Link) → first_of (link_has s) links ≡ Some k → P k) → AreSound links → has_link links s ≡ true →
    traffic_at (change_first (link_has s) f links) ≡ (λ q. if s == q then g (traffic_at links s) else traffic_at links q)
seen P s f g h links first sound there = fun_ext (λ q. seen_at P s q f g h links first sound there)

-- no socket is at two ends of one connection
at_once : (o : Option ℕ) (s q : ℕ) → is_socket o s ≡ true → is_socket o q ≡ true → s ≡ q
at_once None s q h k = (let z : false ≡ true = h in absurd cc)
at_once (Some x) s q h k = sym (eqb-true x s h) ∙ eqb-true x q k

not_both : (o : Option ℕ) (s q : ℕ) → is_socket o s ≡ true → (s == q) ≡ false → is_socket o q ≡ false
not_both o s q h e = by_test (is_socket o q) refl
  where
    by_test : (b : Bool) → is_socket o q ≡ b → b ≡ false
    by_test true k = (let same : s ≡ q = at_once o s q h k in let z : true ≡ false = sym (eq-eqb s q same) ∙ e in absurd cc)
    by_test false k = refl

first_one : (a b : Bool) → (a || b) ≡ true → b ≡ false → a ≡ true
first_one true b h e = refl
first_one false b h e = (let z : true ≡ false = sym h ∙ e in absurd cc)

-- a change of the side of a socket
pub record IsSeenOwn (c : Side → Side) (g : Traffic → Traffic) : Type 0 where
  pub grows : IsGrowing c
  pub own : (x y : Side) → traffic_of (c x) y ≡ g (traffic_of x y)
  pub other : (x y : Side) → x.end.taken ≤ length x.end.written → traffic_of y (c x) ≡ traffic_of y x

own_by : (b : Bool) (c : Side → Side) (g : Traffic → Traffic) → IsSeenOwn c g → (s : ℕ) (l : Link) → is_at l.starter.end s ≡ b → traffic_in (if b then record l { starter = c l.starter } else record l { acceptor = c l.acceptor }) s ≡ g (traffic_in l s)
own_by true c g h s l e =
    let here : is_at (c l.starter).end s ≡ true = ap (λ o. is_socket o s) (h.grows.socket l.starter) ∙ e in
    rw (here, e) (h.own l.starter l.acceptor)
own_by false c g h s l e = rw e (h.own l.acceptor l.starter)

other_by : (b : Bool) (c : Side → Side) (g : Traffic → Traffic) → IsSeenOwn c g → (s q : ℕ) (l : Link) → IsSound l → link_has s l ≡ true → link_has q l ≡ true → (s == q) ≡ false → is_at l.starter.end s ≡ b →
    traffic_in (if b then record l { starter = c l.starter } else record l { acceptor = c l.acceptor }) q ≡ traffic_in l q
other_by true c g h s q l sound own there e at =
    let away : is_at l.starter.end q ≡ false = not_both l.starter.end.socket s q at e in
    let away2 : is_at (c l.starter).end q ≡ false = ap (λ o. is_socket o q) (h.grows.socket l.starter) ∙ away in
    rw (away2, away) (h.other l.starter l.acceptor sound.starter)
other_by false c g h s q l sound own there e at =
    let acc : is_at l.acceptor.end s ≡ true = other_one (is_at l.starter.end s) (is_at l.acceptor.end s) own at in
    let away : is_at l.acceptor.end q ≡ false = not_both l.acceptor.end.socket s q acc e in
    let here : is_at l.starter.end q ≡ true = first_one (is_at l.starter.end q) (is_at l.acceptor.end q) there away in
    rw here (h.other l.acceptor l.starter sound.acceptor)

pub seen_own : (s : ℕ) (c : Side → Side) (g : Traffic → Traffic) → IsSeenOwn c g → IsSeen (λ l. Unit {0}) s (link_with_own c s) g
seen_own s c g h =
    record {
      keeps = own_keeps c h.grows s;
      own = λ l p sound own. own_by (is_at l.starter.end s) c g h s l refl;
      other = λ l q sound own there e. other_by (is_at l.starter.end s) c g h s q l sound own there e refl;
    }

-- bytes of a stream as its one piece
pub concat_piece : (w : List ℕ) → concat (as_piece w) ≡ w
concat_piece [] = refl
concat_piece (b ∷ w) = append-nil (b ∷ w)

some_piece : (w : List ℕ) → 1 ≤ length w → as_piece w ≡ w ∷ []
some_piece [] h = absurd (omega arith)
some_piece (b ∷ w) h = refl

pub piece_more : (w more : List ℕ) → 1 ≤ length more → as_piece (w ++ more) ≡ with_piece true more (as_piece w)
piece_more w more h =
    let long : 1 ≤ length (w ++ more) = omega (arith, length-append w more) in
    some_piece (w ++ more) long ∙ ap (λ v. (v ++ more) ∷ []) (sym (concat_piece w))

-- a send of bytes
pub seen_sent : (bytes : List ℕ) (at : ℕ) → 1 ≤ length bytes → IsSeenOwn (sent_side bytes at) (sent_on true bytes at)
seen_sent bytes at some =
    record {
      grows = grows_sent bytes at;
      own = λ x y. ap (λ v. (let t : Traffic = record { room = x.room - length bytes; last_sent = Some at; written = Some v; read = Some (as_piece (take y.end.taken y.end.written)) } in t)) (piece_more x.end.written bytes some);
      other = λ x y within. ap (λ v. (let t : Traffic = record { room = y.room; last_sent = y.last_sent; written = Some (as_piece y.end.written); read = Some (as_piece v) } in t)) (take-append-le x.end.taken x.end.written bytes within);
    }

-- more room
pub seen_roomy : (bytes : ℕ) → IsSeenOwn (roomy_side bytes) (λ t. record t { room = max t.room bytes })
seen_roomy bytes = record { grows = grows_roomy bytes; own = λ x y. refl; other = λ x y within. refl }

-- a receive of so many bytes, which were under way
pub record IsCame (s count : ℕ) (came : List ℕ) (l : Link) : Type 0 where
  pub some : 1 ≤ length came
  pub is : came ≡ take count (under_way (other_end (pair_of l) s))

take_none : (m : ℕ) → take {A = ℕ} m [] ≡ []
take_none zero = refl
take_none (suc m) = refl

take_more : (n k : ℕ) (w : List ℕ) → take (n + k) w ≡ take n w ++ take k (drop n w)
take_more zero k w = ap (λ v. take v w) (zero_plus k)
  where
    zero_plus : (k : ℕ) → 0 + k ≡ k
    zero_plus k = omega arith
take_more (suc n) k [] = take_none (suc n + k) ∙ sym (take_none k)
take_more (suc n) k (b ∷ w) = rw (suc_plus n k) (ap (λ v. b ∷ v) (take_more n k w))
  where
    suc_plus : (n k : ℕ) → suc n + k ≡ suc (n + k)
    suc_plus n k = omega arith

read_side : (x y : Side) (count : ℕ) (came : List ℕ) → 1 ≤ length came → came ≡ take count (under_way y.end) → traffic_of x (with_end (taken_end count) y) ≡ received_on true came (traffic_of x y)
read_side x y count came some is =
    ap (λ v. (let t : Traffic = record { room = x.room; last_sent = x.last_sent; written = Some (as_piece x.end.written); read = Some v } in t))
    (ap as_piece (take_more y.end.taken count y.end.written ∙ ap (λ v. take y.end.taken y.end.written ++ v) (sym is)) ∙ piece_more (take y.end.taken y.end.written) came some)

read_own_by : (b : Bool) (count s : ℕ) (came : List ℕ) (l : Link) → is_at l.starter.end s ≡ b → 1 ≤ length came → came ≡ take count (under_way (if b then l.acceptor.end else l.starter.end)) →
    traffic_in (if b then record l { acceptor = with_end (taken_end count) l.acceptor } else record l { starter = with_end (taken_end count) l.starter }) s ≡ received_on true came (traffic_in l s)
read_own_by true count s came l e some is = rw e (read_side l.starter l.acceptor count came some is)
read_own_by false count s came l e some is = rw e (read_side l.acceptor l.starter count came some is)

read_other_by : (b : Bool) (count s q : ℕ) (l : Link) → link_has s l ≡ true → link_has q l ≡ true → (s == q) ≡ false → is_at l.starter.end s ≡ b →
    traffic_in (if b then record l { acceptor = with_end (taken_end count) l.acceptor } else record l { starter = with_end (taken_end count) l.starter }) q ≡ traffic_in l q
read_other_by true count s q l own there e at =
    let away : is_at l.starter.end q ≡ false = not_both l.starter.end.socket s q at e in
    rw away refl
read_other_by false count s q l own there e at =
    let acc : is_at l.acceptor.end s ≡ true = other_one (is_at l.starter.end s) (is_at l.acceptor.end s) own at in
    let away : is_at l.acceptor.end q ≡ false = not_both l.acceptor.end.socket s q acc e in
    let here : is_at l.starter.end q ≡ true = first_one (is_at l.starter.end q) (is_at l.acceptor.end q) there away in
    rw here refl

other_end_by : (b : Bool) (l : Link) → (if b then (pair_of l).acceptor else (pair_of l).starter) ≡ (if b then l.acceptor.end else l.starter.end)
other_end_by true l = refl
other_end_by false l = refl

pub seen_read : (s count : ℕ) (came : List ℕ) → IsSeen (IsCame s count came) s (read_link s count) (received_on true came)
seen_read s count came =
    record {
      keeps = read_keeps s count;
      own = λ l p sound own. read_own_by (is_at l.starter.end s) count s came l refl p.some (p.is ∙ ap (λ e. take count (under_way e)) (other_end_by (is_at l.starter.end s) l));
      other = λ l q sound own there e. read_other_by (is_at l.starter.end s) count s q l own there e refl;
    }

-- changes that are not seen
unseen_by : (b : Bool) (f : Link → Link) → KeepsEnds f → ((l : Link) (q : ℕ) → traffic_in (f l) q ≡ traffic_in l q) → (l : Link) (q : ℕ) (links more : List Link) → traffic_at more q ≡ traffic_at links q → traffic_at (if b then f l ∷ links else l ∷ more) q ≡ traffic_at (l ∷ links) q
unseen_by true f keeps same l q links more e = rw (same_has f keeps l q, same l q) refl
unseen_by false f keeps same l q links more e = rw e refl

pub unseen_at : (test : Link → Bool) (f : Link → Link) → KeepsEnds f → ((l : Link) (q : ℕ) → traffic_in (f l) q ≡ traffic_in l q) → (links : List Link) (q : ℕ) → traffic_at (change_first test f links) q ≡ traffic_at links q
unseen_at test f keeps same [] q = refl
unseen_at test f keeps same (l ∷ links) q = unseen_by (test l) f keeps same l q links (change_first test f links) (unseen_at test f keeps same links q)

closed_by : (b : Bool) (l : Link) (q : ℕ) → traffic_in (if b then record l { starter = with_end closed_end l.starter } else record l { acceptor = with_end closed_end l.acceptor }) q ≡ traffic_in l q
closed_by true l q = refl
closed_by false l q = refl

shut_by : (b : Bool) (l : Link) (q : ℕ) → traffic_in (if b then record l { starter = with_end shut_end l.starter } else record l { acceptor = with_end shut_end l.acceptor }) q ≡ traffic_in l q
shut_by true l q = refl
shut_by false l q = refl

pub unseen_closed : (s : ℕ) (links : List Link) → traffic_at (change_first (link_has s) (link_with_own (with_end closed_end) s) links) ≡ traffic_at links
unseen_closed s links = fun_ext (λ q. unseen_at (link_has s) (link_with_own (with_end closed_end) s) (own_keeps (with_end closed_end) grows_closed s) (λ l q. closed_by (is_at l.starter.end s) l q) links q)

pub unseen_shut : (s : ℕ) (links : List Link) → traffic_at (change_first (link_has s) (link_with_own (with_end shut_end) s) links) ≡ traffic_at links
unseen_shut s links = fun_ext (λ q. unseen_at (link_has s) (link_with_own (with_end shut_end) s) (own_keeps (with_end shut_end) grows_shut s) (λ l q. shut_by (is_at l.starter.end s) l q) links q)

-- a connection more, and one that is accepted
last_by : (b : Bool) (c l n q : ℕ) → (n == q) ≡ b → traffic_at (started_link c l n ∷ []) q ≡ no_traffic
last_by true c l n q e = rw e refl
last_by false c l n q e = rw e refl

more_by : (links : List Link) (c l n q : ℕ) → traffic_at (links ++ started_link c l n ∷ []) q ≡ traffic_at links q
more_by [] c l n q = last_by (n == q) c l n q refl
more_by (x ∷ links) c l n q = ap (λ v. if link_has q x then traffic_in x q else v) (more_by links c l n q)

pub unseen_started : (links : List Link) (c l n : ℕ) → traffic_at (links ++ started_link c l n ∷ []) ≡ traffic_at links
unseen_started links c l n = fun_ext (λ q. more_by links c l n q)

absent_by : (a : Bool) (l : Link) (q : ℕ) (links : List Link) → a ≡ false → traffic_at links q ≡ no_traffic → (if a then traffic_in l q else traffic_at links q) ≡ no_traffic
absent_by true l q links e h = (let z : true ≡ false = e in absurd cc)
absent_by false l q links e h = h

pub absent_traffic : (links : List Link) (q : ℕ) → has_link links q ≡ false → traffic_at links q ≡ no_traffic
absent_traffic [] q h = refl
absent_traffic (l ∷ links) q h =
    let parts = either_false (link_has q l) (has_link links q) h in
    absent_by (link_has q l) l q links parts.0 (absent_traffic links q parts.1)

pub unused_at : (links : List Link) (q : ℕ) → has_link links q ≡ false → IsUnused (traffic_at links q)
unused_at links q h = subst IsUnused (sym (absent_traffic links q h)) (record { no_room = refl; never_sent = refl; none_written = refl; none_read = refl })

new_traffic : (x y : Side) → x ≡ new_side x.end.capacity None → y.end.taken ≡ 0 → (n : ℕ) → traffic_of (with_end (given_end n) x) y ≡ no_traffic
new_traffic x y e z n =
    ap (λ (v : Side). traffic_of (with_end (given_end n) v) y) e
    ∙ ap (λ v. (let t : Traffic = record { room = 0; last_sent = None; written = Some []; read = Some (as_piece (take v y.end.written)) } in t)) z

new_by : (a b : Bool) (n q : ℕ) (l : Link) (links : List Link) → IsSound l → has_no_socket l.acceptor.end ≡ true → has_link links n ≡ false → is_at l.starter.end q ≡ a → (n == q) ≡ b → traffic_at (accepted_link n l ∷ links) q ≡ traffic_at (l ∷ links) q
new_by true b n q l links sound none absent at e = rw at refl
new_by false true n q l links sound none absent at e =
    let no : is_at l.acceptor.end q ≡ false = no_end l.acceptor.end.socket q none in
    let same : n ≡ q = eqb-true n q e in
    let gone : has_link links q ≡ false = ap (has_link links) (sym same) ∙ absent in
    rw (at, e, no) (new_traffic l.acceptor l.starter (sound.unmet none).0 (sound.unmet none).1 n ∙ sym (absent_traffic links q gone))
new_by false false n q l links sound none absent at e =
    let no : is_at l.acceptor.end q ≡ false = no_end l.acceptor.end.socket q none in
    rw (at, e, no) refl

accepted_by : (b : Bool) (listener n q : ℕ) (l : Link) (links : List Link) → link_waits listener l ≡ b → IsSound l → has_link links n ≡ false → traffic_at (change_first (link_waits listener) (accepted_link n) links) q ≡ traffic_at links q →
    traffic_at (if b then accepted_link n l ∷ links else l ∷ change_first (link_waits listener) (accepted_link n) links) q ≡ traffic_at (l ∷ links) q
accepted_by true listener n q l links w sound absent ih = new_by (is_at l.starter.end q) (n == q) n q l links sound (waiting listener l w) absent refl refl
accepted_by false listener n q l links w sound absent ih = rw ih refl

accepted_at : (listener n q : ℕ) (links : List Link) → AreSound links → has_link links n ≡ false → traffic_at (change_first (link_waits listener) (accepted_link n) links) q ≡ traffic_at links q
accepted_at listener n q [] sound absent = refl
accepted_at listener n q (l ∷ links) sound absent =
    let parts = either_false (link_has n l) (has_link links n) absent in
    accepted_by (link_waits listener l) listener n q l links refl sound.0 parts.1 (accepted_at listener n q links sound.2 parts.1)

pub unseen_accepted : (listener n : ℕ) (links : List Link) → AreSound links → has_link links n ≡ false → traffic_at (change_first (link_waits listener) (accepted_link n) links) ≡ traffic_at links
unseen_accepted listener n links sound absent = fun_ext (λ q. accepted_at listener n q links sound absent)
