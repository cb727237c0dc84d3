-- One call on sockets in memory: the record shows it, and the state is the one that it makes.
use Rattle.std.proofs.Common.{◌≡◌, ℕ, ◌-◌, ◌≤◌, Bool, true, false, List, [], ◌∷◌, ◌++◌, length, take, refl, ap, sym, ◌∙◌, subst, arith, if◌then◌else◌, length-take}
use Rattle.std.specs.Prelude.{◌==◌, map, max, Some}
use Rattle.std.proofs.lemmas.Bool.{eqb-true, eq-eqb}
use Rattle.std.proofs.lemmas.List.{map-append}
use Rattle.taps_base.specs.Counts.{Rose}
use Rattle.taps_stack.specs.declared.target.Target.{Target}
use Rattle.taps_socket.specs.declared.item.Item.{Item}
use Rattle.taps_socket.specs.declared.item.Item.TheVariants as item
use Rattle.taps_socket.specs.declared.answers.StartAnswer.TheVariants as start
use Rattle.taps_socket.specs.declared.answers.AcceptAnswer.TheVariants as accept
use Rattle.taps_socket.specs.declared.answers.SendAnswer.TheVariants as send
use Rattle.taps_socket.specs.declared.answers.RecvAnswer.TheVariants as recv
use Rattle.taps_socket.specs.Sides.{carries_stream}
use Rattle.taps_socket.specs.Calls.{Call, starts, closes, accepts, sends, shuts, receives, request_of}
use Rattle.taps_socket.specs.Net.{Net, Traffic, with_item, with_faults, with_room, after_call, after_send, after_receive, sent_on, received_on}
use Rattle.taps_socket.specs.Shows.{Shows, IsLawful, is_faulted}
use Rattle.taps_socket.specs.Shown.{shows_call, shows_room}
use Rattle.taps_memory.specs.declared.link.Link.{Link}
use Rattle.taps_memory.specs.Pairs.{Pair, End, is_at, change_first, first_of, has_end, waits_for, accepted_pair, with_own, with_other, closed_end, shut_end, written_end, taken_end, new_pair}
use Rattle.taps_memory.specs.Sides.{Side, with_end, roomy_side, sent_side}
use Rattle.taps_memory.specs.Links.{pair_of, link_has, link_waits, has_link, link_with_own, started_link, accepted_link, roomy_link, sent_link, read_link, traffic_at}
use Rattle.taps_memory.specs.MemoryAnswers.{State}
use Rattle.taps_memory.specs.MemorySteps.{after_call as state_by, answer_to, state_after, Follows, listener_for}
use Rattle.taps_memory.specs.Memory.{Memory, net_of, state_of, after_start, after_accept, after_close, after_shut, after_sent, after_read, after_room, Represents, StaysMemory}
use Rattle.taps_memory.specs.Kept.{AreSound}
use Rattle.taps_memory.proofs.Traffics.{seen, seen_own, seen_sent, seen_roomy, seen_read, IsCame, unseen_closed, unseen_shut, unseen_started, unseen_accepted}

-- one call
pub goes : (a b : Memory) (c : Call) → b.setting ≡ a.setting → net_of b ≡ with_faults (after_call c (net_of a)) b.faults →
    IsLawful c a.trace a.told → a.faults ≤ b.faults → (is_faulted c ≡ true → Rose a.faults b.faults) →
    c ≡ answer_to a.setting (state_of a) (request_of c) → state_of b ≡ state_by a.setting c (state_of a) → StaysMemory a (c ∷ []) b
goes a b c set net lawful faults fault is state =
    record { setting = set; shows = shows_call c (net_of a) (net_of b) net lawful faults fault; represents = λ earlier r. after earlier r }
  where
    after : (earlier : List Call) → Represents a earlier → Represents b (c ∷ earlier)
    after earlier r =
        (let whole : c ≡ answer_to a.setting (state_after a.setting earlier) (request_of c) = is ∙ ap (λ s. answer_to a.setting s (request_of c)) r.state in
        let made : state_of b ≡ state_by a.setting c (state_after a.setting earlier) = state ∙ ap (state_by a.setting c) r.state in
        record {
          follows = subst (λ g. Follows g (c ∷ earlier)) (sym set) (whole, r.follows);
          state = made ∙ ap (λ g. state_by g c (state_after g earlier)) (sym set);
        })

-- one that was not faulted
pub goes_calm : (a b : Memory) (c : Call) → b.setting ≡ a.setting → net_of b ≡ after_call c (net_of a) → (after_call c (net_of a)).faults ≡ a.faults → IsLawful c a.trace a.told → is_faulted c ≡ false →
    c ≡ answer_to a.setting (state_of a) (request_of c) → state_of b ≡ state_by a.setting c (state_of a) → StaysMemory a (c ∷ []) b
goes_calm a b c set net same lawful calm is state =
    let faults : b.faults ≡ a.faults = ap (λ n. n.faults) net ∙ same in
    let own : b.faults ≡ (after_call c (net_of a)).faults = ap (λ n. n.faults) net in
    goes a b c set (net ∙ ap (with_faults (after_call c (net_of a))) (sym own)) lawful (omega arith) (λ h. (let z : false ≡ true = sym calm ∙ h in absurd cc)) is state

-- more room is no call
pub goes_room : (a b : Memory) → b.setting ≡ a.setting → state_of b ≡ state_of a → Shows (net_of a) [] (net_of b) → StaysMemory a [] b
goes_room a b set state shows =
    record {
      setting = set;
      shows = shows;
      represents = λ earlier r. record {
        follows = subst (λ g. Follows g earlier) (sym set) r.follows;
        state = state ∙ (r.state ∙ ap (λ g. state_after g earlier) (sym set));
      };
    }

-- another list of connections in the state, and in the record
with_pairs : (t : List Item) (clock turns : ℕ) (ps qs : List Pair) → ps ≡ qs → (let s : State = record { trace = t; clock = clock; turns = turns; pairs = ps } in s) ≡ record { trace = t; clock = clock; turns = turns; pairs = qs }
with_pairs t clock turns ps qs e = ap (λ v. (let s : State = record { trace = t; clock = clock; turns = turns; pairs = v } in s)) e

seen_net : (m : Memory) (t : List Item) (told spare : ℕ) (f g : ℕ → Traffic) → f ≡ g →
    (let n : Net = record { trace = t; told = told; spare = spare; faults = m.faults; traffic = f; timed = m.timed; last_timed = m.last_timed } in n) ≡
    record { trace = t; told = told; spare = spare; faults = m.faults; traffic = g; timed = m.timed; last_timed = m.last_timed }
seen_net m t told spare f g e = ap (λ v. (let n : Net = record { trace = t; told = told; spare = spare; faults = m.faults; traffic = v; timed = m.timed; last_timed = m.last_timed } in n)) e

-- a change is one of the connections without their rooms
map_by : (b : Bool) (f : Link → Link) (g : Pair → Pair) (l : Link) (rest : List Pair) (links more : List Link) → pair_of (f l) ≡ g (pair_of l) → map pair_of more ≡ rest →
    map pair_of (if b then f l ∷ links else l ∷ more) ≡ (if b then g (pair_of l) ∷ map pair_of links else pair_of l ∷ rest)
map_by true f g l rest links more e h = ap (λ v. v ∷ map pair_of links) e
map_by false f g l rest links more e h = ap (λ v. pair_of l ∷ v) h

map_change : (test : Pair → Bool) (f : Link → Link) (g : Pair → Pair) → ((l : Link) → pair_of (f l) ≡ g (pair_of l)) → (links : List Link) → map pair_of (change_first (λ l. test (pair_of l)) f links) ≡ change_first test g (map pair_of links)
map_change test f g same [] = refl
map_change test f g same (l ∷ links) = map_by (test (pair_of l)) f g l (change_first test g (map pair_of links)) links (change_first (λ l. test (pair_of l)) f links) (same l) (map_change test f g same links)

own_by : (b : Bool) (c : Side → Side) (g : End → End) → ((x : Side) → (c x).end ≡ g x.end) → (l : Link) →
    pair_of (if b then record l { starter = c l.starter } else record l { acceptor = c l.acceptor }) ≡ (if b then record (pair_of l) { starter = g l.starter.end } else record (pair_of l) { acceptor = g l.acceptor.end })
own_by true c g same l = ap (λ v. (let p : Pair = record { listener = l.listener; starter = v; acceptor = l.acceptor.end } in p)) (same l.starter)
own_by false c g same l = ap (λ v. (let p : Pair = record { listener = l.listener; starter = l.starter.end; acceptor = v } in p)) (same l.acceptor)

pub pairs_own : (c : Side → Side) (g : End → End) → ((x : Side) → (c x).end ≡ g x.end) → (s : ℕ) (links : List Link) → map pair_of (change_first (link_has s) (link_with_own c s) links) ≡ change_first (λ p. has_end p s) (with_own g s) (map pair_of links)
pairs_own c g same s links = map_change (λ p. has_end p s) (link_with_own c s) (with_own g s) (λ l. own_by (is_at l.starter.end s) c g same l) links

read_by : (b : Bool) (count : ℕ) (l : Link) → pair_of (if b then record l { acceptor = with_end (taken_end count) l.acceptor } else record l { starter = with_end (taken_end count) l.starter }) ≡
    (if b then record (pair_of l) { acceptor = taken_end count l.acceptor.end } else record (pair_of l) { starter = taken_end count l.starter.end })
read_by true count l = refl
read_by false count l = refl

pub pairs_read : (s count : ℕ) (links : List Link) → map pair_of (change_first (link_has s) (read_link s count) links) ≡ change_first (λ p. has_end p s) (with_other (taken_end count) s) (map pair_of links)
pairs_read s count links = map_change (λ p. has_end p s) (read_link s count) (with_other (taken_end count) s) (λ l. read_by (is_at l.starter.end s) count l) links

pub pairs_accepted : (listener n : ℕ) (links : List Link) → map pair_of (change_first (link_waits listener) (accepted_link n) links) ≡ change_first (λ p. waits_for p listener) (accepted_pair n) (map pair_of links)
pairs_accepted listener n links = map_change (λ p. waits_for p listener) (accepted_link n) (accepted_pair n) (λ l. refl) links

-- what each change makes of the record and of the state
pub closed_net : (m : Memory) (s : ℕ) → net_of (after_close m s) ≡ with_item (net_of m) (item.Closed s) m.told
closed_net m s = seen_net m (item.Closed s ∷ m.trace) m.told (m.spare - 1) _ _ (unseen_closed s m.links)

pub closed_state : (m : Memory) (s : ℕ) → state_of (after_close m s) ≡ state_by m.setting (closes s) (state_of m)
closed_state m s = with_pairs (item.Closed s ∷ m.trace) m.told m.turns _ _ (pairs_own (with_end closed_end) closed_end (λ x. refl) s m.links)

pub shut_net : (m : Memory) (s : ℕ) → net_of (after_shut m s) ≡ with_item (net_of m) (item.Shut s) m.told
shut_net m s = seen_net m (item.Shut s ∷ m.trace) m.told (m.spare - 1) _ _ (unseen_shut s m.links)

pub shut_state : (m : Memory) (s : ℕ) → state_of (after_shut m s) ≡ state_by m.setting (shuts s) (state_of m)
shut_state m s = with_pairs (item.Shut s ∷ m.trace) m.told m.turns _ _ (pairs_own (with_end shut_end) shut_end (λ x. refl) s m.links)

pub started_net : (m : Memory) (leaf : ℕ) (target : Target) (listener s : ℕ) → net_of (after_start m leaf target listener s) ≡ with_item (net_of m) (item.Started leaf target s m.told) m.told
started_net m leaf target listener s = seen_net m (item.Started leaf target s m.told ∷ m.trace) m.told (m.spare - 1) _ _ (unseen_started m.links m.setting.capacity listener s)

pub started_state : (m : Memory) (leaf : ℕ) (target : Target) (listener s : ℕ) → listener ≡ listener_for m.trace target → state_of (after_start m leaf target listener s) ≡ state_by m.setting (starts leaf target (start.Started s m.told)) (state_of m)
started_state m leaf target listener s is =
    with_pairs (item.Started leaf target s m.told ∷ m.trace) m.told m.turns _ _
    (map-append pair_of m.links (started_link m.setting.capacity listener s ∷ []) ∙ ap (λ v. map pair_of m.links ++ new_pair m.setting.capacity v s ∷ []) is)

pub accepted_net : (m : Memory) (listener s : ℕ) → AreSound m.links → has_link m.links s ≡ false → net_of (after_accept m listener s) ≡ with_item (net_of m) (item.Accepted listener s m.told) m.told
accepted_net m listener s sound absent = seen_net m (item.Accepted listener s m.told ∷ m.trace) m.told (m.spare - 1) _ _ (unseen_accepted listener s m.links sound absent)

pub accepted_state : (m : Memory) (listener until s : ℕ) → state_of (after_accept m listener s) ≡ state_by m.setting (accepts listener until (accept.Accepted s m.told)) (state_of m)
accepted_state m listener until s = with_pairs (item.Accepted listener s m.told ∷ m.trace) m.told _ _ _ (pairs_accepted listener s m.links)

-- a send took the first so many bytes
abbrev no_demand : Link → Type 0
no_demand l = Unit {0}

pub sent_net : (m : Memory) (s count until : ℕ) (bytes : List ℕ) → AreSound m.links → has_link m.links s ≡ true → carries_stream m.trace s ≡ true → 1 ≤ count → count ≤ length bytes →
    net_of (after_sent m s (take count bytes)) ≡ after_send s bytes until (send.Sent count m.told) (net_of m)
sent_net m s count until bytes sound there stream some few =
    let long : 1 ≤ length (take count bytes) = omega (arith, length-take count bytes) in
    seen_net m m.trace m.told m.spare _ _
    (seen no_demand s (sent_link s (take count bytes) m.told) (sent_on true (take count bytes) m.told) (seen_own s (sent_side (take count bytes) m.told) (sent_on true (take count bytes) m.told) (seen_sent (take count bytes) m.told long)) m.links (λ k e. tt) sound there
    ∙ ap (λ b. (λ (q : ℕ). if s == q then sent_on b (take count bytes) m.told (traffic_at m.links s) else traffic_at m.links q)) (sym stream))

pub sent_state : (m : Memory) (s count until : ℕ) (bytes : List ℕ) → state_of (after_sent m s (take count bytes)) ≡ state_by m.setting (sends s bytes until (send.Sent count m.told)) (state_of m)
sent_state m s count until bytes = with_pairs m.trace m.told m.turns _ _ (pairs_own (sent_side (take count bytes) m.told) (written_end (take count bytes)) (λ x. refl) s m.links)

-- a receive by which bytes came
pub read_net : (m : Memory) (s count until : ℕ) (came : List ℕ) → AreSound m.links → has_link m.links s ≡ true → carries_stream m.trace s ≡ true → ((k : Link) → first_of (link_has s) m.links ≡ Some k → IsCame s count came k) →
    net_of (after_read m s count) ≡ after_receive s until came (recv.Got count m.told) (net_of m)
read_net m s count until came sound there stream first =
    seen_net m m.trace m.told m.spare _ _
    (seen (IsCame s count came) s (read_link s count) (received_on true came) (seen_read s count came) m.links first sound there
    ∙ ap (λ b. (λ (q : ℕ). if s == q then received_on b came (traffic_at m.links s) else traffic_at m.links q)) (sym stream))

pub read_state : (m : Memory) (s most count until : ℕ) (came : List ℕ) → state_of (after_read m s count) ≡ state_by m.setting (receives s most until came (recv.Got count m.told)) (state_of m)
read_state m s most count until came = with_pairs m.trace m.told m.turns _ _ (pairs_read s count m.links)

-- more room
pub record IsRoomMade (m n : Memory) (s bytes : ℕ) : Type 0 where
  pub net : net_of n ≡ with_room (net_of m) s (traffic_at n.links s).room
  pub room : bytes ≤ (traffic_at n.links s).room
  pub kept : (traffic_at m.links s).room ≤ (traffic_at n.links s).room
  pub stays : StaysMemory m [] n

room_there : (q : Bool) (x there : Traffic) (room : ℕ) → (q ≡ true → there ≡ x) → (let y : Traffic = if q then record there { room = room } else x in y ≡ record x { room = y.room })
room_there true x there room same = rw (same refl) refl
room_there false x there room same = refl

more_there : (q : Bool) (x there : Traffic) (room : ℕ) → (q ≡ true → there ≡ x) → there.room ≤ room → x.room ≤ (let y : Traffic = if q then record there { room = room } else x in y).room
more_there true x there room same more = rw (← same refl) more
more_there false x there room same more = omega arith

roomy : (a b : Net) (socket room : ℕ) → b ≡ with_room a socket room → (a.traffic socket).room ≤ room → Shows a [] b
roomy a b socket room e more =
    subst (λ n. Shows a [] n) (sym e) (shows_room a (with_room a socket room) refl (omega arith)
    (λ s. room_there (socket == s) (a.traffic s) (a.traffic socket) room (λ h. ap a.traffic (eqb-true socket s h)))
    (λ s. more_there (socket == s) (a.traffic s) (a.traffic socket) room (λ h. ap a.traffic (eqb-true socket s h)) more))

pub room_made : (m : Memory) (s bytes : ℕ) → AreSound m.links → has_link m.links s ≡ true → IsRoomMade m (after_room m s bytes) s bytes
room_made m s bytes sound there =
    let g = λ (t : Traffic). (let y : Traffic = record t { room = max t.room bytes } in y) in
    let f = seen no_demand s (roomy_link s bytes) g (seen_own s (roomy_side bytes) g (seen_roomy bytes)) m.links (λ k e. tt) sound there in
    let now : traffic_at (after_room m s bytes).links s ≡ g (traffic_at m.links s) = ap (λ v. v s) f ∙ (rw (eq-eqb s s refl) refl) in
    let size : (traffic_at (after_room m s bytes).links s).room ≡ max (traffic_at m.links s).room bytes = ap (λ t. t.room) now in
    let net : net_of (after_room m s bytes) ≡ with_room (net_of m) s (traffic_at (after_room m s bytes).links s).room = seen_net m m.trace m.told m.spare _ _ f ∙ ap (with_room (net_of m) s) (sym size) in
    let kept : (traffic_at m.links s).room ≤ (traffic_at (after_room m s bytes).links s).room = omega arith in
    record {
      net = net;
      room = omega arith;
      kept = kept;
      stays = goes_room m (after_room m s bytes) refl (with_pairs m.trace m.told m.turns _ _ (pairs_own (roomy_side bytes) (λ e. e) (λ x. refl) s m.links ∙ own_same (λ p. has_end p s) s (map pair_of m.links))) (roomy (net_of m) (net_of (after_room m s bytes)) s _ net kept);
    }
  where
    same_by : (b : Bool) (p : Pair) → (if b then record p { starter = p.starter } else record p { acceptor = p.acceptor }) ≡ p
    same_by true p = refl
    same_by false p = refl

    first_same : (b : Bool) (s : ℕ) (p : Pair) (ps more : List Pair) → more ≡ ps → (if b then with_own (λ e. e) s p ∷ ps else p ∷ more) ≡ p ∷ ps
    first_same true s p ps more e = ap (λ v. v ∷ ps) (same_by (is_at p.starter s) p)
    first_same false s p ps more e = ap (λ v. p ∷ v) e

    own_same : (test : Pair → Bool) (s : ℕ) (ps : List Pair) → change_first test (with_own (λ e. e) s) ps ≡ ps
    own_same test s [] = refl
    own_same test s (p ∷ ps) = first_same (test p) s p ps (change_first test (with_own (λ e. e) s) ps) (own_same test s ps)
