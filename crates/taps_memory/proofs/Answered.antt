-- What the calls on sockets in memory come to.
use Rattle.std.proofs.Common.{◌≡◌, ℕ, zero, suc, ◌≤◌, ◌<◌, Bool, true, false, ◌||◌, List, [], ◌∷◌, ◌++◌, length, take, drop, refl, ap, sym, ◌∙◌, subst, arith, if◌then◌else◌, length-take}
use Rattle.std.specs.Prelude.{◌==◌, Option, None, Some, IfSome, Result, Ok, Err, OnOk, OnErr, min, max}
use Rattle.std.proofs.Math.Path.{fun_ext}
use Rattle.std.proofs.lemmas.Bool.{eqb-true}
use Rattle.std.proofs.lemmas.List.{take-append-le}
use Rattle.taps_base.specs.declared.no_memory.NoMemory.{NoMemory}
use Rattle.taps_socket.specs.declared.cause.Cause.TheVariants as cause
use Rattle.taps_socket.specs.declared.answers.AcceptAnswer.{AcceptAnswer}
use Rattle.taps_socket.specs.declared.answers.SendAnswer.TheVariants as send
use Rattle.taps_socket.specs.declared.answers.RecvAnswer.TheVariants as recv
use Rattle.taps_socket.specs.Calls.{receives}
use Rattle.taps_socket.specs.Net.{Net, Traffic, with_room}
use Rattle.taps_memory.specs.declared.link.Link.{Link}
use Rattle.taps_memory.specs.Pairs.{Pair, is_at, first_of, waits_for, other_end, own_end, under_way, free_at}
use Rattle.taps_memory.specs.Links.{pair_of, link_has, has_link, own_side, traffic_in, traffic_at}
use Rattle.taps_memory.specs.MemoryAnswers.{State, Setting, is_to_fault, accept_by, accept_answer, send_by, send_in, receive_by, receive_answer, Receipt}
use Rattle.taps_memory.specs.MemorySteps.{received_call}
use Rattle.taps_memory.specs.Memory.{Memory, net_of, state_of, after_room, StaysMemory}
use Rattle.taps_memory.specs.Goings.{goes_none}
use Rattle.taps_memory.specs.Kept.{AreSound}
use Rattle.taps_memory.proofs.FirstOnes.{none_of}
use Rattle.taps_memory.proofs.Founds.{receive_found}
use Rattle.taps_memory.proofs.Traffics.{IsCame}
use Rattle.taps_memory.proofs.Unused.{if_some}
use Rattle.taps_memory.proofs.Going.{room_made}

-- an accept that is not to fault
pub accept_is : (g : Setting) (s : State) (listener until : ℕ) (x : AcceptAnswer) → is_to_fault g.plan s.turns ≡ false → accept_by (first_of (λ p. waits_for p listener) s.pairs) s.trace s.clock until ≡ x → accept_answer g s listener until ≡ x
accept_is g s listener until x calm e = rw calm e

-- the room of a socket is that of its side
room_side : (b : Bool) (l : Link) (s n : ℕ) → is_at l.starter.end s ≡ b → n ≤ (traffic_in l s).room → n ≤ (own_side l s).room
room_side true l s n e h = rw e (rw e at h)
room_side false l s n e h = rw e (rw e at h)

room_by : (b : Bool) (l : Link) (links : List Link) (s n : ℕ) → (n ≤ (traffic_at links s).room → IfSome (first_of (link_has s) links) (λ l. n ≤ (own_side l s).room)) →
    n ≤ (if b then traffic_in l s else traffic_at links s).room → IfSome (if b then Some l else first_of (link_has s) links) (λ l. n ≤ (own_side l s).room)
room_by true l links s n ih h = room_side (is_at l.starter.end s) l s n refl h
room_by false l links s n ih h = ih h

pub first_room : (links : List Link) (s n : ℕ) → n ≤ (traffic_at links s).room → IfSome (first_of (link_has s) links) (λ l. n ≤ (own_side l s).room)
first_room [] s n h = tt
first_room (l ∷ links) s n h = room_by (link_has s l) l links s n (first_room links s n) h

-- the time of a send
sent_free : (b : Bool) (n free clock until count at : ℕ) → (if b then send.Timed (max clock until) else send.Sent (min n free) clock) ≡ send.Sent count at → at ≡ clock
sent_free true n free clock until count at e = (let z : send.Timed (max clock until) ≡ send.Sent count at = e in absurd cc)
sent_free false n free clock until count at e = cc

sent_open : (b : Bool) (n free clock until count at : ℕ) → send_by b free n clock until ≡ send.Sent count at → at ≡ clock
sent_open true n free clock until count at e = (let z : send.Failed cause.Reset ≡ send.Sent count at = e in absurd cc)
sent_open false n free clock until count at e = sent_free (free == 0) n free clock until count at e

pub sent_time : (o : Option Pair) (s n clock until count at : ℕ) → send_in o s n clock until ≡ send.Sent count at → at ≡ clock
sent_time None s n clock until count at e = (let z : send.Failed cause.Other ≡ send.Sent count at = e in absurd cc)
sent_time (Some p) s n clock until count at e = sent_open (other_end p s).closed n (free_at (own_end p s)) clock until count at e

-- the connection of a socket
first_by : (o : Option Link) (links : List Link) (s : ℕ) → first_of (link_has s) links ≡ o → has_link links s ≡ true → (l : Link) × (first_of (link_has s) links ≡ Some l)
first_by None links s e h = (let z : true ≡ false = sym h ∙ none_of (link_has s) links e in absurd cc)
first_by (Some l) links s e h = (l, e)

pub first_there : (links : List Link) (s : ℕ) → has_link links s ≡ true → (l : Link) × (first_of (link_has s) links ≡ Some l)
first_there links s h = first_by (first_of (link_has s) links) links s refl h

-- a receive that finds bytes
pub receive_some : (w : List ℕ) (over : Bool) (clock until : ℕ) → 1 ≤ length w → receive_by w over clock until ≡ record { came = w; answer = recv.Got (length w) clock }
receive_some [] over clock until h = absurd (omega arith)
receive_some (b ∷ w) over clock until h = refl

empty_of : (w : List ℕ) → length w ≡ 0 → w ≡ []
empty_of [] h = refl
empty_of (b ∷ w) h = absurd (omega arith)

take_empty : (n : ℕ) (w : List ℕ) → length w ≡ 0 → take n w ≡ []
take_empty n w h = empty_of (take n w) (let l = length-take n w in omega arith)

take_all : (n : ℕ) (w : List ℕ) → length w ≤ n → take n w ≡ w
take_all zero [] h = refl
take_all zero (b ∷ w) h = absurd (omega arith)
take_all (suc n) [] h = refl
take_all (suc n) (b ∷ w) h = ap (λ v. b ∷ v) (take_all n w (omega arith))

take_any : (m : ℕ) → take {A = ℕ} m [] ≡ []
take_any zero = refl
take_any (suc m) = refl

take_min : (n : ℕ) (w : List ℕ) → take (min n (length w)) w ≡ take n w
take_min zero w = ap (λ k. take k w) (let e : min 0 (length w) ≡ 0 = omega arith in e)
take_min (suc n) [] = take_any (min (suc n) (length {A = ℕ} [])) ∙ sym (take_any (suc n))
take_min (suc n) (b ∷ w) = ap (λ k. take k (b ∷ w)) (let e : min (suc n) (suc (length w)) ≡ suc (min n (length w)) = omega arith in e) ∙ ap (λ v. b ∷ v) (take_min n w)

take_front : (n : ℕ) (w rest : List ℕ) → n ≤ length w → take n (take n w ++ rest) ≡ take n w
take_front n w rest h =
    let l = length-take n w in
    let few : n ≤ length (take n w) = omega arith in
    take-append-le n (take n w) rest few ∙ take_all n (take n w) (omega arith)

-- what was put into the buffer by a receive, of bytes that are under way
pub record IsPut (m : Memory) (s count : ℕ) (out out' : List ℕ) : Type 0 where
  pub link : Link
  pub first : first_of (link_has s) m.links ≡ Some link
  pub count_is : count ≡ min (length out) (length (under_way (other_end (pair_of link) s)))
  pub some : 1 ≤ count
  pub came : take count out' ≡ take (length out) (under_way (other_end (pair_of link) s))
  pub size : length (take count out') ≡ count

pub put : (m : Memory) (s count held : ℕ) (out out' : List ℕ) → has_link m.links s ≡ true → 1 ≤ length out → 0 < held →
    IfSome (first_of (link_has s) m.links) (λ l. held ≡ length (under_way (other_end (pair_of l) s))) →
    IfSome (first_of (link_has s) m.links) (λ l. count ≡ min (length out) (length (under_way (other_end (pair_of l) s)))) →
    IfSome (first_of (link_has s) m.links) (λ l. out' ≡ take count (under_way (other_end (pair_of l) s)) ++ drop count out) → IsPut m s count out out'
put m s count held out out' there room some holds counts puts =
    let (l, e) = first_there m.links s there in
    let w : List ℕ = under_way (other_end (pair_of l) s) in
    let h : held ≡ length w = if_some (first_of (link_has s) m.links) l (λ l. held ≡ length (under_way (other_end (pair_of l) s))) e holds in
    let n : count ≡ min (length out) (length w) = if_some (first_of (link_has s) m.links) l (λ l. count ≡ min (length out) (length (under_way (other_end (pair_of l) s)))) e counts in
    let o : out' ≡ take count w ++ drop count out = if_some (first_of (link_has s) m.links) l (λ l. out' ≡ take count (under_way (other_end (pair_of l) s)) ++ drop count out) e puts in
    let front : take count out' ≡ take count w = ap (take count) o ∙ take_front count w (drop count out) (omega arith) in
    let len : length (take count w) ≡ count = (let z = length-take count w in omega arith) in
    record {
      link = l;
      first = e;
      count_is = n;
      some = omega arith;
      came = front ∙ (ap (λ k. take k w) n ∙ take_min (length out) w);
      size = ap length front ∙ len;
    }

pub came_of : (m : Memory) (s count : ℕ) (out out' : List ℕ) → IsPut m s count out out' → (k : Link) → first_of (link_has s) m.links ≡ Some k → IsCame s count (take count out') k
came_of m s count out out' p k e =
    let same : p.link ≡ k = (let z : Some p.link ≡ Some k = sym p.first ∙ e in cc) in
    let some = p.some in
    let size = p.size in
    subst (λ l. IsCame s count (take count out') l) same (record {
      some = omega arith;
      is = p.came ∙ (sym (take_min (length out) (under_way (other_end (pair_of p.link) s))) ∙ ap (λ k. take k (under_way (other_end (pair_of p.link) s))) (sym p.count_is));
    })

pub receive_is : (m : Memory) (s count until : ℕ) (out out' : List ℕ) → IsPut m s count out out' →
    receives s (length out) until (take count out') (recv.Got count m.told) ≡ received_call s (length out) until (receive_answer (state_of m) s (length out) until)
receive_is m s count until out out' p =
    let w : List ℕ = take (length out) (under_way (other_end (pair_of p.link) s)) in
    let over : Bool = (other_end (pair_of p.link) s).shut || (other_end (pair_of p.link) s).closed in
    let size : length w ≡ count = ap length (sym p.came) ∙ p.size in
    let some = p.some in
    let receipt : receive_answer (state_of m) s (length out) until ≡ record { came = w; answer = recv.Got (length w) m.told } = receive_found m p.link s (length out) until p.first ∙ receive_some w over m.told until (omega arith) in
    ap (λ v. receives s (length out) until v (recv.Got count m.told)) p.came
    ∙ (ap (λ n. receives s (length out) until w (recv.Got n m.told)) (sym size)
    ∙ sym (ap (received_call s (length out) until) receipt))

-- a receive that finds none
pub receive_none : (m : Memory) (s most held until : ℕ) (over : Bool) → has_link m.links s ≡ true → held ≡ 0 →
    IfSome (first_of (link_has s) m.links) (λ l. held ≡ length (under_way (other_end (pair_of l) s))) →
    IfSome (first_of (link_has s) m.links) (λ l. over ≡ ((other_end (pair_of l) s).shut || (other_end (pair_of l) s).closed)) →
    receive_answer (state_of m) s most until ≡ record { came = []; answer = if over then recv.End else recv.Timed (max m.told until) }
receive_none m s most held until over there none holds overs =
    let (l, e) = first_there m.links s there in
    let w : List ℕ = under_way (other_end (pair_of l) s) in
    let h : held ≡ length w = if_some (first_of (link_has s) m.links) l (λ l. held ≡ length (under_way (other_end (pair_of l) s))) e holds in
    let o : over ≡ ((other_end (pair_of l) s).shut || (other_end (pair_of l) s).closed) = if_some (first_of (link_has s) m.links) l (λ l. over ≡ ((other_end (pair_of l) s).shut || (other_end (pair_of l) s).closed)) e overs in
    receive_found m l s most until e
    ∙ (ap (λ v. receive_by v ((other_end (pair_of l) s).shut || (other_end (pair_of l) s).closed) m.told until) (take_empty most w (omega arith))
    ∙ ap (λ b. (let r : Receipt = record { came = []; answer = if b then recv.End else recv.Timed (max m.told until) } in r)) (sym o))

-- more room, or not
pub record IsMade (m n : Memory) (s bytes : ℕ) (r : Result (Unit {0}) NoMemory) : Type 0 where
  pub net : net_of n ≡ with_room (net_of m) s (traffic_at n.links s).room
  pub room : OnOk r (bytes ≤ (traffic_at n.links s).room)
  pub kept : (traffic_at m.links s).room ≤ (traffic_at n.links s).room
  pub stays : StaysMemory m [] n

own_room : (b : Bool) (f : ℕ → Traffic) (s q : ℕ) → (s == q) ≡ b → f q ≡ (if b then record (f s) { room = (f s).room } else f q)
own_room true f s q e = ap f (sym (eqb-true s q e))
own_room false f s q e = refl

same_net : (m : Memory) (s : ℕ) → net_of m ≡ with_room (net_of m) s (traffic_at m.links s).room
same_net m s = ap (λ f. (let n : Net = record { trace = m.trace; told = m.told; spare = m.spare; faults = m.faults; traffic = f; timed = m.timed; last_timed = m.last_timed } in n)) (fun_ext (λ q. own_room (s == q) (traffic_at m.links) s q refl))

pub made : (m n : Memory) (s bytes : ℕ) (r : Result (Unit {0}) NoMemory) → OnOk r (n ≡ after_room m s bytes) → OnErr r (n ≡ m) → AreSound m.links → has_link m.links s ≡ true → IsMade m n s bytes r
made m n s bytes (Ok u) ok err sound there =
    let h = room_made m s bytes sound there in
    subst (λ v. IsMade m v s bytes (Ok u)) (sym ok) (record { net = h.net; room = h.room; kept = h.kept; stays = h.stays })
made m n s bytes (Err e) ok err sound there =
    subst (λ v. IsMade m v s bytes (Err e)) (sym err) (record { net = same_net m s; room = tt; kept = omega arith; stays = goes_none m })
