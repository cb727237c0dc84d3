-- A record shows no calls; one call that changed it so; and what two lists of calls show, one after the other, is what
-- the whole list shows.
use Rattle.std.proofs.Common.{◌≡◌, ℕ, ◌+◌, ◌≤◌, Bool, true, false, ◌||◌, List, [], ◌∷◌, ◌++◌, length, refl, sym, ap, ◌∙◌, subst, append_assoc, length-append, arith, if◌then◌else◌}
use Rattle.std.specs.Prelude.{◌==◌, take, Option, Some, None}
use Rattle.std.proofs.lemmas.Bool.{eqb-true}
use Rattle.std.proofs.lemmas.List.{length-take}
use Rattle.taps_base.specs.Counts.{Rose}
use Rattle.taps_socket.specs.declared.item.Item.{Item}
use Rattle.taps_socket.specs.declared.timed_call.TimedCall.{TimedCall}
use Rattle.taps_socket.specs.declared.answers.AcceptAnswer.TheVariants as accept
use Rattle.taps_socket.specs.declared.answers.SendAnswer.TheVariants as send
use Rattle.taps_socket.specs.declared.answers.RecvAnswer.TheVariants as recv
use Rattle.taps_socket.specs.Sides.{carries_stream}
use Rattle.taps_socket.specs.Calls.{Call, begins, starts, waits, closes, listens, accepts, sends, shuts, receives, items_by, items_of}
use Rattle.taps_socket.specs.Net.{Net, Traffic, after_call, with_spare, with_faults, sent_on, received_on}
use Rattle.taps_socket.specs.Shows.{Shows, IsLawful, AreLawful, told_by, told_after, timed_by, count_with, timed_after, last_with, last_timed_after, last_sent_by, last_sent_after, written_by, read_by, grown, written_after, read_after, taken_on, is_faulted, some_faulted}

-- no calls
pub shows_none : (a : Net) → Shows a [] a
shows_none a =
    record {
      lawful = tt;
      trace = refl;
      told = refl;
      timed = refl;
      last_timed = refl;
      last_sent = λ s. refl;
      written = λ s. refl;
      read = λ s. refl;
      rooms = λ s. omega arith;
      spare = omega arith;
      faults = omega arith;
      fault = λ h. (let z : false ≡ true = h in cc);
    }

-- the items of both
pub items_on : (g h : List Call) → items_of (h ++ g) ≡ items_of h ++ items_of g
items_on g [] = refl
items_on g (c ∷ h) =
    ap (λ v. items_by c ++ v) (items_on g h) ∙ sym (append_assoc (items_by c) (items_of h) (items_of g))

items_behind : (g h : List Call) (t u : List Item) → u ≡ items_of g ++ t → items_of (h ++ g) ++ t ≡ items_of h ++ u
items_behind g h t u e =
    ap (λ v. v ++ t) (items_on g h) ∙ (append_assoc (items_of h) (items_of g) t ∙ ap (λ v. items_of h ++ v) (sym e))

told_on : (g h : List Call) (a b : ℕ) → b ≡ told_after g a → told_after (h ++ g) a ≡ told_after h b
told_on g [] a b e = sym e
told_on g (c ∷ h) a b e = ap (told_by c) (told_on g h a b e)

timed_on : (g h : List Call) (n : ℕ) → timed_after (h ++ g) n ≡ timed_after h (timed_after g n)
timed_on g [] n = refl
timed_on g (c ∷ h) n = ap (count_with (timed_by c)) (timed_on g h n)

last_timed_on : (g h : List Call) (n : Option TimedCall)
    → last_timed_after (h ++ g) n ≡ last_timed_after h (last_timed_after g n)
last_timed_on g [] n = refl
last_timed_on g (c ∷ h) n = ap (last_with (timed_by c)) (last_timed_on g h n)

last_sent_on : (g h : List Call) (s : ℕ) (n : Option ℕ)
    → last_sent_after (h ++ g) s n ≡ last_sent_after h s (last_sent_after g s n)
last_sent_on g [] s n = refl
last_sent_on g (c ∷ h) s n = ap (last_sent_by c s) (last_sent_on g h s n)

written_on : (g h : List Call) (t u : List Item) (s : ℕ) (ps : Option (List (List ℕ)))
    → u ≡ items_of g ++ t → written_after t (h ++ g) s ps ≡ written_after u h s (written_after t g s ps)
written_on g [] t u s ps e = refl
written_on g (c ∷ h) t u s ps e =
    ap (λ v. grown (carries_stream v s) (written_by c s) (written_after t (h ++ g) s ps)) (items_behind g h t u e)
    ∙ ap (grown (carries_stream (items_of h ++ u) s) (written_by c s)) (written_on g h t u s ps e)

read_on : (g h : List Call) (t u : List Item) (s : ℕ) (ps : Option (List (List ℕ)))
    → u ≡ items_of g ++ t → read_after t (h ++ g) s ps ≡ read_after u h s (read_after t g s ps)
read_on g [] t u s ps e = refl
read_on g (c ∷ h) t u s ps e =
    ap (λ v. grown (carries_stream v s) (read_by c s) (read_after t (h ++ g) s ps)) (items_behind g h t u e)
    ∙ ap (grown (carries_stream (items_of h ++ u) s) (read_by c s)) (read_on g h t u s ps e)

taken_both : (g h : List Call) (s : ℕ) → taken_on (h ++ g) s ≡ taken_on g s + taken_on h s
taken_both g [] s = omega arith
taken_both g (c ∷ h) s = let more = taken_both g h s in omega arith

-- both are lawful
lawful_on : (g h : List Call) (t u : List Item) (a b : ℕ) → u ≡ items_of g ++ t
    → b ≡ told_after g a → AreLawful t a g → AreLawful u b h → AreLawful t a (h ++ g)
lawful_on g [] t u a b e f p q = p
lawful_on g (c ∷ h) t u a b e f p q = (
  subst (λ v. IsLawful c v (told_after (h ++ g) a)) (sym (items_behind g h t u e))
      (subst (IsLawful c (items_of h ++ u)) (sym (told_on g h a b f)) q.0),
  lawful_on g h t u a b e f p q.1,
)

-- one of both was faulted
fault_by : (b r r' : Bool) (x y z : ℕ) → y ≤ z → x ≤ y → ((b || r) ≡ true → Rose y z)
    → ((r ≡ true → Rose y z) → r' ≡ true → Rose x z) → (b || r') ≡ true → Rose x z
fault_by true r r' x y z m l q more e = let rose = q refl in omega arith
fault_by false r r' x y z m l q more e = more q e

fault_in : (g h : List Call) (x y z : ℕ) → x ≤ y → y ≤ z → (some_faulted g ≡ true → Rose x y)
    → (some_faulted h ≡ true → Rose y z) → some_faulted (h ++ g) ≡ true → Rose x z
fault_in g [] x y z l m p q e = let rose = p e in omega arith
fault_in g (c ∷ h) x y z l m p q e =
    fault_by (is_faulted c) (some_faulted h) (some_faulted (h ++ g)) x y z m l q (λ q. fault_in g h x y z l m p q) e

-- calls, and then others
pub shows_on : (a b c : Net) (g h : List Call) → Shows a g b → Shows b h c → Shows a (h ++ g) c
shows_on a b c g h p q =
    let x = p.spare in
    let y = q.spare in
    let m = p.faults in
    let n = q.faults in
    let len : length (items_of (h ++ g)) ≡ length (items_of h) + length (items_of g) =
    ap length (items_on g h) ∙ length-append (items_of h) (items_of g) in
    record {
      lawful = lawful_on g h a.trace b.trace a.told b.told p.trace p.told p.lawful q.lawful;
      trace = q.trace ∙ sym (items_behind g h a.trace b.trace p.trace);
      told = q.told ∙ sym (told_on g h a.told b.told p.told);
      timed = q.timed ∙ (ap (timed_after h) p.timed ∙ sym (timed_on g h a.timed));
      last_timed = q.last_timed ∙ (ap (last_timed_after h) p.last_timed ∙ sym (last_timed_on g h a.last_timed));
      last_sent = λ s. q.last_sent s ∙
          (ap (last_sent_after h s) (p.last_sent s) ∙ sym (last_sent_on g h s (a.traffic s).last_sent));
      written = λ s. q.written s ∙ (ap (written_after b.trace h s) (p.written s) ∙ sym
          (written_on g h a.trace b.trace s (a.traffic s).written p.trace));
      read = λ s. q.read s ∙ (ap (read_after b.trace h s) (p.read s) ∙ sym
          (read_on g h a.trace b.trace s (a.traffic s).read p.trace));
      rooms = λ s. (let r = p.rooms s in let t = q.rooms s in let both = taken_both g h s in omega arith);
      spare = omega arith;
      faults = omega arith;
      fault = fault_in g h a.faults b.faults c.faults p.faults q.faults p.fault q.fault;
    }

-- no call takes room
pub spare_none : (x : ℕ) → x ≤ x + 0
spare_none x = omega arith

-- the items of two lists of calls take their room
pub spare_on : (g h : List Call) (x y z : ℕ) → x ≤ y + length (items_of g)
    → y ≤ z + length (items_of h) → x ≤ z + length (items_of (h ++ g))
spare_on g h x y z l m =
    let len : length (items_of (h ++ g)) ≡ length (items_of h) + length (items_of g) =
    ap length (items_on g h) ∙ length-append (items_of h) (items_of g) in
    omega arith

-- what one call makes of each part of the record
trace_by : (c : Call) (n : Net) → (after_call c n).trace ≡ items_of (c ∷ []) ++ n.trace
trace_by (begins at) n = refl
trace_by (starts leaf target answer) n = refl
trace_by (waits until answer) n = refl
trace_by (closes socket) n = refl
trace_by (listens target answer) n = refl
trace_by (accepts listener until (accept.Accepted socket at)) n = refl
trace_by (accepts listener until (accept.Timed at)) n = refl
trace_by (accepts listener until (accept.Faulted at)) n = refl
trace_by (sends socket bytes until (send.Sent count at)) n = refl
trace_by (sends socket bytes until (send.Timed at)) n = refl
trace_by (sends socket bytes until (send.Failed cause)) n = refl
trace_by (shuts socket) n = refl
trace_by (receives socket most until came (recv.Got count at)) n = refl
trace_by (receives socket most until came recv.End) n = refl
trace_by (receives socket most until came (recv.Timed at)) n = refl
trace_by (receives socket most until came (recv.Failed cause)) n = refl

-- the parts that do not take the socket
pub record AreShown (c : Call) (n m : Net) : Type 0 where
  pub told : m.told ≡ told_after (c ∷ []) n.told
  pub timed : m.timed ≡ timed_after (c ∷ []) n.timed
  pub last_timed : m.last_timed ≡ last_timed_after (c ∷ []) n.last_timed
  pub spare : n.spare ≤ m.spare + length (items_of (c ∷ []))

shown_by : (c : Call) (n : Net) → AreShown c n (after_call c n)
shown_by (begins at) n = record { told = refl; timed = refl; last_timed = refl; spare = omega arith }
shown_by (starts leaf target answer) n = record { told = refl; timed = refl; last_timed = refl; spare = omega arith }
shown_by (waits until answer) n = record { told = refl; timed = refl; last_timed = refl; spare = omega arith }
shown_by (closes socket) n = record { told = refl; timed = refl; last_timed = refl; spare = omega arith }
shown_by (listens target answer) n = record { told = refl; timed = refl; last_timed = refl; spare = omega arith }
shown_by (accepts listener until (accept.Accepted socket at)) n =
    record { told = refl; timed = refl; last_timed = refl; spare = omega arith }
shown_by (accepts listener until (accept.Timed at)) n =
    record { told = refl; timed = refl; last_timed = refl; spare = omega arith }
shown_by (accepts listener until (accept.Faulted at)) n =
    record { told = refl; timed = refl; last_timed = refl; spare = omega arith }
shown_by (sends socket bytes until (send.Sent count at)) n =
    record { told = refl; timed = refl; last_timed = refl; spare = omega arith }
shown_by (sends socket bytes until (send.Timed at)) n =
    record { told = refl; timed = refl; last_timed = refl; spare = omega arith }
shown_by (sends socket bytes until (send.Failed cause)) n =
    record { told = refl; timed = refl; last_timed = refl; spare = omega arith }
shown_by (shuts socket) n = record { told = refl; timed = refl; last_timed = refl; spare = omega arith }
shown_by (receives socket most until came (recv.Got count at)) n =
    record { told = refl; timed = refl; last_timed = refl; spare = omega arith }
shown_by (receives socket most until came recv.End) n =
    record { told = refl; timed = refl; last_timed = refl; spare = omega arith }
shown_by (receives socket most until came (recv.Timed at)) n =
    record { told = refl; timed = refl; last_timed = refl; spare = omega arith }
shown_by (receives socket most until came (recv.Failed cause)) n =
    record { told = refl; timed = refl; last_timed = refl; spare = omega arith }

-- the traffic of each socket
record IsShownOn (c : Call) (t : List Item) (s : ℕ) (x y : Traffic) : Type 0 where
  pub last_sent : y.last_sent ≡ last_sent_after (c ∷ []) s x.last_sent
  pub written : y.written ≡ written_after t (c ∷ []) s x.written
  pub read : y.read ≡ read_after t (c ∷ []) s x.read
  pub rooms : x.room ≤ y.room + taken_on (c ∷ []) s

same : (c : Call) (t : List Item) (s : ℕ) (x : Traffic) → last_sent_by c s x.last_sent ≡ x.last_sent
    → written_by c s ≡ None → read_by c s ≡ None → IsShownOn c t s x x
same c t s x l w r =
    record {
      last_sent = sym l;
      written = ap (λ v. grown (carries_stream t s) v x.written) (sym w);
      read = ap (λ v. grown (carries_stream t s) v x.read) (sym r);
      rooms = omega arith;
    }

unchanged : {A : Type 0} (q : Bool) (x : A) → (if q then x else x) ≡ x
unchanged true x = refl
unchanged false x = refl

-- a send that took some bytes, on this socket or on another
record IsSentOn (q stream : Bool) (bytes : List ℕ) (count at : ℕ) (x y : Traffic) : Type 0 where
  pub last_sent : y.last_sent ≡ (if q then Some at else x.last_sent)
  pub written : y.written ≡ grown stream (if q then Some (take count bytes) else None) x.written
  pub read : y.read ≡ x.read
  pub rooms : x.room ≤ y.room + (0 + (if q then count else 0))

sent_there : (q b stream : Bool) (bytes : List ℕ) (count at : ℕ) (x there : Traffic)
    → (q ≡ true → (b ≡ stream) × (there ≡ x))
    → IsSentOn q stream bytes count at x (if q then sent_on b (take count bytes) at there else x)
sent_there true b stream bytes count at x there same =
    let few = length-take count bytes in
    let (e, f) = same refl in
    rw (e, f) (record { last_sent = refl; written = refl; read = refl; rooms = omega arith })
sent_there false b stream bytes count at x there same =
    record { last_sent = refl; written = refl; read = refl; rooms = omega arith }

same_socket : (t : List Item) (f : ℕ → Traffic) (socket s : ℕ) → (socket == s) ≡ true
    → (carries_stream t socket ≡ carries_stream t s) × (f socket ≡ f s)
same_socket t f socket s e = let x = eqb-true socket s e in (ap (carries_stream t) x, ap f x)

sent_shown : (t : List Item) (f : ℕ → Traffic) (socket s until count at : ℕ) (bytes : List ℕ)
    → IsShownOn (sends socket bytes until (send.Sent count at)) t s (f s)
    (if socket == s then sent_on (carries_stream t socket) (take count bytes) at (f socket) else f s)
sent_shown t f socket s until count at bytes =
    let h = sent_there (socket == s) (carries_stream t socket)
    (carries_stream t s) bytes count at (f s) (f socket) (same_socket t f socket s) in
    record { last_sent = h.last_sent; written = h.written; read = h.read; rooms = h.rooms }

-- a receive by which some bytes came
record IsReceivedOn (q stream : Bool) (came : List ℕ) (x y : Traffic) : Type 0 where
  pub last_sent : y.last_sent ≡ x.last_sent
  pub written : y.written ≡ x.written
  pub read : y.read ≡ grown stream (if q then Some came else None) x.read
  pub rooms : x.room ≤ y.room + 0

received_there : (q b stream : Bool) (came : List ℕ) (x there : Traffic) → (q ≡ true → (b ≡ stream) × (there ≡ x))
    → IsReceivedOn q stream came x (if q then received_on b came there else x)
received_there true b stream came x there same =
    let (e, f) = same refl in
    rw (e, f) (record { last_sent = refl; written = refl; read = refl; rooms = omega arith })
received_there false b stream came x there same =
    record { last_sent = refl; written = refl; read = refl; rooms = omega arith }

received_shown : (t : List Item) (f : ℕ → Traffic) (socket s most until count at : ℕ) (came : List ℕ)
    → IsShownOn (receives socket most until came (recv.Got count at)) t s (f s)
    (if socket == s then received_on (carries_stream t socket) came (f socket) else f s)
received_shown t f socket s most until count at came =
    let h = received_there (socket == s) (carries_stream t socket)
    (carries_stream t s) came (f s) (f socket) (same_socket t f socket s) in
    record { last_sent = h.last_sent; written = h.written; read = h.read; rooms = (let r = h.rooms in omega arith) }

shown_on : (c : Call) (n : Net) (s : ℕ) → IsShownOn c n.trace s (n.traffic s) ((after_call c n).traffic s)
shown_on (begins at) n s = same (begins at) n.trace s (n.traffic s) refl refl refl
shown_on (starts leaf target answer) n s = same (starts leaf target answer) n.trace s (n.traffic s) refl refl refl
shown_on (waits until answer) n s = same (waits until answer) n.trace s (n.traffic s) refl refl refl
shown_on (closes socket) n s = same (closes socket) n.trace s (n.traffic s) refl refl refl
shown_on (listens target answer) n s = same (listens target answer) n.trace s (n.traffic s) refl refl refl
shown_on (accepts listener until (accept.Accepted socket at)) n s =
    same (accepts listener until (accept.Accepted socket at)) n.trace s (n.traffic s) refl refl refl
shown_on (accepts listener until (accept.Timed at)) n s =
    same (accepts listener until (accept.Timed at)) n.trace s (n.traffic s) refl refl refl
shown_on (accepts listener until (accept.Faulted at)) n s =
    same (accepts listener until (accept.Faulted at)) n.trace s (n.traffic s) refl refl refl
shown_on (sends socket bytes until (send.Sent count at)) n s =
    sent_shown n.trace n.traffic socket s until count at bytes
shown_on (sends socket bytes until (send.Timed at)) n s =
    same (sends socket bytes until (send.Timed at)) n.trace s (n.traffic s)
    (unchanged (socket == s) (n.traffic s).last_sent) (unchanged (socket == s) None) refl
shown_on (sends socket bytes until (send.Failed cause)) n s =
    same (sends socket bytes until (send.Failed cause)) n.trace s (n.traffic s)
    (unchanged (socket == s) (n.traffic s).last_sent) (unchanged (socket == s) None) refl
shown_on (shuts socket) n s = same (shuts socket) n.trace s (n.traffic s) refl refl refl
shown_on (receives socket most until came (recv.Got count at)) n s =
    received_shown n.trace n.traffic socket s most until count at came
shown_on (receives socket most until came recv.End) n s =
    same (receives socket most until came recv.End) n.trace s (n.traffic s) refl refl (unchanged (socket == s) None)
shown_on (receives socket most until came (recv.Timed at)) n s = same
    (receives socket most until came (recv.Timed at)) n.trace s (n.traffic s) refl refl (unchanged (socket == s) None)
shown_on (receives socket most until came (recv.Failed cause)) n s =
    same (receives socket most until came (recv.Failed cause)) n.trace s
    (n.traffic s) refl refl (unchanged (socket == s) None)

-- a call that may be made, was answered as it may be, and changed the record so
pub shows_call : (c : Call) (a b : Net) → b ≡ with_faults (after_call c a) b.faults → IsLawful c a.trace a.told
    → a.faults ≤ b.faults → (is_faulted c ≡ true → Rose a.faults b.faults) → Shows a (c ∷ []) b
shows_call c a b e lawful faults fault =
    let h = shown_by c a in
    let spare = h.spare in
    let same_spare : b.spare ≡ (after_call c a).spare = ap (λ n. n.spare) e in
    let on : (s : ℕ) → b.traffic s ≡ (after_call c a).traffic s = λ s. ap (λ n. n.traffic s) e in
    record {
      lawful = (lawful, tt);
      trace = ap (λ n. n.trace) e ∙ trace_by c a;
      told = ap (λ n. n.told) e ∙ h.told;
      timed = ap (λ n. n.timed) e ∙ h.timed;
      last_timed = ap (λ n. n.last_timed) e ∙ h.last_timed;
      last_sent = λ s. ap (λ x. x.last_sent) (on s) ∙ (shown_on c a s).last_sent;
      written = λ s. ap (λ x. x.written) (on s) ∙ (shown_on c a s).written;
      read = λ s. ap (λ x. x.read) (on s) ∙ (shown_on c a s).read;
      rooms = λ s. (let r = (shown_on c a s).rooms in let x : (b.traffic s).room ≡
          ((after_call c a).traffic s).room = ap (λ x. x.room) (on s) in omega arith);
      spare = omega arith;
      faults = faults;
      fault = λ h. fault (or_false (is_faulted c) h);
    }
  where
    or_false : (q : Bool) → (q || false) ≡ true → q ≡ true
    or_false true h = refl
    or_false false h = h

-- more room, or more room for items, is no call
pub shows_room : (a b : Net) → b ≡ record a { spare = b.spare; traffic = b.traffic } → a.spare ≤ b.spare
    → ((s : ℕ) → b.traffic s ≡ record (a.traffic s) { room = (b.traffic s).room })
    → ((s : ℕ) → (a.traffic s).room ≤ (b.traffic s).room) → Shows a [] b
shows_room a b e spare same rooms =
    let faults : b.faults ≡ a.faults = ap (λ n. n.faults) e in
    record {
      lawful = tt;
      trace = ap (λ n. n.trace) e;
      told = ap (λ n. n.told) e;
      timed = ap (λ n. n.timed) e;
      last_timed = ap (λ n. n.last_timed) e;
      last_sent = λ s. ap (λ x. x.last_sent) (same s);
      written = λ s. ap (λ x. x.written) (same s);
      read = λ s. ap (λ x. x.read) (same s);
      rooms = λ s. (let r = rooms s in omega arith);
      spare = omega arith;
      faults = omega arith;
      fault = λ h. (let z : false ≡ true = h in cc);
    }

-- with less spare, of which calls took no more
pub shows_spare : (a b : Net) (calls : List Call) (x y : ℕ) → x ≤ y + length (items_of calls)
    → Shows a calls b → Shows (with_spare a x) calls (with_spare b y)
shows_spare a b calls x y e h =
    record {
      lawful = h.lawful;
      trace = h.trace;
      told = h.told;
      timed = h.timed;
      last_timed = h.last_timed;
      last_sent = h.last_sent;
      written = h.written;
      read = h.read;
      rooms = h.rooms;
      spare = e;
      faults = h.faults;
      fault = h.fault;
    }
