-- A turn of the next message, which is begun first or has another answer.
use Rattle.std.proofs.Common.{◌≡◌, ℕ, ◌+◌, Bool, true, false, ◌||◌, List, [], ◌∷◌, ◌++◌, drop, refl, sym, ap, ◌∙◌, subst, if◌then◌else◌}
use Rattle.std.specs.Prelude.{Option, Some, None}
use Rattle.std.specs.List.{concat}
use Rattle.std.proofs.lemmas.List.{append-nil}
use Rattle.taps_message.specs.declared.accepted.Accepted.{Accepted}
use Rattle.taps_message.specs.Expiry.{has_expired}
use Rattle.taps_framer.specs.Layers.{Layer}
use Rattle.std.specs.Option.{is_some}
use Rattle.taps_socket.specs.declared.item.Item.{Item}
use Rattle.taps_socket.specs.RaceSockets.{has}
use Rattle.taps_socket.specs.Sides.{is_connected, shut, may_send}
use Rattle.taps_connection.specs.Sound.{IsSound, IsReady, IsReadyIf, count_begun}
use Rattle.taps_socket.specs.Calls.{Call}
use Rattle.taps_socket.specs.Net.{Net, Traffic}
use Rattle.taps_connection.specs.declared.sender.Begun.{Begun}
use Rattle.taps_connection.specs.declared.sender.Sender.{Sender}
use Rattle.taps_connection.specs.declared.sender.Pushed.{Pushed}
use Rattle.taps_connection.specs.declared.sender.Pushed.TheVariants as pushed
use Rattle.taps_socket.specs.declared.answers.SendAnswer.{SendAnswer}
use Rattle.taps_connection.specs.Adds.{Adds, IsRoomier}
use Rattle.taps_connection.specs.Encodings.{Encoding}
use Rattle.taps_connection.specs.Outboxes.{Outbox}
use Rattle.taps_connection.specs.Pushes.{none, HasFront, left_at}
use Rattle.taps_connection.specs.Runs.{IsRun, AllAsked}
use Rattle.taps_connection.specs.Senders as senders
use Rattle.taps_connection.specs.Senders.{Turn, settled, queued, idle, turn_of, turn_in, turn_if, begun_of, goes, behind_by, queue_behind, pushed_items, pushed_call, IsBegun, IsSent, IsStopped, AreOfOne, IsMoved, IsStill, IsPushed, IsDriven}
use Rattle.taps_connection.specs.Written.{sent_by, pieces_of, HasWhole, HasPieces, Writes, KeepsWritten, body_in, body_by, body_of}
use Rattle.taps_connection.proofs.Driving.{same_queue}

-- the message that is begun
pub begun_is : (e : Encoding) (s t : Sender) → (h : IsBegun e s t) → t.begun ≡ Some h.message
begun_is e s t h = ap (λ (v : Sender). v.begun) h.kept

turn_same : (e : Encoding) (s t : Sender) → IsBegun e s t → turn_of e s ≡ turn_of e t
turn_same e s t h = h.turn ∙ sym (ap (senders.turn_by e t) (begun_is e s t h))

queue_same : (e : Encoding) (s t : Sender) → IsBegun e s t → queue_behind t ≡ queue_behind s
queue_same e s t h = sym (same_queue t h.message (begun_is e s t h)) ∙ h.queue

sent_behind : (e : Encoding) (socket : ℕ) (s t u : Sender) (number : ℕ) (calls : List Call) → IsBegun e s t → IsSent e socket t number calls u → IsSent e socket s number calls u
sent_behind e socket s t u number calls h p =
    record {
      message = p.message;
      turn = turn_same e s t h ∙ p.turn;
      named = p.named;
      all_go = p.all_go;
      items = p.items;
      kept = p.kept ∙ ap (λ (v : Sender). record v { queue = u.queue; begun = None; sent = v.sent + 1; moment = u.moment; shut = v.shut || p.message.ends }) h.kept;
      queue = p.queue ∙ queue_same e s t h;
    }

stopped_behind : (e : Encoding) (socket until : ℕ) (s t u : Sender) (answer : SendAnswer) (calls : List Call) → IsBegun e s t → IsStopped e socket until t answer calls u → IsStopped e socket until s answer calls u
stopped_behind e socket until s t u answer calls h p =
    record {
      message = p.message;
      taken = p.taken;
      turn = turn_same e s t h ∙ p.turn;
      grew = p.grew;
      left = p.left;
      newest = p.newest;
      kept = p.kept ∙ ap (λ (v : Sender). record v { queue = u.queue; begun = Some (record p.message { taken = p.taken }); moment = u.moment }) h.kept;
      queue = p.queue ∙ queue_same e s t h;
    }

run_behind : (e : Encoding) (socket until : ℕ) (s t : Sender) (calls : List Call) (after : Outbox) → IsBegun e s t → IsRun e socket until (settled e t) calls after → IsRun e socket until (settled e s) calls after
run_behind e socket until s t calls after h r = subst (λ v. IsRun e socket until v calls after) h.represents r

one_behind : (e : Encoding) (socket until : ℕ) (s t : Sender) (calls : List Call) → IsBegun e s t → AreOfOne e socket until t calls → AreOfOne e socket until s calls
one_behind e socket until s t calls h one =
    λ message turn.
    subst (λ (v : Sender). AllAsked e socket until (left_at e (idle v) v.moment message.number message.ends (drop message.taken message.bytes) []) calls) h.kept
    (one message (sym (turn_same e s t h) ∙ turn))

pushed_behind : (e : Encoding) (socket until : ℕ) (s t u : Sender) (answer : Pushed) (calls : List Call) → IsMoved answer → IsBegun e s t → IsPushed e socket until t answer calls u → IsPushed e socket until s answer calls u
pushed_behind e socket until s t u (pushed.Sent number) calls m h p = (run_behind e socket until s t calls (settled e u) h p.0, sent_behind e socket s t u number calls h p.1, one_behind e socket until s t calls h p.2)
pushed_behind e socket until s t u (pushed.Timed at) calls m h p = (run_behind e socket until s t calls (settled e u) h p.0, stopped_behind e socket until s t u _ calls h p.1, p.2, one_behind e socket until s t calls h p.3)
pushed_behind e socket until s t u (pushed.Failed cause) calls m h p = (run_behind e socket until s t calls (settled e u) h p.0, stopped_behind e socket until s t u _ calls h p.1, p.2, one_behind e socket until s t calls h p.3)
pushed_behind e socket until s t u pushed.Empty calls m h p = absurd m
pushed_behind e socket until s t u (pushed.Expired number) calls m h p = absurd m
pushed_behind e socket until s t u (pushed.NotSpeakable number layer) calls m h p = absurd m
pushed_behind e socket until s t u pushed.NoMemory calls m h p = absurd m

pub driven_behind : {N : Type 0} (Becomes : N → List Call → N → Type 0) (e : Encoding) (before mid after : N) (socket until : ℕ) (s t u : Sender) (answer : Pushed) →
    ((a b c : N) (g k : List Call) → Becomes a g b → Becomes b k c → Becomes a (k ++ g) c) →
    Becomes before [] mid → IsMoved answer → IsBegun e s t → IsDriven Becomes e mid after socket until t answer u → IsDriven Becomes e before after socket until s answer u
driven_behind Becomes e before mid after socket until s t u answer on b m h d =
    record {
      calls = d.calls;
      becomes = subst (λ v. Becomes before v after) (append-nil d.calls) (on before mid after [] d.calls b d.becomes);
      pushed_by = pushed_behind e socket until s t u answer d.calls m h d.pushed_by;
    }

-- nothing was called
pub driven_still : {N : Type 0} (Becomes : N → List Call → N → Type 0) (e : Encoding) (before after : N) (socket until : ℕ) (s t : Sender) (answer : Pushed) →
    Becomes before [] after → IsPushed e socket until s answer [] t → IsDriven Becomes e before after socket until s answer t
driven_still Becomes e before after socket until s t answer b p = record { calls = []; becomes = b; pushed_by = p }

pub adds_still : (socket until : ℕ) (a b : Net) (answer : Pushed) (is_shut : Bool) → IsStill answer → Adds socket [] None a b → Adds socket (pushed_items socket is_shut answer) (pushed_call socket until answer) a b
adds_still socket until a b (pushed.Sent number) is_shut m h = absurd m
adds_still socket until a b (pushed.Timed at) is_shut m h = absurd m
adds_still socket until a b (pushed.Failed cause) is_shut m h = absurd m
adds_still socket until a b pushed.Empty is_shut m h = h
adds_still socket until a b (pushed.Expired number) is_shut m h = h
adds_still socket until a b (pushed.NotSpeakable number layer) is_shut m h = h
adds_still socket until a b pushed.NoMemory is_shut m h = h

-- the traffic of the socket but for its room
pub written_same : (socket : ℕ) (a b : Net) → IsRoomier socket a b → (b.traffic socket).written ≡ (a.traffic socket).written
written_same socket a b h = ap (λ (v : Traffic). v.written) h.same

pub read_same : (socket : ℕ) (a b : Net) → IsRoomier socket a b → (b.traffic socket).read ≡ (a.traffic socket).read
read_same socket a b h = ap (λ (v : Traffic). v.read) h.same

-- no bytes of what is begun were taken
front_none : (stream : Bool) (base : List (List ℕ)) (bytes : List ℕ) (written : Option (List (List ℕ))) → HasWhole stream base written → HasFront stream base bytes 0 written
front_none stream base bytes None h = tt
front_none true base bytes (Some pieces) h = h ∙ sym (append-nil (concat base))
front_none false base bytes (Some pieces) h = none refl h

-- the message that goes out is the first one
record IsFirst (e : Encoding) (sent : ℕ) (body : List ℕ) (b : Begun) : Type 0 where
  pub spoken : e.refusal sent body ≡ None
  pub spelled : b.bytes ≡ e.bytes sent body
  pub fresh : b.taken ≡ 0

first_if : (e : Encoding) (sent : ℕ) (m : Accepted) (o : Option ℕ) (b : Begun) → e.refusal sent m.message.body ≡ o → turn_if o m.number (begun_of e sent m) ≡ goes b → IsFirst e sent m.message.body b
first_if e sent m None b r h =
    let is : begun_of e sent m ≡ b = cc in
    record { spoken = r; spelled = ap (λ (v : Begun). v.bytes) (sym is); fresh = ap (λ (v : Begun). v.taken) (sym is) }
first_if e sent m (Some layer) b r h = cc

first_by : (q : Bool) (e : Encoding) (sent : ℕ) (m : Accepted) (b : Begun) → (if q then senders.expires m.number else turn_if (e.refusal sent m.message.body) m.number (begun_of e sent m)) ≡ goes b → IsFirst e sent m.message.body b
first_by true e sent m b h = cc
first_by false e sent m b h = first_if e sent m (e.refusal sent m.message.body) b refl h

first_is : (e : Encoding) (at sent : ℕ) (messages : List Accepted) (b : Begun) (front : List ℕ) → turn_in e at sent messages ≡ goes b → IsFirst e sent (body_in messages front) b
first_is e at sent [] b front h = cc
first_is e at sent (m ∷ behind) b front h = first_by (has_expired m at) e sent m b h

begun_writes : (e : Encoding) (stream : Bool) (written : Option (List (List ℕ))) (s t : Sender) → IsBegun e s t → (sent : List (List ℕ)) (front : List ℕ) → Writes e stream written sent front s.sent s.begun → Writes e stream written sent (body_of s front) t.sent t.begun
begun_writes e stream written s t h sent front w =
    let body : body_of s front ≡ body_in (queued s) front = ap (λ (o : Option Begun). body_by o (queued s) front) h.none in
    let first = first_is e s.moment s.sent (queued s) h.message front (sym (ap (senders.turn_by e s) h.none) ∙ h.turn) in
    let number : t.sent ≡ s.sent = ap (λ (v : Sender). v.sent) h.kept in
    let pieces : HasWhole stream (pieces_of e 0 sent) written = subst (λ (o : Option Begun). HasPieces stream (pieces_of e 0 sent) o written) h.none w.pieces in
    let here : HasFront stream (pieces_of e 0 sent) h.message.bytes h.message.taken written = subst (λ n. HasFront stream (pieces_of e 0 sent) h.message.bytes n written) (sym first.fresh) (front_none stream (pieces_of e 0 sent) h.message.bytes written pieces) in
    rw (begun_is e s t h, number, body)
    (record { pieces = here; encoded = w.encoded; count = w.count; begun = (first.spoken, first.spelled) })

-- it was begun, and then it had its turn
pub keeps_behind : (e : Encoding) (stream : Bool) (before mid after : Option (List (List ℕ))) (s t u : Sender) (answer : Pushed) → IsBegun e s t → mid ≡ before →
    ((sent : List (List ℕ)) (front : List ℕ) → Writes e stream mid sent front t.sent t.begun → Writes e stream after (sent_by answer front sent) front u.sent u.begun) →
    KeepsWritten e stream before after s answer u
keeps_behind e stream before mid after s t u answer h same k = λ sent front w.
    k sent (body_of s front) (subst (λ (v : Option (List (List ℕ))). Writes e stream v sent (body_of s front) t.sent t.begun) (sym same) (begun_writes e stream before s t h sent front w))

-- no message was sent, and none is begun
keeps_none : (e : Encoding) (stream : Bool) (before after : Option (List (List ℕ))) (s t : Sender) → s.begun ≡ None → t.begun ≡ s.begun → t.sent ≡ s.sent → after ≡ before → (sent : List (List ℕ)) (front body : List ℕ) →
    Writes e stream before sent front s.sent s.begun → Writes e stream after sent body t.sent t.begun
keeps_none e stream before after s t idle begun number same sent front body w =
    let pieces : HasWhole stream (pieces_of e 0 sent) before = subst (λ (o : Option Begun). HasPieces stream (pieces_of e 0 sent) o before) idle w.pieces in
    rw (begun, idle, number, same)
    (record { pieces = pieces; encoded = w.encoded; count = w.count; begun = tt })

pub keeps_still : (e : Encoding) (stream : Bool) (socket until : ℕ) (before after : Option (List (List ℕ))) (s t : Sender) (answer : Pushed) → IsStill answer → IsPushed e socket until s answer [] t → after ≡ before → KeepsWritten e stream before after s answer t
keeps_still e stream socket until before after s t (pushed.Sent number) m p same = absurd m
keeps_still e stream socket until before after s t (pushed.Timed at) m p same = absurd m
keeps_still e stream socket until before after s t (pushed.Failed cause) m p same = absurd m
keeps_still e stream socket until before after s t pushed.Empty m p same = λ sent front w. keeps_none e stream before after s t p.2.begun (ap (λ (v : Sender). v.begun) p.2.kept) (ap (λ (v : Sender). v.sent) p.2.kept) same sent front (body_of s front) w
keeps_still e stream socket until before after s t (pushed.Expired number) m p same = λ sent front w. keeps_none e stream before after s t p.3.begun (ap (λ (v : Sender). v.begun) p.3.kept) (ap (λ (v : Sender). v.sent) p.3.kept) same sent front (body_of s front) w
keeps_still e stream socket until before after s t (pushed.NotSpeakable number layer) m p same = λ sent front w. keeps_none e stream before after s t p.3.begun (ap (λ (v : Sender). v.begun) p.3.kept) (ap (λ (v : Sender). v.sent) p.3.kept) same sent front (body_of s front) w
keeps_still e stream socket until before after s t pushed.NoMemory m (tried, p) same = λ sent front w. keeps_none e stream before after s t p.begun (ap (λ (v : Sender). v.begun) p.kept) (ap (λ (v : Sender). v.sent) p.kept) same sent front (body_of s front) w

-- it was begun already
pub keeps_begun : (e : Encoding) (stream : Bool) (before after : Option (List (List ℕ))) (s t : Sender) (b : Begun) (answer : Pushed) → s.begun ≡ Some b →
    ((sent : List (List ℕ)) (front : List ℕ) → Writes e stream before sent front s.sent s.begun → Writes e stream after (sent_by answer front sent) front t.sent t.begun) →
    KeepsWritten e stream before after s answer t
keeps_begun e stream before after s t b answer is k = λ sent front w.
    subst (λ (v : List ℕ). Writes e stream after (sent_by answer v sent) v t.sent t.begun) (sym (ap (λ (o : Option Begun). body_by o (queued s) front) is)) (k sent front w)

-- a message is begun that can be sent, and its stream is open
pub ready_of : (stream : Bool) (fs : List Layer) (t : Sender) (b : Begun) (q : Bool) → q ≡ stream → t.begun ≡ Some b → IsSound stream fs t → IsReady q t.begun
ready_of stream fs t b q e is h = subst (λ v. IsReady v t.begun) (sym e) (subst (λ (o : Option Begun). IsReady stream o) (sym is) (subst (IsReadyIf stream) is h.ready))

pub open_of : (stream : Bool) (fs : List Layer) (t : Sender) (b : Begun) → t.begun ≡ Some b → IsSound stream fs t → t.shut ≡ false
open_of stream fs t b is h = h.still_open (ap (λ (o : Option Begun). count_begun o) is)

pub may_of : (trace : List Item) (socket : ℕ) (is_shut : Bool) → is_connected trace socket ≡ true → has (shut trace) socket ≡ is_shut → is_shut ≡ false → may_send trace socket ≡ true
may_of trace socket is_shut c s e = rw (c, s, e) refl

-- some message is begun
pub some_begun : (o : Option Begun) → is_some o ≡ true → (b : Begun) × (o ≡ Some b)
some_begun (Some b) h = (b, refl)
some_begun None h = (let z : false ≡ true = h in cc)
