-- What each call makes of the record, and that the record shows the call.
use Rattle.std.proofs.Common.{◌≡◌, ℕ, zero, suc, ◌-◌, ◌≤◌, ◌<◌, ◌^◌, Bool, true, false, List, [], ◌∷◌, length, length-take, refl, ap, sym, ◌∙◌, subst, arith, if◌then◌else◌}
use Rattle.std.specs.Prelude.{◌==◌, take, max, Some, slice_get, slice_set}
use Rattle.std.specs.Option.{option_map}
use Rattle.std.proofs.Math.Path.{fun_ext}
use Rattle.std.proofs.lemmas.Bool.{eqb-true, eq-eqb}
use Rattle.taps_stack.specs.declared.target.Target.{Target}
use Rattle.taps_stack.specs.StackTable.{is_stream}
use Rattle.taps_socket.specs.declared.item.Item.{Item}
use Rattle.taps_socket.specs.declared.item.Item.TheVariants as item
use Rattle.taps_socket.specs.declared.answers.StartAnswer.{StartAnswer}
use Rattle.taps_socket.specs.declared.answers.StartAnswer.TheVariants as start
use Rattle.taps_socket.specs.declared.answers.ListenAnswer.{ListenAnswer}
use Rattle.taps_socket.specs.declared.answers.ListenAnswer.TheVariants as listen
use Rattle.taps_socket.specs.declared.answers.AcceptAnswer.TheVariants as accept
use Rattle.taps_socket.specs.declared.answers.SendAnswer.TheVariants as send
use Rattle.taps_socket.specs.declared.answers.RecvAnswer.TheVariants as recv
use Rattle.taps_socket.specs.Sides.{carries_stream, may_accept}
use Rattle.taps_socket.specs.Calls.{Call, starts, listens, accepts, sends, receives, started_item, started_at, listened_item, listened_at}
use Rattle.taps_socket.specs.Net.{Net, Traffic, with_item, with_room, with_faults, with_piece, after_send, after_receive, after_call, sent_on, IsNextMoment, IsGiven, GivesNewSocket, GivesListener}
use Rattle.taps_socket.specs.Shows.{Shows, IsLawful, IsLawfulSend, IsLawfulReceive, StartsNew, ListensNew, is_faulted}
use Rattle.taps_socket.specs.Shown.{shows_call, shows_room}
use Rattle.taps_real.specs.declared.channel.Channel.{Channel}
use Rattle.taps_real.specs.Channels.{traffic_of, traffic_at, with_room_of, sent_in}
use Rattle.taps_real.specs.Tables.{Table, net_of, after_item, with_socket, after_got}
use Rattle.taps_real.proofs.Channels.{traffic_found, traffic_more, traffic_set, set_by}

-- a socket that is given has no traffic, so that the record has one item more
given_net : (t : Table) (i : Item) (at : ℕ) (stream : Bool) → net_of (with_socket (after_item t i at) stream) ≡ with_item (net_of t) i at
given_net t i at stream =
    ap (λ f. (let n : Net = record { trace = i ∷ t.trace; told = at; spare = t.spare - 1; faults = t.faults; traffic = f; timed = t.timed; last_timed = t.last_timed } in n))
    (traffic_more t.channels stream)

pub given_after : (v n m : Table) (i : Item) (at : ℕ) (stream : Bool) → v ≡ n → m ≡ with_socket (after_item v i at) stream → net_of m ≡ with_item (net_of n) i at
given_after v n m i at stream is after = ap net_of after ∙ (given_net v i at stream ∙ ap (λ x. with_item (net_of x) i at) is)

-- bytes that came are not observable
unread : (cs : List Channel) (s : ℕ) (f : List (List ℕ) → List (List ℕ)) → (let x : Traffic = record (traffic_at cs s) { read = option_map f (traffic_at cs s).read } in x) ≡ traffic_at cs s
unread [] s f = refl
unread (c ∷ cs) zero f = refl
unread (c ∷ cs) (suc s) f = unread cs s f

unread_by : (q : Bool) (cs : List Channel) (x s : ℕ) (f : List (List ℕ) → List (List ℕ)) → (x == s) ≡ q → (if q then record (traffic_at cs x) { read = option_map f (traffic_at cs x).read } else traffic_at cs s) ≡ traffic_at cs s
unread_by true cs x s f e = unread cs x f ∙ ap (traffic_at cs) (eqb-true x s e)
unread_by false cs x s f e = refl

got_net : (t : Table) (socket until count at : ℕ) (came : List ℕ) → net_of (after_got t at) ≡ after_receive socket until came (recv.Got count at) (net_of t)
got_net t socket until count at came =
    ap (λ f. (let n : Net = record { trace = t.trace; told = at; spare = t.spare; faults = t.faults; traffic = f; timed = t.timed; last_timed = t.last_timed } in n))
    (sym (fun_ext (λ s. unread_by (socket == s) t.channels socket s (with_piece (carries_stream t.trace socket) came) refl)))

pub got_after : (v n m : Table) (socket until count at : ℕ) (came : List ℕ) → v ≡ n → m ≡ after_got v at → net_of m ≡ after_receive socket until came (recv.Got count at) (net_of n)
got_after v n m socket until count at came is after = ap net_of after ∙ (got_net v socket until count at came ∙ ap (λ x. after_receive socket until came (recv.Got count at) (net_of x)) is)

-- bytes that were taken lower the room, and the time is kept
sent_there : (c : Channel) (x : Traffic) (stream : Bool) (count at : ℕ) (bytes : List ℕ) → x ≡ traffic_of c → count ≤ length bytes → traffic_of (sent_in c count at) ≡ sent_on stream (take count bytes) at x
sent_there c x stream count at bytes is few =
    let len : length (take count bytes) ≡ count = omega (arith, length-take count bytes) in
    rw (is, len) refl

sent_net : (t : Table) (c : Channel) (socket until count at : ℕ) (bytes : List ℕ) → slice_get t.channels socket ≡ Some c → socket < length t.channels → count ≤ length bytes →
    net_of (record t { channels = slice_set t.channels socket (sent_in c count at); told = at }) ≡ after_send socket bytes until (send.Sent count at) (net_of t)
sent_net t c socket until count at bytes there within few =
    ap (λ f. (let n : Net = record { trace = t.trace; told = at; spare = t.spare; faults = t.faults; traffic = f; timed = t.timed; last_timed = t.last_timed } in n))
    (traffic_set t.channels socket (sent_in c count at) within
    ∙ ap (λ x. (λ (s : ℕ). if socket == s then x else traffic_at t.channels s)) (sent_there c (traffic_at t.channels socket) (carries_stream t.trace socket) count at bytes (traffic_found t.channels socket c there) few))

pub taken_in : (v n : Table) (cs : List Channel) (c : Channel) (socket until count at : ℕ) (bytes : List ℕ) → v ≡ n → slice_get v.channels socket ≡ Some c → socket < length v.channels → count ≤ length bytes → cs ≡ slice_set v.channels socket (sent_in c count at) →
    net_of (record v { channels = cs; told = at }) ≡ after_send socket bytes until (send.Sent count at) (net_of n)
taken_in v n cs c socket until count at bytes is there within few set =
    ap (λ x. net_of (record v { channels = x; told = at })) set
    ∙ (sent_net v c socket until count at bytes there within few ∙ ap (λ x. after_send socket bytes until (send.Sent count at) (net_of x)) is)

-- more room
pub record IsRoomMade (t u : Table) (socket bytes : ℕ) : Type 0 where
  pub net : net_of u ≡ with_room (net_of t) socket (traffic_at u.channels socket).room
  pub room : bytes ≤ (traffic_at u.channels socket).room
  pub kept : (traffic_at t.channels socket).room ≤ (traffic_at u.channels socket).room

room_made : (t : Table) (c : Channel) (socket bytes : ℕ) → slice_get t.channels socket ≡ Some c → socket < length t.channels → IsRoomMade t (record t { channels = slice_set t.channels socket (with_room_of c bytes) }) socket bytes
room_made t c socket bytes there within =
    let now : traffic_at (slice_set t.channels socket (with_room_of c bytes)) socket ≡ traffic_of (with_room_of c bytes) = set_by t.channels socket socket (with_room_of c bytes) within ∙ (rw (eq-eqb socket socket refl) refl) in
    let was : traffic_at t.channels socket ≡ traffic_of c = traffic_found t.channels socket c there in
    let more : traffic_of (with_room_of c bytes) ≡ (let x : Traffic = record (traffic_at t.channels socket) { room = max c.room bytes } in x) = rw was refl in
    record {
      net = ap (λ f. (let n : Net = record { trace = t.trace; told = t.told; spare = t.spare; faults = t.faults; traffic = f; timed = t.timed; last_timed = t.last_timed } in n))
          (traffic_set t.channels socket (with_room_of c bytes) within ∙ ap (λ x. (λ (s : ℕ). if socket == s then x else traffic_at t.channels s)) more)
          ∙ ap (λ r. with_room (net_of t) socket r) (ap (λ x. x.room) (sym now));
      room = rw now (omega arith);
      kept = rw (now, was) (omega arith);
    }

pub room_in : (v n : Table) (cs : List Channel) (c : Channel) (socket bytes : ℕ) → v ≡ n → slice_get v.channels socket ≡ Some c → socket < length v.channels → cs ≡ slice_set v.channels socket (with_room_of c bytes) → IsRoomMade n (record v { channels = cs }) socket bytes
room_in v n cs c socket bytes is there within set =
    subst (λ x. IsRoomMade x (record v { channels = cs }) socket bytes) is (subst (λ x. IsRoomMade v (record v { channels = x }) socket bytes) (sym set) (room_made v c socket bytes there within))

-- a record is the one with its own count of faults
pub same_faults : (m n : Net) → m ≡ n → m ≡ with_faults n m.faults
same_faults m n e = e ∙ ap (with_faults n) (sym (ap (λ x. x.faults) e))

-- a call that was not faulted
shows_so : (c : Call) (a b : Net) → b ≡ after_call c a → (after_call c a).faults ≡ a.faults → IsLawful c a.trace a.told → is_faulted c ≡ false → Shows a (c ∷ []) b
shows_so c a b e same lawful calm =
    let faults : b.faults ≡ a.faults = ap (λ n. n.faults) e ∙ same in
    shows_call c a b (same_faults b (after_call c a) e) lawful (omega arith) (λ h. (let z : false ≡ true = sym calm ∙ h in absurd cc))

starts_new : (answer : StartAnswer) (net : Net) → GivesNewSocket answer net → StartsNew answer net.trace
starts_new (start.Started socket at) net h = h.number
starts_new (start.Refused cause at) net h = tt

pub started : (a b : Net) (leaf : ℕ) (target : Target) (answer : StartAnswer) → b ≡ with_item a (started_item leaf target answer) (started_at answer) → IsNextMoment a (started_at answer) → GivesNewSocket answer a → Shows a (starts leaf target answer ∷ []) b
started a b leaf target answer e next new = shows_so (starts leaf target answer) a b e refl (next, starts_new answer a new) refl

listens_new : (answer : ListenAnswer) (net : Net) → GivesListener answer net → ListensNew answer net.trace
listens_new (listen.Listening socket at) net h = h.number
listens_new (listen.Refused cause at) net h = tt

pub listened : (a b : Net) (target : Target) (answer : ListenAnswer) → b ≡ with_item a (listened_item target answer) (listened_at answer) → is_stream target.stack ≡ true → IsNextMoment a (listened_at answer) → GivesListener answer a → Shows a (listens target answer ∷ []) b
listened a b target answer e stream next new = shows_so (listens target answer) a b e refl (stream, next, listens_new answer a new) refl

pub accepted : (a b : Net) (listener until socket at : ℕ) → b ≡ with_item a (item.Accepted listener socket at) at → may_accept a.trace listener ≡ true → until < 2 ^ 63 → IsNextMoment a at → IsGiven socket a → Shows a (accepts listener until (accept.Accepted socket at) ∷ []) b
accepted a b listener until socket at e may bounded next new = shows_so (accepts listener until (accept.Accepted socket at)) a b e refl (may, bounded, next, new.number) refl

pub sent : (a b : Net) (socket until count at : ℕ) (bytes : List ℕ) → b ≡ after_send socket bytes until (send.Sent count at) a → IsLawfulSend socket bytes until (send.Sent count at) a.trace a.told → Shows a (sends socket bytes until (send.Sent count at) ∷ []) b
sent a b socket until count at bytes e lawful = shows_so (sends socket bytes until (send.Sent count at)) a b e refl lawful refl

pub received : (a b : Net) (socket most until count at : ℕ) (came : List ℕ) → b ≡ after_receive socket until came (recv.Got count at) a → IsLawfulReceive socket most until came (recv.Got count at) a.trace a.told → Shows a (receives socket most until came (recv.Got count at) ∷ []) b
received a b socket most until count at came e lawful = shows_so (receives socket most until came (recv.Got count at)) a b e refl lawful refl

-- more room for bytes is no call
room_by : (q : Bool) (x there : Traffic) (room : ℕ) → (q ≡ true → there ≡ x) → (let y : Traffic = if q then record there { room = room } else x in y ≡ record x { room = y.room })
room_by true x there room same = rw (same refl) refl
room_by false x there room same = refl

more_by : (q : Bool) (x there : Traffic) (room : ℕ) → (q ≡ true → there ≡ x) → there.room ≤ room → x.room ≤ (let y : Traffic = if q then record there { room = room } else x in y).room
more_by true x there room same more = rw (← same refl) more
more_by false x there room same more = omega arith

roomy : (a b : Net) (socket room : ℕ) → b ≡ with_room a socket room → (a.traffic socket).room ≤ room → Shows a [] b
roomy a b socket room e more =
    subst (λ n. Shows a [] n) (sym e) (shows_room a (with_room a socket room) refl (omega arith)
    (λ s. room_by (socket == s) (a.traffic s) (a.traffic socket) room (λ h. ap a.traffic (eqb-true socket s h)))
    (λ s. more_by (socket == s) (a.traffic s) (a.traffic socket) room (λ h. ap a.traffic (eqb-true socket s h)) more))

pub roomy_after : (v n m : Table) (socket room : ℕ) → v ≡ n → net_of m ≡ with_room (net_of v) socket room → (traffic_at v.channels socket).room ≤ room → Shows (net_of n) [] (net_of m)
roomy_after v n m socket room is e more = subst (λ x. Shows (net_of x) [] (net_of m)) is (roomy (net_of v) (net_of m) socket room e more)
