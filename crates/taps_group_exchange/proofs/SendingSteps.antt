-- What each answer of a member's turn makes of the sending of its group.
use Rattle.std.proofs.Common.{◌≡◌, ℕ, zero, suc, ◌+◌, ◌<◌, ◌≤◌, ◌^◌, Bool, true, false, ◌||◌, List, [], ◌∷◌, ◌++◌, length, slice_get, slice_set, Option, Some, None, refl, sym, ap, ◌∙◌, subst, arith, drop, length-append}
use Rattle.std.proofs.lemmas.List.{length-set}
use Rattle.std.specs.Prelude.{◌==◌}
use Rattle.taps_framer.specs.declared.framer.Framer as framer
use Rattle.taps_chain.specs.ChainLaws.{AreFramers}
use Rattle.taps_chain.specs.Layers.{layers_of}
use Rattle.taps_message.specs.declared.accepted.Accepted.{Accepted}
use Rattle.taps_message.specs.Queues.{Queue}
use Rattle.taps_stack.specs.StackTable.{is_stream}
use Rattle.taps_socket.specs.declared.item.Item.{Item}
use Rattle.taps_socket.specs.declared.cause.Cause.{Cause}
use Rattle.taps_socket.specs.Calls.{Call, sends, items_of}
use Rattle.taps_socket.specs.Net.{Net}
use Rattle.taps_socket.specs.Once.{IsOnce}
use Rattle.taps_socket.specs.Shows.{Shows}
use Rattle.taps_socket.specs.declared.answers.SendAnswer.{SendAnswer}
use Rattle.taps_socket.specs.declared.answers.SendAnswer.TheVariants as send
use Rattle.taps_connection.specs.declared.sender.Sender.{Sender}
use Rattle.taps_connection.specs.declared.sender.Pushed.{Pushed}
use Rattle.taps_connection.specs.declared.sender.Pushed.TheVariants as pushed
use Rattle.taps_connection.specs.Encodings.{encoding_of}
use Rattle.taps_connection.specs.Outboxes.{refused, Outbox, take_turn, after_calls}
use Rattle.taps_connection.specs.Runs.{AllAsked, IsRun}
use Rattle.taps_connection.specs.Senders.{settled, settled_by, queued, behind_by, tail_of, shut_items, IsPushed, IsStopped}
use Rattle.taps_connection.specs.Sound.{IsSound}
use Rattle.taps_exchange.specs.declared.outcome.Outcome.{Outcome}
use Rattle.taps_exchange.specs.declared.outcome.Outcome.TheVariants as outcome
use Rattle.taps_exchange.specs.Members.{calls_on, outbox_after}
use Rattle.taps_exchange.specs.Sendings.{OthersGo}
use Rattle.taps_exchange.specs.Turns.{Place, stand_of, turn_of_group, IsInTurn, IsExchange, over, stop, unless, waiting_at, next_sender, turn_sending, turns_in, outcome_by}
use Rattle.taps_exchange.specs.Turns as turns
use Rattle.taps_exchange.proofs.Behind.{after_behind, go_behind, others_of, items_behind, no_stop, stop_behind}
use Rattle.taps_exchange.proofs.SendingAll.{sent_open, stopped_left, stopped_open}
use Rattle.taps_group.specs.Closes.{sockets_of}
use Rattle.taps_group.specs.declared.member.Member.{Member}
use Rattle.taps_group.specs.Members.{IsSoundMember, standings}
use Rattle.taps_group.specs.Orders.{ComesFirst}
use Rattle.taps_group.specs.Sending.{DrivesOut}
use Rattle.taps_group_exchange.specs.GroupExchanges.{count_sent}
use Rattle.taps_group_exchange.specs.GroupSendings.{AllUntil, SendsOn, IsSilent, IsSentOver, IsSendingCut}
use Rattle.taps_group_exchange.specs.Standing.{IsStanding, EachAt, AreStanding, IsAlike, one_if, count_shut}
use Rattle.taps_group_exchange.specs.Turning.{AllOfMessage, AllTakeSome}
use Rattle.taps_group_exchange.proofs.Counting.{count_alike, count_begun, count_room, count_few, count_standing}
use Rattle.taps_group_exchange.proofs.Nexts.{leads_next}
use Rattle.taps_group_exchange.proofs.Driving.{RunsAlike, runs_alike, lift, phase_of, AllOn, asked_all_own, own_calls, other_calls}
use Rattle.taps_group_exchange.proofs.OneMessage.{HasBytesAt, one_message, one_begun}
use Rattle.taps_group_exchange.proofs.RealEncodings.{has_bytes}
use Rattle.taps_group_exchange.proofs.SendingOn.{takes_some, reads_behind, Next, next_of, count_set, stands_on, stands_by, tail_places}
use Rattle.taps_group_exchange.proofs.Waits.{alike_stand}
use Rattle.taps_group_exchange.proofs.Zips.{each_set, each_and, each_length}

until_at : (until k : ℕ) (places : List Place) (p : Place) → AllUntil until places → slice_get places k ≡ Some p → p.member.until ≡ until
until_at until k [] p h at = (let none : Option Place = None in let z : none ≡ Some p = at in cc)
until_at until zero (q ∷ places) p h at = (let same : q ≡ p = cc in sym (ap (λ (v : Place). v.member.until) same) ∙ h.0)
until_at until (suc k) (q ∷ places) p h at = until_at until k places p h.1 at

length_shut : (ends : Bool) (s : ℕ) → length (shut_items ends s) ≡ one_if ends
length_shut true s = refl
length_shut false s = refl

one_place : (p q : Place) (o : Option Place) → o ≡ Some p → o ≡ Some q → p ≡ q
one_place p q o h k = cc

alike_to : (a b c : Outbox) → b ≡ c → IsAlike a b → IsAlike a c
alike_to a b c e h = subst (IsAlike a) e h

module _ {N : Type 0} {X : Type 0} {F : X → Type 0} (boxed : (x : X) → framer.Ghosts (F x)) (Becomes : N → List Call → N → Type 0) (a b c : N) (net net' net'' : Net) (places : List Place) (members : List (Member X F)) (k until : ℕ) (m n : Member X F) (order : List ℕ)
    (on : (a b c : N) (g h : List Call) → Becomes a g b → Becomes b h c → Becomes a (h ++ g) c) (shows : (calls : List Call) → Becomes b calls c → Shows net' calls net'')
    (at : slice_get members k ≡ Some m) (once : IsOnce (sockets_of members)) (sound : (i : ℕ) (x : Member X F) → slice_get members i ≡ Some x → IsSoundMember boxed order i x) (named : ComesFirst order (standings members) k)
    (framers : AreFramers (layers_of boxed m.connection.chain)) (untils : AllUntil until places) (goes_on : SendsOn boxed Becomes a b net net' places members) where
  nx : Next boxed goes_on.calls places k m
  nx = next_of boxed goes_on.calls places members order k m at once sound named goes_on.standing

  abbrev ms : Sender
  ms = m.connection.sender

  abbrev ns : Sender
  ns = n.connection.sender

  abbrev T : List Accepted
  T = tail_of (queued ms)

  pushed_at : (answer : Pushed) (calls : List Call) → IsPushed (encoding_of (is_stream m.connection.stack) (layers_of boxed m.connection.chain)) m.connection.socket until ms answer calls ns → IsPushed nx.p.member.encoding nx.p.member.socket nx.p.member.until ms answer calls ns
  pushed_at answer calls h =
      subst (λ u. IsPushed nx.p.member.encoding nx.p.member.socket u ms answer calls ns) (sym (until_at until k places nx.p untils nx.there))
      (subst (λ s. IsPushed nx.p.member.encoding s until ms answer calls ns) nx.stands.socket
      (subst (λ e. IsPushed e m.connection.socket until ms answer calls ns) nx.stands.encoding h))

  behind_is : behind_by ms.begun (queued ms) ≡ T
  behind_is = ap (λ o. behind_by o (queued ms)) nx.stands.none_begun

  sound_m : IsSound (is_stream m.connection.stack) (layers_of boxed m.connection.chain) ms
  sound_m = (sound k m at).sending

  sent_few : ms.sent + 1 < 2 ^ 64
  sent_few = (let f = sound_m.few in let g = sound_m.bounded in omega (arith, f, g))

  bytes : HasBytesAt nx.p.member.encoding (ms.sent + 1)
  bytes = subst (λ e. HasBytesAt e (ms.sent + 1)) nx.stands.encoding (has_bytes (is_stream m.connection.stack) (layers_of boxed m.connection.chain) (ms.sent + 1) (omega arith) sent_few framers)

  tail_now : ns.queue.queue ≡ record ms.queue.queue { queued = behind_by ms.begun (queued ms) } → queued ns ≡ T
  tail_now q = ap (λ (v : Queue). v.queued) q ∙ behind_is

  last_is : (calls : List Call) → after_calls nx.p.member.encoding (settled nx.p.member.encoding ms) calls ≡ settled nx.p.member.encoding ns → ns.begun ≡ None → ns.sent ≡ ms.sent + 1 → queued ns ≡ T →
      after_calls nx.p.member.encoding (settled nx.p.member.encoding ms) calls ≡ take_turn nx.p.member.encoding ns.moment (ms.sent + 1) ns.expired T
  last_is calls reaches none sent tail =
      reaches ∙ (ap (settled_by nx.p.member.encoding ns) none ∙ (ap (λ (v : ℕ). take_turn nx.p.member.encoding ns.moment v ns.expired (queued ns)) sent ∙ ap (take_turn nx.p.member.encoding ns.moment (ms.sent + 1) ns.expired) tail))

  abbrev box : Outbox
  box = outbox_after nx.p.member (calls_on nx.p.member.socket goes_on.calls)

  alike_now : (calls : List Call) → AllAsked nx.p.member.encoding nx.p.member.socket nx.p.member.until (settled nx.p.member.encoding ms) calls → RunsAlike nx.p.member.encoding nx.p.member.socket nx.p.member.until T box (settled nx.p.member.encoding ms) calls
  alike_now calls asked = runs_alike nx.p.member.encoding nx.p.member.socket nx.p.member.until T box (settled nx.p.member.encoding ms) calls nx.stands.box asked

  box_now : (calls : List Call) → AllOn nx.p.member.socket calls → outbox_after nx.p.member (calls_on nx.p.member.socket (calls ++ goes_on.calls)) ≡ after_calls nx.p.member.encoding box calls
  box_now calls own = ap (outbox_after nx.p.member) (own_calls nx.p.member.socket calls goes_on.calls own) ∙ after_behind nx.p.member.encoding (take_turn nx.p.member.encoding nx.p.member.accepted 0 None nx.p.member.messages) calls (calls_on nx.p.member.socket goes_on.calls)

  own_now : (calls : List Call) → AllAsked nx.p.member.encoding nx.p.member.socket nx.p.member.until (settled nx.p.member.encoding ms) calls → AllOn nx.p.member.socket calls
  own_now calls asked = asked_all_own nx.p.member.encoding nx.p.member.socket nx.p.member.until (settled nx.p.member.encoding ms) calls asked

  -- how all stand then, where the member's own outbox stands for what it keeps
  standing_now : (calls : List Call) → AllOn nx.p.member.socket calls → n ≡ record m { connection = record m.connection { sender = n.connection.sender } } → IsAlike (after_calls nx.p.member.encoding box calls) (settled nx.p.member.encoding ns) → ns.begun ≡ None → ns.queue.queue ≡ record ms.queue.queue { queued = behind_by ms.begun (queued ms) } →
      AreStanding boxed (calls ++ goes_on.calls) places (slice_set members k n)
  standing_now calls own kept alike none queue =
      each_set (λ (x : Member X F). x.connection.socket) (IsStanding boxed goes_on.calls) (IsStanding boxed (calls ++ goes_on.calls)) m n k places members
      (λ p x other st. stands_by boxed nx.p.member.socket goes_on.calls calls p x (ap (λ (v : ℕ). v == x.connection.socket) (sym nx.stands.socket) ∙ other) own st)
      (λ p there st. subst (λ (q : Place). IsStanding boxed (calls ++ goes_on.calls) q n) (one_place nx.p p (slice_get places k) nx.there there)
      (stands_on boxed goes_on.calls (calls ++ goes_on.calls) nx.p m n kept (subst (λ v. IsAlike v (settled nx.p.member.encoding ns)) (sym (box_now calls own)) alike) (tail_places ms ns nx.stands.none_begun none queue nx.stands.placed) none (ap (λ (v : Queue). v.accepted) queue) nx.stands))
      at once goes_on.standing

  count_now : one_if ms.shut ≡ 0 → count_shut (slice_set members k n) ≡ count_shut members + one_if ns.shut
  count_now none = (let c = count_set members k m n at in omega (arith, none, c))

  -- the message whose turn it was was sent
  pub sent_step : (number : ℕ) → DrivesOut boxed Becomes b c net' net'' until (pushed.Sent number) m n → SendsOn boxed Becomes a c net net'' places (slice_set members k n)
  sent_step number d =
      let e = nx.p.member.encoding in
      let calls = d.driven.calls in
      let p = pushed_at (pushed.Sent number) calls d.driven.pushed_by in
      let h = p.1 in
      let none : ns.begun ≡ None = ap (λ (v : Sender). v.begun) h.kept in
      let one : ns.sent ≡ ms.sent + 1 = ap (λ (v : Sender). v.sent) h.kept in
      let lawful = takes_some net'.trace net'.told calls (shows calls d.driven.becomes).lawful in
      let of = one_message e nx.p.member.socket nx.p.member.until ms.sent h.message.number T (settled e ms) calls ns.moment ns.expired (phase_of e ms h.message nx.stands.none_begun h.turn) p.0.asked h.all_go lawful bytes (last_is calls p.0.reaches none one (tail_now h.queue)) in
      let ra = alike_now calls p.0.asked in
      let own = own_now calls p.0.asked in
      let unshut : ms.shut ≡ false = sent_open (is_stream m.connection.stack) (layers_of boxed m.connection.chain) m.connection.socket until ms number calls ns d.driven.pushed_by sound_m in
      let shut : ns.shut ≡ h.message.ends = ap (λ (v : Sender). v.shut) h.kept ∙ ap (λ v. v || h.message.ends) unshut in
      let count = count_now (ap one_if unshut) in
      let shut_one : one_if ns.shut ≡ one_if h.message.ends = ap one_if shut in
      let items : length (items_of (calls ++ goes_on.calls)) ≡ length (items_of calls) + length (items_of goes_on.calls) = ap (λ (l : List Item). length l) (items_behind calls goes_on.calls) ∙ length-append (items_of calls) (items_of goes_on.calls) in
      let added : length (items_of calls) ≡ one_if h.message.ends = ap (λ (l : List Item). length l) h.items ∙ length_shut h.message.ends nx.p.member.socket in
      let before = goes_on.items in
      record {
        calls = calls ++ goes_on.calls;
        becomes = on a b c goes_on.calls calls goes_on.becomes d.driven.becomes;
        in_turn = lift places goes_on.calls (waiting_at nx.p k (stand_of goes_on.calls nx.p) T) k T goes_on.go nx.leading refl calls ra.asked (ra.of_message of) (others_of calls h.all_go) goes_on.in_turn;
        go = go_behind calls goes_on.calls h.all_go goes_on.go;
        reads_none = reads_behind e nx.p.member.socket nx.p.member.until (settled e ms) calls goes_on.calls p.0.asked goes_on.reads_none;
        standing = standing_now calls own d.kept (alike_to _ _ _ p.0.reaches ra.reaches) none h.queue;
        items = omega (arith, items, added, before, count, shut_one);
        faults = d.adds.faults ∙ goes_on.faults;
      }

  none_called : (calls : List Call) → calls ≡ [] → Becomes b calls c → Becomes a goes_on.calls c
  none_called calls none h = on a b c goes_on.calls [] goes_on.becomes (subst (λ v. Becomes b v c) none h)

  -- it had expired
  pub expired_step : (number : ℕ) → DrivesOut boxed Becomes b c net' net'' until (pushed.Expired number) m n → SendsOn boxed Becomes a c net net'' places (slice_set members k n)
  expired_step number d =
      let e = nx.p.member.encoding in
      let p = pushed_at (pushed.Expired number) d.driven.calls d.driven.pushed_by in
      let h = p.3 in
      let none : ns.begun ≡ None = ap (λ (v : Sender). v.begun) h.kept ∙ h.begun in
      let shut : one_if ns.shut ≡ one_if ms.shut = ap (λ (v : Sender). one_if v.shut) h.kept in
      let c1 = count_set members k m n at in
      let before = goes_on.items in
      record {
        calls = goes_on.calls;
        becomes = none_called d.driven.calls h.nothing_called d.driven.becomes;
        in_turn = goes_on.in_turn;
        go = goes_on.go;
        reads_none = goes_on.reads_none;
        standing = standing_now [] tt d.kept (alike_to _ _ _ (sym p.0) nx.stands.box) none h.queue;
        items = omega (arith, before, c1, shut);
        faults = d.adds.faults ∙ goes_on.faults;
      }

  -- all others, and what they say where the exchange ends
  silent_now : (calls : List Call) → AllOn nx.p.member.socket calls → ((i : ℕ) (x : Member X F) → slice_get members i ≡ Some x → AreFramers (layers_of boxed x.connection.chain)) → n ≡ record m { connection = record m.connection { sender = n.connection.sender } } → count_sent (outbox_after nx.p.member (calls_on nx.p.member.socket (calls ++ goes_on.calls))) ≡ ns.sent → EachAt (IsSilent boxed (calls ++ goes_on.calls)) places (slice_set members k n)
  silent_now calls own all kept here =
      each_set (λ (x : Member X F). x.connection.socket)
      (λ p x. IsStanding boxed goes_on.calls p x × (AreFramers (layers_of boxed x.connection.chain) × IsSound (is_stream x.connection.stack) (layers_of boxed x.connection.chain) x.connection.sender)) (IsSilent boxed (calls ++ goes_on.calls)) m n k places members
      (λ p x other h. record {
        sent = ap (λ v. count_sent (outbox_after p.member v)) (other_calls nx.p.member.socket p.member.socket calls goes_on.calls (ap (λ (v : ℕ). v == p.member.socket) (sym nx.stands.socket) ∙ (ap (λ (v : ℕ). m.connection.socket == v) (sym h.0.socket) ∙ other)) own) ∙ count_standing boxed goes_on.calls p x h.0 h.1.0 h.1.1;
        decoding = h.0.decoding;
        framers = h.1.0;
      })
      (λ p there h. subst (λ (q : Place). IsSilent boxed (calls ++ goes_on.calls) q n) (one_place nx.p p (slice_get places k) nx.there there)
      (subst (λ (v : Member X F). IsSilent boxed (calls ++ goes_on.calls) nx.p v) (sym kept) (record { sent = here; decoding = nx.stands.decoding; framers = framers })))
      at once
      (each_and (IsStanding boxed goes_on.calls) (λ (x : Member X F). AreFramers (layers_of boxed x.connection.chain) × IsSound (is_stream x.connection.stack) (layers_of boxed x.connection.chain) x.connection.sender) places members (λ i x there. (all i x there, (sound i x there).sending)) goes_on.standing)

  size_now : length (slice_set members k n) ≡ length members
  size_now = length-set members k n

  -- the newest call ended the exchange
  stop_step : (answer : SendAnswer) (o : Outcome) (d_calls : List Call) → ((bytes : List ℕ) → stop (sends nx.p.member.socket bytes nx.p.member.until answer ∷ []) ≡ Some o) → Becomes b d_calls c → net''.faults ≡ net'.faults → n ≡ record m { connection = record m.connection { sender = n.connection.sender } } →
      ((i : ℕ) (x : Member X F) → slice_get members i ≡ Some x → AreFramers (layers_of boxed x.connection.chain)) → length (items_of d_calls) ≤ 1 → ms.shut ≡ false →
      IsRun nx.p.member.encoding nx.p.member.socket nx.p.member.until (settled nx.p.member.encoding ms) d_calls (settled nx.p.member.encoding ns) → IsStopped nx.p.member.encoding nx.p.member.socket nx.p.member.until ms answer d_calls ns → IsSentOver boxed Becomes a c net net'' places o (slice_set members k n)
  stop_step answer o calls stops becomes faults kept all one unshut run h =
      let e = nx.p.member.encoding in
      let call = sends nx.p.member.socket (drop h.taken h.message.bytes) nx.p.member.until answer in
      let earlier = h.newest.earlier in
      let ra = alike_now calls run.asked in
      let own = own_now calls run.asked in
      let left = stopped_left e nx.p.member.socket nx.p.member.until ms answer calls ns h in
      let same : ns.sent ≡ ms.sent = ap (λ (v : Sender). v.sent) h.kept in
      let lawful = takes_some net'.trace net'.told calls (shows calls becomes).lawful in
      let asked : AllAsked e nx.p.member.socket nx.p.member.until (settled e ms) (call ∷ earlier) = subst (AllAsked e nx.p.member.socket nx.p.member.until (settled e ms)) h.newest.newest run.asked in
      let takes : AllTakeSome (call ∷ earlier) = subst AllTakeSome h.newest.newest lawful in
      let last : (after_calls e (settled e ms) (call ∷ earlier)).sent ≡ ms.sent = ap (λ (l : List Call). (after_calls e (settled e ms) l).sent) (sym h.newest.newest) ∙ (ap (λ (v : Outbox). v.sent) run.reaches ∙ (left.sent ∙ same)) in
      let of : AllOfMessage e T (settled e ms) calls = subst (AllOfMessage e T (settled e ms)) (sym h.newest.newest) (one_begun e nx.p.member.socket nx.p.member.until ms.sent h.message.number T (settled e ms) call earlier (phase_of e ms h.message nx.stands.none_begun h.turn) asked h.newest.others_go takes.1 last) in
      let others : OthersGo calls = subst OthersGo (sym h.newest.newest) h.newest.others_go in
      let newest : stop (calls ++ goes_on.calls) ≡ Some o = stop_behind calls goes_on.calls goes_on.go ∙ (ap stop h.newest.newest ∙ stops (drop h.taken h.message.bytes)) in
      let alike = alike_to _ _ _ run.reaches ra.reaches in
      let room = count_room members k m at unshut in
      let before = goes_on.items in
      let items : length (items_of (calls ++ goes_on.calls)) ≡ length (items_of calls) + length (items_of goes_on.calls) = ap (λ (l : List Item). length l) (items_behind calls goes_on.calls) ∙ length-append (items_of calls) (items_of goes_on.calls) in
      let size = size_now in
      record {
        calls = calls ++ goes_on.calls;
        becomes = on a b c goes_on.calls calls goes_on.becomes becomes;
        exchange = record {
          in_turn = lift places goes_on.calls (waiting_at nx.p k (stand_of goes_on.calls nx.p) T) k T goes_on.go nx.leading refl calls ra.asked (ra.of_message of) others goes_on.in_turn;
          ends = ap (λ v. unless v (turn_sending (next_sender (calls ++ goes_on.calls) 0 places) (turns_in (calls ++ goes_on.calls) places (over (outcome_by (calls ++ goes_on.calls) 0 places))))) newest;
        };
        reads_none = reads_behind e nx.p.member.socket nx.p.member.until (settled e ms) calls goes_on.calls run.asked goes_on.reads_none;
        silent = silent_now calls own all kept (ap count_sent (box_now calls own) ∙ (count_alike _ _ alike ∙ count_begun e nx.p.member.socket nx.p.member.until ms answer calls ns h));
        few = omega (arith, items, one, room, before, size);
        faults = faults ∙ goes_on.faults;
      }

  unshut_by : (answer : SendAnswer) (calls : List Call) → IsStopped (encoding_of (is_stream m.connection.stack) (layers_of boxed m.connection.chain)) m.connection.socket until ms answer calls ns → ms.shut ≡ false
  unshut_by answer calls h = stopped_open (is_stream m.connection.stack) (layers_of boxed m.connection.chain) m.connection.socket until ms answer calls ns h sound_m

  -- its call was timed
  pub timed_step : (time : ℕ) → ((i : ℕ) (x : Member X F) → slice_get members i ≡ Some x → AreFramers (layers_of boxed x.connection.chain)) → DrivesOut boxed Becomes b c net' net'' until (pushed.Timed time) m n → IsSentOver boxed Becomes a c net net'' places outcome.Timed (slice_set members k n)
  timed_step time all d =
      let p = pushed_at (pushed.Timed time) d.driven.calls d.driven.pushed_by in
      stop_step (send.Timed time) outcome.Timed d.driven.calls (λ bytes. refl) d.driven.becomes d.adds.faults d.kept all (let none = ap (λ (l : List Item). length l) p.2 in omega (arith, none)) (unshut_by (send.Timed time) d.driven.calls d.driven.pushed_by.1) p.0 p.1

  -- or failed
  pub failed_step : (cause : Cause) → ((i : ℕ) (x : Member X F) → slice_get members i ≡ Some x → AreFramers (layers_of boxed x.connection.chain)) → DrivesOut boxed Becomes b c net' net'' until (pushed.Failed cause) m n → IsSentOver boxed Becomes a c net net'' places (outcome.DataFailed cause) (slice_set members k n)
  failed_step cause all d =
      let p = pushed_at (pushed.Failed cause) d.driven.calls d.driven.pushed_by in
      stop_step (send.Failed cause) (outcome.DataFailed cause) d.driven.calls (λ bytes. refl) d.driven.becomes d.adds.faults d.kept all (let one = ap (λ (l : List Item). length l) p.2 in omega (arith, one)) (unshut_by (send.Failed cause) d.driven.calls d.driven.pushed_by.1) p.0 p.1

  -- a layer refuses the message
  pub refused_step : (number layer : ℕ) → ((i : ℕ) (x : Member X F) → slice_get members i ≡ Some x → AreFramers (layers_of boxed x.connection.chain)) → DrivesOut boxed Becomes b c net' net'' until (pushed.NotSpeakable number layer) m n → IsSentOver boxed Becomes a c net net'' places (outcome.NotSpeakable k number layer) (slice_set members k n)
  refused_step number layer all d =
      let e = nx.p.member.encoding in
      let p = pushed_at (pushed.NotSpeakable number layer) d.driven.calls d.driven.pushed_by in
      let h = p.3 in
      let tail : queued ns ≡ T = tail_now h.queue in
      let stand : stand_of goes_on.calls nx.p ≡ refused number layer T = alike_stand _ _ nx.stands.box ∙ (p.0 ∙ ap (refused number layer) tail) in
      let w = waiting_at nx.p k (stand_of goes_on.calls nx.p) T in
      let v = waiting_at nx.p k (refused number layer T) T in
      let next : next_sender goes_on.calls 0 places ≡ Some v = leads_next goes_on.calls goes_on.calls w v 0 k places (record { others = λ t other. refl }) (record { place = refl; number = refl; order = refl; waits = ap (turns.waiting_by nx.p k) stand }) nx.leading in
      let same : ns.sent ≡ ms.sent = ap (λ (x : Sender). x.sent) h.kept in
      let few = count_few members in
      let before = goes_on.items in
      let size = size_now in
      record {
        calls = goes_on.calls;
        becomes = none_called d.driven.calls h.nothing_called d.driven.becomes;
        exchange = record {
          in_turn = goes_on.in_turn;
          ends = ap (λ o. unless o (turn_sending (next_sender goes_on.calls 0 places) (turns_in goes_on.calls places (over (outcome_by goes_on.calls 0 places))))) (no_stop goes_on.calls goes_on.go)
              ∙ ap (λ o. turn_sending o (turns_in goes_on.calls places (over (outcome_by goes_on.calls 0 places)))) next;
        };
        reads_none = goes_on.reads_none;
        silent = silent_now [] tt all d.kept (count_standing boxed goes_on.calls nx.p m nx.stands framers sound_m ∙ sym same);
        few = omega (arith, before, few, size);
        faults = d.adds.faults ∙ goes_on.faults;
      }

  -- memory ran out
  pub memory_step : DrivesOut boxed Becomes b c net' net'' until pushed.NoMemory m n → IsSendingCut Becomes a c net net'' places
  memory_step d =
      let few = count_few members in
      let before = goes_on.items in
      let size = each_length (IsStanding boxed goes_on.calls) places members goes_on.standing in
      record {
        calls = goes_on.calls;
        becomes = none_called d.driven.calls d.driven.pushed_by.1.nothing_called d.driven.becomes;
        in_turn = goes_on.in_turn;
        few = omega (arith, before, few, size);
        faults = d.adds.faults ∙ goes_on.faults;
      }
