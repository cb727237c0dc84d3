-- One turn of the loop in which the members send.
use Rattle.std.proofs.Common.{◌≡◌, ℕ, ◌+◌, ◌<◌, ◌≤◌, ◌^◌, Bool, true, false, List, ◌++◌, length, slice_get, slice_set, Option, Some, None, refl, sym, ap, ◌∙◌, subst, arith}
use Rattle.std.specs.Prelude.{◌==◌, Result, Ok, Err}
use Rattle.std.specs.Option.{option_map}
use Rattle.std.proofs.lemmas.Option.{slice_get-map, slice_get_within}
use Rattle.std.proofs.lemmas.List.{length-map}
use Rattle.std.proofs.lemmas.Bool.{eq-eqb}
use Rattle.taps_base.specs.declared.no_memory.NoMemory.{NoMemory}
use Rattle.taps_framer.specs.declared.framer.Framer as framer
use Rattle.taps_chain.specs.ChainLaws.{AreFramers}
use Rattle.taps_chain.specs.Layers.{layers_of}
use Rattle.taps_stack.specs.StackTable.{is_stream}
use Rattle.taps_socket.specs.Calls.{Call}
use Rattle.taps_socket.specs.Net.{Net}
use Rattle.taps_socket.specs.Shows.{Shows}
use Rattle.taps_connection.specs.declared.sender.Sender.{Sender}
use Rattle.taps_connection.specs.declared.sender.Pushed.{Pushed}
use Rattle.taps_connection.specs.declared.sender.Pushed.TheVariants as pushed
use Rattle.taps_connection.specs.Conditions.{IsHeld}
use Rattle.taps_connection.specs.Encodings.{encoding_of}
use Rattle.taps_connection.specs.Outboxes.{all_out}
use Rattle.taps_connection.specs.Senders.{queued, waiting_number, rest_of, pushed_items, shut_items}
use Rattle.taps_connection.specs.Sound.{IsSound}
use Rattle.taps_exchange.specs.declared.outcome.Outcome.{Outcome}
use Rattle.taps_exchange.specs.Turns.{Place, stand_of}
use Rattle.taps_exchange.proofs.Behind.{pushed_own}
use Rattle.taps_exchange.proofs.SendingAll.{sent_open, stopped_open, sent_fewer, expired_fewer}
use Rattle.taps_group.specs.Closes.{sockets_of, IsOpen}
use Rattle.taps_group.specs.declared.group.Group.{Group}
use Rattle.taps_group.specs.declared.member.Member.{Member}
use Rattle.taps_group.specs.declared.member.Waiting.{Waiting}
use Rattle.taps_group.specs.Groups.{IsSoundGroup}
use Rattle.taps_group.specs.Members.{standing_of, standings}
use Rattle.taps_group.specs.Orders.{ComesFirst, NoneWaits, waiting_in, orders_of}
use Rattle.taps_group.specs.Places.{Changes, IsAt}
use Rattle.taps_group.specs.Sending.{MayDriveOut, DrivesOut}
use Rattle.taps_group.proofs.Places.{is_at, some_at}
use Rattle.taps_group_exchange.specs.declared.sending.Sending.{Sending}
use Rattle.taps_group_exchange.specs.declared.sending.Sending.TheVariants as sending
use Rattle.taps_group_exchange.specs.GroupSendings.{AllUntil, IsToldBy, SendsOn, HasSentAll, IsSentOver, IsSendingCut, KeepsExpired}
use Rattle.taps_group_exchange.specs.Standing.{AllOf, IsStanding, EachAt, AreStanding, MayTalk, one_if, count_shut}
use Rattle.taps_group_exchange.proofs.Counting.{count_few, count_room}
use Rattle.taps_group_exchange.proofs.Others.{all_set, map_set, talks_along}
use Rattle.taps_group_exchange.proofs.SendingOn.{count_set}
use Rattle.taps_group_exchange.proofs.SendingSteps.{sent_step, expired_step, timed_step, failed_step, refused_step, memory_step}
use Rattle.taps_group_exchange.proofs.Waiting.{count_waiting, fewer_set}
use Rattle.taps_group_exchange.proofs.Waits.{alike_stand, none_out, alike_expired, none_expired}
use Rattle.taps_group_exchange.proofs.Zips.{each_map, each_and}

-- none waits: all are out
out_of : {X : Type 0} {F : X → Type 0} (boxed : (x : X) → framer.Ghosts (F x)) (calls : List Call) (places : List Place) (members : List (Member X F)) → NoneWaits (standings members) → AreStanding boxed calls places members → EachAt (λ (p : Place) (m : Member X F). stand_of calls p ≡ all_out) places members
out_of boxed calls places members none z =
    each_map (λ p m. IsStanding boxed calls p m × (waiting_number m.connection.sender ≡ None)) (λ p m. stand_of calls p ≡ all_out) places members
    (λ p m h. alike_stand _ _ h.0.box ∙ none_out p.member.encoding m.connection.sender m.connection.sender.begun (queued m.connection.sender) refl h.1)
    (each_and (IsStanding boxed calls) (λ m. waiting_number m.connection.sender ≡ None) places members (λ i m at. none i (standing_of m) (slice_get-map standing_of members i ∙ ap (option_map standing_of) at)) z)

expired_of : {X : Type 0} {F : X → Type 0} (boxed : (x : X) → framer.Ghosts (F x)) (calls : List Call) (places : List Place) (members : List (Member X F)) → NoneWaits (standings members) → AreStanding boxed calls places members → EachAt (KeepsExpired calls) places members
expired_of boxed calls places members none z =
    each_map (λ p m. IsStanding boxed calls p m × (waiting_number m.connection.sender ≡ None)) (KeepsExpired calls) places members
    (λ p m h. alike_expired _ _ h.0.box ∙ none_expired p.member.encoding m.connection.sender m.connection.sender.begun (queued m.connection.sender) refl h.1)
    (each_and (IsStanding boxed calls) (λ m. waiting_number m.connection.sender ≡ None) places members (λ i m at. none i (standing_of m) (slice_get-map standing_of members i ∙ ap (option_map standing_of) at)) z)

pub sent_all : {N : Type 0} {X : Type 0} {F : X → Type 0} (boxed : (x : X) → framer.Ghosts (F x)) (Becomes : N → List Call → N → Type 0) (a b : N) (net net' : Net) (places : List Place) (members : List (Member X F)) → NoneWaits (standings members) → SendsOn boxed Becomes a b net net' places members → HasSentAll boxed Becomes a b net net' places members
sent_all boxed Becomes a b net net' places members none s = record { sends = s; out = out_of boxed s.calls places members none s.standing; expired = expired_of boxed s.calls places members none s.standing }

-- as many members as before
pub same_size : {X : Type 0} {F : X → Type 0} (a b : List (Member X F)) → sockets_of b ≡ sockets_of a → length b ≡ length a
same_size a b e =
    let p = length-map a (λ (m : Member _ _). m.connection.socket) in
    let q = length-map b (λ (m : Member _ _). m.connection.socket) in
    let r : length (sockets_of b) ≡ length (sockets_of a) = ap (λ (l : List ℕ). length l) e in
    omega (arith, p, q, r)

-- the member that is named is there
pub named_within : {X : Type 0} {F : X → Type 0} (members : List (Member X F)) (order : List ℕ) (k : ℕ) → ComesFirst order (standings members) k → k < length members
named_within members order k c = (let w = slice_get_within (standings members) k c.standing c.at in let size = length-map members standing_of in omega (arith, w, size))

pub may_send : {X : Type 0} {F : X → Type 0} (boxed : (x : X) → framer.Ghosts (F x)) (net : Net) (until k : ℕ) (members : List (Member X F)) → k < length members → until < 2 ^ 63 → 1 ≤ net.spare → AllOf (MayTalk boxed net) members → IsAt members k (MayDriveOut net until)
may_send boxed net until k members within bounded spare talk =
    let found = some_at members k within in
    let t = talk k found.0 found.1 in
    is_at members k found.0 (MayDriveOut net until) found.1 (record { held = t.held; room = t.room; spare = spare; bounded = bounded })

waits_by : (orders : List ℕ) (place priority : ℕ) (o : Option ℕ) (w : Waiting) → waiting_in orders place priority o ≡ Some w → o ≡ None → ⊥
waits_by orders place priority None w h e = cc
waits_by orders place priority (Some n) w h e = cc

same_some : {A : Type 0} (x y : A) (o : Option A) → o ≡ Some x → o ≡ Some y → x ≡ y
same_some x y o p q = cc

pub waits_at : {X : Type 0} {F : X → Type 0} (members : List (Member X F)) (order : List ℕ) (k : ℕ) → ComesFirst order (standings members) k → IsAt members k (λ (m : Member X F). waiting_number m.connection.sender ≡ None → ⊥)
waits_at members order k c =
    let found = some_at members k (named_within members order k c) in
    let there : slice_get (standings members) k ≡ Some (standing_of found.0) = slice_get-map standing_of members k ∙ ap (option_map standing_of) found.1 in
    let is : c.standing ≡ standing_of found.0 = same_some c.standing (standing_of found.0) (slice_get (standings members) k) c.at there in
    is_at members k found.0 (λ (m : Member _ _). waiting_number m.connection.sender ≡ None → ⊥) found.1
    (waits_by (orders_of k order) k c.standing.priority (waiting_number found.0.connection.sender) c.waiting (subst (λ s. waiting_in (orders_of k order) k c.standing.priority s.waiting ≡ Some c.waiting) is c.waits))

-- a member keeps its socket where it sends
sender_socket : {X : Type 0} {F : X → Type 0} (m n : Member X F) → n ≡ record m { connection = record m.connection { sender = n.connection.sender } } → n.connection.socket ≡ m.connection.socket
sender_socket m n kept = ap (λ (v : Member _ _). v.connection.socket) kept

-- it may talk on
talks_self : {X : Type 0} {F : X → Type 0} (boxed : (x : X) → framer.Ghosts (F x)) (net net' : Net) (m n : Member X F) → n ≡ record m { connection = record m.connection { sender = n.connection.sender } } → IsHeld net'.trace m.connection.socket (is_stream m.connection.stack) n.connection.sender.shut m.connection.receiver.ended → rest_of n.connection.sender ≤ (net'.traffic m.connection.socket).room → MayTalk boxed net m → MayTalk boxed net' n
talks_self {X} {F} boxed net net' m n kept held room t =
    let v : Member X F = record m { connection = record m.connection { sender = n.connection.sender } } in
    let there : MayTalk boxed net' v = record { held = held; room = room; framers = t.framers; receiving = t.receiving; none_given = t.none_given; goes_on = t.goes_on } in
    subst (MayTalk boxed net') (sym kept) there

fewer_shut : (s : ℕ) (is_shut : Bool) → length (shut_items is_shut s) ≡ one_if is_shut
fewer_shut s true = refl
fewer_shut s false = refl

module _ {N : Type 0} {X : Type 0} {F : X → Type 0} (boxed : (x : X) → framer.Ghosts (F x)) (Becomes : N → List Call → N → Type 0) (a b c : N) (net net' net'' : Net) (g : Group X F) (members' : List (Member X F)) (k until : ℕ)
    (on : (a b c : N) (g h : List Call) → Becomes a g b → Becomes b h c → Becomes a (h ++ g) c) (shows : (calls : List Call) → Becomes b calls c → Shows net' calls net'')
    (sound : IsSoundGroup boxed g) (opened : IsOpen net' g.members.items) (named : ComesFirst g.order.items (standings g.members.items) k) (talk : AllOf (MayTalk boxed net') g.members.items) where
  framers_at : (i : ℕ) (x : Member X F) → slice_get g.members.items i ≡ Some x → AreFramers (layers_of boxed x.connection.chain)
  framers_at i x at = (talk i x at).framers

  pub goes_sends : (places : List Place) (answer : Pushed) → IsToldBy k answer (Ok sending.Goes) → AllUntil until places → Changes (DrivesOut boxed Becomes b c net' net'' until answer) k g.members.items members' → SendsOn boxed Becomes a b net net' places g.members.items → SendsOn boxed Becomes a c net net'' places members'
  goes_sends places (pushed.Sent number) told untils ch s = subst (SendsOn boxed Becomes a c net net'' places) (sym ch.changed) (sent_step boxed Becomes a b c net net' net'' places g.members.items k until ch.was ch.becomes g.order.items on shows ch.at opened.may_close.once sound.each named (framers_at k ch.was ch.at) untils s number ch.by)
  goes_sends places pushed.Empty told untils ch s = absurd told
  goes_sends places (pushed.Expired number) told untils ch s = subst (SendsOn boxed Becomes a c net net'' places) (sym ch.changed) (expired_step boxed Becomes a b c net net' net'' places g.members.items k until ch.was ch.becomes g.order.items on shows ch.at opened.may_close.once sound.each named (framers_at k ch.was ch.at) untils s number ch.by)
  goes_sends places (pushed.Timed at) told untils ch s = absurd (cc)
  goes_sends places (pushed.Failed cause) told untils ch s = absurd (cc)
  goes_sends places (pushed.NotSpeakable number layer) told untils ch s = absurd (cc)
  goes_sends places pushed.NoMemory told untils ch s = absurd (let e = told.1 in cc)

  over_is : (o p : Outcome) → Ok (sending.Over o) ≡ (let r : Result Sending NoMemory = Ok (sending.Over p) in r) → p ≡ o
  over_is o p e = cc

  pub over_sends : (places : List Place) (o : Outcome) (answer : Pushed) → IsToldBy k answer (Ok (sending.Over o)) → AllUntil until places → Changes (DrivesOut boxed Becomes b c net' net'' until answer) k g.members.items members' → SendsOn boxed Becomes a b net net' places g.members.items → IsSentOver boxed Becomes a c net net'' places o members'
  over_sends places o (pushed.Sent number) told untils ch s = absurd (cc)
  over_sends places o pushed.Empty told untils ch s = absurd told
  over_sends places o (pushed.Expired number) told untils ch s = absurd (cc)
  over_sends places o (pushed.Timed at) told untils ch s =
      subst (λ v. IsSentOver boxed Becomes a c net net'' places v members') (over_is o _ told)
      (subst (IsSentOver boxed Becomes a c net net'' places _) (sym ch.changed) (timed_step boxed Becomes a b c net net' net'' places g.members.items k until ch.was ch.becomes g.order.items on shows ch.at opened.may_close.once sound.each named (framers_at k ch.was ch.at) untils s at framers_at ch.by))
  over_sends places o (pushed.Failed cause) told untils ch s =
      subst (λ v. IsSentOver boxed Becomes a c net net'' places v members') (over_is o _ told)
      (subst (IsSentOver boxed Becomes a c net net'' places _) (sym ch.changed) (failed_step boxed Becomes a b c net net' net'' places g.members.items k until ch.was ch.becomes g.order.items on shows ch.at opened.may_close.once sound.each named (framers_at k ch.was ch.at) untils s cause framers_at ch.by))
  over_sends places o (pushed.NotSpeakable number layer) told untils ch s =
      subst (λ v. IsSentOver boxed Becomes a c net net'' places v members') (over_is o _ told)
      (subst (IsSentOver boxed Becomes a c net net'' places _) (sym ch.changed) (refused_step boxed Becomes a b c net net' net'' places g.members.items k until ch.was ch.becomes g.order.items on shows ch.at opened.may_close.once sound.each named (framers_at k ch.was ch.at) untils s number layer framers_at ch.by))
  over_sends places o pushed.NoMemory told untils ch s = absurd (let e = told.1 in cc)

  pub cut_sends : (places : List Place) (none : NoMemory) (answer : Pushed) → IsToldBy k answer (Err none) → AllUntil until places → Changes (DrivesOut boxed Becomes b c net' net'' until answer) k g.members.items members' → SendsOn boxed Becomes a b net net' places g.members.items → IsSendingCut Becomes a c net net'' places
  cut_sends places none (pushed.Sent number) told untils ch s = absurd (cc)
  cut_sends places none pushed.Empty told untils ch s = absurd told
  cut_sends places none (pushed.Expired number) told untils ch s = absurd (cc)
  cut_sends places none (pushed.Timed at) told untils ch s = absurd (cc)
  cut_sends places none (pushed.Failed cause) told untils ch s = absurd (cc)
  cut_sends places none (pushed.NotSpeakable number layer) told untils ch s = absurd (cc)
  cut_sends places none pushed.NoMemory told untils ch s = memory_step boxed Becomes a b c net net' net'' places g.members.items k until ch.was ch.becomes g.order.items on shows ch.at opened.may_close.once sound.each named (framers_at k ch.was ch.at) untils s ch.by

  -- fewer messages wait
  pub goes_fewer : (answer : Pushed) → IsToldBy k answer (Ok sending.Goes) → Changes (DrivesOut boxed Becomes b c net' net'' until answer) k g.members.items members' → count_waiting members' < count_waiting g.members.items
  goes_fewer (pushed.Sent number) told ch = subst (λ l. count_waiting l < count_waiting g.members.items) (sym ch.changed) (fewer_set g.members.items k ch.was ch.becomes ch.at (sent_fewer (encoding_of (is_stream ch.was.connection.stack) (layers_of boxed ch.was.connection.chain)) ch.was.connection.socket until ch.was.connection.sender number ch.by.driven.calls ch.becomes.connection.sender ch.by.driven.pushed_by))
  goes_fewer pushed.Empty told ch = absurd told
  goes_fewer (pushed.Expired number) told ch = subst (λ l. count_waiting l < count_waiting g.members.items) (sym ch.changed) (fewer_set g.members.items k ch.was ch.becomes ch.at (expired_fewer (encoding_of (is_stream ch.was.connection.stack) (layers_of boxed ch.was.connection.chain)) ch.was.connection.socket until ch.was.connection.sender number ch.by.driven.calls ch.becomes.connection.sender ch.by.driven.pushed_by))
  goes_fewer (pushed.Timed at) told ch = absurd (cc)
  goes_fewer (pushed.Failed cause) told ch = absurd (cc)
  goes_fewer (pushed.NotSpeakable number layer) told ch = absurd (cc)
  goes_fewer pushed.NoMemory told ch = absurd (let e = told.1 in cc)

  talks_set : (answer : Pushed) (ch : Changes (DrivesOut boxed Becomes b c net' net'' until answer) k g.members.items members') → IsHeld net''.trace ch.was.connection.socket (is_stream ch.was.connection.stack) ch.becomes.connection.sender.shut ch.was.connection.receiver.ended → AllOf (MayTalk boxed net'') members'
  talks_set answer ch held =
      all_set (λ (x : Member X F). x.connection.socket) (MayTalk boxed net') (MayTalk boxed net'') g.members.items members' k ch.was ch.becomes opened.may_close.once ch.at ch.changed
      (λ x other t. talks_along boxed net' net'' ch.was.connection.socket (pushed_items ch.was.connection.socket ch.becomes.connection.sender.shut answer) x other (pushed_own ch.was.connection.socket ch.becomes.connection.sender.shut answer) ch.by.adds.trace (ch.by.adds.others x.connection.socket (λ e. let z : (ch.was.connection.socket == x.connection.socket) ≡ true = eq-eqb ch.was.connection.socket x.connection.socket (sym e) in let w : true ≡ false = sym z ∙ other in cc)) t)
      (talks_self boxed net' net'' ch.was ch.becomes ch.by.kept held ch.by.room (talk k ch.was ch.at)) talk

  pub goes_talks : (answer : Pushed) → IsToldBy k answer (Ok sending.Goes) → Changes (DrivesOut boxed Becomes b c net' net'' until answer) k g.members.items members' → AllOf (MayTalk boxed net'') members'
  goes_talks (pushed.Sent number) told ch = talks_set (pushed.Sent number) ch ch.by.held
  goes_talks pushed.Empty told ch = absurd told
  goes_talks (pushed.Expired number) told ch = talks_set (pushed.Expired number) ch ch.by.held
  goes_talks (pushed.Timed at) told ch = absurd (cc)
  goes_talks (pushed.Failed cause) told ch = absurd (cc)
  goes_talks (pushed.NotSpeakable number layer) told ch = absurd (cc)
  goes_talks pushed.NoMemory told ch = absurd (let e = told.1 in cc)

  pub same_sockets : (answer : Pushed) → Changes (DrivesOut boxed Becomes b c net' net'' until answer) k g.members.items members' → sockets_of members' ≡ sockets_of g.members.items
  same_sockets answer ch = ap sockets_of ch.changed ∙ map_set (λ (x : Member X F). x.connection.socket) g.members.items k ch.was ch.becomes ch.at (sender_socket ch.was ch.becomes ch.by.kept)

  sound_was : (answer : Pushed) (ch : Changes (DrivesOut boxed Becomes b c net' net'' until answer) k g.members.items members') → IsSound (is_stream ch.was.connection.stack) (layers_of boxed ch.was.connection.chain) ch.was.connection.sender
  sound_was answer ch = (sound.each k ch.was ch.at).sending

  -- spare by the sending sides that were ended
  pub goes_spare : (first : ℕ) (answer : Pushed) → IsToldBy k answer (Ok sending.Goes) → Changes (DrivesOut boxed Becomes b c net' net'' until answer) k g.members.items members' → first ≤ net'.spare + count_shut g.members.items → first ≤ net''.spare + count_shut members'
  goes_spare first (pushed.Sent number) told ch h =
      let unshut = sent_open (is_stream ch.was.connection.stack) (layers_of boxed ch.was.connection.chain) ch.was.connection.socket until ch.was.connection.sender number ch.by.driven.calls ch.becomes.connection.sender ch.by.driven.pushed_by (sound_was (pushed.Sent number) ch) in
      let none : one_if ch.was.connection.sender.shut ≡ 0 = ap one_if unshut in
      let count = count_set g.members.items k ch.was ch.becomes ch.at in
      let same : count_shut members' ≡ count_shut (slice_set g.members.items k ch.becomes) = ap count_shut ch.changed in
      let spare = ch.by.adds.spare in
      let items = fewer_shut ch.was.connection.socket ch.becomes.connection.sender.shut in
      omega (arith, none, count, same, spare, items, h)
  goes_spare first pushed.Empty told ch h = absurd told
  goes_spare first (pushed.Expired number) told ch h =
      let shut : one_if ch.becomes.connection.sender.shut ≡ one_if ch.was.connection.sender.shut = ap (λ (v : Sender). one_if v.shut) ch.by.driven.pushed_by.3.kept in
      let count = count_set g.members.items k ch.was ch.becomes ch.at in
      let same : count_shut members' ≡ count_shut (slice_set g.members.items k ch.becomes) = ap count_shut ch.changed in
      let spare = ch.by.adds.spare in
      omega (arith, shut, count, same, spare, h)
  goes_spare first (pushed.Timed at) told ch h = absurd (cc)
  goes_spare first (pushed.Failed cause) told ch h = absurd (cc)
  goes_spare first (pushed.NotSpeakable number layer) told ch h = absurd (cc)
  goes_spare first pushed.NoMemory told ch h = absurd (let e = told.1 in cc)

  -- whatever came
  pub any_spare : (first : ℕ) (answer : Pushed) → ((n : ℕ) → answer ≡ pushed.Sent n → ⊥) → Changes (DrivesOut boxed Becomes b c net' net'' until answer) k g.members.items members' → first ≤ net'.spare + count_shut g.members.items → first ≤ net''.spare + length g.members.items
  any_spare first (pushed.Sent number) not ch h = absurd (not number refl)
  any_spare first pushed.Empty not ch h = (let few = count_few g.members.items in let spare = ch.by.adds.spare in omega (arith, few, spare, h))
  any_spare first (pushed.Expired number) not ch h = (let few = count_few g.members.items in let spare = ch.by.adds.spare in omega (arith, few, spare, h))
  any_spare first (pushed.Timed at) not ch h = (let few = count_few g.members.items in let spare = ch.by.adds.spare in omega (arith, few, spare, h))
  any_spare first (pushed.Failed cause) not ch h =
      let room = count_room g.members.items k ch.was ch.at (stopped_open (is_stream ch.was.connection.stack) (layers_of boxed ch.was.connection.chain) ch.was.connection.socket until ch.was.connection.sender _ ch.by.driven.calls ch.becomes.connection.sender ch.by.driven.pushed_by.1 (sound_was (pushed.Failed cause) ch)) in
      let spare = ch.by.adds.spare in
      omega (arith, room, spare, h)
  any_spare first (pushed.NotSpeakable number layer) not ch h = (let few = count_few g.members.items in let spare = ch.by.adds.spare in omega (arith, few, spare, h))
  any_spare first pushed.NoMemory not ch h = (let few = count_few g.members.items in let spare = ch.by.adds.spare in omega (arith, few, spare, h))

  pub over_not : (o : Outcome) (answer : Pushed) → IsToldBy k answer (Ok (sending.Over o)) → (n : ℕ) → answer ≡ pushed.Sent n → ⊥
  over_not o answer told n e = (let t : IsToldBy k (pushed.Sent n) (Ok (sending.Over o)) = subst (λ v. IsToldBy k v (Ok (sending.Over o))) e told in cc)

  pub cut_not : (none : NoMemory) (answer : Pushed) → IsToldBy k answer (Err none) → (n : ℕ) → answer ≡ pushed.Sent n → ⊥
  cut_not none answer told n e = (let t : IsToldBy k (pushed.Sent n) (Err none) = subst (λ v. IsToldBy k v (Err none)) e told in cc)
