-- A new group whose members were handed their messages is ready for its exchange.
use Rattle.std.proofs.Common.{◌≡◌, inl, inr, ℕ, zero, suc, ◌+◌, ◌≤◌, false, List, [], ◌∷◌, length, slice_get, Option, Some, None, refl, sym, ap, ◌∙◌, subst, arith}
use Rattle.std.specs.Prelude.{slice_index_or}
use Rattle.taps_framer.specs.declared.framer.Framer as framer
use Rattle.taps_chain.specs.ChainLaws.{AreFramers}
use Rattle.taps_chain.specs.Layers.{layers_of}
use Rattle.taps_stack.specs.StackTable.{is_stream}
use Rattle.taps_message.specs.Queues.{Queue}
use Rattle.taps_socket.specs.declared.item.Item.{Item}
use Rattle.taps_socket.specs.Net.{Net}
use Rattle.taps_connection.specs.declared.sender.Begun.{Begun}
use Rattle.taps_connection.specs.declared.sender.Sender.{Sender}
use Rattle.taps_connection.specs.Conditions.{IsHeld}
use Rattle.taps_connection.specs.Encodings.{Encoding, encoding_of}
use Rattle.taps_connection.specs.Outboxes.{Outbox, take_turn}
use Rattle.taps_connection.specs.Senders.{queued, rest_by, settled, settled_by}
use Rattle.taps_connection.specs.Sources.{unread_of}
use Rattle.taps_connection.specs.Unread.{first_unread}
use Rattle.taps_exchange.specs.Decodings.{decoding_of}
use Rattle.taps_exchange.proofs.Kept.{count_first}
use Rattle.taps_group.specs.Closes.{MayClose, sockets_of}
use Rattle.taps_group.specs.declared.group.Group.{Group}
use Rattle.taps_group.specs.declared.member.Member.{Member}
use Rattle.taps_group.specs.Groups.{IsSoundGroup}
use Rattle.taps_group.specs.Orders.{orders_of}
use Rattle.taps_group_exchange.specs.declared.addressed.Addressed.{Addressed}
use Rattle.taps_group_exchange.specs.Handing.{queue_of, order_of}
use Rattle.taps_group_exchange.specs.Members.{GroupTerms, own_priority, place_at, places_from}
use Rattle.taps_group_exchange.specs.Preparing.{with_priorities, AreHanded, IsGroupFor, IsHanded, IsPrioritized, IsReady, IsToldAt, IsUnused}
use Rattle.taps_group_exchange.specs.Standing.{AllOf, ArePlaced, AreNew, EachAt, IsAlike, IsNew, IsPlacedBefore, IsStanding, MayTalk, one_if, count_shut}
use Rattle.taps_group_exchange.proofs.HandingOn.{counted_in, placed_in, priority_there}

new_there : {X : Type 0} {F : X → Type 0} (boxed : (x : X) → framer.Ghosts (F x)) (piece at : ℕ) (trace : List Item) (members : List (Member X F)) (k : ℕ) (m : Member X F) → slice_get members k ≡ Some m → AreNew boxed piece at trace members → IsNew boxed piece at trace m
new_there boxed piece at trace [] k m there h = (let none : Option (Member _ _) = None in let z : none ≡ Some m = there in absurd (cc))
new_there boxed piece at trace (x ∷ members) zero m there h = subst (IsNew boxed piece at trace) (let same : x ≡ m = cc in same) h.0
new_there boxed piece at trace (x ∷ members) (suc k) m there h = new_there boxed piece at trace members k m there h.1

-- a sender that accepted messages at a time, and sent none
module _ (at : ℕ) (q : Queue) (s : Sender) (was : Sender) (begun : s.begun ≡ None) (sent : s.sent ≡ 0) (expired : s.expired ≡ None) (queue : s.queue.queue ≡ q) (e : Encoding) where
  settled_is : settled e s ≡ take_turn e s.moment 0 None q.queued
  settled_is =
      ap (settled_by e s) begun
      ∙ (ap (λ v. take_turn e s.moment v s.expired (queued s)) sent
      ∙ (ap (λ v. take_turn e s.moment 0 v (queued s)) expired
      ∙ ap (λ (v : Queue). take_turn e s.moment 0 None v.queued) queue))

  pub alike : IsToldAt at q was s → IsAlike (take_turn e at 0 None q.queued) (settled e s)
  alike (inl told) = inl (ap (λ t. take_turn e t 0 None q.queued) (sym told) ∙ sym settled_is)
  alike (inr none) =
      let now : settled e s ≡ take_turn e s.moment 0 None [] = settled_is ∙ ap (λ (v : Queue). take_turn e s.moment 0 None v.queued) none.0 in
      let then : take_turn e at 0 None q.queued ≡ take_turn e at 0 None [] = ap (λ (v : Queue). take_turn e at 0 None v.queued) none.0 in
      inr (record {
        one = ap (λ (v : Outbox). v.stand) then;
        other = ap (λ (v : Outbox). v.stand) now;
        sent = ap (λ (v : Outbox). v.sent) then ∙ sym (ap (λ (v : Outbox). v.sent) now);
        expired = ap (λ (v : Outbox). v.expired) then ∙ sym (ap (λ (v : Outbox). v.expired) now);
      })

each_from : {X : Type 0} {F : X → Type 0} (boxed : (x : X) → framer.Ghosts (F x)) (g : GroupTerms) (at first : ℕ) (members : List (Member X F)) → ((i : ℕ) (n : Member X F) → slice_get members i ≡ Some n → IsStanding boxed [] (place_at g at (first + i) n.connection.socket) n) →
    EachAt (IsStanding boxed []) (places_from g at first (sockets_of members)) members
each_from boxed g at first [] h = tt
each_from boxed g at first (m ∷ members) h =
    let here : first + 0 ≡ first = omega arith in (
      subst (λ v. IsStanding boxed [] (place_at g at v m.connection.socket) m) here (h zero m refl),
      each_from boxed g at (first + 1) members (λ i n there. let next : first + suc i ≡ first + 1 + i = omega arith in subst (λ v. IsStanding boxed [] (place_at g at v n.connection.socket) n) next (h (suc i) n there)),
    )

none_shut_in : {X : Type 0} {F : X → Type 0} (members : List (Member X F)) → ((i : ℕ) (n : Member X F) → slice_get members i ≡ Some n → n.connection.sender.shut ≡ false) → count_shut members ≡ 0
none_shut_in [] h = refl
none_shut_in (m ∷ members) h =
    let here : one_if m.connection.sender.shut ≡ 0 = ap one_if (h zero m refl) in
    let rest = none_shut_in members (λ i n there. h (suc i) n there) in
    omega (arith, here, rest)

-- priorities leave the sockets, and members that accepted nothing
pub priorities_sockets : {X : Type 0} {F : X → Type 0} (priorities : List ℕ) (members : List (Member X F)) → sockets_of (with_priorities priorities members) ≡ sockets_of members
priorities_sockets [] members = refl
priorities_sockets (p ∷ priorities) [] = refl
priorities_sockets (p ∷ priorities) (m ∷ members) = ap (λ v. m.connection.socket ∷ v) (priorities_sockets priorities members)

module _ {X : Type 0} {F : X → Type 0} (boxed : (x : X) → framer.Ghosts (F x)) (t : GroupTerms) (at : ℕ) (net : Net) (priorities : List ℕ) (messages : List Addressed) (g h : Group X F) (fits : IsGroupFor boxed t at net priorities messages g)
    (set : IsPrioritized priorities g h) where
  pub all_unused : AllOf (IsUnused at) h.members.items
  all_unused k n there =
      let (m, (was, is)) = priority_there priorities k g.members.items n (ap (λ l. slice_get l k) (sym set.members) ∙ there) in
      let new = new_there boxed g.piece at net.trace g.members.items k m was fits.fresh.each in
      subst (IsUnused at) (sym is) (record { since = new.since; sender = new.sender; before = new.before })

  pub none_ordered : h.order.items ≡ []
  none_ordered = ap (λ (v : Group _ _). v.order.items) set.rest ∙ fits.fresh.none_accepted

module _ {X : Type 0} {F : X → Type 0} (boxed : (x : X) → framer.Ghosts (F x)) (t : GroupTerms) (at : ℕ) (net : Net) (priorities : List ℕ) (messages : List Addressed) (g h k : Group X F) (fits : IsGroupFor boxed t at net priorities messages g)
    (set : IsPrioritized priorities g h) (hands : AreHanded at messages h k) (sound : IsSoundGroup boxed k) (same : sockets_of k.members.items ≡ sockets_of g.members.items) where
  -- what a member was, and what it was handed
  pub record Traced (place : ℕ) (n : Member X F) : Type 0 where
    pub m : Member X F
    pub there : slice_get g.members.items place ≡ Some m
    pub handed : IsHanded at (queue_of at messages place) (record m { priority = slice_index_or priorities place m.priority }) n
    pub fresh : IsNew boxed g.piece at net.trace m

  traced : (place : ℕ) (n : Member X F) → slice_get k.members.items place ≡ Some n → Traced place n
  traced place n there =
      let (m1, (there1, was)) = hands.each place n there in
      let (m, (there0, is)) = priority_there priorities place g.members.items m1 (ap (λ l. slice_get l place) (sym set.members) ∙ there1) in
      record {
        m = m;
        there = there0;
        handed = subst (λ v. IsHanded at (queue_of at messages place) v n) is was;
        fresh = new_there boxed g.piece at net.trace g.members.items place m there0 fits.fresh.each;
      }

  module _ (place : ℕ) (n : Member X F) (there : slice_get k.members.items place ≡ Some n) (was : Traced place n) where
    begun : n.connection.sender.begun ≡ None
    begun = ap (λ (v : Sender). v.begun) was.handed.sender ∙ ap (λ (v : Sender). v.begun) was.fresh.sender

    still_open : n.connection.sender.shut ≡ false
    still_open = ap (λ (v : Sender). v.shut) was.handed.sender ∙ ap (λ (v : Sender). v.shut) was.fresh.sender

    queue : n.connection.sender.queue.queue ≡ queue_of at t.messages place
    queue = was.handed.queue ∙ ap (λ l. queue_of at l place) fits.messages_are

    stack : n.connection.stack ≡ t.target.stack
    stack = ap (λ v. v.stack) was.handed.kept ∙ (fits.each place was.m was.there).stack

    layers : layers_of boxed n.connection.chain ≡ t.layers
    layers = ap (λ v. layers_of boxed v.chain) was.handed.kept ∙ (fits.each place was.m was.there).layers

    unread : unread_of n.connection.receiver.source ≡ first_unread n.connection.stack g.piece (length (layers_of boxed n.connection.chain))
    unread = subst (λ v. unread_of v.receiver.source ≡ first_unread v.stack g.piece (length (layers_of boxed v.chain))) (sym was.handed.kept) was.fresh.unread

    told : IsToldAt at (queue_of at t.messages place) was.m.connection.sender n.connection.sender
    told = subst (λ l. IsToldAt at (queue_of at l place) was.m.connection.sender n.connection.sender) fits.messages_are was.handed.moment

    standing_at : IsStanding boxed [] (place_at t at place n.connection.socket) n
    standing_at = record {
      socket = refl;
      encoding = ap (λ s. encoding_of (is_stream s) (layers_of boxed n.connection.chain)) stack ∙ ap (encoding_of (is_stream t.target.stack)) layers;
      decoding = ap (λ s. decoding_of (is_stream s) (layers_of boxed n.connection.chain)) stack ∙ ap (decoding_of (is_stream t.target.stack)) layers;
      priority = was.handed.priority ∙ (ap (slice_index_or priorities place) (fits.each place was.m was.there).priority ∙ ap (λ l. slice_index_or l place (own_priority t place)) fits.priorities_are);
      orders = (sound.each place n there).orders ∙ (ap (orders_of place) hands.order ∙ ap (λ l. orders_of place (order_of at l)) fits.messages_are);
      counted = counted_in at t.messages place ∙ ap (λ (q : Queue). q.accepted) (sym queue);
      box = alike at (queue_of at t.messages place) n.connection.sender was.m.connection.sender begun
          (ap (λ (v : Sender). v.sent) was.handed.sender ∙ ap (λ (v : Sender). v.sent) was.fresh.sender) (ap (λ (v : Sender). v.expired) was.handed.sender ∙ ap (λ (v : Sender). v.expired) was.fresh.sender)
          queue (encoding_of (is_stream t.target.stack) t.layers) told;
      placed = record {
        queued_placed = subst (λ (q : Queue). ArePlaced q.accepted q.queued) (sym queue) (placed_in at t.messages place);
        begun_placed = subst (λ (b : Option Begun). IsPlacedBefore n.connection.sender.queue.queue.accepted b (queued n.connection.sender)) (sym begun) tt;
      };
      none_begun = begun;
      unread = unread ∙ ap (λ p. first_unread n.connection.stack p (length (layers_of boxed n.connection.chain))) fits.piece;
    }

    talk_at : MayTalk boxed net n
    talk_at = record {
      held =
          let shut : IsHeld net.trace was.m.connection.socket (is_stream was.m.connection.stack) n.connection.sender.shut false =
          subst (λ b. IsHeld net.trace was.m.connection.socket (is_stream was.m.connection.stack) b false) (sym still_open) was.fresh.held in
          let ended : IsHeld net.trace was.m.connection.socket (is_stream was.m.connection.stack) n.connection.sender.shut was.m.connection.receiver.ended =
          subst (λ b. IsHeld net.trace was.m.connection.socket (is_stream was.m.connection.stack) n.connection.sender.shut b) (sym was.fresh.goes_on) shut in
          subst (λ v. IsHeld net.trace v.socket (is_stream v.stack) n.connection.sender.shut v.receiver.ended) (sym was.handed.kept) ended;
      room = subst (λ (b : Option Begun). rest_by b ≤ (net.traffic n.connection.socket).room) (sym begun) (omega arith);
      framers = subst (λ v. AreFramers (layers_of boxed v.chain)) (sym was.handed.kept) was.fresh.framers;
      receiving = (sound.each place n there).receiving;
      none_given = count_first n.connection.stack (length (layers_of boxed n.connection.chain)) g.piece (unread_of n.connection.receiver.source) unread;
      goes_on = ap (λ v. v.receiver.ended) was.handed.kept ∙ was.fresh.goes_on;
    }

  pub ready : IsReady boxed t at net k
  ready = record {
    standing = each_from boxed t at 0 k.members.items (λ i n there. let zero_more : i ≡ 0 + i = omega arith in subst (λ v. IsStanding boxed [] (place_at t at v n.connection.socket) n) zero_more (standing_at i n there (traced i n there)));
    opened = record { may_close = subst (MayClose net.trace) (sym same) fits.fresh.opened.may_close; idle = fits.fresh.opened.idle };
    talk = λ i n there. talk_at i n there (traced i n there);
    none_shut = none_shut_in k.members.items (λ i n there. still_open i n there (traced i n there));
  }
