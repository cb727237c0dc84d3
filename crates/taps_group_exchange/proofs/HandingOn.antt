-- The members of a new group are handed their messages one by one.
use Rattle.std.proofs.Common.{◌≡◌, ◌⊎◌, inl, inr, ℕ, zero, suc, ◌+◌, ◌≤◌, Bool, true, false, List, [], ◌∷◌, ◌++◌, map, take, length, slice_get, slice_set, Option, Some, None, refl, sym, ap, ◌∙◌, subst, arith, append_assoc, length-append}
use Rattle.std.specs.Prelude.{◌==◌, ◌&&◌, nat_le, if◌then◌else◌, filter, max, slice_index_or, Result, Ok, Err}
use Rattle.std.proofs.lemmas.Bool.{eq-eqb, eqb-true, le-leb}
use Rattle.std.proofs.lemmas.List.{append-nil, map-append}
use Rattle.std.proofs.lemmas.List.Elements.{filter-append}
use Rattle.taps_message.specs.declared.accepted.Accepted.{Accepted}
use Rattle.taps_message.specs.declared.message.Message.{Message}
use Rattle.taps_message.specs.declared.queued.PushError.{PushError}
use Rattle.taps_message.specs.declared.queued.PushError.TheVariants as error
use Rattle.taps_message.specs.Queues.{Queue, SendQueueState, empty_queue, IsRefusal, push_refusal, with_message}
use Rattle.taps_connection.specs.declared.connection.Connection.{Connection}
use Rattle.taps_connection.specs.declared.sender.Sender.{Sender}
use Rattle.taps_property.specs.declared.connection_props.ConnectionProps.{ConnectionProps}
use Rattle.taps_property.specs.declared.prop_error.PropError.{PropError}
use Rattle.taps_property.specs.declared.prop_error.PropError.TheVariants.{OutOfRange}
use Rattle.taps_property.specs.Properties.{with_taken}
use Rattle.taps_property.specs.declared.prop_value.PropValue.TheVariants.{Number}
use Rattle.taps_exchange.specs.Accepting.{handed, unless_refused}
use Rattle.taps_exchange.proofs.Accepting.{hands_on, queue_on}
use Rattle.taps_group.specs.declared.group.Group.{Group}
use Rattle.taps_group.specs.declared.member.Member.{Member}
use Rattle.taps_group.specs.Accepting.{Accepts, HasNoRoom, IsSameMember, IsSent}
use Rattle.taps_group.specs.Closes.{sockets_of}
use Rattle.taps_group.specs.Places.{Changes}
use Rattle.taps_group.specs.Properties.{priority_name, set_by, with_priority}
use Rattle.taps_group.proofs.Places.{set_here, set_there}
use Rattle.taps_group_exchange.specs.declared.addressed.Addressed.{Addressed}
use Rattle.taps_group_exchange.specs.Handing.{messages_for, queue_of, order_behind, order_of, place_unless}
use Rattle.taps_group_exchange.specs.Preparing.{with_priorities, AreHanded, HandsOn, IsHanded, IsToldAt, IsUnused, TakesOn}
use Rattle.taps_group_exchange.specs.Standing.{AllOf, ArePlaced}
use Rattle.taps_group_exchange.proofs.Others.{map_set, same_or_not}
use Rattle.taps_group_exchange.proofs.Zips.{false_by}

-- the messages of a member, with one more for it or for another
own_more : (place : ℕ) (done : List Addressed) (a : Addressed) → place ≡ a.member → messages_for place (done ++ a ∷ []) ≡ messages_for place done ++ a.message ∷ []
own_more place done a same =
    let test : (a.member == place) ≡ true = eq-eqb a.member place (sym same) in
    ap (map (λ (x : Addressed). x.message)) (filter-append (λ (x : Addressed). x.member == place) done (a ∷ []))
    ∙ (map-append (λ (x : Addressed). x.message) (filter (λ (x : Addressed). x.member == place) done) (filter (λ (x : Addressed). x.member == place) (a ∷ []))
    ∙ rw test refl)

other_more : (place : ℕ) (done : List Addressed) (a : Addressed) → (place ≡ a.member → ⊥) → messages_for place (done ++ a ∷ []) ≡ messages_for place done
other_more place done a differs =
    let test : (a.member == place) ≡ false = false_by (a.member == place) (λ e. differs (sym (eqb-true a.member place e))) in
    ap (map (λ (x : Addressed). x.message)) (filter-append (λ (x : Addressed). x.member == place) done (a ∷ []))
    ∙ (map-append (λ (x : Addressed). x.message) (filter (λ (x : Addressed). x.member == place) done) (filter (λ (x : Addressed). x.member == place) (a ∷ []))
    ∙ rw test (append-nil (messages_for place done)))

-- and the order of all
order_more : (at : ℕ) (earlier done : List Addressed) (a : Addressed) → order_behind at earlier (done ++ a ∷ []) ≡ order_behind at earlier done ++ place_unless (push_refusal (queue_of at (earlier ++ done) a.member) a.message) a.member
order_more at earlier [] a =
    append-nil (place_unless (push_refusal (queue_of at earlier a.member) a.message) a.member)
    ∙ ap (λ v. place_unless (push_refusal (queue_of at v a.member) a.message) a.member) (sym (append-nil earlier))
order_more at earlier (x ∷ done) a =
    let here = place_unless (push_refusal (queue_of at earlier x.member) x.message) x.member in
    ap (λ v. here ++ v) (order_more at (earlier ++ x ∷ []) done a)
    ∙ (ap (λ l. here ++ (order_behind at (earlier ++ x ∷ []) done ++ place_unless (push_refusal (queue_of at l a.member) a.message) a.member)) (append_assoc earlier (x ∷ []) done)
    ∙ sym (append_assoc here (order_behind at (earlier ++ x ∷ []) done) (place_unless (push_refusal (queue_of at (earlier ++ x ∷ done) a.member) a.message) a.member)))

-- no time is told after it
moment_now : (at : ℕ) (q : Queue) (s t u : Sender) → s.moment ≤ at → IsToldAt at q s t → u.moment ≡ max t.moment at → u.moment ≡ at
moment_now at q s t u before (inl e) is = omega (arith, e, is)
moment_now at q s t u before (inr e) is = (let same = e.1 in omega (arith, same, before, is))

-- one member is handed one message more
member_on : {X : Type 0} {F : X → Type 0} (at place : ℕ) (done : List Addressed) (a : Addressed) (m was now : Member X F) → place ≡ a.member → IsUnused at m → IsHanded at (queue_of at done place) m was → TakesOn a.message at was now → IsHanded at (queue_of at (done ++ a ∷ []) place) m now
member_on at place done a m was now same unused h t = record {
  queue = queue_on at (messages_for place done) a.message was.connection.sender.queue.queue now.connection.sender.queue.queue h.queue t.queue
      ∙ ap (handed at empty_queue) (sym (own_more place done a same));
  sender = hands_on m.connection.sender was.connection.sender now.connection.sender at h.sender t.sender;
  moment = inl (moment_now at (queue_of at done place) m.connection.sender was.connection.sender now.connection.sender
      (let since : m.connection.sender.moment ≡ unused.since = ap (λ (v : Sender). v.moment) unused.sender in let before = unused.before in omega (arith, since, before))
      h.moment (ap (λ (v : Sender). v.moment) t.sender));
  kept = (let put : Connection _ _ _ → Connection _ _ _ = λ v. record v { sender = now.connection.sender } in t.kept ∙ ap put h.kept);
  priority = t.priority ∙ h.priority;
}

same_some : {A : Type 0} (x y : A) → Some x ≡ Some y → x ≡ y
same_some x y e = cc

module _ {X : Type 0} {F : X → Type 0} (at : ℕ) (done : List Addressed) (a : Addressed) (g h k : Group X F) (unused : AllOf (IsUnused at) g.members.items) (was : AreHanded at done g h) (now : HandsOn a at h k) where
  each_now : (place : ℕ) (n : Member X F) → (place ≡ a.member) ⊎ (place ≡ a.member → ⊥) → slice_get (slice_set h.members.items a.member now.member.becomes) place ≡ Some n → (m : Member X F) × ((slice_get g.members.items place ≡ Some m) × IsHanded at (queue_of at (done ++ a ∷ []) place) m n)
  each_now place n (inl same) there =
      let here : slice_get h.members.items place ≡ Some now.member.was = ap (slice_get h.members.items) same ∙ now.member.at in
      let (m, (first, handed_so)) = was.each place now.member.was here in
      let both : now.member.becomes ≡ n = same_some now.member.becomes n (sym (set_here h.members.items a.member now.member.becomes now.member.was now.member.at) ∙ (ap (slice_get (slice_set h.members.items a.member now.member.becomes)) (sym same) ∙ there)) in
      (m, (first, subst (IsHanded at (queue_of at (done ++ a ∷ []) place) m) both (member_on at place done a m now.member.was now.member.becomes same (unused place m first) handed_so now.member.by)))
  each_now place n (inr differs) there =
      let before : slice_get h.members.items place ≡ Some n = sym (set_there h.members.items a.member place now.member.becomes differs) ∙ there in
      let (m, (first, handed_so)) = was.each place n before in
      (m, (first, subst (λ v. IsHanded at (handed at empty_queue v) m n) (sym (other_more place done a differs)) handed_so))

  queue_was : now.member.was.connection.sender.queue.queue ≡ queue_of at done a.member
  queue_was = (let (m, (first, handed_so)) = was.each a.member now.member.was now.member.at in handed_so.queue)

  pub hands_more : AreHanded at (done ++ a ∷ []) g k
  hands_more = record {
    each = λ place n there. each_now place n (same_or_not place a.member) (ap (λ l. slice_get l place) (sym now.member.changed) ∙ there);
    order = now.order ∙ (ap (λ l. l ++ place_unless (push_refusal now.member.was.connection.sender.queue.queue a.message) a.member) was.order
        ∙ (ap (λ q. order_of at done ++ place_unless (push_refusal q a.message) a.member) queue_was ∙ sym (order_more at [] done a)));
  }

-- a message that is sent, or refused by the member's queue
pub hands_sent : {X : Type 0} {F : X → Type 0} (a : Addressed) (at : ℕ) (g h : Group X F) (ok : Unit {0}) → IsSent a.member a.message at g (Ok ok) h → HandsOn a at g h
hands_sent a at g h ok s =
    let ch = s.0 in
    let q = ch.was.connection.sender.queue.queue in
    record {
      member = record {
        was = ch.was;
        becomes = ch.becomes;
        at = ch.at;
        changed = ch.changed;
        by = record {
          queue = ap (λ (v : SendQueueState). v.queue) ch.by.pushed.1 ∙ ap (λ r. unless_refused r q (with_message a.message at q)) (sym ch.by.pushed.0);
          sender = ch.by.sender;
          kept = ch.by.kept;
          priority = ch.by.priority;
        };
      };
      order = s.1.order ∙ ap (λ r. g.order.items ++ place_unless r a.member) (sym ch.by.pushed.0);
    }

refused_by : (o : Option PushError) (q : Queue) (m : Message) (at : ℕ) (place : ℕ) (order : List ℕ) (e : PushError) → IsRefusal o e → (e ≡ error.NoMemory → ⊥) → (q ≡ unless_refused o q (with_message m at q)) × (order ++ [] ≡ order ++ place_unless o place)
refused_by None q m at place order e is told = absurd (told is)
refused_by (Some refusal) q m at place order e is told = (refl, refl)

pub hands_refused : {X : Type 0} {F : X → Type 0} (a : Addressed) (at : ℕ) (g h : Group X F) (refused : PushError × Message) → (refused.0 ≡ error.NoMemory → ⊥) → IsSent a.member a.message at g (Err refused) h → HandsOn a at g h
hands_refused a at g h refused told s = by s.0
  where
    by : (HasNoRoom a.message refused × Changes IsSameMember a.member g.members.items h.members.items) ⊎ Changes (Accepts a.message at (Err refused)) a.member g.members.items h.members.items → HandsOn a at g h
    by (inl none) = absurd (told none.0.told)
    by (inr ch) =
        let q = ch.was.connection.sender.queue.queue in
        let r = refused_by (push_refusal q a.message) q a.message at a.member g.order.items refused.0 ch.by.pushed.0 told in
        record {
          member = record {
            was = ch.was;
            becomes = ch.becomes;
            at = ch.at;
            changed = ch.changed;
            by = record {
              queue = ap (λ (v : SendQueueState). v.queue) ch.by.pushed.2 ∙ r.0;
              sender = ch.by.sender;
              kept = ch.by.kept;
              priority = ch.by.priority;
            };
          };
          order = s.1.order ∙ r.1;
        }

-- either way the sockets stay
set_sockets : {X : Type 0} {F : X → Type 0} (How : Member X F → Member X F → Type 0) (place : ℕ) (members members' : List (Member X F)) → ((m n : Member X F) → How m n → n.connection.socket ≡ m.connection.socket) → Changes How place members members' → sockets_of members' ≡ sockets_of members
set_sockets How place members members' same ch = ap sockets_of ch.changed ∙ map_set (λ (x : Member _ _). x.connection.socket) members place ch.was ch.becomes ch.at (same ch.was ch.becomes ch.by)

pub sent_sockets : {X : Type 0} {F : X → Type 0} (place : ℕ) (message : Message) (at : ℕ) (g h : Group X F) (result : Result (Unit {0}) (PushError × Message)) → IsSent place message at g result h → sockets_of h.members.items ≡ sockets_of g.members.items
sent_sockets place message at g h (Ok ok) s = set_sockets (Accepts message at (Ok ok)) place g.members.items h.members.items (λ m n k. ap (λ v. v.socket) k.kept) s.0
sent_sockets place message at g h (Err refused) s = by s.0
  where
    by : (HasNoRoom message refused × Changes IsSameMember place g.members.items h.members.items) ⊎ Changes (Accepts message at (Err refused)) place g.members.items h.members.items → sockets_of h.members.items ≡ sockets_of g.members.items
    by (inl none) = set_sockets IsSameMember place g.members.items h.members.items (λ m n k. ap (λ (v : Member _ _). v.connection.socket) k.kept) none.1
    by (inr ch) = set_sockets (Accepts message at (Err refused)) place g.members.items h.members.items (λ m n k. ap (λ v. v.socket) k.kept) ch

-- before any message
pub hands_none : {X : Type 0} {F : X → Type 0} (at : ℕ) (g : Group X F) → AllOf (IsUnused at) g.members.items → g.order.items ≡ [] → AreHanded at [] g g
hands_none at g unused none = record {
  each = λ place n there.
      let u = unused place n there in (
        n,
        (
          there,
          record {
            queue = ap (λ (v : Sender). v.queue.queue) u.sender;
            sender = refl;
            moment = inr (refl, refl);
            kept = refl;
            priority = refl;
          },
        ),
      );
  order = none;
}

-- the numbers of the messages of a queue are their places
record AreNumbered (q : Queue) : Type 0 where
  counted : length q.queued ≡ q.accepted
  placed : ArePlaced q.accepted q.queued

placed_more : (n : ℕ) (xs : List Accepted) (x : Accepted) → x.number ≡ n → ArePlaced n xs → ArePlaced (n + 1) (xs ++ x ∷ [])
placed_more n [] x is h = (omega (arith, is), tt)
placed_more n (y ∷ xs) x is h =
    let size = length-append xs (x ∷ []) in
    let here = h.0 in
    (omega (arith, size, here), placed_more n xs x is h.1)

numbered_unless : (refusal : Option PushError) (at : ℕ) (q : Queue) (m : Message) → AreNumbered q → AreNumbered (unless_refused refusal q (with_message m at q))
numbered_unless (Some refusal) at q m h = h
numbered_unless None at q m h = record {
  counted = (let size = length-append q.queued (record { number = q.accepted; at = at; message = m } ∷ []) in let was = h.counted in omega (arith, size, was));
  placed = placed_more q.accepted q.queued (record { number = q.accepted; at = at; message = m }) refl h.placed;
}

numbered_all : (at : ℕ) (q : Queue) (messages : List Message) → AreNumbered q → AreNumbered (handed at q messages)
numbered_all at q [] h = h
numbered_all at q (m ∷ messages) h = numbered_all at (unless_refused (push_refusal q m) q (with_message m at q)) messages (numbered_unless (push_refusal q m) at q m h)

pub counted_in : (at : ℕ) (addressed : List Addressed) (place : ℕ) → length (queue_of at addressed place).queued ≡ (queue_of at addressed place).accepted
counted_in at addressed place = (numbered_all at empty_queue (messages_for place addressed) (record { counted = refl; placed = tt })).counted

pub placed_in : (at : ℕ) (addressed : List Addressed) (place : ℕ) → ArePlaced (queue_of at addressed place).accepted (queue_of at addressed place).queued
placed_in at addressed place = (numbered_all at empty_queue (messages_for place addressed) (record { counted = refl; placed = tt })).placed

-- one priority more is set
pub priority_next : {X : Type 0} {F : X → Type 0} (priorities : List ℕ) (k p : ℕ) (members : List (Member X F)) (m : Member X F) → slice_get priorities k ≡ Some p → slice_get (with_priorities (take k priorities) members) k ≡ Some m → slice_set (with_priorities (take k priorities) members) k (record m { priority = p }) ≡ with_priorities (take (suc k) priorities) members
priority_next [] k p members m given there = (let none : Option ℕ = None in let z : none ≡ Some p = given in absurd (cc))
priority_next (q ∷ priorities) zero p [] m given there = (let none : Option (Member _ _) = None in let z : none ≡ Some m = there in absurd (cc))
priority_next (q ∷ priorities) zero p (x ∷ members) m given there =
    ap (λ (v : Member _ _). record v { priority = p } ∷ members) (sym (same_some x m there))
    ∙ ap (λ (v : ℕ). record x { priority = v } ∷ members) (sym (same_some q p given))
priority_next (q ∷ priorities) (suc k) p [] m given there = (let none : Option (Member _ _) = None in let z : none ≡ Some m = there in absurd (cc))
priority_next (q ∷ priorities) (suc k) p (x ∷ members) m given there =
    ap (λ v. record x { priority = q } ∷ v) (priority_next priorities k p members m given there)

pub priorities_size : {X : Type 0} {F : X → Type 0} (priorities : List ℕ) (members : List (Member X F)) → length (with_priorities priorities members) ≡ length members
priorities_size [] members = refl
priorities_size (p ∷ priorities) [] = refl
priorities_size (p ∷ priorities) (m ∷ members) = (let r = priorities_size priorities members in omega (arith, r))

-- what a member is with its priority
pub priority_there : {X : Type 0} {F : X → Type 0} (priorities : List ℕ) (k : ℕ) (members : List (Member X F)) (n : Member X F) → slice_get (with_priorities priorities members) k ≡ Some n → (m : Member X F) × ((slice_get members k ≡ Some m) × (n ≡ record m { priority = slice_index_or priorities k m.priority }))
priority_there [] k members n there = (n, (there, refl))
priority_there (p ∷ priorities) k [] n there = (let none : Option (Member _ _) = None in let z : none ≡ Some n = there in absurd (cc))
priority_there (p ∷ priorities) zero (x ∷ members) n there = (x, (refl, sym (same_some (record x { priority = p }) n there)))
priority_there (p ∷ priorities) (suc k) (x ∷ members) n there = priority_there priorities k members n there

-- the priority is set as it is given, where it is in its range
taken_if : (b : Bool) (p : ℕ) (props : ConnectionProps) → b ≡ true → with_taken (λ (v : ℕ) c. record c { conn_priority = v }) props (if b then Ok p else Err OutOfRange) ≡ Ok (with_priority p props)
taken_if true p props is = refl
taken_if false p props is = absurd (cc)

within_range : (p : ℕ) → p ≤ 4294967295 → (nat_le 0 p && nat_le p 4294967295) ≡ true
within_range p few = rw (le-leb 0 p (omega arith), le-leb p 4294967295 few) refl

pub priority_set : (p q : ℕ) (props : ConnectionProps) → p ≤ 4294967295 → set_by priority_name (Number p) (with_priority q props) ≡ Ok (with_priority p props)
priority_set p q props few = taken_if (nat_le 0 p && nat_le p 4294967295) p (with_priority q props) (within_range p few)

pub priority_taken : (p q r : ℕ) (props props' : ConnectionProps) → p ≤ 4294967295 → set_by priority_name (Number p) (with_priority q props) ≡ Ok (with_priority r props') → p ≡ r
priority_taken p q r props props' few e =
    let set : Result ConnectionProps PropError = Ok (with_priority p props) in
    let both : set ≡ Ok (with_priority r props') = sym (priority_set p q props few) ∙ e in
    let same : with_priority p props ≡ with_priority r props' = cc in
    ap (λ (v : ConnectionProps). v.conn_priority) same

pub never_refused : {A : Type 0} (p q : ℕ) (props : ConnectionProps) (e : PropError) → p ≤ 4294967295 → set_by priority_name (Number p) (with_priority q props) ≡ Err e → A
never_refused p q props e few is = absurd (let set : Result ConnectionProps PropError = Ok (with_priority p props) in let z : set ≡ Err e = sym (priority_set p q props few) ∙ is in cc)
