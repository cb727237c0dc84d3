-- A group whose members can all be closed stays so.
use Rattle.std.proofs.Common.{◌≡◌, ◌⊎◌, inl, inr, ℕ, zero, suc, ◌+◌, ◌<◌, ◌≤◌, Bool, true, false, not, ◌||◌, List, [], ◌∷◌, ◌++◌, length, map, Option, Some, None, Result, Ok, Err, if◌then◌else◌, refl, sym, ◌∙◌, ap, subst, arith, append_assoc}
use Rattle.std.specs.Prelude.{◌==◌, filter, slice_get, slice_set}
use Rattle.std.specs.List.{All}
use Rattle.std.proofs.lemmas.Bool.{eq-eqb, eqb-true}
use Rattle.std.proofs.lemmas.List.{map-append}
use Rattle.std.proofs.lemmas.List.Elements.{All-nil, All-cons, All-head, All-tail, All-append}
use Rattle.taps_stack.specs.declared.target.Target.{Target}
use Rattle.taps_socket.specs.declared.item.Item.{Item}
use Rattle.taps_socket.specs.declared.item.Item.TheVariants as item
use Rattle.taps_socket.specs.declared.race_answer.RaceAnswer.{RaceAnswer}
use Rattle.taps_socket.specs.declared.race_answer.RaceAnswer.TheVariants as answer
use Rattle.taps_socket.specs.Net.{Net, with_item, with_spare}
use Rattle.taps_socket.specs.Once.{IsOnce}
use Rattle.taps_socket.specs.RaceSockets.{has, started, completed, broke, closed, open_sockets, pending_sockets}
use Rattle.taps_socket.specs.LiveSockets.{live_sockets, given, named}
use Rattle.taps_socket.proofs.Lists.{kept, keeps, false_by}
use Rattle.taps_socket.proofs.NamedSockets.{given_named, started_named}
use Rattle.taps_socket.proofs.Unnamed.{IsAlike, unnamed}
use Rattle.taps_connection.specs.declared.pulled.Pulled.{Pulled}
use Rattle.taps_connection.specs.declared.pulled.Pulled.TheVariants as pulled
use Rattle.taps_connection.specs.declared.sender.Pushed.{Pushed}
use Rattle.taps_connection.specs.declared.sender.Pushed.TheVariants as pushed
use Rattle.taps_connection.specs.Inboxes.{pulled_items}
use Rattle.taps_connection.specs.Senders.{pushed_items, shut_items}
use Rattle.taps_framer.specs.declared.framer.Framer as framer
use Rattle.taps_group.specs.declared.group.Group.{Group}
use Rattle.taps_group.specs.declared.member.Member.{Member}
use Rattle.taps_group.specs.declared.clone.CloneError.{CloneError}
use Rattle.taps_group.specs.declared.clone.CloneError.TheVariants as error
use Rattle.taps_group.specs.Clones.{HasRaced, HasNotRaced, HasClosedAgain, FindsNoMemory, Fails, Joins, IsCloned}
use Rattle.taps_group.specs.Closes.{MayClose, IsOpen, sockets_of}
use Rattle.taps_group.specs.Groups.{IsSameGroup}
use Rattle.taps_group.proofs.Closing.{live_on}

-- the sockets can be closed, and none is pending
pub record AreOpen (trace : List Item) (sockets : List ℕ) : Type 0 where
  pub may_close : MayClose trace sockets
  pub idle : pending_sockets trace ≡ []

pushed_open : (socket : ℕ) (shut : Bool) (a : Pushed) (t : List Item) (sockets : List ℕ) → AreOpen t sockets → AreOpen (pushed_items socket shut a ++ t) sockets
pushed_open socket true (pushed.Sent number) t sockets h = record { may_close = record { live = h.may_close.live; once = h.may_close.once }; idle = h.idle }
pushed_open socket false (pushed.Sent number) t sockets h = h
pushed_open socket shut pushed.Empty t sockets h = h
pushed_open socket shut (pushed.Expired number) t sockets h = h
pushed_open socket shut (pushed.Timed at) t sockets h = h
pushed_open socket shut (pushed.Failed cause) t sockets h = record { may_close = record { live = h.may_close.live; once = h.may_close.once }; idle = h.idle }
pushed_open socket shut (pushed.NotSpeakable number layer) t sockets h = h
pushed_open socket shut pushed.NoMemory t sockets h = h

pulled_open : (socket : ℕ) (a : Pulled) (t : List Item) (sockets : List ℕ) → AreOpen t sockets → AreOpen (pulled_items socket a ++ t) sockets
pulled_open socket pulled.Got t sockets h = h
pulled_open socket pulled.Ended t sockets h = record { may_close = record { live = h.may_close.live; once = h.may_close.once }; idle = h.idle }
pulled_open socket (pulled.Timed at) t sockets h = h
pulled_open socket (pulled.Failed cause) t sockets h = record { may_close = record { live = h.may_close.live; once = h.may_close.once }; idle = h.idle }
pulled_open socket pulled.NoMemory t sockets h = h

-- a member with the same socket at its place
map_set : {A : Type 0} (f : A → ℕ) (xs : List A) (i : ℕ) (x y : A) → slice_get xs i ≡ Some x → f y ≡ f x → map f (slice_set xs i y) ≡ map f xs
map_set f [] i x y at same = refl
map_set f (z ∷ zs) zero x y at same = ap (λ v. v ∷ map f zs) (same ∙ ap f (let one : x ≡ z = cc in one))
map_set f (z ∷ zs) (suc i) x y at same = ap (λ v. f z ∷ v) (map_set f zs i x y at same)

open_on : {X : Type 0} {F : X → Type 0} (net net' : Net) (members members' : List (Member X F)) (place : ℕ) (m n : Member X F) → slice_get members place ≡ Some m → members' ≡ slice_set members place n → n.connection.socket ≡ m.connection.socket → AreOpen net'.trace (sockets_of members) → IsOpen net' members'
open_on net net' members members' place m n at changed same h =
    let sockets : sockets_of members' ≡ sockets_of members = ap sockets_of changed ∙ map_set (λ (k : Member _ _). k.connection.socket) members place m n at same in
    record { may_close = subst (MayClose net'.trace) (sym sockets) h.may_close; idle = h.idle }

pub pushed_on : {X : Type 0} {F : X → Type 0} (net net' : Net) (members members' : List (Member X F)) (place : ℕ) (m n : Member X F) (socket : ℕ) (shut : Bool) (a : Pushed) → slice_get members place ≡ Some m → members' ≡ slice_set members place n → n.connection.socket ≡ m.connection.socket → net'.trace ≡ pushed_items socket shut a ++ net.trace → IsOpen net members → IsOpen net' members'
pushed_on net net' members members' place m n socket shut a at changed same trace h =
    open_on net net' members members' place m n at changed same (subst (λ t. AreOpen t (sockets_of members)) (sym trace) (pushed_open socket shut a net.trace (sockets_of members) (record { may_close = h.may_close; idle = h.idle })))

pub pulled_on : {X : Type 0} {F : X → Type 0} (net net' : Net) (members members' : List (Member X F)) (place : ℕ) (m n : Member X F) (socket : ℕ) (a : Pulled) → slice_get members place ≡ Some m → members' ≡ slice_set members place n → n.connection.socket ≡ m.connection.socket → net'.trace ≡ pulled_items socket a ++ net.trace → IsOpen net members → IsOpen net' members'
pulled_on net net' members members' place m n socket a at changed same trace h =
    open_on net net' members members' place m n at changed same (subst (λ t. AreOpen t (sockets_of members)) (sym trace) (pulled_open socket a net.trace (sockets_of members) (record { may_close = h.may_close; idle = h.idle })))

-- a live socket is named
live_named : (t : List Item) (s : ℕ) → has (live_sockets t) s ≡ true → has (named t) s ≡ true
live_named t s h = given_named t s (kept (λ v. not (has (closed t) v)) (given t) s h).1

-- items that do not name a live socket leave it live
live_along : (r t : List Item) (s : ℕ) → has (named r) s ≡ false → has (live_sockets t) s ≡ true → has (live_sockets (r ++ t)) s ≡ true
live_along r t s unnamed_in h =
    let was = kept (λ v. not (has (closed t) v)) (given t) s h in
    let alike = unnamed r t s unnamed_in in
    keeps (λ v. not (has (closed (r ++ t)) v)) (given (r ++ t)) s (ap not alike.closed ∙ was.0) (alike.given ∙ was.1)

not_named : (r t : List Item) (s : ℕ) → ((x : ℕ) → has (named r) x ≡ true → has (named t) x ≡ false) → has (live_sockets t) s ≡ true → has (named r) s ≡ false
not_named r t s new h = false_by (has (named r) s) (λ is. let one : has (named t) s ≡ false = new s is in let two = live_named t s h in cc)

live_all : (r t : List Item) (sockets : List ℕ) → ((x : ℕ) → has (named r) x ≡ true → has (named t) x ≡ false) → All (λ s. has (live_sockets t) s ≡ true) sockets → All (λ s. has (live_sockets (r ++ t)) s ≡ true) sockets
live_all r t [] new h = All-nil (λ s. has (live_sockets (r ++ t)) s ≡ true)
live_all r t (s ∷ rest) new h =
    let here = All-head (λ v. has (live_sockets t) v ≡ true) s rest h in
    All-cons (λ v. has (live_sockets (r ++ t)) v ≡ true) s rest (live_along r t s (not_named r t s new here) here) (live_all r t rest new (All-tail (λ v. has (live_sockets t) v ≡ true) s rest h))

-- a socket that is not named before is none of the live ones
either_not : (a b : Bool) → a ≡ false → b ≡ false → (a || b) ≡ false
either_not true b p q = absurd (cc)
either_not false b p q = q

not_same : (t : List Item) (s x : ℕ) → has (named t) x ≡ false → has (live_sockets t) s ≡ true → (s == x) ≡ false
not_same t s x absent live = false_by (s == x) (λ is.
    let same : s ≡ x = eqb-true s x is in
    let z : has (named t) x ≡ true = subst (λ v. has (named t) v ≡ true) same (live_named t s live) in
    let w : true ≡ false = sym z ∙ absent in
    cc)

not_among : (t : List Item) (x : ℕ) (sockets : List ℕ) → has (named t) x ≡ false → All (λ s. has (live_sockets t) s ≡ true) sockets → has sockets x ≡ false
not_among t x [] absent h = refl
not_among t x (s ∷ rest) absent h =
    either_not (s == x) (has rest x) (not_same t s x absent (All-head (λ v. has (live_sockets t) v ≡ true) s rest h)) (not_among t x rest absent (All-tail (λ v. has (live_sockets t) v ≡ true) s rest h))

neither : (a b : Bool) → (a || b) ≡ false → (a ≡ false) × (b ≡ false)
neither true b h = absurd (cc)
neither false b h = (refl, h)

other_way : (s x : ℕ) → (s == x) ≡ false → (x == s) ≡ false
other_way s x h = false_by (x == s) (λ is.
    let same : x ≡ s = eqb-true x s is in
    let z : (s == x) ≡ true = eq-eqb s x (sym same) in
    let w : true ≡ false = sym z ∙ h in
    cc)

not_in_more : (rest : List ℕ) (s x : ℕ) → has rest s ≡ false → (x == s) ≡ false → has (rest ++ x ∷ []) s ≡ false
not_in_more [] s x h differs = either_not (x == s) false differs refl
not_in_more (r ∷ rest) s x h differs =
    let parts = neither (r == s) (has rest s) h in
    either_not (r == s) (has (rest ++ x ∷ []) s) parts.0 (not_in_more rest s x parts.1 differs)

once_more : (sockets : List ℕ) (x : ℕ) → has sockets x ≡ false → IsOnce sockets → IsOnce (sockets ++ x ∷ [])
once_more [] x absent once = (refl, tt {0})
once_more (s ∷ rest) x absent once =
    let parts = neither (s == x) (has rest x) absent in
    (not_in_more rest s x once.0 (other_way s x parts.0), once_more rest x parts.1 once.1)

-- no socket is pending where one more is closed
left_by : (p : ℕ → Bool) (x : ℕ) (xs ys : List ℕ) (a b c : Bool) → p x ≡ c → (a ≡ true → b ≡ true) → (filter p ys ≡ [] → filter p xs ≡ []) → filter p (if b then x ∷ ys else ys) ≡ [] → filter p (if a then x ∷ xs else xs) ≡ []
left_by p x xs ys true false c e weaker others h = absurd (let z : false ≡ true = weaker refl in cc)
left_by p x xs ys true true true e weaker others h = absurd (let z : x ∷ filter p ys ≡ [] = rw e at h in cc)
left_by p x xs ys true true false e weaker others h = rw e (others (rw e at h))
left_by p x xs ys false true true e weaker others h = absurd (let z : x ∷ filter p ys ≡ [] = rw e at h in cc)
left_by p x xs ys false true false e weaker others h = others (rw e at h)
left_by p x xs ys false false c e weaker others h = others h

none_left : (p q q' : ℕ → Bool) (xs : List ℕ) → ((x : ℕ) → q' x ≡ true → q x ≡ true) → filter p (filter q xs) ≡ [] → filter p (filter q' xs) ≡ []
none_left p q q' [] weaker h = refl
none_left p q q' (x ∷ xs) weaker h = left_by p x (filter q' xs) (filter q xs) (q' x) (q x) (p x) refl (weaker x) (none_left p q q' xs weaker) h

not_and : (a b : Bool) → not (a || b) ≡ true → not b ≡ true
not_and true b h = absurd (cc)
not_and false b h = h

idle_closed : (t : List Item) (x : ℕ) → pending_sockets t ≡ [] → pending_sockets (item.Closed x ∷ t) ≡ []
idle_closed t x h = none_left (λ s. not (has (completed t) s || has (broke t) s)) (λ s. not (has (closed t) s)) (λ s. not (has (x ∷ closed t) s)) (started t) (λ s is. not_and (x == s) (has (closed t) s) is) h

-- the winner of a race is named in it, and so was not before
winner_new : (target : Target) (leaf timeout : ℕ) (before after : Net) (n socket at : ℕ) → HasRaced target leaf timeout before after (answer.Ready n socket at) → has (named before.trace) socket ≡ false
winner_new target leaf timeout before after n socket at r =
    let c = r.carried_out in
    let alone : open_sockets r.race ≡ socket ∷ [] = c.lawful.over.winner_alone in
    let own : has (open_sockets r.race) socket ≡ true = ap (λ v. has v socket) alone ∙ first_true (socket == socket) (eq-eqb socket socket refl) in
    c.new_sockets socket (started_named r.race socket (kept (λ s. not (has (closed r.race) s)) (started r.race) socket own).1)
  where
    first_true : (b : Bool) → b ≡ true → (b || false) ≡ true
    first_true true e = refl
    first_true false e = absurd (cc)

raced_live : (target : Target) (leaf timeout : ℕ) (before after : Net) (a : RaceAnswer) (sockets : List ℕ) → HasRaced target leaf timeout before after a → All (λ s. has (live_sockets before.trace) s ≡ true) sockets → All (λ s. has (live_sockets after.trace) s ≡ true) sockets
raced_live target leaf timeout before after a sockets r h =
    subst (λ t. All (λ s. has (live_sockets t) s ≡ true) sockets) (sym r.carried_out.items) (live_all r.race before.trace sockets r.carried_out.new_sockets h)

joins_open : (target : Target) (leaf timeout : ℕ) (before after : Net) (socket at : ℕ) (sockets : List ℕ) → HasRaced target leaf timeout before after (answer.Ready 0 socket at) → MayClose before.trace sockets → AreOpen after.trace (sockets ++ socket ∷ [])
joins_open target leaf timeout before after socket at sockets r h =
    let live : has (live_sockets after.trace) socket ≡ true = r.carried_out.winner.live in
    record {
      may_close = record {
        live = All-append (λ s. has (live_sockets after.trace) s ≡ true) sockets (socket ∷ []) (raced_live target leaf timeout before after _ sockets r h.live) (All-cons (λ s. has (live_sockets after.trace) s ≡ true) socket [] live (All-nil (λ s. has (live_sockets after.trace) s ≡ true)));
        once = once_more sockets socket (not_among before.trace socket sockets (winner_new target leaf timeout before after 0 socket at r) h.live) h.once;
      };
      idle = r.carried_out.idle;
    }

fails_open : (target : Target) (leaf timeout : ℕ) (before after : Net) (a : RaceAnswer) (sockets : List ℕ) → HasRaced target leaf timeout before after a → MayClose before.trace sockets → AreOpen after.trace sockets
fails_open target leaf timeout before after a sockets r h = record {
  may_close = record { live = raced_live target leaf timeout before after a sockets r h.live; once = h.once };
  idle = r.carried_out.idle;
}

undone_open : (target : Target) (leaf timeout : ℕ) (before after : Net) (sockets : List ℕ) → (HasNotRaced before after) ⊎ (HasClosedAgain target leaf timeout before after) → AreOpen before.trace sockets → AreOpen after.trace sockets
undone_open target leaf timeout before after sockets (inl none) h = subst (λ t. AreOpen t sockets) (sym (ap (λ (n : Net). n.trace) none.same)) h
undone_open target leaf timeout before after sockets (inr c) h =
    let raced = fails_open target leaf timeout before c.raced_to (answer.Ready 0 c.socket c.at) sockets c.raced h.may_close in
    let apart = not_among before.trace c.socket sockets (winner_new target leaf timeout before c.raced_to 0 c.socket c.at c.raced) h.may_close.live in
    subst (λ t. AreOpen t sockets) (sym (ap (λ (n : Net). n.trace) c.closed)) (record {
      may_close = record { live = live_on c.raced_to.trace c.socket sockets apart raced.may_close.live; once = h.may_close.once };
      idle = idle_closed c.raced_to.trace c.socket raced.idle;
    })

opened : {X : Type 0} {F : X → Type 0} (net : Net) (members : List (Member X F)) (sockets : List ℕ) → sockets_of members ≡ sockets → AreOpen net.trace sockets → IsOpen net members
opened net members sockets is h = record { may_close = subst (MayClose net.trace) (sym is) h.may_close; idle = h.idle }

are_open : {X : Type 0} {F : X → Type 0} (net : Net) (members : List (Member X F)) → IsOpen net members → AreOpen net.trace (sockets_of members)
are_open net members h = record { may_close = h.may_close; idle = h.idle }

-- whatever comes of a clone
pub cloned_open : {X : Type 0} {F : X → Type 0} (boxed : (x : X) → framer.Ghosts (F x)) (leaf timeout : ℕ) (before after : Net) (g : Group X F) (result : Result ℕ CloneError) (h : Group X F) → IsCloned boxed leaf timeout before after g result h → IsOpen before g.members.items → IsOpen after h.members.items
cloned_open boxed leaf timeout before after g (Ok place) h c o =
    let j = c.1 in
    let sockets : sockets_of h.members.items ≡ sockets_of g.members.items ++ j.socket ∷ [] = ap sockets_of j.joined.members ∙ (map-append (λ (m : Member _ _). m.connection.socket) g.members.items (j.joined.member ∷ []) ∙ ap (λ s. sockets_of g.members.items ++ s ∷ []) j.joined.clone.socket_is) in
    opened after h.members.items (sockets_of g.members.items ++ j.socket ∷ []) sockets (joins_open g.target leaf timeout before after j.socket j.at (sockets_of g.members.items) j.raced o.may_close)
cloned_open boxed leaf timeout before after g (Err (error.LimitReached limit)) h c o =
    opened after h.members.items (sockets_of g.members.items) (ap (λ (v : Group _ _). sockets_of v.members.items) c.same) (subst (λ (n : Net). AreOpen n.trace (sockets_of g.members.items)) (sym c.no_call) (are_open before g.members.items o))
cloned_open boxed leaf timeout before after g (Err (error.Failed a)) h c o =
    opened after h.members.items (sockets_of g.members.items) (ap sockets_of c.1.same.members) (fails_open g.target leaf timeout before after a (sockets_of g.members.items) c.1.raced o.may_close)
cloned_open boxed leaf timeout before after g (Err error.NoMemory) h c o =
    opened after h.members.items (sockets_of g.members.items) (ap sockets_of c.1.same.members) (undone_open g.target leaf timeout before after (sockets_of g.members.items) c.1.undone (are_open before g.members.items o))
