-- What a session over a recorder is to the sockets to which it passes its calls on.
use Rattle.std.proofs.Common.{◌≡◌, ℕ, Bool, true, false, List, [], ◌∷◌, ◌++◌, sym, ap, ◌∙◌, subst, arith, append-nil, Result, Ok, Err}
use Rattle.taps_base.specs.Counts.{Rose}
use Rattle.taps_base.specs.declared.no_memory.NoMemory.{NoMemory}
use Rattle.taps_cloning.specs.declared.held.HeldGroup.{HeldGroup}
use Rattle.taps_framer.specs.declared.framer.Framer as framer
use Rattle.taps_stack.specs.StackTable.{is_stream}
use Rattle.taps_socket.specs.declared.item.Item.{Item}
use Rattle.taps_socket.specs.Calls.{Call, items_of}
use Rattle.taps_socket.specs.RaceSockets.{pending_sockets}
use Rattle.taps_socket.specs.Net.{Net, IsUnused, with_spare}
use Rattle.taps_socket.specs.Recorded.{Recorded, Records, IsLastReported}
use Rattle.taps_socket.specs.Shown.{spare_on}
use Rattle.taps_socket.specs.Sides.{is_connected}
use Rattle.taps_connection.specs.Conditions.{IsHeld}
use Rattle.taps_group.specs.Closes.{IsOpen, MayClose, close_items, sockets_of}
use Rattle.taps_group.specs.declared.group.Group.{Group}
use Rattle.taps_group.specs.declared.member.Member.{Member}
use Rattle.taps_group_exchange.specs.declared.outcome.GroupOutcome.{GroupOutcome}
use Rattle.taps_group_exchange.specs.declared.told.Told.{Told}
use Rattle.taps_group_exchange.specs.Cloning.{CloneRace, items_of_races, sockets_of_races}
use Rattle.taps_group_exchange.specs.GroupSessions.{IsGroupSession, IsCutGroup, calls_of, sockets_by}
use Rattle.taps_group_exchange.specs.Members.{GroupTerms}
use Rattle.taps_cloning.specs.Holding.{IsHeldGroup, IsCutHeld, HasHeld, count_with, members_told}
use Rattle.taps_cloning.specs.Opening.{AreUnused, AreOpened, IsOpenedGroup}
use Rattle.taps_group_exchange.specs.Preparing.{IsGroupFor}
use Rattle.taps_cloning.proofs.Growing.{AppendLaw}
use Rattle.taps_cloning.proofs.Places.{group_for}

-- recorded calls follow one another
pub records_on : {N : Type 0} (Becomes : N → List Call → N → Type 0) → AppendLaw Becomes → AppendLaw (Records Becomes)
records_on Becomes on x y z first then p q =
    record {
      becomes = on x.net y.net z.net first then p.becomes q.becomes;
      spare = spare_on first then x.spare y.spare z.spare p.spare q.spare;
    }

-- once there is an item, the recorder keeps the last reported time
pub last_told : (trace : List Item) (at told socket : ℕ) (stream is_shut has_ended : Bool) → IsHeld trace socket stream is_shut has_ended → IsLastReported trace at told → at ≡ told
last_told [] at told socket stream is_shut has_ended held h = absurd (let z : is_connected [] socket ≡ true = held.connected in cc)
last_told (i ∷ trace) at told socket stream is_shut has_ended held h = h

-- a group over sockets of which the same is seen
pub regroup : {X : Type 0} {F : X → Type 0} (boxed : (x : X) → framer.Ghosts (F x)) (g : GroupTerms) (first : ℕ) (n n' : Net) (races : List CloneRace) (h : Group X F) → n'.told ≡ n.told → n'.trace ≡ n.trace → IsOpenedGroup boxed g first n races h → IsOpenedGroup boxed g first n' races h
regroup boxed g first n n' races h told trace k = record {
  target = k.target;
  layers = k.layers;
  framers = k.framers;
  piece = k.piece;
  props = k.props;
  none_accepted = k.none_accepted;
  sockets = k.sockets;
  members = subst (λ t. AreOpened boxed g t n'.trace 0 h.members.items) (sym told) (subst (λ t. AreOpened boxed g n.told t 0 h.members.items) (sym trace) k.members);
}

pub reopen : {X : Type 0} {F : X → Type 0} (n n' : Net) (members : List (Member X F)) → n'.trace ≡ n.trace → IsOpen n members → IsOpen n' members
reopen n n' members trace h = record {
  may_close = subst (λ t. MayClose t (sockets_of members)) (sym trace) h.may_close;
  idle = ap pending_sockets trace ∙ h.idle;
}

-- what a recorder passes on
pub records_held : {N : Type 0} (Becomes : N → List Call → N → Type 0) (before after : Recorded N) (na nc : Net) (s s' : ℕ) (g : GroupTerms) (first : ℕ) (o : GroupOutcome) (told : List Told) → IsHeldGroup (Records Becomes) before after (with_spare na s) (with_spare nc s') g first o told → IsHeldGroup Becomes before.net after.net na nc g first o told
records_held Becomes before after na nc s s' g first o told h = record {
  course = h.course;
  becomes = h.becomes.becomes;
  session = h.session;
  outcome = h.outcome;
  told_is = h.told_is;
  trace = h.trace;
  timed = h.timed;
  fault = h.fault;
  counted = h.counted;
  unused = h.unused;
}

pub records_cut : {N : Type 0} (Becomes : N → List Call → N → Type 0) (before after : Recorded N) (na : Net) (s : ℕ) (g : GroupTerms) (first : ℕ) → IsCutHeld (Records Becomes) before after (with_spare na s) g first → IsCutHeld Becomes before.net after.net na g first
records_cut Becomes before after na s g first h = record { calls = h.calls; becomes = h.becomes.becomes; cut = h.cut }

-- where no call was made before, the same is seen of the sockets but for spare
pub record IsSameSeen (n n' : Net) : Type 0 where
  pub trace : n'.trace ≡ n.trace
  pub told : n'.told ≡ n.told
  pub timed : n'.timed ≡ n.timed
  pub faults : n'.faults ≡ n.faults
  pub traffic : n'.traffic ≡ n.traffic

pub same_but_spare : (n n' : Net) (s s' : ℕ) → with_spare n' s' ≡ with_spare n s → IsSameSeen n n'
same_but_spare n n' s s' e = record {
  trace = ap (λ (v : Net). v.trace) e;
  told = ap (λ (v : Net). v.told) e;
  timed = ap (λ (v : Net). v.timed) e;
  faults = ap (λ (v : Net). v.faults) e;
  traffic = ap (λ (v : Net). v.traffic) e;
}

unused_since : (n n' : Net) (sockets : List ℕ) → n'.traffic ≡ n.traffic → AreUnused n' sockets → AreUnused n sockets
unused_since n n' [] e h = tt
unused_since n n' (s ∷ sockets) e h = (subst (λ (t : ℕ → _). IsUnused (t s)) e h.0, unused_since n n' sockets e h.1)

since_then : {N : Type 0} (Becomes : N → List Call → N → Type 0) (a b c : N) (calls : List Call) → AppendLaw Becomes → Becomes a [] b → Becomes b calls c → Becomes a calls c
since_then Becomes a b c calls on p q = subst (λ v. Becomes a v c) (append-nil calls) (on a b c [] calls p q)

pub held_since : {N : Type 0} (Becomes : N → List Call → N → Type 0) (a b c : N) (na nb nc : Net) (g : GroupTerms) (first : ℕ) (o : GroupOutcome) (told : List Told) → AppendLaw Becomes → Becomes a [] b → IsSameSeen na nb → IsHeldGroup Becomes b c nb nc g first o told → IsHeldGroup Becomes a c na nc g first o told
held_since Becomes a b c na nb nc g first o told on none same h = record {
  course = h.course;
  becomes = since_then Becomes a b c (calls_of first h.course) on none h.becomes;
  session = subst (λ t. IsGroupSession g first t h.course) same.told h.session;
  outcome = h.outcome;
  told_is = h.told_is ∙ ap (λ t. members_told g first t h.course) same.told;
  trace = h.trace ∙ ap (λ t. close_items (sockets_by first h.course.clones) ++ (items_of h.course.exchange ++ (items_of_races h.course.clones ++ t))) same.trace;
  timed = h.timed ∙ ap (λ n. count_with o n) same.timed;
  fault = λ e. subst (λ n. Rose n nc.faults) same.faults (h.fault e);
  counted = (let counted = h.counted in let faults = same.faults in omega (arith, counted, faults));
  unused = unused_since na nb (sockets_of_races h.course.clones) same.traffic h.unused;
}

pub cut_since : {N : Type 0} (Becomes : N → List Call → N → Type 0) (a b c : N) (na nb : Net) (g : GroupTerms) (first : ℕ) → AppendLaw Becomes → Becomes a [] b → IsSameSeen na nb → IsCutHeld Becomes b c nb g first → IsCutHeld Becomes a c na g first
cut_since Becomes a b c na nb g first on none same h = record {
  calls = h.calls;
  becomes = since_then Becomes a b c h.calls on none h.becomes;
  cut = subst (λ t. IsCutGroup g first t h.calls) same.told h.cut;
}

-- a group has a member, whose socket is held, and so there is an item
told_by_first : {X : Type 0} {F : X → Type 0} (boxed : (x : X) → framer.Ghosts (F x)) (g : GroupTerms) (first at : ℕ) (n : Net) (sockets : List ℕ) (members : List (Member X F)) → sockets_of members ≡ first ∷ sockets → AreOpened boxed g n.told n.trace 0 members → IsLastReported n.trace at n.told → at ≡ n.told
told_by_first boxed g first at n sockets [] e h last = absurd (let z : [] ≡ first ∷ sockets = e in cc)
told_by_first boxed g first at n sockets (m ∷ members) e h last = last_told n.trace at n.told m.connection.socket (is_stream m.connection.stack) false false h.0.unused.held last

pub told_of_group : {X : Type 0} {F : X → Type 0} (boxed : (x : X) → framer.Ghosts (F x)) (g : GroupTerms) (first at : ℕ) (n : Net) (races : List CloneRace) (h : Group X F) → IsOpenedGroup boxed g first n races h → IsLastReported n.trace at n.told → at ≡ n.told
told_of_group boxed g first at n races h k last = told_by_first boxed g first at n (sockets_of_races races) h.members.items k.sockets k.members last

pub has_held_since : {N : Type 0} (Becomes : N → List Call → N → Type 0) (a b c : N) (na nb nc : Net) (g : GroupTerms) (first : ℕ) (r : Result HeldGroup NoMemory) → AppendLaw Becomes → Becomes a [] b → IsSameSeen na nb → HasHeld Becomes b c nb nc g first r → HasHeld Becomes a c na nc g first r
has_held_since Becomes a b c na nb nc g first (Ok held) on none same h = held_since Becomes a b c na nb nc g first held.outcome held.members.items on none same h
has_held_since Becomes a b c na nb nc g first (Err e) on none same h = cut_since Becomes a b c na nb g first on none same h

-- a group that begins its exchange at the last reported time
pub group_told : {X : Type 0} {F : X → Type 0} (boxed : (x : X) → framer.Ghosts (F x)) (g : GroupTerms) (first at : ℕ) (n : Net) (races : List CloneRace) (h : Group X F) → IsOpenedGroup boxed g first n races h → IsOpen n h.members.items → IsLastReported n.trace at n.told → IsGroupFor boxed g at n g.priorities g.messages h
group_told boxed g first at n races h k opened last = subst (λ t. IsGroupFor boxed g t n g.priorities g.messages h) (sym (told_of_group boxed g first at n races h k last)) (group_for boxed g first n races h k opened)
