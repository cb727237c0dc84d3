-- What the session of a group leaves, by each way that it ends.
use Rattle.std.proofs.Common.{◌≡◌, ◌≤◌, ◌+◌, ◌*◌, ℕ, List, [], length, sym, ap, ◌∙◌, subst, arith, Option, Some, None}
use Rattle.std.proofs.lemmas.List.{length-map}
use Rattle.taps_framer.specs.declared.framer.Framer as framer
use Rattle.taps_socket.specs.Calls.{Call}
use Rattle.taps_socket.specs.Net.{Net, with_spare}
use Rattle.taps_socket.specs.Recorded.{Recorded, Records}
use Rattle.taps_socket.specs.Shows.{Shows, told_after}
use Rattle.taps_group.specs.Closes.{close_calls, sockets_of, with_closes}
use Rattle.taps_group.specs.declared.group.Group.{Group}
use Rattle.taps_group.specs.declared.member.Member.{Member}
use Rattle.taps_group_exchange.specs.declared.exchanging.GroupExchanged.{GroupExchanged}
use Rattle.taps_group_exchange.specs.declared.outcome.GroupOutcome.{GroupOutcome}
use Rattle.taps_group_exchange.specs.declared.outcome.GroupOutcome.TheVariants as ends
use Rattle.taps_group_exchange.specs.declared.told.Told.{Told}
use Rattle.taps_group_exchange.specs.Cloning.{calls_of_races}
use Rattle.taps_group_exchange.specs.GroupExchanges.{IsGroupExchanged, IsGroupCut}
use Rattle.taps_group_exchange.specs.GroupSessions.{sockets_by}
use Rattle.taps_group_exchange.specs.Members.{GroupTerms, places_at}
use Rattle.taps_cloning.specs.Holding.{IsHeldGroup, IsCutHeld}
use Rattle.taps_cloning.specs.Opening.{IsOpenedGroup, HasOpenedAll, HasOpenedSome}
use Rattle.taps_cloning.specs.Telling.{TellNothing}
use Rattle.taps_cloning.proofs.Ends.{all_made, few_members}
use Rattle.taps_cloning.proofs.Growing.{AppendLaw, members_count}
use Rattle.taps_cloning.proofs.Recorders.{records_on, records_held, records_cut}
use Rattle.taps_cloning.proofs.Sessions.{held_exchanged, held_cut, held_stopped, held_short, held_none}

-- what is seen over a recorder
abbrev pub seen : {N : Type 0} → (N → Net) → Recorded N → Net
seen net r = with_spare (net r.net) r.spare

pub count_sockets : {X : Type 0} {F : X → Type 0} (members : List (Member X F)) → length members ≡ length (sockets_of members)
count_sockets members = sym (length-map members (λ (m : Member _ _). m.connection.socket))

module _ {N : Type 0} {X : Type 0} {F : X → Type 0} (boxed : (x : X) → framer.Ghosts (F x)) (Becomes : N → List Call → N → Type 0) (net : N → Net) (a b c : Recorded N) (g : GroupTerms) (first : ℕ) (h : Group X F) (on : AppendLaw Becomes) where
  told_then : (o : HasOpenedAll boxed (Records Becomes) a b (seen net a) (seen net b) g first None h) → ((calls : List Call) → Becomes a.net calls b.net → Shows (net a.net) calls (net b.net)) → (net b.net).told ≡ told_after (calls_of_races o.races) (net a.net).told
  told_then o shows = (shows (calls_of_races o.races) o.raced.becomes.becomes).told

  pub exchanged_held : (e : GroupExchanged) (at : ℕ) (shows : (calls : List Call) → Becomes a.net calls b.net → Shows (net a.net) calls (net b.net)) → HasOpenedAll boxed (Records Becomes) a b (seen net a) (seen net b) g first None h → at ≡ (net b.net).told →
      IsGroupExchanged (Records Becomes) b c (seen net b) (seen net c) (places_at g at (sockets_of h.members.items)) e.outcome e.members.items → IsHeldGroup Becomes a.net c.net (net a.net) (net c.net) g first (ends.Exchanged e.outcome) e.members.items
  exchanged_held e at shows o told x =
      let y : IsGroupExchanged (Records Becomes) b c (seen net b) (seen net c) (places_at g (net b.net).told (sockets_by first o.races)) e.outcome e.members.items =
      subst (λ t. IsGroupExchanged (Records Becomes) b c (seen net b) (seen net c) (places_at g t (sockets_by first o.races)) e.outcome e.members.items) told (subst (λ s. IsGroupExchanged (Records Becomes) b c (seen net b) (seen net c) (places_at g at s) e.outcome e.members.items) o.group.sockets x) in
      records_held Becomes a c (net a.net) (net c.net) a.spare c.spare g first (ends.Exchanged e.outcome) e.members.items
      (held_exchanged boxed (Records Becomes) a b c (seen net a) (seen net b) (seen net c) g first h (records_on Becomes on) e o (told_then o shows) y)

  pub cut_held : (at : ℕ) (shows : (calls : List Call) → Becomes a.net calls b.net → Shows (net a.net) calls (net b.net)) → HasOpenedAll boxed (Records Becomes) a b (seen net a) (seen net b) g first None h → at ≡ (net b.net).told →
      IsGroupCut (Records Becomes) b c (seen net b) (seen net c) (places_at g at (sockets_of h.members.items)) → IsCutHeld Becomes a.net c.net (net a.net) g first
  cut_held at shows o told x =
      let y : IsGroupCut (Records Becomes) b c (seen net b) (seen net c) (places_at g (net b.net).told (sockets_by first o.races)) =
      subst (λ t. IsGroupCut (Records Becomes) b c (seen net b) (seen net c) (places_at g t (sockets_by first o.races))) told (subst (λ s. IsGroupCut (Records Becomes) b c (seen net b) (seen net c) (places_at g at s)) o.group.sockets x) in
      records_cut Becomes a c (net a.net) a.spare g first (held_cut boxed (Records Becomes) a b c (seen net a) (seen net b) (seen net c) g first h (records_on Becomes on) o (told_then o shows) y)

  pub stopped_held : (x : GroupOutcome) (told : List Told) → HasOpenedAll boxed (Records Becomes) a b (seen net a) (seen net b) g first (Some x) h → TellNothing told → length told ≡ length h.members.items → seen net c ≡ with_closes (sockets_of h.members.items) (seen net b) → Records Becomes b (close_calls (sockets_of h.members.items)) c →
      IsHeldGroup Becomes a.net c.net (net a.net) (net c.net) g first x told
  stopped_held x told o none size closed became =
      records_held Becomes a c (net a.net) (net c.net) a.spare c.spare g first x told
      (held_stopped boxed (Records Becomes) a b c (seen net a) (seen net b) (seen net c) g first h (records_on Becomes on) x told o none size (count_sockets h.members.items) closed became)

  pub short_held : HasOpenedSome (Records Becomes) a b (seen net a) (seen net b) g first h → Records Becomes b (close_calls (sockets_of h.members.items)) c → IsCutHeld Becomes a.net c.net (net a.net) g first
  short_held o became = records_cut Becomes a c (net a.net) a.spare g first (held_short boxed (Records Becomes) a b c (seen net a) (seen net b) (seen net c) g first h (records_on Becomes on) o became)

  -- how many members there are, and what is left to add items
  pub all_members : (n : Net) (n' : Net) → HasOpenedAll boxed (Records Becomes) a b n n' g first None h → length h.members.items ≡ g.clones + 1
  all_members n n' o =
      let all = all_made g g.leaf 1 g.clones o.races o.cloned in
      let count = members_count boxed g first n' o.races h all.made o.group in
      let same = all.all in
      omega (arith, count, same)

  pub members_few : (n n' : Net) (stopped : Option GroupOutcome) → HasOpenedAll boxed (Records Becomes) a b n n' g first stopped h → length h.members.items ≤ g.clones + 1
  members_few n n' stopped o =
      let members = few_members first o.races h.members.items o.group.sockets in
      let few = o.few in
      omega (arith, members, few)

  pub room_for_all : (n n' : Net) (stopped : Option GroupOutcome) → HasOpenedAll boxed (Records Becomes) a b n n' g first stopped h → 8 * g.clones + 3 ≤ n.spare → 3 * length h.members.items ≤ n'.spare
  room_for_all n n' stopped o room =
      let members = few_members first o.races h.members.items o.group.sockets in
      let spare = o.raced.spare in
      let few = o.few in
      omega (arith, members, spare, few, room)

  pub room_for_some : (n n' : Net) → HasOpenedSome (Records Becomes) a b n n' g first h → 8 * g.clones + 3 ≤ n.spare → length h.members.items ≤ n'.spare
  room_for_some n n' o room =
      let members = few_members first o.races h.members.items o.sockets in
      let spare = o.spare in
      let fewer = o.fewer in
      omega (arith, members, spare, fewer, room)

-- the first member alone
pub one_member : {X : Type 0} {F : X → Type 0} (boxed : (x : X) → framer.Ghosts (F x)) (g : GroupTerms) (first : ℕ) (n : Net) (h : Group X F) → IsOpenedGroup boxed g first n [] h → length h.members.items ≡ 1
one_member boxed g first n h k = count_sockets h.members.items ∙ ap length k.sockets

pub none_held : {N : Type 0} {X : Type 0} {F : X → Type 0} (boxed : (x : X) → framer.Ghosts (F x)) (Becomes : N → List Call → N → Type 0) (net : N → Net) (a c : Recorded N) (g : GroupTerms) (first : ℕ) (n : Net) (h : Group X F) → IsOpenedGroup boxed g first n [] h → Records Becomes a (close_calls (sockets_of h.members.items)) c → IsCutHeld Becomes a.net c.net (net a.net) g first
none_held boxed Becomes net a c g first n h k became = held_none Becomes a.net c.net (net a.net) g first (subst (λ s. Records Becomes a (close_calls s) c) k.sockets became).becomes

pub same_count : {X : Type 0} {F : X → Type 0} (members others : List (Member X F)) → sockets_of members ≡ sockets_of others → length members ≡ length others
same_count members others e = count_sockets members ∙ (ap length e ∙ sym (count_sockets others))
