-- What comes of the session of a group, by how far it came.
use Rattle.std.proofs.Common.{◌≡◌, ◌<◌, ◌+◌, ℕ, zero, suc, List, [], ◌∷◌, ◌++◌, length, map, refl, sym, ap, ◌∙◌, subst, arith, append_assoc, append-nil, inl, inr, Some, None}
use Rattle.taps_base.specs.Counts.{Rose}
use Rattle.taps_framer.specs.declared.framer.Framer as framer
use Rattle.taps_socket.specs.Calls.{Call, closes, items_of}
use Rattle.taps_socket.specs.Net.{Net}
use Rattle.taps_socket.specs.Shows.{told_after}
use Rattle.taps_exchange.specs.Turns.{Place}
use Rattle.taps_group.specs.Closes.{close_items, close_calls, sockets_of, with_closes}
use Rattle.taps_group.specs.declared.group.Group.{Group}
use Rattle.taps_group_exchange.specs.declared.exchanging.GroupExchanged.{GroupExchanged}
use Rattle.taps_group_exchange.specs.declared.outcome.GroupOutcome.{GroupOutcome}
use Rattle.taps_group_exchange.specs.declared.outcome.GroupOutcome.TheVariants as ends
use Rattle.taps_group_exchange.specs.declared.told.Told.{Told}
use Rattle.taps_group_exchange.specs.Cloning.{calls_of_races}
use Rattle.taps_group_exchange.specs.GroupExchanges.{told_by, sockets_in, IsGroupExchanged, IsGroupCut}
use Rattle.taps_group_exchange.specs.GroupSessions.{IsCutBehind, places_after, sockets_by}
use Rattle.taps_group_exchange.specs.Members.{GroupTerms, places_from, places_at}
use Rattle.taps_cloning.specs.Holding.{IsHeldGroup, IsCutHeld, told_none, told_with, count_with}
use Rattle.taps_cloning.specs.Opening.{HasOpenedAll, HasOpenedSome}
use Rattle.taps_cloning.specs.Telling.{nothing, TellNothing}
use Rattle.taps_cloning.proofs.Ends.{all_made, clone_end, IsCloneEnd}
use Rattle.taps_cloning.proofs.Growing.{AppendLaw}

same_sockets : (g : GroupTerms) (at place : ℕ) (sockets : List ℕ) → sockets_in (places_from g at place sockets) ≡ sockets
same_sockets g at place [] = refl
same_sockets g at place (s ∷ sockets) = ap (λ v. s ∷ v) (same_sockets g at (place + 1) sockets)

as_many : (g : GroupTerms) (at place : ℕ) (sockets : List ℕ) → length (places_from g at place sockets) ≡ length sockets
as_many g at place [] = refl
as_many g at place (s ∷ sockets) = (let rest = as_many g at (place + 1) sockets in omega (arith, rest))

-- where nothing is told of each
nothing_told : (told : List Told) (places : List Place) → TellNothing told → length told ≡ length places → map told_by told ≡ map told_none places
nothing_told [] [] none size = refl
nothing_told [] (p ∷ places) none size = absurd (omega (arith, size))
nothing_told (t ∷ told) [] none size = absurd (omega (arith, size))
nothing_told (t ∷ told) (p ∷ places) none size =
    let rest : length told ≡ length places = omega (arith, size) in
    ap (λ v. v ∷ map told_by told) none.0 ∙ ap (λ v. told_none p ∷ v) (nothing_told told places none.1 rest)

told_at_end : (o : GroupOutcome) (calls : List Call) (places : List Place) → IsCloneEnd o → told_with o calls places ≡ map told_none places
told_at_end (ends.Exchanged x) calls places h = absurd h
told_at_end (ends.CloneLimit limit) calls places h = refl
told_at_end ends.CloneAllFailed calls places h = refl
told_at_end ends.CloneTimeout calls places h = refl
told_at_end ends.SocketFault calls places h = refl

counted_at_end : (o : GroupOutcome) (n : ℕ) → IsCloneEnd o → count_with o n ≡ n
counted_at_end (ends.Exchanged x) n h = absurd h
counted_at_end (ends.CloneLimit limit) n h = refl
counted_at_end ends.CloneAllFailed n h = refl
counted_at_end ends.CloneTimeout n h = refl
counted_at_end ends.SocketFault n h = refl

-- calls behind others, in three parts
in_parts : {N : Type 0} (Becomes : N → List Call → N → Type 0) (a b c : N) (first then last : List Call) → AppendLaw Becomes → Becomes a first b → Becomes b (last ++ then) c → Becomes a (last ++ (then ++ first)) c
in_parts Becomes a b c first then last on p q = subst (λ calls. Becomes a calls c) (append_assoc last then first) (on a b c first (last ++ then) p q)

module _ {N : Type 0} {X : Type 0} {F : X → Type 0} (boxed : (x : X) → framer.Ghosts (F x)) (Becomes : N → List Call → N → Type 0) (a b c : N) (na nb nc : Net) (g : GroupTerms) (first : ℕ) (h : Group X F) (on : AppendLaw Becomes) where
  -- the members exchanged
  pub held_exchanged : (e : GroupExchanged) (o : HasOpenedAll boxed Becomes a b na nb g first None h) → nb.told ≡ told_after (calls_of_races o.races) na.told → IsGroupExchanged Becomes b c nb nc (places_at g nb.told (sockets_by first o.races)) e.outcome e.members.items →
      IsHeldGroup Becomes a c na nc g first (ends.Exchanged e.outcome) e.members.items
  held_exchanged e o told x0 =
      let sockets = sockets_by first o.races in
      let x : IsGroupExchanged Becomes b c nb nc (places_after g first na.told o.races) e.outcome e.members.items = subst (λ t. IsGroupExchanged Becomes b c nb nc (places_at g t sockets) e.outcome e.members.items) told x0 in
      let same : sockets_in (places_after g first na.told o.races) ≡ sockets = same_sockets g (told_after (calls_of_races o.races) na.told) 0 sockets in
      record {
        course = record { clones = o.races; exchange = x.calls; outcome = ends.Exchanged e.outcome };
        becomes = in_parts Becomes a b c (calls_of_races o.races) x.calls (close_calls sockets) on o.raced.becomes (subst (λ s. Becomes b (close_calls s ++ x.calls) c) same x.becomes);
        session = record { stopped = None; cloned = o.cloned; exchanged = (e.outcome, (refl, x.exchange)) };
        outcome = refl;
        told_is = x.told_is;
        trace = x.changes.trace ∙ (ap (λ s. close_items s ++ (items_of x.calls ++ nb.trace)) same ∙ ap (λ t. close_items sockets ++ (items_of x.calls ++ t)) o.raced.trace);
        timed = x.timed ∙ ap (λ n. count_with (ends.Exchanged e.outcome) n) (ap (λ (v : Net). v.timed) o.raced.preserved);
        fault = λ z. absurd (cc);
        counted = (let faults = x.changes.faults in let counted = o.raced.counted in omega (arith, faults, counted));
        unused = o.raced.unused;
      }

  -- memory ran out in the exchange
  pub held_cut : (o : HasOpenedAll boxed Becomes a b na nb g first None h) → nb.told ≡ told_after (calls_of_races o.races) na.told → IsGroupCut Becomes b c nb nc (places_at g nb.told (sockets_by first o.races)) → IsCutHeld Becomes a c na g first
  held_cut o told x0 =
      let sockets = sockets_by first o.races in
      let x : IsGroupCut Becomes b c nb nc (places_after g first na.told o.races) = subst (λ t. IsGroupCut Becomes b c nb nc (places_at g t sockets)) told x0 in
      let same : sockets_in (places_after g first na.told o.races) ≡ sockets = same_sockets g (told_after (calls_of_races o.races) na.told) 0 sockets in
      let all = all_made g g.leaf 1 g.clones o.races o.cloned in
      record {
        calls = close_calls sockets ++ (x.calls ++ calls_of_races o.races);
        becomes = in_parts Becomes a b c (calls_of_races o.races) x.calls (close_calls sockets) on o.raced.becomes (subst (λ s. Becomes b (close_calls s ++ x.calls) c) same x.becomes);
        cut = record { clones = o.races; begun = x.calls; made = all.made; cut = inr (all.all, x.in_turn); split = refl };
      }

  -- a clone could not be made
  pub held_stopped : (x : GroupOutcome) (told : List Told) → HasOpenedAll boxed Becomes a b na nb g first (Some x) h → TellNothing told → length told ≡ length h.members.items → length h.members.items ≡ length (sockets_of h.members.items) → nc ≡ with_closes (sockets_of h.members.items) nb → Becomes b (close_calls (sockets_of h.members.items)) c →
      IsHeldGroup Becomes a c na nc g first x told
  held_stopped x told o none size many closed became =
      let sockets = sockets_by first o.races in
      let same : sockets_of h.members.items ≡ sockets = o.group.sockets in
      let end = clone_end g g.leaf 1 g.clones o.races x o.cloned in
      let places = places_after g first na.told o.races in
      let count : length places ≡ length sockets = as_many g (told_after (calls_of_races o.races) na.told) 0 sockets in
      let sized : length told ≡ length places = size ∙ (many ∙ (ap length same ∙ sym count)) in
      let closed_so : nc ≡ with_closes sockets nb = closed ∙ ap (λ s. with_closes s nb) same in
      record {
        course = record { clones = o.races; exchange = []; outcome = x };
        becomes = on a b c (calls_of_races o.races) (close_calls sockets) o.raced.becomes (subst (λ s. Becomes b (close_calls s) c) same became);
        session = record { stopped = Some x; cloned = o.cloned; exchanged = (refl, refl) };
        outcome = refl;
        told_is = nothing_told told places none sized ∙ sym (told_at_end x [] places end);
        trace = ap (λ (v : Net). v.trace) closed_so ∙ ap (λ t. close_items sockets ++ t) o.raced.trace;
        timed = ap (λ (v : Net). v.timed) closed_so ∙ (ap (λ (v : Net). v.timed) o.raced.preserved ∙ sym (counted_at_end x na.timed end));
        fault = λ e. subst (λ n. Rose na.faults n) (sym (ap (λ (v : Net). v.faults) closed_so)) (o.fault (ap (λ v. Some v) e));
        counted = (let faults : nc.faults ≡ nb.faults = ap (λ (v : Net). v.faults) closed_so in let counted = o.raced.counted in omega (arith, faults, counted));
        unused = o.raced.unused;
      }

  -- memory ran out at a clone
  pub held_short : HasOpenedSome Becomes a b na nb g first h → Becomes b (close_calls (sockets_of h.members.items)) c → IsCutHeld Becomes a c na g first
  held_short o became =
      let sockets = sockets_by first o.races in
      record {
        calls = close_calls sockets ++ (o.begun ++ calls_of_races o.races);
        becomes = on a b c (o.begun ++ calls_of_races o.races) (close_calls sockets) o.becomes (subst (λ s. Becomes b (close_calls s) c) o.sockets became);
        cut = record { clones = o.races; begun = o.begun; made = o.made; cut = inl (o.fewer, o.undone); split = refl };
      }

-- memory ran out before the first clone
cut_behind_none : (g : GroupTerms) (first at n : ℕ) → g.clones ≡ n → IsCutBehind g first at [] []
cut_behind_none g first at zero e = inr (sym e, tt)
cut_behind_none g first at (suc n) e = inl ((let some : 0 < g.clones = omega (arith, e) in some), inl refl)

pub held_none : {N : Type 0} (Becomes : N → List Call → N → Type 0) (a b : N) (na : Net) (g : GroupTerms) (first : ℕ) → Becomes a (closes first ∷ []) b → IsCutHeld Becomes a b na g first
held_none Becomes a b na g first h = record {
  calls = closes first ∷ [];
  becomes = h;
  cut = record { clones = []; begun = []; made = tt; cut = cut_behind_none g first na.told g.clones refl; split = refl };
}

-- memory ran out before the first call of the exchange
pub cut_before : {N : Type 0} (Becomes : N → List Call → N → Type 0) (b c : N) (nb nc : Net) (places : List Place) (sockets : List ℕ) → sockets_in places ≡ sockets → nc ≡ with_closes sockets nb → Becomes b (close_calls sockets) c → IsGroupCut Becomes b c nb nc places
cut_before Becomes b c nb nc places sockets same closed became = record {
  calls = [];
  becomes = subst (λ calls. Becomes b calls c) (sym (append-nil (close_calls (sockets_in places)))) (subst (λ s. Becomes b (close_calls s) c) (sym same) became);
  in_turn = tt;
  changes = record {
    trace = ap (λ (v : Net). v.trace) closed ∙ ap (λ s. close_items s ++ nb.trace) (sym same);
    few = omega arith;
    own_items = tt;
    faults = ap (λ (v : Net). v.faults) closed;
  };
}

pub cut_from : {N : Type 0} (Becomes : N → List Call → N → Type 0) (b c : N) (nb nc : Net) (g : GroupTerms) (at : ℕ) (was sockets : List ℕ) → sockets ≡ was → nc ≡ with_closes sockets nb → Becomes b (close_calls sockets) c → IsGroupCut Becomes b c nb nc (places_at g at was)
cut_from Becomes b c nb nc g at was sockets same closed became = cut_before Becomes b c nb nc (places_at g at was) sockets (same_sockets g at 0 was ∙ sym same) closed became

-- one more of whom nothing is told
pub tells_nothing_more : (told : List Told) (t : Told) → TellNothing told → told_by t ≡ nothing → TellNothing (told ++ t ∷ [])
tells_nothing_more [] t h e = (e, tt)
tells_nothing_more (x ∷ told) t h e = (h.0, tells_nothing_more told t h.1 e)
