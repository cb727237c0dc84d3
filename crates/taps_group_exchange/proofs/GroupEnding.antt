-- How the exchange of a group ends, and that its members are closed then.
use Rattle.std.proofs.Common.{◌≡◌, ◌≤◌, ℕ, ◌+◌, List, [], ◌∷◌, ◌++◌, length, map, Option, Some, None, refl, sym, ap, ◌∙◌, subst, arith}
use Rattle.std.proofs.lemmas.List.{length-map}
use Rattle.taps_socket.specs.Calls.{Call, items_of}
use Rattle.taps_socket.specs.Net.{Net}
use Rattle.taps_socket.specs.Shows.{Shows}
use Rattle.taps_framer.specs.declared.framer.Framer as framer
use Rattle.taps_exchange.specs.declared.outcome.Outcome.{Outcome}
use Rattle.taps_exchange.specs.Members.{calls_on, has_ended}
use Rattle.taps_exchange.specs.Turns.{Turn, over, Place, turn_in, turns_in, done_or, outcome_by, turn_of_group, IsInTurn, unless}
use Rattle.taps_exchange.proofs.Behind.{no_stop}
use Rattle.taps_group.specs.Closes.{close_calls, with_closes}
use Rattle.taps_group.specs.declared.member.Member.{Member}
use Rattle.taps_group_exchange.specs.declared.told.Told.{Told}
use Rattle.taps_group_exchange.specs.GroupEnds.{outcome_at_end, outcome_or}
use Rattle.taps_group_exchange.specs.GroupExchanges.{told_by, told_of, sockets_in, HasClosedAll, IsGroupExchanged, IsGroupCut}
use Rattle.taps_group_exchange.specs.GroupHearings.{CanHear, HasHeardAll, HearsOn, HearsOrOver, IsHearingCut, IsOverBy, IsTold, IsUnread, Split}
use Rattle.taps_group_exchange.specs.GroupSendings.{KeepsExpired}
use Rattle.taps_group_exchange.specs.Standing.{EachAt}
use Rattle.taps_group_exchange.proofs.GroupJudging.{items_are, judged}
use Rattle.taps_group_exchange.proofs.HearingGroup.{split_sizes}
use Rattle.taps_group_exchange.proofs.HearingSteps.{turn_hearing}
use Rattle.taps_group_exchange.proofs.Zips.{each_map}

-- where all are told, what is told is what they sent and heard
told_all : {M : Type 0} (calls : List Call) (Done : Place → Told → Type 0) (Rest : Place → M → Type 0) → ((p : Place) (t : Told) → Done p t → IsTold calls p t) → (told : List Told) (places : List Place) (members : List M) → length told ≡ length members → Split Done Rest told places members → map told_by told ≡ map (told_of calls) places
told_all calls Done Rest is [] [] members size z = refl
told_all calls Done Rest is [] (p ∷ places) [] size z = absurd z
told_all calls Done Rest is [] (p ∷ places) (m ∷ members) size z = absurd (omega (arith, size))
told_all calls Done Rest is (t ∷ told) [] members size z = absurd z
told_all calls Done Rest is (t ∷ told) (p ∷ places) [] size z = absurd z
told_all calls Done Rest is (t ∷ told) (p ∷ places) (m ∷ members) size z =
    ap (λ v. v ∷ map told_by told) (is p t z.0)
    ∙ ap (λ v. told_of calls p ∷ v) (told_all calls Done Rest is told places members (omega (arith, size)) z.1)

-- and where all heard as much as they need, none has a turn any more
turns_done : {M : Type 0} (calls : List Call) (Rest : Place → M → Type 0) (others : Turn) (told : List Told) (places : List Place) (members : List M) → length told ≡ length members → Split (HasHeardAll calls) Rest told places members → turns_in calls places others ≡ others
turns_done calls Rest others [] [] members size z = refl
turns_done calls Rest others [] (p ∷ places) [] size z = absurd z
turns_done calls Rest others [] (p ∷ places) (m ∷ members) size z = absurd (omega (arith, size))
turns_done calls Rest others (t ∷ told) [] members size z = absurd z
turns_done calls Rest others (t ∷ told) (p ∷ places) [] size z = absurd z
turns_done calls Rest others (t ∷ told) (p ∷ places) (m ∷ members) size z =
    ap (λ v. turn_in p.member (has_ended (calls_on p.member.socket calls)) v (turns_in calls places others)) z.0.heard
    ∙ turns_done calls Rest others told places members (omega (arith, size)) z.1

outcome_same : {X : Type 0} {F : X → Type 0} (calls : List Call) (place : ℕ) (places : List Place) (members : List (Member X F)) → EachAt (KeepsExpired calls) places members → outcome_by calls place places ≡ outcome_at_end place members
outcome_same calls place [] [] z = refl
outcome_same calls place [] (m ∷ members) z = absurd z
outcome_same calls place (p ∷ places) [] z = absurd z
outcome_same calls place (p ∷ places) (m ∷ members) z =
    ap (λ e. done_or e place (outcome_by calls (place + 1) places)) z.0
    ∙ ap (done_or m.connection.sender.expired place) (outcome_same calls (place + 1) places members z.1)

split_along : {M : Type 0} (Done Done' : Place → Told → Type 0) (Rest Rest' : Place → M → Type 0) → ((p : Place) (t : Told) → Done p t → Done' p t) → ((p : Place) (m : M) → Rest p m → Rest' p m) → (told : List Told) (places : List Place) (members : List M) → Split Done Rest told places members → Split Done' Rest' told places members
split_along Done Done' Rest Rest' done rest [] places members z = each_map Rest Rest' places members rest z
split_along Done Done' Rest Rest' done rest (t ∷ told) [] members z = absurd z
split_along Done Done' Rest Rest' done rest (t ∷ told) (p ∷ places) [] z = absurd z
split_along Done Done' Rest Rest' done rest (t ∷ told) (p ∷ places) (m ∷ members) z =
    (done p t z.0, split_along Done Done' Rest Rest' done rest told places members z.1)

-- the members are closed behind the calls of their exchange
module _ {N : Type 0} (Becomes : N → List Call → N → Type 0) (a b c : N) (net net' net'' : Net) (places : List Place) (sockets : List ℕ)
    (on : (a b c : N) (g h : List Call) → Becomes a g b → Becomes b h c → Becomes a (h ++ g) c) (shows : (calls : List Call) → Becomes a calls b → Shows net calls net')
    (same : sockets_in places ≡ sockets) (closing : Becomes b (close_calls sockets) c) (closed : net'' ≡ with_closes sockets net') where
  becomes_closed : (calls : List Call) → Becomes a calls b → Becomes a (close_calls (sockets_in places) ++ calls) c
  becomes_closed calls h = subst (λ s. Becomes a (close_calls s ++ calls) c) (sym same) (on a b c calls (close_calls sockets) h closing)

  closed_places : net'' ≡ with_closes (sockets_in places) net'
  closed_places = closed ∙ ap (λ s. with_closes s net') (sym same)

  closed_all : (calls : List Call) → Becomes a calls b → IsInTurn (turn_of_group places) calls → length (items_of calls) ≤ length places + length places → net'.faults ≡ net.faults → HasClosedAll (sockets_in places) calls net net''
  closed_all calls h in_turn few faults = record {
    trace = ap (λ (v : Net). v.trace) closed_places ∙ ap (λ v. (with_closes (sockets_in places) (record net' { trace = v })).trace) (shows calls h).trace;
    few = (let size : length (sockets_in places) ≡ length places = length-map places (λ (p : Place). p.member.socket) in omega (arith, few, size));
    own_items = items_are places calls in_turn;
    faults = ap (λ (v : Net). v.faults) closed_places ∙ faults;
  }

  module _ {X : Type 0} {F : X → Type 0} (boxed : (x : X) → framer.Ghosts (F x)) (told : List Told) (members : List (Member X F)) (size : length told ≡ length members) where
    exchanged_over : (o : Outcome) → IsOverBy boxed Becomes a b net net' places o told members → IsGroupExchanged Becomes a c net net'' places o told
    exchanged_over o h =
        let sizes = split_sizes (IsTold h.calls) (IsUnread boxed h.calls) told places members h.split in
        record {
          calls = h.calls;
          becomes = becomes_closed h.calls h.becomes;
          exchange = h.exchange;
          told_is = told_all h.calls (IsTold h.calls) (IsUnread boxed h.calls) (λ p t z. z) told places members size h.split;
          changes = closed_all h.calls h.becomes h.exchange.in_turn (let few = h.few in let x = sizes.same in omega (arith, few, x)) h.faults;
          timed = ap (λ (v : Net). v.timed) closed ∙ ((shows h.calls h.becomes).timed ∙ (judged places h.calls o h.exchange).timed net.timed);
        }

    hears_over : HearsOn boxed Becomes a b net net' places told members → IsOverBy boxed Becomes a b net net' places (outcome_at_end 0 members) told members
    hears_over h = record {
      calls = h.calls;
      becomes = h.becomes;
      exchange = record {
        in_turn = h.in_turn;
        ends = turn_hearing h.calls places h.out
            ∙ (ap (λ s. unless s (turns_in h.calls places (over (outcome_by h.calls 0 places)))) (no_stop h.calls h.go)
            ∙ (turns_done h.calls (CanHear boxed h.calls) (over (outcome_by h.calls 0 places)) told places members size h.split
            ∙ ap over (outcome_same h.calls 0 places members h.expired)));
      };
      split = split_along (HasHeardAll h.calls) (IsTold h.calls) (CanHear boxed h.calls) (IsUnread boxed h.calls) (λ p t z. z.told) (λ p m z. z.unread) told places members h.split;
      few = (let few = h.few in omega (arith, few, size));
      faults = h.faults;
    }

    -- this outcome ended the exchange, or it ended as it is done
    pub exchanged_all : (stopped : Option Outcome) (o : Outcome) → o ≡ outcome_or stopped (outcome_at_end 0 members) → HearsOrOver boxed Becomes a b net net' places stopped told members → IsGroupExchanged Becomes a c net net'' places o told
    exchanged_all None o is h = subst (λ v. IsGroupExchanged Becomes a c net net'' places v told) (sym is) (exchanged_over (outcome_at_end 0 members) (hears_over h))
    exchanged_all (Some p) o is h = subst (λ v. IsGroupExchanged Becomes a c net net'' places v told) (sym is) (exchanged_over p h)

  -- or memory cut it short
  pub cut_closed : IsHearingCut Becomes a b net net' places → IsGroupCut Becomes a c net net'' places
  cut_closed h = record {
    calls = h.calls;
    becomes = becomes_closed h.calls h.becomes;
    in_turn = h.in_turn;
    changes = closed_all h.calls h.becomes h.in_turn h.few h.faults;
  }
