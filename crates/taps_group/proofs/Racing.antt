-- What the race of a clone leaves.
use Rattle.std.proofs.Common.{◌≡◌, ℕ, zero, suc, ◌+◌, ◌*◌, ◌<◌, ◌≤◌, Bool, true, false, not, ◌&&◌, List, [], ◌∷◌, length, slice_get, Option, Some, None, if◌then◌else◌, refl, sym, ◌∙◌, ap, subst, arith}
use Rattle.std.specs.Option.{option_map_or, option_or}
use Rattle.taps_stack.specs.declared.target.Target.{Target}
use Rattle.taps_stack.specs.StackTable.{is_stream}
use Rattle.taps_socket.specs.declared.item.How.TheVariants as how
use Rattle.taps_socket.specs.declared.item.Item.{Item}
use Rattle.taps_socket.specs.declared.item.Item.TheVariants as item
use Rattle.taps_socket.specs.declared.race_answer.RaceAnswer.{RaceAnswer}
use Rattle.taps_socket.specs.declared.race_answer.RaceAnswer.TheVariants as answer
use Rattle.taps_socket.specs.Net.{Net, with_spare}
use Rattle.taps_socket.specs.Over.{failure, is_timed_out, has_failed}
use Rattle.taps_socket.specs.RaceSockets.{has}
use Rattle.taps_socket.specs.LiveSockets.{live_sockets}
use Rattle.taps_socket.specs.Rules.{Rules}
use Rattle.taps_socket.specs.Sides.{is_connected, shut, ended}
use Rattle.taps_socket.specs.Standing.{Standing, standing}
use Rattle.taps_socket.specs.Winner.{ready}
use Rattle.taps_racer.specs.Kept.{Kept}
use Rattle.taps_racer.specs.CarriedOut.{HasAnswer, IsCarriedOut, HasCarriedOut, IsWinner}
use Rattle.taps_connection.specs.Conditions.{IsHeld}
use Rattle.taps_group.specs.Clones.{clone_rules, HasRaced, IsFailure, HasNotRaced}
use Rattle.taps_group.specs.Winning.{NamesNone}

same_answer : (kept : Kept) (a b : RaceAnswer) → HasAnswer kept a → HasAnswer kept b → a ≡ b
same_answer kept a b ha hb = let e : Some a ≡ Some b = sym ha ∙ hb in cc

pub raced : (target : Target) (leaf timeout : ℕ) (rules : Rules) (before after : Net) (kept : Kept) (a : RaceAnswer) → rules ≡ clone_rules timeout → HasCarriedOut rules leaf (target ∷ []) before after kept → HasAnswer kept a → HasRaced target leaf timeout before after a
raced target leaf timeout rules before after kept a same_rules (race, b, hb, c) ha =
    let one : IsCarriedOut rules leaf (target ∷ []) before after race a = subst (IsCarriedOut rules leaf (target ∷ []) before after race) (same_answer kept b a hb ha) c in
    record { race = race; carried_out = subst (λ r. IsCarriedOut r leaf (target ∷ []) before after race a) same_rules one }

-- room that was made before changes nothing else
carried_since : (rules : Rules) (leaf : ℕ) (targets : List Target) (before after : Net) (spare : ℕ) (race : List Item) (a : RaceAnswer) → before.spare ≤ spare → IsCarriedOut rules leaf targets (with_spare before spare) after race a → IsCarriedOut rules leaf targets before after race a
carried_since rules leaf targets before after spare race a kept c =
    let room = c.room in
    record {
      items = c.items;
      lawful = c.lawful;
      few = c.few;
      room = omega (arith, kept, room);
      told_last = c.told_last;
      winner = c.winner;
      own = c.own;
      new_sockets = c.new_sockets;
      unused = c.unused;
      preserved = c.preserved;
      idle = c.idle;
      closed_once = c.closed_once;
      counted = c.counted;
      fault = c.fault;
    }

pub raced_since : (target : Target) (leaf timeout : ℕ) (before reserved after : Net) (a : RaceAnswer) → HasNotRaced before reserved → HasRaced target leaf timeout reserved after a → HasRaced target leaf timeout before after a
raced_since target leaf timeout before reserved after a none r = record {
  race = r.race;
  carried_out = carried_since (clone_rules timeout) leaf (target ∷ []) before after reserved.spare r.race a none.spare (subst (λ n. IsCarriedOut (clone_rules timeout) leaf (target ∷ []) n after r.race a) none.same r.carried_out);
}

-- the race leaves an item of those that were reserved
pub leaves_one : (target : Target) (leaf timeout : ℕ) (before after : Net) (a : RaceAnswer) → 6 ≤ before.spare → HasRaced target leaf timeout before after a → 1 ≤ after.spare
leaves_one target leaf timeout before after a enough r =
    let few : length r.race ≤ 4 * length (target ∷ []) + 1 = r.carried_out.few in
    let room = r.carried_out.room in
    omega arith

-- a race of one leaf is won by that leaf
zero_below : (n : ℕ) → n < 1 → n ≡ 0
zero_below n h = omega arith

pub won_by_first : (target : Target) (leaf timeout : ℕ) (before after : Net) (n socket at : ℕ) → HasRaced target leaf timeout before after (answer.Ready n socket at) → HasRaced target leaf timeout before after (answer.Ready 0 socket at)
won_by_first target leaf timeout before after n socket at r =
    let listed : n < 1 = r.carried_out.winner.listed in
    subst (λ k. HasRaced target leaf timeout before after (answer.Ready k socket at)) (zero_below n listed) r

pub winner_live : (target : Target) (leaf timeout : ℕ) (before after : Net) (n socket at : ℕ) → HasRaced target leaf timeout before after (answer.Ready n socket at) → has (live_sockets after.trace) socket ≡ true
winner_live target leaf timeout before after n socket at r = r.carried_out.winner.live

both_left : (a b : Bool) → (a && b) ≡ true → a ≡ true
both_left true b h = refl
both_left false b h = h

right_not : (a b : Bool) → (a && not b) ≡ true → b ≡ false
right_not true true h = sym h
right_not true false h = refl
right_not false b h = absurd (cc)

only_target : (target : Target) (leaf : ℕ) → leaf < 1 → slice_get (target ∷ []) leaf ≡ Some target
only_target target zero h = refl
only_target target (suc leaf) h = absurd (omega arith)

-- a connection may hold the winner
held : (target : Target) (race trace : List Item) (leaf socket : ℕ) → IsWinner (target ∷ []) race trace leaf socket → IsHeld trace socket (is_stream target.stack) false false
held target race trace leaf socket w = record {
  connected = both_left (is_connected trace socket) _ w.sends;
  carries = ap (λ o. option_map_or (λ t. is_stream t.stack) o true) (w.target ∙ only_target target leaf w.listed);
  shut_by = right_not (is_connected trace socket) (has (shut trace) socket) w.sends;
  ended_by = right_not (is_connected trace socket) (has (ended trace) socket) w.receives;
}

pub winner_held : (target : Target) (leaf timeout : ℕ) (before after : Net) (n socket at : ℕ) → HasRaced target leaf timeout before after (answer.Ready n socket at) → IsHeld after.trace socket (is_stream target.stack) false false
winner_held target leaf timeout before after n socket at r = held target r.race after.trace n socket r.carried_out.winner

-- the answer of a first completion names a socket
abbrev NamesOne : RaceAnswer → Type 0
NamesOne (answer.Ready leaf socket at) = Unit {0}
NamesOne _ = ⊥

one_or : (o : Option RaceAnswer) (leaf socket at : ℕ) (a : RaceAnswer) → ((b : RaceAnswer) → o ≡ Some b → NamesOne b) → option_or o (Some (answer.Ready leaf socket at)) ≡ Some a → NamesOne a
one_or (Some b) leaf socket at a named h = named a h
one_or None leaf socket at a named h = let e : answer.Ready leaf socket at ≡ a = cc in subst NamesOne e (tt {0})

ready_names : (race : List Item) (a : RaceAnswer) → ready race ≡ Some a → NamesOne a
ready_names [] a h = absurd (cc)
ready_names (item.Began at ∷ r) a h = ready_names r a h
ready_names (item.Started leaf target socket at ∷ r) a h = ready_names r a h
ready_names (item.Refused leaf target cause at ∷ r) a h = ready_names r a h
ready_names (item.Waited until at how.Reached ∷ r) a h = ready_names r a h
ready_names (item.Waited until at (how.Completed socket) ∷ r) a h = one_or (ready r) _ socket at a (λ b e. ready_names r b e) h
ready_names (item.Waited until at (how.Broke socket cause) ∷ r) a h = ready_names r a h
ready_names (item.Waited until at how.Faulted ∷ r) a h = ready_names r a h
ready_names (item.Closed socket ∷ r) a h = ready_names r a h
ready_names (item.Listening target socket at ∷ r) a h = ready_names r a h
ready_names (item.NotListening target cause at ∷ r) a h = ready_names r a h
ready_names (item.Accepted listener socket at ∷ r) a h = ready_names r a h
ready_names (item.Faulted at ∷ r) a h = ready_names r a h
ready_names (item.Shut socket ∷ r) a h = ready_names r a h
ready_names (item.Ended socket ∷ r) a h = ready_names r a h
ready_names (item.DataFailed socket sending cause ∷ r) a h = ready_names r a h

both_ways : (a : RaceAnswer) → NamesOne a → NamesNone a → IsFailure a
both_ways (answer.Ready leaf socket at) one none = none
both_ways answer.NoCandidate one none = one
both_ways answer.AllFailed one none = absurd one
both_ways answer.Timeout one none = absurd one
both_ways answer.Closed one none = one
both_ways answer.SocketFault one none = absurd one

failing : (faulted timed failed : Bool) (a : RaceAnswer) → (if faulted then Some answer.SocketFault else if timed then Some answer.Timeout else if failed then Some answer.AllFailed else None) ≡ Some a → IsFailure a
failing true timed failed a h = let e : answer.SocketFault ≡ a = cc in subst IsFailure e (tt {0})
failing false true failed a h = let e : answer.Timeout ≡ a = cc in subst IsFailure e (tt {0})
failing false false true a h = let e : answer.AllFailed ≡ a = cc in subst IsFailure e (tt {0})
failing false false false a h = absurd (cc)

failure_by : (timeout : ℕ) (s : Standing) (o : Option RaceAnswer) (a : RaceAnswer) → ((b : RaceAnswer) → o ≡ Some b → NamesOne b) → NamesNone a → option_or o (failure (clone_rules timeout) s) ≡ Some a → IsFailure a
failure_by timeout s (Some b) a named none h = both_ways a (named a h) none
failure_by timeout s None a named none h = failing s.faulted (is_timed_out (clone_rules timeout) s) (has_failed (clone_rules timeout) s) a h

-- a race of one leaf with no cancel that gives no socket fails in one of three ways
pub failed : (target : Target) (leaf timeout : ℕ) (before after : Net) (a : RaceAnswer) → NamesNone a → HasRaced target leaf timeout before after a → IsFailure a
failed target leaf timeout before after a none r =
    failure_by timeout (standing r.race) (ready r.race) a (ready_names r.race) none r.carried_out.lawful.over.over
