-- What a race of a plan leaves.
use Rattle.std.proofs.Common.{◌≡◌, ◌+◌, ◌*◌, ◌≤◌, ℕ, List, length, ap, sym, ◌∙◌, subst, arith}
use Rattle.std.specs.Prelude.{Some}
use Rattle.taps_base.specs.declared.gap.Gap.{Gap}
use Rattle.taps_stack.specs.declared.target.Target.{Target}
use Rattle.taps_socket.specs.declared.item.Item.{Item}
use Rattle.taps_socket.specs.declared.race_answer.RaceAnswer.{RaceAnswer}
use Rattle.taps_socket.specs.Rules.{Rules}
use Rattle.taps_socket.specs.Net.{Net, with_spare}
use Rattle.taps_racer.specs.Kept.{Kept, fresh}
use Rattle.taps_racer.specs.CarriedOut.{HasAnswer, IsCarriedOut, HasCarriedOut}
use Rattle.taps_example_client.specs.declared.plan.Planned.{Planned}
use Rattle.taps_example_client.specs.Plans.{rules_of, targets_of}
use Rattle.taps_example_client.specs.Races.{HasRaced}

same_answer : (kept : Kept) (a b : RaceAnswer) → HasAnswer kept a → HasAnswer kept b → a ≡ b
same_answer kept a b ha hb = let e : Some a ≡ Some b = sym ha ∙ hb in cc

-- room that was made before changes nothing else
since : (rules : Rules) (targets : List Target) (before after : Net) (spare : ℕ) (race : List Item) (a : RaceAnswer) → before.spare ≤ spare → IsCarriedOut rules 0 targets (with_spare before spare) after race a → IsCarriedOut rules 0 targets before after race a
since rules targets before after spare race a kept c =
    let room = c.room in
    record {
      items = c.items;
      lawful = c.lawful;
      few = c.few;
      room = omega (arith, kept, room);
      told_last = c.told_last;
      winner = c.winner;
      own = c.own;
      new_sockets = c.new_sockets;
      unused = c.unused;
      preserved = c.preserved;
      idle = c.idle;
      closed_once = c.closed_once;
      counted = c.counted;
      fault = c.fault;
    }

pub rules_fit : (planned : Planned) (gaps : List Gap) (kept : Kept) → gaps ≡ planned.plan.gaps.items → kept ≡ fresh (record { gaps = gaps; timeout = planned.pre.race.timeout_ms; cancel = planned.pre.race.cancel_ms }) → kept.rules ≡ rules_of planned
rules_fit planned gaps kept same new =
    let rules : List Gap → Rules = λ gs. record { gaps = gs; timeout = planned.pre.race.timeout_ms; cancel = planned.pre.race.cancel_ms } in
    ap (λ (k : Kept). k.rules) new ∙ ap rules same

pub raced : (planned : Planned) (rules : Rules) (targets : List Target) (before reserved after : Net) (kept : Kept) (a : RaceAnswer) → rules ≡ rules_of planned → targets ≡ targets_of planned → reserved ≡ with_spare before reserved.spare → before.spare ≤ reserved.spare → 4 * length targets + 4 ≤ reserved.spare → HasCarriedOut rules 0 targets reserved after kept → HasAnswer kept a → HasRaced planned before after a
raced planned rules targets before reserved after kept a same_rules same_targets same more enough (race, b, hb, c) ha =
    let few = c.few in
    let lowered = c.room in
    let one : IsCarriedOut rules 0 targets reserved after race a = subst (IsCarriedOut rules 0 targets reserved after race) (same_answer kept b a hb ha) c in
    let two : IsCarriedOut (rules_of planned) 0 targets reserved after race a = subst (λ r. IsCarriedOut r 0 targets reserved after race a) same_rules one in
    let three : IsCarriedOut (rules_of planned) 0 (targets_of planned) reserved after race a = subst (λ t. IsCarriedOut (rules_of planned) 0 t reserved after race a) same_targets two in
    let four : IsCarriedOut (rules_of planned) 0 (targets_of planned) (with_spare before reserved.spare) after race a = subst (λ n. IsCarriedOut (rules_of planned) 0 (targets_of planned) n after race a) same three in
    record {
      race = race;
      carried_out = since (rules_of planned) (targets_of planned) before after reserved.spare race a more four;
      room = omega (arith, enough, few, lowered);
    }
