-- An exchange of a group of one member is that of the member alone.
use Rattle.std.proofs.Common.{◌≡◌, true, cond, List, [], ◌∷◌, None, refl, sym, ap, ◌∙◌}
use Rattle.std.proofs.lemmas.Bool.{eq-eqb}
use Rattle.taps_socket.specs.Calls.{Call, sends, receives, shuts, closes, begins, starts, waits, listens, accepts, request_of}
use Rattle.taps_connection.specs.Outboxes.{Stand, begun, ending, refused, all_out}
use Rattle.taps_exchange.specs.declared.outcome.Outcome.TheVariants as outcome
use Rattle.taps_exchange.specs.Members.{Member, is_on, calls_on, has_ended, outbox_after, hearing_after}
use Rattle.taps_exchange.specs.Turns.{Turn, asks, over, Place, turn_of_group, turn_alone, IsInTurn, stop, unless, done_or, turn_in, turn_out, turn_sending, sooner, waiting_by}
use Rattle.taps_exchange.specs.Alone.{OneIsAlone}
use Rattle.taps_exchange.proofs.Asked.{send_asks, receive_asks, shut_asks, data_asks}

-- one member is next wherever it has something to send
one_sends : (p : Place) (stand : Stand) (others : Turn) → turn_sending (sooner (waiting_by p 0 stand) None) others ≡ turn_out p.member 0 stand others
one_sends p (begun number ends rest behind) others = refl
one_sends p (ending behind) others = refl
one_sends p (refused number layer behind) others = refl
one_sends p all_out others = refl

same_turn : (p : Place) (calls : List Call) → calls_on p.member.socket calls ≡ calls → turn_of_group (p ∷ []) calls ≡ turn_alone p.member calls
same_turn p calls own =
    ap (unless (stop calls)) (one_sends p (outbox_after p.member (calls_on p.member.socket calls)).stand _
    ∙ ap (λ v. turn_out p.member 0 (outbox_after p.member v).stand (turn_in p.member (has_ended v) (hearing_after p.member v) (over (done_or (outbox_after p.member v).expired 0 outcome.Done)))) own)

-- a call that comes next is on the member's socket
on_socket : (m : Member) (calls : List Call) (c : Call) → turn_alone m calls ≡ asks (request_of c) → is_on m.socket c ≡ true
on_socket m calls (sends s bytes u a) t = eq-eqb s m.socket (send_asks m (stop calls) (outbox_after m calls).stand _ _ _ s bytes u t).own
on_socket m calls (receives s most u came a) t = eq-eqb s m.socket (receive_asks m (stop calls) (outbox_after m calls).stand _ _ _ s most u t).own
on_socket m calls (shuts s) t = eq-eqb s m.socket (shut_asks m (stop calls) (outbox_after m calls).stand _ _ _ s t).own
on_socket m calls (closes s) t = absurd (data_asks m (stop calls) (outbox_after m calls).stand _ _ _ (closes s) t)
on_socket m calls (begins at) t = absurd (data_asks m (stop calls) (outbox_after m calls).stand _ _ _ (begins at) t)
on_socket m calls (starts l g a) t = absurd (data_asks m (stop calls) (outbox_after m calls).stand _ _ _ (starts l g a) t)
on_socket m calls (waits u a) t = absurd (data_asks m (stop calls) (outbox_after m calls).stand _ _ _ (waits u a) t)
on_socket m calls (listens g a) t = absurd (data_asks m (stop calls) (outbox_after m calls).stand _ _ _ (listens g a) t)
on_socket m calls (accepts l u a) t = absurd (data_asks m (stop calls) (outbox_after m calls).stand _ _ _ (accepts l u a) t)

own_all : (m : Member) (calls : List Call) → IsInTurn (turn_alone m) calls → calls_on m.socket calls ≡ calls
own_all m [] t = refl
own_all m (c ∷ calls) t = ap (λ b. cond b (c ∷ calls_on m.socket calls) (calls_on m.socket calls)) (on_socket m calls c t.0) ∙ ap (λ v. c ∷ v) (own_all m calls t.1)

to_alone : (p : Place) (calls : List Call) → IsInTurn (turn_of_group (p ∷ [])) calls → IsInTurn (turn_alone p.member) calls
to_alone p [] t = tt
to_alone p (c ∷ calls) t =
    let before = to_alone p calls t.1 in
    (sym (same_turn p calls (own_all p.member calls before)) ∙ t.0, before)

to_group : (p : Place) (calls : List Call) → IsInTurn (turn_alone p.member) calls → IsInTurn (turn_of_group (p ∷ [])) calls
to_group p [] t = tt
to_group p (c ∷ calls) t = (same_turn p calls (own_all p.member calls t.1) ∙ t.0, to_group p calls t.1)

pub one_is_alone : OneIsAlone
one_is_alone p calls =
    record {
      in_turn = (to_alone p calls, to_group p calls);
      exchange = λ o. (
        (λ x. (let t = to_alone p calls x.in_turn in record { in_turn = t; ends = sym (same_turn p calls (own_all p.member calls t)) ∙ x.ends })),
        (λ x. record { in_turn = to_group p calls x.in_turn; ends = same_turn p calls (own_all p.member calls x.in_turn) ∙ x.ends }),
      );
      own = own_all p.member calls;
    }
