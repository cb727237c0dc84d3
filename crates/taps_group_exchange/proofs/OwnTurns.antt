-- The calls of a group's exchange on one member's socket are those of that member's exchange alone.
use Rattle.std.proofs.Common.{◌≡◌, ◌⊎◌, inl, inr, ℕ, zero, suc, ◌+◌, Bool, true, false, cond, List, [], ◌∷◌, length, slice_get, Option, Some, None, refl, sym, ap, ◌∙◌, subst, arith}
use Rattle.std.specs.Prelude.{◌==◌}
use Rattle.std.proofs.lemmas.Bool.{eq-eqb, eqb-true}
use Rattle.taps_chain.specs.declared.heard.BadAt.{BadAt}
use Rattle.taps_socket.specs.Calls.{Call, sends, receives, shuts, closes, begins, starts, waits, listens, accepts, Request, to_begin, to_start, to_wait, to_close, to_listen, to_accept, to_send, to_shut, to_receive, request_of}
use Rattle.taps_socket.specs.Once.{IsOnce}
use Rattle.taps_connection.specs.Outboxes.{Stand, begun, ending, refused, all_out}
use Rattle.taps_connection.specs.Runs.{AllGo}
use Rattle.taps_exchange.specs.declared.outcome.Outcome.{Outcome}
use Rattle.taps_exchange.specs.declared.outcome.Outcome.TheVariants as outcome
use Rattle.taps_exchange.specs.Decodings.{Hearing, enough, lacks, breaks}
use Rattle.taps_exchange.specs.Members.{Member, is_on, calls_on, has_ended, outbox_after, hearing_after}
use Rattle.taps_exchange.specs.Sendings.{OthersGo}
use Rattle.taps_exchange.specs.Turns.{Turn, asks, over, Place, Waiting, stand_of, waiting_at, waiting_by, sooner, next_sender, turn_sending, turn_out, turn_in, turns_in, done_or, outcome_by, turn_alone, turn_of_group, IsInTurn, stop, unless}
use Rattle.taps_exchange.proofs.Behind.{goes, no_stop}
use Rattle.taps_group_exchange.specs.GroupExchanges.{sockets_in}
use Rattle.taps_group_exchange.proofs.GroupJudging.{IsOn, asks_go, not_asks, sooner_is, turn_behind}
use Rattle.taps_group_exchange.proofs.Others.{once_apart, same_or_not}

same_place : (p q : Place) → Some p ≡ Some q → p ≡ q
same_place p q e = cc

-- two places with one socket are one
pub one_place : (places : List Place) (i k : ℕ) (p q : Place) → IsOnce (sockets_in places) → slice_get places i ≡ Some p → slice_get places k ≡ Some q → p.member.socket ≡ q.member.socket → p ≡ q
one_place places i k p q once here there same = by (same_or_not i k)
  where
    by : (i ≡ k) ⊎ (i ≡ k → ⊥) → p ≡ q
    by (inl e) = same_place p q (sym here ∙ (ap (slice_get places) e ∙ there))
    by (inr differs) =
        let other : (q.member.socket == p.member.socket) ≡ false = once_apart (λ (v : Place). v.member.socket) places i k p q once here there differs in
        let one : true ≡ false = sym (eq-eqb q.member.socket p.member.socket (sym same)) ∙ other in
        absurd (cc)

-- a call on a socket is asked for on it
on_asked : (c : Call) (s x : ℕ) → is_on s c ≡ true → IsOn x (request_of c) → x ≡ s
on_asked (sends y b u a) s x on is = sym is ∙ eqb-true y s on
on_asked (receives y most u came a) s x on is = sym is ∙ eqb-true y s on
on_asked (shuts y) s x on is = sym is ∙ eqb-true y s on
on_asked (closes y) s x on is = absurd is
on_asked (begins at) s x on is = absurd is
on_asked (starts l t a) s x on is = absurd is
on_asked (waits u a) s x on is = absurd is
on_asked (listens t a) s x on is = absurd is
on_asked (accepts l u a) s x on is = absurd is

-- and one that is asked for on it is a call on it
pub asked_on : (c : Call) (x : ℕ) → IsOn x (request_of c) → is_on x c ≡ true
asked_on (sends y b u a) x is = eq-eqb y x is
asked_on (receives y most u came a) x is = eq-eqb y x is
asked_on (shuts y) x is = eq-eqb y x is
asked_on (closes y) x is = absurd is
asked_on (begins at) x is = absurd is
asked_on (starts l t a) x is = absurd is
asked_on (waits u a) x is = absurd is
asked_on (listens t a) x is = absurd is
asked_on (accepts l u a) x is = absurd is

-- none of the calls before the newest was timed or failed
pub others_go : (places : List Place) (calls : List Call) → IsInTurn (turn_of_group places) calls → OthersGo calls
others_go places [] t = tt
others_go places (c ∷ calls) t = goes calls (others_go places calls t.1) (asks_go (stop calls) (turn_behind calls places) (request_of c) t.0).0

pub own_go : (s : ℕ) (calls : List Call) → AllGo calls → AllGo (calls_on s calls)
own_go s [] g = tt
own_go s (c ∷ calls) g = by (is_on s c) (own_go s calls g.1)
  where
    by : (b : Bool) → AllGo (calls_on s calls) → AllGo (cond b (c ∷ calls_on s calls) (calls_on s calls))
    by true h = (g.0, h)
    by false h = h

-- a member whose stand gives it the turn, at its place
pub record Waits (calls : List Call) (first : ℕ) (places : List Place) (w : Waiting) : Type 0 where
  pub index : ℕ
  pub place : Place
  pub there : slice_get places index ≡ Some place
  pub waits : waiting_by place (first + index) (stand_of calls place) ≡ Some w

waits_later : (calls : List Call) (first : ℕ) (p : Place) (places : List Place) (w : Waiting) → Waits calls (first + 1) places w → Waits calls first (p ∷ places) w
waits_later calls first p places w h =
    let index : first + 1 + h.index ≡ first + suc h.index = omega arith in
    record { index = suc h.index; place = h.place; there = h.there; waits = subst (λ v. waiting_by h.place v (stand_of calls h.place) ≡ Some w) index h.waits }

pub waits_there : (calls : List Call) (first : ℕ) (places : List Place) (w : Waiting) → next_sender calls first places ≡ Some w → Waits calls first places w
waits_there calls first [] w e = cc
waits_there calls first (p ∷ places) w e = by (sooner_is (waiting_by p first (stand_of calls p)) (next_sender calls (first + 1) places) w e) (λ f. waits_there calls (first + 1) places w f)
  where
    by : (waiting_by p first (stand_of calls p) ≡ Some w) ⊎ (next_sender calls (first + 1) places ≡ Some w) → (next_sender calls (first + 1) places ≡ Some w → Waits calls (first + 1) places w) → Waits calls first (p ∷ places) w
    by (inl f) rest =
        let here : first ≡ first + 0 = omega arith in
        record { index = zero; place = p; there = refl; waits = subst (λ v. waiting_by p v (stand_of calls p) ≡ Some w) here f }
    by (inr f) rest = waits_later calls first p places w (rest f)

-- what such a member asks for is asked for where it is alone
pub out_alone : (p : Place) (n : ℕ) (st : Stand) (w : Waiting) (others others' : Turn) (r : Request) → waiting_by p n st ≡ Some w → turn_out w.place.member w.number w.stand others ≡ asks r → IsOn p.member.socket r × (turn_out p.member 0 st others' ≡ asks r)
out_alone p n (begun number ends rest behind) w others others' r is e =
    let same : waiting_at p n (begun number ends rest behind) behind ≡ w = cc in
    let asked : asks (to_send p.member.socket rest p.member.until) ≡ asks r = subst (λ (v : Waiting). turn_out v.place.member v.number v.stand others ≡ asks r) (sym same) e in
    let f : to_send p.member.socket rest p.member.until ≡ r = cc in
    (subst (IsOn p.member.socket) f refl, ap asks f)
out_alone p n (ending behind) w others others' r is e =
    let f : to_shut p.member.socket ≡ r = cc in
    (subst (IsOn p.member.socket) f refl, ap asks f)
out_alone p n (refused number layer behind) w others others' r is e = absurd (cc)
out_alone p n all_out w others others' r is e = absurd (let none : Option Waiting = None in let z : none ≡ Some w = is in cc)

-- where none has the turn, no message is left
none_waits : (p : Place) (n : ℕ) (st : Stand) → waiting_by p n st ≡ None → st ≡ all_out
none_waits p n (begun number ends rest behind) e = cc
none_waits p n (ending behind) e = cc
none_waits p n (refused number layer behind) e = cc
none_waits p n all_out e = refl

neither_waits : (a b : Option Waiting) → sooner a b ≡ None → (a ≡ None) × (b ≡ None)
neither_waits None b e = (refl, e)
neither_waits (Some a) None e = absurd (cc)
neither_waits (Some a) (Some b) e = one_waits _ a b e
  where
    one_waits : (q : Bool) (a b : Waiting) → cond q (Some b) (Some a) ≡ None → (Some a ≡ None) × (Some b ≡ None)
    one_waits true a b e = absurd (cc)
    one_waits false a b e = absurd (cc)

pub out_there : (calls : List Call) (first : ℕ) (places : List Place) (k : ℕ) (p : Place) → next_sender calls first places ≡ None → slice_get places k ≡ Some p → stand_of calls p ≡ all_out
out_there calls first [] k p e there = (let none : Option Place = None in let z : none ≡ Some p = there in absurd (cc))
out_there calls first (q ∷ places) zero p e there =
    let out = none_waits q first (stand_of calls q) (neither_waits (waiting_by q first (stand_of calls q)) (next_sender calls (first + 1) places) e).0 in
    ap (stand_of calls) (sym (same_place q p there)) ∙ out
out_there calls first (q ∷ places) (suc k) p e there =
    out_there calls (first + 1) places k p (neither_waits (waiting_by q first (stand_of calls q)) (next_sender calls (first + 1) places) e).1 there

-- how a member hears, whatever comes behind it
abbrev pub hears_now : List Call → Place → Turn → Turn
hears_now calls p others = turn_in p.member (has_ended (calls_on p.member.socket calls)) (hearing_after p.member (calls_on p.member.socket calls)) others

-- it asks, or it ends, or others have their turn
pub data HearsSo (m : Member) (ended : Bool) (h : Hearing) : Type 0 where
  it_asks : (r : Request) → IsOn m.socket r → ((others : Turn) → turn_in m ended h others ≡ asks r) → HearsSo m ended h
  it_ended : ((others : Turn) → turn_in m ended h others ≡ over outcome.PeerEnded) → HearsSo m ended h
  it_is_bad : (b : BadAt) → ((others : Turn) → turn_in m ended h others ≡ over (outcome.BadFrame b)) → HearsSo m ended h
  it_has : (ms : List (List ℕ)) → h ≡ enough ms → ((others : Turn) → turn_in m ended h others ≡ others) → HearsSo m ended h

pub hears_so : (m : Member) (ended : Bool) (h : Hearing) → HearsSo m ended h
hears_so m ended (enough ms) = it_has ms refl (λ others. refl)
hears_so m true (lacks ms unread) = it_ended (λ others. refl)
hears_so m false (lacks ms unread) = it_asks (to_receive m.socket (m.decoding.most m.piece unread) m.until) refl (λ others. refl)
hears_so m ended (breaks ms l p) = it_is_bad (record { message = length ms; layer = l; place = p }) (λ others. refl)

abbrev pub heard_so : List Call → Place → Type 0
heard_so calls p = HearsSo p.member (has_ended (calls_on p.member.socket calls)) (hearing_after p.member (calls_on p.member.socket calls))

-- the member that asks, by place
pub record AsksThere (calls : List Call) (places : List Place) (r : Request) : Type 0 where
  pub index : ℕ
  pub place : Place
  pub there : slice_get places index ≡ Some place
  pub on : IsOn place.member.socket r
  pub asks_so : (others : Turn) → hears_now calls place others ≡ asks r

hears_there : (calls : List Call) (places : List Place) (o : Outcome) (r : Request) → turns_in calls places (over o) ≡ asks r → AsksThere calls places r
hears_there calls [] o r e = absurd (not_asks r o e)
hears_there calls (p ∷ places) o r e = by (hears_so p.member (has_ended (calls_on p.member.socket calls)) (hearing_after p.member (calls_on p.member.socket calls))) (λ f. hears_there calls places o r f)
  where
    by : heard_so calls p → (turns_in calls places (over o) ≡ asks r → AsksThere calls places r) → AsksThere calls (p ∷ places) r
    by (it_asks q on f) rest =
        let both : asks q ≡ asks r = sym (f (turns_in calls places (over o))) ∙ e in
        let same : q ≡ r = cc in
        record { index = zero; place = p; there = refl; on = subst (IsOn p.member.socket) same on; asks_so = λ others. f others ∙ both }
    by (it_ended f) rest = absurd (not_asks r outcome.PeerEnded (sym (f (turns_in calls places (over o))) ∙ e))
    by (it_is_bad b f) rest = absurd (not_asks r (outcome.BadFrame b) (sym (f (turns_in calls places (over o))) ∙ e))
    by (it_has ms is f) rest = (let h = rest (sym (f (turns_in calls places (over o))) ∙ e) in record { index = suc h.index; place = h.place; there = h.there; on = h.on; asks_so = h.asks_so })

-- the member whose request comes next, by place
pub record AskedOf (places : List Place) (r : Request) : Type 0 where
  pub index : ℕ
  pub place : Place
  pub there : slice_get places index ≡ Some place
  pub on : IsOn place.member.socket r

pub asked_of : (calls : List Call) (places : List Place) (r : Request) → turn_of_group places calls ≡ asks r → AskedOf places r
asked_of calls places r e = by (next_sender calls 0 places) refl (asks_go (stop calls) (turn_behind calls places) r e).1
  where
    by : (next : Option Waiting) → next_sender calls 0 places ≡ next → turn_sending next (turns_in calls places (over (outcome_by calls 0 places))) ≡ asks r → AskedOf places r
    by None is f = (let h = hears_there calls places (outcome_by calls 0 places) r f in record { index = h.index; place = h.place; there = h.there; on = h.on })
    by (Some w) is f =
        let h = waits_there calls 0 places w is in
        record { index = h.index; place = h.place; there = h.there; on = (out_alone h.place (0 + h.index) (stand_of calls h.place) w _ (over outcome.Done) r h.waits f).0 }

same_on : (r : Request) (x y : ℕ) → IsOn x r → IsOn y r → x ≡ y
same_on (to_send z bytes until) x y a b = sym a ∙ b
same_on (to_shut z) x y a b = sym a ∙ b
same_on (to_receive z most until) x y a b = sym a ∙ b
same_on to_begin x y a b = absurd a
same_on (to_start leaf target) x y a b = absurd a
same_on (to_wait until) x y a b = absurd a
same_on (to_close z) x y a b = absurd a
same_on (to_listen target) x y a b = absurd a
same_on (to_accept listener until) x y a b = absurd a

-- A member of a group whose sockets are distinct.
module _ (places : List Place) (once : IsOnce (sockets_in places)) (k : ℕ) (p : Place) (there : slice_get places k ≡ Some p) where
  abbrev own : List Call → List Call
  own calls = calls_on p.member.socket calls

  abbrev hears_alone : List Call → Turn
  hears_alone calls = turn_in p.member (has_ended (own calls)) (hearing_after p.member (own calls)) (over (done_or (outbox_after p.member (own calls)).expired 0 outcome.Done))

  pub own_stop : (calls : List Call) → IsInTurn (turn_of_group places) calls → stop calls ≡ None → stop (own calls) ≡ None
  own_stop calls t none = no_stop (own calls) (own_go p.member.socket calls (goes calls (others_go places calls t) none))

  own_behind : (calls : List Call) (r : Request) → IsOn p.member.socket r → (next : Option Waiting) → next_sender calls 0 places ≡ next → turn_sending next (turns_in calls places (over (outcome_by calls 0 places))) ≡ asks r →
      turn_out p.member 0 (stand_of calls p) (hears_alone calls) ≡ asks r
  own_behind calls r on None is e =
      let h = hears_there calls places (outcome_by calls 0 places) r e in
      let same : h.place ≡ p = one_place places h.index k h.place p once h.there there (same_on r h.place.member.socket p.member.socket h.on on) in
      ap (λ st. turn_out p.member 0 st (hears_alone calls)) (out_there calls 0 places k p is there)
      ∙ subst (λ v. hears_now calls v (over (done_or (outbox_after p.member (own calls)).expired 0 outcome.Done)) ≡ asks r) same (h.asks_so (over (done_or (outbox_after p.member (own calls)).expired 0 outcome.Done)))
  own_behind calls r on (Some w) is e =
      let h = waits_there calls 0 places w is in
      let asked = out_alone h.place (0 + h.index) (stand_of calls h.place) w _ (hears_alone calls) r h.waits e in
      let same : h.place ≡ p = one_place places h.index k h.place p once h.there there (same_on r h.place.member.socket p.member.socket asked.0 on) in
      subst (λ v. turn_out v.member 0 (stand_of calls v) (hears_alone calls) ≡ asks r) same asked.1

  own_turn : (calls : List Call) (r : Request) → IsInTurn (turn_of_group places) calls → turn_of_group places calls ≡ asks r → IsOn p.member.socket r → turn_alone p.member (own calls) ≡ asks r
  own_turn calls r t e on =
      let go = asks_go (stop calls) (turn_behind calls places) r e in
      ap (λ v. unless v (turn_out p.member 0 (stand_of calls p) (hears_alone calls))) (own_stop calls t go.0)
      ∙ own_behind calls r on (next_sender calls 0 places) refl go.1

  pub own_in_turn : (calls : List Call) → IsInTurn (turn_of_group places) calls → IsInTurn (turn_alone p.member) (own calls)
  own_in_turn [] t = tt
  own_in_turn (c ∷ calls) t = by (is_on p.member.socket c) refl (own_in_turn calls t.1)
    where
      by : (b : Bool) → is_on p.member.socket c ≡ b → IsInTurn (turn_alone p.member) (own calls) → IsInTurn (turn_alone p.member) (cond b (c ∷ own calls) (own calls))
      by true is h =
          let asked = asked_of calls places (request_of c) t.0 in
          (own_turn calls (request_of c) t.1 t.0 (subst (λ x. IsOn x (request_of c)) (on_asked c p.member.socket asked.place.member.socket is asked.on) asked.on), h)
      by false is h = h
