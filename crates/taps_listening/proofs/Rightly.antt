-- A connection is served rightly, call by call.
use Rattle.std.proofs.Common.{◌≡◌, ℕ, Bool, true, false, List, [], ◌∷◌, length, Option, Some, None, refl, ap, sym, subst, ◌∙◌}
use Rattle.taps_socket.specs.declared.answers.SendAnswer.TheVariants as send
use Rattle.taps_socket.specs.declared.answers.RecvAnswer.TheVariants as recv
use Rattle.taps_socket.specs.declared.item.Item.TheVariants as item
use Rattle.taps_socket.specs.declared.timed_call.TimedKind.TheVariants as kind
use Rattle.taps_socket.specs.Calls.{Call, sends, receives, shuts, closes, begins, starts, waits, listens, accepts, Request, to_begin, to_send, to_shut, to_receive, request_of}
use Rattle.taps_connection.specs.Outboxes.{Stand, begun, ending, refused, all_out}
use Rattle.taps_exchange.specs.declared.outcome.Outcome.{Outcome}
use Rattle.taps_exchange.specs.declared.outcome.Outcome.TheVariants as outcome
use Rattle.taps_exchange.specs.Decodings.{Hearing, enough, lacks, breaks}
use Rattle.taps_exchange.specs.Members.{Member, has_ended}
use Rattle.taps_exchange.specs.Turns.{asks, over, stop, unless, done_or, turn_in, turn_out, turn_alone, IsInTurn}
use Rattle.taps_exchange.proofs.Writing.{IsPassed}
use Rattle.taps_exchange.proofs.WritingCalls.{written}
use Rattle.taps_listening.specs.Accepts.{is_done}
use Rattle.taps_listening.specs.Ends.{HeardEnough, IsAnswered, newest_calls, HasOwnCause, IsServedRightly}
use Rattle.taps_listening.specs.ListenRules.{ListenRules}
use Rattle.taps_listening.specs.Serving.{Served, first_served, member_of, outbox_of, hearing_of, own_outcome, turn_by, turn_serving, with_call, with_call_by}
use Rattle.taps_listening.proofs.Lifting.{is_serving}

-- its member, as one that only sends
abbrev pub sending_member : ListenRules → Served → Member
sending_member r c = record (member_of r c) { decoding = record { hearing = λ needs pieces ended. enough []; most = λ piece unread. 0 } }

-- a call is on a member's socket, up to its deadline
abbrev pub IsOwn : Member → Call → Type 0
IsOwn m (sends s b u a) = (s ≡ m.socket) × (u ≡ m.until)
IsOwn m (receives s most u came a) = (s ≡ m.socket) × (u ≡ m.until)
IsOwn m _ = Unit {0}

abbrev pub IsNewestOwn : Member → List Call → Type 0
IsNewestOwn m [] = Unit {0}
IsNewestOwn m (call ∷ calls) = IsOwn m call

pub record IsRight (r : ListenRules) (c : Served) : Type 0 where
  pub heard : (at : ℕ) → c.answered ≡ Some at → HeardEnough r c
  pub unsent : c.answered ≡ None → c.answers ≡ []
  pub newest : IsNewestOwn (member_of r c) (newest_calls c c.answered)
  pub sends_in_turn : IsInTurn (turn_alone (sending_member r c)) c.answers

pub rightly : (r : ListenRules) (c : Served) → IsRight r c → IsServedRightly r c
rightly r c k = record { written = (written (sending_member r c) c.answers k.sends_in_turn).written; heard = k.heard }

pub right_first : (r : ListenRules) (socket since : ℕ) → IsRight r (first_served socket since)
right_first r socket since = record { heard = λ at e. cc; unsent = λ e. refl; newest = tt; sends_in_turn = tt }

-- what was heard, where the time is asked
in_begin : (m : Member) (s : Option Outcome) (e : Bool) (h : Hearing) → unless s (turn_in m e h (asks to_begin)) ≡ asks to_begin → (ms : List (List ℕ)) × (h ≡ enough ms)
in_begin m (Some o) e h a = (let x : over o ≡ asks to_begin = a in cc)
in_begin m None e (enough ms) a = (ms, refl)
in_begin m None true (lacks ms unread) a = cc
in_begin m None false (lacks ms unread) a = cc
in_begin m None e (breaks ms layer place) a = cc

in_own : (m : Member) (s : Option Outcome) (e : Bool) (h : Hearing) (call : Call) → unless s (turn_in m e h (asks to_begin)) ≡ asks (request_of call) → IsOwn m call
in_own m (Some o) e h call a = (let x : over o ≡ asks (request_of call) = a in cc)
in_own m None e (enough ms) (receives s most u came answer) a = cc
in_own m None true (lacks ms unread) (receives s most u came answer) a = cc
in_own m None false (lacks ms unread) (receives s most u came answer) a = (let x : to_receive m.socket (m.decoding.most m.piece unread) m.until ≡ to_receive s most u = cc in ((let y : m.socket ≡ s = cc in sym y), (let y : m.until ≡ u = cc in sym y)))
in_own m None e (breaks ms layer place) (receives s most u came answer) a = cc
in_own m None e (enough ms) (sends s b u answer) a = cc
in_own m None true (lacks ms unread) (sends s b u answer) a = cc
in_own m None false (lacks ms unread) (sends s b u answer) a = cc
in_own m None e (breaks ms layer place) (sends s b u answer) a = cc
in_own m None e h (shuts s) a = tt
in_own m None e h (closes s) a = tt
in_own m None e h (begins at) a = tt
in_own m None e h (starts i g x) a = tt
in_own m None e h (waits u x) a = tt
in_own m None e h (listens g x) a = tt
in_own m None e h (accepts i u x) a = tt

out_own : (m : Member) (place : ℕ) (s : Option Outcome) (stand : Stand) (o : Outcome) (call : Call) → unless s (turn_out m place stand (over o)) ≡ asks (request_of call) → IsOwn m call
out_own m place (Some p) stand o call a = (let x : over p ≡ asks (request_of call) = a in cc)
out_own m place None (begun number ends rest behind) o (sends s b u answer) a = (let x : to_send m.socket rest m.until ≡ to_send s b u = cc in ((let y : m.socket ≡ s = cc in sym y), (let y : m.until ≡ u = cc in sym y)))
out_own m place None (ending behind) o (sends s b u answer) a = cc
out_own m place None (refused number layer behind) o (sends s b u answer) a = cc
out_own m place None all_out o (sends s b u answer) a = cc
out_own m place None (begun number ends rest behind) o (receives s most u came answer) a = cc
out_own m place None (ending behind) o (receives s most u came answer) a = cc
out_own m place None (refused number layer behind) o (receives s most u came answer) a = cc
out_own m place None all_out o (receives s most u came answer) a = cc
out_own m place None stand o (shuts s) a = tt
out_own m place None stand o (closes s) a = tt
out_own m place None stand o (begins at) a = tt
out_own m place None stand o (starts i g x) a = tt
out_own m place None stand o (waits u x) a = tt
out_own m place None stand o (listens g x) a = tt
out_own m place None stand o (accepts i u x) a = tt

-- what is asked to send does not rest on the place, nor on what follows
out_alone : (m n : Member) (place : ℕ) (s : Option Outcome) (stand : Stand) (o p : Outcome) (q : Request) → n.socket ≡ m.socket → n.until ≡ m.until → unless s (turn_out m place stand (over o)) ≡ asks q → unless s (turn_out n 0 stand (over p)) ≡ asks q
out_alone m n place (Some x) stand o p q e f a = (let y : over x ≡ asks q = a in cc)
out_alone m n place None (begun number ends rest behind) o p q e f a = ap (λ (v : ℕ). asks (to_send v rest n.until)) e ∙ (ap (λ (v : ℕ). asks (to_send m.socket rest v)) f ∙ a)
out_alone m n place None (ending behind) o p q e f a = ap (λ (v : ℕ). asks (to_shut v)) e ∙ a
out_alone m n place None (refused number layer behind) o p q e f a = cc
out_alone m n place None all_out o p q e f a = cc

-- one call more
hears_right : (r : ListenRules) (place : ℕ) (c : Served) (call : Call) → c.answered ≡ None → turn_by r place c None ≡ asks (request_of call) → IsRight r c → IsRight r (record c { hears = call ∷ c.hears })
hears_right r place c call e t k =
    record {
      heard = λ at x. (let y : None ≡ Some at = sym e ∙ x in cc);
      unsent = k.unsent;
      newest = subst (λ v. IsNewestOwn (member_of r c) (newest_calls (record c { hears = call ∷ c.hears }) v)) (sym e) (in_own (member_of r c) (stop c.hears) (has_ended c.hears) (hearing_of r c) call t);
      sends_in_turn = k.sends_in_turn;
    }

time_right : (r : ListenRules) (place at : ℕ) (c : Served) → c.answered ≡ None → turn_by r place c None ≡ asks to_begin → IsRight r c → IsRight r (record c { answered = Some at })
time_right r place at c e t k =
    let none = k.unsent e in
    record {
      heard = λ x y. in_begin (member_of r c) (stop c.hears) (has_ended c.hears) (hearing_of r c) t;
      unsent = λ x. (let y : Some at ≡ None = x in cc);
      newest = subst (λ v. IsNewestOwn (member_of r (record c { answered = Some at })) v) (sym none) tt;
      sends_in_turn = subst (λ v. IsInTurn (turn_alone (sending_member r (record c { answered = Some at }))) v) (sym none) tt;
    }

sends_right : (r : ListenRules) (place at : ℕ) (c : Served) (call : Call) → c.answered ≡ Some at → turn_by r place c (Some at) ≡ asks (request_of call) → IsRight r c → IsRight r (record c { answers = call ∷ c.answers })
sends_right r place at c call e t k =
    record {
      heard = k.heard;
      unsent = λ x. (let y : Some at ≡ None = sym e ∙ x in cc);
      newest = subst (λ v. IsNewestOwn (member_of r c) (newest_calls (record c { answers = call ∷ c.answers }) v)) (sym e) (out_own (member_of r c) place (stop c.answers) (outbox_of r c).stand (own_outcome r place c) call t);
      sends_in_turn = (
        out_alone (member_of r c) (sending_member r c) place (stop c.answers) (outbox_of r c).stand (own_outcome r place c) (done_or (outbox_of r c).expired 0 outcome.Done) (request_of call) refl refl t,
        k.sends_in_turn,
      );
    }

right_by : (r : ListenRules) (place : ℕ) (c : Served) (a : Option ℕ) (call : Call) → c.answered ≡ a → is_serving (request_of call) ≡ true → turn_by r place c a ≡ asks (request_of call) → IsRight r c → IsRight r (with_call_by c a call)
right_by r place c None (begins at) e h t k = time_right r place at c e t k
right_by r place c None (sends s b u answer) e h t k = hears_right r place c (sends s b u answer) e t k
right_by r place c None (receives s most u came answer) e h t k = hears_right r place c (receives s most u came answer) e t k
right_by r place c None (shuts s) e h t k = hears_right r place c (shuts s) e t k
right_by r place c None (closes s) e h t k = cc
right_by r place c None (starts i g x) e h t k = cc
right_by r place c None (waits u x) e h t k = cc
right_by r place c None (listens g x) e h t k = cc
right_by r place c None (accepts i u x) e h t k = cc
right_by r place c (Some at) call e h t k = sends_right r place at c call e t k

pub right_call : (r : ListenRules) (place : ℕ) (c : Served) (call : Call) → is_serving (request_of call) ≡ true → turn_serving r place c ≡ asks (request_of call) → IsRight r c → IsRight r (with_call c call)
right_call r place c call h t k = right_by r place c c.answered call refl h t k

-- the newest call ended the exchange
ended_by : (r : ListenRules) (place : ℕ) (c : Served) (calls : List Call) (o : Outcome) → newest_calls c c.answered ≡ calls → IsNewestOwn (member_of r c) calls → stop calls ≡ Some o → HasOwnCause r place c o
ended_by r place c [] o e own s = cc
ended_by r place c (sends x b u (send.Sent count at) ∷ calls) o e own s = cc
ended_by r place c (sends x b u (send.Timed at) ∷ calls) o e own s =
    let z : outcome.Timed ≡ o = cc in
    subst (HasOwnCause r place c) z (record { call = sends x b u (send.Timed at); earlier = calls; newest = e; timed = record { kind = kind.Send; socket = x; until = u; at = at }; told = refl; own = own.0; bounded = own.1 })
ended_by r place c (sends x b u (send.Failed cause) ∷ calls) o e own s =
    let z : outcome.DataFailed cause ≡ o = cc in
    subst (HasOwnCause r place c) z (record { call = sends x b u (send.Failed cause); earlier = calls; newest = e; sending = true; failed = ap (λ (v : ℕ). item.DataFailed v true cause ∷ []) own.0 })
ended_by r place c (receives x most u came (recv.Got count at) ∷ calls) o e own s = cc
ended_by r place c (receives x most u came recv.End ∷ calls) o e own s = cc
ended_by r place c (receives x most u came (recv.Timed at) ∷ calls) o e own s =
    let z : outcome.Timed ≡ o = cc in
    subst (HasOwnCause r place c) z (record { call = receives x most u came (recv.Timed at); earlier = calls; newest = e; timed = record { kind = kind.Recv; socket = x; until = u; at = at }; told = refl; own = own.0; bounded = own.1 })
ended_by r place c (receives x most u came (recv.Failed cause) ∷ calls) o e own s =
    let z : outcome.DataFailed cause ≡ o = cc in
    subst (HasOwnCause r place c) z (record { call = receives x most u came (recv.Failed cause); earlier = calls; newest = e; sending = false; failed = ap (λ (v : ℕ). item.DataFailed v false cause ∷ []) own.0 })
ended_by r place c (shuts x ∷ calls) o e own s = cc
ended_by r place c (closes x ∷ calls) o e own s = cc
ended_by r place c (begins at ∷ calls) o e own s = cc
ended_by r place c (starts i g a ∷ calls) o e own s = cc
ended_by r place c (waits u a ∷ calls) o e own s = cc
ended_by r place c (listens g a ∷ calls) o e own s = cc
ended_by r place c (accepts i u a ∷ calls) o e own s = cc

same : (o p : Outcome) → over o ≡ over p → o ≡ p
same o p e = cc

-- the exchange is over while it hears
in_cause : (r : ListenRules) (place : ℕ) (c : Served) (s : Option Outcome) (b : Bool) (h : Hearing) (o : Outcome) → c.answered ≡ None → IsRight r c → stop c.hears ≡ s → has_ended c.hears ≡ b → hearing_of r c ≡ h →
    unless s (turn_in (member_of r c) b h (asks to_begin)) ≡ over o → HasOwnCause r place c o
in_cause r place c (Some p) b h o e k s d g a =
    subst (HasOwnCause r place c) (same p o a)
    (ended_by r place c c.hears p (ap (newest_calls c) e) (subst (λ v. IsNewestOwn (member_of r c) (newest_calls c v)) e k.newest) s)
in_cause r place c None b (enough ms) o e k s d g a = (let x : asks to_begin ≡ over o = a in cc)
in_cause r place c None true (lacks ms unread) o e k s d g a = subst (HasOwnCause r place c) (same outcome.PeerEnded o a) (e, (d, (ms, (unread, g))))
in_cause r place c None false (lacks ms unread) o e k s d g a = cc
in_cause r place c None b (breaks ms layer at) o e k s d g a =
    subst (HasOwnCause r place c) (same (outcome.BadFrame (record { message = length ms; layer = layer; place = at })) o a)
    (e, record { messages = ms; layer = layer; place = at; heard = g; told = refl })

-- or while it sends
pub record IsOverBy (r : ListenRules) (place : ℕ) (c : Served) (o : Outcome) : Type 0 where
  pub ends : is_done o ≡ false → HasOwnCause r place c o
  pub done : is_done o ≡ true → IsAnswered r c

no_done : (o p : Outcome) → is_done p ≡ false → p ≡ o → is_done o ≡ true → ⊥
no_done o p f e t = (let x : false ≡ true = sym f ∙ (ap is_done e ∙ t) in cc)

done_not : (b : Bool) → b ≡ true → b ≡ false → ⊥
done_not b t f = (let x : true ≡ false = sym t ∙ f in cc)

stop_quiet : (r : ListenRules) (place : ℕ) (c : Served) (o : Outcome) → HasOwnCause r place c o → is_done o ≡ false
stop_quiet r place c outcome.Done h = absurd h
stop_quiet r place c (outcome.Expired of number) h = absurd h
stop_quiet r place c outcome.Timed h = refl
stop_quiet r place c (outcome.DataFailed cause) h = refl
stop_quiet r place c outcome.PeerEnded h = refl
stop_quiet r place c (outcome.BadFrame b) h = refl
stop_quiet r place c (outcome.NotSpeakable of number layer) h = refl

caused : (r : ListenRules) (place : ℕ) (c : Served) (o : Outcome) → HasOwnCause r place c o → IsOverBy r place c o
caused r place c o h = record { ends = λ f. h; done = λ t. absurd (done_not (is_done o) t (stop_quiet r place c o h)) }

own_is_done : (expired : Option ℕ) (place : ℕ) → is_done (done_or expired place outcome.Done) ≡ true
own_is_done None place = refl
own_is_done (Some number) place = refl

out_cause : (r : ListenRules) (place at : ℕ) (c : Served) (s : Option Outcome) (stand : Stand) (o : Outcome) → c.answered ≡ Some at → IsRight r c → stop c.answers ≡ s → (outbox_of r c).stand ≡ stand →
    unless s (turn_out (member_of r c) place stand (over (own_outcome r place c))) ≡ over o → IsOverBy r place c o
out_cause r place at c (Some p) stand o e k s g a =
    caused r place c o (subst (HasOwnCause r place c) (same p o a)
    (ended_by r place c c.answers p (ap (newest_calls c) e) (subst (λ v. IsNewestOwn (member_of r c) (newest_calls c v)) e k.newest) s))
out_cause r place at c None (begun number ends rest behind) o e k s g a = cc
out_cause r place at c None (ending behind) o e k s g a = cc
out_cause r place at c None (refused number layer behind) o e k s g a =
    caused r place c o (subst (HasOwnCause r place c) (same (outcome.NotSpeakable place number layer) o a)
    (record { behind = behind; stands = g; heard = k.heard at e; place_is = refl }))
out_cause r place at c None all_out o e k s g a =
    record {
      ends = λ f. absurd (done_not (is_done o) (ap is_done (sym (same (own_outcome r place c) o a)) ∙ own_is_done (outbox_of r c).expired place) f);
      done = λ t. record { at = at; answered = e; heard = k.heard at e; out = g };
    }

over_by : (r : ListenRules) (place : ℕ) (c : Served) (a : Option ℕ) (o : Outcome) → c.answered ≡ a → IsRight r c → turn_by r place c a ≡ over o → IsOverBy r place c o
over_by r place c None o e k t = caused r place c o (in_cause r place c (stop c.hears) (has_ended c.hears) (hearing_of r c) o e k refl refl refl t)
over_by r place c (Some at) o e k t = out_cause r place at c (stop c.answers) (outbox_of r c).stand o e k refl refl t

pub is_over_by : (r : ListenRules) (place : ℕ) (c : Served) (o : Outcome) → IsRight r c → turn_serving r place c ≡ over o → IsOverBy r place c o
is_over_by r place c o k t = over_by r place c c.answered o refl k t
