-- What one member's hearing makes of the hearing of its group.
use Rattle.std.proofs.Common.{◌≡◌, ℕ, ◌+◌, Bool, true, false, ◌||◌, cond, List, [], ◌∷◌, ◌++◌, length, slice_get, slice_set, Option, Some, None, refl, sym, ap, ◌∙◌, subst}
use Rattle.std.specs.Prelude.{◌==◌}
use Rattle.std.proofs.lemmas.Bool.{eq-eqb}
use Rattle.taps_framer.specs.declared.framer.Framer as framer
use Rattle.taps_socket.specs.declared.answers.RecvAnswer.{RecvAnswer}
use Rattle.taps_socket.specs.declared.answers.RecvAnswer.TheVariants as recv
use Rattle.taps_socket.specs.Calls.{Call, sends, receives, shuts, closes, begins, starts, waits, listens, accepts, Request, to_receive, request_of}
use Rattle.taps_socket.specs.Once.{IsOnce}
use Rattle.taps_socket.specs.RaceSockets.{has}
use Rattle.taps_connection.specs.Encodings.{Encoding}
use Rattle.taps_connection.specs.Outboxes.{Outbox, take_turn, after_receive, after_calls}
use Rattle.taps_connection.specs.Runs.{AllGo}
use Rattle.taps_exchange.specs.declared.outcome.Outcome.{Outcome}
use Rattle.taps_exchange.specs.declared.outcome.Outcome.TheVariants as outcome
use Rattle.taps_exchange.specs.Decodings.{Decoding, Hearing, enough, lacks, breaks, messages_of}
use Rattle.taps_exchange.specs.Hearings.{asks_in, ended_by, heard_by, AllAskedIn, ends_in}
use Rattle.taps_exchange.specs.Members as exchange
use Rattle.taps_exchange.specs.Members.{calls_on, pieces_read, has_ended, outbox_after, hearing_after}
use Rattle.taps_exchange.specs.Sendings.{OthersGo}
use Rattle.taps_exchange.specs.Turns.{Turn, asks, over, Place, waiting_by, sooner, next_sender, turn_of_group, turn_sending, turn_in, turns_in, outcome_by, stop, unless, IsInTurn}
use Rattle.taps_exchange.proofs.Behind.{others_of, no_stop, stop_behind, read_behind, ended_behind}
use Rattle.taps_group.specs.declared.member.Member.{Member}
use Rattle.taps_group_exchange.specs.declared.told.Told.{Told}
use Rattle.taps_group_exchange.specs.GroupExchanges.{sent_by, count_sent, sockets_in}
use Rattle.taps_group_exchange.specs.GroupHearings.{AllOut, HasHeardAll, IsTold, IsUnread, Split}
use Rattle.taps_group_exchange.specs.Standing.{EachAt}
use Rattle.taps_group_exchange.proofs.Driving.{AllOn, own_calls, other_calls}
use Rattle.taps_group_exchange.proofs.Zips.{not_here, neither, other_way}

-- calls that receive on a socket
abbrev IsReceiveOn : ℕ → Request → Type 0
IsReceiveOn s (to_receive x most u) = x ≡ s
IsReceiveOn s _ = ⊥

abbrev pub ReceivesOn : ℕ → List Call → Type 0
ReceivesOn s [] = Unit {0}
ReceivesOn s (c ∷ calls) = IsReceiveOn s (request_of c) × ReceivesOn s calls

asks_is : (d : Decoding) (socket piece until : ℕ) (ended : Bool) (h : Hearing) (r : Request) → asks_in d socket piece until ended h ≡ Some r → IsReceiveOn socket r
asks_is d socket piece until true h r e = absurd (cc)
asks_is d socket piece until false (enough ms) r e = absurd (cc)
asks_is d socket piece until false (lacks ms unread) r e = (let x : to_receive socket (d.most piece unread) until ≡ r = cc in subst (IsReceiveOn socket) x refl)
asks_is d socket piece until false (breaks ms l p) r e = absurd (cc)

pub receives_on : (d : Decoding) (socket piece until n : ℕ) (read : List (List ℕ)) (ended : Bool) (more : List Call) → AllAskedIn d socket piece until n read ended more → ReceivesOn socket more
receives_on d socket piece until n read ended [] a = tt
receives_on d socket piece until n read ended (c ∷ more) a =
    (asks_is d socket piece until (ended_by ended more) (heard_by d n read ended more) (request_of c) a.0, receives_on d socket piece until n read ended more a.1)

pub all_on : (s : ℕ) (more : List Call) → ReceivesOn s more → AllOn s more
all_on s [] h = tt
all_on s (receives x most u came a ∷ more) h = (eq-eqb x s h.0, all_on s more h.1)
all_on s (sends x b u a ∷ more) h = absurd h.0
all_on s (shuts x ∷ more) h = absurd h.0
all_on s (closes x ∷ more) h = absurd h.0
all_on s (begins at ∷ more) h = absurd h.0
all_on s (starts l g a ∷ more) h = absurd h.0
all_on s (waits u a ∷ more) h = absurd h.0
all_on s (listens g a ∷ more) h = absurd h.0
all_on s (accepts l u a ∷ more) h = absurd h.0

-- by receives nothing is sent
pub record SameBox (a b : Outbox) : Type 0 where
  pub stand : b.stand ≡ a.stand
  pub sent : b.sent ≡ a.sent
  pub expired : b.expired ≡ a.expired

received : (a box : Outbox) (answer : RecvAnswer) → SameBox a box → SameBox a (after_receive box answer)
received a box (recv.Got count at) h = record { stand = h.stand; sent = h.sent; expired = h.expired }
received a box recv.End h = record { stand = h.stand; sent = h.sent; expired = h.expired }
received a box (recv.Timed at) h = record { stand = h.stand; sent = h.sent; expired = h.expired }
received a box (recv.Failed cause) h = record { stand = h.stand; sent = h.sent; expired = h.expired }

same_box : (s t : ℕ) (e : Encoding) (box : Outbox) (more calls : List Call) → ReceivesOn s more → SameBox (after_calls e box (calls_on t calls)) (after_calls e box (calls_on t (more ++ calls)))
same_box s t e box [] calls h = record { stand = refl; sent = refl; expired = refl }
same_box s t e box (receives x most u came a ∷ more) calls h = by (x == t) (same_box s t e box more calls h.1)
  where
    by : (b : Bool) → SameBox (after_calls e box (calls_on t calls)) (after_calls e box (calls_on t (more ++ calls))) → SameBox (after_calls e box (calls_on t calls)) (after_calls e box (cond b (receives x most u came a ∷ calls_on t (more ++ calls)) (calls_on t (more ++ calls))))
    by true k = received (after_calls e box (calls_on t calls)) (after_calls e box (calls_on t (more ++ calls))) a k
    by false k = k
same_box s t e box (sends x b u a ∷ more) calls h = absurd h.0
same_box s t e box (shuts x ∷ more) calls h = absurd h.0
same_box s t e box (closes x ∷ more) calls h = absurd h.0
same_box s t e box (begins at ∷ more) calls h = absurd h.0
same_box s t e box (starts l g a ∷ more) calls h = absurd h.0
same_box s t e box (waits u a ∷ more) calls h = absurd h.0
same_box s t e box (listens g a ∷ more) calls h = absurd h.0
same_box s t e box (accepts l u a ∷ more) calls h = absurd h.0

pub place_box : (s : ℕ) (p : Place) (more calls : List Call) → ReceivesOn s more → SameBox (outbox_after p.member (calls_on p.member.socket calls)) (outbox_after p.member (calls_on p.member.socket (more ++ calls)))
place_box s p more calls h = same_box s p.member.socket p.member.encoding (take_turn p.member.encoding p.member.accepted 0 None p.member.messages) more calls h

pub same_count : (a b : Outbox) → SameBox a b → count_sent b ≡ count_sent a
same_count a b h = ap (λ st. sent_by st b.sent) h.stand ∙ ap (sent_by a.stand) h.sent

pub out_on : (s : ℕ) (more calls : List Call) (places : List Place) → ReceivesOn s more → AllOut calls places → AllOut (more ++ calls) places
out_on s more calls [] h o = tt
out_on s more calls (p ∷ places) h o = ((place_box s p more calls h).stand ∙ o.0, out_on s more calls places h o.1)

none_next : (calls : List Call) (n : ℕ) (places : List Place) → AllOut calls places → next_sender calls n places ≡ None
none_next calls n [] o = refl
none_next calls n (p ∷ places) o = ap (λ st. sooner (waiting_by p n st) (next_sender calls (n + 1) places)) o.0 ∙ none_next calls (n + 1) places o.1

pub turn_hearing : (calls : List Call) (places : List Place) → AllOut calls places → turn_of_group places calls ≡ unless (stop calls) (turns_in calls places (over (outcome_by calls 0 places)))
turn_hearing calls places o = ap (λ w. unless (stop calls) (turn_sending w (turns_in calls places (over (outcome_by calls 0 places))))) (none_next calls 0 places o)

-- those that are told heard as much as they need
abbrev pub AllHeard : List Call → List Told → List Place → Type 0
AllHeard calls [] places = Unit {0}
AllHeard calls (t ∷ told) [] = ⊥
AllHeard calls (t ∷ told) (p ∷ places) = HasHeardAll calls p t × AllHeard calls told places

pub all_heard : {M : Type 0} (calls : List Call) (R : Place → M → Type 0) (told : List Told) (places : List Place) (members : List M) → Split (HasHeardAll calls) R told places members → AllHeard calls told places
all_heard calls R [] places members z = tt
all_heard calls R (t ∷ told) [] members z = absurd z
all_heard calls R (t ∷ told) (p ∷ places) [] z = absurd z
all_heard calls R (t ∷ told) (p ∷ places) (m ∷ members) z = (z.0, all_heard calls R told places members z.1)

abbrev behind_turns : List Told → List Place → List Call → Turn → Turn
behind_turns [] [] calls others = others
behind_turns [] (p ∷ places) calls others = turns_in calls places others
behind_turns (t ∷ told) [] calls others = others
behind_turns (t ∷ told) (p ∷ places) calls others = behind_turns told places calls others

turns_skip : (calls : List Call) (told : List Told) (places : List Place) (p : Place) (others : Turn) → slice_get places (length told) ≡ Some p → AllHeard calls told places →
    turns_in calls places others ≡ turn_in p.member (has_ended (calls_on p.member.socket calls)) (hearing_after p.member (calls_on p.member.socket calls)) (behind_turns told places calls others)
turns_skip calls [] [] p others at h = (let none : Option Place = None in let w : none ≡ Some p = at in absurd (cc))
turns_skip calls [] (q ∷ places) p others at h =
    let same : q ≡ p = cc in
    ap (λ (v : Place). turn_in v.member (has_ended (calls_on v.member.socket calls)) (hearing_after v.member (calls_on v.member.socket calls)) (turns_in calls places others)) same
turns_skip calls (t ∷ told) [] p others at h = absurd h
turns_skip calls (t ∷ told) (q ∷ places) p others at h =
    ap (λ v. turn_in q.member (has_ended (calls_on q.member.socket calls)) v (turns_in calls places others)) h.0.heard
    ∙ turns_skip calls told places p others at h.1

-- what is told of one stays, where calls are on another's socket
pub told_along : (s : ℕ) (more calls : List Call) (q : Place) (t : Told) → (s == q.member.socket) ≡ false → AllOn s more → IsTold calls q t → IsTold (more ++ calls) q t
told_along s more calls q t other own h =
    let same = other_calls s q.member.socket more calls other own in
    h ∙ ap (λ (l : List Call). record { sent = count_sent (outbox_after q.member l); heard = messages_of (hearing_after q.member l) }) (sym same)

pub heard_along : (s : ℕ) (more calls : List Call) (q : Place) (t : Told) → (s == q.member.socket) ≡ false → AllOn s more → HasHeardAll calls q t → HasHeardAll (more ++ calls) q t
heard_along s more calls q t other own h =
    let same = other_calls s q.member.socket more calls other own in
    record { told = told_along s more calls q t other own h.told; heard = ap (hearing_after q.member) same ∙ h.heard }

all_along : (more calls : List Call) (told : List Told) (places : List Place) (p : Place) → slice_get places (length told) ≡ Some p → IsOnce (sockets_in places) → AllOn p.member.socket more → AllHeard calls told places → AllHeard (more ++ calls) told places
all_along more calls [] places p at once own h = tt
all_along more calls (t ∷ told) [] p at once own h = absurd h
all_along more calls (t ∷ told) (q ∷ places) p at once own h =
    (heard_along p.member.socket more calls q t (not_here (λ (v : Place). v.member.socket) places (length told) q.member.socket p once.0 at) own h.0, all_along more calls told places p at once.1 own h.1)

pub unread_along : {X : Type 0} {F : X → Type 0} (boxed : (x : X) → framer.Ghosts (F x)) (s : ℕ) (more calls : List Call) (q : Place) (x : Member X F) → (s == q.member.socket) ≡ false → AllOn s more → IsUnread boxed calls q x → IsUnread boxed (more ++ calls) q x
unread_along boxed s more calls q x other own h =
    let same = other_calls s q.member.socket more calls other own in
    record {
      silent = record { sent = ap (λ l. count_sent (outbox_after q.member l)) same ∙ h.silent.sent; decoding = h.silent.decoding; framers = h.silent.framers };
      pieces = ap pieces_read same ∙ h.pieces;
      still_open = ap has_ended same ∙ h.still_open;
    }

-- one more is told
module _ {M : Type 0} (Done Done' : Place → Told → Type 0) (Rest Rest' : Place → M → Type 0) (p : Place) (t : Told) (done : (q : Place) (u : Told) → (p.member.socket == q.member.socket) ≡ false → Done q u → Done' q u) (rest : (q : Place) (x : M) → (p.member.socket == q.member.socket) ≡ false → Rest q x → Rest' q x) (here : Done' p t) where
  rest_others : (places : List Place) (members : List M) → has (sockets_in places) p.member.socket ≡ false → EachAt Rest places members → EachAt Rest' places members
  rest_others [] [] h z = tt
  rest_others [] (x ∷ members) h z = absurd z
  rest_others (q ∷ places) [] h z = absurd z
  rest_others (q ∷ places) (x ∷ members) h z =
      let d = neither (q.member.socket == p.member.socket) (has (sockets_in places) p.member.socket) h in
      (rest q x (other_way q.member.socket p.member.socket d.0) z.0, rest_others places members d.1 z.1)

  pub split_step : (told : List Told) (places : List Place) (members : List M) (m n : M) → slice_get places (length told) ≡ Some p → slice_get members (length told) ≡ Some m → IsOnce (sockets_in places) → Split Done Rest told places members → Split Done' Rest' (told ++ t ∷ []) places (slice_set members (length told) n)
  split_step [] [] members m n at there once z = (let none : Option Place = None in let w : none ≡ Some p = at in absurd (cc))
  split_step [] (q ∷ places) [] m n at there once z = absurd z
  split_step [] (q ∷ places) (x ∷ members) m n at there once z =
      let same : q ≡ p = cc in
      (subst (λ v. Done' v t) (sym same) here, rest_others places members (subst (λ (v : Place). has (sockets_in places) v.member.socket ≡ false) same once.0) z.1)
  split_step (u ∷ told) [] members m n at there once z = absurd z
  split_step (u ∷ told) (q ∷ places) [] m n at there once z = absurd z
  split_step (u ∷ told) (q ∷ places) (x ∷ members) m n at there once z =
      (done q u (not_here (λ (v : Place). v.member.socket) places (length told) q.member.socket p once.0 at) z.0, split_step told places members m n at there once.1 z.1)

pub split_push : {M : Type 0} (Done : Place → Told → Type 0) (Rest : Place → M → Type 0) (t : Told) (told : List Told) (places : List Place) (members : List M) (m : M) → slice_get members (length told) ≡ Some m → ((q : Place) → Rest q m → Done q t) → Split Done Rest told places members → Split Done Rest (told ++ t ∷ []) places members
split_push Done Rest t [] [] [] m there here z = (let none : Option _ = None in let w : none ≡ Some m = there in absurd (cc))
split_push Done Rest t [] [] (x ∷ members) m there here z = absurd z
split_push Done Rest t [] (q ∷ places) [] m there here z = absurd z
split_push Done Rest t [] (q ∷ places) (x ∷ members) m there here z = (let same : x ≡ m = cc in (here q (subst (Rest q) same z.0), z.1))
split_push Done Rest t (u ∷ told) [] members m there here z = absurd z
split_push Done Rest t (u ∷ told) (q ∷ places) [] m there here z = absurd z
split_push Done Rest t (u ∷ told) (q ∷ places) (x ∷ members) m there here z = (z.0, split_push Done Rest t told places members m there here z.1)

-- the one that is to hear next
pub split_there : {M : Type 0} (Done : Place → Told → Type 0) (Rest : Place → M → Type 0) (told : List Told) (places : List Place) (members : List M) (m : M) → slice_get members (length told) ≡ Some m → Split Done Rest told places members → (p : Place) × ((slice_get places (length told) ≡ Some p) × Rest p m)
split_there Done Rest [] [] [] m there z = (let none : Option _ = None in let w : none ≡ Some m = there in absurd (cc))
split_there Done Rest [] [] (x ∷ members) m there z = absurd z
split_there Done Rest [] (q ∷ places) [] m there z = absurd z
split_there Done Rest [] (q ∷ places) (x ∷ members) m there z = (let same : x ≡ m = cc in (q, (refl, subst (Rest q) same z.0)))
split_there Done Rest (u ∷ told) [] members m there z = absurd z
split_there Done Rest (u ∷ told) (q ∷ places) [] m there z = absurd z
split_there Done Rest (u ∷ told) (q ∷ places) (x ∷ members) m there z = split_there Done Rest told places members m there z.1

-- what is asked by what was heard comes next, and what ends the hearing ends the exchange
hears_next : (m : exchange.Member) (ended : Bool) (h : Hearing) (r : Request) (others : Turn) → asks_in m.decoding m.socket m.piece m.until ended h ≡ Some r → turn_in m ended h others ≡ asks r
hears_next m true h r others e = cc
hears_next m false (enough ms) r others e = cc
hears_next m false (lacks ms unread) r others e = (let x : to_receive m.socket (m.decoding.most m.piece unread) m.until ≡ r = cc in ap asks x)
hears_next m false (breaks ms l p) r others e = cc

ends_hearing : (m : exchange.Member) (s : Option Outcome) (ended : Bool) (h : Hearing) (o : Outcome) (others : Turn) → ends_in s ended h ≡ Some o → unless s (turn_in m ended h others) ≡ over o
ends_hearing m (Some p) ended h o others e = (let x : p ≡ o = cc in ap over x)
ends_hearing m None ended (enough ms) o others e = cc
ends_hearing m None true (lacks ms unread) o others e = (let x : outcome.PeerEnded ≡ o = cc in ap over x)
ends_hearing m None false (lacks ms unread) o others e = cc
ends_hearing m None ended (breaks ms l p) o others e = (let x : outcome.BadFrame (record { message = length ms; layer = l; place = p }) ≡ o = cc in ap over x)

pub no_end : (s : Option Outcome) (ended : Bool) (h : Hearing) → ends_in s ended h ≡ None → s ≡ None
no_end (Some p) ended h e = cc
no_end None ended h e = refl

or_false : (b : Bool) → (b || false) ≡ b
or_false true = refl
or_false false = refl

-- A member hears behind the calls of a group all of whose messages had their turn.
module _ (places : List Place) (calls : List Call) (told : List Told) (p : Place) (at : slice_get places (length told) ≡ Some p) (once : IsOnce (sockets_in places)) (in_turn : IsInTurn (turn_of_group places) calls) (go : AllGo calls) (out : AllOut calls places) (heard : AllHeard calls told places)
    (pieces : pieces_read (calls_on p.member.socket calls) ≡ []) (still_open : has_ended (calls_on p.member.socket calls) ≡ false) where
  abbrev Asked : List Call → Type 0
  Asked more = AllAskedIn p.member.decoding p.member.socket p.member.piece p.member.until p.member.needs [] false more

  on_it : (more : List Call) → Asked more → ReceivesOn p.member.socket more
  on_it more a = receives_on p.member.decoding p.member.socket p.member.piece p.member.until p.member.needs [] false more a

  own_on : (more : List Call) → Asked more → calls_on p.member.socket (more ++ calls) ≡ more ++ calls_on p.member.socket calls
  own_on more a = own_calls p.member.socket more calls (all_on p.member.socket more (on_it more a))

  ended_now : (more : List Call) → Asked more → has_ended (calls_on p.member.socket (more ++ calls)) ≡ ended_by false more
  ended_now more a = ap has_ended (own_on more a) ∙ (ended_behind more (calls_on p.member.socket calls) ∙ ap (λ v. has_ended more || v) still_open)

  pub hearing_now : (more : List Call) → Asked more → hearing_after p.member (calls_on p.member.socket (more ++ calls)) ≡ heard_by p.member.decoding p.member.needs [] false more
  hearing_now more a =
      let own = calls_on p.member.socket calls in
      ap (λ v. p.member.decoding.hearing p.member.needs v (has_ended (calls_on p.member.socket (more ++ calls)))) (ap pieces_read (own_on more a) ∙ (read_behind more own ∙ ap (λ v. v ++ pieces_read more) pieces))
      ∙ ap (p.member.decoding.hearing p.member.needs (pieces_read more)) (ended_now more a)

  abbrev rest : List Call → Turn
  rest more = behind_turns told places (more ++ calls) (over (outcome_by (more ++ calls) 0 places))

  turn_now : (more : List Call) → Asked more → turn_of_group places (more ++ calls) ≡ unless (stop more) (turn_in p.member (ended_by false more) (heard_by p.member.decoding p.member.needs [] false more) (rest more))
  turn_now more a =
      turn_hearing (more ++ calls) places (out_on p.member.socket more calls places (on_it more a) out)
      ∙ (ap (λ s. unless s (turns_in (more ++ calls) places (over (outcome_by (more ++ calls) 0 places)))) (stop_behind more calls go)
      ∙ (ap (unless (stop more)) (turns_skip (more ++ calls) told places p (over (outcome_by (more ++ calls) 0 places)) at (all_along more calls told places p at once (all_on p.member.socket more (on_it more a)) heard))
      ∙ (ap (λ b. unless (stop more) (turn_in p.member b (hearing_after p.member (calls_on p.member.socket (more ++ calls))) (rest more))) (ended_now more a)
      ∙ ap (λ h. unless (stop more) (turn_in p.member (ended_by false more) h (rest more))) (hearing_now more a))))

  pub in_turn_on : (more : List Call) → Asked more → OthersGo more → IsInTurn (turn_of_group places) (more ++ calls)
  in_turn_on [] a g = in_turn
  in_turn_on (c ∷ more) a g = (
    turn_now more a.1
        ∙ (ap (λ s. unless s (turn_in p.member (ended_by false more) (heard_by p.member.decoding p.member.needs [] false more) (rest more))) (no_stop more g)
        ∙ hears_next p.member (ended_by false more) (heard_by p.member.decoding p.member.needs [] false more) (request_of c) (rest more) a.0),
    in_turn_on more a.1 (others_of more g),
  )

  pub over_by : (more : List Call) (o : Outcome) → Asked more → ends_in (stop more) (ended_by false more) (heard_by p.member.decoding p.member.needs [] false more) ≡ Some o → turn_of_group places (more ++ calls) ≡ over o
  over_by more o a e = turn_now more a ∙ ends_hearing p.member (stop more) (ended_by false more) (heard_by p.member.decoding p.member.needs [] false more) o (rest more) e

  -- what is told of it
  pub told_now : (more : List Call) (t : Told) → Asked more → count_sent (outbox_after p.member (calls_on p.member.socket calls)) ≡ t.sent → messages_of (heard_by p.member.decoding p.member.needs [] false more) ≡ t.heard.items → IsTold (more ++ calls) p t
  told_now more t a sent heard_is =
      let count : count_sent (outbox_after p.member (calls_on p.member.socket (more ++ calls))) ≡ t.sent = same_count (outbox_after p.member (calls_on p.member.socket calls)) (outbox_after p.member (calls_on p.member.socket (more ++ calls))) (place_box p.member.socket p more calls (on_it more a)) ∙ sent in
      let all : messages_of (hearing_after p.member (calls_on p.member.socket (more ++ calls))) ≡ t.heard.items = ap messages_of (hearing_now more a) ∙ heard_is in
      rw (count, all) refl
