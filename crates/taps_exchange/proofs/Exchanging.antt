-- The calls by which a connection sends all and then hears are those of an exchange of its member.
use Rattle.std.proofs.Common.{◌≡◌, ℕ, Bool, true, false, ◌||◌, List, [], ◌∷◌, ◌++◌, length, Option, Some, None, refl, ap, sym, subst, ◌∙◌}
use Rattle.std.specs.Prelude.{Result, Ok, Err}
use Rattle.taps_base.specs.declared.no_memory.NoMemory.{NoMemory}
use Rattle.taps_socket.specs.declared.answers.RecvAnswer.{RecvAnswer}
use Rattle.taps_socket.specs.declared.answers.RecvAnswer.TheVariants as recv
use Rattle.taps_socket.specs.Calls.{Call, sends, receives, shuts, closes, begins, starts, waits, listens, accepts, Request, to_send, to_shut, to_receive, request_of}
use Rattle.taps_connection.specs.declared.sender.Sender.{Sender}
use Rattle.taps_connection.specs.Encodings.{Encoding}
use Rattle.taps_connection.specs.Outboxes.{Stand, begun, ending, refused, all_out, Outbox, take_turn, after_receive, after_call, after_calls, asks_out}
use Rattle.taps_connection.specs.Runs.{AllAsked, AllGo}
use Rattle.taps_connection.specs.Senders.{settled, settled_by, queued}
use Rattle.taps_exchange.specs.declared.outcome.Outcome.{Outcome}
use Rattle.taps_exchange.specs.declared.outcome.Outcome.TheVariants as outcome
use Rattle.taps_exchange.specs.Decodings.{Decoding, Hearing, enough, lacks, breaks, messages_of}
use Rattle.taps_exchange.specs.Exchanged.{IsFresh, outcome_or, IsTalk, IsCutTalk}
use Rattle.taps_exchange.specs.Hearings.{asks_in, ended_by, heard_by, AllAskedIn, ends_in, HasHeard}
use Rattle.taps_exchange.specs.Members.{Member, pieces_read, has_ended, outbox_after, hearing_after}
use Rattle.taps_exchange.specs.Sendings.{OthersGo, ends_out, HasSent}
use Rattle.taps_exchange.specs.Turns.{Turn, asks, over, turn_alone, IsInTurn, stop, unless, done_or, turn_in, turn_out}
use Rattle.taps_exchange.proofs.Behind.{after_behind, others_of, no_stop, stop_behind, read_behind, ended_behind, goes}

-- what is asked of a sending socket comes next
pub asks_next : (m : Member) (place : ℕ) (stand : Stand) (r : Request) (others : Turn) → asks_out m.socket m.until stand ≡ Some r → turn_out m place stand others ≡ asks r
asks_next m place (begun number ends rest behind) r others e = (let x : to_send m.socket rest m.until ≡ r = cc in ap asks x)
asks_next m place (ending behind) r others e = (let x : to_shut m.socket ≡ r = cc in ap asks x)
asks_next m place (refused number layer behind) r others e = cc
asks_next m place all_out r others e = cc

-- an outcome that ends the sending ends the exchange
pub ends_sending : (m : Member) (place : ℕ) (s : Option Outcome) (stand : Stand) (o : Outcome) (others : Turn) → ends_out place s stand ≡ Some o → unless s (turn_out m place stand others) ≡ over o
ends_sending m place (Some p) stand o others e = (let x : p ≡ o = cc in ap over x)
ends_sending m place None (refused number layer behind) o others e = (let x : outcome.NotSpeakable place number layer ≡ o = cc in ap over x)
ends_sending m place None (begun number ends rest behind) o others e = cc
ends_sending m place None (ending behind) o others e = cc
ends_sending m place None all_out o others e = cc

-- none ends it
pub none_ends : (place : ℕ) (s : Option Outcome) (stand : Stand) → ends_out place s stand ≡ None → s ≡ None
none_ends place (Some p) stand e = cc
none_ends place None stand e = refl

in_turn_out : (m : Member) (calls : List Call) → AllAsked m.encoding m.socket m.until (take_turn m.encoding m.accepted 0 None m.messages) calls → OthersGo calls → IsInTurn (turn_alone m) calls
in_turn_out m [] a g = tt
in_turn_out m (c ∷ calls) a g = (
  ap (λ v. unless v (turn_out m 0 (outbox_after m calls).stand (turn_in m (has_ended calls) (hearing_after m calls) (over (done_or (outbox_after m calls).expired 0 outcome.Done))))) (no_stop calls g)
      ∙ asks_next m 0 (outbox_after m calls).stand (request_of c) _ a.0,
  in_turn_out m calls a.1 (others_of calls g),
)

-- by such calls nothing is read
not_receive : (socket until : ℕ) (stand : Stand) (s most u : ℕ) → asks_out socket until stand ≡ Some (to_receive s most u) → ⊥
not_receive socket until (begun number ends rest behind) s most u e = cc
not_receive socket until (ending behind) s most u e = cc
not_receive socket until (refused number layer behind) s most u e = cc
not_receive socket until all_out s most u e = cc

record ReadsNothing (calls : List Call) : Type 0 where
  pub pieces : pieces_read calls ≡ []
  pub still_open : has_ended calls ≡ false

reads_nothing : (e : Encoding) (socket until : ℕ) (box : Outbox) (calls : List Call) → AllAsked e socket until box calls → ReadsNothing calls
reads_nothing e socket until box [] a = record { pieces = refl; still_open = refl }
reads_nothing e socket until box (receives s most u came answer ∷ calls) a = absurd (not_receive socket until _ s most u a.0)
reads_nothing e socket until box (sends s b u answer ∷ calls) a = (let k = reads_nothing e socket until box calls a.1 in record { pieces = k.pieces; still_open = k.still_open })
reads_nothing e socket until box (shuts s ∷ calls) a = (let k = reads_nothing e socket until box calls a.1 in record { pieces = k.pieces; still_open = k.still_open })
reads_nothing e socket until box (closes s ∷ calls) a = (let k = reads_nothing e socket until box calls a.1 in record { pieces = k.pieces; still_open = k.still_open })
reads_nothing e socket until box (begins at ∷ calls) a = (let k = reads_nothing e socket until box calls a.1 in record { pieces = k.pieces; still_open = k.still_open })
reads_nothing e socket until box (starts l g x ∷ calls) a = (let k = reads_nothing e socket until box calls a.1 in record { pieces = k.pieces; still_open = k.still_open })
reads_nothing e socket until box (waits u x ∷ calls) a = (let k = reads_nothing e socket until box calls a.1 in record { pieces = k.pieces; still_open = k.still_open })
reads_nothing e socket until box (listens g x ∷ calls) a = (let k = reads_nothing e socket until box calls a.1 in record { pieces = k.pieces; still_open = k.still_open })
reads_nothing e socket until box (accepts l u x ∷ calls) a = (let k = reads_nothing e socket until box calls a.1 in record { pieces = k.pieces; still_open = k.still_open })

-- by receives nothing is sent
record SameSending (a b : Outbox) : Type 0 where
  pub stand : b.stand ≡ a.stand
  pub sent : b.sent ≡ a.sent
  pub expired : b.expired ≡ a.expired

received : (box : Outbox) (answer : RecvAnswer) → SameSending box (after_receive box answer)
received box (recv.Got count at) = record { stand = refl; sent = refl; expired = refl }
received box recv.End = record { stand = refl; sent = refl; expired = refl }
received box (recv.Timed at) = record { stand = refl; sent = refl; expired = refl }
received box (recv.Failed cause) = record { stand = refl; sent = refl; expired = refl }

then_same : (a b c : Outbox) → SameSending a b → SameSending b c → SameSending a c
then_same a b c p q = record { stand = q.stand ∙ p.stand; sent = q.sent ∙ p.sent; expired = q.expired ∙ p.expired }

abbrev pub is_receive : Request → Bool
is_receive (to_receive s most u) = true
is_receive _ = false

pub asks_receive : (d : Decoding) (socket piece until : ℕ) (ended : Bool) (h : Hearing) (r : Request) → asks_in d socket piece until ended h ≡ Some r → is_receive r ≡ true
asks_receive d socket piece until true h r e = cc
asks_receive d socket piece until false (enough ms) r e = cc
asks_receive d socket piece until false (lacks ms unread) r e = (let x : to_receive socket (d.most piece unread) until ≡ r = cc in ap is_receive (sym x))
asks_receive d socket piece until false (breaks ms l p) r e = cc

by_receive : (e : Encoding) (box : Outbox) (c : Call) → is_receive (request_of c) ≡ true → SameSending box (after_call e box c)
by_receive e box (receives s most u came answer) h = received box answer
by_receive e box (sends s b u answer) h = cc
by_receive e box (shuts s) h = cc
by_receive e box (closes s) h = cc
by_receive e box (begins at) h = cc
by_receive e box (starts l g x) h = cc
by_receive e box (waits u x) h = cc
by_receive e box (listens g x) h = cc
by_receive e box (accepts l u x) h = cc

same_sending : (e : Encoding) (box : Outbox) (d : Decoding) (socket piece until n : ℕ) (read : List (List ℕ)) (ended : Bool) (more : List Call) → AllAskedIn d socket piece until n read ended more → SameSending box (after_calls e box more)
same_sending e box d socket piece until n read ended [] a = record { stand = refl; sent = refl; expired = refl }
same_sending e box d socket piece until n read ended (c ∷ more) a =
    then_same box (after_calls e box more) _ (same_sending e box d socket piece until n read ended more a.1)
    (by_receive e (after_calls e box more) c (asks_receive d socket piece until (ended_by ended more) (heard_by d n read ended more) (request_of c) a.0))

-- what is asked by what was heard comes next
pub hears_next : (m : Member) (ended : Bool) (h : Hearing) (r : Request) (others : Turn) → asks_in m.decoding m.socket m.piece m.until ended h ≡ Some r → turn_in m ended h others ≡ asks r
hears_next m true h r others e = cc
hears_next m false (enough ms) r others e = cc
hears_next m false (lacks ms unread) r others e = (let x : to_receive m.socket (m.decoding.most m.piece unread) m.until ≡ r = cc in ap asks x)
hears_next m false (breaks ms l p) r others e = cc

pub ends_hearing : (m : Member) (s : Option Outcome) (ended : Bool) (h : Hearing) (o : Outcome) (others : Turn) → ends_in s ended h ≡ Some o → unless s (turn_in m ended h others) ≡ over o
ends_hearing m (Some p) ended h o others e = (let x : p ≡ o = cc in ap over x)
ends_hearing m None ended (enough ms) o others e = cc
ends_hearing m None true (lacks ms unread) o others e = (let x : outcome.PeerEnded ≡ o = cc in ap over x)
ends_hearing m None false (lacks ms unread) o others e = cc
ends_hearing m None ended (breaks ms l p) o others e = (let x : outcome.BadFrame (record { message = length ms; layer = l; place = p }) ≡ o = cc in ap over x)

pub no_end : (s : Option Outcome) (ended : Bool) (h : Hearing) → ends_in s ended h ≡ None → s ≡ None
no_end (Some p) ended h e = cc
no_end None ended h e = refl

-- all messages had their turn by calls
pub record HasSentAll (m : Member) (calls : List Call) : Type 0 where
  pub in_turn : IsInTurn (turn_alone m) calls
  pub go : AllGo calls
  pub out : (outbox_after m calls).stand ≡ all_out
  pub pieces : pieces_read calls ≡ []
  pub still_open : has_ended calls ≡ false

or_false : (b : Bool) → (b || false) ≡ b
or_false true = refl
or_false false = refl

module _ (m : Member) (calls : List Call) (k : HasSentAll m calls) where
  -- how it stands after more calls
  stand_after : (more : List Call) → AllAskedIn m.decoding m.socket m.piece m.until m.needs [] false more → SameSending (outbox_after m calls) (outbox_after m (more ++ calls))
  stand_after more a =
      subst (SameSending (outbox_after m calls)) (sym (after_behind m.encoding _ more calls))
      (same_sending m.encoding (outbox_after m calls) m.decoding m.socket m.piece m.until m.needs [] false more a)

  ended_after : (more : List Call) → has_ended (more ++ calls) ≡ ended_by false more
  ended_after more = ended_behind more calls ∙ ap (λ v. has_ended more || v) k.still_open

  heard_after : (more : List Call) → hearing_after m (more ++ calls) ≡ heard_by m.decoding m.needs [] false more
  heard_after more =
      ap (λ v. m.decoding.hearing m.needs v (has_ended (more ++ calls))) (read_behind more calls ∙ ap (λ v. v ++ pieces_read more) k.pieces)
      ∙ ap (m.decoding.hearing m.needs (pieces_read more)) (ended_after more)

  -- what comes next, where the newest of more calls ends nothing or does
  turn_after : (more : List Call) → AllAskedIn m.decoding m.socket m.piece m.until m.needs [] false more →
      turn_alone m (more ++ calls) ≡ unless (stop more) (turn_in m (ended_by false more) (heard_by m.decoding m.needs [] false more) (over (done_or (outbox_after m calls).expired 0 outcome.Done)))
  turn_after more a =
      let s = stand_after more a in
      rw (stop_behind more calls k.go, s.stand, k.out, ended_after more, heard_after more, s.expired) refl

  pub in_turn_in : (more : List Call) → AllAskedIn m.decoding m.socket m.piece m.until m.needs [] false more → OthersGo more → IsInTurn (turn_alone m) (more ++ calls)
  in_turn_in [] a g = k.in_turn
  in_turn_in (c ∷ more) a g = (
    turn_after more a.1 ∙ (ap (λ v. unless v (turn_in m (ended_by false more) (heard_by m.decoding m.needs [] false more) (over (done_or (outbox_after m calls).expired 0 outcome.Done)))) (no_stop more g)
        ∙ hears_next m (ended_by false more) (heard_by m.decoding m.needs [] false more) (request_of c) _ a.0),
    in_turn_in more a.1 (others_of more g),
  )

  pub heard_ends : (more : List Call) (stopped : Option Outcome) (expired : Option ℕ) (heard : List (List ℕ)) → AllAskedIn m.decoding m.socket m.piece m.until m.needs [] false more → (outbox_after m calls).expired ≡ expired →
      ends_in (stop more) (ended_by false more) (heard_by m.decoding m.needs [] false more) ≡ stopped → (stopped ≡ None → heard_by m.decoding m.needs [] false more ≡ enough heard) → turn_alone m (more ++ calls) ≡ over (outcome_or expired stopped)
  heard_ends more (Some o) expired heard a x e h = turn_after more a ∙ ends_hearing m (stop more) (ended_by false more) _ o _ e
  heard_ends more None expired heard a x e h =
      turn_after more a
      ∙ (ap (λ v. unless v (turn_in m (ended_by false more) (heard_by m.decoding m.needs [] false more) (over (done_or (outbox_after m calls).expired 0 outcome.Done)))) (no_end (stop more) _ _ e)
      ∙ (ap (λ v. turn_in m (ended_by false more) v (over (done_or (outbox_after m calls).expired 0 outcome.Done))) (h refl) ∙ ap (λ v. over (done_or v 0 outcome.Done)) x))

-- what a fresh sender represents is the member's outbox before any call
pub fresh_is : (e : Encoding) (s : Sender) → IsFresh s → settled e s ≡ take_turn e s.moment 0 None (queued s)
fresh_is e s f = ap (settled_by e s) f.begun ∙ (ap (λ v. take_turn e s.moment v s.expired (queued s)) f.sent ∙ ap (λ v. take_turn e s.moment 0 v (queued s)) f.expired)

-- The sending ended the exchange.
module _ {N : Type 0} (Becomes : N → List Call → N → Type 0) (m : Member) (a b : N) (s t : Sender) (start : settled m.encoding s ≡ take_turn m.encoding m.accepted 0 None m.messages) where
  asked_out : (result : Result (Option Outcome) NoMemory) → (h : HasSent Becomes m.encoding a b m.socket m.until 0 s result t) → AllAsked m.encoding m.socket m.until (take_turn m.encoding m.accepted 0 None m.messages) h.calls
  asked_out result h = subst (λ v. AllAsked m.encoding m.socket m.until v h.calls) start h.run.asked

  box_is : (result : Result (Option Outcome) NoMemory) → (h : HasSent Becomes m.encoding a b m.socket m.until 0 s result t) → outbox_after m h.calls ≡ h.box
  box_is result h = ap (λ v. after_calls m.encoding v h.calls) (sym start) ∙ h.run.reaches

  pub sending_ends : (o : Outcome) → messages_of (m.decoding.hearing m.needs [] false) ≡ [] → HasSent Becomes m.encoding a b m.socket m.until 0 s (Ok (Some o)) t → IsTalk Becomes a b m o t.sent []
  sending_ends o nothing h =
      let asked = asked_out (Ok (Some o)) h in
      let box = box_is (Ok (Some o)) h in
      let none = reads_nothing m.encoding m.socket m.until _ h.calls asked in
      record {
        calls = h.calls;
        becomes = h.becomes;
        exchange = record {
          in_turn = in_turn_out m h.calls asked h.others_go;
          ends = ends_sending m 0 (stop h.calls) (outbox_after m h.calls).stand o _ (ap (λ v. ends_out 0 (stop h.calls) v.stand) box ∙ h.ended.ends);
        };
        sent_is = ap (λ v. v.sent) box ∙ h.ended.sent;
        heard_is = ap (λ v. messages_of (m.decoding.hearing m.needs v (has_ended h.calls))) none.pieces ∙ (ap (λ v. messages_of (m.decoding.hearing m.needs [] v)) none.still_open ∙ nothing);
      }

  pub sending_cut : (none : NoMemory) → HasSent Becomes m.encoding a b m.socket m.until 0 s (Err none) t → IsCutTalk Becomes a b m
  sending_cut none h = record { calls = h.calls; becomes = h.becomes; in_turn = in_turn_out m h.calls (asked_out (Err none) h) h.others_go }

  all_sent : (h : HasSent Becomes m.encoding a b m.socket m.until 0 s (Ok None) t) → AllGo h.calls → HasSentAll m h.calls
  all_sent h go =
      let asked = asked_out (Ok None) h in
      let none = reads_nothing m.encoding m.socket m.until _ h.calls asked in
      record {
        in_turn = in_turn_out m h.calls asked h.others_go;
        go = go;
        out = ap (λ v. v.stand) (box_is (Ok None) h) ∙ h.ended.all_had refl;
        pieces = none.pieces;
        still_open = none.still_open;
      }

  -- and then the hearing ended it
  pub hearing_ends : (c : N) (on : (a b c : N) (g h : List Call) → Becomes a g b → Becomes b h c → Becomes a (h ++ g) c) (stopped : Option Outcome) (heard : List (List ℕ)) →
      (h : HasSent Becomes m.encoding a b m.socket m.until 0 s (Ok None) t) → HasHeard Becomes m.decoding b c m.socket m.piece m.until m.needs [] false (Ok stopped) heard → IsTalk Becomes a c m (outcome_or t.expired stopped) t.sent heard
  hearing_ends c on stopped heard h q =
      let k = all_sent h (goes h.calls h.others_go (none_ends 0 (stop h.calls) h.box.stand h.ended.ends)) in
      let box = box_is (Ok None) h in
      let same = stand_after m h.calls k q.calls q.asked in
      record {
        calls = q.calls ++ h.calls;
        becomes = on a b c h.calls q.calls h.becomes q.becomes;
        exchange = record {
          in_turn = in_turn_in m h.calls k q.calls q.asked q.others_go;
          ends = heard_ends m h.calls k q.calls stopped t.expired heard q.asked (ap (λ v. v.expired) box ∙ h.ended.expired) q.ended_so.ends q.ended_so.all_heard;
        };
        sent_is = same.sent ∙ (ap (λ v. v.sent) box ∙ h.ended.sent);
        heard_is = ap messages_of (heard_after m h.calls k q.calls) ∙ q.ended_so.heard_is;
      }

  pub hearing_cut : (c : N) (on : (a b c : N) (g h : List Call) → Becomes a g b → Becomes b h c → Becomes a (h ++ g) c) (none : NoMemory) (heard : List (List ℕ)) →
      (h : HasSent Becomes m.encoding a b m.socket m.until 0 s (Ok None) t) → HasHeard Becomes m.decoding b c m.socket m.piece m.until m.needs [] false (Err none) heard → IsCutTalk Becomes a c m
  hearing_cut c on none heard h q =
      let k = all_sent h (goes h.calls h.others_go (none_ends 0 (stop h.calls) h.box.stand h.ended.ends)) in
      record {
        calls = q.calls ++ h.calls;
        becomes = on a b c h.calls q.calls h.becomes q.becomes;
        in_turn = in_turn_in m h.calls k q.calls q.asked q.others_go;
      }
