-- What a round makes of the calls before it.
use Rattle.std.proofs.Common.{◌≡◌, ℕ, ◌+◌, ◌<◌, ◌≤◌, ◌^◌, Bool, true, false, if◌then◌else◌, List, [], ◌∷◌, ◌++◌, length, take, Option, Some, None, refl, sym, ap, subst, ◌∙◌, arith}
use Rattle.std.specs.Prelude.{Result, Ok, Err}
use Rattle.taps_base.specs.declared.no_memory.NoMemory.{NoMemory}
use Rattle.taps_framer.specs.Layers.{Layer}
use Rattle.taps_chain.specs.ChainLaws.{AreFramers}
use Rattle.taps_socket.specs.Calls.{Call}
use Rattle.taps_socket.specs.Shows.{told_by, told_after}
use Rattle.taps_connection.specs.declared.sender.Sender.{Sender}
use Rattle.taps_connection.specs.Encodings.{Encoding}
use Rattle.taps_connection.specs.Unread.{Unread}
use Rattle.taps_exchange.specs.declared.outcome.Outcome.{Outcome}
use Rattle.taps_exchange.specs.declared.outcome.Outcome.TheVariants as outcome
use Rattle.taps_exchange.specs.Decodings.{Hearing, enough, messages_of, decoding_of}
use Rattle.taps_exchange.specs.Members.{calls_on, pieces_read}
use Rattle.taps_exchange.specs.Turns.{Turn, over, turn_in, done_or}
use Rattle.taps_loop.specs.declared.hearing.In.{In}
use Rattle.taps_loop.specs.declared.hearing.In.TheVariants as in_turn
use Rattle.taps_loop.specs.declared.rounds.Round.{Round}
use Rattle.taps_loop.specs.declared.rounds.Round.TheVariants as round
use Rattle.taps_loop.specs.Loops.{Ends, sent_in, waiting, peer_ended, hearing, soon, turn_hearing, turn_sending, needs_more}
use Rattle.taps_loop.specs.Sends.{HasGone, waits}
use Rattle.taps_loop.specs.Hears.{IsKept, IsToHear, IsFlagged, IsInIf, HasAsked}
use Rattle.taps_loop.specs.Rounds.{AreEnds, AreKept, Stands, IsLast, IsEnded, HasRounded}
use Rattle.taps_loop.proofs.Lookings.{some_given}
use Rattle.taps_loop.proofs.Hearings.{sent_by, hearing_by}
use Rattle.taps_loop.proofs.Running.{outbox_of}

-- the last reported time behind more calls
pub told_on : (more calls : List Call) (told : ℕ) → told_after (more ++ calls) told ≡ told_after more (told_after calls told)
told_on [] calls told = refl
told_on (c ∷ more) calls told = ap (told_by c) (told_on more calls told)

-- where all is done, as many messages count as were sent
done_needs : (x : Ends) (calls : List Call) (expired : Option ℕ) → needs_more x calls (done_or expired 0 outcome.Done) ≡ 0
done_needs x calls None = refl
done_needs x calls (Some number) = refl

-- as many were heard as are needed, so that others have their turn
pub enough_turn : (x : Ends) (calls : List Call) (more : ℕ) (others : Turn) (ms : List (List ℕ)) → hearing x more calls ≡ enough ms → turn_hearing x more calls others ≡ others
enough_turn x calls more others ms h = ap (λ v. turn_in (record x.to { until = soon x calls }) (peer_ended x calls) v others) h

-- as many were heard as are needed
enough_of : (again : Bool) (needs : ℕ) (h : Hearing) (ms : List (List ℕ)) → again ≡ true → IsFlagged again needs h ms → needs ≤ length ms
enough_of true needs h ms i f = f.0
enough_of false needs h ms i f = cc

module _ {N : Type 0} (Becomes : N → List Call → N → Type 0) (x : Ends) (calls : List Call) (e : Encoding) (from : ℕ) (stream : Bool) (fs : List Layer) (to piece deadline : ℕ) (a b : N) (s : Sender) (told told2 : ℕ) (ended : Bool) (u : Unread) (ms : List (List ℕ))
    (ends : AreEnds x e from stream fs to piece deadline) (kept : AreKept x calls e stream fs piece s told ended u ms) (shows : (more : List Call) → Becomes a more b → told2 ≡ told_after more told) where
  told_behind : (more : List Call) → Becomes a more b → told2 ≡ told_after (more ++ calls) x.from.accepted
  told_behind more became = shows more became ∙ (ap (told_after more) kept.told_is ∙ sym (told_on more calls x.from.accepted))

  -- what is kept after a turn of the accepted end
  kept_behind : (P : List Call → Type 0) (ended2 : Bool) (u2 : Unread) (ms2 : List (List ℕ)) (h : HasAsked Becomes x calls a b P) → IsKept x (h.later ++ calls) stream fs piece ended2 u2 ms2 → AreKept x (h.later ++ calls) e stream fs piece s told2 ended2 u2 ms2
  kept_behind P ended2 u2 ms2 h k =
      record {
        in_turn = h.in_turn;
        sends = ap (outbox_of x) h.elsewhere ∙ kept.sends;
        sent_is = ap (sent_by x) h.elsewhere ∙ kept.sent_is;
        hears = k;
        told_is = told_behind h.later h.becomes;
      }

  module _ (ended2 : Bool) (u2 : Unread) (ms2 : List (List ℕ)) where
    abbrev Rounded : Result Round NoMemory → Type 0
    Rounded result = HasRounded Becomes x calls e stream fs piece a b result s told2 ended2 u2 ms2

    abbrev Asked : ℕ → ℕ → Result In NoMemory → Type 0
    Asked more needs result = HasAsked Becomes x calls a b (λ later. IsInIf x calls later stream fs piece more needs result ended2 u2 ms2)

    pub over_rounded : (more needs : ℕ) (o : Outcome) → Asked more needs (Ok (in_turn.Over o)) → Rounded (Ok (round.Over o))
    over_rounded more needs o h =
        record {
          more = h.later;
          becomes = h.becomes;
          so = record { in_turn = h.in_turn; ends = h.then_so.0; sent_is = ap (sent_by x) h.elsewhere ∙ kept.sent_is; heard_is = h.then_so.1 };
        }

    pub memory_rounded : (more needs : ℕ) (none : NoMemory) → Asked more needs (Err none) → Rounded (Err none)
    memory_rounded more needs none h = record { more = h.later; becomes = h.becomes; so = h.in_turn }

    -- no call was made
    enough_kept : (more needs : ℕ) (h : Asked more needs (Ok in_turn.Enough)) → AreKept x (h.later ++ calls) e stream fs piece s told2 ended2 u2 ms2
    enough_kept more needs h =
        kept_behind _ ended2 u2 ms2 h (subst (λ v. IsKept x (v ++ calls) stream fs piece ended2 u2 ms2) (sym h.then_so.0) h.then_so.1)

    -- behind a message
    pub to_hear_behind : (needs : ℕ) → needs ≡ s.sent + waits s → HasGone x calls (waits s) → IsToHear x calls (turn_sending x calls) (waits s) needs told
    to_hear_behind needs n gone =
        record {
          in_turn = kept.in_turn;
          turn = gone.turn;
          behind = ap (λ t. if t then 0 else waiting x calls) gone.newest ∙ gone.waits;
          at_most = (let w = gone.waits in omega (arith, w));
          needs_is = n ∙ ap (λ k. k + waits s) (sym kept.sent_is);
          told_is = kept.told_is;
        }

    pub enough_rounded : (needs : ℕ) → needs ≡ s.sent + waits s → HasGone x calls (waits s) → Asked (waits s) needs (Ok in_turn.Enough) → Rounded (Ok (round.Again true))
    enough_rounded needs n gone h =
        let none = h.then_so.0 in
        let flag = h.then_so.2 in
        let stands : Stands x calls s ms2 true =
        record {
          turn = gone.turn ∙ enough_turn x calls (waits s) (turn_sending x calls) (take needs ms2) flag.1;
          waits_for = λ w. gone.waits ∙ w;
          flagged = λ w. subst (λ k. IsFlagged true k (hearing x 1 calls) ms2) (n ∙ ap (λ k. s.sent + k) w) (subst (λ k. IsFlagged true needs (hearing x k calls) ms2) w flag);
          enough_so = λ i. (let l = flag.0 in omega (arith, n, l));
          had = λ i. cc;
        } in
        record {
          more = h.later;
          becomes = h.becomes;
          so = (enough_kept (waits s) needs h, subst (λ v. Stands x (v ++ calls) s ms2 true) (sym none) stands);
        }

    pub asked_rounded : (needs : ℕ) (again : Bool) → needs ≡ s.sent + waits s → Asked (waits s) needs (Ok (in_turn.Asked again)) → Rounded (Ok (round.Again again))
    asked_rounded needs again n h =
        let so = h.then_so in
        record {
          more = h.later;
          becomes = h.becomes;
          so = (
            kept_behind _ ended2 u2 ms2 h so.0,
            record {
              turn = so.2;
              waits_for = λ w. so.4 ∙ w;
              flagged = λ w. subst (λ k. IsFlagged again k (hearing x 1 (h.later ++ calls)) ms2) (n ∙ ap (λ k. s.sent + k) w)
                  (subst (λ k. IsFlagged again needs (hearing x k (h.later ++ calls)) ms2) w so.1);
              enough_so = λ i. (let l = enough_of again needs (hearing x (waits s) (h.later ++ calls)) ms2 i so.1 in omega (arith, n, l));
              had = λ i. so.3;
            },
          );
        }

    -- no message is left
    pub to_hear_last : (was : Bool) → IsLast x calls s ms was → was ≡ false → IsToHear x calls (over (done_or s.expired 0 outcome.Done)) 0 s.sent told
    to_hear_last was last lags =
        record {
          in_turn = kept.in_turn;
          turn = last.turn;
          behind = ap (λ t. if t then 0 else waiting x calls) (last.had lags);
          at_most = omega arith;
          needs_is = (let n = kept.sent_is in omega (arith, n));
          told_is = kept.told_is;
        }

    pub last_asked : (was again : Bool) → IsLast x calls s ms was → Asked 0 s.sent (Ok (in_turn.Asked again)) → Rounded (Ok (round.Again again))
    last_asked was again last h =
        let so = h.then_so in
        let none = last.none in
        record {
          more = h.later;
          becomes = h.becomes;
          so = (
            kept_behind _ ended2 u2 ms2 h so.0,
            record {
              turn = so.2;
              waits_for = λ w. absurd (omega (arith, none, w));
              flagged = λ w. absurd (omega (arith, none, w));
              enough_so = λ i. enough_of again s.sent (hearing x 0 (h.later ++ calls)) ms2 i so.1;
              had = λ i. so.3;
            },
          );
        }

    pub done_ended : (was : Bool) (o : Outcome) → IsLast x calls s ms was → o ≡ done_or s.expired 0 outcome.Done → hearing x 0 calls ≡ enough (take s.sent ms2) → IsEnded x calls o s.sent (take s.sent ms2)
    done_ended was o last is h =
        record {
          in_turn = kept.in_turn;
          ends = last.turn ∙ (enough_turn x calls 0 (over (done_or s.expired 0 outcome.Done)) (take s.sent ms2) h ∙ ap over (sym is));
          sent_is = kept.sent_is;
          heard_is = ap (λ n. messages_of (hearing x n calls)) (ap (needs_more x calls) is ∙ done_needs x calls s.expired) ∙ ap messages_of h;
        }

    pub last_enough : (was : Bool) (o : Outcome) → IsLast x calls s ms was → o ≡ done_or s.expired 0 outcome.Done → Asked 0 s.sent (Ok in_turn.Enough) →
        HasRounded Becomes x calls e stream fs piece a b (Ok (round.Over o)) s told2 ended2 u2 (take s.sent ms2)
    last_enough was o last is h =
        let flag = h.then_so.2 in
        record {
          more = h.later;
          becomes = h.becomes;
          so = subst (λ v. IsEnded x (v ++ calls) o s.sent (take s.sent ms2)) (sym h.then_so.0) (done_ended was o last is flag.1);
        }

  -- as many were heard before
  pub last_done : (was : Bool) (o : Outcome) → IsLast x calls s ms was → was ≡ true → o ≡ done_or s.expired 0 outcome.Done → AreFramers fs → length ms < 2 ^ 64 → Becomes a [] b →
      HasRounded Becomes x calls e stream fs piece a b (Ok (round.Over o)) s told2 ended u (take s.sent ms)
  last_done was o last all is w small became =
      let n : sent_in x calls + 0 ≡ s.sent = (let m = kept.sent_is in omega (arith, m)) in
      let h : hearing x 0 calls ≡ enough (take s.sent ms) =
      hearing_by x calls stream fs to piece deadline 0 ends.fixed
      ∙ (ap (λ k. (decoding_of stream fs).hearing k (pieces_read (calls_on x.to.socket calls)) (peer_ended x calls)) n
      ∙ (ap (λ v. (decoding_of stream fs).hearing s.sent (pieces_read (calls_on x.to.socket calls)) v) (sym kept.hears.ended_is)
      ∙ some_given stream fs ended piece s.sent (pieces_read (calls_on x.to.socket calls)) ms u w small kept.hears.receiving.fits kept.hears.receiving.represents (last.enough_so all))) in
      record { more = []; becomes = became; so = done_ended ended u ms was o last is h }
