-- What the turn of the sending end, and then that of the accepted one, make of the calls before them.
use Rattle.std.proofs.Common.{◌≡◌, ℕ, ◌+◌, Bool, true, false, List, [], ◌++◌, take, min, sym, ap, subst, ◌∙◌, arith, append_assoc}
use Rattle.std.specs.Prelude.{Result, Ok, Err}
use Rattle.std.proofs.lemmas.List.{take_all}
use Rattle.taps_base.specs.declared.no_memory.NoMemory.{NoMemory}
use Rattle.taps_framer.specs.Layers.{Layer}
use Rattle.taps_socket.specs.Calls.{Call}
use Rattle.taps_socket.specs.Shows.{told_after}
use Rattle.taps_connection.specs.declared.sender.Sender.{Sender}
use Rattle.taps_connection.specs.Encodings.{Encoding}
use Rattle.taps_connection.specs.Outboxes.{all_out}
use Rattle.taps_connection.specs.Senders.{settled}
use Rattle.taps_connection.specs.Unread.{Unread}
use Rattle.taps_exchange.specs.declared.outcome.Outcome.{Outcome}
use Rattle.taps_exchange.specs.declared.outcome.Outcome.TheVariants as outcome
use Rattle.taps_exchange.specs.Decodings.{Hearing, messages_of}
use Rattle.taps_exchange.specs.Members.{calls_on, pieces_read, has_ended}
use Rattle.taps_exchange.specs.Turns.{over, turn_out, done_or}
use Rattle.taps_loop.specs.declared.sending.Out.{Out}
use Rattle.taps_loop.specs.declared.rounds.Round.{Round}
use Rattle.taps_loop.specs.declared.rounds.Round.TheVariants as round
use Rattle.taps_loop.specs.Loops.{Ends, sending, sent_in, waiting, peer_ended, hearing, at_once, soon, until_by, turn_hearing, turn_loop, needs_more}
use Rattle.taps_loop.specs.Sends.{waits, IsToSend, HasTurned}
use Rattle.taps_loop.specs.Hears.{IsKept, IsFlagged, soon_by}
use Rattle.taps_loop.specs.Looks.{IsReceiving}
use Rattle.taps_loop.specs.Rounds.{until_if, AreEnds, AreKept, Stands, IsLast, IsEnded, IsRound, HasRounded}
use Rattle.taps_loop.proofs.Roundings.{told_on}

-- the sending end sends up to the time that the definition names
until_flag : (x : Ends) (calls : List Call) (flag : Bool) (needs : ℕ) (h : Hearing) (ms : List (List ℕ)) (told deadline : ℕ) → x.from.until ≡ deadline → told ≡ told_after calls x.from.accepted → IsFlagged flag needs h ms →
    until_if flag told deadline ≡ until_by h (at_once x calls) (soon x calls)
until_flag x calls true needs h ms told deadline d t f =
    ap (λ v. soon_by v deadline) t ∙ (ap (λ v. min v (told_after calls x.from.accepted + 1)) (sym d) ∙ ap (λ v. until_by v (at_once x calls) (soon x calls)) (sym f.1))
until_flag x calls false needs h ms told deadline d t f =
    ap (λ v. min deadline v) t ∙ (ap (λ v. min v (told_after calls x.from.accepted)) (sym d) ∙ ap (λ v. until_by v (at_once x calls) (soon x calls)) (sym f.1.1))

-- what counts as heard where a message waits
count_flag : (flag : Bool) (needs : ℕ) (h : Hearing) (ms : List (List ℕ)) → IsFlagged flag needs h ms → messages_of h ≡ take needs ms
count_flag true needs h ms f = ap messages_of f.1
count_flag false needs h ms f = ap messages_of f.1.1 ∙ sym (take_all needs ms (let l = f.0 in omega (arith, l)))

module _ {N : Type 0} (Becomes : N → List Call → N → Type 0) (x : Ends) (calls : List Call) (e : Encoding) (from : ℕ) (stream : Bool) (fs : List Layer) (to piece deadline : ℕ) (a b : N) (s t : Sender) (told told1 : ℕ) (ended : Bool) (u : Unread) (ms : List (List ℕ)) (flag : Bool)
    (ends : AreEnds x e from stream fs to piece deadline) (kept : AreKept x calls e stream fs piece s told ended u ms) (stands : Stands x calls s ms flag) where
  pub to_send : IsToSend x calls e from (until_if flag told deadline) deadline s
  to_send =
      record {
        encoding_is = ends.encoding_is;
        socket_is = ends.from_is;
        deadline_is = ends.fixed.deadline_is;
        apart = ends.apart;
        kept = kept.sends;
        in_turn = kept.in_turn;
        turn = stands.turn;
        waits_for = stands.waits_for;
        until_is = λ w. until_flag x calls flag (s.sent + 1) (hearing x 1 calls) ms told deadline ends.fixed.deadline_is kept.told_is (stands.flagged w);
      }

  module _ (result : Result Out NoMemory) (h : HasTurned Becomes x calls e a b result t) (shows : (more : List Call) → Becomes a more b → told1 ≡ told_after more told) where
    same_ended : peer_ended x (h.more ++ calls) ≡ peer_ended x calls
    same_ended = ap has_ended h.elsewhere

    same_pieces : pieces_read (calls_on x.to.socket (h.more ++ calls)) ≡ pieces_read (calls_on x.to.socket calls)
    same_pieces = ap pieces_read h.elsewhere

    heard_kept : IsKept x (h.more ++ calls) stream fs piece ended u ms
    heard_kept = record { ended_is = kept.hears.ended_is ∙ sym same_ended; receiving = subst (λ v. IsReceiving stream fs piece ended u v ms) (sym same_pieces) kept.hears.receiving }

    pub sent_kept : sending x (h.more ++ calls) ≡ settled e t → AreKept x (h.more ++ calls) e stream fs piece t told1 ended u ms
    sent_kept sends =
        record {
          in_turn = h.in_turn;
          sends = sends;
          sent_is = h.sent_is;
          hears = heard_kept;
          told_is = shows h.more h.becomes ∙ (ap (told_after h.more) kept.told_is ∙ sym (told_on h.more calls x.from.accepted));
        }

    -- no call was made
    pub same_sent : h.more ≡ [] → t.sent ≡ s.sent
    same_sent none = sym h.sent_is ∙ (ap (λ v. sent_in x (v ++ calls)) none ∙ kept.sent_is)

    pub last_of : (none : h.more ≡ []) → (sending x calls).stand ≡ all_out → (sending x calls).expired ≡ t.expired → waits t ≡ 0 → IsLast x (h.more ++ calls) t ms flag
    last_of none out expired empty =
        let last : IsLast x calls t ms flag =
        record {
          turn = stands.turn
              ∙ (ap (λ v. turn_out (record x.from { until = until_by (hearing x 1 calls) (at_once x calls) (soon x calls) }) 0 v (turn_hearing x 0 calls (over (done_or (sending x calls).expired 0 outcome.Done)))) out
              ∙ ap (λ v. turn_hearing x 0 calls (over (done_or v 0 outcome.Done))) expired);
          none = empty;
          enough_so = λ i. (let l = stands.enough_so i in let n = same_sent none in omega (arith, l, n));
          had = stands.had;
        } in
        subst (λ v. IsLast x (v ++ calls) t ms flag) (sym none) last

    pub again_of : (none : h.more ≡ []) → (waits t ≡ 1 → waits s ≡ 1) → (waits t ≡ 1 → waiting x calls ≡ 1) → Stands x (h.more ++ calls) t ms flag
    again_of none before wait =
        let n = same_sent none in
        let again : Stands x calls t ms flag =
        record {
          turn = stands.turn;
          waits_for = wait;
          flagged = λ w. subst (λ k. IsFlagged flag (k + 1) (hearing x 1 calls) ms) (sym n) (stands.flagged (before w));
          enough_so = λ i. (let l = stands.enough_so i in omega (arith, l, n));
          had = stands.had;
        } in
        subst (λ v. Stands x (v ++ calls) t ms flag) (sym none) again

    -- the exchange is over
    pub over_of : (o : Outcome) → waits s ≡ 1 → turn_loop x (h.more ++ calls) ≡ over o → needs_more x (h.more ++ calls) o ≡ 1 → sent_in x (h.more ++ calls) ≡ sent_in x calls → IsEnded x (h.more ++ calls) o t.sent (take (t.sent + 1) ms)
    over_of o w is_over needs same =
        let n : s.sent ≡ t.sent = sym kept.sent_is ∙ (sym same ∙ h.sent_is) in
        let heard : hearing x 1 (h.more ++ calls) ≡ hearing x 1 calls =
        ap (λ k. x.to.decoding.hearing (k + 1) (pieces_read (calls_on x.to.socket (h.more ++ calls))) (peer_ended x (h.more ++ calls))) same
        ∙ (ap (λ v. x.to.decoding.hearing (sent_in x calls + 1) v (peer_ended x (h.more ++ calls))) same_pieces ∙ ap (λ v. x.to.decoding.hearing (sent_in x calls + 1) (pieces_read (calls_on x.to.socket calls)) v) same_ended) in
        record {
          in_turn = h.in_turn;
          ends = is_over;
          sent_is = h.sent_is;
          heard_is = ap (λ k. messages_of (hearing x k (h.more ++ calls))) needs
              ∙ (ap messages_of heard ∙ (count_flag flag (s.sent + 1) (hearing x 1 calls) ms (stands.flagged w) ∙ ap (λ k. take (k + 1) ms) n));
        }

    pub then_rounded : (c : N) (told2 : ℕ) (ended2 : Bool) (u2 : Unread) (ms2 : List (List ℕ)) (answer : Result Round NoMemory) → ((a b c : N) (g k : List Call) → Becomes a g b → Becomes b k c → Becomes a (k ++ g) c) →
        HasRounded Becomes x (h.more ++ calls) e stream fs piece b c answer t told2 ended2 u2 ms2 → HasRounded Becomes x calls e stream fs piece a c answer t told2 ended2 u2 ms2
    then_rounded c told2 ended2 u2 ms2 answer on k =
        record {
          more = k.more ++ h.more;
          becomes = on a b c h.more k.more h.becomes k.becomes;
          so = subst (λ v. IsRound x v e stream fs piece t told2 ended2 u2 ms2 answer) (sym (append_assoc k.more h.more calls)) k.so;
        }

    pub over_rounded : (o : Outcome) → IsEnded x (h.more ++ calls) o t.sent (take (t.sent + 1) ms) → HasRounded Becomes x calls e stream fs piece a b (Ok (round.Over o)) t told1 ended u (take (t.sent + 1) ms)
    over_rounded o k = record { more = h.more; becomes = h.becomes; so = k }

    pub again_rounded : sending x (h.more ++ calls) ≡ settled e t → Stands x (h.more ++ calls) t ms flag → HasRounded Becomes x calls e stream fs piece a b (Ok (round.Again flag)) t told1 ended u ms
    again_rounded sends k = record { more = h.more; becomes = h.becomes; so = (sent_kept sends, k) }

    pub memory_rounded : (none : NoMemory) → HasRounded Becomes x calls e stream fs piece a b (Err none) t told1 ended u ms
    memory_rounded none = record { more = h.more; becomes = h.becomes; so = h.in_turn }
