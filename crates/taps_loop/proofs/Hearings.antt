-- The turn of the accepted end, by what its connection answered.
use Rattle.std.proofs.Common.{◌≡◌, ℕ, ◌+◌, ◌<◌, ◌≤◌, Bool, true, false, not, ◌&&◌, if◌then◌else◌, List, [], ◌∷◌, ◌++◌, length, refl, sym, ap, subst, ◌∙◌, arith}
use Rattle.std.specs.Prelude.{◌==◌, nat_le, map, Result, Ok}
use Rattle.std.proofs.lemmas.List.{append-nil, take_all}
use Rattle.taps_base.specs.declared.no_memory.NoMemory.{NoMemory}
use Rattle.taps_framer.specs.Layers.{Layer}
use Rattle.taps_socket.specs.declared.answers.RecvAnswer.{RecvAnswer}
use Rattle.taps_socket.specs.declared.answers.RecvAnswer.TheVariants as recv
use Rattle.taps_socket.specs.Calls.{Call, receives, to_receive}
use Rattle.taps_socket.specs.Net.{Net}
use Rattle.taps_connection.specs.declared.pulled.Pulled.{Pulled}
use Rattle.taps_connection.specs.declared.pulled.Pulled.TheVariants as pulled
use Rattle.taps_connection.specs.Histories.{message, Represents}
use Rattle.taps_connection.specs.Inboxes.{Inbox, IsPulled}
use Rattle.taps_connection.specs.Unread.{Unread, most_of, with_bytes, IsWanting}
use Rattle.taps_exchange.specs.declared.outcome.Outcome.TheVariants as outcome
use Rattle.taps_exchange.specs.Decodings.{Decoding, Hearing, lacks, messages_of, decoding_of}
use Rattle.taps_exchange.specs.Hearings.{IsLacking}
use Rattle.taps_exchange.specs.Members.{calls_on, pieces_read, has_ended}
use Rattle.taps_exchange.specs.Turns.{Turn, asks, over, turn_in}
use Rattle.taps_exchange.proofs.Kept.{read_more, read_ended, fits_more}
use Rattle.taps_loop.specs.declared.hearing.Asked.{Asked}
use Rattle.taps_loop.specs.declared.hearing.Asked.TheVariants as asked_so
use Rattle.taps_loop.specs.Loops.{Ends, count_by, sent_in, waiting, peer_ended, hearing, soon, turn_sending, turn_loop}
use Rattle.taps_loop.specs.Looks.{IsReceiving, AreAll}
use Rattle.taps_loop.specs.Hears.{one_true, timed_by, asked_by, IsEnd, IsKept, IsToHear, IsReadIf, HasAsked}
use Rattle.taps_loop.proofs.Running.{outbox_of}
use Rattle.taps_loop.proofs.Own.{here, elsewhere, same_number, other_number}

-- where fewer messages are there than are needed, those that count are all of them
pub all_count : (d : Decoding) (read : List (List ℕ)) (ended : Bool) (ms : List (List ℕ)) (n : ℕ) → AreAll d read ended ms → length ms ≤ n → messages_of (d.hearing n read ended) ≡ ms
all_count d read ended ms n all few = all n ∙ take_all n ms few

abbrev pub sent_by : Ends → List Call → ℕ
sent_by x own = count_by (outbox_of x own).stand (outbox_of x own).sent

none_waits : (waits : Bool) → (one_true waits == 0) ≡ not waits
none_waits true = refl
none_waits false = refl

-- what is heard by the decoding
pub hearing_by : (x : Ends) (calls : List Call) (stream : Bool) (fs : List Layer) (socket piece deadline n : ℕ) → IsEnd x stream fs socket piece deadline →
    hearing x n calls ≡ (decoding_of stream fs).hearing (sent_in x calls + n) (pieces_read (calls_on x.to.socket calls)) (peer_ended x calls)
hearing_by x calls stream fs socket piece deadline n e = ap (λ d. d.hearing (sent_in x calls + n) (pieces_read (calls_on x.to.socket calls)) (peer_ended x calls)) e.decoding_is

-- more bytes are asked for
asks_by : (x : Ends) (calls : List Call) (ended : Bool) (h : Hearing) (others : Turn) (unread : List ℕ) (ms : List (List ℕ)) (most until : ℕ) → ended ≡ false → h ≡ lacks ms unread → x.to.decoding.most x.to.piece unread ≡ most → until ≡ soon x calls →
    turn_in (record x.to { until = soon x calls }) ended h others ≡ asks (to_receive x.to.socket most until)
asks_by x calls ended h others unread ms most until going less bound last =
    ap (λ v. turn_in (record x.to { until = soon x calls }) v h others) going
    ∙ (ap (λ v. turn_in (record x.to { until = soon x calls }) false v others) less
    ∙ (ap (λ v. asks (to_receive x.to.socket v (soon x calls))) bound ∙ ap (λ v. asks (to_receive x.to.socket most v)) (sym last)))

module _ {N : Type 0} (Becomes : N → List Call → N → Type 0) (x : Ends) (calls : List Call) (others : Turn) (stream : Bool) (fs : List Layer) (piece deadline more needs told : ℕ) (a b : N)
    (fixed : IsEnd x stream fs x.to.socket piece deadline) (start : IsToHear x calls others more needs told) (ended : Bool) (u : Unread) (ms : List (List ℕ)) (before : IsKept x calls stream fs piece ended u ms) (going : ended ≡ false)
    (lack : IsLacking (decoding_of stream fs) piece needs (pieces_read (calls_on x.to.socket calls)) ended u ms) (few : length ms < needs) (all : AreAll (decoding_of stream fs) (pieces_read (calls_on x.to.socket calls)) ended ms)
    (until : ℕ) (last : until ≡ soon x calls) where
  open_end : peer_ended x calls ≡ false
  open_end = sym before.ended_is ∙ going

  -- what was heard before
  heard_less : hearing x more calls ≡ lacks ms lack.unread
  heard_less =
      hearing_by x calls stream fs x.to.socket piece deadline more fixed
      ∙ (ap (λ n. (decoding_of stream fs).hearing n (pieces_read (calls_on x.to.socket calls)) (peer_ended x calls)) (sym start.needs_is)
      ∙ (ap (λ e. (decoding_of stream fs).hearing needs (pieces_read (calls_on x.to.socket calls)) e) (sym before.ended_is) ∙ lack.fewer))

  bound : x.to.decoding.most x.to.piece lack.unread ≡ most_of u
  bound = ap (λ (d : Decoding). d.most x.to.piece lack.unread) fixed.decoding_is ∙ (ap (λ p. (decoding_of stream fs).most p lack.unread) fixed.piece_is ∙ lack.most)

  module _ (came : List ℕ) (answer : RecvAnswer) where
    abbrev call : Call
    call = receives x.to.socket (most_of u) until came answer

    asked : turn_loop x calls ≡ asks (to_receive x.to.socket (most_of u) until)
    asked = start.turn ∙ asks_by x calls (peer_ended x calls) (hearing x more calls) others lack.unread ms (most_of u) until open_end heard_less bound last

    own : calls_on x.to.socket (call ∷ calls) ≡ call ∷ calls_on x.to.socket calls
    own = here x.to.socket call calls (same_number x.to.socket)

    apart : calls_on x.from.socket (call ∷ calls) ≡ calls_on x.from.socket calls
    apart = elsewhere x.from.socket call calls (other_number x.to.socket x.from.socket fixed.apart)

    waits_so : waiting x (call ∷ calls) ≡ more
    waits_so = start.behind

    same_sent : sent_in x (call ∷ calls) ≡ sent_in x calls
    same_sent = ap (sent_by x) apart

    ended_so : peer_ended x (call ∷ calls) ≡ has_ended (call ∷ calls_on x.to.socket calls)
    ended_so = ap has_ended own

    pieces_so : pieces_read (calls_on x.to.socket (call ∷ calls)) ≡ pieces_read (call ∷ calls_on x.to.socket calls)
    pieces_so = ap pieces_read own

    -- the call was made
    made : (P : List Call → Type 0) → Becomes a (call ∷ []) b → P (call ∷ []) → HasAsked Becomes x calls a b P
    made P became so = record { later = call ∷ []; becomes = became; in_turn = (asked, start.in_turn); elsewhere = apart; then_so = so }

    -- nothing came
    module _ (none : pieces_read (call ∷ calls_on x.to.socket calls) ≡ pieces_read (calls_on x.to.socket calls) ++ []) (still : has_ended (call ∷ calls_on x.to.socket calls) ≡ has_ended (calls_on x.to.socket calls)) where
      same_pieces : pieces_read (calls_on x.to.socket (call ∷ calls)) ≡ pieces_read (calls_on x.to.socket calls)
      same_pieces = pieces_so ∙ (none ∙ append-nil (pieces_read (calls_on x.to.socket calls)))

      same_end : peer_ended x (call ∷ calls) ≡ ended
      same_end = ended_so ∙ (still ∙ sym before.ended_is)

      quiet_kept : IsKept x (call ∷ calls) stream fs piece ended u ms
      quiet_kept = record { ended_is = sym same_end; receiving = subst (λ v. IsReceiving stream fs piece ended u v ms) (sym same_pieces) before.receiving }

      quiet_hearing : (n : ℕ) → hearing x n (call ∷ calls) ≡ (decoding_of stream fs).hearing (sent_in x calls + n) (pieces_read (calls_on x.to.socket calls)) ended
      quiet_hearing n =
          hearing_by x (call ∷ calls) stream fs x.to.socket piece deadline n fixed
          ∙ (ap (λ k. (decoding_of stream fs).hearing (k + n) (pieces_read (calls_on x.to.socket (call ∷ calls))) (peer_ended x (call ∷ calls))) same_sent
          ∙ (ap (λ v. (decoding_of stream fs).hearing (sent_in x calls + n) v (peer_ended x (call ∷ calls))) same_pieces
          ∙ ap (λ e. (decoding_of stream fs).hearing (sent_in x calls + n) (pieces_read (calls_on x.to.socket calls)) e) same_end))

      quiet_heard : messages_of (hearing x (waiting x (call ∷ calls)) (call ∷ calls)) ≡ ms
      quiet_heard =
          ap (λ n. messages_of (hearing x n (call ∷ calls))) waits_so
          ∙ (ap messages_of (quiet_hearing more) ∙ all_count (decoding_of stream fs) _ ended ms (sent_in x calls + more) all (let n = start.needs_is in omega (arith, few, n)))

      quiet_less : hearing x more (call ∷ calls) ≡ lacks ms lack.unread
      quiet_less = quiet_hearing more ∙ (ap (λ n. (decoding_of stream fs).hearing n (pieces_read (calls_on x.to.socket calls)) ended) (sym start.needs_is) ∙ lack.fewer)

  timed_test : (waits : Bool) → more ≡ one_true waits → (at : ℕ) → (nat_le x.from.until at && (more == 0)) ≡ (nat_le deadline at && not waits)
  timed_test waits is at = ap (λ v. nat_le v at && (more == 0)) fixed.deadline_is ∙ ap (λ v. nat_le deadline at && v) (ap (λ v. v == 0) is ∙ none_waits waits)

  timed_in : (waits : Bool) → more ≡ one_true waits → (came : List ℕ) (at : ℕ) (late : Bool) → (nat_le deadline at && not waits) ≡ late →
      IsReadIf x calls (call came (recv.Timed at) ∷ []) stream fs piece more needs (Ok (if late then asked_so.Over outcome.Timed else asked_so.Nothing)) ended u ms
  timed_in waits is came at true test =
      let calls2 = call came (recv.Timed at) ∷ calls in
      let now : (nat_le x.from.until at && (waiting x calls2 == 0)) ≡ true = ap (λ v. nat_le x.from.until at && (v == 0)) (waits_so came (recv.Timed at)) ∙ (timed_test waits is at ∙ test) in
      (ap (λ t. if t then over outcome.Timed else turn_sending x calls2) now, quiet_heard came (recv.Timed at) refl refl)
  timed_in waits is came at false test =
      let calls2 = call came (recv.Timed at) ∷ calls in
      let now : (nat_le x.from.until at && (waiting x calls2 == 0)) ≡ false = ap (λ v. nat_le x.from.until at && (v == 0)) (waits_so came (recv.Timed at)) ∙ (timed_test waits is at ∙ test) in (
        quiet_kept came (recv.Timed at) refl refl,
        (few, (lack.unread, quiet_less came (recv.Timed at) refl refl)),
        ap (λ t. if t then over outcome.Timed else turn_sending x calls2) now,
        refl,
        waits_so came (recv.Timed at),
      )

  abbrev Read : Result Asked NoMemory → Bool → Unread → Type 0
  Read result ended2 v = HasAsked Becomes x calls a b (λ later. IsReadIf x calls later stream fs piece more needs result ended2 v ms)

  came_kept : (came : List ℕ) (count at : ℕ) → IsWanting u → IsKept x (call came (recv.Got count at) ∷ calls) stream fs piece false (with_bytes came u) ms
  came_kept came count at w =
      let r = recv.Got count at in
      record {
        ended_is = sym (ended_so came r ∙ open_end);
        receiving = subst (λ v. IsReceiving stream fs piece false (with_bytes came u) v ms) (sym (pieces_so came r))
            (record {
              fits = fits_more stream fs piece u came before.receiving.fits;
              represents = read_more fs u came (pieces_read (calls_on x.to.socket calls)) (map message ms) w (subst (λ e. Represents fs e u (pieces_read (calls_on x.to.socket calls)) (map message ms)) going before.receiving.represents);
            });
      }

  end_kept : (came : List ℕ) → IsKept x (call came recv.End ∷ calls) stream fs piece true u ms
  end_kept came =
      let none : pieces_read (calls_on x.to.socket (call came recv.End ∷ calls)) ≡ pieces_read (calls_on x.to.socket calls) = pieces_so came recv.End ∙ append-nil (pieces_read (calls_on x.to.socket calls)) in
      record {
        ended_is = sym (ended_so came recv.End);
        receiving = subst (λ v. IsReceiving stream fs piece true u v ms) (sym none)
            (record {
              fits = before.receiving.fits;
              represents = read_ended fs u (pieces_read (calls_on x.to.socket calls)) (map message ms) (subst (λ e. Represents fs e u (pieces_read (calls_on x.to.socket calls)) (map message ms)) going before.receiving.represents);
            });
      }

  pub read_by : (net net' : Net) (i j : Inbox) (waits : Bool) (answer : Pulled) → more ≡ one_true waits → IsWanting u → i.unread ≡ u → i.ended ≡ ended → IsPulled Becomes a b net net' x.to.socket until i answer j → Read (asked_by deadline waits answer) j.ended j.unread
  read_by net net' i j waits pulled.Got is w same same_end p =
      let got = p.pulled.2 in
      let r = recv.Got p.pulled.0 p.pulled.1 in
      let became : Becomes a (call p.came r ∷ []) b = subst (λ v. Becomes a (receives x.to.socket (most_of v) until p.came r ∷ []) b) same got.0.becomes in
      let now : j.unread ≡ with_bytes p.came u = ap (λ v. v.unread) got.1 ∙ ap (with_bytes p.came) same in
      let last_end : j.ended ≡ false = ap (λ v. v.ended) got.1 ∙ (same_end ∙ going) in
      made p.came r (λ later. IsReadIf x calls later stream fs piece more needs (Ok asked_so.Came) j.ended j.unread ms) became
      (record {
        kept = subst (λ v. IsKept x (call p.came r ∷ calls) stream fs piece v j.unread ms) (sym last_end) (subst (λ v. IsKept x (call p.came r ∷ calls) stream fs piece false v ms) (sym now) (came_kept p.came p.pulled.0 p.pulled.1 w));
        turn = refl;
        had = refl;
        waits = waits_so p.came r;
      })
  read_by net net' i j waits pulled.Ended is w same same_end p =
      let became : Becomes a (call p.came recv.End ∷ []) b = subst (λ v. Becomes a (receives x.to.socket (most_of v) until p.came recv.End ∷ []) b) same p.pulled.0.becomes in
      let now : j.unread ≡ u = ap (λ v. v.unread) p.pulled.1 ∙ same in
      let last_end : j.ended ≡ true = ap (λ v. v.ended) p.pulled.1 in
      made p.came recv.End (λ later. IsReadIf x calls later stream fs piece more needs (Ok asked_so.Came) j.ended j.unread ms) became
      (record {
        kept = subst (λ v. IsKept x (call p.came recv.End ∷ calls) stream fs piece v j.unread ms) (sym last_end) (subst (λ v. IsKept x (call p.came recv.End ∷ calls) stream fs piece true v ms) (sym now) (end_kept p.came));
        turn = refl;
        had = refl;
        waits = waits_so p.came recv.End;
      })
  read_by net net' i j waits (pulled.Timed at) is w same same_end p =
      let became : Becomes a (call p.came (recv.Timed at) ∷ []) b = subst (λ v. Becomes a (receives x.to.socket (most_of v) until p.came (recv.Timed at) ∷ []) b) same p.pulled.0.becomes in
      let now : j.unread ≡ u = ap (λ v. v.unread) p.pulled.1 ∙ same in
      let last_end : j.ended ≡ ended = ap (λ v. v.ended) p.pulled.1 ∙ same_end in
      made p.came (recv.Timed at) (λ later. IsReadIf x calls later stream fs piece more needs (Ok (timed_by deadline waits at)) j.ended j.unread ms) became
      (subst (λ v. IsReadIf x calls (call p.came (recv.Timed at) ∷ []) stream fs piece more needs (Ok (timed_by deadline waits at)) v j.unread ms) (sym last_end)
      (subst (λ v. IsReadIf x calls (call p.came (recv.Timed at) ∷ []) stream fs piece more needs (Ok (timed_by deadline waits at)) ended v ms) (sym now)
      (timed_in waits is p.came at (nat_le deadline at && not waits) refl)))
  read_by net net' i j waits (pulled.Failed cause) is w same same_end p =
      let became : Becomes a (call p.came (recv.Failed cause) ∷ []) b = subst (λ v. Becomes a (receives x.to.socket (most_of v) until p.came (recv.Failed cause) ∷ []) b) same p.pulled.0.becomes in
      made p.came (recv.Failed cause) (λ later. IsReadIf x calls later stream fs piece more needs (Ok (asked_so.Over (outcome.DataFailed cause))) j.ended j.unread ms) became
      (refl, quiet_heard p.came (recv.Failed cause) refl refl)
  read_by net net' i j waits pulled.NoMemory is w same same_end p =
      record { later = []; becomes = p.pulled.0.becomes; in_turn = start.in_turn; elsewhere = refl; then_so = tt }
