-- What an exchange between both ends says in other words.
use Rattle.std.proofs.Common.{◌≡◌, ◌≢◌, ℕ, zero, suc, ◌+◌, ◌<◌, ◌^◌, Bool, true, false, List, [], ◌∷◌, ◌++◌, length, refl, sym, ap, subst, ◌∙◌, arith, append_assoc}
use Rattle.std.specs.Prelude.{nat_lt, if◌then◌else◌}
use Rattle.std.specs.List.{concat}
use Rattle.std.proofs.lemmas.List.{append-nil}
use Rattle.taps_framer.specs.Layers.{Layer}
use Rattle.taps_chain.specs.Chained.{chained, IsSpoken, spelling, AreSpoken}
use Rattle.taps_chain.specs.ChainLaws.{AreFramers}
use Rattle.taps_chain.specs.declared.heard.BadAt.{BadAt}
use Rattle.taps_socket.specs.Calls.{Call, Request, to_shut}
use Rattle.taps_connection.specs.Encodings.{encoding_of}
use Rattle.taps_connection.specs.Outboxes.{Stand, begun, ending, refused, all_out}
use Rattle.taps_connection.specs.Written.{pieces_of}
use Rattle.taps_connection.proofs.Framing.{is_framed}
use Rattle.taps_loop.proofs.Spelling.{pieces_spell, spoken_here, are_spoken}
use Rattle.taps_exchange.specs.declared.outcome.Outcome.{Outcome}
use Rattle.taps_exchange.specs.declared.outcome.Outcome.TheVariants as outcome
use Rattle.taps_exchange.specs.Decodings.{Hearing, lacks, breaks, messages_of, one_of, hears_one, decoding_of}
use Rattle.taps_exchange.specs.Members.{calls_on}
use Rattle.taps_exchange.specs.Turns.{asks, over, IsExchange}
use Rattle.taps_exchange.specs.Written.{bodies_of, AllTookAll, HasSomeBytes, AreLeft, IsWritten}
use Rattle.taps_loop.specs.Loops.{Ends, sending, count_by, sent_in, peer_ended, hearing, turn_loop, needs_more, heard_in}
use Rattle.taps_loop.specs.Judged.{wrote_on, read_on, HearsBad, HasLoopCause, JudgesLoops, IsReliableTo, AreFramedEnds, HearsAsSent, LoopsHearAsSent, PlainLoopsHearAsSent}
use Rattle.taps_loop.proofs.Causing.{loop_cause}
use Rattle.taps_loop.proofs.LoopWritten.{loop_written, loop_one_way}
use Rattle.taps_loop.proofs.Prefixing.{IsFirstOf, heard_between, heard_in_one}
use Rattle.taps_loop.proofs.Standing.{AllHaveBytes, StandsWell, few_sent, stands_well}

pub judges_loops : JudgesLoops
judges_loops x calls o apart e =
    record {
      written = (loop_written x calls apart e.in_turn).passed.written;
      one_way = loop_one_way x calls apart e.in_turn;
      cause = loop_cause x calls o e.in_turn e.ends;
    }

-- each message has bytes
framed_bytes : (fs : List Layer) → 0 < length fs → AreFramers fs → AllHaveBytes (encoding_of true fs)
framed_bytes fs some w sent body small spoken = (is_framed fs w sent small some body (chained fs sent body) (spoken_here fs sent body spoken) refl).some

module _ (x : Ends) (fs : List Layer) (calls : List Call) (o : Outcome) (apart : x.to.socket ≢ x.from.socket) (f : AreFramedEnds x fs) (e : IsExchange (turn_loop x) calls o) (r : IsReliableTo x.from.socket x.to.socket calls) where
  abbrev Wrote : Type 0
  Wrote = IsWritten (encoding_of true fs) x.from.messages (sending x calls) (wrote_on x.from.socket calls) (AllTookAll (calls_on x.from.socket calls) × HasSomeBytes (encoding_of true fs))

  wrote : Wrote
  wrote =
      subst (λ v. IsWritten v x.from.messages (sending x calls) (wrote_on x.from.socket calls) (AllTookAll (calls_on x.from.socket calls) × HasSomeBytes v)) f.encoding_is
      (loop_written x calls apart e.in_turn).passed.written

  well : StandsWell (turn_loop x calls) x.from.socket (sending x calls).stand
  well = stands_well x calls (subst AllHaveBytes (sym f.encoding_is) (framed_bytes fs f.some f.framers)) f.few apart e.in_turn

  abbrev sent : List (List ℕ)
  sent = bodies_of wrote.turned

  few : length sent < 2 ^ 32
  few = (let all = few_sent x.from.messages wrote.left wrote.turned wrote.split in let most = f.few in omega arith)

  spoken : AreSpoken fs 0 sent
  spoken = are_spoken fs 0 sent wrote.encoded

  -- the bytes that were written, and those that were read of them
  read_of : spelling fs 0 sent ++ wrote.front ≡ concat (read_on x.to.socket calls) ++ r.0
  read_of = ap (λ (v : List ℕ). v ++ wrote.front) (sym (pieces_spell fs 0 sent)) ∙ (sym wrote.bytes ∙ r.1)

  read_whole : wrote.front ≡ [] → spelling fs 0 sent ≡ concat (read_on x.to.socket calls) ++ r.0
  read_whole none = sym (append-nil (spelling fs 0 sent)) ∙ (ap (λ (v : List ℕ). spelling fs 0 sent ++ v) (sym none) ∙ read_of)

  -- nothing is asked for at the end
  none_asked : (request : Request) → turn_loop x calls ≡ asks request → ⊥
  none_asked request h = (let z : asks request ≡ over o = sym h ∙ e.ends in cc)

  abbrev IsLeftAt : Stand → Type 0
  IsLeftAt stand = AreLeft (encoding_of true fs) (sending x calls).sent stand wrote.front wrote.left

  -- so the messages that are heard are the first ones sent, however many are needed
  first_by : (stand : Stand) → (sending x calls).stand ≡ stand → IsLeftAt stand → StandsWell (turn_loop x calls) x.from.socket stand → (n : ℕ) (ended : Bool) →
      IsFirstOf ((decoding_of true fs).hearing n (read_on x.to.socket calls) ended) sent
  first_by (begun number ends rest behind) is l unsent n ended =
      heard_in_one fs f.some f.framers sent (read_on x.to.socket calls) l.0.message.body wrote.front rest r.0 few spoken
      (subst (λ v. IsSpoken fs v l.0.message.body) wrote.count (spoken_here fs (sending x calls).sent l.0.message.body l.1.1.encoded))
      (l.1.1.bytes ∙ ap (λ v. chained fs v l.0.message.body) wrote.count) unsent read_of n ended
  first_by (ending behind) is l next n ended = absurd (none_asked (to_shut x.from.socket) next)
  first_by (refused number layer behind) is l next n ended =
      heard_between fs f.some f.framers sent (read_on x.to.socket calls) r.0 few spoken (read_whole l.0) n ended
  first_by all_out is l next n ended =
      heard_between fs f.some f.framers sent (read_on x.to.socket calls) r.0 few spoken (read_whole l.0) n ended

  first_heard : (more : ℕ) → IsFirstOf (hearing x more calls) sent
  first_heard more =
      subst (λ d. IsFirstOf (d.hearing (sent_in x calls + more) (read_on x.to.socket calls) (peer_ended x calls)) sent) (sym f.decoding_is)
      (first_by (sending x calls).stand refl wrote.are_left well (sent_in x calls + more) (peer_ended x calls))

  count_sent : (stand : Stand) → StandsWell (turn_loop x calls) x.from.socket stand → count_by stand (sending x calls).sent ≡ (sending x calls).sent
  count_sent (begun number ends rest behind) next = refl
  count_sent (ending behind) next = absurd (none_asked (to_shut x.from.socket) next)
  count_sent (refused number layer behind) next = refl
  count_sent all_out next = refl

  not_bad : (b : BadAt) → o ≡ outcome.BadFrame b → ⊥
  not_bad b is =
      let c : HearsBad x calls b = subst (HasLoopCause x calls) is (loop_cause x calls o e.in_turn e.ends) in
      (first_heard c.more).none_bad c.messages c.layer c.place c.heard

  hears : HearsAsSent x calls o
  hears =
      let first = first_heard (needs_more x calls o) in
      record {
        turned = wrote.turned;
        left = wrote.left;
        accepted = wrote.split;
        sent_is = count_sent (sending x calls).stand well ∙ wrote.count;
        unheard = first.unheard;
        prefix = first.prefix;
        none_bad = not_bad;
      }

pub loops_hear_as_sent : LoopsHearAsSent
loops_hear_as_sent x fs calls o apart f e r = hears x fs calls o apart f e r

-- without a framer the pieces are the messages, and what is heard are the first of the bytes that were read
plain_pieces : (k : ℕ) (ms : List (List ℕ)) → pieces_of (encoding_of true []) k ms ≡ ms
plain_pieces k [] = refl
plain_pieces k (m ∷ ms) = ap (λ (v : List (List ℕ)). m ∷ v) (plain_pieces (k + 1) ms)

-- bytes begin with these messages, joined
record Begins (bytes : List ℕ) (h : Hearing) : Type 0 where
  rest : List ℕ
  split : bytes ≡ concat (messages_of h) ++ rest

one_begins : (n : ℕ) (bytes : List ℕ) → Begins bytes (one_of n bytes)
one_begins zero bytes = record { rest = []; split = sym (append-nil bytes) ∙ sym (append-nil (bytes ++ [])) }
one_begins (suc n) bytes = record { rest = []; split = sym (append-nil bytes) ∙ sym (append-nil (bytes ++ [])) }

by_end : (ended : Bool) (n : ℕ) (bytes : List ℕ) → Begins bytes (if ended then one_of n bytes else lacks [] bytes)
by_end true n bytes = one_begins n bytes
by_end false n bytes = record { rest = bytes; split = refl }

by_length : (long ended : Bool) (n : ℕ) (bytes : List ℕ) → Begins bytes (if long then breaks [] 0 4194304 else (if ended then one_of n bytes else lacks [] bytes))
by_length true ended n bytes = record { rest = bytes; split = refl }
by_length false ended n bytes = by_end ended n bytes

plain_begins : (n : ℕ) (bytes : List ℕ) (ended : Bool) → Begins bytes (hears_one n bytes ended)
plain_begins zero bytes ended = record { rest = bytes; split = refl }
plain_begins (suc n) bytes ended = by_length (nat_lt 4194304 (length bytes)) ended n bytes

pub plain_loops_hear : PlainLoopsHearAsSent
plain_loops_hear x calls o apart encoding decoding e r =
    let w = (loop_written x calls apart e.in_turn).passed.written in
    let n : ℕ = sent_in x calls + needs_more x calls o in
    let heard : Begins (concat (read_on x.to.socket calls)) (hearing x (needs_more x calls o) calls) =
    subst (λ d. Begins (concat (read_on x.to.socket calls)) (d.hearing n (read_on x.to.socket calls) (peer_ended x calls))) (sym decoding) (plain_begins n (concat (read_on x.to.socket calls)) (peer_ended x calls)) in
    let wrote : concat (wrote_on x.from.socket calls) ≡ concat (bodies_of w.turned) ++ w.front =
    w.bytes ∙ ap (λ (v : List (List ℕ)). concat v ++ w.front) (ap (λ v. pieces_of v 0 (bodies_of w.turned)) encoding ∙ plain_pieces 0 (bodies_of w.turned)) in
    record {
      turned = w.turned;
      left = w.left;
      accepted = w.split;
      front = w.front;
      front_is = w.are_left;
      unheard = heard.rest ++ r.0;
      prefix = sym wrote ∙ (r.1 ∙ (ap (λ (v : List ℕ). v ++ r.0) heard.split ∙ append_assoc (concat (heard_in x calls o)) heard.rest r.0));
    }
