-- The turn of the sending end, by what its connection answered.
use Rattle.std.proofs.Common.{◌≡◌, ◌≢◌, ℕ, ◌+◌, ◌<◌, ◌≤◌, ◌^◌, Bool, true, false, ◌&&◌, if◌then◌else◌, List, [], ◌∷◌, ◌++◌, length, drop, Option, Some, None, refl, sym, ap, subst, ◌∙◌, ◌⊎◌, inl, inr, arith, length-drop}
use Rattle.std.specs.Prelude.{nat_le, Result, Ok, Err}
use Rattle.std.proofs.lemmas.Bool.{leb-true}
use Rattle.std.proofs.lemmas.List.{append-nil}
use Rattle.taps_base.specs.declared.no_memory.NoMemory.{NoMemory}
use Rattle.taps_framer.specs.Layers.{Layer}
use Rattle.taps_chain.specs.Chained.{chained, chain_refusal}
use Rattle.taps_chain.specs.ChainLaws.{AreFramers}
use Rattle.taps_chain.proofs.Cuts.{none_needs}
use Rattle.taps_chain.specs.Heard.{needs, IsEnding}
use Rattle.taps_message.specs.declared.accepted.Accepted.{Accepted}
use Rattle.taps_message.specs.Expiry.{has_expired}
use Rattle.taps_message.specs.Queues.{Queue}
use Rattle.taps_socket.specs.declared.cause.Cause.{Cause}
use Rattle.taps_socket.specs.declared.answers.SendAnswer.{SendAnswer}
use Rattle.taps_socket.specs.declared.answers.SendAnswer.TheVariants as send
use Rattle.taps_socket.specs.declared.answers.RecvAnswer.TheVariants as recv
use Rattle.taps_socket.specs.declared.item.Item.{Item}
use Rattle.taps_socket.specs.Calls.{waits as waits_call}
use Rattle.taps_socket.specs.Calls.{Call, begins, starts, closes, listens, accepts, sends, shuts, receives, Request, to_send, to_shut, items_of}
use Rattle.taps_socket.specs.Net.{Net}
use Rattle.taps_socket.specs.Shows.{Shows, IsLawful, AreLawful, told_by, told_after}
use Rattle.taps_connection.specs.declared.sender.Begun.{Begun}
use Rattle.taps_connection.specs.declared.sender.Sender.{Sender}
use Rattle.taps_connection.specs.declared.sender.Pushed.{Pushed}
use Rattle.taps_connection.specs.declared.sender.Pushed.TheVariants as pushed
use Rattle.taps_connection.specs.Encodings.{Encoding, encoding_of, or_carrier, carrier_refusal}
use Rattle.taps_connection.specs.Outboxes as outboxes
use Rattle.taps_connection.specs.Outboxes.{Stand, begun, ending, refused, all_out, Outbox, with_rest, turn_by as stand_by, take_turn, after_calls, asks_out}
use Rattle.taps_connection.specs.Pushes.{left_at}
use Rattle.taps_connection.specs.Runs.{AllAsked, IsRun}
use Rattle.taps_connection.specs.Senders as senders
use Rattle.taps_connection.specs.Senders.{settled, settled_by, queued, idle, turn_of, turn_in, turn_if, begun_of, goes, expires, refuses, behind_by, tail_of, AreOfOne, IsStopped, IsSame, IsPushed, IsDriven}
use Rattle.taps_exchange.specs.declared.outcome.Outcome.TheVariants as outcome
use Rattle.taps_exchange.specs.Decodings.{message, need}
use Rattle.taps_exchange.specs.Members.{Member, calls_on}
use Rattle.taps_exchange.specs.Sendings.{OthersGo}
use Rattle.taps_exchange.specs.Turns.{Turn, asks, over, turn_out, done_or, IsInTurn}
use Rattle.taps_exchange.proofs.Behind.{others_of}
use Rattle.taps_exchange.proofs.Firsts.{finds_first}
use Rattle.taps_loop.specs.declared.sending.Out.{Out}
use Rattle.taps_loop.specs.declared.sending.Out.TheVariants as out
use Rattle.taps_loop.specs.Loops.{Ends, sending, sent_in, count_by, one_if, hearing, at_once, soon, until_by, turn_hearing, turn_loop}
use Rattle.taps_loop.specs.Sends.{HasGone, waits_by, waits, HasRest, out_by, IsToSend, IsOutIf, IfOutGoesOn, HasTurned}
use Rattle.taps_loop.proofs.Own.{run_elsewhere}
use Rattle.taps_loop.proofs.Running.{IsAlike, rest_alike, count_behind, few_behind, box_after, in_turn_run, gone, timed_on, timed_over}

-- a message that goes out has bytes, but for one behind which the side is ended
abbrev pub HasBytes : Encoding → Type 0
HasBytes e = (sent : ℕ) (body : List ℕ) (final : Bool) → sent < 2 ^ 64 → e.refusal sent body ≡ None → e.ends final ≡ false → 1 ≤ length (e.bytes sent body)

layers_agree : (a b : Option ℕ) → or_carrier a b ≡ None → a ≡ None
layers_agree (Some layer) b e = cc
layers_agree None b e = refl

carrier_agrees : (a b : Option ℕ) → or_carrier a b ≡ None → b ≡ None
carrier_agrees (Some layer) b e = cc
carrier_agrees None b e = e

nothing_or : (x : List ℕ) → (x ≡ [] → ⊥) → 1 ≤ length x
nothing_or [] h = absurd (h refl)
nothing_or (y ∷ x) h = omega arith

layered_bytes : (f : Layer) (fs : List Layer) (k : ℕ) (m : List ℕ) → AreFramers (f ∷ fs) → k < 2 ^ 64 → chain_refusal (f ∷ fs) k m ≡ None → 1 ≤ length (chained (f ∷ fs) k m)
layered_bytes f fs k m w small spoken =
    nothing_or (chained (f ∷ fs) k m)
    (λ e.
    let law = finds_first (f ∷ fs) k (chained (f ∷ fs) k m) w small in
    let one = law.finds m [] (omega arith) spoken (sym (append-nil (chained (f ∷ fs) k m))) in
    let two = law.waits (subst (λ v. IsEnding (f ∷ fs) k v needs) (sym e) (none_needs (f ∷ fs) (omega arith) w k small)) in
    let z : message m (length (chained (f ∷ fs) k m)) ≡ need = sym one ∙ two in
    cc)

datagram_bytes : (n : ℕ) (t : Bool) (r : Bool) → nat_le 1 n ≡ t → if◌then◌else◌ {A = Option ℕ} (t && r) None (Some 0) ≡ None → 1 ≤ n
datagram_bytes n true r e h = leb-true 1 n e
datagram_bytes n false r e h = (let none : Option ℕ = None in let z : Some 0 ≡ none = h in cc)

pub has_bytes : (stream : Bool) (fs : List Layer) → AreFramers fs → HasBytes (encoding_of stream fs)
has_bytes true [] w sent body final small spoken goes_on = cc
has_bytes true (f ∷ fs) w sent body final small spoken goes_on =
    layered_bytes f fs sent body w small (layers_agree (chain_refusal (f ∷ fs) sent body) (carrier_refusal true (f ∷ fs) sent (chained (f ∷ fs) sent body)) spoken)
has_bytes false fs w sent body final small spoken goes_on =
    datagram_bytes (length (chained fs 0 body)) (nat_le 1 (length (chained fs 0 body))) (nat_le (length (chained fs 0 body)) 65507) refl
    (carrier_agrees (chain_refusal fs 0 body) (carrier_refusal false fs sent (chained fs 0 body)) spoken)

-- how a message whose turn it is stands
goes_same : (a b : Begun) → goes a ≡ goes b → a ≡ b
goes_same a b e = cc

module _ (e : Encoding) (s : Sender) (b : Begun) where
  abbrev Stands : List Accepted → Outbox
  Stands behind = left_at e (idle s) s.moment b.number b.ends (drop b.taken b.bytes) behind

  goes_opened : (m : Accepted) (behind : List Accepted) (r : Option ℕ) → turn_if r m.number (begun_of e s.sent m) ≡ goes b →
      stand_by r (idle s) m.number behind (with_rest (take_turn e s.moment (s.sent + 1) s.expired behind) (idle s) m.number (e.ends m.message.props.is_final) (e.bytes s.sent m.message.body) behind) ≡ Stands behind
  goes_opened m behind (Some layer) h = cc
  goes_opened m behind None h =
      ap (λ (v : Begun). left_at e (idle s) s.moment v.number v.ends (drop v.taken v.bytes) behind) (goes_same (begun_of e s.sent m) b h)

  goes_tested : (m : Accepted) (behind : List Accepted) (passed : Outbox) (t : Bool) → (if t then expires m.number else turn_if (e.refusal s.sent m.message.body) m.number (begun_of e s.sent m)) ≡ goes b →
      (if t then passed else stand_by (e.refusal s.sent m.message.body) (idle s) m.number behind (with_rest (take_turn e s.moment (s.sent + 1) s.expired behind) (idle s) m.number (e.ends m.message.props.is_final) (e.bytes s.sent m.message.body) behind)) ≡ Stands behind
  goes_tested m behind passed true h = cc
  goes_tested m behind passed false h = goes_opened m behind (e.refusal s.sent m.message.body) h

  goes_in : (messages : List Accepted) → turn_in e s.moment s.sent messages ≡ goes b → take_turn e s.moment s.sent s.expired messages ≡ Stands (tail_of messages)
  goes_in [] h = cc
  goes_in (m ∷ behind) h = goes_tested m behind (take_turn e s.moment s.sent (Some (outboxes.or_else s.expired m.number)) behind) (has_expired m s.moment) h

  goes_by : (o : Option Begun) → senders.turn_by e s o ≡ goes b → settled_by e s o ≡ Stands (behind_by o (queued s))
  goes_by (Some a) h = ap (λ (v : Begun). left_at e (idle s) s.moment v.number v.ends (drop v.taken v.bytes) (queued s)) (goes_same a b h)
  goes_by None h = goes_in (queued s) h

  pub settled_goes : turn_of e s ≡ goes b → settled e s ≡ Stands (behind_by s.begun (queued s))
  settled_goes h = goes_by s.begun h

  -- some of its bytes are left, or the side is to be ended
  abbrev pub Starts : Type 0
  Starts = (0 < length (drop b.taken b.bytes)) ⊎ (b.ends ≡ true)

  left_of : (a : Begun) → a ≡ b → a.taken < length a.bytes → Starts
  left_of a is h = subst (λ (v : Begun). (0 < length (drop v.taken v.bytes)) ⊎ (v.ends ≡ true)) is (inl (let l = length-drop a.taken a.bytes in omega (arith, l, h)))

  opened_of : (m : Accepted) (ends : Bool) → HasBytes e → s.sent < 2 ^ 64 → e.refusal s.sent m.message.body ≡ None → e.ends m.message.props.is_final ≡ ends →
      (0 < length (drop 0 (e.bytes s.sent m.message.body))) ⊎ (e.ends m.message.props.is_final ≡ true)
  opened_of m true some small spoken h = inr h
  opened_of m false some small spoken h = inl (let k = some s.sent m.message.body m.message.props.is_final small spoken h in omega (arith, k))

  starts_opened : (m : Accepted) (r : Option ℕ) → HasBytes e → s.sent < 2 ^ 64 → e.refusal s.sent m.message.body ≡ r → turn_if r m.number (begun_of e s.sent m) ≡ goes b → Starts
  starts_opened m (Some layer) some small r h = cc
  starts_opened m None some small r h =
      subst (λ (v : Begun). (0 < length (drop v.taken v.bytes)) ⊎ (v.ends ≡ true)) (goes_same (begun_of e s.sent m) b h) (opened_of m (e.ends m.message.props.is_final) some small r refl)

  starts_tested : (m : Accepted) (t : Bool) → HasBytes e → s.sent < 2 ^ 64 → (if t then expires m.number else turn_if (e.refusal s.sent m.message.body) m.number (begun_of e s.sent m)) ≡ goes b → Starts
  starts_tested m true some small h = cc
  starts_tested m false some small h = starts_opened m (e.refusal s.sent m.message.body) some small refl h

  starts_in : (messages : List Accepted) → HasBytes e → s.sent < 2 ^ 64 → turn_in e s.moment s.sent messages ≡ goes b → Starts
  starts_in [] some small h = cc
  starts_in (m ∷ behind) some small h = starts_tested m (has_expired m s.moment) some small h

  starts_by : (o : Option Begun) → HasBytes e → s.sent < 2 ^ 64 → HasRest o → senders.turn_by e s o ≡ goes b → Starts
  starts_by (Some a) some small rest h = left_of a (goes_same a b h) rest
  starts_by None some small rest h = starts_in (queued s) some small h

-- so that it asks for a call where it is alone
asks_some : (next box : Outbox) (number : ℕ) (ends : Bool) (rest : List ℕ) → (0 < length rest) ⊎ (ends ≡ true) → (with_rest next box number ends rest []).stand ≡ all_out → ⊥
asks_some next box number true [] h e = cc
asks_some next box number false [] (inl h) e = absurd (omega (arith, h))
asks_some next box number false [] (inr h) e = cc
asks_some next box number ends (y ∷ rest) h e = cc

-- where there is a turn, a message is begun or queued
turn_waits : (e : Encoding) (s : Sender) (t : senders.Turn) → t ≢ senders.nothing → turn_of e s ≡ t → waits s ≡ 1
turn_waits e s t some h = by_begun s.begun h
  where
    by_queue : (messages : List Accepted) → turn_in e s.moment s.sent messages ≡ t → one_if messages ≡ 1
    by_queue [] h = absurd (some (sym h))
    by_queue (m ∷ behind) h = refl

    by_begun : (o : Option Begun) → senders.turn_by e s o ≡ t → waits_by o (queued s) ≡ 1
    by_begun (Some a) h = refl
    by_begun None h = by_queue (queued s) h

-- what is kept tells how many messages were sent
rest_count : (next box : Outbox) (number : ℕ) (ends : Bool) (rest : List ℕ) (behind : List Accepted) → (ends ≡ false → 1 ≤ length rest) → count_by (with_rest next box number ends rest behind).stand (with_rest next box number ends rest behind).sent ≡ box.sent
rest_count next box number true [] behind h = omega arith
rest_count next box number false [] behind h = absurd (let z = h refl in omega (arith, z))
rest_count next box number ends (y ∷ rest) behind h = refl

module _ (e : Encoding) (some : HasBytes e) where
  opened_count : (at sent : ℕ) (expired : Option ℕ) (m : Accepted) (behind : List Accepted) (next : Outbox) (r : Option ℕ) → sent < 2 ^ 64 → e.refusal sent m.message.body ≡ r →
      let box : Outbox = record { stand = all_out; sent = sent; expired = expired; moment = at } in
      let opened : Outbox = stand_by r box m.number behind (with_rest next box m.number (e.ends m.message.props.is_final) (e.bytes sent m.message.body) behind) in
      count_by opened.stand opened.sent ≡ sent
  opened_count at sent expired m behind next (Some layer) small h = refl
  opened_count at sent expired m behind next None small h =
      rest_count next (record { stand = all_out; sent = sent; expired = expired; moment = at }) m.number (e.ends m.message.props.is_final) (e.bytes sent m.message.body) behind
      (λ k. some sent m.message.body m.message.props.is_final small h k)

  tested_count : (t : Bool) (passed opened : Outbox) (n : ℕ) → count_by passed.stand passed.sent ≡ n → count_by opened.stand opened.sent ≡ n →
      count_by (if t then passed else opened).stand (if t then passed else opened).sent ≡ n
  tested_count true passed opened n h k = h
  tested_count false passed opened n h k = k

  turn_count : (at sent : ℕ) (expired : Option ℕ) (messages : List Accepted) → sent < 2 ^ 64 → count_by (take_turn e at sent expired messages).stand (take_turn e at sent expired messages).sent ≡ sent
  turn_count at sent expired [] small = refl
  turn_count at sent expired (m ∷ behind) small =
      tested_count (has_expired m at) (take_turn e at sent (Some (outboxes.or_else expired m.number)) behind) _ sent
      (turn_count at sent (Some (outboxes.or_else expired m.number)) behind small)
      (opened_count at sent expired m behind (take_turn e at (sent + 1) expired behind) (e.refusal sent m.message.body) small refl)

  count_settled : (s : Sender) (o : Option Begun) → s.sent < 2 ^ 64 → HasRest o → count_by (settled_by e s o).stand (settled_by e s o).sent ≡ s.sent
  count_settled s (Some b) small rest =
      rest_count (take_turn e s.moment (s.sent + 1) s.expired (queued s)) (record (idle s) { moment = s.moment }) b.number b.ends (drop b.taken b.bytes) (queued s)
      (λ k. let l = length-drop b.taken b.bytes in omega (arith, l, rest))
  count_settled s None small rest = turn_count s.moment s.sent s.expired (queued s) small

  pub settled_count : (s : Sender) → s.sent < 2 ^ 64 → HasRest s.begun → count_by (settled e s).stand (settled e s).sent ≡ s.sent
  settled_count s small rest = count_settled s s.begun small rest

-- what the outbox asks comes next
out_asks : (m : Member) (until u : ℕ) (stand : Stand) (others : Turn) (r : Request) → until ≡ u → asks_out m.socket until stand ≡ Some r → turn_out (record m { until = u }) 0 stand others ≡ asks r
out_asks m until u (begun number ends rest behind) others r same e =
    (let x : to_send m.socket rest until ≡ r = cc in ap (λ v. asks (to_send m.socket rest v)) (sym same) ∙ ap asks x)
out_asks m until u (ending behind) others r same e = (let x : to_shut m.socket ≡ r = cc in ap asks x)
out_asks m until u (refused number layer behind) others r same e = cc
out_asks m until u all_out others r same e = cc

-- nothing of what is kept changed but how the queue is kept
same_settled : (e : Encoding) (s : Sender) (calls : List Call) (t : Sender) → IsSame s calls t → settled e t ≡ settled e s
same_settled e s calls t h =
    subst (λ (v : Sender). settled e v ≡ settled e s) (sym h.kept)
    (ap (settled_by e (record s { queue = t.queue })) h.begun ∙ (ap (λ (q : Queue). take_turn e s.moment s.sent s.expired q.queued) h.queue ∙ sym (ap (settled_by e s) h.begun)))

all_sent : (o : Outbox) (s : Sender) → o ≡ idle s → (o.stand ≡ all_out) × (o.expired ≡ s.expired)
all_sent o s h = (ap (λ (v : Outbox). v.stand) h, ap (λ (v : Outbox). v.expired) h)

nothing_waits : (s : Sender) → s.begun ≡ None → queued s ≡ [] → waits s ≡ 0
nothing_waits s none empty = ap (λ (o : Option Begun). waits_by o (queued s)) none ∙ ap one_if empty

-- the turn, where the socket and the encoding are those of the sending end
module _ {N : Type 0} (Becomes : N → List Call → N → Type 0) (x : Ends) (calls : List Call) (a b : N) (until deadline : ℕ) (s t : Sender)
    (start : IsToSend x calls x.from.encoding x.from.socket until deadline s) (some : HasBytes x.from.encoding) (small : s.sent < 2 ^ 64) (rest : HasRest s.begun) (fits : t.sent < 2 ^ 64) where
  abbrev Turned : Result Out NoMemory → Type 0
  Turned result = HasTurned Becomes x calls x.from.encoding a b result t

  module _ (more : List Call) (message : Begun) (goes_so : turn_of x.from.encoding s ≡ goes message) (asked : AllAsked x.from.encoding x.from.socket until (settled x.from.encoding s) more)
      (one : AreOfOne x.from.encoding x.from.socket until s more) (others : OthersGo more) where
    abbrev behind : List Accepted
    behind = behind_by s.begun (queued s)

    abbrev alone : Outbox
    alone = left_at x.from.encoding (idle s) s.moment message.number message.ends (drop message.taken message.bytes) []

    real : sending x calls ≡ left_at x.from.encoding (idle s) s.moment message.number message.ends (drop message.taken message.bytes) behind
    real = start.kept ∙ settled_goes x.from.encoding s message goes_so

    alike : IsAlike message.number message.ends behind alone.stand (sending x calls).stand
    alike =
        subst (λ (v : Outbox). IsAlike message.number message.ends behind alone.stand v.stand) (sym real)
        (rest_alike (take_turn x.from.encoding s.moment (s.sent + 1) s.expired []) (take_turn x.from.encoding s.moment (s.sent + 1) s.expired behind) (record (idle s) { moment = s.moment }) (record (idle s) { moment = s.moment })
        message.number message.ends (drop message.taken message.bytes) behind refl)

    asked_here : AllAsked x.from.encoding x.from.socket until (sending x calls) more
    asked_here = subst (λ v. AllAsked x.from.encoding x.from.socket until v more) (sym start.kept) asked

    first : (r : Request) → asks_out x.from.socket until (sending x calls).stand ≡ Some r → turn_loop x calls ≡ asks r
    first r q = start.turn ∙ out_asks x.from until _ (sending x calls).stand _ r (start.until_is (turn_waits x.from.encoding s (goes message) (λ e. cc) goes_so)) q

    pub run_in_turn : IsInTurn (turn_loop x) (more ++ calls)
    run_in_turn = in_turn_run x calls until message.number message.ends behind alone alike first start.in_turn more asked_here (one message goes_so) others

    pub run_apart : calls_on x.to.socket (more ++ calls) ≡ calls_on x.to.socket calls
    run_apart = run_elsewhere x.from.encoding x.from.socket until x.to.socket (sending x calls) more calls start.apart asked_here

    pub run_reaches : (after : Outbox) → after_calls x.from.encoding (settled x.from.encoding s) more ≡ after → sending x (more ++ calls) ≡ after
    run_reaches after h =
        box_after x calls until message.number message.ends behind alone alike more asked_here ∙ (ap (λ v. after_calls x.from.encoding v more) start.kept ∙ h)

    pub run_gone : (after : Outbox) → after_calls x.from.encoding (settled x.from.encoding s) more ≡ after → count_behind after.stand ≤ length behind → HasGone x (more ++ calls) (one_if behind)
    run_gone after h few =
        gone x calls until message.number message.ends behind alone alike more asked_here (one message goes_so)
        (asks_some (take_turn x.from.encoding s.moment (s.sent + 1) s.expired []) (record (idle s) { moment = s.moment }) message.number message.ends (drop message.taken message.bytes) (starts_by x.from.encoding s message s.begun some small rest goes_so))
        (subst (λ (v : Outbox). count_behind v.stand ≤ length behind) (sym (ap (λ v. after_calls x.from.encoding v more) start.kept ∙ h)) few)

  -- a message was sent
  sent_turned : (number : ℕ) (more : List Call) → Becomes a more b → IsPushed x.from.encoding x.from.socket until s (pushed.Sent number) more t → Turned (Ok out.Gone)
  sent_turned number more became (run, p, one) =
      let none : t.begun ≡ None = ap (λ (v : Sender). v.begun) p.kept in
      let left : queued t ≡ behind_by s.begun (queued s) = ap (λ (q : Queue). q.queued) p.queue in
      let now : settled x.from.encoding t ≡ take_turn x.from.encoding t.moment t.sent t.expired (queued t) = ap (settled_by x.from.encoding t) none in
      let others = others_of more p.all_go in
      let reaches = run_reaches more p.message p.turn run.asked one others (settled x.from.encoding t) run.reaches in
      let sent : t.sent ≡ s.sent + 1 = ap (λ (v : Sender). v.sent) p.kept in
      let few : count_behind (settled x.from.encoding t).stand ≤ length (behind_by s.begun (queued s)) =
      subst (λ (v : Outbox). count_behind v.stand ≤ length (behind_by s.begun (queued s))) (sym now)
      (subst (λ (v : List Accepted). count_behind (take_turn x.from.encoding t.moment t.sent t.expired (queued t)).stand ≤ length v) left (few_behind x.from.encoding t.moment t.sent t.expired (queued t))) in
      let count : one_if (behind_by s.begun (queued s)) ≡ waits t = ap one_if (sym left) ∙ sym (ap (λ (o : Option Begun). waits_by o (queued t)) none) in
      record {
        more = more;
        becomes = became;
        in_turn = run_in_turn more p.message p.turn run.asked one others;
        elsewhere = run_apart more p.message p.turn run.asked one others;
        kept = reaches;
        sent_is = ap (λ (v : Outbox). count_by v.stand v.sent) reaches ∙ settled_count x.from.encoding some t fits (subst HasRest (sym none) tt);
        out_so = subst (λ n. HasGone x (more ++ calls) n) count (run_gone more p.message p.turn run.asked one others (settled x.from.encoding t) run.reaches few);
      }

  here_count : sent_in x calls ≡ s.sent
  here_count = ap (λ (v : Outbox). count_by v.stand v.sent) start.kept ∙ settled_count x.from.encoding some s small rest

  -- a call was timed, or failed
  stopped_begun : (answer : SendAnswer) (more : List Call) (k : IsStopped x.from.encoding x.from.socket until s answer more t) → t.begun ≡ Some (record k.message { taken = k.taken })
  stopped_begun answer more k = ap (λ (v : Sender). v.begun) k.kept

  stopped_rest : (answer : SendAnswer) (more : List Call) → IsStopped x.from.encoding x.from.socket until s answer more t → HasRest t.begun
  stopped_rest answer more k = subst HasRest (sym (stopped_begun answer more k)) k.left

  stopped_waits : (answer : SendAnswer) (more : List Call) → IsStopped x.from.encoding x.from.socket until s answer more t → waits t ≡ 1
  stopped_waits answer more k = ap (λ (o : Option Begun). waits_by o (queued t)) (stopped_begun answer more k)

  stopped_turned : (answer : SendAnswer) (more : List Call) (result : Result Out NoMemory) → Becomes a more b → IsRun x.from.encoding x.from.socket until (settled x.from.encoding s) more (settled x.from.encoding t) →
      (k : IsStopped x.from.encoding x.from.socket until s answer more t) → AreOfOne x.from.encoding x.from.socket until s more →
      (sending x (more ++ calls) ≡ settled x.from.encoding t → IfOutGoesOn result (sending x (more ++ calls) ≡ settled x.from.encoding t)) →
      ((older : List Call) → sent_in x (sends x.from.socket (drop k.taken k.message.bytes) until answer ∷ (older ++ calls)) ≡ sent_in x calls →
      IsOutIf x calls (sends x.from.socket (drop k.taken k.message.bytes) until answer ∷ older) result t) → Turned result
  stopped_turned answer more result became run k one keeps out_so =
      let others : OthersGo more = subst OthersGo (sym k.newest.newest) k.newest.others_go in
      let reaches = run_reaches more k.message k.turn run.asked one others (settled x.from.encoding t) run.reaches in
      let sent_now : sent_in x (more ++ calls) ≡ t.sent = ap (λ (v : Outbox). count_by v.stand v.sent) reaches ∙ settled_count x.from.encoding some t fits (stopped_rest answer more k) in
      let same : sent_in x (more ++ calls) ≡ sent_in x calls = sent_now ∙ (ap (λ (v : Sender). v.sent) k.kept ∙ sym here_count) in
      record {
        more = more;
        becomes = became;
        in_turn = run_in_turn more k.message k.turn run.asked one others;
        elsewhere = run_apart more k.message k.turn run.asked one others;
        kept = keeps reaches;
        sent_is = sent_now;
        out_so = subst (λ v. IsOutIf x calls v result t) (sym k.newest.newest) (out_so k.newest.earlier (subst (λ v. sent_in x (v ++ calls) ≡ sent_in x calls) k.newest.newest same));
      }

  timed_turned : (at : ℕ) (more : List Call) (late : Bool) → nat_le deadline at ≡ late → Becomes a more b → IsPushed x.from.encoding x.from.socket until s (pushed.Timed at) more t → Turned (Ok (if late then out.Over outcome.Timed else out.Gone))
  timed_turned at more true test became (run, k, quiet, one) =
      stopped_turned (send.Timed at) more (Ok (out.Over outcome.Timed)) became run k one (λ q. tt)
      (λ older same. (timed_over x x.from.socket (drop k.taken k.message.bytes) until at (older ++ calls) (ap (λ v. nat_le v at) start.deadline_is ∙ test), refl, same))
  timed_turned at more false test became (run, k, quiet, one) =
      stopped_turned (send.Timed at) more (Ok out.Gone) became run k one (λ q. q)
      (λ older same. subst (λ n. HasGone x (sends x.from.socket (drop k.taken k.message.bytes) until (send.Timed at) ∷ (older ++ calls)) n) (sym (stopped_waits (send.Timed at) more k))
      (timed_on x x.from.socket (drop k.taken k.message.bytes) until at (older ++ calls) (ap (λ v. nat_le v at) start.deadline_is ∙ test)))

  failed_turned : (cause : Cause) (more : List Call) → Becomes a more b → IsPushed x.from.encoding x.from.socket until s (pushed.Failed cause) more t → Turned (Ok (out.Over (outcome.DataFailed cause)))
  failed_turned cause more became (run, k, item, one) = stopped_turned (send.Failed cause) more (Ok (out.Over (outcome.DataFailed cause))) became run k one (λ q. tt) (λ older same. (refl, refl, same))

  -- no call was made
  still_turned : (more : List Call) (result : Result Out NoMemory) → more ≡ [] → Becomes a more b → t.sent ≡ s.sent → IfOutGoesOn result (sending x calls ≡ settled x.from.encoding t) → IsOutIf x calls [] result t → Turned result
  still_turned more result none became same kept out_so =
      record {
        more = [];
        becomes = subst (λ v. Becomes a v b) none became;
        in_turn = start.in_turn;
        elsewhere = refl;
        kept = kept;
        sent_is = here_count ∙ sym same;
        out_so = out_so;
      }

  empty_turned : (more : List Call) → Becomes a more b → IsPushed x.from.encoding x.from.socket until s pushed.Empty more t → Turned (Ok out.Nothing)
  empty_turned more became (stands, turn, same, empty) =
      let all = all_sent (settled x.from.encoding s) s stands in
      let queue : queued t ≡ queued s = ap (λ (q : Queue). q.queued) same.queue in
      let none : t.begun ≡ None = ap (λ (v : Sender). v.begun) same.kept ∙ same.begun in
      still_turned more (Ok out.Nothing) same.nothing_called became (ap (λ (v : Sender). v.sent) same.kept) (start.kept ∙ sym (same_settled x.from.encoding s more t same)) (
        refl,
        ap (λ (v : Outbox). v.stand) start.kept ∙ all.0,
        ap (λ (v : Outbox). v.expired) start.kept ∙ (all.1 ∙ sym (ap (λ (v : Sender). v.expired) same.kept)),
        nothing_waits t none (queue ∙ empty),
      )

  expired_turned : (number : ℕ) (more : List Call) → Becomes a more b → IsPushed x.from.encoding x.from.socket until s (pushed.Expired number) more t → Turned (Ok out.Passed)
  expired_turned number more became (same, turn, first_one, taken) =
      still_turned more (Ok out.Passed) taken.nothing_called became (ap (λ (v : Sender). v.sent) taken.kept) (start.kept ∙ sym same) (refl, λ w. start.waits_for (turn_waits x.from.encoding s (expires number) (λ e. cc) turn))

  refused_turned : (number layer : ℕ) (more : List Call) → Becomes a more b → IsPushed x.from.encoding x.from.socket until s (pushed.NotSpeakable number layer) more t → Turned (Ok (out.Over (outcome.NotSpeakable 0 number layer)))
  refused_turned number layer more became (stands, turn, first_one, taken) =
      let now : (sending x calls).stand ≡ refused number layer (queued t) = ap (λ (v : Outbox). v.stand) start.kept ∙ stands in
      still_turned more (Ok (out.Over (outcome.NotSpeakable 0 number layer))) taken.nothing_called became (ap (λ (v : Sender). v.sent) taken.kept) tt (
        start.turn ∙ ap (λ v. turn_out (record x.from { until = until_by (hearing x 1 calls) (at_once x calls) (soon x calls) }) 0 v (turn_hearing x 0 calls (over (done_or (sending x calls).expired 0 outcome.Done)))) now,
        start.waits_for (turn_waits x.from.encoding s (refuses number layer) (λ e. cc) turn),
        refl,
      )

  memory_turned : (more : List Call) → Becomes a more b → IsPushed x.from.encoding x.from.socket until s pushed.NoMemory more t → Turned (Err (record {}))
  memory_turned more became (tried, same) = still_turned more (Err (record {})) same.nothing_called became (ap (λ (v : Sender). v.sent) same.kept) tt tt

  pub turned_by : (answer : Pushed) → IsDriven Becomes x.from.encoding a b x.from.socket until s answer t → Turned (out_by deadline answer)
  turned_by (pushed.Sent number) d = sent_turned number d.calls d.becomes d.pushed_by
  turned_by pushed.Empty d = empty_turned d.calls d.becomes d.pushed_by
  turned_by (pushed.Expired number) d = expired_turned number d.calls d.becomes d.pushed_by
  turned_by (pushed.Timed at) d = timed_turned at d.calls (nat_le deadline at) refl d.becomes d.pushed_by
  turned_by (pushed.Failed cause) d = failed_turned cause d.calls d.becomes d.pushed_by
  turned_by (pushed.NotSpeakable number layer) d = refused_turned number layer d.calls d.becomes d.pushed_by
  turned_by pushed.NoMemory d = memory_turned d.calls d.becomes d.pushed_by

-- under other names of the encoding and the socket
pub turned_at : {N : Type 0} (Becomes : N → List Call → N → Type 0) (x : Ends) (calls : List Call) (e : Encoding) (socket : ℕ) (a b : N) (until deadline : ℕ) (s t : Sender) (answer : Pushed) →
    IsToSend x calls e socket until deadline s → HasBytes e → s.sent < 2 ^ 64 → HasRest s.begun → t.sent < 2 ^ 64 → IsDriven Becomes e a b socket until s answer t → HasTurned Becomes x calls e a b (out_by deadline answer) t
turned_at {N} Becomes x calls e socket a b until deadline s t answer start some small rest fits d =
    let start2 : IsToSend x calls x.from.encoding socket until deadline s = subst (λ v. IsToSend x calls v socket until deadline s) (sym start.encoding_is) start in
    let start3 : IsToSend x calls x.from.encoding x.from.socket until deadline s = subst (λ v. IsToSend x calls x.from.encoding v until deadline s) (sym start.socket_is) start2 in
    let d2 : IsDriven Becomes x.from.encoding a b socket until s answer t = subst (λ v. IsDriven Becomes v a b socket until s answer t) (sym start.encoding_is) d in
    let d3 : IsDriven Becomes x.from.encoding a b x.from.socket until s answer t = subst (λ v. IsDriven Becomes x.from.encoding a b v until s answer t) (sym start.socket_is) d2 in
    subst (λ v. HasTurned Becomes x calls v a b (out_by deadline answer) t) start.encoding_is
    (turned_by Becomes x calls a b until deadline s t start3 (subst HasBytes (sym start.encoding_is) some) small rest fits answer d3)

-- reported times never decrease
call_rises : (c : Call) (trace : List Item) (told : ℕ) → IsLawful c trace told → told ≤ told_by c told
call_rises (begins at) trace told h = h.later
call_rises (starts leaf target answer) trace told h = h.0.later
call_rises (waits_call until answer) trace told h = h.0.later
call_rises (closes socket) trace told h = omega arith
call_rises (listens target answer) trace told h = h.1.later
call_rises (accepts listener until answer) trace told h = h.2.later
call_rises (sends socket bytes until (send.Sent count at)) trace told h = h.answered.2.later
call_rises (sends socket bytes until (send.Timed at)) trace told h = h.answered.1.later
call_rises (sends socket bytes until (send.Failed cause)) trace told h = omega arith
call_rises (shuts socket) trace told h = omega arith
call_rises (receives socket most until came (recv.Got count at)) trace told h = h.answered.1.later
call_rises (receives socket most until came recv.End) trace told h = omega arith
call_rises (receives socket most until came (recv.Timed at)) trace told h = h.answered.1.later
call_rises (receives socket most until came (recv.Failed cause)) trace told h = omega arith

pub times_rise : (calls : List Call) (trace : List Item) (told : ℕ) → AreLawful trace told calls → told ≤ told_after calls told
times_rise [] trace told h = omega arith
times_rise (c ∷ calls) trace told h =
    let before = times_rise calls trace told h.1 in
    let here = call_rises c (items_of calls ++ trace) (told_after calls told) h.0 in
    omega (arith, before, here)

pub shown_rises : (a b : Net) (calls : List Call) → Shows a calls b → a.told ≤ b.told
shown_rises a b calls h = subst (λ n. a.told ≤ n) (sym h.told) (times_rise calls a.trace a.told h.lawful)
