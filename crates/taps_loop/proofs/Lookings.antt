-- What is kept of the receiving tells which messages are in the bytes that were read.
use Rattle.std.proofs.Common.{◌≡◌, ℕ, zero, suc, ◌+◌, ◌<◌, ◌≤◌, ◌^◌, Bool, true, false, List, [], ◌∷◌, ◌++◌, length, take, drop, Option, Some, None, refl, ap, sym, subst, ◌∙◌, ◌⊎◌, inl, inr, arith, append_assoc}
use Rattle.std.specs.Prelude.{map, nat_lt}
use Rattle.std.specs.List.{concat}
use Rattle.std.proofs.lemmas.Bool.{le-ltb, ltb-true, ltb-false}
use Rattle.std.proofs.lemmas.List.{take_all}
use Rattle.std.proofs.Math.Seq.{drop-append_seam}
use Rattle.taps_framer.specs.Layers.{Layer}
use Rattle.taps_framer.specs.declared.framer.Framer as framer
use Rattle.taps_chain.specs.Chained.{chained, spelling}
use Rattle.taps_chain.specs.Heard.{IsBegun}
use Rattle.taps_chain.specs.ChainLaws.{AreFramers}
use Rattle.taps_chain.specs.Layers.{layers_of}
use Rattle.taps_chain.specs.declared.heard.BadAt.{BadAt}
use Rattle.taps_chain.specs.declared.heard.Heard.{Heard}
use Rattle.taps_chain.specs.declared.heard.Heard.TheVariants as heard
use Rattle.taps_stack.specs.declared.stack.Stack.{Stack}
use Rattle.taps_connection.specs.declared.connection.Connection.{Connection}
use Rattle.taps_connection.specs.declared.receiver.Receiver.{Receiver}
use Rattle.taps_connection.specs.Histories.{Given, message, given_by, list_of, IsHeardSoFar, IsWholeSoFar, Represents, RepresentsRead}
use Rattle.taps_connection.specs.Inboxes.{IsSoundReceiver}
use Rattle.taps_connection.specs.Receives.{IsGivenOut}
use Rattle.taps_connection.specs.Sources.{unread_of}
use Rattle.taps_connection.specs.Unread.{Unread, framed, plain, datagrams, count_given, IsWanting}
use Rattle.taps_exchange.specs.declared.outcome.Outcome.TheVariants as outcome
use Rattle.taps_exchange.specs.Decodings.{Decoding, behind, enough, lacks, messages_of, heard_by, hears, hears_one, whole_in, first_in, hears_datagrams, decoding_of}
use Rattle.taps_exchange.specs.Hearings.{Fits, IsLacking, ends_in, to_come}
use Rattle.taps_exchange.proofs.Firsts.{finds_first}
use Rattle.taps_exchange.proofs.Hearing.{datagrams_enough}
use Rattle.taps_exchange.proofs.HearingOn.{come_few, less_left, messages_more}
use Rattle.taps_exchange.proofs.Kept.{same_messages, counted, lacking, broken, IsBroken, fits_given, one_counted, need_same}
use Rattle.taps_loop.specs.declared.looked.Look.TheVariants as look
use Rattle.taps_loop.specs.Looks.{IsReceiving, AreAll, IsFound, to_hear, IsNearer}

-- the first ones of a stream, where there are more
hears_some : (fs : List Layer) (k : ℕ) (x : List ℕ) (ms : List (List ℕ)) (rest : List ℕ) (n : ℕ) → 0 < length fs → AreFramers fs → k + length ms ≤ 2 ^ 64 → IsBegun fs k x ms rest → n ≤ length ms → hears (first_in fs) n k x ≡ enough (take n ms)
hears_some fs k x ms rest zero some w b h e = refl
hears_some fs k x [] rest (suc n) some w b h e = absurd (omega (arith, e))
hears_some fs k x (m ∷ ms) rest (suc n) some w b h e =
    let split : x ≡ chained fs k m ++ (spelling fs (k + 1) ms ++ rest) = h.split ∙ append_assoc (chained fs k m) (spelling fs (k + 1) ms) rest in
    let left : drop (length (chained fs k m)) x ≡ spelling fs (k + 1) ms ++ rest = ap (drop (length (chained fs k m))) split ∙ drop-append_seam (chained fs k m) (spelling fs (k + 1) ms ++ rest) in
    let first = (finds_first fs k x w (omega arith)).finds m (spelling fs (k + 1) ms ++ rest) some h.spoken.0 split in
    ap (λ v. heard_by v k x (hears (first_in fs) n)) first
    ∙ ap (behind m) (hears_some fs (k + 1) (drop (length (chained fs k m)) x) ms rest n some w (omega arith) (record { split = left; spoken = h.spoken.1 }) (omega (arith, e)))

-- of a stream in frames
framed_some : (fs : List Layer) (ended : Bool) (n : ℕ) (read ms : List (List ℕ)) (x : List ℕ) (k : ℕ) (bad : Option BadAt) → 0 < length fs → AreFramers fs → length ms < 2 ^ 64 → IsHeardSoFar fs (concat read) (map message ms) x k bad → n ≤ length ms →
    (decoding_of true fs).hearing n read ended ≡ enough (take n ms)
framed_some [] ended n read ms x k bad some w small h few = absurd (omega (arith, some))
framed_some (f ∷ fs) ended n read ms x k bad some w small h few =
    let same : h.messages ≡ ms = sym (same_messages ms h.messages h.given_out) in
    hears_some (f ∷ fs) 0 (concat read) ms x n some w (omega (arith, small)) (subst (λ v. IsBegun (f ∷ fs) 0 (concat read) v x) same h.begun) few

-- of a stream that is one message
none_at : (a : List (List ℕ)) → map message a ≡ [] → a ≡ []
none_at [] e = refl
none_at (x ∷ a) e = cc

one_some : (n : ℕ) (x : List ℕ) → n ≤ 1 → length x ≤ 4194304 → hears_one n x true ≡ enough (take n (x ∷ []))
one_some zero x e few = refl
one_some (suc zero) x e few = rw (le-ltb 4194304 (length x) few) refl
one_some (suc (suc n)) x e few = absurd (omega (arith, e))

none_some : (n : ℕ) (x : List ℕ) (ended : Bool) → n ≤ 0 → hears_one n x ended ≡ enough (take n [])
none_some zero x ended e = refl
none_some (suc n) x ended e = absurd (omega (arith, e))

plain_some : (ended given : Bool) (n : ℕ) (read ms : List (List ℕ)) (x : List ℕ) → IsWholeSoFar ended (concat read) (map message ms) x given → n ≤ length ms → (decoding_of true []).hearing n read ended ≡ enough (take n ms)
plain_some ended false n read ms x h few =
    let none : ms ≡ [] = none_at ms h.0 in
    let at_most : n ≤ 0 = subst (λ (v : List (List ℕ)). n ≤ length v) none few in
    none_some n (concat read) ended at_most ∙ ap (λ v. enough (take n v)) (sym none)
plain_some ended true n read ms x h few =
    let one : ms ≡ concat read ∷ [] = same_messages ms (concat read ∷ []) h.2 in
    let at_most : n ≤ 1 = subst (λ (v : List (List ℕ)). n ≤ length v) one few in
    ap (λ v. hears_one n (concat read) v) h.0 ∙ (one_some n (concat read) at_most h.1 ∙ ap (λ v. enough (take n v)) (sym one))

-- as many as are needed were given out, or more
pub some_given : (stream : Bool) (fs : List Layer) (ended : Bool) (piece n : ℕ) (read ms : List (List ℕ)) (u : Unread) → AreFramers fs → length ms < 2 ^ 64 → Fits stream fs piece u → Represents fs ended u read (map message ms) → n ≤ length ms →
    (decoding_of stream fs).hearing n read ended ≡ enough (take n ms)
some_given stream fs ended piece n read ms (framed p x k bad) w small fits h few =
    subst (λ q. (decoding_of q fs).hearing n read ended ≡ enough (take n ms)) (sym fits.0) (framed_some fs ended n read ms x k bad fits.1 w small h few)
some_given stream fs ended piece n read ms (plain p x given) w small fits h few =
    subst (λ q. (decoding_of q fs).hearing n read ended ≡ enough (take n ms)) (sym fits.0)
    (subst (λ l. (decoding_of true l).hearing n read ended ≡ enough (take n ms)) (sym fits.1) (plain_some ended given n read ms x h few))
some_given stream fs ended piece n read ms (datagrams held k) w small fits h few =
    subst (λ q. (decoding_of q fs).hearing n read ended ≡ enough (take n ms)) (sym fits)
    (ap (hears_datagrams (whole_in fs 0) n) h.split ∙ datagrams_enough fs h.before (list_of held) ms n w h.given_out few)

-- one number is at most another, or greater
pub le_or : (a b : ℕ) → (a ≤ b) ⊎ (b < a)
le_or a b = by_test (nat_lt b a) refl
  where
    by_test : (t : Bool) → nat_lt b a ≡ t → (a ≤ b) ⊎ (b < a)
    by_test true e = inr (ltb-true b a e)
    by_test false e = inl (ltb-false b a e)

-- all messages are these, where fewer are heard than any greater number
pub all_by : (d : Decoding) (read : List (List ℕ)) (ended : Bool) (ms : List (List ℕ)) → ((n : ℕ) → n ≤ length ms → d.hearing n read ended ≡ enough (take n ms)) → ((n : ℕ) → length ms < n → messages_of (d.hearing n read ended) ≡ ms) → AreAll d read ended ms
all_by d read ended ms some less n = by_size (le_or n (length ms))
  where
    by_size : (n ≤ length ms) ⊎ (length ms < n) → messages_of (d.hearing n read ended) ≡ take n ms
    by_size (inl few) = ap messages_of (some n few)
    by_size (inr many) = less n many ∙ sym (take_all n ms (omega (arith, many)))

-- what is answered by a connection, as its clauses say
pub record IsAnswered {X : Type 0} {F : X → Type 0} (boxed : (x : X) → framer.Ghosts (F x)) (fs : List Layer) (stack : Stack) (old : Receiver X F) (answer : Heard) (new : Receiver X F) : Type 0 where
  pub given_out : IsGivenOut fs old.ended (unread_of old.source) answer (unread_of new.source)
  pub represents : (read : Option (List (List ℕ))) (given : List Given) → RepresentsRead fs old.ended (unread_of old.source) read given →
      RepresentsRead fs old.ended (unread_of new.source) read (given ++ given_by (unread_of old.source) answer)
  pub wanting : answer ≡ heard.Need → IsWanting (unread_of new.source)
  pub sound : IsSoundReceiver boxed stack fs new
  pub ended : new.ended ≡ old.ended

-- of a connection that is the same but for its receiver
pub answered_at : {X : Type 0} {F : X → Type 0} {S : Type 0} (boxed : (x : X) → framer.Ghosts (F x)) (c d : Connection S X F) (answer : Heard) (new : Receiver X F) → d ≡ record c { receiver = d.receiver } →
    IsAnswered boxed (layers_of boxed d.chain) d.stack d.receiver answer new → IsAnswered boxed (layers_of boxed c.chain) c.stack d.receiver answer new
answered_at {X} {F} {S} boxed c d answer new kept h = subst (λ (z : Connection S X F). IsAnswered boxed (layers_of boxed z.chain) z.stack d.receiver answer new) kept h

module _ {X : Type 0} {F : X → Type 0} (boxed : (x : X) → framer.Ghosts (F x)) (stream : Bool) (fs : List Layer) (stack : Stack) (old new : Receiver X F) (w : AreFramers fs) where
  abbrev Before : ℕ → List (List ℕ) → List (List ℕ) → Type 0
  Before piece read ms = IsReceiving stream fs piece old.ended (unread_of old.source) read ms

  abbrev After : ℕ → List (List ℕ) → List (List ℕ) → Type 0
  After piece read ms = IsReceiving stream fs piece old.ended (unread_of new.source) read ms

  -- a message
  pub message_kept : (m : List ℕ) (piece : ℕ) (read ms : List (List ℕ)) → IsAnswered boxed fs stack old (heard.Message m) new → Before piece read ms → After piece read (ms ++ m ∷ [])
  message_kept m piece read ms a h =
      record {
        fits = fits_given stream fs fs old.ended piece (unread_of old.source) (unread_of new.source) (heard.Message m) a.given_out h.fits;
        represents = subst (Represents fs old.ended (unread_of new.source) read) (messages_more ms m) (a.represents (Some read) (map message ms) h.represents);
      }

  pub message_nearer : (m : List ℕ) → IsAnswered boxed fs stack old (heard.Message m) new → count_given (unread_of old.source) < 256 → IsNearer old.ended (unread_of old.source) (unread_of new.source)
  message_nearer m a few =
      let one = one_counted fs old.ended (unread_of old.source) (unread_of new.source) m a.given_out in
      let less : to_hear old.ended (unread_of new.source) < to_hear old.ended (unread_of old.source) =
      less_left 256 (count_given (unread_of old.source)) (count_given (unread_of new.source)) (to_come old.ended (unread_of old.source)) (to_come old.ended (unread_of new.source)) few one (come_few old.ended (unread_of new.source)) in
      record { more = omega (arith, one); less = λ l. less; same = omega (arith, less) }

  -- more bytes have to come
  pub need_kept : (piece : ℕ) (read ms : List (List ℕ)) → IsAnswered boxed fs stack old heard.Need new → Before piece read ms → After piece read ms
  need_kept piece read ms a h =
      let same = need_same fs old.ended (unread_of old.source) (unread_of new.source) a.given_out in
      record { fits = subst (Fits stream fs piece) (sym same) h.fits; represents = subst (λ v. Represents fs old.ended v read (map message ms)) (sym same) h.represents }

  need_lacks : (piece n : ℕ) (read ms : List (List ℕ)) → IsAnswered boxed fs stack old heard.Need new → Before piece read ms → length ms < 2 ^ 64 → length ms < n → IsLacking (decoding_of stream fs) piece n read old.ended (unread_of new.source) ms
  need_lacks piece n read ms a h small less = lacking stream fs old.ended piece n read ms (unread_of old.source) (unread_of new.source) w small less h.fits a.given_out h.represents

  need_all : (piece : ℕ) (read ms : List (List ℕ)) → IsAnswered boxed fs stack old heard.Need new → Before piece read ms → length ms < 2 ^ 64 → AreAll (decoding_of stream fs) read old.ended ms
  need_all piece read ms a h small =
      all_by (decoding_of stream fs) read old.ended ms (λ n few. some_given stream fs old.ended piece n read ms (unread_of old.source) w small h.fits h.represents few)
      (λ n less. ap messages_of (need_lacks piece n read ms a h small less).fewer)

  pub need_found : (piece needs : ℕ) (read ms : List (List ℕ)) → IsAnswered boxed fs stack old heard.Need new → Before piece read ms → length ms < 2 ^ 64 → length ms < needs → old.ended ≡ false → IsFound stream fs piece needs read old.ended look.Lacks (unread_of new.source) ms
  need_found piece needs read ms a h small less going =
      (need_kept piece read ms a h, going, a.wanting refl, need_lacks piece needs read ms a h small less, less, need_all piece read ms a h small)

  pub need_ends : (piece needs : ℕ) (read ms : List (List ℕ)) → IsAnswered boxed fs stack old heard.Need new → Before piece read ms → length ms < 2 ^ 64 → length ms < needs → old.ended ≡ true → IsFound stream fs piece needs read old.ended (look.Over outcome.PeerEnded) (unread_of new.source) ms
  need_ends piece needs read ms a h small less over =
      let l = need_lacks piece needs read ms a h small less in
      (ap (ends_in None old.ended) l.fewer ∙ ap (λ b. ends_in None b (lacks ms l.unread)) over, less, need_all piece read ms a h small)

  -- the bytes are no messages
  bad_breaks : (bad : BadAt) (piece n : ℕ) (read ms : List (List ℕ)) → IsAnswered boxed fs stack old (heard.Bad bad) new → Before piece read ms → length ms < 2 ^ 64 → length ms < n → IsBroken (decoding_of stream fs) n read old.ended bad ms
  bad_breaks bad piece n read ms a h small less = broken stream fs old.ended piece n read ms (unread_of old.source) (unread_of new.source) bad w small less h.fits a.given_out h.represents

  pub bad_all : (bad : BadAt) (piece : ℕ) (read ms : List (List ℕ)) → IsAnswered boxed fs stack old (heard.Bad bad) new → Before piece read ms → length ms < 2 ^ 64 → AreAll (decoding_of stream fs) read old.ended ms
  bad_all bad piece read ms a h small =
      all_by (decoding_of stream fs) read old.ended ms (λ n few. some_given stream fs old.ended piece n read ms (unread_of old.source) w small h.fits h.represents few)
      (λ n less. ap messages_of (bad_breaks bad piece n read ms a h small less).hearing)

  pub bad_ends : (bad : BadAt) (piece needs : ℕ) (read ms : List (List ℕ)) → IsAnswered boxed fs stack old (heard.Bad bad) new → Before piece read ms → length ms < 2 ^ 64 → length ms < needs →
      ends_in None old.ended ((decoding_of stream fs).hearing needs read old.ended) ≡ Some (outcome.BadFrame bad)
  bad_ends bad piece needs read ms a h small less =
      let b = bad_breaks bad piece needs read ms a h small less in
      ap (ends_in None old.ended) b.hearing ∙ ap (λ v. Some (outcome.BadFrame (record { message = v; layer = bad.layer; place = bad.place }))) (sym b.told)

  pub bad_found : (bad : BadAt) (piece needs : ℕ) (read ms : List (List ℕ)) → IsAnswered boxed fs stack old (heard.Bad bad) new → Before piece read ms → length ms < 2 ^ 64 → length ms < needs → IsFound stream fs piece needs read old.ended (look.Over (outcome.BadFrame bad)) (unread_of new.source) ms
  bad_found bad piece needs read ms a h small less = (bad_ends bad piece needs read ms a h small less, less, bad_all bad piece read ms a h small)

closer_by : (a b c : ℕ) → a ≤ b → a < c → (a < b) ⊎ (b < c)
closer_by a b c h l = by_size (le_or b a)
  where
    by_size : (b ≤ a) ⊎ (a < b) → (a < b) ⊎ (b < c)
    by_size (inl small) = inr (omega (arith, small, l))
    by_size (inr great) = inl great

pub nearer_on : (ended : Bool) (u v x : Unread) → IsNearer ended u v → IsNearer ended v x → IsNearer ended u x
nearer_on ended u v x p q =
    let a = p.more in
    let b = q.more in
    let c = p.same in
    let d = q.same in
    record { more = omega (arith, a, b); less = λ l. closer (closer_by (count_given u) (count_given v) (count_given x) a l); same = omega (arith, c, d) }
  where
    closer : (count_given u < count_given v) ⊎ (count_given v < count_given x) → to_hear ended x < to_hear ended u
    closer (inl l) = (let less = p.less l in let d = q.same in omega (arith, less, d))
    closer (inr l) = (let less = q.less l in let c = p.same in omega (arith, less, c))

pub kept_receiver : {X : Type 0} {F : X → Type 0} {S : Type 0} (c d e : Connection S X F) → d ≡ record c { receiver = d.receiver } → e ≡ record d { receiver = e.receiver } → e ≡ record c { receiver = e.receiver }
kept_receiver {X} {F} {S} c d e p q = q ∙ ap (λ (z : Connection S X F). record z { receiver = e.receiver }) p

-- few messages were heard
pub few_heard : (stream : Bool) (fs : List Layer) (piece : ℕ) (ended : Bool) (u : Unread) (read ms : List (List ℕ)) (n : ℕ) → IsReceiving stream fs piece ended u read ms → count_given u < n → length ms < n
few_heard stream fs piece ended u read ms n h less = (let k = counted fs ended u read ms h.represents in omega (arith, k, less))

-- as many are there as are needed
pub enough_found : (stream : Bool) (fs : List Layer) (piece needs : ℕ) (read : List (List ℕ)) (ended : Bool) (u : Unread) (ms : List (List ℕ)) → AreFramers fs → count_given u < 2 ^ 64 → needs ≤ count_given u → IsReceiving stream fs piece ended u read ms → IsFound stream fs piece needs read ended look.Enough u ms
enough_found stream fs piece needs read ended u ms w small all h =
    let k = counted fs ended u read ms h.represents in
    (h, some_given stream fs ended piece needs read ms u w (omega (arith, k, small)) h.fits h.represents (omega (arith, k, all)), omega (arith, k, all))
