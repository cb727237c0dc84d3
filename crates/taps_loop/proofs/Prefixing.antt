-- Of bytes that begin what a chain wrote, the first messages are heard, and none is bad.
use Rattle.std.proofs.Common.{◌≡◌, ℕ, ◌+◌, ◌*◌, ◌<◌, ◌≤◌, ◌^◌, ◌⊎◌, inl, inr, Bool, true, List, [], ◌∷◌, ◌++◌, length, take, drop, refl, sym, ap, subst, ◌∙◌, arith, append_assoc, length-append}
use Rattle.std.specs.List.{concat}
use Rattle.std.proofs.lemmas.List.{append-nil, take-append-drop}
use Rattle.taps_framer.specs.Layers.{Layer}
use Rattle.taps_chain.specs.Chained.{chained, IsSpoken, spelling, AreSpoken}
use Rattle.taps_chain.specs.ChainLaws.{AreFramers, IsCutOff}
use Rattle.taps_chain.specs.Heard.{needs, IsHeard}
use Rattle.taps_chain.proofs.Cuts.{hears_prefixes}
use Rattle.taps_chain.proofs.Spelled.{spelling-append, AreSpoken-append}
use Rattle.taps_connection.proofs.Framing.{is_framed}
use Rattle.taps_exchange.specs.Decodings.{Hearing, enough, lacks, breaks, messages_of, decoding_of}
use Rattle.taps_exchange.specs.Firsts.{HearsStream}
use Rattle.taps_exchange.proofs.Hearing.{streams_are_heard}
use Rattle.taps_loop.proofs.Lookings.{le_or}

-- what was heard are the first messages that were sent, and nothing bad
pub record IsFirstOf (h : Hearing) (sent : List (List ℕ)) : Type 0 where
  pub unheard : List (List ℕ)
  pub prefix : sent ≡ messages_of h ++ unheard
  pub none_bad : (ms : List (List ℕ)) (layer place : ℕ) → h ≡ breaks ms layer place → ⊥

-- bytes begin with the first of some messages, and then more are needed
record IsCut (fs : List Layer) (bytes : List ℕ) (sent : List (List ℕ)) : Type 0 where
  first : List (List ℕ)
  more : List (List ℕ)
  rest : List ℕ
  messages : sent ≡ first ++ more
  heard : IsHeard fs 0 bytes first needs rest

-- a list before whose last item others stand
before_last : (ms : List (List ℕ)) (m : List ℕ) (first left : List (List ℕ)) → 0 < length left → ms ++ m ∷ [] ≡ first ++ left → (more : List (List ℕ)) × (ms ≡ first ++ more)
before_last ms m [] left some e = (ms, refl)
before_last [] m (f ∷ first) left some e =
    (let l : 1 ≡ length (f ∷ (first ++ left)) = ap (λ (v : List (List ℕ)). length v) e in
    let s : length (first ++ left) ≡ length first + length left = length-append first left in
    absurd (omega arith))
before_last (a ∷ ms) m (f ∷ first) left some e =
    let head : a ≡ f = cc in
    let tail : ms ++ m ∷ [] ≡ first ++ left = cc in
    let others = before_last ms m first left some tail in
    (others.0, ap (λ (v : List ℕ). v ∷ ms) head ∙ ap (λ (v : List (List ℕ)). f ∷ v) others.1)

module _ (fs : List Layer) (some : 0 < length fs) (w : AreFramers fs) where
  chained_few : (k : ℕ) (m : List ℕ) → k < 2 ^ 64 → IsSpoken fs k m → length (chained fs k m) ≤ 4194304
  chained_few k m small spoken = (is_framed fs w k small some m (chained fs k m) spoken refl).few

  spelling_few : (k : ℕ) (ms : List (List ℕ)) → k + length ms < 2 ^ 64 → AreSpoken fs k ms → length (spelling fs k ms) ≤ 4194304 * length ms
  spelling_few k [] small spoken = omega arith
  spelling_few k (m ∷ ms) small spoken =
      let one = chained_few k m (omega arith) spoken.0 in
      let others = spelling_few (k + 1) ms (omega arith) spoken.1 in
      let sum = length-append (chained fs k m) (spelling fs (k + 1) ms) in
      omega (arith, one, others, sum)

  -- where no message is begun
  cut_between : (sent : List (List ℕ)) (x y : List ℕ) → length sent < 2 ^ 32 → AreSpoken fs 0 sent → spelling fs 0 sent ≡ x ++ y → IsCut fs x sent
  cut_between sent x y few spoken e =
      let long = spelling_few 0 sent (omega arith) spoken in
      let sum : length (spelling fs 0 sent) ≡ length x + length y = ap (λ (v : List ℕ). length v) e ∙ length-append x y in
      let c = hears_prefixes fs some w 0 x y sent (omega arith) spoken e in
      record { first = c.first; more = c.left; rest = c.rest; messages = c.messages; heard = c.heard }

  -- where one is, of which some bytes are left
  module _ (sent : List (List ℕ)) (m front left x y : List ℕ) (few : length sent < 2 ^ 32) (spoken : AreSpoken fs 0 sent) (begun : IsSpoken fs (length sent) m)
      (whole : front ++ left ≡ chained fs (length sent) m) (unsent : 0 < length left) (read : spelling fs 0 sent ++ front ≡ x ++ y) where
    abbrev all : List (List ℕ)
    all = sent ++ m ∷ []

    all_spoken : AreSpoken fs 0 all
    all_spoken =
        let z : length sent ≡ 0 + length sent = omega arith in
        AreSpoken-append fs 0 sent (m ∷ []) spoken (subst (λ v. IsSpoken fs v m) z begun, tt)

    all_spelled : spelling fs 0 all ≡ x ++ (y ++ left)
    all_spelled =
        let z : 0 + length sent ≡ length sent = omega arith in
        spelling-append fs 0 sent (m ∷ [])
        ∙ (ap (λ (v : ℕ). spelling fs 0 sent ++ (chained fs v m ++ [])) z
        ∙ (ap (λ (v : List ℕ). spelling fs 0 sent ++ v) (append-nil (chained fs (length sent) m) ∙ sym whole)
        ∙ (sym (append_assoc (spelling fs 0 sent) front left)
        ∙ (ap (λ (v : List ℕ). v ++ left) read ∙ append_assoc x y left))))

    cut_all : IsCutOff fs 0 x (y ++ left) all
    cut_all =
        let counted : length all ≡ length sent + 1 = length-append sent (m ∷ []) in
        let long = spelling_few 0 all (omega arith) all_spoken in
        let sum : length (spelling fs 0 all) ≡ length x + length (y ++ left) = ap (λ (v : List ℕ). length v) all_spelled ∙ length-append x (y ++ left) in
        hears_prefixes fs some w 0 x (y ++ left) all (omega arith) all_spoken all_spelled

    some_behind : (c : IsCutOff fs 0 x (y ++ left) all) (behind : List (List ℕ)) → c.left ≡ behind → 0 < length c.left
    some_behind c [] e =
        let none : c.rest ++ (y ++ left) ≡ [] = c.goes_on ∙ ap (λ (v : List (List ℕ)). spelling fs (0 + length c.first) v) e in
        let one : length (c.rest ++ (y ++ left)) ≡ 0 = ap (λ (v : List ℕ). length v) none in
        let two : length (c.rest ++ (y ++ left)) ≡ length c.rest + length (y ++ left) = length-append c.rest (y ++ left) in
        let three : length (y ++ left) ≡ length y + length left = length-append y left in
        absurd (omega arith)
    some_behind c (b ∷ behind) e = (let l : length c.left ≡ length (b ∷ behind) = ap (λ (v : List (List ℕ)). length v) e in omega arith)

    cut_in_one : IsCut fs x sent
    cut_in_one =
        let c = cut_all in
        let others = before_last sent m c.first c.left (some_behind c c.left refl) c.messages in
        record { first = c.first; more = others.0; rest = c.rest; messages = others.1; heard = c.heard }

  -- what is heard of such bytes, however many are needed
  heard_of_cut : (pieces sent : List (List ℕ)) (c : IsCut fs (concat pieces) sent) → length sent < 2 ^ 32 → (n : ℕ) (ended : Bool) → IsFirstOf ((decoding_of true fs).hearing n pieces ended) sent
  heard_of_cut pieces sent c few n ended =
      let counted : length sent ≡ length c.first + length c.more = ap (λ (v : List (List ℕ)). length v) c.messages ∙ length-append c.first c.more in
      by_need (streams_are_heard fs pieces c.first needs c.rest some w (omega arith) c.heard) (le_or n (length c.first))
    where
      of_hearing : (h : Hearing) (heard unheard : List (List ℕ)) → messages_of h ≡ heard → sent ≡ heard ++ unheard → ((ms : List (List ℕ)) (layer place : ℕ) → h ≡ breaks ms layer place → ⊥) → IsFirstOf h sent
      of_hearing h heard unheard is e none = record { unheard = unheard; prefix = e ∙ ap (λ (v : List (List ℕ)). v ++ unheard) (sym is); none_bad = none }

      by_need : HearsStream fs pieces c.first needs c.rest → (n ≤ length c.first) ⊎ (length c.first < n) → IsFirstOf ((decoding_of true fs).hearing n pieces ended) sent
      by_need h (inl fits) =
          let e = h.enough_heard n ended fits in
          of_hearing ((decoding_of true fs).hearing n pieces ended) (take n c.first) (drop n c.first ++ c.more) (ap messages_of e)
          (c.messages ∙ (ap (λ (v : List (List ℕ)). v ++ c.more) (sym (take-append-drop n c.first)) ∙ append_assoc (take n c.first) (drop n c.first) c.more))
          (λ ms layer place b. (let z : enough (take n c.first) ≡ breaks ms layer place = sym e ∙ b in cc))
      by_need h (inr more) =
          let e = h.more_needed n ended more refl in
          of_hearing ((decoding_of true fs).hearing n pieces ended) c.first c.more (ap messages_of e) c.messages
          (λ ms layer place b. (let z : lacks c.first c.rest ≡ breaks ms layer place = sym e ∙ b in cc))

  pub heard_between : (sent pieces : List (List ℕ)) (y : List ℕ) → length sent < 2 ^ 32 → AreSpoken fs 0 sent → spelling fs 0 sent ≡ concat pieces ++ y →
      (n : ℕ) (ended : Bool) → IsFirstOf ((decoding_of true fs).hearing n pieces ended) sent
  heard_between sent pieces y few spoken e n ended = heard_of_cut pieces sent (cut_between sent (concat pieces) y few spoken e) few n ended

  pub heard_in_one : (sent pieces : List (List ℕ)) (m front left y : List ℕ) → length sent < 2 ^ 32 → AreSpoken fs 0 sent → IsSpoken fs (length sent) m → front ++ left ≡ chained fs (length sent) m → 0 < length left →
      spelling fs 0 sent ++ front ≡ concat pieces ++ y → (n : ℕ) (ended : Bool) → IsFirstOf ((decoding_of true fs).hearing n pieces ended) sent
  heard_in_one sent pieces m front left y few spoken begun whole unsent e n ended =
      heard_of_cut pieces sent (cut_in_one sent m front left (concat pieces) y few spoken begun whole unsent e) few n ended
