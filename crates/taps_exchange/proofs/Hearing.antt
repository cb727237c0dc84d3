-- What is heard of bytes as a function is what a chain's relations say.
use Rattle.std.proofs.Common.{◌≡◌, ℕ, zero, suc, ◌+◌, ◌-◌, ◌<◌, ◌≤◌, ◌^◌, List, [], ◌∷◌, ◌++◌, length, take, drop, refl, ap, sym, subst, ◌∙◌, arith, append_assoc}
use Rattle.std.specs.Prelude.{map}
use Rattle.std.specs.List.{concat}
use Rattle.std.proofs.Math.Seq.{drop-append_seam}
use Rattle.std.proofs.lemmas.List.{append-nil}
use Rattle.taps_framer.specs.Layers.{Layer}
use Rattle.taps_chain.specs.Chained.{chained, IsSpoken, spelling}
use Rattle.taps_chain.specs.Faults.{IsBadIn}
use Rattle.taps_chain.specs.Heard.{needs, fails, IsEnding, IsBegun}
use Rattle.taps_chain.specs.ChainLaws.{AreFramers}
use Rattle.taps_connection.specs.Histories.{AreGivenBy}
use Rattle.taps_connection.specs.Histories.{message as given_message}
use Rattle.taps_exchange.specs.Decodings.{First, message, need, bad, Hearing, enough, lacks, breaks, behind, heard_by, hears, whole_in, first_in, datagram_by, hears_datagrams}
use Rattle.taps_exchange.specs.Firsts.{StreamsAreHeard, DatagramsAreHeard}
use Rattle.taps_exchange.proofs.Firsts.{finds_first, finds_whole}

-- messages before what is heard behind them
abbrev pub behind_all : List (List ℕ) → Hearing → Hearing
behind_all [] h = h
behind_all (m ∷ ms) h = behind m (behind_all ms h)

pub all_enough : (ms : List (List ℕ)) → behind_all ms (enough []) ≡ enough ms
all_enough [] = refl
all_enough (m ∷ ms) = ap (behind m) (all_enough ms)

pub all_lacks : (ms : List (List ℕ)) (u : List ℕ) → behind_all ms (lacks [] u) ≡ lacks ms u
all_lacks [] u = refl
all_lacks (m ∷ ms) u = ap (behind m) (all_lacks ms u)

pub all_breaks : (ms : List (List ℕ)) (l p : ℕ) → behind_all ms (breaks [] l p) ≡ breaks ms l p
all_breaks [] l p = refl
all_breaks (m ∷ ms) l p = ap (behind m) (all_breaks ms l p)

-- the messages that bytes begin with, and then what is heard of the rest
pub hears_begun : (fs : List Layer) (k : ℕ) (x : List ℕ) (ms : List (List ℕ)) (rest : List ℕ) (n j : ℕ) → 0 < length fs → AreFramers fs → k + length ms ≤ 2 ^ 64 → IsBegun fs k x ms rest → j ≡ length ms + n →
    hears (first_in fs) j k x ≡ behind_all ms (hears (first_in fs) n (k + length ms) rest)
hears_begun fs k x [] rest n j some w b h e =
    let z : k ≡ k + 0 = omega arith in
    let i : j ≡ n = omega (arith, e) in
    ap (λ v. hears (first_in fs) v k x) i ∙ (ap (λ v. hears (first_in fs) n v x) z ∙ ap (hears (first_in fs) n (k + 0)) h.split)
hears_begun fs k x (m ∷ ms) rest n zero some w b h e = absurd (omega (arith, e))
hears_begun fs k x (m ∷ ms) rest n (suc j) some w b h e =
    let split : x ≡ chained fs k m ++ (spelling fs (k + 1) ms ++ rest) = h.split ∙ append_assoc (chained fs k m) (spelling fs (k + 1) ms) rest in
    let left : drop (length (chained fs k m)) x ≡ spelling fs (k + 1) ms ++ rest = ap (drop (length (chained fs k m))) split ∙ drop-append_seam (chained fs k m) (spelling fs (k + 1) ms ++ rest) in
    let place : (k + 1) + length ms ≡ k + length (m ∷ ms) = omega arith in
    let first = (finds_first fs k x w (omega arith)).finds m (spelling fs (k + 1) ms ++ rest) some h.spoken.0 split in
    ap (λ v. heard_by v k x (hears (first_in fs) j)) first
    ∙ ap (behind m) (hears_begun fs (k + 1) (drop (length (chained fs k m)) x) ms rest n j some w (omega arith) (record { split = left; spoken = h.spoken.1 }) (omega (arith, e))
    ∙ ap (λ v. behind_all ms (hears (first_in fs) n v rest)) place)

-- as many as are there
pub hears_all : (fs : List Layer) (x : List ℕ) (ms : List (List ℕ)) (rest : List ℕ) (n : ℕ) → 0 < length fs → AreFramers fs → length ms ≤ 2 ^ 64 → IsBegun fs 0 x ms rest → length ms ≡ n → hears (first_in fs) n 0 x ≡ enough ms
hears_all fs x ms rest n some w b h e = hears_begun fs 0 x ms rest 0 n some w (omega (arith, b)) h (omega (arith, e)) ∙ all_enough ms

-- fewer, and then what the rest begins with
pub hears_next : (fs : List Layer) (x : List ℕ) (ms : List (List ℕ)) (rest : List ℕ) (n : ℕ) (first : First) → 0 < length fs → AreFramers fs → length ms ≤ 2 ^ 64 → IsBegun fs 0 x ms rest → length ms < n → first_in fs (length ms) rest ≡ first →
    (j : ℕ) × (hears (first_in fs) n 0 x ≡ behind_all ms (heard_by first (length ms) rest (hears (first_in fs) j)))
hears_next fs x ms rest n first some w b h less e = by_more fs x ms rest n first some w b h (more (length ms) n less) e
  where
    more : (a c : ℕ) → a < c → (j : ℕ) × (c ≡ a + suc j)
    more a (suc c) h = (c - a, omega arith)
    more a zero h = absurd (omega (arith, h))

    by_more : (fs : List Layer) (x : List ℕ) (ms : List (List ℕ)) (rest : List ℕ) (n : ℕ) (first : First) → 0 < length fs → AreFramers fs → length ms ≤ 2 ^ 64 → IsBegun fs 0 x ms rest → ((j : ℕ) × (n ≡ length ms + suc j)) → first_in fs (length ms) rest ≡ first →
        (j : ℕ) × (hears (first_in fs) n 0 x ≡ behind_all ms (heard_by first (length ms) rest (hears (first_in fs) j)))
    by_more fs x ms rest n first some w b h m e =
        let place : 0 + length ms ≡ length ms = omega arith in (
          m.0,
          hears_begun fs 0 x ms rest (suc m.0) n some w (omega (arith, b)) h m.1
              ∙ (ap (λ v. behind_all ms (hears (first_in fs) (suc m.0) v rest)) place ∙ ap (λ v. behind_all ms (heard_by v (length ms) rest (hears (first_in fs) m.0))) e),
        )

pub hears_need : (fs : List Layer) (x : List ℕ) (ms : List (List ℕ)) (rest : List ℕ) (n : ℕ) → 0 < length fs → AreFramers fs → length ms < 2 ^ 64 → IsBegun fs 0 x ms rest → length ms < n → IsEnding fs (length ms) rest needs → hears (first_in fs) n 0 x ≡ lacks ms rest
hears_need fs x ms rest n some w b h less e =
    (hears_next fs x ms rest n need some w (omega (arith, b)) h less ((finds_first fs (length ms) rest w b).waits e)).1 ∙ all_lacks ms rest

pub hears_bad : (fs : List Layer) (x : List ℕ) (ms : List (List ℕ)) (rest : List ℕ) (n l p : ℕ) → 0 < length fs → AreFramers fs → length ms < 2 ^ 64 → IsBegun fs 0 x ms rest → length ms < n → IsEnding fs (length ms) rest (fails l p) → hears (first_in fs) n 0 x ≡ breaks ms l p
hears_bad fs x ms rest n l p some w b h less e =
    (hears_next fs x ms rest n (bad l p) some w (omega (arith, b)) h less ((finds_first fs (length ms) rest w b).breaks_off l p e)).1 ∙ all_breaks ms l p

-- the first ones, where there are more
hears_some : (fs : List Layer) (k : ℕ) (x : List ℕ) (ms : List (List ℕ)) (rest : List ℕ) (n : ℕ) → 0 < length fs → AreFramers fs → k + length ms ≤ 2 ^ 64 → IsBegun fs k x ms rest → n ≤ length ms → hears (first_in fs) n k x ≡ enough (take n ms)
hears_some fs k x ms rest zero some w b h e = refl
hears_some fs k x [] rest (suc n) some w b h e = absurd (omega (arith, e))
hears_some fs k x (m ∷ ms) rest (suc n) some w b h e =
    let split : x ≡ chained fs k m ++ (spelling fs (k + 1) ms ++ rest) = h.split ∙ append_assoc (chained fs k m) (spelling fs (k + 1) ms) rest in
    let left : drop (length (chained fs k m)) x ≡ spelling fs (k + 1) ms ++ rest = ap (drop (length (chained fs k m))) split ∙ drop-append_seam (chained fs k m) (spelling fs (k + 1) ms ++ rest) in
    let first = (finds_first fs k x w (omega arith)).finds m (spelling fs (k + 1) ms ++ rest) some h.spoken.0 split in
    ap (λ v. heard_by v k x (hears (first_in fs) n)) first
    ∙ ap (behind m) (hears_some fs (k + 1) (drop (length (chained fs k m)) x) ms rest n some w (omega arith) (record { split = left; spoken = h.spoken.1 }) (omega (arith, e)))

pub streams_are_heard : StreamsAreHeard
streams_are_heard [] pieces ms e rest some w b h = absurd (omega (arith, some))
streams_are_heard (f ∷ fs) pieces ms e rest some w b h =
    let begun : IsBegun (f ∷ fs) 0 (concat pieces) ms rest = record { split = h.split; spoken = h.spoken } in
    let place : 0 + length ms ≡ length ms = omega arith in
    let ends : IsEnding (f ∷ fs) (length ms) rest e = subst (λ v. IsEnding (f ∷ fs) v rest e) place h.ends in
    record {
      enough_heard = λ n ended l. hears_some (f ∷ fs) 0 (concat pieces) ms rest n some w (omega (arith, b)) begun l;
      more_needed = λ n ended l i. hears_need (f ∷ fs) (concat pieces) ms rest n some w b begun l (subst (IsEnding (f ∷ fs) (length ms) rest) i ends);
      bad_behind = λ n ended layer place l i. hears_bad (f ∷ fs) (concat pieces) ms rest n layer place some w b begun l (subst (IsEnding (f ∷ fs) (length ms) rest) i ends);
    }

-- datagrams, one by one
datagram_is : (fs : List Layer) (x m : List ℕ) → AreFramers fs → IsSpoken fs 0 m → x ≡ chained fs 0 m → whole_in fs 0 x ≡ message m 0
datagram_is fs x m w s e = ap (whole_in fs 0) e ∙ (finds_whole fs 0 w (omega arith)).spoken m s

pub datagrams_enough : (fs : List Layer) (pieces more ms : List (List ℕ)) (n : ℕ) → AreFramers fs → AreGivenBy fs pieces (map given_message ms) → n ≤ length ms → hears_datagrams (whole_in fs 0) n (pieces ++ more) ≡ enough (take n ms)
datagrams_enough fs pieces more ms zero w g e = refl
datagrams_enough fs pieces more [] (suc n) w g e = absurd (omega (arith, e))
datagrams_enough fs [] more (m ∷ ms) (suc n) w g e = absurd g
datagrams_enough fs (x ∷ pieces) more (m ∷ ms) (suc n) w g e =
    ap (λ v. datagram_by v (hears_datagrams (whole_in fs 0) n (pieces ++ more))) (datagram_is fs x m w g.0.0 g.0.1)
    ∙ ap (behind m) (datagrams_enough fs pieces more ms n w g.1 (omega (arith, e)))

pub datagrams_behind : (fs : List Layer) (pieces more ms : List (List ℕ)) (n j : ℕ) → AreFramers fs → AreGivenBy fs pieces (map given_message ms) → n ≡ length ms + j →
    hears_datagrams (whole_in fs 0) n (pieces ++ more) ≡ behind_all ms (hears_datagrams (whole_in fs 0) j more)
datagrams_behind fs [] more [] n j w g e = (let i : n ≡ j = omega (arith, e) in ap (λ v. hears_datagrams (whole_in fs 0) v more) i)
datagrams_behind fs [] more (m ∷ ms) n j w g e = absurd g
datagrams_behind fs (x ∷ pieces) more [] n j w g e = absurd g
datagrams_behind fs (x ∷ pieces) more (m ∷ ms) zero j w g e = absurd (omega (arith, e))
datagrams_behind fs (x ∷ pieces) more (m ∷ ms) (suc n) j w g e =
    ap (λ v. datagram_by v (hears_datagrams (whole_in fs 0) n (pieces ++ more))) (datagram_is fs x m w g.0.0 g.0.1)
    ∙ ap (behind m) (datagrams_behind fs pieces more ms n j w g.1 (omega (arith, e)))

more_than : (a c : ℕ) → a < c → (j : ℕ) × (c ≡ a + suc j)
more_than a (suc c) h = (c - a, omega arith)
more_than a zero h = absurd (omega (arith, h))

pub datagrams_need : (fs : List Layer) (pieces ms : List (List ℕ)) (n : ℕ) → AreFramers fs → AreGivenBy fs pieces (map given_message ms) → length ms < n → hears_datagrams (whole_in fs 0) n pieces ≡ lacks ms []
datagrams_need fs pieces ms n w g e =
    let j = more_than (length ms) n e in
    ap (hears_datagrams (whole_in fs 0) n) (sym (append-nil pieces)) ∙ (datagrams_behind fs pieces [] ms n (suc j.0) w g j.1 ∙ all_lacks ms [])

pub datagrams_bad : (fs : List Layer) (pieces ms : List (List ℕ)) (n : ℕ) (x : List ℕ) (more : List (List ℕ)) (l p : ℕ) → AreFramers fs → AreGivenBy fs pieces (map given_message ms) → length ms < n → IsBadIn fs 0 x l p →
    hears_datagrams (whole_in fs 0) n (pieces ++ x ∷ more) ≡ breaks ms l p
datagrams_bad fs pieces ms n x more l p w g e h =
    let j = more_than (length ms) n e in
    datagrams_behind fs pieces (x ∷ more) ms n (suc j.0) w g j.1
    ∙ (ap (λ v. behind_all ms (datagram_by v (hears_datagrams (whole_in fs 0) j.0 more))) ((finds_whole fs 0 w (omega arith)).at_fault x l p h) ∙ all_breaks ms l p)

pub datagrams_are_heard : DatagramsAreHeard
datagrams_are_heard fs pieces ms w g =
    record {
      enough_heard = λ n ended more l. datagrams_enough fs pieces more ms n w g l;
      more_needed = λ n ended l. datagrams_need fs pieces ms n w g l;
      bad_behind = λ n ended x more layer place l h. datagrams_bad fs pieces ms n x more layer place w g l h;
    }
