-- What is kept of the receiving, and what is heard of the pieces for which it stands.
use Rattle.std.proofs.Common.{◌≡◌, ℕ, zero, suc, ◌+◌, ◌-◌, ◌<◌, ◌≤◌, ◌^◌, Bool, true, false, if◌then◌else◌, List, [], ◌∷◌, ◌++◌, length, min, Option, Some, None, refl, ap, sym, subst, ◌∙◌, arith, length-append}
use Rattle.std.specs.Prelude.{map, take}
use Rattle.std.specs.List.{concat}
use Rattle.std.proofs.lemmas.Bool.{le-ltb, lt-ltb}
use Rattle.std.proofs.lemmas.List.{append-nil, length-map}
use Rattle.std.proofs.lemmas.List.Folds.{concat-append}
use Rattle.std.proofs.Math.Seq.{take-length}
use Rattle.taps_framer.specs.Layers.{Layer}
use Rattle.taps_chain.specs.Heard.{needs, fails, IsEnding, IsBegun}
use Rattle.taps_chain.specs.ChainLaws.{AreFramers}
use Rattle.taps_chain.specs.declared.heard.BadAt.{BadAt}
use Rattle.taps_chain.specs.declared.heard.Heard.{Heard}
use Rattle.taps_chain.specs.declared.heard.Heard.TheVariants as heard
use Rattle.taps_chain.proofs.Cuts.{none_needs}
use Rattle.taps_chain.proofs.Spelled.{begun_none}
use Rattle.taps_stack.specs.declared.stack.Stack.{Stack}
use Rattle.taps_stack.specs.StackTable.{is_stream}
use Rattle.taps_socket.specs.Net.{with_piece}
use Rattle.taps_connection.specs.Histories.{Given, message, IsHeardSoFar, IsWholeSoFar, AreGivenSoFar, Represents}
use Rattle.taps_connection.specs.Receives.{IsGivenOut, too_long}
use Rattle.taps_connection.specs.Unread.{Unread, framed, plain, datagrams, first_of_stream, first_unread, count_given, with_bytes, IsWanting}
use Rattle.taps_connection.proofs.Reading.{taken_in}
use Rattle.taps_exchange.specs.Decodings.{Decoding, enough, lacks, breaks, messages_of, decoding_of, whole_in, hears_one, hears_datagrams}
use Rattle.taps_exchange.specs.Hearings.{Fits, IsLacking, lacks_bytes}
use Rattle.taps_exchange.proofs.Hearing.{hears_all, hears_need, hears_bad, datagrams_enough, datagrams_need, datagrams_bad}

-- what was given out as messages is those messages
same_head : (a b : List ℕ) → message a ≡ message b → a ≡ b
same_head a b e = cc

pub same_messages : (a b : List (List ℕ)) → map message a ≡ map message b → a ≡ b
same_messages [] [] e = refl
same_messages [] (y ∷ b) e = cc
same_messages (x ∷ a) [] e = cc
same_messages (x ∷ a) (y ∷ b) e =
    let first : message x ≡ message y = cc in
    let others : map message a ≡ map message b = cc in
    ap (λ v. x ∷ v) (same_messages a b others) ∙ ap (λ v. v ∷ b) (same_head x y first)

no_messages : (a : List (List ℕ)) → map message a ≡ [] → a ≡ []
no_messages [] e = refl
no_messages (x ∷ a) e = cc

one_message : (a : List (List ℕ)) (m : List ℕ) → map message a ≡ message m ∷ [] → a ≡ m ∷ []
one_message a m e = same_messages a (m ∷ []) e

-- the messages of a stream in frames
record IsStreamOf (fs : List Layer) (read ms : List (List ℕ)) (x : List ℕ) (k : ℕ) : Type 0 where
  pub begun : IsBegun fs 0 (concat read) ms x
  pub count : k ≡ length ms

stream_of : (fs : List Layer) (read ms : List (List ℕ)) (x : List ℕ) (k : ℕ) (bad : Option BadAt) → IsHeardSoFar fs (concat read) (map message ms) x k bad → IsStreamOf fs read ms x k
stream_of fs read ms x k bad h =
    let same : h.messages ≡ ms = sym (same_messages ms h.messages h.given_out) in
    subst (λ v. IsStreamOf fs read v x k) same (record { begun = h.begun; count = h.count })

-- so many messages were given out
pub counted : (fs : List Layer) (ended : Bool) (u : Unread) (read ms : List (List ℕ)) → Represents fs ended u read (map message ms) → count_given u ≡ length ms
counted fs ended (framed p x k bad) read ms h = (stream_of fs read ms x k bad h).count
counted fs ended (plain p x false) read ms h = ap (λ l. length l) (sym (no_messages ms h.0))
counted fs ended (plain p x true) read ms h = ap (λ l. length l) (sym (one_message ms (concat read) h.2))
counted fs ended (datagrams held k) read ms h = h.counted ∙ length-map ms message

-- of a stream that is one message, by how many bytes it has and whether it ended
few_lack : (n : ℕ) (x : List ℕ) → 0 < n → length x ≤ 4194304 → hears_one n x false ≡ lacks [] x
few_lack zero x some few = absurd (omega (arith, some))
few_lack (suc n) x some few = rw (le-ltb 4194304 (length x) few) refl

one_lacks : (n : ℕ) (x : List ℕ) → 1 < n → length x ≤ 4194304 → hears_one n x true ≡ lacks (x ∷ []) []
one_lacks zero x some few = absurd (omega (arith, some))
one_lacks (suc zero) x some few = absurd (omega (arith, some))
one_lacks (suc (suc n)) x some few = rw (le-ltb 4194304 (length x) few) refl

many_break : (n : ℕ) (x : List ℕ) (ended : Bool) → 0 < n → 4194304 < length x → hears_one n x ended ≡ breaks [] 0 4194304
many_break zero x ended some many = absurd (omega (arith, some))
many_break (suc n) x ended some many = rw (lt-ltb 4194304 (length x) many) refl

none_enough : (n : ℕ) (x : List ℕ) (ended : Bool) → n ≡ 0 → hears_one n x ended ≡ enough []
none_enough zero x ended e = refl
none_enough (suc n) x ended e = absurd (omega (arith, e))

one_enough : (n : ℕ) (x : List ℕ) → n ≡ 1 → length x ≤ 4194304 → hears_one n x true ≡ enough (x ∷ [])
one_enough zero x e few = absurd (omega (arith, e))
one_enough (suc zero) x e few = rw (le-ltb 4194304 (length x) few) refl
one_enough (suc (suc n)) x e few = absurd (omega (arith, e))

no_enough : (n : ℕ) (fs : List Layer) (pieces : List (List ℕ)) → n ≡ 0 → hears_datagrams (whole_in fs 0) n pieces ≡ enough []
no_enough zero fs pieces e = refl
no_enough (suc n) fs pieces e = absurd (omega (arith, e))

not_true : (b : Bool) → (b ≡ true → ⊥) → b ≡ false
not_true true h = absurd (h refl)
not_true false h = refl

-- Where more has to come, fewer messages than are needed were heard.
framed_lacks : (fs : List Layer) (ended : Bool) (piece n : ℕ) (read ms : List (List ℕ)) (p : ℕ) (x : List ℕ) (k : ℕ) → length ms < n → length ms < 2 ^ 64 → 0 < length fs → AreFramers fs → p ≡ piece → IsStreamOf fs read ms x k → IsEnding fs k x needs →
    IsLacking (decoding_of true fs) piece n read ended (framed p x k None) ms
framed_lacks [] ended piece n read ms p x k less small some w e h i = absurd (omega (arith, some))
framed_lacks (f ∷ fs) ended piece n read ms p x k less small some w e h i =
    record {
      unread = x;
      fewer = hears_need (f ∷ fs) (concat read) ms x n some w small h.begun less (subst (λ v. IsEnding (f ∷ fs) v x needs) h.count i);
      most = ap (λ v. min v (4194304 - length x)) (sym e);
    }

plain_lacks : (ended given : Bool) (piece n : ℕ) (read ms : List (List ℕ)) (p : ℕ) (x : List ℕ) → length ms < n → p ≡ piece → length x ≤ 4194304 → (ended ≡ true → given ≡ true) → IsWholeSoFar ended (concat read) (map message ms) x given →
    IsLacking (decoding_of true []) piece n read ended (plain p x given) ms
plain_lacks ended false piece n read ms p x less e few end h =
    let none : ms ≡ [] = no_messages ms h.0 in
    let going : ended ≡ false = not_true ended (λ t. let z : false ≡ true = end t in cc) in
    let small : length (concat read) ≤ 4194304 = subst (λ v. length v ≤ 4194304) h.1 few in
    record {
      unread = concat read;
      fewer = ap (λ v. hears_one n (concat read) v) going ∙ (few_lack n (concat read) (omega (arith, less)) small ∙ ap (λ v. lacks v (concat read)) (sym none));
      most = sym e;
    }
plain_lacks ended true piece n read ms p x less e few end h =
    let one : ms ≡ concat read ∷ [] = one_message ms (concat read) h.2 in
    let size : length ms ≡ 1 = ap (λ l. length l) one in
    record {
      unread = [];
      fewer = ap (λ v. hears_one n (concat read) v) h.0 ∙ (one_lacks n (concat read) (omega (arith, less, size)) h.1 ∙ ap (λ v. lacks v []) (sym one));
      most = sym e;
    }

datagrams_lack : (fs : List Layer) (ended : Bool) (piece n : ℕ) (read ms : List (List ℕ)) (k : ℕ) → length ms < n → AreFramers fs → AreGivenSoFar fs read (map message ms) None k →
    IsLacking (decoding_of false fs) piece n read ended (datagrams None k) ms
datagrams_lack fs ended piece n read ms k less w h =
    record {
      unread = [];
      fewer = ap (hears_datagrams (whole_in fs 0) n) (h.split ∙ append-nil h.before) ∙ datagrams_need fs h.before ms n w h.given_out less;
      most = refl;
    }

-- the decoding by another name of the stack's kind
pub lacking : (stream : Bool) (fs : List Layer) (ended : Bool) (piece n : ℕ) (read ms : List (List ℕ)) (u v : Unread) → AreFramers fs → length ms < 2 ^ 64 → length ms < n → Fits stream fs piece u → IsGivenOut fs ended u heard.Need v → Represents fs ended u read (map message ms) →
    IsLacking (decoding_of stream fs) piece n read ended v ms
lacking stream fs ended piece n read ms (framed p x k None) v w small less fits g h =
    subst (λ z. IsLacking (decoding_of stream fs) piece n read ended z ms) (sym g.1)
    (subst (λ b. IsLacking (decoding_of b fs) piece n read ended (framed p x k None) ms) (sym fits.0)
    (framed_lacks fs ended piece n read ms p x k less small fits.1 w fits.2 (stream_of fs read ms x k None h) g.0))
lacking stream fs ended piece n read ms (framed p x k (Some b)) v w small less fits g h = absurd (let e = g.0 in cc)
lacking stream fs ended piece n read ms (plain p x given) v w small less fits g h =
    subst (λ z. IsLacking (decoding_of stream fs) piece n read ended z ms) (sym g.2)
    (subst (λ b. IsLacking (decoding_of b fs) piece n read ended (plain p x given) ms) (sym fits.0)
    (subst (λ l. IsLacking (decoding_of true l) piece n read ended (plain p x given) ms) (sym fits.1)
    (plain_lacks ended given piece n read ms p x less fits.2 g.0 g.1 h)))
lacking stream fs ended piece n read ms (datagrams None k) v w small less fits g h =
    subst (λ z. IsLacking (decoding_of stream fs) piece n read ended z ms) (sym g.1)
    (subst (λ b. IsLacking (decoding_of b fs) piece n read ended (datagrams None k) ms) (sym fits)
    (datagrams_lack fs ended piece n read ms k less w h))
lacking stream fs ended piece n read ms (datagrams (Some x) k) v w small less fits g h = absurd g

-- Where something is bad, fewer messages than are needed were heard before it.
pub record IsBroken (d : Decoding) (n : ℕ) (read : List (List ℕ)) (ended : Bool) (b : BadAt) (ms : List (List ℕ)) : Type 0 where
  pub hearing : d.hearing n read ended ≡ breaks ms b.layer b.place
  pub told : b.message ≡ length ms

framed_breaks : (fs : List Layer) (ended : Bool) (n : ℕ) (read ms : List (List ℕ)) (x : List ℕ) (k : ℕ) (b : BadAt) → length ms < n → length ms < 2 ^ 64 → 0 < length fs → AreFramers fs → IsStreamOf fs read ms x k → IsEnding fs k x (fails b.layer b.place) → b.message ≡ k →
    IsBroken (decoding_of true fs) n read ended b ms
framed_breaks [] ended n read ms x k b less small some w h i t = absurd (omega (arith, some))
framed_breaks (f ∷ fs) ended n read ms x k b less small some w h i t =
    record {
      hearing = hears_bad (f ∷ fs) (concat read) ms x n b.layer b.place some w small h.begun less (subst (λ v. IsEnding (f ∷ fs) v x (fails b.layer b.place)) h.count i);
      told = t ∙ h.count;
    }

plain_breaks : (ended given : Bool) (n : ℕ) (read ms : List (List ℕ)) (x : List ℕ) (b : BadAt) → length ms < n → 4194304 < length x → b ≡ too_long → IsWholeSoFar ended (concat read) (map message ms) x given →
    IsBroken (decoding_of true []) n read ended b ms
plain_breaks ended false n read ms x b less many is h =
    let none : ms ≡ [] = no_messages ms h.0 in
    let big : 4194304 < length (concat read) = subst (λ v. 4194304 < length v) h.1 many in
    subst (λ v. IsBroken (decoding_of true []) n read ended v ms) (sym is)
    (record {
      hearing = many_break n (concat read) ended (omega (arith, less)) big ∙ ap (λ v. breaks v 0 4194304) (sym none);
      told = ap (λ l. length l) (sym none);
    })
plain_breaks ended true n read ms x b less many is h = absurd (let none : length x ≡ 0 = ap (λ l. length l) h.3 in omega (arith, none, many))

datagram_breaks : (fs : List Layer) (ended : Bool) (n : ℕ) (read ms : List (List ℕ)) (x : List ℕ) (k : ℕ) (v : Unread) (b : BadAt) → length ms < n → AreFramers fs → IsGivenOut fs ended (datagrams (Some x) k) (heard.Bad b) v → AreGivenSoFar fs read (map message ms) (Some x) k →
    IsBroken (decoding_of false fs) n read ended b ms
datagram_breaks fs ended n read ms x k v b less w g h =
    record {
      hearing = ap (hears_datagrams (whole_in fs 0) n) h.split ∙ datagrams_bad fs h.before ms n x [] b.layer b.place w h.given_out less g.0;
      told = g.1 ∙ (h.counted ∙ length-map ms message);
    }

pub broken : (stream : Bool) (fs : List Layer) (ended : Bool) (piece n : ℕ) (read ms : List (List ℕ)) (u v : Unread) (b : BadAt) → AreFramers fs → length ms < 2 ^ 64 → length ms < n → Fits stream fs piece u → IsGivenOut fs ended u (heard.Bad b) v → Represents fs ended u read (map message ms) →
    IsBroken (decoding_of stream fs) n read ended b ms
broken stream fs ended piece n read ms (framed p x k None) v b w small less fits g h =
    subst (λ q. IsBroken (decoding_of q fs) n read ended b ms) (sym fits.0)
    (framed_breaks fs ended n read ms x k b less small fits.1 w (stream_of fs read ms x k None h) g.0 g.1)
broken stream fs ended piece n read ms (framed p x k (Some a)) v b w small less fits g h =
    let same : a ≡ b = (let e = g.0 in cc) in
    subst (λ z. IsBroken (decoding_of stream fs) n read ended z ms) same
    (subst (λ q. IsBroken (decoding_of q fs) n read ended a ms) (sym fits.0)
    (framed_breaks fs ended n read ms x k a less small fits.1 w (stream_of fs read ms x k (Some a) h) h.broken.0 h.broken.1))
broken stream fs ended piece n read ms (plain p x given) v b w small less fits g h =
    subst (λ q. IsBroken (decoding_of q fs) n read ended b ms) (sym fits.0)
    (subst (λ l. IsBroken (decoding_of true l) n read ended b ms) (sym fits.1) (plain_breaks ended given n read ms x b less g.0 g.1 h))
broken stream fs ended piece n read ms (datagrams None k) v b w small less fits g h = absurd (let e = g.0 in cc)
broken stream fs ended piece n read ms (datagrams (Some x) k) v b w small less fits g h =
    subst (λ q. IsBroken (decoding_of q fs) n read ended b ms) (sym fits) (datagram_breaks fs ended n read ms x k v b less w g h)

-- as many as are needed were given out
framed_enough : (fs : List Layer) (ended : Bool) (n : ℕ) (read ms : List (List ℕ)) (x : List ℕ) (k : ℕ) → n < 2 ^ 64 → 0 < length fs → AreFramers fs → IsStreamOf fs read ms x k → length ms ≡ n → (decoding_of true fs).hearing n read ended ≡ enough ms
framed_enough [] ended n read ms x k small some w h e = absurd (omega (arith, some))
framed_enough (f ∷ fs) ended n read ms x k small some w h e = hears_all (f ∷ fs) (concat read) ms x n some w (omega (arith, small, e)) h.begun e

plain_enough : (ended given : Bool) (n : ℕ) (read ms : List (List ℕ)) (x : List ℕ) → IsWholeSoFar ended (concat read) (map message ms) x given → length ms ≡ n → (decoding_of true []).hearing n read ended ≡ enough ms
plain_enough ended false n read ms x h e =
    let none : ms ≡ [] = no_messages ms h.0 in
    none_enough n (concat read) ended (sym e ∙ ap (λ l. length l) none) ∙ ap enough (sym none)
plain_enough ended true n read ms x h e =
    let one : ms ≡ concat read ∷ [] = one_message ms (concat read) h.2 in
    ap (λ v. hears_one n (concat read) v) h.0 ∙ (one_enough n (concat read) (sym e ∙ ap (λ l. length l) one) h.1 ∙ ap enough (sym one))

all_of : (ms : List (List ℕ)) (n : ℕ) → n ≡ length ms → take n ms ≡ ms
all_of ms n e = ap (λ v. take v ms) e ∙ take-length ms

pub all_given : (stream : Bool) (fs : List Layer) (ended : Bool) (piece n : ℕ) (read ms : List (List ℕ)) (u : Unread) → AreFramers fs → n < 2 ^ 64 → Fits stream fs piece u → Represents fs ended u read (map message ms) → length ms ≡ n →
    (decoding_of stream fs).hearing n read ended ≡ enough ms
all_given stream fs ended piece n read ms (framed p x k bad) w small fits h e =
    subst (λ q. (decoding_of q fs).hearing n read ended ≡ enough ms) (sym fits.0) (framed_enough fs ended n read ms x k small fits.1 w (stream_of fs read ms x k bad h) e)
all_given stream fs ended piece n read ms (plain p x given) w small fits h e =
    subst (λ q. (decoding_of q fs).hearing n read ended ≡ enough ms) (sym fits.0)
    (subst (λ l. (decoding_of true l).hearing n read ended ≡ enough ms) (sym fits.1) (plain_enough ended given n read ms x h e))
all_given stream fs ended piece n read ms (datagrams held k) w small fits h e =
    subst (λ q. (decoding_of q fs).hearing n read ended ≡ enough ms) (sym fits)
    (ap (hears_datagrams (whole_in fs 0) n) h.split ∙ (datagrams_enough fs h.before _ ms n w h.given_out (omega (arith, e)) ∙ ap enough (all_of ms n (sym e))))

-- of nothing nothing is heard
framed_nothing : (fs : List Layer) (n : ℕ) (ended : Bool) → 0 < length fs → AreFramers fs → messages_of ((decoding_of true fs).hearing n [] ended) ≡ []
framed_nothing [] n ended some w = absurd (omega (arith, some))
framed_nothing (f ∷ fs) zero ended some w = refl
framed_nothing (f ∷ fs) (suc n) ended some w =
    ap messages_of (hears_need (f ∷ fs) [] [] [] (suc n) some w (omega arith) (begun_none (f ∷ fs) 0 []) (omega arith) (none_needs (f ∷ fs) some w 0 (omega arith)))

plain_nothing : (n : ℕ) → messages_of (hears_one n [] false) ≡ []
plain_nothing zero = refl
plain_nothing (suc n) = ap messages_of (few_lack (suc n) [] (omega arith) (omega arith))

datagrams_nothing : (fs : List Layer) (n : ℕ) → messages_of (hears_datagrams (whole_in fs 0) n []) ≡ []
datagrams_nothing fs zero = refl
datagrams_nothing fs (suc n) = refl

pub nothing_heard : (stream : Bool) (fs : List Layer) (n : ℕ) → AreFramers fs → messages_of ((decoding_of stream fs).hearing n [] false) ≡ []
nothing_heard true [] n w = plain_nothing n
nothing_heard true (f ∷ fs) n w = framed_nothing (f ∷ fs) n false (omega arith) w
nothing_heard false fs n w = datagrams_nothing fs n

-- what is kept goes on fitting
pub fits_given : (stream : Bool) (fs ls : List Layer) (ended : Bool) (piece : ℕ) (u v : Unread) (answer : Heard) → IsGivenOut ls ended u answer v → Fits stream fs piece u → Fits stream fs piece v
fits_given stream fs ls ended piece (framed p x k None) v (heard.Message m) g h = subst (Fits stream fs piece) (sym g.1.2) h
fits_given stream fs ls ended piece (framed p x k None) v heard.Need g h = subst (Fits stream fs piece) (sym g.1) h
fits_given stream fs ls ended piece (framed p x k None) v (heard.Bad b) g h = subst (Fits stream fs piece) (sym g.2) h
fits_given stream fs ls ended piece (framed p x k None) v heard.NoMemory g h = subst (Fits stream fs piece) (sym g) h
fits_given stream fs ls ended piece (framed p x k (Some b)) v answer g h = subst (Fits stream fs piece) (sym g.1) h
fits_given stream fs ls ended piece (plain p x given) v (heard.Message m) g h = subst (Fits stream fs piece) (sym g.4) h
fits_given stream fs ls ended piece (plain p x given) v heard.Need g h = subst (Fits stream fs piece) (sym g.2) h
fits_given stream fs ls ended piece (plain p x given) v (heard.Bad b) g h = subst (Fits stream fs piece) (sym g.2) h
fits_given stream fs ls ended piece (plain p x given) v heard.NoMemory g h = absurd g
fits_given stream fs ls ended piece (datagrams None k) v answer g h = subst (Fits stream fs piece) (sym g.1) h
fits_given stream fs ls ended piece (datagrams (Some x) k) v (heard.Message m) g h = subst (Fits stream fs piece) (sym g.2) h
fits_given stream fs ls ended piece (datagrams (Some x) k) v heard.Need g h = absurd g
fits_given stream fs ls ended piece (datagrams (Some x) k) v (heard.Bad b) g h = subst (Fits stream fs piece) (sym g.2) h
fits_given stream fs ls ended piece (datagrams (Some x) k) v heard.NoMemory g h = subst (Fits stream fs piece) (sym g) h

pub fits_more : (stream : Bool) (fs : List Layer) (piece : ℕ) (u : Unread) (came : List ℕ) → Fits stream fs piece u → Fits stream fs piece (with_bytes came u)
fits_more stream fs piece (framed p x k bad) came h = h
fits_more stream fs piece (plain p x given) came h = h
fits_more stream fs piece (datagrams held k) came h = h

fits_layers : (fs : List Layer) (piece : ℕ) → Fits true fs piece (first_of_stream piece (length fs))
fits_layers [] piece = (refl, refl, refl)
fits_layers (f ∷ fs) piece = (refl, omega arith, refl)

pub fits_first : (stack : Stack) (fs : List Layer) (piece : ℕ) (u : Unread) → u ≡ first_unread stack piece (length fs) → Fits (is_stream stack) fs piece u
fits_first stack fs piece u e = subst (Fits (is_stream stack) fs piece) (sym e) (by_kind (is_stream stack))
  where
    by_kind : (b : Bool) → Fits b fs piece (if b then first_of_stream piece (length fs) else datagrams None 0)
    by_kind true = fits_layers fs piece
    by_kind false = refl

pub count_first : (stack : Stack) (n piece : ℕ) (u : Unread) → u ≡ first_unread stack piece n → count_given u ≡ 0
count_first stack n piece u e = ap count_given e ∙ by_kind (is_stream stack) n
  where
    by_layers : (n : ℕ) → count_given (first_of_stream piece n) ≡ 0
    by_layers zero = refl
    by_layers (suc n) = refl

    by_kind : (b : Bool) (n : ℕ) → count_given (if b then first_of_stream piece n else datagrams None 0) ≡ 0
    by_kind true n = by_layers n
    by_kind false n = refl

-- more or less was read
joined : (read : List (List ℕ)) (came : List ℕ) → concat (with_piece true came read) ≡ concat (read ++ came ∷ [])
joined read came = append-nil (concat read ++ came) ∙ sym (concat-append read (came ∷ []) ∙ ap (λ v. concat read ++ v) (append-nil came))

pub read_more : (fs : List Layer) (u : Unread) (came : List ℕ) (read : List (List ℕ)) (given : List Given) → IsWanting u → Represents fs false u read given → Represents fs false (with_bytes came u) (read ++ came ∷ []) given
read_more fs (framed p x k bad) came read given w h = subst (λ z. IsHeardSoFar fs z given (x ++ came) k bad) (joined read came) (taken_in fs false (framed p x k bad) came read given w refl h)
read_more fs (plain p x one) came read given w h = subst (λ z. IsWholeSoFar false z given (x ++ came) one) (joined read came) (taken_in fs false (plain p x one) came read given w refl h)
read_more fs (datagrams held k) came read given w h = taken_in fs false (datagrams held k) came read given w refl h

pub read_ended : (fs : List Layer) (u : Unread) (read : List (List ℕ)) (given : List Given) → Represents fs false u read given → Represents fs true u read given
read_ended fs (framed p x k bad) read given h = h
read_ended fs (plain p x false) read given h = h
read_ended fs (plain p x true) read given h = (refl, h.1, h.2, h.3)
read_ended fs (datagrams held k) read given h = h

-- less is to come
pub fewer_lack : (u : Unread) (came : List ℕ) → IsWanting u → 1 ≤ length came → lacks_bytes (with_bytes came u) < lacks_bytes u
fewer_lack (framed p x k bad) came w some = (let size = length-append x came in let few = w.1 in omega arith)
fewer_lack (plain p x given) came w some = (let size = length-append x came in omega arith)
fewer_lack (datagrams None k) came w some = omega arith
fewer_lack (datagrams (Some y) k) came w some = cc

pub same_count : (u : Unread) (came : List ℕ) → count_given (with_bytes came u) ≡ count_given u
same_count (framed p x k bad) came = refl
same_count (plain p x given) came = refl
same_count (datagrams held k) came = refl

pub lacks_few : (u : Unread) → lacks_bytes u ≤ 4194305
lacks_few (framed p x k bad) = omega arith
lacks_few (plain p x given) = omega arith
lacks_few (datagrams None k) = omega arith
lacks_few (datagrams (Some x) k) = omega arith

-- a message is one more; and where more has to come, all stays
pub one_counted : (fs : List Layer) (ended : Bool) (u v : Unread) (m : List ℕ) → IsGivenOut fs ended u (heard.Message m) v → count_given v ≡ count_given u + 1
one_counted fs ended (framed p x k None) v m g = ap count_given g.1.2
one_counted fs ended (framed p x k (Some b)) v m g = absurd (let e = g.0 in cc)
one_counted fs ended (plain p x false) v m g = ap count_given g.4
one_counted fs ended (plain p x true) v m g = absurd (let e = g.2 in cc)
one_counted fs ended (datagrams None k) v m g = absurd (let e = g.0 in cc)
one_counted fs ended (datagrams (Some x) k) v m g = ap count_given g.2

pub need_same : (fs : List Layer) (ended : Bool) (u v : Unread) → IsGivenOut fs ended u heard.Need v → v ≡ u
need_same fs ended (framed p x k None) v g = g.1
need_same fs ended (framed p x k (Some b)) v g = absurd (let e = g.0 in cc)
need_same fs ended (plain p x given) v g = g.2
need_same fs ended (datagrams None k) v g = g.1
need_same fs ended (datagrams (Some x) k) v g = absurd g
