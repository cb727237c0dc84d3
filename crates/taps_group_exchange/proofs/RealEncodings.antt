-- How the encodings of connections are: behind a sent message none has no bytes, and one with none ends its stream.
use Rattle.std.proofs.Common.{◌≡◌, ℕ, ◌<◌, ◌≤◌, ◌^◌, Bool, true, false, ◌&&◌, if◌then◌else◌, List, [], ◌∷◌, length, Option, Some, None, refl, sym, ap, ◌∙◌, arith}
use Rattle.std.specs.Prelude.{nat_le}
use Rattle.std.proofs.lemmas.Bool.Decides.{nat_tests}
use Rattle.taps_framer.specs.Layers.{Layer}
use Rattle.taps_chain.specs.ChainLaws.{AreFramers}
use Rattle.taps_chain.specs.Chained.{chained, chain_refusal, refusal_below}
use Rattle.taps_connection.specs.Encodings.{Encoding, encoding_of, or_carrier, carrier_refusal}
use Rattle.taps_group_exchange.proofs.OneMessage.{HasBytesAt}

-- a message with no bytes ends its stream
abbrev pub EndsEmptyAt : Encoding → ℕ → Type 0
EndsEmptyAt e n = (body : List ℕ) (final : Bool) → e.refusal n body ≡ None → e.bytes n body ≡ [] → e.ends final ≡ true

none_of : (a b : Option ℕ) → or_carrier a b ≡ None → a ≡ None
none_of (Some layer) b h = cc
none_of None b h = refl

carrier_of : (a b : Option ℕ) → or_carrier a b ≡ None → b ≡ None
carrier_of (Some layer) b h = cc
carrier_of None b h = h

spoken : (q : Bool) (o : Option ℕ) → refusal_below q o ≡ None → q ≡ true
spoken true o h = refl
spoken false (Some l) h = cc
spoken false None h = cc

some_in : (a b : Bool) → (if a && b then None else Some 0) ≡ (let none : Option ℕ = None in none) → a ≡ true
some_in true b h = refl
some_in false b h = cc

datagram_bytes : (n : ℕ) (b : Bool) → (if nat_le 1 n && b then None else Some 0) ≡ (let none : Option ℕ = None in none) → 0 < n
datagram_bytes n b h = (let t = some_in (nat_le 1 n) b h in grind (arith, nat_tests))

layer_bytes : (f : Layer) (fs : List Layer) (k : ℕ) (body : List ℕ) → k < 2 ^ 64 → AreFramers (f ∷ fs) → chain_refusal (f ∷ fs) k body ≡ None → 0 < length (chained (f ∷ fs) k body)
layer_bytes f fs k body small framers h = (let some = (framers.0.at k small).some (chained fs k body) (spoken (f.speaks (chained fs k body)) (chain_refusal fs k body) h) in omega (arith, some))

pub has_bytes : (stream : Bool) (fs : List Layer) (n : ℕ) → 1 ≤ n → n < 2 ^ 64 → AreFramers fs → HasBytesAt (encoding_of stream fs) n
has_bytes true [] n one small framers body h = absurd (let c = carrier_of (chain_refusal [] n body) (if nat_le 1 n then Some 0 else None) h in let t : nat_le 1 n ≡ true = grind (arith, nat_tests) in let z : Some 0 ≡ (let none : Option ℕ = None in none) = ap (λ (q : Bool). if q then Some 0 else None) (sym t) ∙ c in cc)
has_bytes true (f ∷ fs) n one small framers body h = layer_bytes f fs n body small framers (none_of _ _ h)
has_bytes false fs n one small framers body h = datagram_bytes (length (chained fs 0 body)) (nat_le (length (chained fs 0 body)) 65507) (carrier_of (chain_refusal fs 0 body) (carrier_refusal false fs n (chained fs 0 body)) h)

empty_not : {A : Type 0} (xs : List ℕ) → xs ≡ [] → 0 < length xs → A
empty_not xs e h = absurd (let size : length xs ≡ 0 = ap (λ (l : List ℕ). length l) e in omega (arith, size, h))

pub ends_empty : (stream : Bool) (fs : List Layer) (n : ℕ) → n < 2 ^ 64 → AreFramers fs → EndsEmptyAt (encoding_of stream fs) n
ends_empty true [] n small framers body final h e = refl
ends_empty true (f ∷ fs) n small framers body final h e = empty_not _ e (layer_bytes f fs n body small framers (none_of _ _ h))
ends_empty false fs n small framers body final h e = empty_not _ e (datagram_bytes (length (chained fs 0 body)) (nat_le (length (chained fs 0 body)) 65507) (carrier_of (chain_refusal fs 0 body) (carrier_refusal false fs n (chained fs 0 body)) h))
