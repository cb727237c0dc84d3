-- From a read of a file to what its bytes come to.
use Rattle.std.proofs.Common.{◌≡◌, ◌<◌, ◌≤◌, ◌+◌, ℕ, List, Option, Some, None, Result, Err, IsSomeAnd, slice_get, option_map, refl, ◌∙◌, length, replicate, arith}
use Rattle.std.proofs.lemmas.Bool.{lt-leb, le-leb}
use Rattle.std.proofs.lemmas.List.{length-replicate}
use Rattle.taps_base.specs.Files.{Contents, IsContent, IsLonger}
use Rattle.taps_text.specs.declared.refusal.Refusal.{Refusal}
use Rattle.taps_text.specs.declared.refusal.Refusal.TheVariants as refusal
use Rattle.taps_command.specs.Meanings.{Meaning, Reading, judge}
use Rattle.taps_command.specs.Runs.{Judged}

judges_short : {V : Type 0} (reading : Reading V) (value : V) (bytes : List ℕ) → length bytes ≤ reading.limit → judge reading value bytes ≡ reading.check value bytes
unfolding judge
judges_short reading value bytes h = rw (le-leb (length bytes) reading.limit h) refl

judges_long : {V : Type 0} (reading : Reading V) (value : V) (bytes : List ℕ) → reading.limit < length bytes → judge reading value bytes ≡ Err refusal.TooLong
unfolding judge
judges_long reading value bytes h = rw (lt-leb (length bytes) reading.limit h) refl

-- bytes of any length
long_bytes : (n : ℕ) → (bytes : List ℕ) × (n < length bytes)
long_bytes n =
    let zeros : List ℕ = replicate (n + 1) 0 in
    let long : length zeros ≡ n + 1 = length-replicate (n + 1) 0 in
    let more : n < length zeros = omega arith in
    (zeros, more)

longer : (o : Option (List ℕ)) (max : ℕ) → IsSomeAnd o (λ bytes. max < length bytes) → (bytes : List ℕ) × (o ≡ Some bytes) × (max < length bytes)
longer None max h = absurd h
longer (Some bytes) max h = (bytes, refl, h)

too_many : (contents : Contents) (name : List ℕ) (max : ℕ) → IsLonger contents name max → (bytes : List ℕ) × IsContent contents name bytes × (max < length bytes)
too_many None name max long =
    let (bytes, more) = long_bytes max in
    (bytes, tt, more)
too_many (Some held) name max long = longer (held name) max long

-- the reading with a limit
limited : {V : Type 0} (o : Option (Reading V)) (limit : ℕ) → option_map (λ reading. reading.limit) o ≡ Some limit → (reading : Reading V) × (o ≡ Some reading) × (reading.limit ≡ limit)
limited None limit h = cc
limited (Some reading) limit h = (reading, refl, (let same : Some reading.limit ≡ Some limit = h in cc))

pub judged_of : (m : Meaning) (contents : Contents) (name : List ℕ) (place : ℕ) (value : m.Value) (limit : ℕ) (bytes : List ℕ) (outcome : Result m.Value Refusal)
    → option_map (λ (reading : Reading m.Value). reading.limit) (slice_get m.readings place) ≡ Some limit → IsContent contents name bytes → length bytes ≤ limit
    → ((reading : Reading m.Value) → slice_get m.readings place ≡ Some reading → reading.check value bytes ≡ outcome)
    → Judged m contents name place value outcome
judged_of m contents name place value limit bytes outcome limits content few checks =
    let (reading, there, same) = limited (slice_get m.readings place) limit limits in
    let short : length bytes ≤ reading.limit = rw same few in
    record { reading = reading; read = there; bytes = bytes; content = content; judged = judges_short reading value bytes short ∙ checks reading there }

pub judged_long : (m : Meaning) (contents : Contents) (name : List ℕ) (place : ℕ) (value : m.Value) (limit : ℕ)
    → option_map (λ (reading : Reading m.Value). reading.limit) (slice_get m.readings place) ≡ Some limit → IsLonger contents name limit
    → Judged m contents name place value (Err refusal.TooLong)
judged_long m contents name place value limit limits long =
    let (reading, there, same) = limited (slice_get m.readings place) limit limits in
    let (bytes, content, more) = too_many contents name limit long in
    let past : reading.limit < length bytes = rw same more in
    record { reading = reading; read = there; bytes = bytes; content = content; judged = judges_long reading value bytes past }
