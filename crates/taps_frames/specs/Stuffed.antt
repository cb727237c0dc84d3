-- The body with two of the bytes spelled by two each, and an end byte (the byte values of RFC 1055: 192 ends a
-- frame, 219 escapes, 220 behind it is 192 and 221 is 219).
use Rattle.std.specs.Prelude.{◌≡◌, ℕ, ◌+◌, ◌≤◌, ◌⊎◌, Bool, true, false, not, ◌||◌, ◌==◌, cond, List, [], ◌∷◌, ◌++◌, length, take, codes}
use Rattle.std.specs.List.{flat_map, list_all}
use Rattle.taps_framer.specs.declared.scan.Scan.{Scan}
use Rattle.taps_framer.specs.Prefixes.{are_bytes}
use Rattle.taps_framer.specs.Layers.{Layer}
use Rattle.taps_frames.specs.Bodies.{is_body}

-- how a byte is spelled
unfoldable pub spelled : ℕ → List ℕ
spelled c = cond (c == 192) (219 ∷ 220 ∷ []) (cond (c == 219) (219 ∷ 221 ∷ []) (c ∷ []))

-- the spelling of a body
abbrev pub stuff : List ℕ → List ℕ
stuff b = flat_map spelled b

-- the bytes that are spelled before the end byte; a lone escape byte is taken as the first half of the end byte
unfoldable pub plain_from : Bool → List ℕ → List ℕ
plain_from true [] = 192 ∷ []
plain_from true (c ∷ x) = cond (c == 221) 219 192 ∷ plain_from false x
plain_from false [] = []
plain_from false (c ∷ x) = cond (c == 192) [] (cond (c == 219) (plain_from true x) (c ∷ plain_from false x))

-- the body whose spelling the bytes begin with
abbrev pub plain : List ℕ → List ℕ
plain x = plain_from false x

-- the framer's meaning
abbrev pub stuffed : Layer
stuffed = record {
  name = codes "stuffed";
  speaks = is_body 0 65535;
  frame = λ _ b. stuff b ++ 192 ∷ [];
  front = λ _ x. plain x;
  completion = λ _ x. plain x;
}

-- the byte is spelled by two
abbrev pub is_special : ℕ → Bool
is_special c = c == 192 || c == 219

-- none of the bytes is
abbrev pub are_plain : List ℕ → Bool
are_plain b = list_all (λ c. not (is_special c)) b

-- the spelling of a body, and an escape byte where the next byte is begun
abbrev pub part_of : Bool → List ℕ → List ℕ
part_of true b = stuff b ++ 219 ∷ []
part_of false b = stuff b

-- how many bytes are begun where so many are spelled
abbrev pub begun_size : Bool → ℕ → ℕ
begun_size true n = n + 1
begun_size false n = n

-- the bytes are the beginning of a frame before its end byte, with n bytes of the body begun
pub record IsPart (x : List ℕ) (half : Bool) (n : ℕ) : Type 0 where
  pub body : List ℕ
  pub begun : x ≡ part_of half body
  pub size : n ≡ begun_size half (length body)
  pub bytes : are_bytes body ≡ true

-- what a scan represents: `length` bytes of the body are begun, and in the phase 1 an escape byte came last
abbrev pub stuffed_scan : ℕ → Scan → List ℕ → Type 0
stuffed_scan i scan x =
    (scan.length ≤ 65535) × (((scan.phase ≡ 0) × IsPart x false scan.length)
    ⊎ ((scan.phase ≡ 1) × IsPart x true scan.length))

-- so many of the next bytes are spelled by themselves and fit into the body, and none follows an escape byte
pub record IsPlainRun (scan : Scan) (next : List ℕ) (n : ℕ) : Type 0 where
  pub within : n ≤ length next
  pub plain : are_plain (take n next) ≡ true
  pub room : scan.length + n ≤ 65535
  pub none_escaped : scan.phase ≡ 1 → n ≡ 0
