-- The packets of a transport stream: a mark byte, and 187 bytes (ISO/IEC 13818-1 section 2.4.3).
use Rattle.std.specs.Prelude.{◌≡◌, ℕ, ◌-◌, ◌<◌, Bool, true, ◌==◌, List, [], ◌∷◌, ◌++◌, length, take, drop, replicate, codes}
use Rattle.taps_framer.specs.Layers.{Layer}
use Rattle.taps_framer.specs.declared.scan.Scan.{Scan}

-- the bytes of a body that came, and zeros for those that did not
abbrev pub filled : List ℕ → List ℕ
filled b = b ++ replicate (187 - length b) 0

-- the framer's meaning
abbrev pub packet : Layer
packet = record {
  name = codes "packet";
  speaks = λ b. length b == 187;
  frame = λ i b. 71 ∷ b;
  front = λ i x. take 187 (drop 1 x);
  completion = λ i x. filled (drop 1 x);
}

-- the first byte, if there is one, is the mark
abbrev pub is_marked : List ℕ → Bool
is_marked [] = true
is_marked (a ∷ x) = a == 71

-- so many bytes of a packet came, the first of them the mark, and at least one is missing
pub record IsPacketPart (x : List ℕ) (n : ℕ) : Type 0 where
  pub counted : length x ≡ n
  pub small : n < 188
  pub marked : is_marked x ≡ true

-- what a scan of a packet represents
abbrev pub packet_scans : ℕ → Scan → List ℕ → Type 0
packet_scans i scan x = IsPacketPart x scan.length
