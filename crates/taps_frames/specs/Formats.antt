-- Frames of a head that tells how long the body is, the body, and a tail (this project's own).
use Rattle.std.specs.Prelude.{◌≡◌, ℕ, ◌+◌, ◌<◌, ◌≤◌, List, ◌++◌, length, take, drop}
use Rattle.taps_framer.specs.Layers.{Layer}
use Rattle.taps_frames.specs.Bodies.{is_body, pad}

-- The lengths of bodies go from `least` to `most`. At an index each length has a head; bytes tell the
-- least length whose head begins with them, as far as they go, and how wide that head is.
pub record Format : Type 0 where
  pub name : List ℕ
  pub least : ℕ
  pub most : ℕ
  pub head : ℕ → ℕ → List ℕ
  pub told : ℕ → List ℕ → ℕ
  pub width : ℕ → List ℕ → ℕ
  pub tail : List ℕ

-- the layer of a format
abbrev pub headed : Format → Layer
headed f = record {
  name = f.name;
  speaks = is_body f.least f.most;
  frame = λ i b. f.head i (length b) ++ (b ++ f.tail);
  front = λ i x. take (f.told i x) (drop (f.width i x) x);
  completion = λ i x. pad (f.told i x) (drop (f.width i x) x);
}

-- the number is the length of a body
pub record IsLength (f : Format) (n : ℕ) : Type 0 where
  pub from : f.least ≤ n
  pub to : n ≤ f.most

-- the bytes begin a head, and are less than the whole of it
pub record IsBegun (f : Format) (i : ℕ) (x : List ℕ) : Type 0 where
  pub is_length : IsLength f (f.told i x)
  pub more : List ℕ
  pub goes_on : f.head i (f.told i x) ≡ x ++ more
  pub some : 0 < length more
  pub short : length x ≤ f.width i x

-- no head and the bytes begin one list
abbrev pub HasNoHead : Format → ℕ → List ℕ → Type 0
HasNoHead f i x = (n : ℕ) (y z : List ℕ) → IsLength f n → x ++ y ≡ f.head i n ++ z → ⊥

-- the heads of a format, behind bytes that the index tells
abbrev pub prefixed : List ℕ → (ℕ → List ℕ) → Format → Format
prefixed name prefix f = record {
  name = name;
  least = f.least;
  most = f.most;
  head = λ i n. prefix i ++ f.head i n;
  told = λ i x. f.told i (drop (length (prefix i)) x);
  width = λ i x. length (prefix i) + f.width i (drop (length (prefix i)) x);
  tail = f.tail;
}
