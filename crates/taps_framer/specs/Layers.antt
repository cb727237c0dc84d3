-- What a framer means (this project's own): which bodies it speaks, how it spells them, and its laws.
use Rattle.std.specs.Prelude.{◌≡◌, ℕ, ◌<◌, ◌≤◌, ◌^◌, Bool, true, ◌&&◌, ◌||◌, List, [], ◌++◌, length}
use Rattle.taps_framer.specs.Prefixes.{is_prefix}

-- its name; the bodies that it speaks; the frame of a body at an index; the body of the frame that
-- bytes begin with, and the body of a frame that begins with the bytes, each where there is one
pub record Layer : Type 0 where
  pub name : List ℕ
  pub speaks : List ℕ → Bool
  pub frame : ℕ → List ℕ → List ℕ
  pub front : ℕ → List ℕ → List ℕ
  pub completion : ℕ → List ℕ → List ℕ

-- the frame that the bytes begin with, if they begin with one
abbrev pub first_frame : Layer → ℕ → List ℕ → List ℕ
first_frame f i x = f.frame i (f.front i x)

-- the bytes begin with a frame
unfoldable pub holds_whole_frame : Layer → ℕ → List ℕ → Bool
holds_whole_frame f i x = f.speaks (f.front i x) && is_prefix (first_frame f i x) x

-- the bytes begin a frame
unfoldable pub is_viable : Layer → ℕ → List ℕ → Bool
is_viable f i x = f.speaks (f.completion i x) && is_prefix x (f.frame i (f.completion i x))

-- the bytes begin with a frame, or begin one
unfoldable pub lives : Layer → ℕ → List ℕ → Bool
lives f i x = holds_whole_frame f i x || is_viable f i x

-- the bytes are one frame, and no more
pub record IsWholeFrame (f : Layer) (i : ℕ) (x : List ℕ) : Type 0 where
  pub spoken : f.speaks (f.front i x) ≡ true
  pub exact : first_frame f i x ≡ x

-- The laws at an index. A frame has from 1 to 4,194,304 bytes. A spoken body is the front of bytes
-- that begin with its frame. Bytes that begin the frame of a spoken body are viable, and so are none.
pub record IsLawful (f : Layer) (i : ℕ) : Type 0 where
  pub some : (b : List ℕ) → f.speaks b ≡ true → 1 ≤ length (f.frame i b)
  pub bounded : (b : List ℕ) → f.speaks b ≡ true → length (f.frame i b) ≤ 4194304
  pub fronts : (b y : List ℕ) → f.speaks b ≡ true → f.front i (f.frame i b ++ y) ≡ b
  pub completes : (b x y : List ℕ) → f.speaks b ≡ true → f.frame i b ≡ x ++ y → is_viable f i x ≡ true
  pub begins : is_viable f i [] ≡ true

-- the laws at every index
pub record IsFramer (f : Layer) : Type 0 where
  pub at : (i : ℕ) → i < 2 ^ 64 → IsLawful f i
