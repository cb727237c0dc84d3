-- A body without a line's end, and the end (this project's own).
use Rattle.std.specs.Prelude.{◌≡◌, ℕ, ◌≤◌, Bool, true, not, ◌&&◌, ◌==◌, List, [], ◌∷◌, ◌++◌, length, codes}
use Rattle.std.specs.List.{list_all, take_while}
use Rattle.taps_framer.specs.declared.scan.Scan.{Scan}
use Rattle.taps_framer.specs.Prefixes.{are_bytes}
use Rattle.taps_framer.specs.Layers.{Layer}
use Rattle.taps_frames.specs.Bodies.{is_body}

-- any byte but the line's end
abbrev pub is_inner : ℕ → Bool
is_inner c = not (c == 10)

-- no byte is an end
abbrev pub is_one_line : List ℕ → Bool
is_one_line b = list_all is_inner b

-- the bytes before the first end
unfoldable pub before_end : List ℕ → List ℕ
before_end x = take_while is_inner x

-- the framer's meaning
abbrev pub line : Layer
line = record {
  name = codes "line";
  speaks = λ b. is_body 0 65535 b && is_one_line b;
  frame = λ _ b. b ++ 10 ∷ [];
  front = λ _ x. before_end x;
  completion = λ _ x. before_end x;
}

-- so many bytes of a line came, at most as many as a body has, and none of them ends it
pub record IsLinePart (x : List ℕ) (n : ℕ) : Type 0 where
  pub counted : length x ≡ n
  pub small : n ≤ 65535
  pub one : is_one_line x ≡ true
  pub bytes : are_bytes x ≡ true

-- what a scan of a line represents
abbrev pub line_scan : ℕ → Scan → List ℕ → Type 0
line_scan i scan x = IsLinePart x scan.length
