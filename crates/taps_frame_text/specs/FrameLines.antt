-- The lines of bodies that go through a chain (local).
use Rattle.std.specs.Prelude.{ℕ, ◌+◌, Bool, true, ◌&&◌, List, [], ◌∷◌, ◌++◌, Option, Some, None}
use Rattle.std.specs.Option.{is_none}
use Rattle.taps_framer.specs.Layers.{Layer}
use Rattle.taps_chain.specs.Chained.{chained, chain_refusal}
use Rattle.taps_text.specs.BodyLines.{frame_line}
use Rattle.taps_text.specs.OutcomeLines.{outcome_line}
use Rattle.taps_text.specs.declared.outcome.Outcome.TheVariants.{NotSpeakable}

-- the line of a body: its frame, or which layer cannot encode it
abbrev pub framed_line : Option ℕ → ℕ → List ℕ → List ℕ
framed_line None k bytes = frame_line bytes
framed_line (Some l) k bytes = outcome_line (NotSpeakable 0 k l)

-- the lines that follow that of a body: none where it was refused
abbrev pub lines_after : Option ℕ → List ℕ → List ℕ
lines_after None lines = lines
lines_after (Some l) lines = []

-- the lines of bodies, numbered from an index on, up to the first one that is refused
abbrev pub frame_lines : List Layer → ℕ → List (List ℕ) → List ℕ
frame_lines fs k [] = []
frame_lines fs k (m ∷ ms) =
    framed_line (chain_refusal fs k m) k (chained fs k m)
    ++ lines_after (chain_refusal fs k m) (frame_lines fs (k + 1) ms)

-- whether none of the bodies is refused
abbrev pub are_all_spoken : List Layer → ℕ → List (List ℕ) → Bool
are_all_spoken fs k [] = true
are_all_spoken fs k (m ∷ ms) = is_none (chain_refusal fs k m) && are_all_spoken fs (k + 1) ms
