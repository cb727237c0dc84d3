-- The lines of one message more.
use Rattle.std.proofs.Common.{◌≡◌, ℕ, ◌+◌, List, [], ◌∷◌, ◌++◌, length, append_assoc, ap, sym, ◌∙◌, arith}
use Rattle.std.proofs.lemmas.List.{append-nil}
use Rattle.taps_text.specs.BodyLines.{message_line}
use Rattle.taps_frame_text.specs.UnframeLines.{message_lines}

lines_more : (number : ℕ) (ms : List (List ℕ)) (m : List ℕ) → message_lines number (ms ++ m ∷ []) ≡ message_lines number ms ++ message_line (number + length ms) m
lines_more number [] m =
    let count : number ≡ number + 0 = omega arith in
    append-nil (message_line number m) ∙ ap (λ (v : ℕ). message_line v m) count
lines_more number (a ∷ ms) m =
    let next : number + 1 + length ms ≡ number + length (a ∷ ms) = omega arith in
    let more : message_lines (number + 1) (ms ++ m ∷ []) ≡ message_lines (number + 1) ms ++ message_line (number + 1 + length ms) m = lines_more (number + 1) ms m in
    ap (λ (v : List ℕ). message_line number a ++ v) (more ∙ ap (λ (v : ℕ). message_lines (number + 1) ms ++ message_line v m) next)
    ∙ sym (append_assoc (message_line number a) (message_lines (number + 1) ms) (message_line (number + length (a ∷ ms)) m))

-- the line of the next message was appended to those of the messages before it
pub one_more : (before after : List ℕ) (number : ℕ) (bytes m : List ℕ) → bytes ≡ m → after ≡ before ++ message_line number bytes → (ms : List (List ℕ)) → before ≡ message_lines 0 ms → length ms ≡ number → after ≡ message_lines 0 (ms ++ m ∷ [])
one_more before after number bytes m e a ms b l =
    let count : number ≡ 0 + length ms = omega arith in
    a ∙ ap (λ (v : List ℕ). v ++ message_line number bytes) b ∙ ap (λ (v : List ℕ). message_lines 0 ms ++ message_line number v) e
    ∙ ap (λ (v : ℕ). message_lines 0 ms ++ message_line v m) count ∙ sym (lines_more 0 ms m)
