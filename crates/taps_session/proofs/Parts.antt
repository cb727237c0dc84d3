-- The items of a race and those behind it, as parts of a list that stands oldest first.
use Rattle.std.proofs.Common.{◌≡◌, ℕ, List, Option, ◌++◌, length, take, drop, refl, ap, sym, ◌∙◌}
use Rattle.std.specs.Prelude.{reverse}
use Rattle.std.proofs.lemmas.List.{reverse-reverse, reverse-append, length-reverse}
use Rattle.std.proofs.Math.Seq.{take-append_seam, drop-append_seam}
use Rattle.taps_socket.specs.declared.item.Item.{Item}
use Rattle.taps_socket.specs.declared.race_answer.RaceAnswer.{RaceAnswer}
use Rattle.taps_text.specs.MemberLines.{MemberLog}
use Rattle.taps_text.specs.declared.outcome.Outcome as lines
use Rattle.taps_session.specs.Session.{parted}

seam : (front back : List Item) (n : ℕ) → n ≡ length front → (take n (front ++ back) ≡ front) × (drop n (front ++ back) ≡ back)
seam front back n e = rw e (take-append_seam front back, drop-append_seam front back)

-- the front of the items is the race, and the rest is behind it
pub parts : (items race after : List Item) (raced : ℕ) (answer : Option RaceAnswer) (members : List MemberLog) (o : lines.Outcome) → reverse items ≡ after ++ race → raced ≡ length race
    → parted items raced answer members o ≡ record { before = race; answer = answer; after = after; members = members; outcome = o }
parts items race after raced answer members o e count =
    let whole : items ≡ reverse race ++ reverse after = sym (reverse-reverse items) ∙ (ap reverse e ∙ reverse-append after race) in
    let both = seam (reverse race) (reverse after) raced (count ∙ sym (length-reverse race)) in
    let front : reverse (take raced items) ≡ race = ap (λ v. reverse (take raced v)) whole ∙ (ap reverse both.0 ∙ reverse-reverse race) in
    let back : reverse (drop raced items) ≡ after = ap (λ v. reverse (drop raced v)) whole ∙ (ap reverse both.1 ∙ reverse-reverse after) in
    rw (front, back) refl
