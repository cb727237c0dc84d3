-- Pieces of bytes: cut, joined, and read in part.
use Rattle.std.proofs.Common.{◌≡◌, ℕ, zero, suc, ◌+◌, ◌-◌, ◌<◌, ◌≤◌, ◌^◌, Bool, List, [], ◌∷◌, ◌++◌, length, take, drop, drop-cons, add-one, get_or, Bor, length-drop, append-nil, append_assoc, refl, ap, sym, ◌∙◌, subst, arith}
use Rattle.std.specs.Prelude.{true, false, Option, None, Some, option_map}
use Rattle.std.specs.Option.{option_map_or}
use Rattle.std.proofs.lemmas.Bool.{le-leb}
use Rattle.std.specs.List.{concat}
use Rattle.std.proofs.lemmas.List.{take-append-le, drop-append-le, length-take}
use Rattle.taps_script.specs.DataAnswers.{first_piece}
use Rattle.taps_script.specs.Channels.{Channel, cut, total, as_piece, pieces_of, most_read}
use Rattle.taps_script.specs.ScriptTexts.{LinesFit}
use Rattle.taps_script.specs.PeerTimes.{sent_by, arrived}
use Rattle.taps_script.specs.declared.line.PeerLine.TheVariants.{Holds, Echo, Sends, Ends, Fails}
use Rattle.taps_script.specs.declared.line.Line.{Line}
use Rattle.taps_script.specs.declared.line.Line.TheVariants.{Begin, Late, Fault, Leaf, Take, Give, Peer}

take_whole : (xs : List ℕ) → take (length xs) xs ≡ xs
take_whole [] = refl
take_whole (x ∷ xs) = ap (λ v. x ∷ v) (take_whole xs)

none : (xs : List ℕ) → 0 ≡ length xs → xs ≡ []
none [] h = refl
none (x ∷ xs) h = absurd (omega arith)

-- one piece more
pub cut_more : (lengths bytes piece : List ℕ) → total lengths ≡ length bytes → cut (lengths ++ length piece ∷ []) (bytes ++ piece) ≡ cut lengths bytes ++ piece ∷ []
cut_more [] bytes piece h = let e = none bytes h in rw (e, take_whole piece) refl
cut_more (n ∷ lengths) bytes piece h =
    let within : n ≤ length bytes = omega arith in
    let rest : total lengths ≡ length (drop n bytes) = omega (arith, length-drop n bytes) in
    rw (take-append-le n bytes piece within, drop-append-le n bytes piece within) (ap (λ v. take n bytes ∷ v) (cut_more lengths (drop n bytes) piece rest))

pub total_more : (lengths : List ℕ) (n : ℕ) → total (lengths ++ n ∷ []) ≡ total lengths + n
total_more [] n = omega arith
total_more (m ∷ lengths) n = let more = total_more lengths n in omega arith

-- the piece at a place, one piece further on
pub piece_step : (lengths rest after : List ℕ) (i left n : ℕ) → drop i lengths ≡ n ∷ drop (i + 1) lengths → 1 ≤ left → after ≡ drop n rest → total (drop i lengths) ≡ length rest →
    (total (drop (i + 1) lengths) ≡ length after) × (first_piece (drop left (cut (drop i lengths) rest)) ≡ first_piece (drop (left - 1) (cut (drop (i + 1) lengths) after)))
piece_step lengths rest after i zero n front some is sums = absurd (omega arith)
piece_step lengths rest after i (suc left) n front some is sums =
    let all : n + total (drop (i + 1) lengths) ≡ length rest = sym (ap total front) ∙ sums in
    let less : suc left - 1 ≡ left = omega arith in
    let len : length after ≡ length (drop n rest) = ap length is in
    (omega (arith, length-drop n rest), rw (front, is, less) refl)

-- what is skipped and taken of two lists in a row
drop_split : (n : ℕ) (xs ys : List ℕ) → drop n (xs ++ ys) ≡ drop n xs ++ drop (n - length xs) ys
drop_split zero xs ys = let e : 0 - length xs ≡ 0 = omega arith in rw e refl
drop_split (suc n) [] ys = let e : suc n - 0 ≡ suc n = omega arith in rw e refl
drop_split (suc n) (x ∷ xs) ys = let e : suc n - suc (length xs) ≡ n - length xs = omega arith in rw e (drop_split n xs ys)

take_split : (n : ℕ) (xs ys : List ℕ) → take n (xs ++ ys) ≡ take n xs ++ take (n - length (take n xs)) ys
take_split zero xs ys = refl
take_split (suc n) [] ys = let e : suc n - 0 ≡ suc n = omega arith in rw e refl
take_split (suc n) (x ∷ xs) ys = let e : suc n - suc (length (take n xs)) ≡ n - length (take n xs) = omega arith in rw e (ap (λ v. x ∷ v) (take_split n xs ys))

-- bytes were copied of one piece more
pub copied_more : (most filled filled' left left' : ℕ) (out out' piece more whole : List ℕ) → filled ≤ most → left' ≡ left - length piece →
    filled' ≡ filled + length (take (most - filled) (drop left piece)) → take filled' out' ≡ take filled out ++ take (most - filled) (drop left piece) →
    whole ≡ take filled out ++ take (most - filled) (drop left (piece ++ more)) →
    (filled' ≤ most) × (whole ≡ take filled' out' ++ take (most - filled') (drop left' more))
copied_more most filled filled' left left' out out' piece more whole within left_is filled_is copied is =
    let n = most - filled in
    let part = take n (drop left piece) in
    let len = length-take n (drop left piece) in
    let rest : most - filled' ≡ n - length part = omega arith in
    let parts : take n (drop left (piece ++ more)) ≡ part ++ take (n - length part) (drop left' more) =
    ap (take n) (drop_split left piece more) ∙ (take_split n (drop left piece) (drop (left - length piece) more) ∙ (rw left_is refl)) in
    (omega arith, is ∙ (ap (λ v. take filled out ++ v) parts ∙ (sym (append_assoc (take filled out) part _) ∙ (rw (← copied, rest) refl))))

-- what was read of pieces
pub concat_piece : (xs : List ℕ) → concat (as_piece xs) ≡ xs
concat_piece [] = refl
concat_piece (x ∷ xs) = append-nil (x ∷ xs)

-- a channel with one datagram more
pub with_datagram : (v : Channel) (stream : Bool) (done room : ℕ) (last : Option ℕ) (written written' : List (List ℕ)) (read : ℕ) (piece : List ℕ) →
    (let c : Channel = record { stream = stream; done = done; room = room; last_sent = last; written = written; read = read } in c) ≡ v → written' ≡ written ++ piece ∷ [] →
    (let c : Channel = record { stream = stream; done = done; room = room - length piece; last_sent = last; written = written'; read = read } in c) ≡ record v { room = v.room - length piece; written = v.written ++ piece ∷ [] }
with_datagram v stream done room last written written' read piece is more =
    subst (λ v. (let c : Channel = record { stream = stream; done = done; room = room - length piece; last_sent = last; written = written'; read = read } in c) ≡ record v { room = v.room - length piece; written = v.written ++ piece ∷ [] }) is
    (ap (λ w. (let c : Channel = record { stream = stream; done = done; room = room - length piece; last_sent = last; written = w; read = read } in c)) more)

-- what a line sends is the first that is still to come, if it came
pub arrives : (done now delay : ℕ) (bytes : List ℕ) (line : Line) (more : List Line) → sent_by line ≡ Some (delay, bytes) → done + delay ≤ now → arrived done now (line ∷ more) ≡ bytes ∷ arrived done now more
arrives done now delay bytes (Peer (Sends d b)) more is due =
    let same : (d ≡ delay) × (b ≡ bytes) = (ap (λ o. option_map_or (λ p. p.0) o 0) is, ap (λ o. option_map_or (λ p. p.1) o []) is) in
    rw (same.0, le-leb _ _ due, same.1) refl
arrives done now delay bytes (Peer (Holds d)) more is due = let z : None ≡ Some (delay, bytes) = is in absurd cc
arrives done now delay bytes (Peer Echo) more is due = let z : None ≡ Some (delay, bytes) = is in absurd cc
arrives done now delay bytes (Peer (Ends d)) more is due = let z : None ≡ Some (delay, bytes) = is in absurd cc
arrives done now delay bytes (Peer (Fails d cause)) more is due = let z : None ≡ Some (delay, bytes) = is in absurd cc
arrives done now delay bytes (Begin m) more is due = let z : None ≡ Some (delay, bytes) = is in absurd cc
arrives done now delay bytes (Late d) more is due = let z : None ≡ Some (delay, bytes) = is in absurd cc
arrives done now delay bytes (Fault d) more is due = let z : None ≡ Some (delay, bytes) = is in absurd cc
arrives done now delay bytes (Leaf leaf fate) more is due = let z : None ≡ Some (delay, bytes) = is in absurd cc
arrives done now delay bytes (Take n) more is due = let z : None ≡ Some (delay, bytes) = is in absurd cc
arrives done now delay bytes (Give n) more is due = let z : None ≡ Some (delay, bytes) = is in absurd cc

-- the same by the answer of the code
sent_of : (o : Option (ℕ × Bor (List ℕ))) (delay : ℕ) (bytes : Bor (List ℕ)) (line : Line) → option_map {U = ℕ × List ℕ} (λ p. (p.0, p.1.now)) o ≡ sent_by line → o ≡ Some (delay, bytes) → sent_by line ≡ Some (delay, bytes.now)
sent_of o delay bytes line e is = sym e ∙ ap (option_map {U = ℕ × List ℕ} (λ p. (p.0, p.1.now))) is

pub arrives_at : (lines : List Line) (i done now delay from : ℕ) (o : Option (ℕ × Bor (List ℕ))) (bytes : Bor (List ℕ)) (line : Line) → i < length lines → line ≡ get_or lines i line →
    option_map {U = ℕ × List ℕ} (λ p. (p.0, p.1.now)) o ≡ sent_by line → o ≡ Some (delay, bytes) → from ≡ delay → done + from ≤ now → arrived done now (drop i lines) ≡ bytes.now ∷ arrived done now (drop (i + 1) lines)
arrives_at lines i done now delay from o bytes line here at e is same due =
    let front : drop i lines ≡ line ∷ drop (i + 1) lines = rw (add-one, drop-cons lines i line here) (ap (λ l. l ∷ drop (suc i) lines) (sym at)) in
    ap (arrived done now) front ∙ arrives done now delay bytes.now line (drop (i + 1) lines) (sent_of o delay bytes line e is) (omega arith)

-- the datagram at a place, one datagram further on
pub next_place : (left : ℕ) (piece : List ℕ) (xs ys : List (List ℕ)) → 1 ≤ left → xs ≡ piece ∷ ys → first_piece (drop left xs) ≡ first_piece (drop (left - 1) ys)
next_place zero piece xs ys some is = absurd (omega arith)
next_place (suc left) piece xs ys some is = let less : suc left - 1 ≡ left = omega arith in rw (is, less) refl

-- the rest of lines fits
pub rest_fits : (lines : List Line) (i : ℕ) → LinesFit lines → LinesFit (drop i lines)
rest_fits lines zero h = h
rest_fits [] (suc i) h = h
rest_fits (l ∷ lines) (suc i) h = rest_fits lines i h.1

cut_count : (lengths bytes : List ℕ) → length (cut lengths bytes) ≡ length lengths
cut_count [] bytes = refl
cut_count (n ∷ lengths) bytes = ap (λ k. suc k) (cut_count lengths (drop n bytes))

-- what was written is bounded
pub most_written : (stream : Bool) (bytes lengths : List ℕ) → length bytes < 2 ^ 64 → length lengths < 2 ^ 64 → most_read stream (pieces_of stream bytes lengths) < 2 ^ 64
most_written true bytes lengths few some = subst (λ v. v < 2 ^ 64) (sym (ap length (concat_piece bytes))) few
most_written false bytes lengths few some = subst (λ v. v < 2 ^ 64) (sym (cut_count lengths bytes)) some
