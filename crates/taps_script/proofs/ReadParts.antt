-- What a receive reads, and what is seen after it.
use Rattle.std.proofs.Common.{◌≡◌, ℕ, zero, suc, ◌+◌, ◌*◌, ◌≤◌, Bool, true, false, List, [], ◌∷◌, ◌++◌, length, take, drop, length-append, length-drop, append-nil, refl, ap, sym, ◌∙◌, arith, if◌then◌else◌}
use Rattle.std.specs.Prelude.{nat_le}
use Rattle.std.specs.List.{concat}
use Rattle.std.proofs.lemmas.List.{take-append-le, length-take}
use Rattle.std.proofs.lemmas.List.Folds.{concat-append}
use Rattle.taps_socket.specs.Net.{with_piece}
use Rattle.taps_script.specs.declared.line.PeerLine.TheVariants.{Holds, Echo, Sends, Ends, Fails}
use Rattle.taps_script.specs.declared.line.Line.{Line}
use Rattle.taps_script.specs.declared.line.Line.TheVariants.{Begin, Late, Fault, Leaf, Take, Give, Peer}
use Rattle.taps_script.specs.ScriptTexts.{LinesFit}
use Rattle.taps_script.specs.ScriptLines.{is_echoing}
use Rattle.taps_script.specs.PeerTimes.{arrived, sent_pieces}
use Rattle.taps_script.specs.DataAnswers.{first_piece, found_in}
use Rattle.taps_script.specs.Channels.{as_piece, source, read_pieces, most_read}
use Rattle.taps_script.specs.ScriptNet.{read_count}
use Rattle.taps_script.proofs.Pieces.{concat_piece}

-- what came is the front of what is sent
pub record IsFront (front whole : List (List ℕ)) : Type 0 where
  pub rest : List (List ℕ)
  pub is : whole ≡ front ++ rest

arrived_by : (q : Bool) (done now : ℕ) (bytes : List ℕ) (lines : List Line) → IsFront (arrived done now lines) (sent_pieces lines) → IsFront (if q then bytes ∷ arrived done now lines else []) (bytes ∷ sent_pieces lines)
arrived_by true done now bytes lines f = record { rest = f.rest; is = ap (λ v. bytes ∷ v) f.is }
arrived_by false done now bytes lines f = record { rest = bytes ∷ sent_pieces lines; is = refl }

arrived_front : (done now : ℕ) (lines : List Line) → IsFront (arrived done now lines) (sent_pieces lines)
arrived_front done now [] = record { rest = []; is = refl }
arrived_front done now (Peer (Sends delay bytes) ∷ lines) = arrived_by (nat_le (done + delay) now) done now bytes lines (arrived_front done now lines)
arrived_front done now (Peer (Holds d) ∷ lines) = arrived_front done now lines
arrived_front done now (Peer Echo ∷ lines) = arrived_front done now lines
arrived_front done now (Peer (Ends d) ∷ lines) = arrived_front done now lines
arrived_front done now (Peer (Fails d cause) ∷ lines) = arrived_front done now lines
arrived_front done now (Begin m ∷ lines) = arrived_front done now lines
arrived_front done now (Late d ∷ lines) = arrived_front done now lines
arrived_front done now (Fault n ∷ lines) = arrived_front done now lines
arrived_front done now (Leaf k f ∷ lines) = arrived_front done now lines
arrived_front done now (Take n ∷ lines) = arrived_front done now lines
arrived_front done now (Give n ∷ lines) = arrived_front done now lines

front_by : (q : Bool) (done now : ℕ) (lines : List Line) (written : List (List ℕ)) → IsFront (if q then written else arrived done now lines) (if q then written else sent_pieces lines)
front_by true done now lines written = record { rest = []; is = sym (append-nil written) }
front_by false done now lines written = arrived_front done now lines

pub source_front : (done now : ℕ) (lines : List Line) (written : List (List ℕ)) → IsFront (if is_echoing lines then written else arrived done now lines) (source lines written)
source_front done now lines written = front_by (is_echoing lines) done now lines written

-- what is sent is bounded
pub sent_few : (lines : List Line) → LinesFit lines → length (concat (sent_pieces lines)) ≤ 65507 * length lines
sent_few [] fit = omega arith
sent_few (Peer (Sends delay bytes) ∷ lines) fit = let rest = sent_few lines fit.1 in let here : length bytes ≤ 65507 = fit.0.1 in omega (arith, length-append bytes (concat (sent_pieces lines)))
sent_few (Peer (Holds d) ∷ lines) fit = let rest = sent_few lines fit.1 in omega arith
sent_few (Peer Echo ∷ lines) fit = let rest = sent_few lines fit.1 in omega arith
sent_few (Peer (Ends d) ∷ lines) fit = let rest = sent_few lines fit.1 in omega arith
sent_few (Peer (Fails d cause) ∷ lines) fit = let rest = sent_few lines fit.1 in omega arith
sent_few (Begin m ∷ lines) fit = let rest = sent_few lines fit.1 in omega arith
sent_few (Late d ∷ lines) fit = let rest = sent_few lines fit.1 in omega arith
sent_few (Fault n ∷ lines) fit = let rest = sent_few lines fit.1 in omega arith
sent_few (Leaf k f ∷ lines) fit = let rest = sent_few lines fit.1 in omega arith
sent_few (Take n ∷ lines) fit = let rest = sent_few lines fit.1 in omega arith
sent_few (Give n ∷ lines) fit = let rest = sent_few lines fit.1 in omega arith

pub sent_many : (lines : List Line) → length (sent_pieces lines) ≤ length lines
sent_many [] = omega arith
sent_many (Peer (Sends delay bytes) ∷ lines) = let rest = sent_many lines in omega arith
sent_many (Peer (Holds d) ∷ lines) = let rest = sent_many lines in omega arith
sent_many (Peer Echo ∷ lines) = let rest = sent_many lines in omega arith
sent_many (Peer (Ends d) ∷ lines) = let rest = sent_many lines in omega arith
sent_many (Peer (Fails d cause) ∷ lines) = let rest = sent_many lines in omega arith
sent_many (Begin m ∷ lines) = let rest = sent_many lines in omega arith
sent_many (Late d ∷ lines) = let rest = sent_many lines in omega arith
sent_many (Fault n ∷ lines) = let rest = sent_many lines in omega arith
sent_many (Leaf k f ∷ lines) = let rest = sent_many lines in omega arith
sent_many (Take n ∷ lines) = let rest = sent_many lines in omega arith
sent_many (Give n ∷ lines) = let rest = sent_many lines in omega arith

-- bytes further on
take_none : (k : ℕ) → (let none : List ℕ = [] in none) ≡ take k []
take_none zero = refl
take_none (suc k) = refl

take_add : (n k : ℕ) (xs : List ℕ) → take (n + k) xs ≡ take n xs ++ take k (drop n xs)
take_add zero k xs = let e : 0 + k ≡ k = omega arith in rw e refl
take_add (suc n) k [] = let e : suc n + k ≡ suc (n + k) = omega arith in rw e (take_none k)
take_add (suc n) k (x ∷ xs) = let e : suc n + k ≡ suc (n + k) = omega arith in rw e (ap (λ v. x ∷ v) (take_add n k xs))

take_taken : (m : ℕ) (xs : List ℕ) → take (length (take m xs)) xs ≡ take m xs
take_taken zero xs = refl
take_taken (suc m) [] = refl
take_taken (suc m) (x ∷ xs) = ap (λ v. x ∷ v) (take_taken m xs)

pub piece_some : (xs : List ℕ) → 1 ≤ length xs → as_piece xs ≡ xs ∷ []
piece_some [] h = absurd (omega arith)
piece_some (x ∷ xs) h = refl

-- what a receive of a stream reads
bytes_on : (n m : ℕ) (xs ys came : List ℕ) → came ≡ take m (drop n xs) → 1 ≤ length came → (n + length came ≤ length xs) × (take (n + length came) (xs ++ ys) ≡ take n (xs ++ ys) ++ came)
bytes_on n m xs ys came is some =
    let len : length came ≡ length (take m (drop n xs)) = ap length is in
    let within : n + length came ≤ length xs = omega (arith, length-take m (drop n xs), length-drop n xs) in
    let low : n ≤ length xs = omega arith in
    let part : take (length came) (drop n xs) ≡ came = ap (λ k. take k (drop n xs)) len ∙ (take_taken m (drop n xs) ∙ sym is) in
    (within, take-append-le (n + length came) xs ys within ∙ (take_add n (length came) xs ∙ (ap (λ v. take n xs ++ v) part ∙ ap (λ v. v ++ came) (sym (take-append-le n xs ys low)))))

-- and of datagrams
datagram_on : (n : ℕ) (xs ys : List (List ℕ)) (came : List ℕ) → came ≡ first_piece (drop n xs) → 1 ≤ length came → (n + 1 ≤ length xs) × (take (n + 1) (xs ++ ys) ≡ take n (xs ++ ys) ++ came ∷ [])
datagram_on zero [] ys came is some = absurd (let len : length came ≡ 0 = ap length is in omega arith)
datagram_on zero (x ∷ xs) ys came is some = (omega arith, rw is refl)
datagram_on (suc n) [] ys came is some = absurd (let len : length came ≡ 0 = ap length is in omega arith)
datagram_on (suc n) (x ∷ xs) ys came is some =
    let more = datagram_on n xs ys came is some in
    let e : suc n + 1 ≡ suc (n + 1) = omega arith in
    let within = more.0 in
    (omega arith, rw e (ap (λ v. x ∷ v) more.1))

-- what was read before
read_length : (n : ℕ) (xs : List ℕ) → n ≤ length xs → length (concat (as_piece (take n xs))) ≡ n
read_length n xs h = ap length (concat_piece (take n xs)) ∙ omega (arith, length-take n xs)

read_many : (n : ℕ) (xs : List (List ℕ)) → n ≤ length xs → length (take n xs) ≡ n
read_many n xs h = omega (arith, length-take n xs)

-- a receive goes on by so much, and the pieces read are one more
pub record GoesOn (stream : Bool) (n count : ℕ) (came : List ℕ) (whole : List (List ℕ)) : Type 0 where
  pub within : n + read_count stream count ≤ most_read stream whole
  pub pieces : read_pieces stream (n + read_count stream count) whole ≡ with_piece stream came (read_pieces stream n whole)

stream_goes : (n most count : ℕ) (came : List ℕ) (front whole : List (List ℕ)) → IsFront front whole → n ≤ length (concat whole) →
    came ≡ take most (drop (length (concat (as_piece (take n (concat whole))))) (concat front)) → length came ≡ count → 1 ≤ count → GoesOn true n count came whole
stream_goes n most count came front whole f within is len some =
    let whole_is : concat whole ≡ concat front ++ concat f.rest = ap concat f.is ∙ concat-append front f.rest in
    let here : came ≡ take most (drop n (concat front)) = is ∙ ap (λ k. take most (drop k (concat front))) (read_length n (concat whole) within) in
    let on = bytes_on n most (concat front) (concat f.rest) came here (omega arith) in
    let fits = on.0 in
    let longer : length (concat whole) ≡ length (concat front ++ concat f.rest) = ap length whole_is in
    let taken : take (n + count) (concat whole) ≡ take n (concat whole) ++ came =
    ap (λ k. take (n + k) (concat whole)) (sym len) ∙ (ap (take (n + length came)) whole_is ∙ (on.1 ∙ ap (λ v. take n v ++ came) (sym whole_is))) in
    let both = length-append (take n (concat whole)) came in
    let some_there : 1 ≤ length (take n (concat whole) ++ came) = omega arith in
    record {
      within = omega (arith, length-append (concat front) (concat f.rest));
      pieces = ap as_piece taken ∙ (piece_some (take n (concat whole) ++ came) some_there ∙ ap (λ v. (v ++ came) ∷ []) (sym (concat_piece (take n (concat whole)))));
    }

datagram_goes : (n count : ℕ) (came : List ℕ) (front whole : List (List ℕ)) → IsFront front whole → n ≤ length whole → came ≡ first_piece (drop (length (take n whole)) front) → length came ≡ count → 1 ≤ count → GoesOn false n count came whole
datagram_goes n count came front whole f within is len some =
    let here : came ≡ first_piece (drop n front) = is ∙ ap (λ k. first_piece (drop k front)) (read_many n whole within) in
    let on = datagram_on n front f.rest came here (omega arith) in
    let fits = on.0 in
    let longer : length whole ≡ length (front ++ f.rest) = ap length f.is in
    record {
      within = omega (arith, length-append front f.rest);
      pieces = ap (take (n + 1)) f.is ∙ (on.1 ∙ ap (λ v. take n v ++ came ∷ []) (sym f.is));
    }

pub goes_by : (stream : Bool) (n most count : ℕ) (came : List ℕ) (front whole : List (List ℕ)) → IsFront front whole → n ≤ most_read stream whole → came ≡ found_in stream most front (read_pieces stream n whole) → length came ≡ count → 1 ≤ count → GoesOn stream n count came whole
goes_by true n most count came front whole f within is len some = stream_goes n most count came front whole f within is len some
goes_by false n most count came front whole f within is len some = datagram_goes n count came front whole f within is len some
