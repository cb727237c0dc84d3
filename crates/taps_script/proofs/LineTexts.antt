-- The line that is read of a text is the one whose text it is.
use Rattle.std.proofs.Common.{◌≡◌, ℕ, ◌-◌, ◌<◌, ◌^◌, Bool, true, false, List, ◌∷◌, ◌++◌, refl, ap, sym, ◌∙◌, subst, arith, lit<, if◌then◌else◌}
use Rattle.std.specs.Prelude.{◌≤◌, ◌||◌, ◌==◌, nat_lt, length, Option, None, Some, Result, Ok, Err, IfOk, option_map, bytes_eq, codes}
use Rattle.std.specs.Option.{option_and_then, IfSome}
use Rattle.std.specs.Fmt.{decimal}
use Rattle.std.proofs.lemmas.Slice.Eq.{bytes_eq-Decides}
use Rattle.std.proofs.lemmas.Bool.Decides.{nat_tests}
use Rattle.hex.specs.Hex.{decode_of}
use Rattle.hex.proofs.HexLemmas.{decode_of-ok}
use Rattle.hex.specs.declared.error.FromHexError.{FromHexError}
use Rattle.taps_socket.specs.declared.cause.Cause.{Cause}
use Rattle.taps_socket.specs.declared.cause.Cause.TheVariants as cause
use Rattle.taps_script.specs.declared.line.Fate.{Fate}
use Rattle.taps_script.specs.declared.line.Fate.TheVariants.{Refuses, Completes, Breaks, Silent}
use Rattle.taps_script.specs.declared.line.Line.{Line}
use Rattle.taps_script.specs.declared.line.Line.TheVariants.{Begin, Late, Fault, Leaf, Take, Give, Peer}
use Rattle.taps_script.specs.declared.line.PeerLine.{PeerLine}
use Rattle.taps_script.specs.declared.line.PeerLine.TheVariants.{Holds, Echo, Sends, Ends, Fails}
use Rattle.taps_socket.specs.CauseWords.{cause_word}
use Rattle.taps_script.specs.ScriptTexts.{fate_text, FateFits, PeerFits, LineFits, IsHexOf, IsPeerText, Spells, IsLineText}
use Rattle.taps_script.specs.ScriptReading.{split_word, number_up_to, number_of, leaf_number, cause_of, break_of, fate_by, fate_of, leaf_of, limit_of, decoded, bytes_of, sends_of, fails_of, turn_by, peer_by, peer_of, own_line_by, line_by, line_of}
use Rattle.taps_script.proofs.SplitTexts.{split_parts, split_joined}
use Rattle.taps_script.proofs.Numbers.{number_written, number_read, no_space}

-- steps of a reading that gave a value
then_some : {A B : Type 0} (o : Option A) (f : A → Option B) (y : B) → option_and_then f o ≡ Some y → (x : A) × (o ≡ Some x) × (f x ≡ Some y)
then_some (Some x) f y e = (x, refl, e)
then_some None f y e = cc

map_some : {A B : Type 0} (f : A → B) (o : Option A) (y : B) → option_map f o ≡ Some y → (x : A) × (o ≡ Some x) × (f x ≡ y)
map_some f (Some x) y e = (x, refl, (let s : Some (f x) ≡ Some y = e in cc))
map_some f None y e = cc

-- the first word of a list that it is
if_word : {A P : Type 0} (q : Bool) (word name : List ℕ) (a b : Option A) (y : A) → bytes_eq word name ≡ q → (if q then a else b) ≡ Some y → (word ≡ name → a ≡ Some y → P) → (b ≡ Some y → P) → P
if_word true word name a b y e h found other = found ((bytes_eq-Decides word name).0 e) h
if_word false word name a b y e h found other = other h

none_left : {A P : Type 0} (y : A) → None ≡ Some y → P
none_left y e = absurd (let z : None ≡ Some y = e in cc)

-- causes
pub cause_written : (word : List ℕ) (c : Cause) → cause_of word ≡ Some c → word ≡ cause_word c
unfolding cause_of
cause_written word c e =
    if_word _ word (codes "refused") _ _ c refl e (λ w s. w ∙ (let z : cause.Refused ≡ c = cc in ap cause_word z)) (λ e.
    if_word _ word (codes "unreachable") _ _ c refl e (λ w s. w ∙ (let z : cause.Unreachable ≡ c = cc in ap cause_word z)) (λ e.
    if_word _ word (codes "reset") _ _ c refl e (λ w s. w ∙ (let z : cause.Reset ≡ c = cc in ap cause_word z)) (λ e.
    if_word _ word (codes "memory") _ _ c refl e (λ w s. w ∙ (let z : cause.Memory ≡ c = cc in ap cause_word z)) (λ e.
    if_word _ word (codes "other") _ _ c refl e (λ w s. w ∙ (let z : cause.Other ≡ c = cc in ap cause_word z)) (λ e. none_left c e)))))

pub cause_read : (c : Cause) → cause_of (cause_word c) ≡ Some c
unfolding cause_of
cause_read cause.Refused = refl
cause_read cause.Unreachable = refl
cause_read cause.Reset = refl
cause_read cause.Memory = refl
cause_read cause.Other = refl

-- numbers
written_of : (text : List ℕ) (n : ℕ) → number_of text ≡ Some n → (text ≡ decimal n) × (n < 2 ^ 32)
unfolding number_of
written_of text n e = let w = number_written (2 ^ 32 - 1) n text (lit< tt) e in (w.0, (let h = w.1 in omega arith))

read_of : (n : ℕ) → n < 2 ^ 32 → number_of (decimal n) ≡ Some n
unfolding number_of
read_of n h = number_read (2 ^ 32 - 1) n (omega arith) (lit< tt)

leaf_written : (text : List ℕ) (n : ℕ) → leaf_number text ≡ Some n → (text ≡ decimal n) × (n < 4096)
unfolding leaf_number
leaf_written text n e = let w = number_written 4095 n text (lit< tt) e in (w.0, (let h = w.1 in omega arith))

leaf_read : (n : ℕ) → n < 4096 → leaf_number (decimal n) ≡ Some n
unfolding leaf_number
leaf_read n h = number_read 4095 n (omega arith) (lit< tt)

-- words
word_written : (text : List ℕ) (p : List ℕ × List ℕ) → split_word text ≡ Some p → text ≡ p.0 ++ 32 ∷ p.1
unfolding split_word
word_written text p e = split_parts 32 text p e

joined : (a b c d : List ℕ) → a ≡ b → c ≡ d → a ++ 32 ∷ c ≡ b ++ 32 ∷ d
joined a b c d e f = rw (e, f) refl

-- fates
abbrev IsFateText : List ℕ → Fate → Type 0
IsFateText text f = (text ≡ fate_text f) × FateFits f

break_written : (text : List ℕ) (f : Fate) → break_of text ≡ Some f → IsFateText (codes "breaks " ++ text) f
unfolding break_of
break_written text f e =
    let (p, split, e2) = then_some (split_word text) _ f e in
    let (d, delay, e3) = then_some (number_of p.0) _ f e2 in
    let (c, cause, is) = map_some (λ c. Breaks d c) (cause_of p.1) f e3 in
    let w = written_of p.0 d delay in
    let t : text ≡ decimal d ++ 32 ∷ cause_word c = word_written text p split ∙ joined p.0 (decimal d) p.1 (cause_word c) w.0 (cause_written p.1 c cause) in
    subst (IsFateText (codes "breaks " ++ text)) is (ap (λ t. codes "breaks " ++ t) t, w.1)

fate_by_written : (word rest : List ℕ) (f : Fate) → fate_by word rest ≡ Some f → IsFateText (word ++ 32 ∷ rest) f
unfolding fate_by
fate_by_written word rest f e =
    if_word _ word (codes "refuses") _ _ f refl e (λ w s. (let (c, cause, is) = map_some Refuses (cause_of rest) f s in
    subst (IsFateText (word ++ 32 ∷ rest)) is (joined word (codes "refuses") rest (cause_word c) w (cause_written rest c cause), tt))) (λ e.
    if_word _ word (codes "completes") _ _ f refl e (λ w s. (let (d, delay, is) = map_some Completes (number_of rest) f s in
    let v = written_of rest d delay in
    subst (IsFateText (word ++ 32 ∷ rest)) is (joined word (codes "completes") rest (decimal d) w v.0, v.1))) (λ e.
    if_word _ word (codes "breaks") _ _ f refl e (λ w s. (let b = break_written rest f s in (joined word (codes "breaks") rest rest w refl ∙ b.0, b.1))) (λ e. none_left f e)))

fate_written : (text : List ℕ) (f : Fate) → fate_of text ≡ Some f → IsFateText text f
unfolding fate_of
fate_written text f e =
    if_word _ text (codes "silent") _ _ f refl e (λ w s. (let z : Silent ≡ f = cc in subst (IsFateText text) z (w, tt))) (λ e.
    (let (p, split, e2) = then_some (split_word text) _ f e in
    let b = fate_by_written p.0 p.1 f e2 in
    (word_written text p split ∙ b.0, b.1)))

fate_read : (f : Fate) → FateFits f → fate_of (fate_text f) ≡ Some f
unfolding fate_of fate_by break_of split_word
fate_read (Refuses c) h = rw (cause_read c) refl
fate_read (Completes d) h = rw (read_of d h) refl
fate_read (Breaks d c) h = rw (split_joined 32 (decimal d) (cause_word c) (no_space d (omega arith)), read_of d h, cause_read c) refl
fate_read Silent h = refl

-- lines
leaf_line_written : (text : List ℕ) (line : Line) → leaf_of text ≡ Some line → IsLineText line (codes "leaf " ++ text)
unfolding leaf_of
leaf_line_written text line e =
    let (p, split, e2) = then_some (split_word text) _ line e in
    let (k, leaf, e3) = then_some (leaf_number p.0) _ line e2 in
    let (f, fate, is) = map_some (λ f. Leaf k f) (fate_of p.1) line e3 in
    let w = leaf_written p.0 k leaf in
    let v = fate_written p.1 f fate in
    let t : text ≡ decimal k ++ 32 ∷ fate_text f = word_written text p split ∙ joined p.0 (decimal k) p.1 (fate_text f) w.0 v.0 in
    subst (λ line. IsLineText line (codes "leaf " ++ text)) is (record { spelled = ap (λ t. codes "leaf " ++ t) t; fits = (w.1, v.1) })

-- limits
limit_by : (n : ℕ) (b : Bool) (m : ℕ) → (n == 0) ≡ b → (if b then None else Some n) ≡ Some m → (n ≡ m) × (1 ≤ n)
limit_by n true m e h = let z : None ≡ Some m = h in absurd cc
limit_by n false m e h = (let z : Some n ≡ Some m = h in cc, grind (arith, nat_tests))

limit_written : (text : List ℕ) (n : ℕ) → limit_of text ≡ Some n → (text ≡ decimal n) × ((1 ≤ n) × (n ≤ 65536))
unfolding limit_of
limit_written text n e =
    let (m, number, some) = then_some (number_up_to 65536 text) _ n e in
    let w = number_written 65536 m text (lit< tt) number in
    let p = limit_by m (m == 0) n refl some in
    (w.0 ∙ ap decimal p.0, (subst (λ v. 1 ≤ v) p.0 p.1, subst (λ v. v ≤ 65536) p.0 w.1))

not_zero : (n : ℕ) → 1 ≤ n → (n == 0) ≡ false
not_zero n h = grind (arith, nat_tests)

limit_read : (n : ℕ) → 1 ≤ n → n ≤ 65536 → limit_of (decimal n) ≡ Some n
unfolding limit_of
limit_read n some few = rw (number_read 65536 n few (lit< tt), not_zero n some) refl

-- bytes
decoded_some : (r : Result (List ℕ) FromHexError) (bytes : List ℕ) → decoded r ≡ Some bytes → r ≡ Ok bytes
decoded_some (Ok xs) bytes e = let z : Some xs ≡ Some bytes = e in cc
decoded_some (Err x) bytes e = let z : None ≡ Some bytes = e in absurd cc

bytes_by : (text bytes : List ℕ) (p q : Bool) → (length text == 0) ≡ p → nat_lt 131014 (length text) ≡ q → (if p || q then None else decoded (decode_of text)) ≡ Some bytes → IsHexOf bytes text
bytes_by text bytes true q e f h = let z : None ≡ Some bytes = h in absurd cc
bytes_by text bytes false true e f h = let z : None ≡ Some bytes = h in absurd cc
bytes_by text bytes false false e f h = record { some = grind (arith, nat_tests); few = grind (arith, nat_tests); decodes = decoded_some (decode_of text) bytes h }

bytes_written : (text bytes : List ℕ) → bytes_of text ≡ Some bytes → IsHexOf bytes text
unfolding bytes_of
bytes_written text bytes e = bytes_by text bytes (length text == 0) (nat_lt 131014 (length text)) refl refl e

not_above : (n : ℕ) → n ≤ 131014 → nat_lt 131014 n ≡ false
not_above n h = grind (arith, nat_tests)

bytes_read : (text bytes : List ℕ) → IsHexOf bytes text → bytes_of text ≡ Some bytes
unfolding bytes_of
bytes_read text bytes h = rw (not_zero (length text) h.some, not_above (length text) h.few, h.decodes) refl

few_bytes : (text bytes : List ℕ) → IsHexOf bytes text → length bytes ≤ 65507
few_bytes text bytes h = let few = h.few in let twice = (decode_of-ok text bytes h.decodes).2 in omega arith

-- the other end
abbrev IsPeerLine : List ℕ → PeerLine → Type 0
IsPeerLine text line = IsPeerText line text × PeerFits line

sends_written : (text : List ℕ) (line : PeerLine) → sends_of text ≡ Some line → IsPeerLine (codes "sends " ++ text) line
unfolding sends_of
sends_written text line e =
    let (p, split, e2) = then_some (split_word text) _ line e in
    let (d, delay, e3) = then_some (number_of p.0) _ line e2 in
    let (b, bytes, is) = map_some (λ b. Sends d b) (bytes_of p.1) line e3 in
    let w = written_of p.0 d delay in
    let t : text ≡ decimal d ++ 32 ∷ p.1 = word_written text p split ∙ joined p.0 (decimal d) p.1 p.1 w.0 refl in
    subst (IsPeerLine (codes "sends " ++ text)) is ((p.1, bytes_written p.1 b bytes, ap (λ t. codes "sends " ++ t) t), (w.1, few_bytes p.1 b (bytes_written p.1 b bytes)))

fails_written : (text : List ℕ) (line : PeerLine) → fails_of text ≡ Some line → IsPeerLine (codes "fails " ++ text) line
unfolding fails_of
fails_written text line e =
    let (p, split, e2) = then_some (split_word text) _ line e in
    let (d, delay, e3) = then_some (number_of p.0) _ line e2 in
    let (c, cause, is) = map_some (λ c. Fails d c) (cause_of p.1) line e3 in
    let w = written_of p.0 d delay in
    let t : text ≡ decimal d ++ 32 ∷ cause_word c = word_written text p split ∙ joined p.0 (decimal d) p.1 (cause_word c) w.0 (cause_written p.1 c cause) in
    subst (IsPeerLine (codes "fails " ++ text)) is (ap (λ t. codes "fails " ++ t) t, w.1)

turn_written : (word rest : List ℕ) (line : PeerLine) → turn_by word rest ≡ Some line → IsPeerLine (word ++ 32 ∷ rest) line
unfolding turn_by
turn_written word rest line e =
    if_word _ word (codes "holds") _ _ line refl e (λ w s. (let (d, delay, is) = map_some Holds (number_of rest) line s in
    let v = written_of rest d delay in
    subst (IsPeerLine (word ++ 32 ∷ rest)) is (joined word (codes "holds") rest (decimal d) w v.0, v.1))) (λ e.
    if_word _ word (codes "ends") _ _ line refl e (λ w s. (let (d, delay, is) = map_some Ends (number_of rest) line s in
    let v = written_of rest d delay in
    subst (IsPeerLine (word ++ 32 ∷ rest)) is (joined word (codes "ends") rest (decimal d) w v.0, v.1))) (λ e.
    if_word _ word (codes "fails") _ _ line refl e (λ w s. (let b = fails_written rest line s in
    subst (λ text. IsPeerLine text line) (sym (joined word (codes "fails") rest rest w refl)) b)) (λ e. none_left line e)))

peer_by_written : (word rest : List ℕ) (line : PeerLine) → peer_by word rest ≡ Some line → IsPeerLine (word ++ 32 ∷ rest) line
unfolding peer_by
peer_by_written word rest line e =
    if_word _ word (codes "sends") _ _ line refl e (λ w s. (let b = sends_written rest line s in
    subst (λ text. IsPeerLine text line) (sym (joined word (codes "sends") rest rest w refl)) b)) (λ e. turn_written word rest line e)

peer_written : (text : List ℕ) (line : PeerLine) → peer_of text ≡ Some line → IsPeerLine text line
unfolding peer_of
peer_written text line e =
    if_word _ text (codes "echo") _ _ line refl e (λ w s. (let z : Echo ≡ line = cc in subst (IsPeerLine text) z (w, tt))) (λ e.
    (let (p, split, e2) = then_some (split_word text) _ line e in
    let b = peer_by_written p.0 p.1 line e2 in
    subst (λ text. IsPeerLine text line) (sym (word_written text p split)) b))

peer_text_read : (line : PeerLine) (text : List ℕ) → IsPeerText line text → PeerFits line → peer_of text ≡ Some line
unfolding peer_of peer_by sends_of fails_of turn_by split_word
peer_text_read (Holds d) text is h = rw (is, read_of d h) refl
peer_text_read Echo text is h = rw is refl
peer_text_read (Sends d b) text is h =
    let small = h.0 in
    rw (is.2, split_joined 32 (decimal d) is.0 (no_space d (omega arith)), read_of d h.0, bytes_read is.0 b is.1) refl
peer_text_read (Ends d) text is h = rw (is, read_of d h) refl
peer_text_read (Fails d c) text is h =
    rw (is, split_joined 32 (decimal d) (cause_word c) (no_space d (omega arith)), read_of d h, cause_read c) refl

own_line_written : (word rest : List ℕ) (line : Line) → own_line_by word rest ≡ Some line → IsLineText line (word ++ 32 ∷ rest)
unfolding own_line_by
own_line_written word rest line e =
    if_word _ word (codes "begin") _ _ line refl e (λ w s. (let (m, moment, is) = map_some Begin (number_up_to (2 ^ 63 - 1) rest) line s in
    let v = number_written (2 ^ 63 - 1) m rest (lit< tt) moment in
    let high = v.1 in
    subst (λ line. IsLineText line (word ++ 32 ∷ rest)) is (record { spelled = joined word (codes "begin") rest (decimal m) w v.0; fits = omega arith }))) (λ e.
    if_word _ word (codes "late") _ _ line refl e (λ w s. (let (d, delay, is) = map_some Late (number_of rest) line s in
    let v = written_of rest d delay in
    subst (λ line. IsLineText line (word ++ 32 ∷ rest)) is (record { spelled = joined word (codes "late") rest (decimal d) w v.0; fits = v.1 }))) (λ e.
    if_word _ word (codes "fault") _ _ line refl e (λ w s. (let (n, wait, is) = map_some Fault (number_of rest) line s in
    let v = written_of rest n wait in
    subst (λ line. IsLineText line (word ++ 32 ∷ rest)) is (record { spelled = joined word (codes "fault") rest (decimal n) w v.0; fits = v.1 }))) (λ e.
    if_word _ word (codes "leaf") _ _ line refl e (λ w s. (let b = leaf_line_written rest line s in
    subst (IsLineText line) (sym (joined word (codes "leaf") rest rest w refl)) b)) (λ e.
    if_word _ word (codes "take") _ _ line refl e (λ w s. (let (n, most, is) = map_some Take (limit_of rest) line s in
    let v = limit_written rest n most in
    subst (λ line. IsLineText line (word ++ 32 ∷ rest)) is (record { spelled = joined word (codes "take") rest (decimal n) w v.0; fits = v.1 }))) (λ e.
    if_word _ word (codes "give") _ _ line refl e (λ w s. (let (n, most, is) = map_some Give (limit_of rest) line s in
    let v = limit_written rest n most in
    subst (λ line. IsLineText line (word ++ 32 ∷ rest)) is (record { spelled = joined word (codes "give") rest (decimal n) w v.0; fits = v.1 }))) (λ e. none_left line e))))))

line_by_written : (word rest : List ℕ) (line : Line) → line_by word rest ≡ Some line → IsLineText line (word ++ 32 ∷ rest)
unfolding line_by
line_by_written word rest line e =
    if_word _ word (codes "peer") _ _ line refl e (λ w s. (let (p, peer, is) = map_some Peer (peer_of rest) line s in
    let b = peer_written rest p peer in
    subst (λ line. IsLineText line (word ++ 32 ∷ rest)) is (record { spelled = (rest, b.0, joined word (codes "peer") rest rest w refl); fits = b.1 }))) (λ e.
    own_line_written word rest line e)

pub line_written : (text : List ℕ) (line : Line) → line_of text ≡ Some line → IsLineText line text
unfolding line_of
line_written text line e =
    let (p, split, e2) = then_some (split_word text) _ line e in
    let b = line_by_written p.0 p.1 line e2 in
    subst (IsLineText line) (sym (word_written text p split)) b

spelled_read : (line : Line) (text : List ℕ) → Spells line text → LineFits line → line_of text ≡ Some line
unfolding line_of line_by own_line_by leaf_of split_word
spelled_read (Begin m) text is h = rw (is, number_read (2 ^ 63 - 1) m (omega arith) (lit< tt)) refl
spelled_read (Late d) text is h = rw (is, read_of d h) refl
spelled_read (Fault w) text is h = rw (is, read_of w h) refl
spelled_read (Leaf k f) text is h = let small = h.0 in rw (is, split_joined 32 (decimal k) (fate_text f) (no_space k (omega arith)), leaf_read k h.0, fate_read f h.1) refl
spelled_read (Take n) text is h = rw (is, limit_read n h.0 h.1) refl
spelled_read (Give n) text is h = rw (is, limit_read n h.0 h.1) refl
spelled_read (Peer p) text is h = rw (is.2, peer_text_read p is.0 is.1 h) refl

pub line_read : (text : List ℕ) (line : Line) → IsLineText line text → line_of text ≡ Some line
line_read text line is = spelled_read line text is.spelled is.fits

of_option : (text : List ℕ) (o : Option Line) → o ≡ line_of text → IfSome o (λ line. IsLineText line text)
of_option text None e = tt
of_option text (Some line) e = line_written text line (sym e)

pub found : {E : Type 0} (text : List ℕ) (r : Result (Option Line) E) → IfOk r (λ o. o ≡ line_of text) → IfOk r (λ o. IfSome o (λ line. IsLineText line text))
found text (Ok o) e = of_option text o e
found text (Err e') e = tt

pub only : {E : Type 0} (text : List ℕ) (r : Result (Option Line) E) → IfOk r (λ o. o ≡ line_of text) → IfOk r (λ o. (line : Line) → IsLineText line text → o ≡ Some line)
only text (Ok o) e = λ line is. e ∙ line_read text line is
only text (Err e') e = tt
