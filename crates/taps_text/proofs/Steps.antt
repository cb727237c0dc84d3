-- A loop over a generated text: where its count is reached, and one step before.
use Rattle.std.proofs.Common.{◌≡◌, ◌≤◌, ◌<◌, ◌+◌, ◌-◌, ℕ, suc, List, [], ◌++◌, refl, sym, ap, ◌∙◌, arith, append_assoc, append-nil, codes, Result, Ok, Err}
use Rattle.std.specs.Fmt.{decimal}
use Rattle.taps_text.specs.Appends.{Appends}
use Rattle.taps_text.proofs.Appended.{continues_none, continues_on, continues_far}
use Rattle.taps_text.specs.Generated.{next, drawn, exchange_text, race_text, session_text, path_tables, address_line, address_lines, message_table, message_tables, leaf_line, leaf_lines}

none_left : (count place : ℕ) → count ≤ place → count - place ≡ 0
none_left count place done = omega arith

one_left : (count place : ℕ) → place < count → count - place ≡ suc (count - (place + 1))
one_left count place more = omega arith

-- one piece more
goes_on : (text text' piece rest now whole : List ℕ) → text' ≡ text ++ piece → now ≡ piece ++ rest → text ++ now ≡ whole → text' ++ rest ≡ whole
goes_on text text' piece rest now whole e on h = ap (λ v. v ++ rest) e ∙ append_assoc text piece rest ∙ ap (λ v. text ++ v) (sym on) ∙ h

-- no piece more
is_whole : (text now whole : List ℕ) → now ≡ [] → text ++ now ≡ whole → text ≡ whole
is_whole text now whole none h = sym (append-nil text) ∙ ap (λ v. text ++ v) (sym none) ∙ h

pub drawn_done : (x count place : ℕ) → count ≤ place → drawn x (count - place) ≡ x
unfolding drawn
drawn_done x count place done = rw (none_left count place done) refl

pub drawn_on : (x count place : ℕ) → place < count → drawn (next x) (count - (place + 1)) ≡ drawn x (count - place)
unfolding drawn
drawn_on x count place more = rw (one_left count place more) refl

pub paths_done : (count place : ℕ) (text whole : List ℕ) → count ≤ place → text ++ path_tables (count - place) place ≡ whole → text ≡ whole
unfolding path_tables
paths_done count place text whole done h = is_whole text (path_tables (count - place) place) whole (rw (none_left count place done) refl) h

pub paths_on : (count place : ℕ) (text text' whole : List ℕ) → place < count → text' ≡ text ++ (codes "\n[[path]]\ninterface = \"p" ++ (decimal place ++ codes "\"\n")) → text ++ path_tables (count - place) place ≡ whole
    → text' ++ path_tables (count - (place + 1)) (place + 1) ≡ whole
unfolding path_tables
paths_on count place text text' whole more e h =
    goes_on text text' (codes "\n[[path]]\ninterface = \"p" ++ (decimal place ++ codes "\"\n")) (path_tables (count - (place + 1)) (place + 1)) (path_tables (count - place) place) whole e (rw (one_left count place more) refl) h

pub addresses_done : (count place x : ℕ) (text whole : List ℕ) → count ≤ place → text ++ address_lines (count - place) place x ≡ whole → text ≡ whole
unfolding address_lines
addresses_done count place x text whole done h = is_whole text (address_lines (count - place) place x) whole (rw (none_left count place done) refl) h

pub addresses_on : (count place x : ℕ) (text text' whole : List ℕ) → place < count → text' ≡ text ++ address_line place x → text ++ address_lines (count - place) place x ≡ whole
    → text' ++ address_lines (count - (place + 1)) (place + 1) (next x) ≡ whole
unfolding address_lines
addresses_on count place x text text' whole more e h =
    goes_on text text' (address_line place x) (address_lines (count - (place + 1)) (place + 1) (next x)) (address_lines (count - place) place x) whole e (rw (one_left count place more) refl) h

pub messages_done : (count place x : ℕ) (text whole : List ℕ) → count ≤ place → text ++ message_tables (count - place) x ≡ whole → text ≡ whole
unfolding message_tables
messages_done count place x text whole done h = is_whole text (message_tables (count - place) x) whole (rw (none_left count place done) refl) h

pub messages_on : (count place x : ℕ) (text text' whole : List ℕ) → place < count → text' ≡ text ++ message_table x → text ++ message_tables (count - place) x ≡ whole
    → text' ++ message_tables (count - (place + 1)) (next x) ≡ whole
unfolding message_tables
messages_on count place x text text' whole more e h =
    goes_on text text' (message_table x) (message_tables (count - (place + 1)) (next x)) (message_tables (count - place) x) whole e (rw (one_left count place more) refl) h

pub leaves_done : (count leaf x : ℕ) (text whole : List ℕ) → count ≤ leaf → text ++ leaf_lines (count - leaf) leaf x ≡ whole → text ≡ whole
unfolding leaf_lines
leaves_done count leaf x text whole done h = is_whole text (leaf_lines (count - leaf) leaf x) whole (rw (none_left count leaf done) refl) h

pub leaves_on : (count leaf x : ℕ) (text text' whole : List ℕ) → leaf < count → text' ≡ text ++ leaf_line leaf x → text ++ leaf_lines (count - leaf) leaf x ≡ whole
    → text' ++ leaf_lines (count - (leaf + 1)) (leaf + 1) (next x) ≡ whole
unfolding leaf_lines
leaves_on count leaf x text text' whole more e h =
    goes_on text text' (leaf_line leaf x) (leaf_lines (count - (leaf + 1)) (leaf + 1) (next x)) (leaf_lines (count - leaf) leaf x) whole e (rw (one_left count leaf more) refl) h

-- three pieces, one after the other
pub appends_three : {A F : Type 0} (r : Result A F) (first one two three a b c : List ℕ) → one ≡ first ++ a → two ≡ one ++ b → Appends r two three c → Appends r first three (a ++ (b ++ c))
appends_three (Ok done) first one two three a b c e f h = h ∙ ap (λ v. v ++ c) (f ∙ ap (λ v. v ++ b) e) ∙ append_assoc (first ++ a) b c ∙ append_assoc first a (b ++ c)
appends_three (Err stop) first one two three a b c e f h = continues_far first two three (continues_on first one two b (continues_on first first one a (continues_none first) e) f) h

-- the three of a session
pub session_pieces : {A F : Type 0} (r : Result A F) (number : ℕ) (first one two three : List ℕ) → one ≡ first ++ codes "]\n\n[race]\ndelay_ms = 10\n" → two ≡ one ++ message_tables 256 (drawn number 32) → Appends r two three (exchange_text (drawn number 799))
    → Appends r first three (session_text number)
unfolding session_text race_text
session_pieces r number first one two three e f h = appends_three r first one two three (codes "]\n\n[race]\ndelay_ms = 10\n") (message_tables 256 (drawn number 32)) (exchange_text (drawn number 799)) e f h
