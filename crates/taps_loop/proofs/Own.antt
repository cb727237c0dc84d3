-- On which socket a call is, by what was asked.
use Rattle.std.proofs.Common.{◌≡◌, ◌≢◌, ℕ, Bool, true, false, List, [], ◌∷◌, ◌++◌, Some, refl, sym, ap, ◌∙◌, eq-eqb}
use Rattle.std.specs.Prelude.{◌==◌}
use Rattle.std.proofs.lemmas.Bool.{eqb-true}
use Rattle.taps_socket.specs.Calls.{Call, begins, starts, waits, closes, listens, accepts, sends, shuts, receives, Request, to_close, to_send, to_shut, to_receive, request_of}
use Rattle.taps_connection.specs.Encodings.{Encoding}
use Rattle.taps_connection.specs.Outboxes.{Stand, begun, ending, refused, all_out, Outbox, asks_out}
use Rattle.taps_connection.specs.Runs.{AllAsked}
use Rattle.taps_exchange.specs.Members.{is_on, calls_on}

-- a request names a socket
abbrev pub names : ℕ → Request → Bool
names s (to_send socket bytes until) = socket == s
names s (to_receive socket most until) = socket == s
names s (to_shut socket) = socket == s
names s (to_close socket) = socket == s
names s _ = false

pub is_on_named : (s : ℕ) (c : Call) → is_on s c ≡ names s (request_of c)
is_on_named s (begins at) = refl
is_on_named s (starts leaf target answer) = refl
is_on_named s (waits until answer) = refl
is_on_named s (closes socket) = refl
is_on_named s (listens target answer) = refl
is_on_named s (accepts listener until answer) = refl
is_on_named s (sends socket bytes until answer) = refl
is_on_named s (shuts socket) = refl
is_on_named s (receives socket most until came answer) = refl

pub same_number : (s : ℕ) → (s == s) ≡ true
same_number s = eq-eqb s s refl

other_by : (s t : ℕ) (b : Bool) → (s == t) ≡ b → t ≢ s → (s == t) ≡ false
other_by s t true e n = absurd (n (sym (eqb-true s t e)))
other_by s t false e n = e

pub other_number : (s t : ℕ) → t ≢ s → (s == t) ≡ false
other_number s t n = other_by s t (s == t) refl n

-- one call more, on the socket or on another
pub here : (s : ℕ) (c : Call) (calls : List Call) → is_on s c ≡ true → calls_on s (c ∷ calls) ≡ c ∷ calls_on s calls
here s c calls h = rw h refl

pub elsewhere : (s : ℕ) (c : Call) (calls : List Call) → is_on s c ≡ false → calls_on s (c ∷ calls) ≡ calls_on s calls
elsewhere s c calls h = rw h refl

-- what an outbox asks names its socket
asked_names : (s socket until : ℕ) (stand : Stand) (r : Request) → asks_out socket until stand ≡ Some r → names s r ≡ (socket == s)
asked_names s socket until (begun number ends rest behind) r e = (let x : to_send socket rest until ≡ r = cc in ap (names s) (sym x))
asked_names s socket until (ending behind) r e = (let x : to_shut socket ≡ r = cc in ap (names s) (sym x))
asked_names s socket until (refused number layer behind) r e = cc
asked_names s socket until all_out r e = cc

pub run_here : (e : Encoding) (socket until : ℕ) (box : Outbox) (more calls : List Call) → AllAsked e socket until box more → calls_on socket (more ++ calls) ≡ more ++ calls_on socket calls
run_here e socket until box [] calls a = refl
run_here e socket until box (c ∷ more) calls a =
    here socket c (more ++ calls) (is_on_named socket c ∙ (asked_names socket socket until _ (request_of c) a.0 ∙ same_number socket))
    ∙ ap (λ v. c ∷ v) (run_here e socket until box more calls a.1)

pub run_elsewhere : (e : Encoding) (socket until other : ℕ) (box : Outbox) (more calls : List Call) → other ≢ socket → AllAsked e socket until box more → calls_on other (more ++ calls) ≡ calls_on other calls
run_elsewhere e socket until other box [] calls n a = refl
run_elsewhere e socket until other box (c ∷ more) calls n a =
    elsewhere other c (more ++ calls) (is_on_named other c ∙ (asked_names other socket until _ (request_of c) a.0 ∙ other_number socket other n))
    ∙ run_elsewhere e socket until other box more calls n a.1
