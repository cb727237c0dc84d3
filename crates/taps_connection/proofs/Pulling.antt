-- What asking a socket once for bytes adds, and that all else stays.
use Rattle.std.proofs.Common.{◌≡◌, ◌≤◌, ℕ, List, [], ◌∷◌, None, Some, refl, sym, subst, arith, eq-eqb}
use Rattle.taps_socket.specs.declared.item.Item.{Item}
use Rattle.taps_socket.specs.Calls.{Call}
use Rattle.taps_socket.specs.Net.{Net, Traffic, with_item, with_timed, after_receive}
use Rattle.taps_socket.specs.declared.timed_call.TimedCall.{TimedCall}
use Rattle.taps_socket.specs.declared.answers.RecvAnswer.TheVariants as recv
use Rattle.taps_connection.specs.declared.pulled.Pulled.{Pulled}
use Rattle.taps_connection.specs.declared.pulled.Pulled.TheVariants as pulled
use Rattle.taps_connection.specs.Adds.{Adds}
use Rattle.taps_connection.specs.Inboxes.{Inbox, IsPulled, pulled_items, pulled_call}
use Rattle.std.proofs.lemmas.Bool.{ne_eqb}

-- the traffic of a socket but for what was read
abbrev pub IsReadOnly : Traffic → Traffic → Type 0
IsReadOnly before after = after ≡ record before { read = after.read }

item_adds : (net : Net) (socket at : ℕ) (i : Item) → 1 ≤ net.spare → Adds socket (i ∷ []) None net (with_item net i at)
item_adds net socket at i s = record { trace = refl; spare = omega arith; timed = refl; last_timed = refl; faults = refl; others = λ t n. refl }

timed_adds : (net : Net) (socket : ℕ) (call : TimedCall) → Adds socket [] (Some call) net (with_timed net call)
timed_adds net socket call = record { trace = refl; spare = omega arith; timed = refl; last_timed = refl; faults = refl; others = λ t n. refl }

got_adds : (net : Net) (socket until : ℕ) (came : List ℕ) (count at : ℕ) → Adds socket [] None net (after_receive socket until came (recv.Got count at) net)
got_adds net socket until came count at =
    record { trace = refl; spare = omega arith; timed = refl; last_timed = refl; faults = refl; others = λ t n. rw (ne_eqb socket t (λ e. n (sym e))) refl }

got_reads : (net : Net) (socket until : ℕ) (came : List ℕ) (count at : ℕ) → IsReadOnly (net.traffic socket) ((after_receive socket until came (recv.Got count at) net).traffic socket)
got_reads net socket until came count at = rw (eq-eqb socket socket refl) refl

pub pull_adds : {N : Type 0} (Becomes : N → List Call → N → Type 0) (before after : N) (net net' : Net) (socket until : ℕ) (i : Inbox) (answer : Pulled) (j : Inbox) → 1 ≤ net.spare →
    IsPulled Becomes before after net net' socket until i answer j → Adds socket (pulled_items socket answer) (pulled_call socket until answer) net net'
pull_adds Becomes before after net net' socket until i pulled.Got j s p =
    subst (λ n. Adds socket [] None net n) (sym p.pulled.2.0.changed) (got_adds net socket until p.came p.pulled.0 p.pulled.1)
pull_adds Becomes before after net net' socket until i pulled.Ended j s p =
    subst (λ n. Adds socket (pulled_items socket pulled.Ended) None net n) (sym p.pulled.0.changed) (item_adds net socket net.told _ s)
pull_adds Becomes before after net net' socket until i (pulled.Timed at) j s p =
    subst (λ n. Adds socket [] (pulled_call socket until (pulled.Timed at)) net n) (sym p.pulled.0.changed) (timed_adds net socket _)
pull_adds Becomes before after net net' socket until i (pulled.Failed cause) j s p =
    subst (λ n. Adds socket (pulled_items socket (pulled.Failed cause)) None net n) (sym p.pulled.0.changed) (item_adds net socket net.told _ s)
pull_adds Becomes before after net net' socket until i pulled.NoMemory j s p =
    subst (λ n. Adds socket [] None net n) (sym p.pulled.0.unchanged) (record { trace = refl; spare = omega arith; timed = refl; last_timed = refl; faults = refl; others = λ t n. refl })

pub pull_reads : {N : Type 0} (Becomes : N → List Call → N → Type 0) (before after : N) (net net' : Net) (socket until : ℕ) (i : Inbox) (answer : Pulled) (j : Inbox) →
    IsPulled Becomes before after net net' socket until i answer j → IsReadOnly (net.traffic socket) (net'.traffic socket)
pull_reads Becomes before after net net' socket until i pulled.Got j p =
    subst (λ n. IsReadOnly (net.traffic socket) (n.traffic socket)) (sym p.pulled.2.0.changed) (got_reads net socket until p.came p.pulled.0 p.pulled.1)
pull_reads Becomes before after net net' socket until i pulled.Ended j p = subst (λ n. IsReadOnly (net.traffic socket) (n.traffic socket)) (sym p.pulled.0.changed) refl
pull_reads Becomes before after net net' socket until i (pulled.Timed at) j p = subst (λ n. IsReadOnly (net.traffic socket) (n.traffic socket)) (sym p.pulled.0.changed) refl
pull_reads Becomes before after net net' socket until i (pulled.Failed cause) j p = subst (λ n. IsReadOnly (net.traffic socket) (n.traffic socket)) (sym p.pulled.0.changed) refl
pull_reads Becomes before after net net' socket until i pulled.NoMemory j p = subst (λ n. IsReadOnly (net.traffic socket) (n.traffic socket)) (sym p.pulled.0.unchanged) refl
