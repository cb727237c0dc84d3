-- The greatest time that a connection keeps is none after the last reported one.
use Rattle.std.proofs.Common.{◌≤◌, ℕ, List, ap, arith}
use Rattle.taps_socket.specs.Calls.{Call}
use Rattle.taps_socket.specs.Net.{Net}
use Rattle.taps_connection.specs.declared.pulled.Pulled.{Pulled}
use Rattle.taps_connection.specs.declared.pulled.Pulled.TheVariants as pulled
use Rattle.taps_connection.specs.Inboxes.{Inbox, IsPulled}

pub moment_pulled : {N : Type 0} (Becomes : N → List Call → N → Type 0) (a b : N) (n n' : Net) (socket until : ℕ) (i j : Inbox) (p : Pulled) → IsPulled Becomes a b n n' socket until i p j → i.moment ≤ n.told → j.moment ≤ n'.told
moment_pulled Becomes a b n n' socket until i j pulled.Got h le =
    let told = ap (λ (v : Net). v.told) h.pulled.2.0.changed in
    let kept = ap (λ (v : Inbox). v.moment) h.pulled.2.1 in
    let later = h.pulled.2.0.answered.1.later in
    omega (arith, told, kept, later, le)
moment_pulled Becomes a b n n' socket until i j pulled.Ended h le =
    let told = ap (λ (v : Net). v.told) h.pulled.0.changed in
    let kept = ap (λ (v : Inbox). v.moment) h.pulled.1 in
    omega (arith, told, kept, le)
moment_pulled Becomes a b n n' socket until i j (pulled.Timed at) h le =
    let told = ap (λ (v : Net). v.told) h.pulled.0.changed in
    let kept = ap (λ (v : Inbox). v.moment) h.pulled.1 in
    let later = h.pulled.0.answered.1.later in
    omega (arith, told, kept, later, le)
moment_pulled Becomes a b n n' socket until i j (pulled.Failed cause) h le =
    let told = ap (λ (v : Net). v.told) h.pulled.0.changed in
    let kept = ap (λ (v : Inbox). v.moment) h.pulled.1 in
    omega (arith, told, kept, le)
moment_pulled Becomes a b n n' socket until i j pulled.NoMemory h le =
    let told = ap (λ (v : Net). v.told) h.pulled.0.unchanged in
    let kept = ap (λ (v : Inbox). v.moment) h.pulled.1 in
    omega (arith, told, kept, le)
