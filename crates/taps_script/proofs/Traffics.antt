-- The traffic of sockets by their channels.
use Rattle.std.proofs.Common.{◌≡◌, ℕ, zero, suc, ◌-◌, ◌<◌, ◌≤◌, Bool, true, false, List, [], ◌∷◌, ◌++◌, length, length-append, ◌^◌, refl, ap, sym, subst, arith, if◌then◌else◌}
use Rattle.std.specs.Prelude.{◌==◌, slice_get, slice_set, Option, None, Some}
use Rattle.std.specs.List.{concat}
use Rattle.std.proofs.Math.Path.{fun_ext}
use Rattle.std.proofs.lemmas.Bool.Decides.{nat_tests}
use Rattle.taps_stack.specs.declared.target.Target.{Target}
use Rattle.taps_stack.specs.StackTable.{is_stream}
use Rattle.taps_socket.specs.declared.item.Item.{Item}
use Rattle.taps_socket.specs.declared.item.Item.TheVariants as item
use Rattle.taps_socket.specs.declared.timed_call.TimedCall.{TimedCall}
use Rattle.taps_socket.specs.RaceSockets.{has}
use Rattle.taps_socket.specs.LiveSockets.{named}
use Rattle.taps_socket.specs.Net.{Net, with_item, IsGiven, IsUnused, with_piece}
use Rattle.taps_socket.specs.declared.answers.WaitAnswer.{WaitAnswer}
use Rattle.taps_script.specs.declared.line.Line.{Line}
use Rattle.taps_script.specs.ScriptLines.{fate_under}
use Rattle.taps_script.specs.ScriptAnswers.{to_come, time_in}
use Rattle.taps_script.specs.DataAnswers.{Link}
use Rattle.taps_script.specs.ScriptSteps.{link_by}
use Rattle.taps_script.specs.Channels.{Channel, fresh, no_traffic, traffic_of, traffic_at, link_of, most_read, IsWithin}
use Rattle.taps_script.specs.ScriptLines.{is_echoing}
use Rattle.taps_script.specs.PeerTimes.{sent_pieces}
use Rattle.taps_script.specs.ScriptNet.{Scripted, net_of, after_start, IsChannelOf, IsKept, sent_in}

-- past the channels there is no traffic
past_end : (lines : List Line) (cs : List Channel) (n : ℕ) → length cs ≤ n → traffic_at lines cs n ≡ no_traffic
past_end lines [] n h = refl
past_end lines (c ∷ cs) zero h = absurd (omega arith)
past_end lines (c ∷ cs) (suc n) h = past_end lines cs n (omega arith)

unused : IsUnused no_traffic
unused = record { no_room = refl; never_sent = refl; none_written = refl; none_read = refl }

-- so the next socket is new
pub new_socket : (s : Scripted) (n : ℕ) → ((x : ℕ) → has (named s.trace) x ≡ true → x < n) → n ≡ length s.channels → IsGiven n (net_of s)
new_socket s n below count =
    record { number = below; unused = subst IsUnused (sym (past_end s.lines s.channels n (omega arith))) unused }

-- a socket's traffic is that of its channel
pub traffic_found : (lines : List Line) (cs : List Channel) (s : ℕ) (c : Channel) → slice_get cs s ≡ Some c → traffic_at lines cs s ≡ traffic_of lines c
traffic_found lines [] s c h = let z : None ≡ Some c = h in absurd cc
traffic_found lines (d ∷ cs) zero c h = let same : d ≡ c = cc in ap (traffic_of lines) same
traffic_found lines (d ∷ cs) (suc s) c h = traffic_found lines cs s c h

-- one socket more has none
more_by : (lines : List Line) (cs : List Channel) (stream : Bool) (done s : ℕ) → traffic_at lines (cs ++ fresh stream done ∷ []) s ≡ traffic_at lines cs s
more_by lines [] true done zero = refl
more_by lines [] false done zero = refl
more_by lines [] stream done (suc s) = refl
more_by lines (c ∷ cs) stream done zero = refl
more_by lines (c ∷ cs) stream done (suc s) = more_by lines cs stream done s

pub traffic_more : (lines : List Line) (cs : List Channel) (stream : Bool) (done : ℕ) → traffic_at lines (cs ++ fresh stream done ∷ []) ≡ traffic_at lines cs
traffic_more lines cs stream done = fun_ext (λ s. more_by lines cs stream done s)

first_test : (s : ℕ) → (0 == suc s) ≡ false
first_test s = grind (arith, nat_tests)

last_test : (k : ℕ) → (suc k == 0) ≡ false
last_test k = grind (arith, nat_tests)

next_test : (k s : ℕ) → (suc k == suc s) ≡ (k == s)
next_test k s = grind (arith, nat_tests)

-- another channel of a socket changes its traffic alone
set_by : (lines : List Line) (cs : List Channel) (k s : ℕ) (c : Channel) → k < length cs → traffic_at lines (slice_set cs k c) s ≡ (if k == s then traffic_of lines c else traffic_at lines cs s)
set_by lines [] k s c h = absurd (omega arith)
set_by lines (d ∷ cs) zero zero c h = refl
set_by lines (d ∷ cs) zero (suc s) c h = rw (first_test s) refl
set_by lines (d ∷ cs) (suc k) zero c h = rw (last_test k) refl
set_by lines (d ∷ cs) (suc k) (suc s) c h = rw (next_test k s) (set_by lines cs k s c (omega arith))

pub traffic_set : (lines : List Line) (cs : List Channel) (k : ℕ) (c : Channel) → k < length cs → traffic_at lines (slice_set cs k c) ≡ (λ s. if k == s then traffic_of lines c else traffic_at lines cs s)
traffic_set lines cs k c h = fun_ext (λ s. set_by lines cs k s c h)

-- the link of a channel is what is seen of its socket
link_same : (stream stream' : Bool) (done done' : ℕ) (written read : List (List ℕ)) → stream ≡ stream' → done ≡ done' →
    (let l : Link = record { stream = stream; done = done; written = written; read = read } in l) ≡ record { stream = stream'; done = done'; written = written; read = read }
link_same stream stream' done done' written read s d = rw (s, d) refl

pub linked : (lines : List Line) (t : List Item) (cs : List Channel) (s : ℕ) (c : Channel) → slice_get cs s ≡ Some c → IsChannelOf lines t s c → link_of lines c ≡ link_by lines t s (traffic_at lines cs s).written (traffic_at lines cs s).read
linked lines t cs s c there h = rw (traffic_found lines cs s c there) (link_same _ _ _ _ _ _ h.stream h.done)

-- what is seen after a start
pub started_view : (v : Scripted) (lines : List Line) (clock : ℕ) (trace trace' : List Item) (told spare faults : ℕ) (channels channels' : List Channel) (timed : ℕ) (last : Option TimedCall) (leaf : ℕ) (target : Target) (socket at : ℕ) →
    (let s : Scripted = record { lines = lines; clock = clock; trace = trace; told = told; spare = spare; faults = faults; channels = channels; timed = timed; last_timed = last } in s) ≡ v →
    at ≡ clock → trace' ≡ item.Started leaf target socket at ∷ trace →
    channels' ≡ channels ++ fresh (is_stream target.stack) (time_in (to_come (fate_under leaf lines) socket at)) ∷ [] →
    (let s : Scripted = record { lines = lines; clock = clock; trace = trace'; told = clock; spare = spare - 1; faults = faults; channels = channels'; timed = timed; last_timed = last } in s) ≡ after_start v leaf target socket at
started_view v lines clock trace trace' told spare faults channels channels' timed last leaf target socket at is moment items more =
    subst (λ v. (let s : Scripted = record { lines = lines; clock = clock; trace = trace'; told = clock; spare = spare - 1; faults = faults; channels = channels'; timed = timed; last_timed = last } in s) ≡ after_start v leaf target socket at) is
    (rw (items, more, ← moment) refl)

-- no more was read than there is, also after a send
most_more : (echo stream : Bool) (piece : List ℕ) (written other : List (List ℕ)) → most_read stream (if echo then written else other) ≤ most_read stream (if echo then with_piece stream piece written else other)
most_more false true piece written other = omega arith
most_more false false piece written other = omega arith
most_more true true piece written other = omega (arith, length-append (concat written) piece, length-append (concat written ++ piece) [])
most_more true false piece written other = omega (arith, length-append written (piece ∷ []))

pub within_sent : (lines : List Line) (c : Channel) (piece : List ℕ) (at : ℕ) → IsWithin lines c → IsWithin lines (sent_in c piece at)
within_sent lines c piece at h = let more = most_more (is_echoing lines) c.stream piece c.written (sent_pieces lines) in omega arith

pub kept_at : (lines : List Line) (t : List Item) (now told waits n at : ℕ) (es : List WaitAnswer) → IsKept lines t now told waits n es → at < 2 ^ 63 → IsKept lines t at at waits n es
kept_at lines t now told waits n at es h fits =
    record { fits = fits; told_before = omega arith; waits_are = h.waits_are; started_are = h.started_are; events_are = h.events_are; named_below = h.named_below }

-- what is seen after a start is one item more
pub start_net : (a : Scripted) (leaf : ℕ) (target : Target) (socket at : ℕ) → net_of (after_start a leaf target socket at) ≡ with_item (net_of a) (item.Started leaf target socket at) at
start_net a leaf target socket at =
    ap (λ t. (let n : Net = record { trace = item.Started leaf target socket at ∷ a.trace; told = at; spare = a.spare - 1; faults = a.faults; traffic = t; timed = a.timed; last_timed = a.last_timed } in n))
    (traffic_more a.lines a.channels (is_stream target.stack) (time_in (to_come (fate_under leaf a.lines) socket at)))
