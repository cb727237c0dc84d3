-- From what is printed to how a command ended, over the calls that were made on sockets.
use Rattle.std.proofs.Common.{◌≡◌, ℕ, true, false, List, [], Ok, Err, Result, refl, sym, ◌∙◌, ap, subst, inl, inr, length, arith}
use Rattle.std.specs.Prelude.{◌==◌, IfOk}
use Rattle.taps_base.specs.Files.{FilesState}
use Rattle.taps_base.specs.Sinks.{SinkState}
use Rattle.taps_base.specs.declared.no_memory.NoMemory.{NoMemory}
use Rattle.taps_base.specs.declared.sink.SinkAnswer.TheVariants as answers
use Rattle.taps_socket.specs.declared.item.Item.{Item}
use Rattle.taps_socket.specs.Calls.{Call}
use Rattle.taps_socket.specs.Net.{Net}
use Rattle.taps_text.specs.ErrorLines.{usage_line}
use Rattle.taps_command.specs.Asked.{asked, HasBeenRun}
use Rattle.taps_command.specs.Meanings.{Meaning, IsPrinted, HasText}
use Rattle.taps_command.specs.Nets.{SocketsState, HasRun, IsClosedOnce, uncalled}
use Rattle.taps_command.specs.Runs.{Ends, Gathers, HaveCome, HasEnded, ReadsWell, ReadsFew, Says, Takes, status_of, world}
use Rattle.taps_command.specs.Telling.{Tells}
use Rattle.taps_command.specs.declared.printed.Printed.{Printed}
use Rattle.taps_command.specs.declared.status.Status.{Status}
use Rattle.taps_command.specs.declared.status.Status.TheVariants as status
use Rattle.taps_command.specs.declared.stop.Stop.{Stop}
use Rattle.taps_command.specs.declared.stop.Stop.TheVariants.{Refused, FileFault, SinkFault, NoMemory as WantOfMemory}
use Rattle.taps_command.proofs.Causes.{no_command, by_cause}

-- what holds of the calls may be said otherwise
pub ran_on : {S : Type 0} (Becomes : S → List Call → S → Type 0) (a b : S) (n n' : Net) (P Q : SocketsState → SocketsState → Type 0) → HasRun Becomes a b n n' P
    → ((new : SocketsState) → P (uncalled n) new → Q (uncalled n) new) → HasRun Becomes a b n n' Q
ran_on Becomes a b n n' P Q r onward = record { calls = r.calls; becomes = r.becomes; shows = r.shows; holds = onward (record { net = n'; calls = r.calls }) r.holds }

pub none_closed : (trace : List Item) → trace ≡ [] → IsClosedOnce trace
none_closed trace e = subst IsClosedOnce (sym e) (record { all = λ s h. h; once = tt })

-- sockets that were not touched have no open one
untouched_closed : (n : Net) (new : SocketsState) → n.trace ≡ [] → new ≡ uncalled n → IsClosedOnce new.net.trace
untouched_closed n new e same = none_closed new.net.trace (ap (λ (s : SocketsState). s.net.trace) same ∙ e)

few_reads : (m : Meaning) (files files' : FilesState) → ReadsWell (length m.readings) files files' → ReadsFew m files files'
few_reads m files files' r = record { reads = (let same = r.reads in omega arith); faults = r.faults }

-- the text was written whole
pub ended_done : {S : Type 0} (Becomes : S → List Call → S → Type 0) (a b : S) (n n' : Net) (m : Meaning) (names : List (List ℕ)) (files files' : FilesState) (out out' : SinkState) (value : m.Value) (printed : Printed)
    → HaveCome m names (length m.readings) value files files' → HasRun Becomes a b n n' (IsPrinted (m.Prints value) (m.MayLeave value) (Ok printed)) → HasText printed.status
    → Takes answers.Taken out out' printed.text.items → HasRun Becomes a b n n' (HasEnded m names files files' out out' (Ok printed.status))
ended_done Becomes a b n n' m names files files' out out' value printed come r has takes =
    ran_on Becomes a b n n' (IsPrinted (m.Prints value) (m.MayLeave value) (Ok printed)) (HasEnded m names files files' out out' (Ok printed.status)) r
    (λ new p. record {
      cause = (record { value = value; comes = come.comes; text = printed.text.items; prints = p.prints; takes = takes; reads = come.reads }, has);
      lawful = inr (value, come.comes, p.leaves);
      closed_once = p.closed_once;
    })

-- it was not
pub ended_cut : {S : Type 0} (Becomes : S → List Call → S → Type 0) (a b : S) (n n' : Net) (m : Meaning) (names : List (List ℕ)) (files files' : FilesState) (out out' : SinkState) (value : m.Value) (printed : Printed)
    → HaveCome m names (length m.readings) value files files' → HasRun Becomes a b n n' (IsPrinted (m.Prints value) (m.MayLeave value) (Ok printed))
    → Takes answers.Failed out out' printed.text.items → HasRun Becomes a b n n' (HasEnded m names files files' out out' (Err SinkFault))
ended_cut Becomes a b n n' m names files files' out out' value printed come r takes =
    ran_on Becomes a b n n' (IsPrinted (m.Prints value) (m.MayLeave value) (Ok printed)) (HasEnded m names files files' out out' (Err SinkFault)) r
    (λ new p. record {
      cause = (printed.status, record { value = value; comes = come.comes; text = printed.text.items; prints = p.prints; takes = takes; reads = come.reads });
      lawful = inr (value, come.comes, p.leaves);
      closed_once = p.closed_once;
    })

-- memory ran out for it
pub ended_unprinted : {S : Type 0} (Becomes : S → List Call → S → Type 0) (a b : S) (n n' : Net) (m : Meaning) (names : List (List ℕ)) (files files' : FilesState) (out : SinkState) (value : m.Value) (none : NoMemory)
    → HaveCome m names (length m.readings) value files files' → HasRun Becomes a b n n' (IsPrinted (m.Prints value) (m.MayLeave value) (Err none))
    → HasRun Becomes a b n n' (HasEnded m names files files' out out (Err WantOfMemory))
ended_unprinted Becomes a b n n' m names files files' out value none come r =
    ran_on Becomes a b n n' (IsPrinted (m.Prints value) (m.MayLeave value) (Err none)) (HasEnded m names files files' out out (Err WantOfMemory)) r
    (λ new p. record {
      cause = (few_reads m files files' come.reads, refl);
      lawful = inr (value, come.comes, p.leaves);
      closed_once = p.closed_once;
    })

-- what stopped it came before any call on the sockets
stopped : (m : Meaning) (names : List (List ℕ)) (files files' : FilesState) (out : SinkState) (n : Net) (new : SocketsState) (stop : Stop)
    → Gathers m (λ (value : m.Value). value) names files files' (Err stop) → new ≡ uncalled n → Ends m names (world files out (uncalled n)) (world files' out new) (Err stop)
stopped m names files files' out n new (Refused place why) g same = (g.0, g.1, record { out = refl; sockets = same })
stopped m names files files' out n new (FileFault place) g same = (g, record { out = refl; sockets = same })
stopped m names files files' out n new SinkFault g same = absurd g
stopped m names files files' out n new WantOfMemory g same = (g, refl)

pub ended_before : {S : Type 0} (Becomes : S → List Call → S → Type 0) (a b : S) (n n' : Net) (m : Meaning) (names : List (List ℕ)) (files files' : FilesState) (out : SinkState) (stop : Stop)
    → n.trace ≡ [] → Gathers m (λ (value : m.Value). value) names files files' (Err stop) → HasRun Becomes a b n n' (λ old new. new ≡ old) → HasRun Becomes a b n n' (HasEnded m names files files' out out (Err stop))
ended_before Becomes a b n n' m names files files' out stop fresh g r =
    ran_on Becomes a b n n' (λ old new. new ≡ old) (HasEnded m names files files' out out (Err stop)) r
    (λ new same. record {
      cause = stopped m names files files' out n new stop g same;
      lawful = inl same;
      closed_once = untouched_closed n new fresh same;
    })

-- the arguments are no command
pub run_none : {S : Type 0} (Becomes : S → List Call → S → Type 0) (a b : S) (n n' : Net) (m : Meaning) (names : List (List ℕ)) (files : FilesState) (out err err' : SinkState) (s : Status)
    → n.trace ≡ [] → (length names == length m.readings) ≡ false → s ≡ status.Usage → Tells err err' usage_line → HasRun Becomes a b n n' (λ old new. new ≡ old)
    → HasRun Becomes a b n n' (HasBeenRun (asked m names) files files out out err err' s)
run_none Becomes a b n n' m names files out err err' s fresh other same tells r =
    ran_on Becomes a b n n' (λ old new. new ≡ old) (HasBeenRun (asked m names) files files out out err err' s) r
    (λ new untouched. subst (λ w. HasBeenRun (asked m names) files files out out err err' s (uncalled n) w) (sym untouched)
    (record { run = no_command m names (world files out (uncalled n)) err err' s other same tells; closed_once = none_closed n.trace fresh }))

-- the command was carried out
pub run_ended : {S : Type 0} (Becomes : S → List Call → S → Type 0) (a b : S) (n n' : Net) (m : Meaning) (names : List (List ℕ)) (files files' : FilesState) (out out' err err' : SinkState) (e : Result Status Stop) (s : Status)
    → (length names == length m.readings) ≡ true → HasRun Becomes a b n n' (HasEnded m names files files' out out' e) → Says names err err' e → s ≡ status_of e
    → HasRun Becomes a b n n' (HasBeenRun (asked m names) files files' out out' err err' s)
run_ended Becomes a b n n' m names files files' out out' err err' e s fits r says gives =
    ran_on Becomes a b n n' (HasEnded m names files files' out out' e) (HasBeenRun (asked m names) files files' out out' err err' s) r
    (λ new h. record {
      run = by_cause m names (world files out (uncalled n)) (world files' out' new) err err' e s fits h.cause says gives h.lawful;
      closed_once = h.closed_once;
    })

-- calls may be related otherwise
pub ran_by : {S T : Type 0} (First : S → List Call → S → Type 0) (Second : T → List Call → T → Type 0) (a b : S) (c d : T) (n n' : Net) (P : SocketsState → SocketsState → Type 0)
    → ((calls : List Call) → First a calls b → Second c calls d) → HasRun First a b n n' P → HasRun Second c d n n' P
ran_by First Second a b c d n n' P to r = record { calls = r.calls; becomes = to r.calls r.becomes; shows = r.shows; holds = r.holds }

-- a command that does not use the sockets prints what it says, whatever they are
pub untouched_printed : {S : Type 0} (Becomes : S → List Call → S → Type 0) (a b : S) (n n' : Net) (Q : List ℕ → Status → Type 0) (result : Result Printed NoMemory)
    → n.trace ≡ [] → IfOk result (λ printed. Q printed.text.items printed.status) → HasRun Becomes a b n n' (λ old new. new ≡ old)
    → HasRun Becomes a b n n' (IsPrinted (λ old new text s. Q text s) (λ old new. new ≡ old) result)
untouched_printed Becomes a b n n' Q result fresh prints r =
    ran_on Becomes a b n n' (λ old new. new ≡ old) (IsPrinted (λ old new text s. Q text s) (λ old new. new ≡ old) result) r
    (λ new same. record { prints = prints; leaves = same; closed_once = untouched_closed n new fresh same })
