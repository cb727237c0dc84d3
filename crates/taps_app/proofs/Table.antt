-- From the arguments to the command of the table.
use Rattle.std.proofs.Common.{◌≡◌, ℕ, List, [], ◌∷◌, Some, None, refl, sym, subst, String, Global, string_bytes}
use Rattle.taps_base.specs.Files.{FilesState}
use Rattle.taps_base.specs.Sinks.{SinkState}
use Rattle.taps_framer.specs.Layers.{Layer}
use Rattle.taps_socket.specs.Calls.{Call}
use Rattle.taps_socket.specs.Net.{Net}
use Rattle.taps_text.specs.ErrorLines.{usage_line}
use Rattle.taps_command.specs.Asked.{Asked, NoCommand, asked, HasBeenRun}
use Rattle.taps_command.specs.Makings.{IsMade}
use Rattle.taps_command.specs.Nets.{HasRun, uncalled}
use Rattle.taps_command.specs.Runs.{names_of}
use Rattle.taps_command.specs.Telling.{Tells}
use Rattle.taps_command.specs.declared.status.Status.{Status}
use Rattle.taps_command.specs.declared.status.Status.TheVariants as status
use Rattle.taps_command.proofs.Running.{ran_on, none_closed}
use Rattle.taps_app.specs.Arguments.{asked_of, RunsKind}
use Rattle.taps_app.specs.Gen.{gen, number_asked}
use Rattle.taps_app.specs.Kinds.{meaning_of, kind_of}
use Rattle.taps_app.specs.declared.kind.Kind.{Kind}

-- what is said of the meaning of a kind
pub of_kind : {S : Type 0} (Becomes : S → List Call → S → Type 0) (a b : S) (n n' : Net) (shelf : List Layer) (kind other : Kind) (names : List (List ℕ)) (files files' : FilesState) (out out' err err' : SinkState) (s : Status) → kind ≡ other
    → HasRun Becomes a b n n' (HasBeenRun (asked (meaning_of shelf other) names) files files' out out' err err' s) → HasRun Becomes a b n n' (RunsKind shelf kind names files files' out out' err err' s)
of_kind Becomes a b n n' shelf kind other names files files' out out' err err' s same r =
    ran_on Becomes a b n n' (HasBeenRun (asked (meaning_of shelf other) names) files files' out out' err err' s) (RunsKind shelf kind names files files' out out' err err' s) r
    (λ new h. subst (λ (k : Kind). RunsKind shelf k names files files' out out' err err' s (uncalled n) new) (sym same) (record { run = h }))

-- from the arguments to the command
pub of_words : {S : Type 0} (Becomes : S → List Call → S → Type 0) (a b : S) (n n' : Net) (shelf : List Layer) (words : List (String Global)) (word : String Global) (names : List (String Global)) (kind : Kind) (files files' : FilesState) (out out' err err' : SinkState) (s : Status)
    → words ≡ word ∷ names → Some kind ≡ kind_of (string_bytes word)
    → HasRun Becomes a b n n' (RunsKind shelf kind (names_of names) files files' out out' err err' s) → HasRun Becomes a b n n' (HasBeenRun (asked_of shelf words) files files' out out' err err' s)
of_words Becomes a b n n' shelf words word names kind files files' out out' err err' s split found r =
    ran_on Becomes a b n n' (RunsKind shelf kind (names_of names) files files' out out' err err' s) (HasBeenRun (asked_of shelf words) files files' out out' err err' s) r
    (λ new h. rw (split, ← found) h.run)

-- nothing is asked for
none_asked : {S : Type 0} (Becomes : S → List Call → S → Type 0) (a b : S) (n n' : Net) (asks : Asked) (files : FilesState) (out err err' : SinkState) (s : Status)
    → n.trace ≡ [] → asks ≡ NoCommand → s ≡ status.Usage → Tells err err' usage_line → HasRun Becomes a b n n' (λ old new. new ≡ old)
    → HasRun Becomes a b n n' (HasBeenRun asks files files out out err err' s)
none_asked Becomes a b n n' asks files out err err' s fresh none same tells r =
    ran_on Becomes a b n n' (λ old new. new ≡ old) (HasBeenRun asks files files out out err err' s) r
    (λ new untouched. subst (λ w. HasBeenRun asks files files out out err err' s (uncalled n) w) (sym untouched)
    (rw none (record { run = record { cause = record { status = same; untouched = refl; tells = tells }; lawful = refl }; closed_once = none_closed n.trace fresh })))

-- the arguments are `gen` and a number
pub of_gen : {S : Type 0} (Becomes : S → List Call → S → Type 0) (a b : S) (n n' : Net) (shelf : List Layer) (words : List (String Global)) (word : String Global) (names : List (String Global)) (number : ℕ) (files : FilesState) (out out' err err' : SinkState) (s : Status)
    → n.trace ≡ [] → words ≡ word ∷ names → None ≡ kind_of (string_bytes word) → number_asked (string_bytes word) (names_of names) ≡ Some number → IsMade (gen shelf number) out out' err err' s → HasRun Becomes a b n n' (λ old new. new ≡ old)
    → HasRun Becomes a b n n' (HasBeenRun (asked_of shelf words) files files out out' err err' s)
of_gen Becomes a b n n' shelf words word names number files out out' err err' s fresh split found asked made r =
    ran_on Becomes a b n n' (λ old new. new ≡ old) (HasBeenRun (asked_of shelf words) files files out out' err err' s) r
    (λ new untouched. subst (λ w. HasBeenRun (asked_of shelf words) files files out out' err err' s (uncalled n) w) (sym untouched)
    (rw (split, ← found, asked) (record { run = record { cause = record { files = refl; sockets = refl; made = made }; lawful = refl }; closed_once = none_closed n.trace fresh })))

pub of_other_word : {S : Type 0} (Becomes : S → List Call → S → Type 0) (a b : S) (n n' : Net) (shelf : List Layer) (words : List (String Global)) (word : String Global) (names : List (String Global)) (files : FilesState) (out err err' : SinkState) (s : Status)
    → n.trace ≡ [] → words ≡ word ∷ names → None ≡ kind_of (string_bytes word) → number_asked (string_bytes word) (names_of names) ≡ None → s ≡ status.Usage → Tells err err' usage_line → HasRun Becomes a b n n' (λ old new. new ≡ old)
    → HasRun Becomes a b n n' (HasBeenRun (asked_of shelf words) files files out out err err' s)
of_other_word Becomes a b n n' shelf words word names files out err err' s fresh split found none same tells r =
    none_asked Becomes a b n n' (asked_of shelf words) files out err err' s fresh (rw (split, ← found, none) refl) same tells r

pub of_no_word : {S : Type 0} (Becomes : S → List Call → S → Type 0) (a b : S) (n n' : Net) (shelf : List Layer) (words : List (String Global)) (files : FilesState) (out err err' : SinkState) (s : Status)
    → n.trace ≡ [] → words ≡ [] → s ≡ status.Usage → Tells err err' usage_line → HasRun Becomes a b n n' (λ old new. new ≡ old)
    → HasRun Becomes a b n n' (HasBeenRun (asked_of shelf words) files files out out err err' s)
of_no_word Becomes a b n n' shelf words files out err err' s fresh none same tells r =
    none_asked Becomes a b n n' (asked_of shelf words) files out err err' s fresh (rw none refl) same tells r
