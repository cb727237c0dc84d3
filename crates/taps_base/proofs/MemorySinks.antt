-- What a sink in memory does to its bytes and counts is what a sink may do.
use Rattle.std.proofs.Common.{◌≡◌, ℕ, ◌<◌, ◌++◌, List, length, leb, true, false, refl, ap, inl, inr, arith}
use Rattle.std.proofs.lemmas.Bool.{cases_Bool, leb-true}
use Rattle.std.proofs.lemmas.List.{take_all}
use Rattle.taps_base.specs.Sinks.{Receives}
use Rattle.taps_base.specs.MemorySink.{MemorySinkState, sink_state, fitting, answer_for, state_after}

whole : (s : MemorySinkState) (bytes : List ℕ) → 0 < length bytes → leb (length bytes) (fitting s bytes) ≡ true → Receives (answer_for s bytes) (sink_state s) (sink_state (state_after s bytes)) bytes
unfolding answer_for state_after
whole s bytes some fits = rw fits (record {
  some = some;
  once = refl;
  taken = ap (λ front. s.taken ++ front) (take_all (fitting s bytes) bytes (leb-true (length bytes) (fitting s bytes) fits));
  never_falls = omega arith;
  fault = λ wrong. cc;
  quiet = λ _. refl;
})

front : (s : MemorySinkState) (bytes : List ℕ) → 0 < length bytes → leb (length bytes) (fitting s bytes) ≡ false → Receives (answer_for s bytes) (sink_state s) (sink_state (state_after s bytes)) bytes
unfolding answer_for state_after
front s bytes some misfits = rw misfits (record {
  some = some;
  once = refl;
  taken = (fitting s bytes, refl);
  never_falls = omega arith;
  fault = λ _. omega arith;
  quiet = λ wrong. cc;
})

pub receives : (s : MemorySinkState) (bytes : List ℕ) → 0 < length bytes → Receives (answer_for s bytes) (sink_state s) (sink_state (state_after s bytes)) bytes
receives s bytes some = elim (cases_Bool (leb (length bytes) (fitting s bytes))) [ inl fits ↦ whole s bytes some fits | inr misfits ↦ front s bytes some misfits ]
