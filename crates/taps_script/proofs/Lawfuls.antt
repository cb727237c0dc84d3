-- The calls on scripted sockets are lawful.
use Rattle.std.proofs.Common.{◌≡◌, ℕ, ◌≤◌, true, false, arith}
use Rattle.taps_base.specs.Counts.{Rose}
use Rattle.taps_socket.specs.declared.item.How.{How}
use Rattle.taps_socket.specs.declared.item.How.TheVariants as how
use Rattle.taps_socket.specs.Net.{Net, MayEnd}
use Rattle.taps_script.specs.ScriptNet.{count_after}
use Rattle.taps_socket.specs.Shows.{EndsInTime, is_fault_end}

pub ends_in_time : (end : How) (until at : ℕ) (before after : Net) → MayEnd end until at before after → EndsInTime end until at before.trace
ends_in_time how.Reached until at before after h = h
ends_in_time (how.Completed socket) until at before after h = h
ends_in_time (how.Broke socket cause) until at before after h = h
ends_in_time how.Faulted until at before after h = tt

pub rose : (end : How) (until at : ℕ) (before after : Net) → MayEnd end until at before after → is_fault_end end ≡ true → Rose before.faults after.faults
rose how.Reached until at before after h e = let z : false ≡ true = e in absurd cc
rose (how.Completed socket) until at before after h e = let z : false ≡ true = e in absurd cc
rose (how.Broke socket cause) until at before after h e = let z : false ≡ true = e in absurd cc
rose how.Faulted until at before after h e = h

pub no_fewer : (end : How) (faults : ℕ) → faults ≤ count_after end faults
no_fewer how.Reached faults = omega arith
no_fewer (how.Completed s) faults = omega arith
no_fewer (how.Broke s cause) faults = omega arith
no_fewer how.Faulted faults = omega arith
