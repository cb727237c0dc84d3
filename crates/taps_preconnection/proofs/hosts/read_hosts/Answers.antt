use Rattle.std.proofs.Common.{◌≡◌, ◌∷◌, string_bytes, arith}
use Rattle.std.proofs.lemmas.Result.{err_from_is_err_and}
use Rattle.std.proofs.lemmas.Grind.{common_steps}
use Rattle.toml.specs.View.{view, members_view}
use Rattle.toml.proofs.Views.{Entry}
use Rattle.taps_table.specs.Places.{place_text}
use Rattle.taps_preconnection.proofs.HostSteps.{host_read, host_refused}
use Rattle.taps_preconnection.proofs.hosts.read_hosts.Goals as goal

pub returns-in_err-read_host : goal.returns-in_err-read_host
returns-in_err-read_host c =
    let p = err_from_is_err_and c.from_residual.result c.from_residual.ensures.1 in
    let e : Entry = (c.in-Some.key.now, c.in-Some.value.now) in
    let iter : c.loop-key.key-iterator ≡ e ∷ c.next.new.self = grind (arith, common_steps) in
    rw (p.1, p.2) (host_refused (place_text c.args.place.now) (string_bytes c.in-Some.key.now) (view c.in-Some.value.now) (members_view c.next.new.self) c.loop-key.hosts _ c.in_err-read_host.field-0.0 (rw iter at c.loop-key.invariant) (rw c.as_str.ensures.value at c.in_err-read_host.ensures))

pub loop-key-preserved : goal.loop-key-preserved
loop-key-preserved c =
    let e : Entry = (c.in-Some.key.now, c.in-Some.value.now) in
    let iter : c.loop-key.key-iterator ≡ e ∷ c.next.new.self = grind (arith, common_steps) in
    host_read (place_text c.args.place.now) (string_bytes c.in-Some.key.now) (view c.in-Some.value.now) (members_view c.next.new.self) c.loop-key.hosts _ c.read_host.new.hosts (rw iter at c.loop-key.invariant) (rw c.as_str.ensures.value at c.in_ok-read_host.ensures)
