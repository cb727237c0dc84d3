use Rattle.std.specs.Prelude.{map, codes, string_bytes}
use Rattle.taps_base.specs.MemoryFiles.{held_at}
use Rattle.taps_loop_rows.proofs.Told.{prints_so}
use Rattle.taps_loop_rows.proofs.running.run_in_memory.Goals as goal

pub returns : goal.returns
returns g c =
    let ran = c.run-status.ensures.promises in
    record {
      heard = prints_so (map (λ b. (goal.Framer-dyn g (b.vtable, b.value)).layer b.value) c.args.shelf.now.items) c.vouch_shelf.ensures c.args.net.now c.run-status.new.net ran.calls ran.becomes c.requires.fresh
          c.joins_winner.ensures.joined c.joins_winner.ensures.stream c.vouch_loops.ensures.heard (λ n. held_at c.add.new.self n)
          (string_bytes c.in_ok-from_str.field-0) (string_bytes c.in_ok-from_str-2.field-0) (codes "loop.toml") c.args.file.now (g.O.Sink.state c.args.out.now) (g.O.Sink.state c.run-status.new.out) c.run-status.result
          c.in_ok-from_str.ensures.ok c.in_ok-from_str-2.ensures.ok c.in_ok-add.ensures.added ran.holds.exchanged;
    }
