use Rattle.std.proofs.Common.{◌≡◌, Some, slice_get, string_bytes, rules, ap, sym, ◌∙◌}
use Rattle.std.proofs.lemmas.Option.{slice_get_read}
use Rattle.taps_command.specs.Runs.{names_of}
use Rattle.taps_command.proofs.Gathering.{goes_on, named_at}
use Rattle.taps_command.proofs.gather.gather.Goals as goal

pub loop-at-preserved : goal.loop-at-preserved
loop-at-preserved g c =
    let names = names_of c.args.names.now in
    let at : slice_get c.args.names.now c.loop-at.at ≡ Some c.index-names-at.result = search (rules, slice_get_read) in
    let named : slice_get names c.loop-at.at ≡ Some c.as_str.result.now =
    named_at (λ name. string_bytes name) c.args.names.now c.loop-at.at c.index-names-at.result at ∙ ap Some (sym c.as_str.ensures.value) in (
      goes_on g.C.Command.meaning names c.loop-at.at (g.C.Command.seen c.loop-at.value) (g.C.Command.seen c.in-Ok.next) c.as_str.result.now
          (g.F.Files.state c.args.files.now) (g.F.Files.state c.loop-at.files) (g.F.Files.state c.read_next.new.files) c.loop-at.invariant.0 named c.in-Ok.ensures.steps,
      c.in-Ok.ensures.kept,
    )
