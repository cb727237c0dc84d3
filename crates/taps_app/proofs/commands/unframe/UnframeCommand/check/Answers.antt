use Rattle.std.proofs.Common.{◌≡◌, ◌≤◌, ◌<◌, ℕ, zero, suc, List, Some, slice_get, length, refl, arith}
use Rattle.taps_framer.specs.Layers.{Layer}
use Rattle.taps_command.specs.Checks.{most_framed}
use Rattle.taps_command.specs.Meanings.{Reading}
use Rattle.taps_app.specs.Unframe.{unframe}
use Rattle.taps_command.specs.declared.two_files.TwoFiles.{TwoFiles}
use Rattle.taps_app.proofs.commands.unframe.UnframeCommand.check.Goals as goal

-- the second file has no more bytes than are read
second_short : (shelf : List Layer) (at : ℕ) (bytes : List ℕ) → at < 2 → 1 ≤ at
    → ((reading : Reading (TwoFiles (List ℕ))) → slice_get (unframe shelf).readings at ≡ Some reading → length bytes ≤ reading.limit) → length bytes ≤ most_framed
second_short shelf zero bytes within later short = omega arith
second_short shelf (suc zero) bytes within later short = short _ refl
second_short shelf (suc (suc at)) bytes within later short = omega arith

pub check_bytes-requires-clause-few : goal.check_bytes-requires-clause-few
check_bytes-requires-clause-few g c =
    let later : 1 ≤ c.args.at = omega (arith, c.in_default) in
    second_short g.L.Layers.layers c.args.at c.args.bytes.now c.requires.place later c.requires.short
