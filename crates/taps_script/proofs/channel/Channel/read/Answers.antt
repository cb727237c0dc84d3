use Rattle.std.proofs.Common.{◌<◌, ◌^◌, length, subst, arith}
use Rattle.taps_script.specs.Channels.{most_read}
use Rattle.taps_script.proofs.Pieces.{most_written}
use Rattle.taps_script.proofs.channel.Channel.read.Goals as goal

pub returns-clause-few : goal.returns-clause-few
returns-clause-few c =
    let s = c.self.inside in
    let bytes : length s.bytes.items < 2 ^ 64 = omega (arith, s.bytes.ok.0, s.bytes.small) in
    let lengths : length s.lengths.items < 2 ^ 64 = omega (arith, s.lengths.ok.0, s.lengths.small) in
    subst (λ v. most_read v.stream v.written < 2 ^ 64) c.self.view_is (most_written s.stream s.bytes.items s.lengths.items bytes lengths)
