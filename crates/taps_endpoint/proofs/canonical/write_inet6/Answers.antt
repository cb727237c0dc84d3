use Rattle.std.proofs.Common.{◌≡◌, length, rules, arith}
use Rattle.taps_endpoint.proofs.CanonicalReads.{InRange, inet6_canonical}
use Rattle.taps_endpoint.proofs.WrittenTexts.{written_so}
use Rattle.taps_endpoint.proofs.canonical.write_inet6.Goals as goal

pub returns-clause-again : goal.returns-clause-again
returns-clause-again c =
    let eight : length c.args.fields ≡ 8 = search rules in
    let range : InRange c.args.fields = record { at = λ k. search rules } in
    written_so c.printed.result c.printed.ensures (λ body is some. rw is (inet6_canonical c.args.fields c.args.port eight range some (omega arith)))
