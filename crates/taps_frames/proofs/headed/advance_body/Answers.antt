use Rattle.std.proofs.Common.{ℕ, ◌+◌, ◌-◌, refl, arith}
use Rattle.taps_framer.proofs.Bytes.{are_bytes_fit}
use Rattle.taps_frames.proofs.HeadedScans.{rest_waits, rest_tailless, rest_tailed, rest_bad}
use Rattle.taps_frames.proofs.headed.advance_body.Goals as goal

pub returns-then-left-scan : goal.returns-then-left-scan
returns-then-left-scan g c = λ x p. rest_waits (g.H.Headed.format c.args.framer.now) (g.H.Headed.number c.args.framer.now) c.vouch_for_heads.ensures c.args._index x c.args.bytes.now c.args.place c.args.scan.length c.args.scan.rest p
    (are_bytes_fit _ c.type_inv.bytes) c.requires.inside _ refl c.if-left-scan.true

pub returns-in-None : goal.returns-in-None
returns-in-None g c = λ x p.
    let last : ℕ = c.args.place + (c.args.scan.rest - 1) in
    let s = c.requires.some in (
      omega arith,
      omega arith,
      rest_tailless (g.H.Headed.format c.args.framer.now) (g.H.Headed.number c.args.framer.now) c.vouch_for_heads.ensures c.args._index x c.args.bytes.now c.args.place c.args.scan.length c.args.scan.rest p
          (are_bytes_fit _ c.type_inv.bytes) c.requires.inside last (omega (arith, s)) (omega arith) c.in-None.ensures,
    )

pub returns-then-bytes-last : goal.returns-then-bytes-last
returns-then-bytes-last g c = λ x p.
    let last : ℕ = c.args.place + (c.args.scan.rest - 1) in
    let s = c.requires.some in (
      omega arith,
      omega arith,
      rest_tailed (g.H.Headed.format c.args.framer.now) (g.H.Headed.number c.args.framer.now) c.vouch_for_heads.ensures c.args._index x c.args.bytes.now c.args.place c.args.scan.length c.args.scan.rest p
          (are_bytes_fit _ c.type_inv.bytes) c.requires.inside last (omega (arith, s)) (omega arith) c.in-Some.tail c.in-Some.ensures c.if-bytes-last.true,
    )

pub returns-else-bytes-last : goal.returns-else-bytes-last
returns-else-bytes-last g c = λ x p.
    let last : ℕ = c.args.place + (c.args.scan.rest - 1) in
    let s = c.requires.some in
    let r = rest_bad (g.H.Headed.format c.args.framer.now) (g.H.Headed.number c.args.framer.now) c.vouch_for_heads.ensures c.args._index x c.args.bytes.now c.args.place c.args.scan.length c.args.scan.rest p
    (are_bytes_fit _ c.type_inv.bytes) c.requires.inside last (omega (arith, s)) (omega arith) c.in-Some.tail c.in-Some.ensures c.if-bytes-last.false in
    (omega arith, r.0, r.1)
