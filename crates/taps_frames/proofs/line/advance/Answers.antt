use Rattle.std.proofs.Common.{◌+◌, ◌++◌, arith}
use Rattle.taps_framer.proofs.Bytes.{are_bytes_fit}
use Rattle.taps_frames.proofs.Lines.{place_is, line_represents, line_too_long, line_waits, line_ends}
use Rattle.taps_frames.proofs.line.advance.Goals as goal

pub returns-then-place-room : goal.returns-then-place-room
returns-then-place-room c = λ x h. line_too_long c.args._index x c.args.bytes.now c.first_of.result.now c.args.scan.length c.line_len-place.result h.told (are_bytes_fit _ c.type_inv.bytes)
    c.first_of.ensures c.line_len-place.ensures.within c.line_len-place.ensures.one c.if-place-room.true

pub returns-then-place-bytes : goal.returns-then-place-bytes
returns-then-place-bytes c = λ x h.
    line_represents c.args._index (record { phase = 0; length = c.args.scan.length + c.line_len-place.result; rest = 0 }) (x ++ c.args.bytes.now)
    (line_waits c.args._index x c.args.bytes.now c.first_of.result.now c.args.scan.length c.line_len-place.result h.told (are_bytes_fit _ c.type_inv.bytes)
    c.first_of.ensures c.line_len-place.ensures.within c.line_len-place.ensures.one c.if-place-room.false c.if-place-bytes.true)

pub returns : goal.returns
returns c = λ x h.
    let w = c.line_len-place.ensures.within in (
      omega arith,
      omega (
        arith,
        (place_is c.args._index x c.args.bytes.now c.first_of.result.now c.args.scan.length c.line_len-place.result h.told (are_bytes_fit _ c.type_inv.bytes)
            c.first_of.ensures c.line_len-place.ensures.within c.line_len-place.ensures.one).0,
        c.if-place-bytes.false,
      ),
      line_ends c.args._index x c.args.bytes.now c.first_of.result.now c.args.scan.length c.line_len-place.result h.told (are_bytes_fit _ c.type_inv.bytes)
          c.first_of.ensures c.line_len-place.ensures.within c.line_len-place.ensures.one c.if-place-room.false (omega (
            arith,
            (place_is c.args._index x c.args.bytes.now c.first_of.result.now c.args.scan.length c.line_len-place.result h.told (are_bytes_fit _ c.type_inv.bytes)
                c.first_of.ensures c.line_len-place.ensures.within c.line_len-place.ensures.one).0,
            c.if-place-bytes.false,
          )) c.line_len-place.ensures.ends,
    )
