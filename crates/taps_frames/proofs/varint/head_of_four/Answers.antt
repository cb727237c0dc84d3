use Rattle.std.proofs.Common.{arith}
use Rattle.taps_framer.proofs.Bytes.{are_bytes_fit}
use Rattle.taps_frames.proofs.VarintHeads.{begun_four}
use Rattle.taps_frames.proofs.VarintPlaces.{bad_first, bad_third, whole_four}
use Rattle.taps_frames.proofs.varint.head_of_four.Goals as goal

pub returns-then-number : goal.returns-then-number
returns-then-number c = λ i.
    let e = c.number_in-number.ensures in
    let p = c.type_inv.buffer 1 in let q = c.type_inv.buffer 2 in let r = c.type_inv.buffer 3 in
    bad_first i c.args.buffer.now (are_bytes_fit _ c.type_inv.buffer) c.requires.some (omega (arith, e, p, q, r))

pub returns-then-buffer-lt3 : goal.returns-then-buffer-lt3
returns-then-buffer-lt3 c = λ i.
    let e = c.number_in-number.ensures in
    let f = c.requires.first in
    begun_four i c.args.buffer.now _ (are_bytes_fit _ c.type_inv.buffer) c.requires.some (omega arith) (omega (arith, e, f)) (λ t. absurd (omega arith)) c.if-size-gt-MOST.false

pub returns-then-size-lt-LEAST_OF_FOUR : goal.returns-then-size-lt-LEAST_OF_FOUR
returns-then-size-lt-LEAST_OF_FOUR c = λ i.
    let e = c.number_in-number.ensures in
    let f = c.requires.first in
    bad_third i c.args.buffer.now (are_bytes_fit _ c.type_inv.buffer) c.requires.some _ (omega (arith, e, f)) c.if-size-lt-LEAST_OF_FOUR.true (omega arith)

pub returns-then-buffer-lt4 : goal.returns-then-buffer-lt4
returns-then-buffer-lt4 c = λ i.
    let e = c.number_in-number.ensures in
    let f = c.requires.first in
    begun_four i c.args.buffer.now _ (are_bytes_fit _ c.type_inv.buffer) c.requires.some (omega arith) (omega (arith, e, f)) (λ t. c.if-size-lt-LEAST_OF_FOUR.false) c.if-size-gt-MOST.false

pub returns : goal.returns
returns c = λ i.
    let e = c.number_in-number.ensures in
    let f = c.requires.first in
    whole_four i c.args.buffer.now (are_bytes_fit _ c.type_inv.buffer) c.requires.some _ (omega arith) (omega (arith, e, f)) c.if-size-lt-LEAST_OF_FOUR.false c.if-size-gt-MOST.false
