use Rattle.std.proofs.Common.{◌≡◌, ◌+◌, ◌++◌, ◌∷◌, [], length, ap, ◌∙◌, arith}
use Rattle.std.specs.Prelude.{false, vec_len}
use Rattle.taps_script.specs.Channels.{total, pieces_of}
use Rattle.taps_script.proofs.Pieces.{cut_more, total_more, with_datagram}
use Rattle.taps_script.proofs.channel.Channel.append_datagram.Goals as goal

pub returns : goal.returns
returns c =
    let s = c.self.inside in
    let datagrams : s.stream ≡ false = ap (λ v. v.stream) c.self.view_is ∙ c.requires.stream in
    let sums : total s.lengths.items ≡ length s.bytes.items = c.self.invariant.lengths_are datagrams ∙ s.bytes.ok.0 in
    let more = cut_more s.lengths.items s.bytes.items c.args.bytes.now sums in
    let written : pieces_of s.stream c.append.new.values.items c.append-2.new.values.items ≡ pieces_of s.stream s.bytes.items s.lengths.items ++ c.args.bytes.now ∷ [] =
    rw (datagrams, c.append.ensures.items, c.append-2.ensures.items) more in
    with_datagram _ s.stream s.done s.room s.last_sent _ _ s.read _ c.self.view_is written

pub invariant_of-self : goal.invariant_of-self
invariant_of-self c =
    let s = c.self.inside in
    let datagrams : s.stream ≡ false = ap (λ v. v.stream) c.self.view_is ∙ c.requires.stream in
    let room : s.room ≡ c.args.self.now.room = ap (λ v. v.room) c.self.view_is in
    let fits = c.self.invariant.bytes in
    let fits_too = c.self.invariant.datagrams datagrams in
    let sums : total s.lengths.items ≡ vec_len s.bytes = c.self.invariant.lengths_are datagrams in
    let more : total c.append-2.new.values.items ≡ total s.lengths.items + length c.args.bytes.now = ap total c.append-2.ensures.items ∙ total_more s.lengths.items (length c.args.bytes.now) in
    record { bytes = omega arith; datagrams = λ _. omega arith; lengths_are = λ _. omega arith }
