use Rattle.taps_rank.proofs.Ranked.{sorted_places}
use Rattle.taps_rank.proofs.order.address_order.Goals as goal

pub returns : goal.returns
returns c =
    rw (c.from_vec.ensures, c.in_ok-places.ensures, c.deref.ensures.value)
    (sorted_places c.args.families.now c.in_ok-keys.keys.items c.sort_unstable.new.self.items c.in_ok-keys.ensures c.sort_unstable.ensures.permutation c.sort_unstable.ensures.sorted)
