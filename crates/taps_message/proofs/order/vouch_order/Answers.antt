use Rattle.taps_message.proofs.Ordering.{push_follows, next_goes, put_back_returns}
use Rattle.taps_message.proofs.order.vouch_order.Goals as goal

pub returns : goal.returns
returns c = record { push = push_follows; next = next_goes; put_back = put_back_returns }
