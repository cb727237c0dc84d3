use Rattle.taps_exchange.proofs.Hearing.{streams_are_heard, datagrams_are_heard}
use Rattle.taps_exchange.proofs.laws.vouch_hearing.Goals as goal

pub returns : goal.returns
returns c = record { streams = streams_are_heard; datagrams = datagrams_are_heard }
