use Rattle.taps_memory.proofs.Meeting.{meets, winner_joined}
use Rattle.taps_memory.proofs.Streams.{wins_over_stream}
use Rattle.taps_memory.proofs.memory_net.MemoryNet.joins_winner.Goals as goal

pub returns : goal.returns
returns c = record { ends = meets; joined = winner_joined c.args.self.now c.joined.ensures; stream = wins_over_stream }
