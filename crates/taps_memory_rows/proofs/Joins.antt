-- The ends of a connection in memory are joined as connections ask.
use Rattle.std.specs.Prelude.{ℕ, List, Option, None, Some}
use Rattle.taps_connection.specs.Joined.{AreJoined}
use Rattle.taps_memory.specs.Joined.{IsReadFrom}

pub joined_so : (written read : Option (List (List ℕ))) → IsReadFrom written read → AreJoined written read
joined_so None read h = h
joined_so (Some written) None h = h
joined_so (Some written) (Some read) h = h
