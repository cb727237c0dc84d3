use Rattle.std.proofs.Common.{ap, ◌∙◌}
use Rattle.taps_connection.specs.Unread.{is_stream_of}
use Rattle.taps_connection.proofs.connection.Connection.make_room_in.Goals as goal

pub returns-clause-sound : goal.returns-clause-sound
returns-clause-sound g c = λ h. record { source = c.make_room.ensures.sound _ h.source; fits = ap is_stream_of c.make_room.ensures.unread ∙ h.fits }
