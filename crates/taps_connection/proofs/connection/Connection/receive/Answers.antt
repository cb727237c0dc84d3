use Rattle.std.proofs.Common.{◌∙◌}
use Rattle.taps_connection.proofs.Giving.{reads_given, decodes_on}
use Rattle.taps_connection.proofs.connection.Connection.receive.Goals as goal

pub returns-clause-represents : goal.returns-clause-represents
returns-clause-represents g c = reads_given _ _ _ _ _ c.receive.ensures.given_out

pub returns-clause-decodes : goal.returns-clause-decodes
returns-clause-decodes g c = decodes_on _ _ _ _ _ c.receive.ensures.given_out

pub returns-clause-sound : goal.returns-clause-sound
returns-clause-sound g c = record { source = c.receive.ensures.sound; fits = c.receive.ensures.kind ∙ c.requires.sound.fits }
