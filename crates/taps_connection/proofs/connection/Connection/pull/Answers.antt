use Rattle.std.proofs.Common.{◌∙◌}
use Rattle.taps_connection.proofs.connection.Connection.pull.Goals as goal

pub returns-in-Err-clause-sound : goal.returns-in-Err-clause-sound
returns-in-Err-clause-sound g c = record { source = c.ask.ensures.sound _ c.requires.sound.source; fits = c.ask.ensures.kind ∙ c.requires.sound.fits }

pub returns-in-Ok-Got-clause-sound : goal.returns-in-Ok-Got-clause-sound
returns-in-Ok-Got-clause-sound g c = record { source = c.ask.ensures.sound _ c.requires.sound.source; fits = c.ask.ensures.kind ∙ c.requires.sound.fits }

pub returns-in-Ok-End-clause-sound : goal.returns-in-Ok-End-clause-sound
returns-in-Ok-End-clause-sound g c = record { source = c.ask.ensures.sound _ c.requires.sound.source; fits = c.ask.ensures.kind ∙ c.requires.sound.fits }

pub returns-in-Ok-Timed-clause-sound : goal.returns-in-Ok-Timed-clause-sound
returns-in-Ok-Timed-clause-sound g c = record { source = c.ask.ensures.sound _ c.requires.sound.source; fits = c.ask.ensures.kind ∙ c.requires.sound.fits }

pub returns-in-Ok-Failed-clause-sound : goal.returns-in-Ok-Failed-clause-sound
returns-in-Ok-Failed-clause-sound g c = record { source = c.ask.ensures.sound _ c.requires.sound.source; fits = c.ask.ensures.kind ∙ c.requires.sound.fits }
