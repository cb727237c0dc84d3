use Rattle.std.proofs.Common.{◌∙◌, sym}
use Rattle.taps_connection.proofs.Pulling.{pull_adds, pull_reads}
use Rattle.taps_connection.proofs.Reading.{reads_on}
use Rattle.taps_connection.proofs.connection.Connection.drive_in.Goals as goal

pub returns-clause-represents : goal.returns-clause-represents
returns-clause-represents g c = λ given h. reads_on _ _ _ _ _ _ _ _ _ _ c.pull.ensures.pulled c.requires.wanting c.requires.goes_on (c.requires.held.carries ∙ sym c.requires.sound.fits) _ given h

pub returns-clause-adds : goal.returns-clause-adds
returns-clause-adds g c = pull_adds _ _ _ _ _ _ _ _ _ _ c.requires.spare c.pull.ensures.pulled

pub returns-clause-traffic : goal.returns-clause-traffic
returns-clause-traffic g c = pull_reads _ _ _ _ _ _ _ _ _ _ c.pull.ensures.pulled
