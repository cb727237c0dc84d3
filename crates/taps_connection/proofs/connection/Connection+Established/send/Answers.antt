use Rattle.taps_connection.proofs.connection.Connection+Established.send.Goals as goal

pub returns-clause-sound : goal.returns-clause-sound
returns-clause-sound g c = c.accept.ensures.sound _ _ c.requires.sound
