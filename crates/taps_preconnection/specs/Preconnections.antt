-- What a Preconnection asks for in each role (RFC 9622 section 6).
use Rattle.taps_property.specs.declared.role.Role.{Role}
use Rattle.taps_property.specs.declared.role.Role.TheVariants.{Initiate, Listen, Rendezvous}
use Rattle.taps_property.specs.declared.selection.Selection.{Selection}
use Rattle.taps_preconnection.specs.declared.preconnection.Preconnection.{Preconnection}

-- the selection of a role
abbrev pub selection_for : Preconnection → Role → Selection
selection_for pre Initiate = pre.initiating
selection_for pre Listen = pre.listening
selection_for pre Rendezvous = pre.meeting
