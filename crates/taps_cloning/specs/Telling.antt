-- What is told of members that exchanged nothing.
use Rattle.std.specs.Prelude.{◌≡◌, List, [], ◌∷◌}
use Rattle.taps_group_exchange.specs.declared.told.Told.{Told}
use Rattle.taps_group_exchange.specs.GroupExchanges.{MemberTold, told_by}

-- no message was sent, and none heard
abbrev pub nothing : MemberTold
nothing = record { sent = 0; heard = [] }

abbrev pub TellNothing : List Told → Type 0
TellNothing [] = Unit {0}
TellNothing (t ∷ told) = (told_by t ≡ nothing) × TellNothing told
