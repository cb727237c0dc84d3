-- `run FILE` (local).
use Rattle.std.specs.Prelude.{List, [], Result, Ok}
use Rattle.taps_endpoint.specs.declared.address.Address.{Address}
use Rattle.taps_framer.specs.Layers.{Layer}
use Rattle.taps_preconnection.specs.declared.exchange.RunRole.{RunRole}
use Rattle.taps_preconnection.specs.declared.exchange.RunRole.TheVariants as role
use Rattle.taps_preconnection.specs.declared.preconnection.Preconnection.{Preconnection}
use Rattle.taps_text.specs.declared.refusal.Refusal.{Refusal}
use Rattle.taps_command.specs.Checks.{FileRules, addresses_for}
use Rattle.taps_command.specs.Meanings.{Meaning}
use Rattle.taps_command.specs.OneFile.{one_file}
use Rattle.taps_session.specs.Roles.{IsRunOn, LeavesRun}

-- the addresses of the remotes are derived, unless the session listens alone
abbrev pub addresses_as : RunRole → Preconnection → Result (List Address) Refusal
addresses_as role.Initiate pre = addresses_for pre
addresses_as role.Listen pre = Ok []
addresses_as role.Loop pre = addresses_for pre

abbrev pub addresses_to_run : Preconnection → Result (List Address) Refusal
addresses_to_run pre = addresses_as pre.exchange.role pre

-- these addresses are derived
abbrev pub run_rules : FileRules
run_rules = record { addresses = addresses_to_run }

-- one file, whose session runs on the sockets: they have room for more items at most, or that session was on them
abbrev pub run : List Layer → Meaning
run shelf = one_file run_rules (IsRunOn shelf) (LeavesRun shelf) shelf
