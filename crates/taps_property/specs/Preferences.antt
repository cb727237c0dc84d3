-- A preference against an offer (RFC 9622 section 6.2).
use Rattle.std.specs.Prelude.{Bool, true, false, not}
use Rattle.taps_property.specs.declared.preference.Preference.{Preference}
use Rattle.taps_property.specs.declared.preference.Preference.TheVariants.{Require, Prefer, NoPreference, Avoid, Prohibit}

-- what is required is offered, and what is prohibited is not
abbrev pub is_met : Preference → Bool → Bool
is_met Require offered = offered
is_met Prefer offered = true
is_met NoPreference offered = true
is_met Avoid offered = true
is_met Prohibit offered = not offered

-- what is preferred is not offered, or what is to be avoided is
abbrev pub is_soft_unmet : Preference → Bool → Bool
is_soft_unmet Require offered = false
is_soft_unmet Prefer offered = not offered
is_soft_unmet NoPreference offered = false
is_soft_unmet Avoid offered = offered
is_soft_unmet Prohibit offered = false
