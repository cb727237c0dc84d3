-- The parts of a rank key that count preferences (RFC 9622 section 6.2; counting them is local).
use Rattle.std.specs.Prelude.{ℕ, ◌+◌, Bool, true, false, count_by}
use Rattle.std.specs.List.{zip}
use Rattle.taps_preconnection.specs.declared.path.Path.{Path}
use Rattle.taps_preconnection.specs.PathOffers.{offers_interface, offers_pvd}
use Rattle.taps_property.specs.Preferences.{is_soft_unmet}
use Rattle.taps_property.specs.StackProperties.{stack_properties}
use Rattle.taps_property.specs.declared.selection.Selection.{Selection}
use Rattle.taps_stack.specs.declared.stack.Stack.{Stack}
use Rattle.taps_stack.specs.StackTable.{offers}

-- how many preferences about interfaces are softly unmet
abbrev pub unmet_interfaces : Selection → Path → ℕ
unmet_interfaces selection path =
    count_by (λ entry. is_soft_unmet entry.preference (offers_interface path entry.name)) selection.interface.items

-- how many preferences about provisioning domains are softly unmet
abbrev pub unmet_pvds : Selection → Path → ℕ
unmet_pvds selection path =
    count_by (λ entry. is_soft_unmet entry.preference (offers_pvd path entry.name)) selection.pvd.items

-- 1 for what holds, else 0
abbrev pub one_if : Bool → ℕ
one_if true = 1
one_if false = 0

-- how many preferences about paths are softly unmet
abbrev pub path_key : Selection → Path → ℕ
path_key selection path =
    unmet_interfaces selection path + unmet_pvds selection path
    + one_if (is_soft_unmet selection.temporary path.temporary)

-- how many preferences about stacks are softly unmet
abbrev pub stack_key : Selection → Stack → ℕ
stack_key selection stack = count_by (λ (preference, property). is_soft_unmet preference (offers stack property))
    (zip selection.stack stack_properties)
