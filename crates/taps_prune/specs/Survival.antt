-- Which triples of path, stack and address may be tried (RFC 9622 section 6.2, RFC 9623 section 4.1).
use Rattle.std.specs.Prelude.{ℕ, List, Bool, true, false, ◌&&◌, ◌||◌, Option, None, Some, is_none}
use Rattle.std.specs.List.{list_all, list_any, zip}
use Rattle.taps_endpoint.specs.declared.address.Address.{Address}
use Rattle.taps_endpoint.specs.declared.local.Local.{Local}
use Rattle.taps_endpoint.specs.Families.{family_of}
use Rattle.taps_preconnection.specs.declared.path.Path.{Path}
use Rattle.taps_preconnection.specs.PathOffers.{offers_interface, offers_pvd, leads_to}
use Rattle.taps_property.specs.Preferences.{is_met}
use Rattle.taps_property.specs.StackProperties.{stack_properties}
use Rattle.taps_property.specs.declared.role.Role.{Role}
use Rattle.taps_property.specs.declared.role.Role.TheVariants.{Initiate, Listen, Rendezvous}
use Rattle.taps_property.specs.declared.selection.Selection.{Selection}
use Rattle.taps_stack.specs.declared.stack.Stack.{Stack}
use Rattle.taps_stack.specs.StackTable.{offers, carries, is_stream}

-- the stack meets each of the preferences about stacks
abbrev pub meets_all : Selection → Stack → Bool
meets_all selection stack = list_all (λ (preference, property). is_met preference (offers stack property))
    (zip selection.stack stack_properties)

-- a role that awaits connections takes streams alone (local)
abbrev pub suits : Role → Stack → Bool
suits Initiate stack = true
suits Listen stack = is_stream stack
suits Rendezvous stack = is_stream stack

-- the stack meets what is asked of stacks and suits the role
abbrev pub stack_survives : Selection → Role → Stack → Bool
stack_survives selection role stack = meets_all selection stack && suits role stack

-- each entry is met by whether the interface is the path's (that every entry has to be met is local)
abbrev pub meets_interfaces : Selection → Path → Bool
meets_interfaces selection path =
    list_all (λ entry. is_met entry.preference (offers_interface path entry.name)) selection.interface.items

-- each entry is met by whether the provisioning domain is the path's
abbrev pub meets_pvds : Selection → Path → Bool
meets_pvds selection path = list_all (λ entry. is_met entry.preference (offers_pvd path entry.name)) selection.pvd.items

-- the path meets each of the preferences about paths
abbrev pub meets_path : Selection → Path → Bool
meets_path selection path =
    meets_interfaces selection path && meets_pvds selection path && is_met selection.temporary path.temporary

-- the name, if there is one, is that of the path's interface
abbrev pub is_interface_of : Path → Option (List ℕ) → Bool
is_interface_of path None = false
is_interface_of path (Some name) = offers_interface path name

-- no local names an interface
abbrev pub name_none : List Local → Bool
name_none locals = list_all (λ local. is_none local.interface) locals

-- some local names the path's interface
abbrev pub name_interface_of : Path → List Local → Bool
name_interface_of path locals = list_any (λ local. is_interface_of path local.interface) locals

-- some local names the path's interface, or no local names any
abbrev pub is_local : List Local → Path → Bool
is_local locals path = name_none locals || name_interface_of path locals

-- the path meets what is asked of paths, and the locals allow it
abbrev pub path_survives : Selection → List Local → Path → Bool
path_survives selection locals path = meets_path selection path && is_local locals path

-- the stack carries the address's family, and the path leads to it
abbrev pub is_reachable : Path → Stack → Address → Bool
is_reachable path stack address = carries stack (family_of address) && leads_to path (family_of address)

-- path, stack and address may be tried together
abbrev pub survives : Selection → Role → List Local → Path → Stack → Address → Bool
survives selection role locals path stack address =
    path_survives selection locals path && stack_survives selection role stack && is_reachable path stack address
