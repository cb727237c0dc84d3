-- Plans worked out by hand, computed by the definitions.
use Rattle.std.proofs.Common.{◌≡◌, ℕ, List, [], ◌∷◌, Bool, true, false, None, Some, refl}
use Rattle.std.specs.Prelude.{codes}
use Rattle.taps_base.specs.declared.gap.Gap.TheVariants.{After, Never}
use Rattle.taps_base.specs.Lists.{filled}
use Rattle.taps_endpoint.specs.declared.address.Address.{Address}
use Rattle.taps_endpoint.specs.declared.address.Address.TheVariants.{V4, V6, Unix}
use Rattle.taps_preconnection.specs.declared.path.Path.{Path}
use Rattle.taps_preconnection.specs.declared.race.Mode.TheVariants.{Simultaneous, Staggered, Failover}
use Rattle.taps_preconnection.specs.Paths.{any_path}
use Rattle.taps_property.specs.declared.preference.Preference.{Preference}
use Rattle.taps_property.specs.declared.preference.Preference.TheVariants.{Require, Prefer, NoPreference, Avoid}
use Rattle.taps_property.specs.declared.profile.Profile.TheVariants.{ReliableInorderStream, UnreliableDatagram}
use Rattle.taps_property.specs.declared.role.Role.{Role}
use Rattle.taps_property.specs.declared.role.Role.TheVariants.{Initiate, Listen}
use Rattle.taps_property.specs.declared.selection.Selection.{Selection}
use Rattle.taps_property.specs.Selections.{default_selection, with_profile}
use Rattle.taps_rank.specs.Order.{ranked}
use Rattle.taps_stack.specs.declared.stack.Stack.{Stack}
use Rattle.taps_stack.specs.declared.stack.Stack.TheVariants as stack
use Rattle.taps_candidate.specs.declared.plan.Leaf.{Leaf}
use Rattle.taps_candidate.specs.Gathering.{Gathering}
use Rattle.taps_candidate.specs.Plan.{leaves_of, plan_of}

abbrev leaf_on : ℕ → Stack → Address → Leaf
leaf_on path s a = record { path = path; target = record { stack = s; address = a } }

abbrev leaf : Stack → Address → Leaf
leaf = leaf_on 0

abbrev one : Address
one = V6 (0 ∷ 0 ∷ 0 ∷ 0 ∷ 0 ∷ 0 ∷ 0 ∷ 1 ∷ []) 9000

abbrev two : Address
two = V6 (0 ∷ 0 ∷ 0 ∷ 0 ∷ 0 ∷ 0 ∷ 0 ∷ 2 ∷ []) 9000

abbrev host : Address
host = V4 (127 ∷ 0 ∷ 0 ∷ 1 ∷ []) 9000

abbrev other : Address
other = V4 (127 ∷ 0 ∷ 0 ∷ 2 ∷ []) 9000

abbrev socket : Address
socket = Unix (codes "/s")

-- reliability as given, order and congestion control as they come
abbrev wishing : Preference → Selection
wishing reliability = record (default_selection Initiate) {
  stack =
      reliability ∷ NoPreference ∷ NoPreference ∷ NoPreference ∷ NoPreference ∷ Prefer ∷ Require ∷ Require ∷ NoPreference ∷ NoPreference ∷ NoPreference ∷ NoPreference ∷ [];
}

abbrev gathered : Role → Selection → List Path → List Address → Gathering
gathered role selection paths addresses = record { role = role; selection = selection; paths = paths; locals = []; addresses = addresses }

-- over the one path that there is where none is declared
abbrev over_any : Selection → List Address → Gathering
over_any selection addresses = gathered Initiate selection (any_path ∷ []) addresses

-- two stacks and three addresses: the families take turns, the one of the first address before the other
families_take_turns : leaves_of (over_any (wishing NoPreference) (one ∷ two ∷ host ∷ []))
    ≡ leaf stack.Tcp one ∷ leaf stack.Tcp host ∷ leaf stack.Tcp two ∷ leaf stack.Udp one ∷ leaf stack.Udp host ∷ leaf stack.Udp two ∷ []
unfolding leaves_of ranked
families_take_turns = refl

-- a preference that is softly unmet decides before the stacks' order does
avoided_comes_last : leaves_of (over_any (wishing Avoid) (one ∷ two ∷ host ∷ []))
    ≡ leaf stack.Udp one ∷ leaf stack.Udp host ∷ leaf stack.Udp two ∷ leaf stack.Tcp one ∷ leaf stack.Tcp host ∷ leaf stack.Tcp two ∷ []
unfolding leaves_of ranked
avoided_comes_last = refl

-- an address that does not survive with a stack decides no side
pruned_decides_no_side : leaves_of (over_any (wishing Require) (socket ∷ host ∷ one ∷ two ∷ []))
    ≡ leaf stack.Tcp host ∷ leaf stack.Tcp one ∷ leaf stack.Tcp two ∷ leaf stack.Unix socket ∷ []
unfolding leaves_of ranked
pruned_decides_no_side = refl

-- a role that awaits connections takes no datagrams, even where nothing is asked
streams_alone_listen : leaves_of (gathered Listen (wishing NoPreference) (any_path ∷ []) (host ∷ [])) ≡ leaf stack.Tcp host ∷ []
unfolding leaves_of ranked
streams_alone_listen = refl

-- the families take turns, each but the first leaf after the delay
one_host : plan_of (over_any (default_selection Initiate) (one ∷ two ∷ host ∷ [])) Staggered 250
    ≡ record { leaves = leaf stack.Tcp one ∷ leaf stack.Tcp host ∷ leaf stack.Tcp two ∷ []; gaps = After 0 ∷ After 250 ∷ After 250 ∷ [] }
unfolding leaves_of ranked
one_host = refl

-- the side over tcp is not that of the Unix socket, which does not survive there
five_remotes : leaves_of (over_any (default_selection Initiate) (socket ∷ host ∷ one ∷ two ∷ other ∷ []))
    ≡ leaf stack.Tcp host ∷ leaf stack.Tcp one ∷ leaf stack.Tcp other ∷ leaf stack.Tcp two ∷ leaf stack.Unix socket ∷ []
unfolding leaves_of ranked
five_remotes = refl

datagrams : plan_of (over_any (with_profile UnreliableDatagram (default_selection Initiate)) (host ∷ [])) Staggered 250 ≡ record { leaves = leaf stack.Udp host ∷ []; gaps = After 0 ∷ [] }
unfolding leaves_of ranked
datagrams = refl

by_failover : plan_of (over_any (default_selection Initiate) (host ∷ other ∷ [])) Failover 250
    ≡ record { leaves = leaf stack.Tcp host ∷ leaf stack.Tcp other ∷ []; gaps = After 0 ∷ Never ∷ [] }
unfolding leaves_of ranked
by_failover = refl

all_at_once : plan_of (over_any (default_selection Initiate) (host ∷ other ∷ [])) Simultaneous 250
    ≡ record { leaves = leaf stack.Tcp host ∷ leaf stack.Tcp other ∷ []; gaps = After 0 ∷ After 0 ∷ [] }
unfolding leaves_of ranked
all_at_once = refl

-- a preference about one interface
abbrev about : Preference → List ℕ → Selection → Selection
about preference name selection = record selection { interface = filled (record { preference = preference; name = name } ∷ []) }

-- an interface with these families: IPv4 alone or all, and whether its address is temporary
abbrev over : List ℕ → Bool → Bool → Path
over interface temporary all = record { interface = interface; pvd = None; temporary = temporary; inet4 = true; inet6 = all; unix = all }

-- two paths, the first of which reaches IPv4 alone and is to be avoided
avoided_interface :
    leaves_of (gathered Initiate (about Avoid (codes "wlan") (default_selection Initiate)) (over (codes "wlan") false false ∷ over (codes "eth") false true ∷ []) (one ∷ host ∷ []))
    ≡ leaf_on 1 stack.Tcp one ∷ leaf_on 1 stack.Tcp host ∷ leaf_on 0 stack.Tcp host ∷ []
unfolding leaves_of ranked
avoided_interface = refl

-- two paths, each of which leaves one preference softly unmet, so that their order decides
two_paths :
    leaves_of (gathered Initiate (about Prefer (codes "eth0") (with_profile ReliableInorderStream (default_selection Initiate)))
    (over (codes "wlan0") true true ∷ over (codes "eth0") false true ∷ []) (one ∷ host ∷ socket ∷ []))
    ≡ leaf_on 0 stack.Tcp one ∷ leaf_on 0 stack.Tcp host ∷ leaf_on 0 stack.Unix socket
    ∷ leaf_on 1 stack.Tcp one ∷ leaf_on 1 stack.Tcp host ∷ leaf_on 1 stack.Unix socket ∷ []
unfolding leaves_of ranked
two_paths = refl

-- a local that names an interface leaves the other paths out, and one that names none leaves all
named_by_a_local :
    leaves_of (record (gathered Initiate (default_selection Initiate) (over (codes "wlan") false true ∷ over (codes "eth") false true ∷ []) (host ∷ [])) {
      locals = record { interface = None; address = None } ∷ record { interface = Some (codes "eth"); address = None } ∷ [];
    })
    ≡ leaf_on 1 stack.Tcp host ∷ []
unfolding leaves_of ranked
named_by_a_local = refl
