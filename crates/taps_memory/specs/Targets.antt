-- Whether two targets are the same.
use Rattle.std.specs.Prelude.{Bool, true, false, ◌&&◌}
use Rattle.taps_endpoint.specs.DerivedAddresses.{same_address}
use Rattle.taps_stack.specs.declared.stack.Stack.{Stack}
use Rattle.taps_stack.specs.declared.stack.Stack.TheVariants.{Tcp, Unix, Udp}
use Rattle.taps_stack.specs.declared.target.Target.{Target}

-- the stacks are the same
abbrev pub same_stack : Stack → Stack → Bool
same_stack Tcp Tcp = true
same_stack Unix Unix = true
same_stack Udp Udp = true
same_stack _ _ = false

-- the stacks and the addresses are
abbrev pub same_target : Target → Target → Bool
same_target one other = same_stack one.stack other.stack && same_address one.address other.address
