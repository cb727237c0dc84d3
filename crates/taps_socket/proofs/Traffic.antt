-- An item more, more room for items, and one after another preserve the traffic.
use Rattle.std.proofs.Common.{◌≡◌, ℕ, refl, sym, subst}
use Rattle.taps_socket.specs.declared.item.Item.{Item}
use Rattle.taps_socket.specs.Net.{Net, with_item, with_spare, with_faults, PreservesTraffic}

pub by_item : (a b : Net) (i : Item) (at : ℕ) → b ≡ with_item a i at → PreservesTraffic a b
by_item a b i at e = subst (PreservesTraffic a) (sym e) refl

pub by_faulted : (a b : Net) (i : Item) (at faults : ℕ) → b ≡ with_faults (with_item a i at) faults → PreservesTraffic a b
by_faulted a b i at faults e = subst (PreservesTraffic a) (sym e) refl

pub by_spare : (a b : Net) (spare : ℕ) → b ≡ with_spare a spare → PreservesTraffic a b
by_spare a b spare e = subst (PreservesTraffic a) (sym e) refl

pub preserved_on : (a b c : Net) → PreservesTraffic a b → PreservesTraffic b c → PreservesTraffic a c
preserved_on a b c p q =
    let go : (n : Net) → n ≡ record a { trace = b.trace; told = b.told; spare = b.spare; faults = b.faults } → c ≡ record n { trace = c.trace; told = c.told; spare = c.spare; faults = c.faults } → PreservesTraffic a c = λ n e h. subst (λ m. c ≡ record m { trace = c.trace; told = c.told; spare = c.spare; faults = c.faults }) e h in
    go b p q
