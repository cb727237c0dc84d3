-- Those connections that were not started stay as they were made, and there are numbers for all sockets.
use Rattle.std.proofs.Common.{◌≡◌, ℕ, ◌+◌, ◌-◌, Bool, true, List, [], ◌∷◌, ◌++◌, length, length-append, ◌∙◌, ap, subst, arith}
use Rattle.std.specs.Prelude.{Option, Some, None, IfSome}
use Rattle.std.specs.List.{All}
use Rattle.taps_stack.specs.declared.target.Target.{Target}
use Rattle.taps_socket.specs.declared.item.Item.{Item}
use Rattle.taps_socket.specs.declared.item.Item.TheVariants.{Started}
use Rattle.taps_memory.specs.declared.link.Link.{Link}
use Rattle.taps_memory.specs.Pairs.{change_first}
use Rattle.taps_memory.specs.Links.{link_waits, unused_link, started_link, accepted_link}
use Rattle.taps_memory.specs.Memory.{Memory, after_start}
use Rattle.taps_memory.specs.Kept.{AreUnused, some_waits}
use Rattle.taps_memory.proofs.Linked.{KeepsEnds, unmet_changed, length_changed, unmet_more}
use Rattle.taps_memory.proofs.Accepting.{unmet_accepted}

pub unused_changed : (c m n l : ℕ) (test : Link → Bool) (f : Link → Link) (links unused : List Link) → KeepsEnds f → AreUnused c m n l links unused → AreUnused c m n l (change_first test f links) unused
unused_changed c m n l test f links unused keeps h =
    let len = length_changed test f links in
    let all = h.all in
    let met = unmet_changed test f keeps links in
    let numbers = h.numbers in
    record { each = h.each; all = omega arith; few = h.few; numbers = omega arith }

pub unused_accepted : (c m n n' l listener x : ℕ) (links unused : List Link) → some_waits listener links ≡ true → n' ≡ n + 1 → AreUnused c m n l links unused → AreUnused c m n' l (change_first (link_waits listener) (accepted_link x) links) unused
unused_accepted c m n n' l listener x links unused some next h =
    let len = length_changed (link_waits listener) (accepted_link x) links in
    let all = h.all in
    let met = unmet_accepted listener x links some in
    let numbers = h.numbers in
    record { each = h.each; all = omega arith; few = h.few; numbers = omega arith }

pub unused_started : (c m n n' l listener x : ℕ) (links unused unused' : List Link) → length unused' + 1 ≡ length unused → All (λ l. l ≡ unused_link c) unused' → n' ≡ n + 1 → AreUnused c m n l links unused → AreUnused c m n' l (links ++ started_link c listener x ∷ []) unused'
unused_started c m n n' l listener x links unused unused' fewer each next h =
    let len = length-append links (started_link c listener x ∷ []) in
    let all = h.all in
    let met = unmet_more links c listener x in
    let numbers = h.numbers in
    record { each = each; all = omega arith; few = h.few; numbers = omega arith }

-- what holds of the one that is there
pub if_some : {A : Type 0} (o : Option A) (x : A) (P : A → Type 0) → o ≡ Some x → IfSome o P → P x
if_some None x P e h = (let z : None ≡ Some x = e in absurd cc)
if_some (Some y) x P e h = (let same : y ≡ x = cc in subst P same h)

-- the sockets after a start
pub after_start_is : (v n : Memory) (trace : List Item) (links : List Link) (leaf : ℕ) (target : Target) (listener socket : ℕ) → v ≡ n → links ≡ v.links ++ started_link v.setting.capacity listener socket ∷ [] → trace ≡ Started leaf target socket v.told ∷ v.trace →
    (let m : Memory = record v { trace = trace; spare = v.spare - 1; links = links } in m) ≡ after_start n leaf target listener socket
after_start_is v n trace links leaf target listener socket is more first =
    ap (λ l. (let m : Memory = record v { trace = trace; spare = v.spare - 1; links = l } in m)) more
    ∙ (ap (λ t. (let m : Memory = record v { trace = t; spare = v.spare - 1; links = v.links ++ started_link v.setting.capacity listener socket ∷ [] } in m)) first
    ∙ ap (λ m. after_start m leaf target listener socket) is)
