-- A socket that is closed without an exchange.
use Rattle.std.proofs.Common.{◌≡◌, ◌≤◌, ℕ, [], ◌∷◌, ◌-◌, List, refl, ap, arith}
use Rattle.taps_socket.specs.declared.item.Item.TheVariants as item
use Rattle.taps_socket.specs.Calls.{Call, closes}
use Rattle.taps_socket.specs.Net.{Net, with_item}
use Rattle.taps_exchange.specs.Exchanged.{HasClosed, IsCutShort}
use Rattle.taps_exchange.specs.Members.{Member}

closed_only : (socket : ℕ) (n n' : Net) → 3 ≤ n.spare → n' ≡ with_item n (item.Closed socket) n.told → HasClosed socket [] n n'
closed_only socket n n' room e =
    record {
      trace = ap (λ (v : Net). v.trace) e;
      few = omega arith;
      own_items = tt;
      spare = (let less : n'.spare ≡ n.spare - 1 = ap (λ (v : Net). v.spare) e in omega arith);
      faults = ap (λ (v : Net). v.faults) e;
      others = λ s other. ap (λ (v : Net). v.traffic s) e;
    }

pub cut_at_once : {N : Type 0} (Becomes : N → List Call → N → Type 0) (a b : N) (n n' : Net) (m : Member) → 3 ≤ n.spare → n' ≡ with_item n (item.Closed m.socket) n.told → Becomes a (closes m.socket ∷ []) b → IsCutShort Becomes a b n n' m
cut_at_once Becomes a b n n' m room e h =
    record { calls = []; becomes = h; in_turn = λ priority orders. tt; own = refl; changes = closed_only m.socket n n' room e }
