-- Calls that each added one item: none, one, and one list after another.
use Rattle.std.proofs.Common.{◌≡◌, List, [], ◌∷◌, ◌++◌, refl, ap, sym, ◌∙◌, append_assoc}
use Rattle.std.specs.Prelude.{map}
use Rattle.std.proofs.lemmas.List.{map-append}
use Rattle.taps_socket.specs.declared.item.Item.{Item}
use Rattle.taps_socket.specs.Calls.{Call, items_by, HasAdded}

pub added_on : {N : Type 0} (Becomes : N → List Call → N → Type 0) (a b c : N) (s t u : List Item) →
    ((x y z : N) (first then : List Call) → Becomes x first y → Becomes y then z → Becomes x (then ++ first) z) →
    HasAdded Becomes a b s t → HasAdded Becomes b c t u → HasAdded Becomes a c s u
added_on Becomes a b c s t u on p q =
    record {
      calls = q.calls ++ p.calls;
      items = q.items ++ p.items;
      added = q.added ∙ (ap (λ v. q.items ++ v) p.added ∙ sym (append_assoc q.items p.items s));
      each = map-append items_by q.calls p.calls ∙ (ap (λ v. v ++ map items_by p.calls) q.each ∙ (ap (λ v. map (λ i. i ∷ []) q.items ++ v) p.each ∙ sym (map-append (λ i. i ∷ []) q.items p.items)));
      becomes = on a b c p.calls q.calls p.becomes q.becomes;
    }

pub added_none : {N : Type 0} (Becomes : N → List Call → N → Type 0) (a b : N) (s t : List Item) → t ≡ s → Becomes a [] b → HasAdded Becomes a b s t
added_none Becomes a b s t e h = record { calls = []; items = []; added = e; each = refl; becomes = h }

pub added_one : {N : Type 0} (Becomes : N → List Call → N → Type 0) (a b : N) (s t : List Item) (call : Call) (item : Item) → items_by call ≡ item ∷ [] → t ≡ item ∷ s → Becomes a (call ∷ []) b → HasAdded Becomes a b s t
added_one Becomes a b s t call item one e h = record { calls = call ∷ []; items = item ∷ []; added = e; each = ap (λ v. v ∷ []) one; becomes = h }
