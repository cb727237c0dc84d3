-- Calls from the first one on follow the script, and so do those of a race with more items after it.
use Rattle.std.proofs.Common.{◌≡◌, List, [], ◌∷◌, ◌++◌, refl}
use Rattle.std.specs.Prelude.{map}
use Rattle.taps_socket.specs.declared.item.Item.{Item}
use Rattle.taps_socket.specs.Calls.{Call, items_by, AddEach}
use Rattle.taps_script.specs.declared.line.Line.{Line}
use Rattle.taps_script.specs.ScriptSteps.{Follows}
use Rattle.taps_script.specs.ScriptNet.{at_first, Represents}

-- from the first state on each call is the script's
first_represents : (lines : List Line) → Represents (at_first lines) []
first_represents lines = record { follows = tt; clock = refl; trace = refl; written = λ q. refl; read = λ q. refl }

-- the calls of a race
pub record HasRaced (lines : List Line) (earlier : List Call) (race : List Item) : Type 0 where
  pub calls : List Call
  pub each : AddEach calls race
  pub follows : Follows lines (calls ++ earlier)

-- without the items after it
pub before_more : (lines : List Line) (earlier calls : List Call) (more race : List Item) → AddEach calls (more ++ race) → Follows lines (calls ++ earlier) → HasRaced lines earlier race
before_more lines earlier calls [] race e f = record { calls = calls; each = e; follows = f }
before_more lines earlier [] (i ∷ more) race e f = absurd (let z : [] ≡ (i ∷ []) ∷ map (λ i. i ∷ []) (more ++ race) = e in cc)
before_more lines earlier (c ∷ calls) (i ∷ more) race e f =
    let z : items_by c ∷ map items_by calls ≡ (i ∷ []) ∷ map (λ i. i ∷ []) (more ++ race) = e in
    let rest : AddEach calls (more ++ race) = cc in
    before_more lines earlier calls more race rest f.1
