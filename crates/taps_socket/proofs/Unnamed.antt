-- Items that do not name a socket leave all that the trace tells of it.
use Rattle.std.proofs.Common.{◌≡◌, ℕ, Bool, true, false, ◌||◌, List, [], ◌∷◌, ◌++◌, refl, ◌∙◌}
use Rattle.std.specs.Prelude.{◌==◌}
use Rattle.std.proofs.lemmas.List.Folds.{list_any-append}
use Rattle.taps_socket.specs.declared.item.How.TheVariants as how
use Rattle.taps_socket.specs.declared.item.Item.{Item}
use Rattle.taps_socket.specs.declared.item.Item.TheVariants as item
use Rattle.taps_socket.specs.RaceSockets.{has, completed, broke, closed}
use Rattle.taps_socket.specs.LiveSockets.{given, named, named_by}
use Rattle.taps_socket.specs.Sides.{listeners, accepted, shut, ended, failed, target_of}

-- the lists and the target of one trace are those of the other at a socket
pub record IsAlike (before after : List Item) (s : ℕ) : Type 0 where
  pub given : has (given after) s ≡ has (given before) s
  pub closed : has (closed after) s ≡ has (closed before) s
  pub completed : has (completed after) s ≡ has (completed before) s
  pub broke : has (broke after) s ≡ has (broke before) s
  pub listens : has (listeners after) s ≡ has (listeners before) s
  pub accepted : has (accepted after) s ≡ has (accepted before) s
  pub shut : has (shut after) s ≡ has (shut before) s
  pub ended : has (ended after) s ≡ has (ended before) s
  pub failed : has (failed after) s ≡ has (failed before) s
  pub target : target_of after s ≡ target_of before s

same : (t : List Item) (s : ℕ) → IsAlike t t s
same t s = record { given = refl; closed = refl; completed = refl; broke = refl; listens = refl; accepted = refl; shut = refl; ended = refl; failed = refl; target = refl }

not_first : (q more : Bool) → (q || more) ≡ false → q ≡ false
not_first true more h = h
not_first false more h = refl

not_last : (more q : Bool) → q ≡ false → (more || (q || false)) ≡ more
not_last true q h = refl
not_last false q h = rw h refl

ahead : (q more : Bool) → q ≡ false → (q || more) ≡ more
ahead q more h = rw h refl

second_not : (q r : Bool) → (q || (r || false)) ≡ false → r ≡ false
second_not true r h = (let z : true ≡ false = h in cc)
second_not false true h = h
second_not false false h = refl

-- one item that does not name it
pub unnamed_by : (i : Item) (t : List Item) (s : ℕ) → has (named_by i) s ≡ false → IsAlike t (i ∷ t) s
unnamed_by (item.Began at) t s h = record { given = refl; closed = refl; completed = refl; broke = refl; listens = refl; accepted = refl; shut = refl; ended = refl; failed = refl; target = refl }
unnamed_by (item.Started leaf target x at) t s h =
    let e = not_first (x == s) false h in
    record { given = rw list_any-append (not_last (has (given t) s) (x == s) e); closed = refl; completed = refl; broke = refl; listens = refl; accepted = refl; shut = refl; ended = refl; failed = refl; target = rw e refl }
unnamed_by (item.Refused leaf target cause at) t s h = record { given = refl; closed = refl; completed = refl; broke = refl; listens = refl; accepted = refl; shut = refl; ended = refl; failed = refl; target = refl }
unnamed_by (item.Waited until at how.Reached) t s h = record { given = refl; closed = refl; completed = refl; broke = refl; listens = refl; accepted = refl; shut = refl; ended = refl; failed = refl; target = refl }
unnamed_by (item.Waited until at (how.Completed x)) t s h = record { given = refl; closed = refl; completed = ahead (x == s) _ (not_first (x == s) false h); broke = refl; listens = refl; accepted = refl; shut = refl; ended = refl; failed = refl; target = refl }
unnamed_by (item.Waited until at (how.Broke x cause)) t s h = record { given = refl; closed = refl; completed = refl; broke = ahead (x == s) _ (not_first (x == s) false h); listens = refl; accepted = refl; shut = refl; ended = refl; failed = refl; target = refl }
unnamed_by (item.Waited until at how.Faulted) t s h = record { given = refl; closed = refl; completed = refl; broke = refl; listens = refl; accepted = refl; shut = refl; ended = refl; failed = refl; target = refl }
unnamed_by (item.Closed x) t s h = record { given = refl; closed = ahead (x == s) _ (not_first (x == s) false h); completed = refl; broke = refl; listens = refl; accepted = refl; shut = refl; ended = refl; failed = refl; target = refl }
unnamed_by (item.Listening target x at) t s h =
    let e = not_first (x == s) false h in
    record { given = rw list_any-append (not_last (has (given t) s) (x == s) e); closed = refl; completed = refl; broke = refl; listens = ahead (x == s) _ e; accepted = refl; shut = refl; ended = refl; failed = refl; target = rw e refl }
unnamed_by (item.NotListening target cause at) t s h = record { given = refl; closed = refl; completed = refl; broke = refl; listens = refl; accepted = refl; shut = refl; ended = refl; failed = refl; target = refl }
unnamed_by (item.Accepted l x at) t s h =
    let e = second_not (l == s) (x == s) h in
    record { given = rw list_any-append (not_last (has (given t) s) (x == s) e); closed = refl; completed = refl; broke = refl; listens = refl; accepted = ahead (x == s) _ e; shut = refl; ended = refl; failed = refl; target = rw e refl }
unnamed_by (item.Faulted at) t s h = record { given = refl; closed = refl; completed = refl; broke = refl; listens = refl; accepted = refl; shut = refl; ended = refl; failed = refl; target = refl }
unnamed_by (item.Shut x) t s h = record { given = refl; closed = refl; completed = refl; broke = refl; listens = refl; accepted = refl; shut = ahead (x == s) _ (not_first (x == s) false h); ended = refl; failed = refl; target = refl }
unnamed_by (item.Ended x) t s h = record { given = refl; closed = refl; completed = refl; broke = refl; listens = refl; accepted = refl; shut = refl; ended = ahead (x == s) _ (not_first (x == s) false h); failed = refl; target = refl }
unnamed_by (item.DataFailed x sending cause) t s h = record { given = refl; closed = refl; completed = refl; broke = refl; listens = refl; accepted = refl; shut = refl; ended = refl; failed = ahead (x == s) _ (not_first (x == s) false h); target = refl }

alike_on : (a b c : List Item) (s : ℕ) → IsAlike a b s → IsAlike b c s → IsAlike a c s
alike_on a b c s p q =
    record {
      given = q.given ∙ p.given;
      closed = q.closed ∙ p.closed;
      completed = q.completed ∙ p.completed;
      broke = q.broke ∙ p.broke;
      listens = q.listens ∙ p.listens;
      accepted = q.accepted ∙ p.accepted;
      shut = q.shut ∙ p.shut;
      ended = q.ended ∙ p.ended;
      failed = q.failed ∙ p.failed;
      target = q.target ∙ p.target;
    }

not_either : (q r : Bool) → (q || r) ≡ false → (q ≡ false) × (r ≡ false)
not_either true r h = (let z : true ≡ false = h in cc)
not_either false r h = (refl, h)

-- several items
pub unnamed : (r t : List Item) (s : ℕ) → has (named r) s ≡ false → IsAlike t (r ++ t) s
unnamed [] t s h = same t s
unnamed (i ∷ r) t s h =
    let (here, there) = not_either (has (named_by i) s) (has (named r) s) (rw list_any-append at h) in
    alike_on t (r ++ t) (i ∷ (r ++ t)) s (unnamed r t s there) (unnamed_by i (r ++ t) s here)
