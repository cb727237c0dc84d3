-- Which calls added the items that came to a trace.
use Rattle.std.proofs.Common.{◌≡◌, List, [], ◌∷◌, ◌++◌, refl, sym, ap, ◌∙◌, subst}
use Rattle.std.specs.Prelude.{map}
use Rattle.std.proofs.lemmas.List.{append_cancel_right}
use Rattle.taps_socket.specs.declared.item.Item.{Item}
use Rattle.taps_socket.specs.declared.item.Item.TheVariants as item
use Rattle.taps_socket.specs.declared.answers.StartAnswer.TheVariants as start
use Rattle.taps_socket.specs.declared.answers.ListenAnswer.TheVariants as listen
use Rattle.taps_socket.specs.declared.answers.AcceptAnswer.TheVariants as accept
use Rattle.taps_socket.specs.declared.answers.SendAnswer.TheVariants as send
use Rattle.taps_socket.specs.declared.answers.RecvAnswer.TheVariants as recv
use Rattle.taps_socket.specs.Calls.{Call, begins, starts, waits, closes, listens, accepts, sends, shuts, receives, items_by, AddEach, HasAdded}

-- so many items came
pub added_each : {N : Type 0} (Becomes : N → List Call → N → Type 0) (a b : N) (t t' items : List Item) (added : HasAdded Becomes a b t t') → t' ≡ items ++ t → AddEach added.calls items
added_each Becomes a b t t' items added e =
    subst (AddEach added.calls) (append_cancel_right added.items items t (sym added.added ∙ e)) added.each

none_by : (calls : List Call) → AddEach calls [] → calls ≡ []
none_by [] h = refl
none_by (c ∷ calls) h = absurd (let z : items_by c ∷ map items_by calls ≡ [] = h in cc)

-- where the trace stayed there was no call
pub added_none : {N : Type 0} (Becomes : N → List Call → N → Type 0) (a b : N) (t t' : List Item) (added : HasAdded Becomes a b t t') → t' ≡ t → added.calls ≡ []
added_none Becomes a b t t' added e = none_by added.calls (added_each Becomes a b t t' [] added e)

-- only a close adds the item of a close
close_of : (c : Call) (s : _) → items_by c ≡ item.Closed s ∷ [] → c ≡ closes s
close_of (begins at) s h = absurd (cc)
close_of (starts leaf target (start.Started x at)) s h = absurd (cc)
close_of (starts leaf target (start.Refused cause at)) s h = absurd (cc)
close_of (waits until answer) s h = absurd (cc)
close_of (closes x) s h = let e : x ≡ s = cc in ap closes e
close_of (listens target (listen.Listening x at)) s h = absurd (cc)
close_of (listens target (listen.Refused cause at)) s h = absurd (cc)
close_of (accepts listener until (accept.Accepted x at)) s h = absurd (cc)
close_of (accepts listener until (accept.Timed at)) s h = absurd (cc)
close_of (accepts listener until (accept.Faulted at)) s h = absurd (cc)
close_of (sends x bytes until (send.Sent count at)) s h = absurd (cc)
close_of (sends x bytes until (send.Timed at)) s h = absurd (cc)
close_of (sends x bytes until (send.Failed cause)) s h = absurd (cc)
close_of (shuts x) s h = absurd (cc)
close_of (receives x most until came (recv.Got count at)) s h = absurd (cc)
close_of (receives x most until came recv.End) s h = absurd (cc)
close_of (receives x most until came (recv.Timed at)) s h = absurd (cc)
close_of (receives x most until came (recv.Failed cause)) s h = absurd (cc)

-- the newest of the calls is a close, and these are the others
pub record ClosesBehind (calls : List Call) (s : _) (items : List Item) : Type 0 where
  pub others : List Call
  pub split : calls ≡ closes s ∷ others
  pub each : AddEach others items

pub close_behind : (calls : List Call) (s : _) (items : List Item) → AddEach calls (item.Closed s ∷ items) → ClosesBehind calls s items
close_behind [] s items h = absurd (let z : [] ≡ (item.Closed s ∷ []) ∷ map (λ i. i ∷ []) items = h in cc)
close_behind (c ∷ calls) s items h =
    let z : items_by c ∷ map items_by calls ≡ (item.Closed s ∷ []) ∷ map (λ i. i ∷ []) items = h in
    let first : items_by c ≡ item.Closed s ∷ [] = cc in
    let rest : map items_by calls ≡ map (λ i. i ∷ []) items = cc in
    record { others = calls; split = ap (λ v. v ∷ calls) (close_of c s first); each = rest }
