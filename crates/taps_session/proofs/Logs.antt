-- From a session that ran, or did not, to its log.
use Rattle.std.proofs.Common.{◌≡◌, ◌++◌, ℕ, List, [], ◌∷◌, Option, Result, Ok, Err, refl, sym, ◌∙◌, ap, subst, inl, map, length, length-append, arith}
use Rattle.taps_base.specs.declared.no_memory.NoMemory.{NoMemory}
use Rattle.taps_framer.specs.Layers.{Layer}
use Rattle.taps_socket.specs.declared.item.Item.{Item}
use Rattle.taps_socket.specs.Calls.{Call, items_by, AddEach, HasAdded}
use Rattle.taps_socket.specs.Net.{Net, with_spare}
use Rattle.taps_socket.specs.Shows.{Shows}
use Rattle.taps_preconnection.specs.declared.preconnection.Preconnection.{Preconnection}
use Rattle.taps_candidate.specs.Plan.{RankedPlan, listed}
use Rattle.taps_candidate.specs.declared.plan.Plan as candidate
use Rattle.taps_command.specs.Meanings.{IsPrinted}
use Rattle.taps_command.specs.Nets.{HasRun, SocketsState, uncalled}
use Rattle.taps_command.specs.Ready.{Ready}
use Rattle.taps_command.specs.declared.printed.Printed.{Printed}
use Rattle.taps_command.proofs.Running.{ran_on, none_closed}
use Rattle.taps_session.specs.Raced.{EndsSession}
use Rattle.taps_session.specs.FileSessions.{text_of}
use Rattle.taps_session.specs.SessionLogs.{Held, Holds, IsLogged, LeavesSession, log_of, status_after}
use Rattle.taps_session.proofs.Ending.{AppendLaw}

module _ (Tells : Held → SocketsState → SocketsState → Type 0) (MayLeave : SocketsState → SocketsState → Type 0) where
  -- a session that ran has a log
  pub logged : {S : Type 0} (Becomes : S → List Call → S → Type 0) (a b : S) (n n' : Net) (pre : Preconnection) (wanted : RankedPlan) (plan : candidate.Plan) (part : Option ℕ) (s : Held) (printed : Printed)
      → listed plan ≡ wanted → printed.text.items ≡ log_of (text_of pre (listed plan)) part s → printed.status ≡ status_after s.answer s.outcome
      → HasRun Becomes a b n n' (Holds Tells MayLeave (Ok s)) → HasRun Becomes a b n n' (IsPrinted (IsLogged Tells (text_of pre wanted) part) MayLeave (Ok printed))
  logged Becomes a b n n' pre wanted plan part s printed ranked text status r =
      ran_on Becomes a b n n' (Holds Tells MayLeave (Ok s)) (IsPrinted (IsLogged Tells (text_of pre wanted) part) MayLeave (Ok printed)) r
      (λ new h. record {
        prints = record { held = s; ran = h.held; log = text ∙ ap (λ v. log_of (text_of pre v) part s) ranked; status = status };
        leaves = h.leaves;
        closed_once = h.closed_once;
      })

  -- without memory for it there is no log
  pub unlogged : {S : Type 0} (Becomes : S → List Call → S → Type 0) (a b : S) (n n' : Net) (plan : List ℕ) (part : Option ℕ) (held : Result Held NoMemory) (none : NoMemory)
      → HasRun Becomes a b n n' (Holds Tells MayLeave held) → HasRun Becomes a b n n' (IsPrinted (IsLogged Tells plan part) MayLeave (Err none))
  unlogged Becomes a b n n' plan part held none r =
      ran_on Becomes a b n n' (Holds Tells MayLeave held) (IsPrinted (IsLogged Tells plan part) MayLeave (Err none)) r
      (λ new h. record { prints = tt; leaves = h.leaves; closed_once = h.closed_once })

-- no item was added, so that no call was made
pub no_items : (items t : List Item) → items ++ t ≡ t → items ≡ []
no_items [] t e = refl
no_items (i ∷ items) t e = absurd (omega (arith, ap length e, length-append (i ∷ items) t))

pub no_calls : (calls : List Call) (items : List Item) → items ≡ [] → AddEach calls items → calls ≡ []
no_calls [] items e each = refl
no_calls (call ∷ calls) items e each = let wrong : items_by call ∷ map items_by calls ≡ [] = subst (λ v. map items_by (call ∷ calls) ≡ map (λ i. i ∷ []) v) e each in cc

-- only room was made
roomy : (shelf : List Layer) (ready : Ready) (n n' : Net) (calls : List Call) → calls ≡ [] → n' ≡ with_spare n n'.spare → LeavesSession shelf ready (uncalled n) (record { net = n'; calls = calls })
roomy shelf ready n n' calls none e = inl (subst (λ (c : List Call). record { net = n'; calls = c } ≡ record (uncalled n) { net = with_spare n n'.spare }) (sym none) (ap (λ (v : Net). record { net = v; calls = [] }) e))

pub none_ended : {S : Type 0} (Becomes : S → List Call → S → Type 0) (a b : S) (n n' : Net) (shelf : List Layer) (ready : Ready) (none : NoMemory)
    → n.trace ≡ [] → n' ≡ with_spare n n'.spare → Becomes a [] b → ((calls : List Call) → Becomes a calls b → Shows n calls n') → HasRun Becomes a b n n' (EndsSession shelf ready (Err none))
none_ended Becomes a b n n' shelf ready none fresh e becomes shows =
    record {
      calls = [];
      becomes = becomes;
      shows = shows [] becomes;
      holds = record {
        ended = tt;
        leaves = roomy shelf ready n n' [] refl e;
        closed_once = none_closed n'.trace (ap (λ (v : Net). v.trace) e ∙ fresh);
      };
    }

pub none_raced : {S : Type 0} (Becomes : S → List Call → S → Type 0) (a a' b : S) (n n0 n' : Net) (shelf : List Layer) (ready : Ready) (none : NoMemory)
    → AppendLaw Becomes → n.trace ≡ [] → n0 ≡ with_spare n n0.spare → Becomes a [] a' → n' ≡ n0 → HasAdded Becomes a' b n0.trace n'.trace
    → ((calls : List Call) → Becomes a calls b → Shows n calls n') → HasRun Becomes a b n n' (EndsSession shelf ready (Err none))
none_raced Becomes a a' b n n0 n' shelf ready none on fresh e first same added shows =
    let trace : n'.trace ≡ n0.trace = ap (λ (v : Net). v.trace) same in
    let calls : added.calls ≡ [] = no_calls added.calls added.items (no_items added.items n0.trace (sym added.added ∙ trace)) added.each in
    let becomes : Becomes a' [] b = subst (λ (c : List Call). Becomes a' c b) calls added.becomes in
    let all : Becomes a [] b = on a a' b [] [] first becomes in
    none_ended Becomes a b n n' shelf ready none fresh (subst (λ (v : Net). v ≡ with_spare n v.spare) (sym same) e) all shows
