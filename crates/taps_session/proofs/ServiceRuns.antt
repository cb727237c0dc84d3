-- From the calls of a session of Listen on recorded sockets to what is told of it.
use Rattle.std.proofs.Common.{◌≡◌, ◌++◌, true, false, List, [], Some, Result, Ok, Err, refl, sym, ◌∙◌, ap, subst, inl, inr, append-nil}
use Rattle.taps_base.specs.Counts.{Rose}
use Rattle.taps_base.specs.declared.no_memory.NoMemory.{NoMemory}
use Rattle.taps_framer.specs.Layers.{Layer}
use Rattle.taps_message.specs.declared.message.Message.{Message}
use Rattle.taps_stack.specs.declared.target.Target.{Target}
use Rattle.taps_socket.specs.declared.item.Item.{Item}
use Rattle.taps_socket.specs.Calls.{Call}
use Rattle.taps_socket.specs.LiveSockets.{given}
use Rattle.taps_socket.specs.Net.{Net, with_spare}
use Rattle.taps_socket.specs.Once.{IsOnce}
use Rattle.taps_socket.specs.RaceSockets.{has, closed}
use Rattle.taps_socket.specs.Recorded.{Recorded, Records}
use Rattle.taps_socket.specs.Shows.{Shows}
use Rattle.taps_exchange.specs.Outcomes.{count_by}
use Rattle.taps_listening.specs.Listened.{ClosesAll, HasListened}
use Rattle.taps_listening.specs.ListenRules.{ListenRules, rules_of}
use Rattle.taps_listening.specs.declared.service.Service.{Service}
use Rattle.taps_command.specs.Places.{chain_of}
use Rattle.taps_session.specs.FileMessages.{messages_on}
use Rattle.taps_listening.specs.Listening.{course_after, closes_of, outcome_of}
use Rattle.taps_listening.specs.declared.listened.Listened.{Listened}
use Rattle.taps_command.specs.Nets.{HasRun, IsClosedOnce}
use Rattle.taps_command.specs.Ready.{Ready}
use Rattle.taps_session.specs.FileSessions.{listened}
use Rattle.taps_session.specs.Services.{first_target, service_of, listening_of, EndsService}
use Rattle.taps_session.proofs.Ending.{AppendLaw}
use Rattle.taps_session.proofs.Observing.{observed}

-- where no socket was given before, all are closed
all_closed : (before after : List Item) → before ≡ [] → ClosesAll before after → IsClosedOnce after
all_closed before after fresh h = record {
  all = λ s there. elim (h.all s there) [
    | inl is ↦ is
    | inr was ↦ absurd (let z : false ≡ true = subst (λ v. has (given v) s ≡ true) fresh was in cc)
  ];
  once = h.once (subst (λ v. IsOnce (closed v)) (sym fresh) tt);
}

-- all that were made before the first call
pub record IsRoomy {N : Type 0} (Becomes : N → List Call → N → Type 0) (net : N → Net) (a a' : Recorded N) : Type 0 where
  pub fresh : (net a.net).trace ≡ []
  pub roomy : with_spare (net a'.net) a'.spare ≡ with_spare (with_spare (net a.net) a.spare) a'.spare
  pub none : Records Becomes a [] a'

pub room : {N : Type 0} (Becomes : N → List Call → N → Type 0) (net : N → Net) (a a' : Recorded N) → (net a.net).trace ≡ [] → with_spare (net a'.net) a'.spare ≡ with_spare (with_spare (net a.net) a.spare) a'.spare → Records Becomes a [] a' → IsRoomy Becomes net a a'
room Becomes net a a' fresh roomy none = record { fresh = fresh; roomy = roomy; none = none }

all_calls : {N : Type 0} (Becomes : N → List Call → N → Type 0) (net : N → Net) (a a' b : Recorded N) (calls : List Call) → AppendLaw Becomes → IsRoomy Becomes net a a' → Records Becomes a' calls b → Becomes a.net calls b.net
all_calls Becomes net a a' b calls on roomy h = subst (λ v. Becomes a.net v b.net) (append-nil calls) (on a.net a'.net b.net [] calls roomy.none.becomes h.becomes)

-- the session ran, or memory ran out
pub ended : {N : Type 0} (Becomes : N → List Call → N → Type 0) (net : N → Net) (a a' b : Recorded N) (shelf : List Layer) (ready : Ready) (target : Target) (rules : ListenRules) (r : Result Listened NoMemory)
    → first_target (listened ready) ≡ Some target → rules ≡ listening_of shelf ready target → AppendLaw Becomes → ((x y : N) (calls : List Call) → Becomes x calls y → Shows (net x) calls (net y)) → IsRoomy Becomes net a a'
    → HasListened (Records Becomes) a' b (with_spare (net a'.net) a'.spare) (with_spare (net b.net) b.spare) rules r
    → HasRun Becomes a.net b.net (net a.net) (net b.net) (EndsService shelf ready target r)
ended Becomes net a a' b shelf ready target rules (Ok l) first same on shows roomy given_it =
    let x = subst (λ v. HasListened (Records Becomes) a' b (with_spare (net a'.net) a'.spare) (with_spare (net b.net) b.spare) v (Ok l)) same given_it in
    let becomes = all_calls Becomes net a a' b x.calls on roomy x.becomes in
    let fresh : (net a'.net).trace ≡ [] = ap (λ (v : Net). v.trace) roomy.roomy ∙ roomy.fresh in
    record {
      calls = x.calls;
      becomes = becomes;
      shows = shows a.net b.net x.calls becomes;
      holds = record {
        ended = record {
          served = record {
            exchange = x.exchange;
            ended = x.ended;
            timed = x.timed ∙ ap (λ (v : Net). count_by (outcome_of l.end) v.timed) roomy.roomy;
            fault = λ is. subst (λ (v : Net). Rose v.faults (net b.net).faults) roomy.roomy (x.fault is);
            observed = λ s unused. observed (net a.net) (net b.net) x.calls s (shows a.net b.net x.calls becomes) unused;
          };
          members = x.members_are;
        };
        leaves = inr (record { target = target; first = first; begun = x.calls; in_turn = x.exchange.in_turn; split = ap (λ v. closes_of v ++ x.calls) (sym x.ended) });
        closed_once = all_closed (net a'.net).trace (net b.net).trace fresh x.closes_all;
      };
    }
ended Becomes net a a' b shelf ready target rules (Err none) first same on shows roomy given_it =
    let x = subst (λ v. HasListened (Records Becomes) a' b (with_spare (net a'.net) a'.spare) (with_spare (net b.net) b.spare) v (Err none)) same given_it in
    let calls = closes_of (course_after (listening_of shelf ready target) x.calls).phase ++ x.calls in
    let becomes = all_calls Becomes net a a' b calls on roomy x.becomes in
    let fresh : (net a'.net).trace ≡ [] = ap (λ (v : Net). v.trace) roomy.roomy ∙ roomy.fresh in
    record {
      calls = calls;
      becomes = becomes;
      shows = shows a.net b.net calls becomes;
      holds = record {
        ended = tt;
        leaves = inr (record { target = target; first = first; begun = x.calls; in_turn = x.in_turn; split = refl });
        closed_once = all_closed (net a'.net).trace (net b.net).trace fresh x.closes_all;
      };
    }

-- the rules are those of the file
pub rules_are : (shelf : List Layer) (ready : Ready) (target : Target) (service : Service) (fs : List Layer) (messages : List Message) → service ≡ service_of ready target → fs ≡ chain_of shelf ready.places → messages ≡ messages_on ready.pre target.stack 0 → rules_of service fs messages ≡ listening_of shelf ready target
rules_are shelf ready target service fs messages one two three = ap (λ v. rules_of v fs messages) one ∙ ap (λ v. rules_of (service_of ready target) v messages) two ∙ ap (rules_of (service_of ready target) (chain_of shelf ready.places)) three
