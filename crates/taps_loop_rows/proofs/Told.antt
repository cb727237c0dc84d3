-- What `run` writes of a file over sockets in memory tells so.
use Rattle.std.proofs.Common.{◌≡◌, ℕ, inl, inr, List, [], ◌∷◌, Option, Some, None, refl, sym, ap, subst, ◌∙◌}
use Rattle.std.specs.Prelude.{Result, Ok, codes}
use Rattle.taps_base.specs.Sinks.{SinkState}
use Rattle.taps_framer.specs.Layers.{Layer}
use Rattle.taps_chain.specs.ChainLaws.{AreFramers}
use Rattle.taps_preconnection.specs.declared.exchange.RunRole.TheVariants as role
use Rattle.taps_stack.specs.declared.stack.Stack.TheVariants.{Tcp}
use Rattle.taps_stack.specs.declared.target.Target.{Target}
use Rattle.taps_socket.specs.Calls.{Call}
use Rattle.taps_loop.specs.Judged.{LoopsHearAsSent}
use Rattle.taps_memory.specs.Memory.{Memory, StaysMemory, at_first, net_of}
use Rattle.taps_memory.specs.Met.{JoinsWinner, WinsOverStream}
use Rattle.taps_text.specs.declared.refusal.Refusal.{Refusal}
use Rattle.taps_command.specs.Checks.{checked}
use Rattle.taps_command.specs.Nets.{SocketsState, uncalled}
use Rattle.taps_command.specs.Ready.{Ready}
use Rattle.taps_command.specs.declared.status.Status.{Status}
use Rattle.taps_session.specs.FileSessions.{listened}
use Rattle.taps_session.specs.Loops.{IsBothOn}
use Rattle.taps_session.specs.Roles.{IsLoggedAs}
use Rattle.taps_session.specs.Services.{first_target}
use Rattle.taps_session.specs.SessionLogs.{Held}
use Rattle.taps_app.specs.FileRuns.{IsSessionOfFile}
use Rattle.taps_app.specs.Run.{run_rules}
use Rattle.taps_loop_rows.specs.Heard.{IsFramedLoop, IsToldAsSent, HearsWhatWasSent}
use Rattle.taps_loop_rows.proofs.Honest.{told_so}

module _ (shelf : List Layer) (laws : AreFramers shelf) (old new : Memory) (calls : List Call) (became : StaysMemory old calls new) (fresh : old ≡ at_first old.setting) (joins : JoinsWinner new) (wins : WinsOverStream) (hears : LoopsHearAsSent) where
  abbrev after : SocketsState
  after = record { net = net_of new; calls = calls }

  told_of : (ready : Ready) → IsFramedLoop shelf ready → (o : Option Target) (held : Held) → IsBothOn shelf ready o held (uncalled (net_of old)) after → IsToldAsSent ready held
  told_of ready f None held h =
      subst (IsToldAsSent ready) (sym h.1) (record { stack = Tcp; at = 0; members = tt; none_bad = λ m l p e. cc })
  told_of ready f (Some target) held (inl h) =
      subst (IsToldAsSent ready) (sym h.told) (record { stack = Tcp; at = 0; members = tt; none_bad = λ m l p e. cc })
  told_of ready f (Some target) held (inr h) =
      let t = told_so shelf laws ready f old new calls became fresh joins wins hears target h.course h.calls h.session h.seen h.course.answer h.course.behind refl refl in
      subst (IsToldAsSent ready) (sym h.kept) (record { stack = t.stack; at = t.at; members = t.each_other; none_bad = t.none_bad })

  same_ready : (one other : Ready) (r : Result Ready Refusal) → r ≡ Ok one → r ≡ Ok other → one ≡ other
  same_ready one other r a b = cc

  pub prints_so : (holds : List ℕ → Option (List ℕ)) (word name held file : List ℕ) (out out' : SinkState) (s : Status) → word ≡ codes "run" → name ≡ held → holds held ≡ Some file →
      IsSessionOfFile shelf (word ∷ name ∷ []) (Some holds) out out' (uncalled (net_of old)) after s → HearsWhatWasSent shelf file out out' s
  prints_so holds word name held file out out' s first second there ran ready passes f text =
      let r = ran name (ap (λ v. v ∷ name ∷ []) first) text in
      let content : holds name ≡ Some r.bytes = r.content in
      let here : holds name ≡ Some file = ap holds second ∙ there in
      let same : r.bytes ≡ file = cc in
      let is : r.ready ≡ ready = same_ready r.ready ready (checked run_rules shelf file) (subst (λ v. checked run_rules shelf v ≡ Ok r.ready) same r.passes) passes in
      let own : IsLoggedAs ready.pre.exchange.role shelf ready (uncalled (net_of old)) after r.text s =
      subst (λ v. IsLoggedAs v.pre.exchange.role shelf v (uncalled (net_of old)) after r.text s) is r.logged in
      let both : IsLoggedAs role.Loop shelf ready (uncalled (net_of old)) after r.text s = subst (λ v. IsLoggedAs v shelf ready (uncalled (net_of old)) after r.text s) f.role own in
      record {
        told = both.held;
        as_sent = told_of ready f (first_target (listened ready)) both.held both.ran;
        text = r.text;
        log = both.log;
        written = r.takes;
      }
