-- What is told of a session of both ends over sockets in memory.
use Rattle.std.proofs.Common.{◌≡◌, ◌≢◌, ℕ, Bool, true, false, List, [], ◌∷◌, ◌++◌, Option, Some, None, refl, sym, ap, subst, ◌∙◌, arith, append_assoc, append-nil}
use Rattle.std.specs.Prelude.{slice_get}
use Rattle.std.specs.List.{concat}
use Rattle.taps_framer.specs.Layers.{Layer}
use Rattle.taps_chain.specs.ChainLaws.{AreFramers}
use Rattle.taps_chain.specs.declared.heard.BadAt.{BadAt}
use Rattle.taps_stack.specs.declared.stack.Stack.TheVariants.{Tcp}
use Rattle.taps_stack.specs.declared.stack.Stack.{Stack}
use Rattle.taps_stack.specs.declared.target.Target.{Target}
use Rattle.taps_stack.specs.StackTable.{is_stream}
use Rattle.taps_socket.specs.declared.answers.ListenAnswer.{ListenAnswer}
use Rattle.taps_socket.specs.declared.answers.ListenAnswer.TheVariants as listen
use Rattle.taps_socket.specs.declared.answers.AcceptAnswer.TheVariants as accept
use Rattle.taps_socket.specs.declared.item.Item.{Item}
use Rattle.taps_socket.specs.declared.race_answer.RaceAnswer.{RaceAnswer}
use Rattle.taps_socket.specs.declared.race_answer.RaceAnswer.TheVariants as answers
use Rattle.taps_socket.specs.Calls.{Call, closes, listens, accepts}
use Rattle.taps_socket.specs.LawfulRace.{IsLawfulRace}
use Rattle.taps_socket.specs.Net.{IsUnused}
use Rattle.taps_socket.specs.Shows.{AreLawful}
use Rattle.taps_socket.specs.Sides.{carries_stream}
use Rattle.taps_connection.specs.Encodings.{encoding_of}
use Rattle.taps_exchange.specs.declared.outcome.Outcome.{Outcome}
use Rattle.taps_exchange.specs.declared.outcome.Outcome.TheVariants as outcome
use Rattle.taps_exchange.specs.Accepting.{accepted_of}
use Rattle.taps_exchange.specs.Decodings.{decoding_of}
use Rattle.taps_exchange.specs.Members.{calls_on, pieces_read}
use Rattle.taps_exchange.specs.Turns.{IsExchange}
use Rattle.taps_exchange.specs.Written.{pieces_written}
use Rattle.taps_loop.specs.Judged.{IsReliableTo, AreFramedEnds, HearsAsSent, LoopsHearAsSent}
use Rattle.taps_loop.specs.Loops.{Ends, turn_loop}
use Rattle.taps_memory.specs.Joined.{IsReadFrom, AreJoinedEnds}
use Rattle.taps_memory.specs.Memory.{Memory, Represents, StaysMemory, at_first, net_of}
use Rattle.taps_memory.specs.Met.{IsAcceptedBehindRace, JoinsWinner, WinsOverStream}
use Rattle.taps_text.specs.MemberLines.{MemberLog}
use Rattle.taps_text.specs.declared.outcome.Outcome as lines
use Rattle.taps_text.specs.declared.outcome.Outcome.TheVariants as line
use Rattle.taps_command.specs.Nets.{uncalled}
use Rattle.taps_command.specs.Places.{chain_of}
use Rattle.taps_command.specs.Ready.{Ready}
use Rattle.taps_session.specs.FileMessages.{messages_on}
use Rattle.taps_session.specs.FileSessions.{rules_of, targets_of}
use Rattle.taps_session.specs.Loops.{Behind, lost, dropped, timed, faulted, exchanged, Course, ends_of, IsBehind, until_of, calls_behind, calls_of, behind_of, IsLoopOf, members_of, outcome_of, IsSeenBoth}
use Rattle.taps_session.specs.Observed.{AreShown, ShowsBytes}
use Rattle.taps_session.specs.SessionLogs.{outcome_told}
use Rattle.taps_session.specs.Sessions.{stack_of}
use Rattle.taps_loop_rows.specs.Heard.{IsFramedLoop, HearEachOther}
use Rattle.taps_loop_rows.proofs.Few.{few_accepted}
use Rattle.taps_loop_rows.proofs.Shelved.{chain_laws}
use Rattle.taps_loop_rows.proofs.Moving.{Moves, session_moves}

-- of the messages of the file, so it is told of these members with this outcome
pub record TellsSo (ready : Ready) (members : List MemberLog) (o : lines.Outcome) : Type 0 where
  pub stack : Stack
  pub at : ℕ
  pub each_other : HearEachOther (accepted_of at (messages_on ready.pre stack 0)) members
  pub none_bad : (message layer place : ℕ) → o ≢ line.BadFrame message layer place

not_bad : (o : Outcome) → ((b : BadAt) → o ≢ outcome.BadFrame b) → (message layer place : ℕ) → outcome_told o ≢ line.BadFrame message layer place
not_bad outcome.Done none m l p e = cc
not_bad (outcome.Expired member number) none m l p e = cc
not_bad outcome.Timed none m l p e = cc
not_bad (outcome.DataFailed cause) none m l p e = cc
not_bad outcome.PeerEnded none m l p e = cc
not_bad (outcome.BadFrame b) none m l p e = none b refl
not_bad (outcome.NotSpeakable member number layer) none m l p e = cc

-- a race without a winner is followed by nothing
abbrev IsWithout : RaceAnswer → Type 0
IsWithout (answers.Ready leaf socket at) = ⊥
IsWithout _ = Unit {0}

behind_lost : (shelf : List Layer) (ready : Ready) (target : Target) (a : RaceAnswer) (b : Behind) → IsWithout a → IsBehind shelf ready target a b → b ≡ lost
behind_lost shelf ready target (answers.Ready leaf socket at) b without h = absurd without
behind_lost shelf ready target a lost without h = refl
behind_lost shelf ready target answers.NoCandidate dropped without h = absurd h
behind_lost shelf ready target answers.NoCandidate (timed when) without h = absurd h
behind_lost shelf ready target answers.NoCandidate (faulted when) without h = absurd h
behind_lost shelf ready target answers.NoCandidate (exchanged to since exch o) without h = absurd h
behind_lost shelf ready target answers.AllFailed dropped without h = absurd h
behind_lost shelf ready target answers.AllFailed (timed when) without h = absurd h
behind_lost shelf ready target answers.AllFailed (faulted when) without h = absurd h
behind_lost shelf ready target answers.AllFailed (exchanged to since exch o) without h = absurd h
behind_lost shelf ready target answers.Timeout dropped without h = absurd h
behind_lost shelf ready target answers.Timeout (timed when) without h = absurd h
behind_lost shelf ready target answers.Timeout (faulted when) without h = absurd h
behind_lost shelf ready target answers.Timeout (exchanged to since exch o) without h = absurd h
behind_lost shelf ready target answers.Closed dropped without h = absurd h
behind_lost shelf ready target answers.Closed (timed when) without h = absurd h
behind_lost shelf ready target answers.Closed (faulted when) without h = absurd h
behind_lost shelf ready target answers.Closed (exchanged to since exch o) without h = absurd h
behind_lost shelf ready target answers.SocketFault dropped without h = absurd h
behind_lost shelf ready target answers.SocketFault (timed when) without h = absurd h
behind_lost shelf ready target answers.SocketFault (faulted when) without h = absurd h
behind_lost shelf ready target answers.SocketFault (exchanged to since exch o) without h = absurd h

-- what is shown of the two ends is what their calls wrote and read
all_bytes : (stream : Bool) (shown pieces : List (List ℕ)) → AreShown stream (Some shown) pieces → concat shown ≡ concat pieces
all_bytes true shown pieces h = h
all_bytes false shown pieces h = ap concat h

reliable_by : (one other : Bool) (written read : Option (List (List ℕ))) (wrote took : List (List ℕ)) → IsReadFrom written read → AreShown one written wrote → AreShown other read took →
    (rest : List ℕ) × (concat wrote ≡ concat took ++ rest)
reliable_by one other None read wrote took j a b = absurd j
reliable_by one other (Some written) None wrote took j a b = absurd j
reliable_by one other (Some written) (Some read) wrote took j a b =
    (j.0, sym (all_bytes one written wrote a) ∙ (j.1 ∙ ap (λ (v : List ℕ). v ++ j.0) (all_bytes other read took b)))

-- a target that was listened on is over a stream
listened_stream : (t : List Item) (told : ℕ) (later : List Call) (target : Target) (answer : ListenAnswer) → AreLawful t told (later ++ listens target answer ∷ []) → is_stream target.stack ≡ true
listened_stream t told [] target answer h = h.0.0
listened_stream t told (c ∷ later) target answer h = listened_stream t told later target answer h.1

module _ (shelf : List Layer) (laws : AreFramers shelf) (ready : Ready) (f : IsFramedLoop shelf ready) (old new : Memory) (calls : List Call) (became : StaysMemory old calls new) (fresh : old ≡ at_first old.setting)
    (joins : JoinsWinner new) (wins : WinsOverStream) (hears : LoopsHearAsSent) (target : Target) (c : Course) (all : calls ≡ calls_of ready target c) (session : IsLoopOf shelf ready target c)
    (seen : IsSeenBoth c (uncalled (net_of old)) (record { net = net_of new; calls = calls })) where
  represents : Represents new calls
  represents = subst (Represents new) (append-nil calls) (became.represents [] (subst (λ m. Represents m []) (sym fresh) (record { follows = tt; state = refl })))

  unused : (s : ℕ) → IsUnused ((net_of old).traffic s)
  unused s = subst (λ m. IsUnused ((net_of m).traffic s)) (sym fresh) (record { no_room = refl; never_sent = refl; none_written = refl; none_read = refl })

  abbrev first_calls : List Call
  first_calls = c.raced ++ listens target (listen.Listening c.listener c.since) ∷ []

  stream_listened : is_stream target.stack ≡ true
  stream_listened =
      listened_stream (net_of old).trace (net_of old).told (behind_of ready c ++ c.raced) target (listen.Listening c.listener c.since)
      (subst (AreLawful (net_of old).trace (net_of old).told) (all ∙ sym (append_assoc (behind_of ready c) c.raced (listens target (listen.Listening c.listener c.since) ∷ []))) became.shows.lawful)

  -- a connection was accepted behind a winner
  module _ (leaf from at to since : ℕ) (exch : List Call) (o : Outcome) (ready_so : c.answer ≡ answers.Ready leaf from at) (behind_so : c.behind ≡ exchanged to since exch o) where
    abbrev until : ℕ
    until = until_of ready c.race

    abbrev x : Ends
    x = ends_of shelf ready target leaf from to since

    abbrev fs : List Layer
    fs = chain_of shelf ready.places

    all_so : calls ≡ closes c.listener ∷ closes to ∷ closes from ∷ (exch ++ accepts c.listener until (accept.Accepted to since) ∷ first_calls)
    all_so =
        all ∙ (ap (λ a. calls_behind c.listener until a c.behind ++ first_calls) ready_so
        ∙ (ap (λ b. calls_behind c.listener until (answers.Ready leaf from at) b ++ first_calls) behind_so
        ∙ ap (λ v. closes c.listener ∷ closes to ∷ closes from ∷ v) (append_assoc exch (accepts c.listener until (accept.Accepted to since) ∷ []) first_calls)))

    met : IsAcceptedBehindRace calls from to
    met = record {
      target = target;
      listener = c.listener;
      since = c.since;
      rules = rules_of ready;
      first = 0;
      targets = targets_of ready;
      raced = c.raced;
      race = c.race;
      leaf = leaf;
      at = at;
      until = until;
      accepted = since;
      later = closes c.listener ∷ closes to ∷ closes from ∷ exch;
      all = all_so;
      each = session.each;
      lawful = subst (IsLawfulRace (rules_of ready) 0 (targets_of ready) c.race) ready_so session.lawful;
    }

    stream_won : (o : Option Target) → slice_get (targets_of ready) leaf ≡ o → is_stream (stack_of o) ≡ true
    unfolding met
    stream_won None e = refl
    stream_won (Some won) e = wins new.setting calls from to represents.follows met won e

    joined : AreJoinedEnds (net_of new).traffic from to
    joined = joins calls from to represents met

    moves : (s : ℕ) → Moves s calls (pieces_written (calls_on s exch)) (pieces_read (calls_on s exch))
    moves s =
        subst (λ v. Moves s v (pieces_written (calls_on s exch)) (pieces_read (calls_on s exch))) (sym all_so)
        (session_moves s target (listen.Listening c.listener c.since) c.raced c.race c.listener until c.listener to from (accept.Accepted to since) exch session.each session.lawful.race.race_trace)

    shows : (s : ℕ) → ShowsBytes (carries_stream (net_of new).trace s) ((net_of new).traffic s) (calls_on s calls)
    shows s = seen.observed s (unused s)

    reliable : IsReliableTo from to exch
    reliable =
        reliable_by (carries_stream (net_of new).trace from) (carries_stream (net_of new).trace to) ((net_of new).traffic from).written ((net_of new).traffic to).read (pieces_written (calls_on from exch)) (pieces_read (calls_on to exch)) joined.there
        (subst (AreShown (carries_stream (net_of new).trace from) ((net_of new).traffic from).written) (moves from).wrote_is (shows from).written)
        (subst (AreShown (carries_stream (net_of new).trace to) ((net_of new).traffic to).read) (moves to).read_is (shows to).read)

    framed : AreFramedEnds x fs
    framed = record {
      some = f.framed;
      framers = chain_laws shelf ready.places laws;
      encoding_is = ap (λ b. encoding_of b fs) (stream_won (slice_get (targets_of ready) leaf) refl);
      decoding_is = ap (λ b. decoding_of b fs) stream_listened;
      few = (let h = few_accepted since (messages_on ready.pre (stack_of (slice_get (targets_of ready) leaf)) 0) in omega arith);
    }

    exchange : IsExchange (turn_loop x) exch o
    exchange = subst (λ b. IsBehind shelf ready target (answers.Ready leaf from at) b) behind_so (subst (λ a. IsBehind shelf ready target a c.behind) ready_so session.behind)

    heard : HearsAsSent x exch o
    heard = hears x fs exch o (λ e. joined.apart (sym e)) framed exchange reliable

    both_told : TellsSo ready (members_of shelf ready target (answers.Ready leaf from at) (exchanged to since exch o)) (outcome_told o)
    both_told = record {
      stack = stack_of (slice_get (targets_of ready) leaf);
      at = since;
      each_other = (
        record {
          turned = heard.turned;
          left = heard.left;
          among = heard.accepted;
          sent = heard.sent_is;
          unheard = heard.unheard;
          heard = heard.prefix;
        },
        record { turned = []; left = []; among = refl; sent = refl; unheard = []; heard = refl },
      );
      none_bad = not_bad o heard.none_bad;
    }

  -- whatever followed the race
  lost_told : (a : RaceAnswer) (b : Behind) → IsWithout a → c.answer ≡ a → c.behind ≡ b → (members_of shelf ready target a b ≡ []) → TellsSo ready (members_of shelf ready target a b) (outcome_of b)
  lost_told a b without ready_so behind_so none =
      let h : IsBehind shelf ready target a b = subst (λ v. IsBehind shelf ready target a v) behind_so (subst (λ v. IsBehind shelf ready target v c.behind) ready_so session.behind) in
      let is = behind_lost shelf ready target a b without h in
      subst (λ v. TellsSo ready v (outcome_of b)) (sym none)
      (subst (λ v. TellsSo ready [] (outcome_of v)) (sym is) (record { stack = Tcp; at = 0; each_other = tt; none_bad = λ m l p e. cc }))

  pub told_so : (a : RaceAnswer) (b : Behind) → c.answer ≡ a → c.behind ≡ b → TellsSo ready (members_of shelf ready target a b) (outcome_of b)
  told_so (answers.Ready leaf from at) (exchanged to since exch o) r b = both_told leaf from at to since exch o r b
  told_so (answers.Ready leaf from at) lost r b = record { stack = Tcp; at = 0; each_other = refl; none_bad = λ m l p e. cc }
  told_so (answers.Ready leaf from at) dropped r b = record { stack = Tcp; at = 0; each_other = refl; none_bad = λ m l p e. cc }
  told_so (answers.Ready leaf from at) (timed when) r b = record { stack = Tcp; at = 0; each_other = refl; none_bad = λ m l p e. cc }
  told_so (answers.Ready leaf from at) (faulted when) r b = record { stack = Tcp; at = 0; each_other = refl; none_bad = λ m l p e. cc }
  told_so answers.NoCandidate b r s = lost_told answers.NoCandidate b tt r s refl
  told_so answers.AllFailed b r s = lost_told answers.AllFailed b tt r s refl
  told_so answers.Timeout b r s = lost_told answers.Timeout b tt r s refl
  told_so answers.Closed b r s = lost_told answers.Closed b tt r s refl
  told_so answers.SocketFault b r s = lost_told answers.SocketFault b tt r s refl
