-- What `run` tells of a session of both ends over sockets in memory: what member 1 heard of what member 0 sent
-- (RFC 9622 sections 9.2 and 9.3).
use Rattle.std.specs.Prelude.{◌≡◌, ◌≢◌, ◌<◌, ℕ, List, [], ◌∷◌, ◌++◌, Ok, length, map}
use Rattle.taps_base.specs.Sinks.{SinkState}
use Rattle.taps_base.specs.declared.sink.SinkAnswer.TheVariants as answers
use Rattle.taps_framer.specs.Layers.{Layer}
use Rattle.taps_message.specs.declared.accepted.Accepted.{Accepted}
use Rattle.taps_preconnection.specs.declared.exchange.RunRole.TheVariants as role
use Rattle.taps_stack.specs.declared.stack.Stack.{Stack}
use Rattle.taps_exchange.specs.Accepting.{accepted_of}
use Rattle.taps_exchange.specs.Written.{Turned, message_of, bodies_of}
use Rattle.taps_text.specs.MemberLines.{MemberLog}
use Rattle.taps_text.specs.declared.outcome.Outcome.TheVariants as line
use Rattle.taps_command.specs.Checks.{checked}
use Rattle.taps_command.specs.Meanings.{HasText}
use Rattle.taps_command.specs.Places.{chain_of}
use Rattle.taps_command.specs.Ready.{Ready}
use Rattle.taps_command.specs.Runs.{Takes}
use Rattle.taps_command.specs.declared.status.Status.{Status}
use Rattle.taps_session.specs.FileMessages.{messages_on}
use Rattle.taps_session.specs.FileSessions.{plan_for, text_of}
use Rattle.taps_session.specs.SessionLogs.{Held, log_of}
use Rattle.taps_app.specs.Run.{run_rules}

-- A file's meaning is a session of both ends, through framers, of which there is one at least.
pub record IsFramedLoop (shelf : List Layer) (ready : Ready) : Type 0 where
  pub role : ready.pre.exchange.role ≡ role.Loop
  pub framed : 0 < length (chain_of shelf ready.places)

-- The messages that the one member heard are the first of those that the other one sent, in order and whole. Those that
-- it sent are of the accepted ones that had their turn; each other one of these had expired.
pub record HearsFirstOnes (accepted : List Accepted) (sender hearer : MemberLog) : Type 0 where
  pub turned : List Turned
  pub left : List Accepted
  pub among : accepted ≡ map message_of turned ++ left
  pub sent : sender.sent ≡ length (bodies_of turned)
  pub unheard : List (List ℕ)
  pub heard : bodies_of turned ≡ hearer.heard ++ unheard

-- Member 1 heard so of member 0, and member 0 of member 1, which has no messages. Where no connection was accepted
-- there is no member 1, and where the race had no winner there is no member at all.
abbrev pub HearEachOther : List Accepted → List MemberLog → Type 0
HearEachOther accepted [] = Unit {0}
HearEachOther accepted (first ∷ []) = first.heard ≡ []
HearEachOther accepted (first ∷ second ∷ []) = HearsFirstOnes accepted first second × HearsFirstOnes [] second first
HearEachOther accepted (first ∷ second ∷ third ∷ more) = ⊥

-- So it is told, of the messages of the file; and no frame is told as bad.
pub record IsToldAsSent (ready : Ready) (told : Held) : Type 0 where
  pub stack : Stack
  pub at : ℕ
  pub members : HearEachOther (accepted_of at (messages_on ready.pre stack 0)) told.members
  pub none_bad : (message layer place : ℕ) → told.outcome ≢ line.BadFrame message layer place

-- What was written is the text of the plan, and the log that tells so.
pub record PrintsAsSent (ready : Ready) (out out' : SinkState) : Type 0 where
  pub told : Held
  pub as_sent : IsToldAsSent ready told
  pub text : List ℕ
  pub log : text ≡ log_of (text_of ready.pre (plan_for role.Loop ready.pre ready.addresses)) ready.pre.exchange.part
      told
  pub written : Takes answers.Taken out out' text

-- Whatever the framers, the file and the sockets: if the file's meaning is a session of both ends through framers, and
-- the status is one with a text, then what is written tells so.
abbrev pub HearsWhatWasSent : List Layer → List ℕ → SinkState → SinkState → Status → Type 0
HearsWhatWasSent shelf file out out' s =
    (ready : Ready) → checked run_rules shelf file ≡ Ok ready → IsFramedLoop shelf ready → HasText s →
    PrintsAsSent ready out out'
