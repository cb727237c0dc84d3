-- A connection that was just accepted hears messages.
use Rattle.std.proofs.Common.{◌≡◌, ℕ, Bool, true, false, ◌||◌, List, [], ◌∷◌, Option, Some, None, refl, ap, sym, ◌∙◌}
use Rattle.std.specs.Prelude.{Result, Ok, Err}
use Rattle.taps_base.specs.declared.no_memory.NoMemory.{NoMemory}
use Rattle.taps_socket.specs.Calls.{Call, sends, receives, shuts, closes, begins, starts, waits, listens, accepts, to_begin, request_of}
use Rattle.taps_exchange.specs.declared.outcome.Outcome.{Outcome}
use Rattle.taps_exchange.specs.Decodings.{messages_of}
use Rattle.taps_exchange.specs.Hearings.{ended_by, heard_by, AllAskedIn, HasHeard}
use Rattle.taps_exchange.specs.Members.{pieces_read, has_ended}
use Rattle.taps_exchange.specs.Sendings.{OthersGo}
use Rattle.taps_exchange.specs.Turns.{asks, stop, unless, turn_in}
use Rattle.taps_exchange.proofs.Behind.{others_of, no_stop}
use Rattle.taps_exchange.proofs.Exchanging.{is_receive, asks_receive, hears_next, ends_hearing, no_end}
use Rattle.taps_listening.specs.ListenRules.{ListenRules, deadline_from}
use Rattle.taps_listening.specs.Served.{Serves, IsServedOut, IsServedShort, MayAnswer}
use Rattle.taps_listening.specs.Serving.{Served, first_served, member_of, hearing_of, turn_serving, with_call, served_after, AllServing}

-- a connection that heard by these calls, and accepted no message
abbrev pub listening_to : ℕ → ℕ → List Call → Served
listening_to socket since calls = record { socket = socket; since = since; hears = calls; answered = None; answers = [] }

hears_more : (socket since : ℕ) (calls : List Call) (c : Call) → is_receive (request_of c) ≡ true → with_call (listening_to socket since calls) c ≡ listening_to socket since (c ∷ calls)
hears_more socket since calls (receives s most u came answer) h = refl
hears_more socket since calls (sends s b u answer) h = cc
hears_more socket since calls (shuts s) h = cc
hears_more socket since calls (closes s) h = cc
hears_more socket since calls (begins at) h = cc
hears_more socket since calls (starts l g x) h = cc
hears_more socket since calls (waits u x) h = cc
hears_more socket since calls (listens g x) h = cc
hears_more socket since calls (accepts l u x) h = cc

or_false : (b : Bool) → (b || false) ≡ b
or_false true = refl
or_false false = refl

module _ (r : ListenRules) (place socket since : ℕ) where
  heard_state : (calls : List Call) → AllAskedIn r.decoding socket r.piece (deadline_from r since) r.needs [] false calls → served_after (first_served socket since) calls ≡ listening_to socket since calls
  heard_state [] a = refl
  heard_state (c ∷ calls) a =
      ap (λ v. with_call v c) (heard_state calls a.1)
      ∙ hears_more socket since calls c (asks_receive r.decoding socket r.piece (deadline_from r since) (ended_by false calls) (heard_by r.decoding r.needs [] false calls) (request_of c) a.0)

  ended_is : (calls : List Call) → ended_by false calls ≡ has_ended calls
  ended_is calls = or_false (has_ended calls)

  heard_is : (calls : List Call) → heard_by r.decoding r.needs [] false calls ≡ hearing_of r (listening_to socket since calls)
  heard_is calls = ap (r.decoding.hearing r.needs (pieces_read calls)) (ended_is calls)

  -- what comes next, by what was heard
  turn_of_hearing : (calls : List Call) → turn_serving r place (listening_to socket since calls) ≡
      unless (stop calls) (turn_in (member_of r (first_served socket since)) (ended_by false calls) (heard_by r.decoding r.needs [] false calls) (asks to_begin))
  turn_of_hearing calls =
      ap (λ v. unless (stop calls) (turn_in (member_of r (first_served socket since)) v (hearing_of r (listening_to socket since calls)) (asks to_begin))) (sym (ended_is calls))
      ∙ ap (λ v. unless (stop calls) (turn_in (member_of r (first_served socket since)) (ended_by false calls) v (asks to_begin))) (sym (heard_is calls))

  turns_in : (calls : List Call) → AllAskedIn r.decoding socket r.piece (deadline_from r since) r.needs [] false calls → OthersGo calls → AllServing r place (first_served socket since) calls
  turns_in [] a g = tt
  turns_in (c ∷ calls) a g = (
    ap (turn_serving r place) (heard_state calls a.1)
        ∙ (turn_of_hearing calls
        ∙ (ap (λ v. unless v (turn_in (member_of r (first_served socket since)) (ended_by false calls) (heard_by r.decoding r.needs [] false calls) (asks to_begin))) (no_stop calls g)
        ∙ hears_next (member_of r (first_served socket since)) (ended_by false calls) (heard_by r.decoding r.needs [] false calls) (request_of c) (asks to_begin) a.0)),
    turns_in calls a.1 (others_of calls g),
  )

  module _ {N : Type 0} (Becomes : N → List Call → N → Type 0) (a b : N) where
    pub serves_in : (result : Result (Option Outcome) NoMemory) (heard : List (List ℕ)) (h : HasHeard Becomes r.decoding a b socket r.piece (deadline_from r since) r.needs [] false result heard) → Serves Becomes r place a b (first_served socket since) (listening_to socket since h.calls)
    serves_in result heard h =
        record { calls = h.calls; becomes = h.becomes; in_turn = turns_in h.calls h.asked h.others_go; reaches = heard_state h.calls h.asked }

    pub hearing_ends : (o : Outcome) (heard : List (List ℕ)) → HasHeard Becomes r.decoding a b socket r.piece (deadline_from r since) r.needs [] false (Ok (Some o)) heard → IsServedOut Becomes r place a b (first_served socket since) o 0 heard
    hearing_ends o heard h =
        record {
          out = listening_to socket since h.calls;
          serves = serves_in (Ok (Some o)) heard h;
          is_over = turn_of_hearing h.calls ∙ ends_hearing (member_of r (first_served socket since)) (stop h.calls) (ended_by false h.calls) (heard_by r.decoding r.needs [] false h.calls) o (asks to_begin) h.ended_so.ends;
          told = ap (λ (v : List (List ℕ)). record { sent = 0; heard = v }) (ap messages_of (sym (heard_is h.calls)) ∙ h.ended_so.heard_is);
        }

    pub hearing_cut : (none : NoMemory) (heard : List (List ℕ)) → HasHeard Becomes r.decoding a b socket r.piece (deadline_from r since) r.needs [] false (Err none) heard → IsServedShort Becomes r place a b (first_served socket since)
    hearing_cut none heard h = record { out = listening_to socket since h.calls; serves = serves_in (Err none) heard h }

    -- it heard enough
    pub may_answer : (heard : List (List ℕ)) (h : HasHeard Becomes r.decoding a b socket r.piece (deadline_from r since) r.needs [] false (Ok None) heard) → MayAnswer r place socket (deadline_from r since) heard (listening_to socket since h.calls)
    may_answer heard h =
        record {
          own = refl;
          unanswered = refl;
          none_sent = refl;
          bounded = refl;
          next = turn_of_hearing h.calls
              ∙ (ap (λ v. unless v (turn_in (member_of r (first_served socket since)) (ended_by false h.calls) (heard_by r.decoding r.needs [] false h.calls) (asks to_begin))) (no_end (stop h.calls) _ _ h.ended_so.ends)
              ∙ ap (λ v. turn_in (member_of r (first_served socket since)) (ended_by false h.calls) v (asks to_begin)) (h.ended_so.all_heard refl));
          heard_is = ap messages_of (sym (heard_is h.calls)) ∙ h.ended_so.heard_is;
        }
