-- What a step of hearing adds to the calls before it, and how the hearing ends.
use Rattle.std.proofs.Common.{◌≡◌, ℕ, ◌+◌, ◌-◌, ◌*◌, ◌<◌, ◌≤◌, ◌^◌, Bool, true, false, ◌||◌, List, [], ◌∷◌, ◌++◌, length, Option, Some, None, refl, ap, sym, subst, ◌∙◌, arith, append_assoc}
use Rattle.std.specs.Prelude.{map, Result, Ok, Err}
use Rattle.std.proofs.lemmas.List.{append-nil}
use Rattle.taps_base.specs.declared.no_memory.NoMemory.{NoMemory}
use Rattle.taps_framer.specs.Layers.{Layer}
use Rattle.taps_chain.specs.ChainLaws.{AreFramers}
use Rattle.taps_chain.specs.declared.heard.BadAt.{BadAt}
use Rattle.taps_socket.specs.declared.cause.Cause.{Cause}
use Rattle.taps_socket.specs.declared.answers.RecvAnswer.{RecvAnswer}
use Rattle.taps_socket.specs.declared.answers.RecvAnswer.TheVariants as recv
use Rattle.taps_socket.specs.Calls.{Call, receives, to_receive}
use Rattle.taps_socket.specs.Net.{Net}
use Rattle.taps_connection.specs.declared.pulled.Pulled.TheVariants as pulled
use Rattle.taps_connection.specs.Histories.{message, Represents}
use Rattle.taps_connection.specs.Inboxes.{Inbox, IsPulled}
use Rattle.taps_connection.specs.Runs.{AllGo}
use Rattle.taps_connection.specs.Unread.{Unread, count_given, most_of, with_bytes, IsWanting}
use Rattle.taps_exchange.specs.declared.heard.Step.{Step}
use Rattle.taps_exchange.specs.declared.heard.Step.TheVariants as step
use Rattle.taps_exchange.specs.declared.outcome.Outcome.{Outcome}
use Rattle.taps_exchange.specs.declared.outcome.Outcome.TheVariants as outcome
use Rattle.taps_exchange.specs.Decodings.{Decoding, Hearing, enough, lacks, breaks, messages_of, decoding_of}
use Rattle.taps_exchange.specs.Hearings.{Fits, asks_in, ended_by, heard_by, AllAskedIn, ends_in, HasHeard, IsLacking, HasAskedMore, HasStepped, IsCloser, to_come, lacks_bytes, one_unless}
use Rattle.taps_exchange.specs.Members.{pieces_read, has_ended}
use Rattle.taps_exchange.specs.Turns.{stop}
use Rattle.taps_framer.specs.declared.framer.Framer as framer
use Rattle.taps_chain.specs.Layers.{layers_of}
use Rattle.taps_stack.specs.StackTable.{is_stream}
use Rattle.taps_connection.specs.declared.connection.Connection.{Connection}
use Rattle.taps_connection.specs.declared.receiver.Receiver.{Receiver}
use Rattle.taps_connection.specs.Conditions.{IsHeld}
use Rattle.taps_connection.specs.Sources.{unread_of}
use Rattle.taps_exchange.specs.Changes.{Changes}
use Rattle.taps_exchange.specs.Hearings.{IfGoesOn}
use Rattle.taps_connection.specs.declared.sender.Sender.{Sender}
use Rattle.taps_exchange.proofs.Behind.{others_of, others_behind, no_stop, stop_behind, read_behind, ended_behind}
use Rattle.taps_exchange.proofs.Kept.{IsBroken, all_given, lacks_few, read_more, read_ended, fewer_lack, same_count, counted}

-- an outcome is one
not_none : (o : Outcome) → Some o ≡ None → ⊥
not_none o e = cc

-- nothing was called, and the other end's bytes give no message
module _ {N : Type 0} (Becomes : N → List Call → N → Type 0) (a b : N) (d : Decoding) (socket piece until n : ℕ) (read : List (List ℕ)) (ended : Bool) (ms : List (List ℕ)) where
  abbrev pub Heard : Result (Option Outcome) NoMemory → Type 0
  Heard result = HasHeard Becomes d a b socket piece until n read ended result ms

  same_hearing : (h : Hearing) → d.hearing n read ended ≡ h → heard_by d n read ended [] ≡ h
  same_hearing h e = ap (λ v. d.hearing n v ended) (append-nil read) ∙ e

  still : (result : Option Outcome) (h : Hearing) → Becomes a [] b → d.hearing n read ended ≡ h → ends_in None ended h ≡ result → (result ≡ None → h ≡ enough ms) → messages_of h ≡ ms → Heard (Ok result)
  still result h then is ends all heard =
      let now = same_hearing h is in
      record {
        calls = [];
        becomes = then;
        others_go = tt;
        asked = tt;
        ended_so = record { ends = ap (ends_in None ended) now ∙ ends; all_heard = λ e. now ∙ all e; heard_is = ap messages_of now ∙ heard };
      }

  pub peer_ends : (u : Unread) → Becomes a [] b → ended ≡ true → IsLacking d piece n read ended u ms → Heard (Ok (Some outcome.PeerEnded))
  peer_ends u then e h = still (Some outcome.PeerEnded) (lacks ms h.unread) then h.fewer (ap (λ v. ends_in None v (lacks ms h.unread)) e) (λ x. absurd (not_none outcome.PeerEnded x)) refl

  pub frame_ends : (bad : BadAt) → Becomes a [] b → IsBroken d n read ended bad ms → Heard (Ok (Some (outcome.BadFrame bad)))
  frame_ends bad then h =
      still (Some (outcome.BadFrame bad)) (breaks ms bad.layer bad.place) then h.hearing (ap (λ v. Some (outcome.BadFrame (record { message = v; layer = bad.layer; place = bad.place }))) (sym h.told)) (λ x. absurd (not_none (outcome.BadFrame bad) x)) refl

  pub memory_ends : (none : NoMemory) → Becomes a [] b → Heard (Err none)
  memory_ends none then = record { calls = []; becomes = then; others_go = tt; asked = tt; ended_so = tt }

  -- the receive that is asked for
  asks_this : (u : Unread) (came : List ℕ) (answer : RecvAnswer) → ended ≡ false → IsLacking d piece n read ended u ms → AllAskedIn d socket piece until n read ended (receives socket (most_of u) until came answer ∷ [])
  asks_this u came answer e h =
      let now = same_hearing (lacks ms h.unread) h.fewer in
      (ap (asks_in d socket piece until ended) now ∙ (ap (λ v. asks_in d socket piece until v (lacks ms h.unread)) e ∙ ap (λ v. Some (to_receive socket v until)) h.most), tt)

  stops : (u : Unread) (came : List ℕ) (answer : RecvAnswer) (o : Outcome) → pieces_read (receives socket (most_of u) until came answer ∷ []) ≡ [] → has_ended (receives socket (most_of u) until came answer ∷ []) ≡ false → stop (receives socket (most_of u) until came answer ∷ []) ≡ Some o →
      Becomes a (receives socket (most_of u) until came answer ∷ []) b → ended ≡ false → IsLacking d piece n read ended u ms → Heard (Ok (Some o))
  stops u came answer o none going is then e h =
      let call = receives socket (most_of u) until came answer in
      let now : heard_by d n read ended (call ∷ []) ≡ lacks ms h.unread =
      ap (λ v. d.hearing n (read ++ v) (ended_by ended (call ∷ []))) none ∙ (ap (λ v. d.hearing n (read ++ []) (v || ended)) going ∙ same_hearing (lacks ms h.unread) h.fewer) in
      record {
        calls = call ∷ [];
        becomes = then;
        others_go = tt;
        asked = asks_this u came answer e h;
        ended_so = record {
          ends = ap (λ v. ends_in v (ended_by ended (call ∷ [])) (heard_by d n read ended (call ∷ []))) is;
          all_heard = λ x. absurd (not_none o x);
          heard_is = ap messages_of now;
        };
      }

  -- the socket was asked once
  pub timed_ends : (net net' : Net) (i j : Inbox) (at : ℕ) → ended ≡ false → IsLacking d piece n read ended i.unread ms → IsPulled Becomes a b net net' socket until i (pulled.Timed at) j → Heard (Ok (Some outcome.Timed))
  timed_ends net net' i j at e h p = stops i.unread p.came (recv.Timed at) outcome.Timed refl refl refl p.pulled.0.becomes e h

  pub failed_ends : (net net' : Net) (i j : Inbox) (cause : Cause) → ended ≡ false → IsLacking d piece n read ended i.unread ms → IsPulled Becomes a b net net' socket until i (pulled.Failed cause) j → Heard (Ok (Some (outcome.DataFailed cause)))
  failed_ends net net' i j cause e h p = stops i.unread p.came (recv.Failed cause) (outcome.DataFailed cause) refl refl refl p.pulled.0.becomes e h

  pub none_asked : (net net' : Net) (i j : Inbox) (none : NoMemory) → IsPulled Becomes a b net net' socket until i pulled.NoMemory j → Heard (Err none)
  none_asked net net' i j none p = memory_ends none p.pulled.0.becomes

  pub got_more : (fs : List Layer) (net net' : Net) (i j : Inbox) → ended ≡ false → i.ended ≡ ended → IsWanting i.unread → IsLacking d piece n read ended i.unread ms → Represents fs ended i.unread read (map message ms) → IsPulled Becomes a b net net' socket until i pulled.Got j →
      HasAskedMore Becomes d fs a b socket piece until n read ended j.ended j.unread ms
  got_more fs net net' i j e same w h r p =
      let got = p.pulled.2 in
      let ended_now : j.ended ≡ ended = ap (λ v. v.ended) got.1 ∙ same in
      let unread_now : j.unread ≡ with_bytes p.came i.unread = ap (λ v. v.unread) got.1 in
      let before : Represents fs false i.unread read (map message ms) = subst (λ v. Represents fs v i.unread read (map message ms)) e r in
      let after : Represents fs false (with_bytes p.came i.unread) (read ++ p.came ∷ []) (map message ms) = read_more fs i.unread p.came read (map message ms) w before in
      record {
        call = receives socket (most_of i.unread) until p.came (recv.Got p.pulled.0 p.pulled.1);
        becomes = got.0.becomes;
        goes = refl;
        asked = asks_this i.unread p.came (recv.Got p.pulled.0 p.pulled.1) e h;
        ended_now = ended_now;
        represents = subst (λ v. Represents fs v j.unread (read ++ p.came ∷ []) (map message ms)) (sym (ended_now ∙ e)) (subst (λ v. Represents fs false v (read ++ p.came ∷ []) (map message ms)) (sym unread_now) after);
      }

  pub end_more : (fs : List Layer) (net net' : Net) (i j : Inbox) → ended ≡ false → IsLacking d piece n read ended i.unread ms → Represents fs ended i.unread read (map message ms) → IsPulled Becomes a b net net' socket until i pulled.Ended j →
      HasAskedMore Becomes d fs a b socket piece until n read ended j.ended j.unread ms
  end_more fs net net' i j e h r p =
      let ended_now : j.ended ≡ true = ap (λ v. v.ended) p.pulled.1 in
      let unread_now : j.unread ≡ i.unread = ap (λ v. v.unread) p.pulled.1 in
      let after : Represents fs true i.unread read (map message ms) = read_ended fs i.unread read (map message ms) (subst (λ v. Represents fs v i.unread read (map message ms)) e r) in
      record {
        call = receives socket (most_of i.unread) until p.came recv.End;
        becomes = p.pulled.0.becomes;
        goes = refl;
        asked = asks_this i.unread p.came recv.End e h;
        ended_now = ended_now;
        represents = subst (λ v. Represents fs v j.unread (read ++ []) (map message ms)) (sym ended_now) (subst (λ v. Represents fs true v (read ++ []) (map message ms)) (sym unread_now) (subst (λ v. Represents fs true i.unread v (map message ms)) (sym (append-nil read)) after));
      }

-- less is to come
pub got_closer : {N : Type 0} (Becomes : N → List Call → N → Type 0) (a b : N) (net net' : Net) (socket until : ℕ) (i j : Inbox) → IsWanting i.unread → IsPulled Becomes a b net net' socket until i pulled.Got j → IsCloser i.ended i.unread (Ok step.More) j.ended j.unread
got_closer Becomes a b net net' socket until i j w p =
    let got = p.pulled.2 in
    let now : j.unread ≡ with_bytes p.came i.unread = ap (λ v. v.unread) got.1 in
    let some : 1 ≤ length p.came = (let size = got.0.got in let count = got.0.answered.0.some in omega (arith, size, count)) in
    let less : lacks_bytes (with_bytes p.came i.unread) < lacks_bytes i.unread = fewer_lack i.unread p.came w some in
    let bytes : lacks_bytes j.unread ≡ lacks_bytes (with_bytes p.came i.unread) = ap lacks_bytes now in
    let ends : one_unless j.ended ≡ one_unless i.ended = ap (λ v. one_unless v.ended) got.1 in
    (ap count_given now ∙ same_count i.unread p.came, omega (arith, less, bytes, ends))

pub end_closer : {N : Type 0} (Becomes : N → List Call → N → Type 0) (a b : N) (net net' : Net) (socket until : ℕ) (i j : Inbox) → i.ended ≡ false → IsPulled Becomes a b net net' socket until i pulled.Ended j → IsCloser i.ended i.unread (Ok step.More) j.ended j.unread
end_closer Becomes a b net net' socket until i j e p =
    let now : j.unread ≡ i.unread = ap (λ v. v.unread) p.pulled.1 in
    let bytes : lacks_bytes j.unread ≡ lacks_bytes i.unread = ap lacks_bytes now in
    let before : one_unless i.ended ≡ 1 = ap one_unless e in
    let after : one_unless j.ended ≡ 0 = ap (λ v. one_unless v.ended) p.pulled.1 in
    (ap count_given now, omega (arith, bytes, before, after))

-- while messages are heard, what is kept stands for what was read
pub record HearsOn {N : Type 0} (Becomes : N → List Call → N → Type 0) (d : Decoding) (fs : List Layer) (a b : N) (socket piece until n : ℕ) (read : List (List ℕ)) (ended now_ended : Bool) (u : Unread) (ms : List (List ℕ)) : Type 0 where
  pub calls : List Call
  pub becomes : Becomes a calls b
  pub go : AllGo calls
  pub asked : AllAskedIn d socket piece until n read ended calls
  pub ended_now : now_ended ≡ ended_by ended calls
  pub represents : Represents fs now_ended u (read ++ pieces_read calls) (map message ms)

pub hears_none : {N : Type 0} (Becomes : N → List Call → N → Type 0) (d : Decoding) (fs : List Layer) (a : N) (socket piece until n : ℕ) (read : List (List ℕ)) (ended : Bool) (u : Unread) (ms : List (List ℕ)) → Becomes a [] a → Represents fs ended u read (map message ms) →
    HearsOn Becomes d fs a a socket piece until n read ended ended u ms
hears_none Becomes d fs a socket piece until n read ended u ms then h =
    record { calls = []; becomes = then; go = tt; asked = tt; ended_now = refl; represents = subst (λ v. Represents fs ended u v (map message ms)) (sym (append-nil read)) h }

or_or : (a b c : Bool) → ((a || b) || c) ≡ (a || (b || c))
or_or true b c = refl
or_or false b c = refl

ended_more : (ended : Bool) (more calls : List Call) → ended_by ended (more ++ calls) ≡ ended_by (ended_by ended calls) more
ended_more ended more calls = ap (λ v. v || ended) (ended_behind more calls) ∙ or_or (has_ended more) (has_ended calls) ended

pieces_more : (read : List (List ℕ)) (more calls : List Call) → read ++ pieces_read (more ++ calls) ≡ (read ++ pieces_read calls) ++ pieces_read more
pieces_more read more calls = ap (λ v. read ++ v) (read_behind more calls) ∙ sym (append_assoc read (pieces_read calls) (pieces_read more))

heard_more : (d : Decoding) (n : ℕ) (read : List (List ℕ)) (ended : Bool) (more calls : List Call) → heard_by d n read ended (more ++ calls) ≡ heard_by d n (read ++ pieces_read calls) (ended_by ended calls) more
heard_more d n read ended more calls = ap (λ v. d.hearing n v (ended_by ended (more ++ calls))) (pieces_more read more calls) ∙ ap (d.hearing n ((read ++ pieces_read calls) ++ pieces_read more)) (ended_more ended more calls)

asked_more : (d : Decoding) (socket piece until n : ℕ) (read : List (List ℕ)) (ended : Bool) (more calls : List Call) → AllAskedIn d socket piece until n read ended calls → AllAskedIn d socket piece until n (read ++ pieces_read calls) (ended_by ended calls) more →
    AllAskedIn d socket piece until n read ended (more ++ calls)
asked_more d socket piece until n read ended [] calls p q = p
asked_more d socket piece until n read ended (c ∷ more) calls p q = (
  ap (λ v. asks_in d socket piece until v (heard_by d n read ended (more ++ calls))) (ended_more ended more calls)
      ∙ (ap (asks_in d socket piece until (ended_by (ended_by ended calls) more)) (heard_more d n read ended more calls) ∙ q.0),
  asked_more d socket piece until n read ended more calls p q.1,
)

module _ {N : Type 0} (Becomes : N → List Call → N → Type 0) (d : Decoding) (fs : List Layer) (a b c : N) (socket piece until n : ℕ) (read : List (List ℕ)) (ended now_ended : Bool) (u : Unread) (ms : List (List ℕ))
    (on : (a b c : N) (g h : List Call) → Becomes a g b → Becomes b h c → Becomes a (h ++ g) c)
    (k : HearsOn Becomes d fs a b socket piece until n read ended now_ended u ms) where
  asked_now : (more : List Call) → AllAskedIn d socket piece until n (read ++ pieces_read k.calls) now_ended more → AllAskedIn d socket piece until n read ended (more ++ k.calls)
  asked_now more q = asked_more d socket piece until n read ended more k.calls k.asked (subst (λ v. AllAskedIn d socket piece until n (read ++ pieces_read k.calls) v more) k.ended_now q)

  pub message_on : (body : List ℕ) (now : Bool) (v : Unread) → Becomes b [] c → now ≡ now_ended → Represents fs now_ended v (read ++ pieces_read k.calls) (map message (ms ++ body ∷ [])) →
      HearsOn Becomes d fs a c socket piece until n read ended now v (ms ++ body ∷ [])
  message_on body now v then same h =
      record {
        calls = k.calls;
        becomes = on a b c k.calls [] k.becomes then;
        go = k.go;
        asked = k.asked;
        ended_now = same ∙ k.ended_now;
        represents = subst (λ e. Represents fs e v (read ++ pieces_read k.calls) (map message (ms ++ body ∷ []))) (sym same) h;
      }

  pub asked_on : (now : Bool) (v : Unread) → HasAskedMore Becomes d fs b c socket piece until n (read ++ pieces_read k.calls) now_ended now v ms → HearsOn Becomes d fs a c socket piece until n read ended now v ms
  asked_on now v h =
      record {
        calls = h.call ∷ k.calls;
        becomes = on a b c k.calls (h.call ∷ []) k.becomes h.becomes;
        go = (h.goes, k.go);
        asked = asked_now (h.call ∷ []) h.asked;
        ended_now = h.ended_now ∙ (ap (λ e. ended_by e (h.call ∷ [])) k.ended_now ∙ sym (ended_more ended (h.call ∷ []) k.calls));
        represents = subst (λ r. Represents fs now v r (map message ms)) (sym (pieces_more read (h.call ∷ []) k.calls)) h.represents;
      }

  pub over_on : (o : Option Outcome) → HasHeard Becomes d b c socket piece until n (read ++ pieces_read k.calls) now_ended (Ok o) ms → HasHeard Becomes d a c socket piece until n read ended (Ok o) ms
  over_on o h =
      let same : ended_by ended (h.calls ++ k.calls) ≡ ended_by now_ended h.calls = ended_more ended h.calls k.calls ∙ ap (λ v. ended_by v h.calls) (sym k.ended_now) in
      let hearing : heard_by d n read ended (h.calls ++ k.calls) ≡ heard_by d n (read ++ pieces_read k.calls) now_ended h.calls =
      heard_more d n read ended h.calls k.calls ∙ ap (λ v. heard_by d n (read ++ pieces_read k.calls) v h.calls) (sym k.ended_now) in
      record {
        calls = h.calls ++ k.calls;
        becomes = on a b c k.calls h.calls k.becomes h.becomes;
        others_go = others_behind h.calls k.calls h.others_go k.go;
        asked = asked_now h.calls h.asked;
        ended_so = record {
          ends = ap (λ v. ends_in v (ended_by ended (h.calls ++ k.calls)) (heard_by d n read ended (h.calls ++ k.calls))) (stop_behind h.calls k.calls k.go)
              ∙ (ap (λ v. ends_in (stop h.calls) v (heard_by d n read ended (h.calls ++ k.calls))) same ∙ (ap (ends_in (stop h.calls) (ended_by now_ended h.calls)) hearing ∙ h.ended_so.ends));
          all_heard = λ e. hearing ∙ h.ended_so.all_heard e;
          heard_is = ap messages_of hearing ∙ h.ended_so.heard_is;
        };
      }

  pub short_on : (none : NoMemory) → HasHeard Becomes d b c socket piece until n (read ++ pieces_read k.calls) now_ended (Err none) ms → HasHeard Becomes d a c socket piece until n read ended (Err none) ms
  short_on none h =
      record {
        calls = h.calls ++ k.calls;
        becomes = on a b c k.calls h.calls k.becomes h.becomes;
        others_go = others_behind h.calls k.calls h.others_go k.go;
        asked = asked_now h.calls h.asked;
        ended_so = tt;
      }

-- memory ran out for the list of the messages
pub cut_on : {N : Type 0} (Becomes : N → List Call → N → Type 0) (d : Decoding) (fs : List Layer) (a b : N) (socket piece until n : ℕ) (read : List (List ℕ)) (ended now_ended : Bool) (u : Unread) (ms heard : List (List ℕ)) (none : NoMemory) →
    HearsOn Becomes d fs a b socket piece until n read ended now_ended u ms → HasHeard Becomes d a b socket piece until n read ended (Err none) heard
cut_on Becomes d fs a b socket piece until n read ended now_ended u ms heard none k = record { calls = k.calls; becomes = k.becomes; others_go = others_of k.calls k.go; asked = k.asked; ended_so = tt }

-- as many were heard as are needed
pub enough_on : {N : Type 0} (Becomes : N → List Call → N → Type 0) (stream : Bool) (fs : List Layer) (a b : N) (socket piece until n : ℕ) (read : List (List ℕ)) (ended now_ended : Bool) (u : Unread) (ms : List (List ℕ)) →
    AreFramers fs → n < 2 ^ 64 → Fits stream fs piece u → count_given u ≡ n → HearsOn Becomes (decoding_of stream fs) fs a b socket piece until n read ended now_ended u ms →
    HasHeard Becomes (decoding_of stream fs) a b socket piece until n read ended (Ok None) ms
enough_on Becomes stream fs a b socket piece until n read ended now_ended u ms w small fits count k =
    let all : length ms ≡ n = sym (counted fs now_ended u (read ++ pieces_read k.calls) ms k.represents) ∙ count in
    let now : heard_by (decoding_of stream fs) n read ended k.calls ≡ enough ms =
    ap ((decoding_of stream fs).hearing n (read ++ pieces_read k.calls)) (sym k.ended_now) ∙ all_given stream fs now_ended piece n (read ++ pieces_read k.calls) ms u w small fits k.represents all in
    record {
      calls = k.calls;
      becomes = k.becomes;
      others_go = others_of k.calls k.go;
      asked = k.asked;
      ended_so = record {
        ends = ap (λ v. ends_in v (ended_by ended k.calls) (heard_by (decoding_of stream fs) n read ended k.calls)) (no_stop k.calls k.go) ∙ ap (ends_in None (ended_by ended k.calls)) now;
        all_heard = λ e. now;
        heard_is = ap messages_of now;
      };
    }

-- a connection is the same but for what a step of hearing changes
pub kept_receive : {X : Type 0} {F : X → Type 0} {S : Type 0} (c r : Connection S X F) → r ≡ record c { receiver = r.receiver } → r ≡ record c { receiver = r.receiver; sender = r.sender }
kept_receive {X} {F} {S} c r kept =
    let same : c.sender ≡ r.sender = sym (ap (λ (x : Connection S X F). x.sender) kept) in
    let put : Sender → Connection S X F = λ v. record c { receiver = r.receiver; sender = v } in
    kept ∙ ap put same

pub same_sender : (s t : Sender) → t ≡ s → t ≡ record s { moment = t.moment }
same_sender s t e =
    let moment : s.moment ≡ t.moment = ap (λ (v : Sender). v.moment) (sym e) in
    let put : ℕ → Sender = λ v. record s { moment = v } in
    e ∙ ap put moment

pub sender_receive : {X : Type 0} {F : X → Type 0} {S : Type 0} (c r : Connection S X F) → r ≡ record c { receiver = r.receiver } → r.sender ≡ c.sender
sender_receive {X} {F} {S} c r kept = ap (λ (x : Connection S X F). x.sender) kept

pub kept_then : {X : Type 0} {F : X → Type 0} {S : Type 0} (c r d : Connection S X F) → r ≡ record c { receiver = r.receiver } → d ≡ record r { receiver = d.receiver; sender = d.sender } → d ≡ record c { receiver = d.receiver; sender = d.sender }
kept_then {X} {F} {S} c r d first second =
    let put : Connection S X F → Connection S X F = λ x. record x { receiver = d.receiver; sender = d.sender } in
    second ∙ ap put first

pub kept_both : {X : Type 0} {F : X → Type 0} {S : Type 0} (c r d : Connection S X F) → r ≡ record c { receiver = r.receiver; sender = r.sender } → d ≡ record r { receiver = d.receiver; sender = d.sender } → d ≡ record c { receiver = d.receiver; sender = d.sender }
kept_both {X} {F} {S} c r d first second =
    let put : Connection S X F → Connection S X F = λ x. record x { receiver = d.receiver; sender = d.sender } in
    second ∙ ap put first

pub sender_then : (s t u : Sender) → t ≡ s → u ≡ record t { moment = u.moment } → u ≡ record s { moment = u.moment }
sender_then s t u first second =
    let put : Sender → Sender = λ x. record x { moment = u.moment } in
    second ∙ ap put first

pub sender_both : (s t u : Sender) → t ≡ record s { moment = t.moment } → u ≡ record t { moment = u.moment } → u ≡ record s { moment = u.moment }
sender_both s t u first second =
    let put : Sender → Sender = λ x. record x { moment = u.moment } in
    second ∙ ap put first

pub messages_more : (ms : List (List ℕ)) (body : List ℕ) → map message ms ++ message body ∷ [] ≡ map message (ms ++ body ∷ [])
messages_more [] body = refl
messages_more (m ∷ ms) body = ap (λ v. message m ∷ v) (messages_more ms body)

-- what a step leaves, by what stays of a connection
pub record Stepped {N : Type 0} (Becomes : N → List Call → N → Type 0) (net net' : Net) (socket : ℕ) (stream : Bool) (fs : List Layer) (is_shut : Bool) (a b : N) (until : ℕ) (ended : Bool) (u : Unread) (result : Result Step NoMemory) (now_ended : Bool) (v : Unread) : Type 0 where
  pub stepped : (piece n : ℕ) (read ms : List (List ℕ)) → Fits stream fs piece u → length ms < n → Represents fs ended u read (map message ms) → HasStepped Becomes (decoding_of stream fs) fs a b socket piece until n read ended now_ended v result ms
  pub fits : (piece : ℕ) → Fits stream fs piece u → Fits stream fs piece v
  pub closer : IsCloser ended u result now_ended v
  pub changes : Changes socket (one_unless ended) net net'
  pub spare : IfGoesOn result (net.spare + one_unless now_ended ≤ net'.spare + one_unless ended)
  pub held : IfGoesOn result (IsHeld net'.trace socket stream is_shut now_ended)

pub stepped_at : {N : Type 0} {X : Type 0} {F : X → Type 0} {S : Type 0} (Becomes : N → List Call → N → Type 0) (boxed : (x : X) → framer.Ghosts (F x)) (a b : N) (net net' : Net) (until : ℕ) (c x : Connection S X F) (result : Result Step NoMemory) (r : Receiver X F) →
    x ≡ record c { receiver = x.receiver; sender = x.sender } → x.sender ≡ record c.sender { moment = x.sender.moment } →
    Stepped Becomes net net' x.socket (is_stream x.stack) (layers_of boxed x.chain) x.sender.shut a b until x.receiver.ended (unread_of x.receiver.source) result r.ended (unread_of r.source) →
    Stepped Becomes net net' c.socket (is_stream c.stack) (layers_of boxed c.chain) c.sender.shut a b until x.receiver.ended (unread_of x.receiver.source) result r.ended (unread_of r.source)
stepped_at Becomes boxed a b net net' until c x result r kept sender h =
    let now : Stepped Becomes net net' c.socket (is_stream c.stack) (layers_of boxed c.chain) x.sender.shut a b until x.receiver.ended (unread_of x.receiver.source) result r.ended (unread_of r.source) =
    subst (λ y. Stepped Becomes net net' y.socket (is_stream y.stack) (layers_of boxed y.chain) y.sender.shut a b until x.receiver.ended (unread_of x.receiver.source) result r.ended (unread_of r.source)) kept h in
    subst (λ v. Stepped Becomes net net' c.socket (is_stream c.stack) (layers_of boxed c.chain) v a b until x.receiver.ended (unread_of x.receiver.source) result r.ended (unread_of r.source)) (ap (λ (v : Sender). v.shut) sender) now

pub come_few : (ended : Bool) (u : Unread) → to_come ended u ≤ 8388611
come_few true u = (let l = lacks_few u in omega (arith, l))
come_few false u = (let l = lacks_few u in omega (arith, l))

pub less_left : (needs old new then now : ℕ) → old < needs → new ≡ old + 1 → now ≤ 8388611 → (needs - new) * 8388612 + now < (needs - old) * 8388612 + then
less_left needs old new then now a b c = omega arith

pub less_come : (needs old new then now : ℕ) → new ≡ old → now < then → (needs - new) * 8388612 + now < (needs - old) * 8388612 + then
less_come needs old new then now a b = rw a (omega arith)

pub fewer_than : (fs : List Layer) (ended : Bool) (u : Unread) (read ms : List (List ℕ)) (n : ℕ) → Represents fs ended u read (map message ms) → count_given u < n → length ms < n
fewer_than fs ended u read ms n h less = (let c = counted fs ended u read ms h in omega (arith, c, less))

pub less_than_one : (ended : Bool) → one_unless ended ≤ 1
less_than_one true = omega arith
less_than_one false = omega arith

-- or for what the sending does
pub kept_sender : {X : Type 0} {F : X → Type 0} {S : Type 0} (c r : Connection S X F) → r ≡ record c { sender = r.sender } → r ≡ record c { receiver = r.receiver; sender = r.sender }
kept_sender {X} {F} {S} c r kept =
    let same : c.receiver ≡ r.receiver = sym (ap (λ (x : Connection S X F). x.receiver) kept) in
    let put : Receiver X F → Connection S X F = λ v. record c { receiver = v; sender = r.sender } in
    kept ∙ ap put same

pub kept_sent : {X : Type 0} {F : X → Type 0} {S : Type 0} (c r d : Connection S X F) → r ≡ record c { sender = r.sender } → d ≡ record r { receiver = d.receiver; sender = d.sender } → d ≡ record c { receiver = d.receiver; sender = d.sender }
kept_sent {X} {F} {S} c r d first second =
    let put : Connection S X F → Connection S X F = λ x. record x { receiver = d.receiver; sender = d.sender } in
    second ∙ ap put first
