-- What a turn of the begun message leaves, by how pushing ended.
use Rattle.std.proofs.Common.{◌≡◌, ℕ, ◌+◌, ◌<◌, ◌≤◌, Bool, true, false, ◌||◌, List, [], ◌∷◌, ◌++◌, length, drop, refl, sym, ap, ◌∙◌, subst}
use Rattle.std.specs.Prelude.{Option, Some, None}
use Rattle.std.proofs.Math.Seq.{drop-length}
use Rattle.taps_message.specs.declared.accepted.Accepted.{Accepted}
use Rattle.taps_socket.specs.declared.item.Item.TheVariants as item
use Rattle.taps_socket.specs.declared.cause.Cause.{Cause}
use Rattle.taps_socket.specs.declared.answers.SendAnswer.{SendAnswer}
use Rattle.taps_socket.specs.declared.answers.SendAnswer.TheVariants as send
use Rattle.taps_socket.specs.Calls.{Call, sends, shuts, items_of}
use Rattle.taps_connection.specs.declared.sending.Pause.TheVariants as pause
use Rattle.taps_connection.specs.declared.sender.Begun.{Begun}
use Rattle.taps_connection.specs.declared.sender.Sender.{Sender}
use Rattle.taps_connection.specs.declared.sender.Pushed.TheVariants as pushed
use Rattle.taps_connection.specs.Encodings.{Encoding}
use Rattle.taps_connection.specs.Outboxes.{Outbox, after_call, asks_out}
use Rattle.taps_connection.specs.Runs.{IsRun, AllAsked, AllGo, EndsWith}
use Rattle.taps_connection.specs.Pushes.{left_at, IsPush, HasPushed}
use Rattle.taps_connection.specs.Senders.{settled, settled_by, queued, idle, turn_by, behind_by, queue_behind, shut_items, ends_by, goes, AreOfOne, IsStopped, IsDriven}

-- the run of the calls that push bytes out, from what was kept
pushed_run : (e : Encoding) (socket until : ℕ) (s : Sender) (b : Begun) (calls : List Call) (taken m : ℕ) → s.begun ≡ Some b → IsPush socket until b.bytes b.taken s.moment calls taken m →
    IsRun e socket until (settled e s) calls (left_at e (idle s) m b.number b.ends (drop taken b.bytes) (queued s))
pushed_run e socket until s b calls taken m is p =
    subst (λ v. IsRun e socket until v calls (left_at e (idle s) m b.number b.ends (drop taken b.bytes) (queued s))) (sym (ap (settled_by e s) is))
    (p e (idle s) b.number b.ends (queued s))

-- so it is where no message is behind the begun one
one_run : (e : Encoding) (socket until : ℕ) (s : Sender) (b : Begun) (calls : List Call) → s.begun ≡ Some b → AllAsked e socket until (left_at e (idle s) s.moment b.number b.ends (drop b.taken b.bytes) []) calls → AreOfOne e socket until s calls
one_run e socket until s b calls is asked =
    λ message turn.
    let same : b ≡ message = (let found : goes b ≡ goes message = sym (ap (turn_by e s) is) ∙ turn in cc) in
    subst (λ (v : Begun). AllAsked e socket until (left_at e (idle s) s.moment v.number v.ends (drop v.taken v.bytes) []) calls) same asked

pub same_queue : (s : Sender) (b : Begun) → s.begun ≡ Some b → s.queue.queue ≡ queue_behind s
same_queue s b is = sym (ap (λ (o : Option Begun). record s.queue.queue { queued = behind_by o (queued s) }) is)

-- the message stays begun
is_stopped : (e : Encoding) (socket until : ℕ) (s : Sender) (b : Begun) (answer : SendAnswer) (calls : List Call) (taken m : ℕ) → s.begun ≡ Some b →
    b.taken ≤ taken → taken < length b.bytes → EndsWith calls (sends socket (drop taken b.bytes) until answer) →
    IsStopped e socket until s answer calls (record s { begun = Some (record b { taken = taken }); moment = m })
is_stopped e socket until s b answer calls taken m is grew left newest =
    record { message = b; taken = taken; turn = ap (turn_by e s) is; grew = grew; left = left; newest = newest; kept = refl; queue = same_queue s b is }

pub timed : {N : Type 0} (Becomes : N → List Call → N → Type 0) (e : Encoding) (before after : N) (socket until : ℕ) (s : Sender) (b c : Begun) (taken m at : ℕ) → s.begun ≡ Some b → b.taken ≤ taken →
    HasPushed Becomes before after socket until b.bytes b.taken s.moment taken m (pause.Timed at) → c ≡ record b { taken = taken } →
    IsDriven Becomes e before after socket until s (pushed.Timed at) (record s { begun = Some c; moment = m })
timed Becomes e before after socket until s b c taken m at is grew p same =
    subst (λ (v : Begun). IsDriven Becomes e before after socket until s (pushed.Timed at) (record s { begun = Some v; moment = m })) (sym same)
    (record {
      calls = p.calls;
      becomes = p.becomes;
      pushed_by = (pushed_run e socket until s b p.calls taken m is p.push, is_stopped e socket until s b (send.Timed at) p.calls taken m is grew p.ended.0 p.ended.1, p.ended.2, one_run e socket until s b p.calls is (p.push e (idle s) b.number b.ends []).asked);
    })

pub failed : {N : Type 0} (Becomes : N → List Call → N → Type 0) (e : Encoding) (before after : N) (socket until : ℕ) (s : Sender) (b c : Begun) (taken m : ℕ) (cause : Cause) → s.begun ≡ Some b → b.taken ≤ taken →
    HasPushed Becomes before after socket until b.bytes b.taken s.moment taken m (pause.Failed cause) → c ≡ record b { taken = taken } →
    IsDriven Becomes e before after socket until s (pushed.Failed cause) (record s { begun = Some c; moment = m })
failed Becomes e before after socket until s b c taken m cause is grew p same =
    subst (λ (v : Begun). IsDriven Becomes e before after socket until s (pushed.Failed cause) (record s { begun = Some v; moment = m })) (sym same)
    (record {
      calls = p.calls;
      becomes = p.becomes;
      pushed_by = (pushed_run e socket until s b p.calls taken m is p.push, is_stopped e socket until s b (send.Failed cause) p.calls taken m is grew p.ended.0 p.ended.1, p.ended.2, one_run e socket until s b p.calls is (p.push e (idle s) b.number b.ends []).asked);
    })

-- nothing is left of the message
nothing_left : (e : Encoding) (s : Sender) (b : Begun) (taken m : ℕ) (behind : List Accepted) → taken ≡ length b.bytes → left_at e (idle s) m b.number b.ends (drop taken b.bytes) behind ≡ left_at e (idle s) m b.number b.ends [] behind
nothing_left e s b taken m behind all = ap (λ (v : List ℕ). left_at e (idle s) m b.number b.ends v behind) (ap (λ n. drop n b.bytes) all ∙ drop-length b.bytes)

-- the sending side is ended behind it
ended_asked : (e : Encoding) (socket until : ℕ) (before : Outbox) (s : Sender) (calls : List Call) (m number : ℕ) (ends : Bool) →
    IsRun e socket until before calls (left_at e (idle s) m number ends [] []) → AllAsked e socket until before (ends_by ends socket ++ calls)
ended_asked e socket until before s calls m number true r = (ap (λ v. asks_out socket until v.stand) r.reaches, r.asked)
ended_asked e socket until before s calls m number false r = r.asked

-- behind the message the sending stands as it is kept
ended_run : (e : Encoding) (socket until : ℕ) (before : Outbox) (s : Sender) (calls : List Call) (m number : ℕ) (ends is_shut : Bool) →
    IsRun e socket until before calls (left_at e (idle s) m number ends [] (queued s)) →
    IsRun e socket until before (ends_by ends socket ++ calls) (settled e (record s { begun = None; sent = s.sent + 1; moment = m; shut = is_shut }))
ended_run e socket until before s calls m number true is_shut r =
    record {
      asked = (ap (λ v. asks_out socket until v.stand) r.reaches, r.asked);
      reaches = ap (λ v. after_call e v (shuts socket)) r.reaches;
    }
ended_run e socket until before s calls m number false is_shut r = record { asked = r.asked; reaches = r.reaches }

goes_on : (ends : Bool) (socket : ℕ) (calls : List Call) → AllGo calls → AllGo (ends_by ends socket ++ calls)
goes_on true socket calls h = (refl, h)
goes_on false socket calls h = h

items_on : (ends : Bool) (socket : ℕ) (calls : List Call) → items_of calls ≡ [] → items_of (ends_by ends socket ++ calls) ≡ shut_items ends socket
items_on true socket calls h = ap (λ v. item.Shut socket ∷ v) h
items_on false socket calls h = h

pub sent : {N : Type 0} (Becomes : N → List Call → N → Type 0) (e : Encoding) (before mid after : N) (socket until : ℕ) (s : Sender) (b : Begun) (taken m : ℕ) →
    ((a b c : N) (first then : List Call) → Becomes a first b → Becomes b then c → Becomes a (then ++ first) c) →
    s.begun ≡ Some b → HasPushed Becomes before mid socket until b.bytes b.taken s.moment taken m pause.Whole → Becomes mid (ends_by b.ends socket) after →
    IsDriven Becomes e before after socket until s (pushed.Sent b.number) (record s { begun = None; sent = s.sent + 1; moment = m; shut = s.shut || b.ends })
sent Becomes e before mid after socket until s b taken m on is p ends =
    let r = pushed_run e socket until s b p.calls taken m is p.push in
    record {
      calls = ends_by b.ends socket ++ p.calls;
      becomes = on before mid after p.calls (ends_by b.ends socket) p.becomes ends;
      pushed_by = (
        ended_run e socket until (settled e s) s p.calls m b.number b.ends (s.shut || b.ends) (record { asked = r.asked; reaches = r.reaches ∙ nothing_left e s b taken m (queued s) p.ended.0 }),
        record {
          message = b;
          turn = ap (turn_by e s) is;
          named = refl;
          all_go = goes_on b.ends socket p.calls p.ended.1;
          items = items_on b.ends socket p.calls p.ended.2;
          kept = refl;
          queue = same_queue s b is;
        },
        one_run e socket until s b (ends_by b.ends socket ++ p.calls) is
            (ended_asked e socket until _ s p.calls m b.number b.ends
            (let one = p.push e (idle s) b.number b.ends [] in record { asked = one.asked; reaches = one.reaches ∙ nothing_left e s b taken m [] p.ended.0 })),
      );
    }
