-- What one member's hearing leaves of its group.
use Rattle.std.proofs.Common.{◌≡◌, ℕ, zero, suc, ◌+◌, ◌<◌, ◌≤◌, true, false, List, [], ◌∷◌, ◌++◌, length, slice_get, slice_set, Option, Some, None, refl, sym, ap, ◌∙◌, subst, arith, length-append}
use Rattle.std.specs.Prelude.{◌==◌, Result, Ok, Err}
use Rattle.std.specs.List.{All}
use Rattle.std.proofs.lemmas.Bool.{eq-eqb}
use Rattle.std.proofs.lemmas.List.{length-set}
use Rattle.std.proofs.lemmas.Option.{slice_get_within}
use Rattle.taps_base.specs.declared.no_memory.NoMemory.{NoMemory}
use Rattle.taps_framer.specs.declared.framer.Framer as framer
use Rattle.taps_chain.specs.Layers.{layers_of}
use Rattle.taps_stack.specs.StackTable.{is_stream}
use Rattle.taps_socket.specs.Calls.{Call, items_of}
use Rattle.taps_socket.specs.LiveSockets.{live_sockets}
use Rattle.taps_socket.specs.Net.{Net}
use Rattle.taps_socket.specs.Once.{IsOnce}
use Rattle.taps_socket.specs.RaceSockets.{has}
use Rattle.taps_socket.specs.Shows.{Shows}
use Rattle.taps_connection.specs.declared.sender.Sender.{Sender}
use Rattle.taps_exchange.specs.declared.outcome.Outcome.{Outcome}
use Rattle.taps_exchange.specs.Decodings.{messages_of, decoding_of, enough}
use Rattle.taps_exchange.specs.Hearings.{ended_by, heard_by, HasHeard}
use Rattle.taps_exchange.specs.Members.{calls_on, outbox_after}
use Rattle.taps_exchange.specs.Turns.{Place, stop}
use Rattle.taps_exchange.specs.Members as exchange
use Rattle.taps_exchange.specs.Members.{pieces_read, has_ended}
use Rattle.taps_exchange.proofs.Behind.{go_behind, goes, items_behind, live_own}
use Rattle.taps_exchange.proofs.Kept.{nothing_heard}
use Rattle.taps_group.specs.Places.{IsAt, Changes}
use Rattle.taps_group.specs.Closes.{MayClose, sockets_of}
use Rattle.taps_group.specs.declared.member.Member.{Member}
use Rattle.taps_group.proofs.Places.{set_there, holds_at}
use Rattle.taps_group_exchange.specs.declared.told.Told.{Told}
use Rattle.taps_group_exchange.specs.GroupExchanges.{count_sent, sockets_in}
use Rattle.taps_group_exchange.specs.GroupHearings.{AllFrom, AllNeed, CanHear, HasHeardAll, HearsAs, HearsOn, HearsOrOver, IsHearingCut, IsOverBy, IsTold, IsUnread, KeepsHearing, Split}
use Rattle.taps_group_exchange.specs.GroupSendings.{KeepsExpired}
use Rattle.taps_group_exchange.specs.Standing.{EachAt, MayTalk}
use Rattle.taps_group_exchange.proofs.Driving.{AllOn}
use Rattle.taps_group_exchange.proofs.HearingSteps.{receives_on, all_on, place_box, out_on, all_heard, told_along, split_push, heard_along, unread_along, split_step, split_there, in_turn_on, over_by, told_now, hearing_now, no_end}
use Rattle.taps_group_exchange.proofs.Others.{once_apart, map_set, talks_along}
use Rattle.taps_group_exchange.proofs.Zips.{each_length, each_map}

record Needs (until needs : ℕ) (p : Place) : Type 0 where
  until_is : until ≡ p.member.until
  needs_is : needs ≡ p.member.needs

needs_at : (until needs k : ℕ) (places : List Place) (p : Place) → slice_get places k ≡ Some p → AllNeed until needs places → Needs until needs p
needs_at until needs k [] p at h = (let none : Option Place = None in let w : none ≡ Some p = at in absurd (cc))
needs_at until needs zero (q ∷ places) p at h = (let same : q ≡ p = cc in subst (Needs until needs) same (record { until_is = sym h.0; needs_is = sym h.1.0 }))
needs_at until needs (suc k) (q ∷ places) p at h = needs_at until needs k places p at h.1.1

-- another stands for one
each_replace : {M : Type 0} (R : Place → M → Type 0) (k : ℕ) (m n : M) (places : List Place) (members : List M) → slice_get members k ≡ Some m → ((p : Place) → R p m → R p n) → EachAt R places members → EachAt R places (slice_set members k n)
each_replace R k m n [] [] at h z = tt
each_replace R k m n [] (x ∷ members) at h z = absurd z
each_replace R k m n (p ∷ places) [] at h z = absurd z
each_replace R zero m n (p ∷ places) (x ∷ members) at h z = (let same : x ≡ m = cc in (h p (subst (R p) same z.0), z.1))
each_replace R (suc k) m n (p ∷ places) (x ∷ members) at h z = (z.0, each_replace R k m n places members at h z.1)

-- what stays of the sockets
pub close_along : {X : Type 0} {F : X → Type 0} (net net' : Net) (sockets : List ℕ) (m n : Member X F) → KeepsHearing net net' m n → MayClose net.trace sockets → MayClose net'.trace sockets
close_along net net' sockets m n k h = record {
  live = subst (λ l. All (λ s. has l s ≡ true) sockets) (sym (ap live_sockets k.changes.trace ∙ live_own m.connection.socket k.changes.items net.trace k.changes.own)) h.live;
  once = h.once;
}

pub same_socket : {X : Type 0} {F : X → Type 0} (net net' : Net) (m n : Member X F) → KeepsHearing net net' m n → n.connection.socket ≡ m.connection.socket
same_socket net net' m n k = ap (λ (v : Member _ _). v.connection.socket) k.kept

pub sockets_along : {X : Type 0} {F : X → Type 0} (net net' : Net) (members : List (Member X F)) (i : ℕ) (m n : Member X F) → slice_get members i ≡ Some m → KeepsHearing net net' m n → sockets_of (slice_set members i n) ≡ sockets_of members
sockets_along net net' members i m n at k = map_set (λ (x : Member _ _). x.connection.socket) members i m n at (same_socket net net' m n k)

pub talk_along : {X : Type 0} {F : X → Type 0} (boxed : (x : X) → framer.Ghosts (F x)) (net net' : Net) (members : List (Member X F)) (i : ℕ) (m n : Member X F) → slice_get members i ≡ Some m → IsOnce (sockets_of members) → KeepsHearing net net' m n → AllFrom (MayTalk boxed net) i members → AllFrom (MayTalk boxed net') (i + 1) (slice_set members i n)
talk_along boxed net net' members i m n at once k talk = λ j x from there.
    let differs : j ≡ i → ⊥ = λ e. omega (arith, e, from) in
    let was : slice_get members j ≡ Some x = sym (set_there members i j n differs) ∙ there in
    let other = once_apart (λ (v : Member _ _). v.connection.socket) members j i x m once was at differs in
    talks_along boxed net net' m.connection.socket k.changes.items x other k.changes.own k.changes.trace
    (k.changes.others x.connection.socket (λ e. let z : (m.connection.socket == x.connection.socket) ≡ true = eq-eqb m.connection.socket x.connection.socket (sym e) in let w : true ≡ false = sym z ∙ other in cc))
    (talk j x (omega (arith, from)) was)

module _ {N : Type 0} {X : Type 0} {F : X → Type 0} (boxed : (x : X) → framer.Ghosts (F x)) (Becomes : N → List Call → N → Type 0) (a b c : N) (net net' net'' : Net) (places : List Place) (told : List Told) (members : List (Member X F)) (until needs : ℕ) (m n : Member X F)
    (on : (a b c : N) (g h : List Call) → Becomes a g b → Becomes b h c → Becomes a (h ++ g) c) (shows : (calls : List Call) → Becomes b calls c → Shows net' calls net'')
    (there : slice_get members (length told) ≡ Some m) (once : IsOnce (sockets_of members)) (need : AllNeed until needs places) (keeps : KeepsHearing net' net'' m n) (s : HearsOn boxed Becomes a b net net' places told members) where
  found : (p : Place) × ((slice_get places (length told) ≡ Some p) × CanHear boxed s.calls p m)
  found = split_there (HasHeardAll s.calls) (CanHear boxed s.calls) told places members m there s.split

  abbrev p : Place
  p = found.0

  abbrev at : slice_get places (length told) ≡ Some p
  at = found.1.0

  abbrev can : CanHear boxed s.calls p m
  can = found.1.1

  once_in : IsOnce (sockets_in places)
  once_in = subst IsOnce (sym s.sockets) once

  abbrev Heard : Result (Option Outcome) NoMemory → List (List ℕ) → Type 0
  Heard result heard = HasHeard Becomes p.member.decoding b c p.member.socket p.member.piece p.member.until p.member.needs [] false result heard

  heard_there : (result : Result (Option Outcome) NoMemory) (heard : List (List ℕ)) → HearsAs boxed Becomes b c until needs result heard m → Heard result heard
  heard_there result heard h =
      let k = needs_at until needs (length told) places p at need in
      subst (λ d. HasHeard Becomes d b c p.member.socket p.member.piece p.member.until p.member.needs [] false result heard) can.unread.silent.decoding
      (subst (λ v. HasHeard Becomes (decoding_of (is_stream m.connection.stack) (layers_of boxed m.connection.chain)) b c v p.member.piece p.member.until p.member.needs [] false result heard) can.socket
      (subst (λ v. HasHeard Becomes (decoding_of (is_stream m.connection.stack) (layers_of boxed m.connection.chain)) b c m.connection.socket p.member.piece v p.member.needs [] false result heard) k.until_is
      (subst (λ v. HasHeard Becomes (decoding_of (is_stream m.connection.stack) (layers_of boxed m.connection.chain)) b c m.connection.socket p.member.piece until v [] false result heard) k.needs_is
      (h p.member.piece can.at_once))))

  few_items : (calls : List Call) → Becomes b calls c → length (items_of calls) ≤ 1
  few_items calls h =
      let shown : length net''.trace ≡ length (items_of calls ++ net'.trace) = ap length (shows calls h).trace in
      let kept : length net''.trace ≡ length (keeps.changes.items ++ net'.trace) = ap length keeps.changes.trace in
      let x = length-append (items_of calls) net'.trace in
      let y = length-append keeps.changes.items net'.trace in
      let few = keeps.changes.few in
      omega (arith, shown, kept, x, y, few)

  few_all : (calls : List Call) → Becomes b calls c → length (items_of (calls ++ s.calls)) ≤ length members + (length told + 1)
  few_all calls h =
      let one = few_items calls h in
      let all : length (items_of (calls ++ s.calls)) ≡ length (items_of calls ++ items_of s.calls) = ap length (items_behind calls s.calls) in
      let x = length-append (items_of calls) (items_of s.calls) in
      let few = s.few in
      omega (arith, one, all, x, few)

  within : length told < length members
  within = slice_get_within members (length told) m there

  pub cut_hears : (none : NoMemory) (heard : List (List ℕ)) → HearsAs boxed Becomes b c until needs (Err none) heard m → IsHearingCut Becomes a c net net'' places
  cut_hears none heard hears =
      let h = heard_there (Err none) heard hears in
      record {
        calls = h.calls ++ s.calls;
        becomes = on a b c s.calls h.calls s.becomes h.becomes;
        in_turn = in_turn_on places s.calls told p at once_in s.in_turn s.go s.out (all_heard s.calls (CanHear boxed s.calls) told places members s.split) can.unread.pieces can.unread.still_open h.calls h.asked h.others_go;
        few = (let few = few_all h.calls h.becomes in let less = within in let size = each_length (KeepsExpired s.calls) places members s.expired in omega (arith, few, less, size));
        faults = keeps.changes.faults ∙ s.faults;
      }

  own_on : (result : Result (Option Outcome) NoMemory) (heard : List (List ℕ)) (h : Heard result heard) → AllOn p.member.socket h.calls
  own_on result heard h = all_on p.member.socket h.calls (receives_on p.member.decoding p.member.socket p.member.piece p.member.until p.member.needs [] false h.calls h.asked)

  told_here : (stopped : Option Outcome) (heard : List (List ℕ)) (t : Told) (h : Heard (Ok stopped) heard) → t.sent ≡ m.connection.sender.sent → t.heard.items ≡ heard → IsTold (h.calls ++ s.calls) p t
  told_here stopped heard t h sent heard_is =
      told_now places s.calls told p at once_in s.in_turn s.go s.out (all_heard s.calls (CanHear boxed s.calls) told places members s.split) can.unread.pieces can.unread.still_open h.calls t h.asked (can.unread.silent.sent ∙ sym sent) (h.ended_so.heard_is ∙ sym heard_is)

  pub over_hears : (o : Outcome) (heard : List (List ℕ)) (t : Told) → HearsAs boxed Becomes b c until needs (Ok (Some o)) heard m → t.sent ≡ m.connection.sender.sent → t.heard.items ≡ heard → IsOverBy boxed Becomes a c net net'' places o (told ++ t ∷ []) (slice_set members (length told) n)
  over_hears o heard t hears sent heard_is =
      let h = heard_there (Ok (Some o)) heard hears in
      let own = own_on (Ok (Some o)) heard h in
      record {
        calls = h.calls ++ s.calls;
        becomes = on a b c s.calls h.calls s.becomes h.becomes;
        exchange = record {
          in_turn = in_turn_on places s.calls told p at once_in s.in_turn s.go s.out (all_heard s.calls (CanHear boxed s.calls) told places members s.split) can.unread.pieces can.unread.still_open h.calls h.asked h.others_go;
          ends = over_by places s.calls told p at once_in s.in_turn s.go s.out (all_heard s.calls (CanHear boxed s.calls) told places members s.split) can.unread.pieces can.unread.still_open h.calls o h.asked h.ended_so.ends;
        };
        split = split_step (HasHeardAll s.calls) (IsTold (h.calls ++ s.calls)) (CanHear boxed s.calls) (IsUnread boxed (h.calls ++ s.calls)) p t
            (λ q u other d. told_along p.member.socket h.calls s.calls q u other own d.told) (λ q x other r. unread_along boxed p.member.socket h.calls s.calls q x other own r.unread)
            (told_here (Some o) heard t h sent heard_is) told places members m n at there once_in s.split;
        few = (let few = few_all h.calls h.becomes in let less = within in let size = length-set members (length told) n in omega (arith, few, less, size));
        faults = keeps.changes.faults ∙ s.faults;
      }

  pub goes_hears : (heard : List (List ℕ)) (t : Told) → HearsAs boxed Becomes b c until needs (Ok None) heard m → t.sent ≡ m.connection.sender.sent → t.heard.items ≡ heard → HearsOn boxed Becomes a c net net'' places (told ++ t ∷ []) (slice_set members (length told) n)
  goes_hears heard t hears sent heard_is =
      let h = heard_there (Ok None) heard hears in
      let own = own_on (Ok None) heard h in
      let receives = receives_on p.member.decoding p.member.socket p.member.piece p.member.until p.member.needs [] false h.calls h.asked in
      let went = goes h.calls h.others_go (no_end (stop h.calls) (ended_by false h.calls) (heard_by p.member.decoding p.member.needs [] false h.calls) h.ended_so.ends) in
      let expired : n.connection.sender.expired ≡ m.connection.sender.expired = ap (λ (v : Sender). v.expired) keeps.sender in
      record {
        calls = h.calls ++ s.calls;
        becomes = on a b c s.calls h.calls s.becomes h.becomes;
        in_turn = in_turn_on places s.calls told p at once_in s.in_turn s.go s.out (all_heard s.calls (CanHear boxed s.calls) told places members s.split) can.unread.pieces can.unread.still_open h.calls h.asked h.others_go;
        go = go_behind h.calls s.calls went s.go;
        out = out_on p.member.socket h.calls s.calls places receives s.out;
        expired = each_replace (KeepsExpired (h.calls ++ s.calls)) (length told) m n places members there (λ q e. e ∙ sym expired)
            (each_map (KeepsExpired s.calls) (KeepsExpired (h.calls ++ s.calls)) places members (λ q x e. (place_box p.member.socket q h.calls s.calls receives).expired ∙ e) s.expired);
        sockets = s.sockets ∙ sym (sockets_along net' net'' members (length told) m n there keeps);
        split = split_step (HasHeardAll s.calls) (HasHeardAll (h.calls ++ s.calls)) (CanHear boxed s.calls) (CanHear boxed (h.calls ++ s.calls)) p t
            (λ q u other d. heard_along p.member.socket h.calls s.calls q u other own d) (λ q x other r. record { unread = unread_along boxed p.member.socket h.calls s.calls q x other own r.unread; socket = r.socket; at_once = r.at_once })
            (record {
              told = told_here None heard t h sent heard_is;
              heard = hearing_now places s.calls told p at once_in s.in_turn s.go s.out (all_heard s.calls (CanHear boxed s.calls) told places members s.split) can.unread.pieces can.unread.still_open h.calls h.asked ∙ (h.ended_so.all_heard refl ∙ ap enough (sym heard_is));
            }) told places members m n at there once_in s.split;
        few = (let few = few_all h.calls h.becomes in let size = length-set members (length told) n in let more = length-append told (t ∷ []) in omega (arith, few, size, more));
        faults = keeps.changes.faults ∙ s.faults;
      }

-- what the hearing of the member at a place makes of it
module _ {N : Type 0} {X : Type 0} {F : X → Type 0} (boxed : (x : X) → framer.Ghosts (F x)) (Becomes : N → List Call → N → Type 0) (a b c : N) (net net' net'' : Net) (places : List Place) (told : List Told) (members members' : List (Member X F)) (until needs k : ℕ)
    (on : (a b c : N) (g h : List Call) → Becomes a g b → Becomes b h c → Becomes a (h ++ g) c) (shows : (calls : List Call) → Becomes b calls c → Shows net' calls net'')
    (size : length told ≡ k) (once : IsOnce (sockets_of members)) (need : AllNeed until needs places) (ch : Changes (KeepsHearing net' net'') k members members') where
  there_told : slice_get members (length told) ≡ Some ch.was
  there_told = ap (slice_get members) size ∙ ch.at

  changed_told : slice_set members (length told) ch.becomes ≡ members'
  changed_told = ap (λ i. slice_set members i ch.becomes) size ∙ sym ch.changed

  sent_was : (t : Told) (x : Member X F) → slice_get members k ≡ Some x → t.sent ≡ x.connection.sender.sent → t.sent ≡ ch.was.connection.sender.sent
  sent_was t x there sent = (let both : Some x ≡ Some ch.was = sym there ∙ ch.at in sent ∙ ap (λ (v : Member X F). v.connection.sender.sent) (let same : x ≡ ch.was = cc in same))

  pub step_hears : (stopped : Option Outcome) (heard : List (List ℕ)) (t : Told) (x : Member X F) → IsAt members k (HearsAs boxed Becomes b c until needs (Ok stopped) heard) → slice_get members k ≡ Some x → t.sent ≡ x.connection.sender.sent → t.heard.items ≡ heard →
      HearsOn boxed Becomes a b net net' places told members → HearsOrOver boxed Becomes a c net net'' places stopped (told ++ t ∷ []) members'
  step_hears None heard t x hears there sent heard_is s =
      subst (HearsOn boxed Becomes a c net net'' places (told ++ t ∷ [])) changed_told
      (goes_hears boxed Becomes a b c net net' net'' places told members until needs ch.was ch.becomes on shows there_told once need ch.by s heard t (holds_at members k ch.was (HearsAs boxed Becomes b c until needs (Ok None) heard) ch.at hears) (sent_was t x there sent) heard_is)
  step_hears (Some o) heard t x hears there sent heard_is s =
      subst (IsOverBy boxed Becomes a c net net'' places o (told ++ t ∷ [])) changed_told
      (over_hears boxed Becomes a b c net net' net'' places told members until needs ch.was ch.becomes on shows there_told once need ch.by s o heard t (holds_at members k ch.was (HearsAs boxed Becomes b c until needs (Ok (Some o)) heard) ch.at hears) (sent_was t x there sent) heard_is)

  pub step_cut : (none : NoMemory) (heard : List (List ℕ)) → IsAt members k (HearsAs boxed Becomes b c until needs (Err none) heard) → HearsOn boxed Becomes a b net net' places told members → IsHearingCut Becomes a c net net'' places
  step_cut none heard hears s =
      cut_hears boxed Becomes a b c net net' net'' places told members until needs ch.was ch.becomes on shows there_told once need ch.by s none heard (holds_at members k ch.was (HearsAs boxed Becomes b c until needs (Err none) heard) ch.at hears)

-- and what stays of the sockets
pub step_close : {X : Type 0} {F : X → Type 0} (net net' : Net) (members members' : List (Member X F)) (k : ℕ) → Changes (KeepsHearing net net') k members members' → MayClose net.trace (sockets_of members) → MayClose net'.trace (sockets_of members')
step_close net net' members members' k ch h =
    subst (MayClose net'.trace) (sym (ap sockets_of ch.changed ∙ sockets_along net net' members k ch.was ch.becomes ch.at ch.by)) (close_along net net' (sockets_of members) ch.was ch.becomes ch.by h)

pub step_sockets : {X : Type 0} {F : X → Type 0} (net net' : Net) (members members' : List (Member X F)) (k : ℕ) → Changes (KeepsHearing net net') k members members' → sockets_of members' ≡ sockets_of members
step_sockets net net' members members' k ch = ap sockets_of ch.changed ∙ sockets_along net net' members k ch.was ch.becomes ch.at ch.by

pub step_talk : {X : Type 0} {F : X → Type 0} (boxed : (x : X) → framer.Ghosts (F x)) (net net' : Net) (members members' : List (Member X F)) (k : ℕ) → Changes (KeepsHearing net net') k members members' → IsOnce (sockets_of members) → AllFrom (MayTalk boxed net) k members → AllFrom (MayTalk boxed net') (k + 1) members'
step_talk boxed net net' members members' k ch once talk = subst (AllFrom (MayTalk boxed net') (k + 1)) (sym ch.changed) (talk_along boxed net net' members k ch.was ch.becomes ch.at once ch.by talk)

-- none hears where the exchange is over
silent_told : {X : Type 0} {F : X → Type 0} (boxed : (x : X) → framer.Ghosts (F x)) (calls : List Call) (t : Told) (m : Member X F) → t.sent ≡ m.connection.sender.sent → t.heard.items ≡ [] → (q : Place) → IsUnread boxed calls q m → IsTold calls q t
silent_told boxed calls t m sent none q u =
    let own = calls_on q.member.socket calls in
    let count : count_sent (outbox_after q.member own) ≡ t.sent = u.silent.sent ∙ sym sent in
    let nothing : messages_of (exchange.hearing_after q.member own) ≡ t.heard.items =
    ap (λ v. messages_of (q.member.decoding.hearing q.member.needs v (has_ended own))) u.pieces
    ∙ (ap (λ v. messages_of (q.member.decoding.hearing q.member.needs [] v)) u.still_open
    ∙ (ap (λ d. messages_of (d.hearing q.member.needs [] false)) (sym u.silent.decoding)
    ∙ (nothing_heard (is_stream m.connection.stack) (layers_of boxed m.connection.chain) q.member.needs u.silent.framers ∙ sym none))) in
    rw (count, nothing) refl

pub still_over : {N : Type 0} {X : Type 0} {F : X → Type 0} (boxed : (x : X) → framer.Ghosts (F x)) (Becomes : N → List Call → N → Type 0) (a b : N) (net net' : Net) (places : List Place) (told : List Told) (members : List (Member X F)) (k : ℕ) (t : Told) (m : Member X F) (stopped : Option Outcome) (o : Outcome) →
    stopped ≡ Some o → length told ≡ k → slice_get members k ≡ Some m → t.sent ≡ m.connection.sender.sent → t.heard.items ≡ [] → HearsOrOver boxed Becomes a b net net' places stopped told members → HearsOrOver boxed Becomes a b net net' places stopped (told ++ t ∷ []) members
still_over boxed Becomes a b net net' places told members k t m None o is size at sent none h = absurd (cc)
still_over boxed Becomes a b net net' places told members k t m (Some p) o is size at sent none h = record {
  calls = h.calls;
  becomes = h.becomes;
  exchange = h.exchange;
  split = split_push (IsTold h.calls) (IsUnread boxed h.calls) t told places members m (ap (slice_get members) size ∙ at) (silent_told boxed h.calls t m sent none) h.split;
  few = h.few;
  faults = h.faults;
}

-- how an exchange was stopped, if it was
abbrev stop_in : Result (Option Outcome × Told) NoMemory → Option Outcome
stop_in (Ok step) = step.0
stop_in (Err none) = None

pub none_stopped : (stopped : Option Outcome) (t u : Told) → (let r : Result (Option Outcome × Told) NoMemory = Ok (stopped, t) in r) ≡ Ok (None, u) → stopped ≡ None
none_stopped stopped t u e = ap stop_in e

pub not_stopped : (stopped : Option Outcome) (o : Outcome) (t u : Told) → stopped ≡ Some o → (let r : Result (Option Outcome × Told) NoMemory = Ok (stopped, t) in r) ≡ Ok (None, u) → ⊥
not_stopped stopped o t u is e = (let none = none_stopped stopped t u e in let z : Some o ≡ None = sym is ∙ none in cc)

-- as many places as members, and no more are told
pub record Sizes (told places members : ℕ) : Type 0 where
  pub same : places ≡ members
  pub told_few : told ≤ members

pub split_sizes : {M : Type 0} (Done : Place → Told → Type 0) (Rest : Place → M → Type 0) (told : List Told) (places : List Place) (members : List M) → Split Done Rest told places members → Sizes (length told) (length places) (length members)
split_sizes Done Rest [] places members z = record { same = each_length Rest places members z; told_few = omega arith }
split_sizes Done Rest (t ∷ told) [] members z = absurd z
split_sizes Done Rest (t ∷ told) (p ∷ places) [] z = absurd z
split_sizes Done Rest (t ∷ told) (p ∷ places) (m ∷ members) z =
    let s = split_sizes Done Rest told places members z.1 in
    record { same = (let x = s.same in omega (arith, x)); told_few = (let x = s.told_few in omega (arith, x)) }

-- memory runs out for what is told
pub cut_told : {N : Type 0} {X : Type 0} {F : X → Type 0} (boxed : (x : X) → framer.Ghosts (F x)) (Becomes : N → List Call → N → Type 0) (a b : N) (net net' : Net) (places : List Place) (told : List Told) (members : List (Member X F)) (stopped : Option Outcome) →
    HearsOrOver boxed Becomes a b net net' places stopped told members → IsHearingCut Becomes a b net net' places
cut_told boxed Becomes a b net net' places told members None h =
    let s = split_sizes (HasHeardAll h.calls) (CanHear boxed h.calls) told places members h.split in
    record { calls = h.calls; becomes = h.becomes; in_turn = h.in_turn; few = (let few = h.few in let x = s.same in let y = s.told_few in omega (arith, few, x, y)); faults = h.faults }
cut_told boxed Becomes a b net net' places told members (Some o) h =
    let s = split_sizes (IsTold h.calls) (IsUnread boxed h.calls) told places members h.split in
    record { calls = h.calls; becomes = h.becomes; in_turn = h.exchange.in_turn; few = (let few = h.few in let x = s.same in omega (arith, few, x)); faults = h.faults }
