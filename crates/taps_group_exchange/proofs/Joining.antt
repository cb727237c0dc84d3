-- Members that sent go on to hear.
use Rattle.std.proofs.Common.{◌≡◌, ℕ, Bool, true, false, cond, List, [], ◌∷◌, Option, Some, None, refl, sym, ap, ◌∙◌, arith}
use Rattle.std.specs.Prelude.{◌==◌, Ok}
use Rattle.taps_framer.specs.declared.framer.Framer as framer
use Rattle.taps_chain.specs.Layers.{layers_of}
use Rattle.taps_stack.specs.StackTable.{is_stream}
use Rattle.taps_socket.specs.Calls.{Call, sends, receives, shuts, closes, begins, starts, waits, listens, accepts}
use Rattle.taps_socket.specs.Net.{Net}
use Rattle.taps_connection.specs.Outboxes.{all_out}
use Rattle.taps_connection.specs.Sound.{IsSound}
use Rattle.taps_exchange.specs.declared.outcome.Outcome.{Outcome}
use Rattle.taps_exchange.specs.Members.{calls_on, pieces_read, has_ended}
use Rattle.taps_exchange.specs.Turns.{Place, stand_of}
use Rattle.taps_group.specs.Closes.{sockets_of}
use Rattle.taps_group.specs.declared.group.Group.{Group}
use Rattle.taps_group.specs.declared.member.Member.{Member}
use Rattle.taps_group.specs.Groups.{IsSoundGroup}
use Rattle.taps_group_exchange.specs.GroupExchanges.{sockets_in}
use Rattle.taps_group_exchange.specs.GroupHearings.{AllNeed, AllOut, CanHear, HearsOrOver, HearsOn, IsHearingCut, IsOverBy, IsUnread}
use Rattle.taps_group_exchange.specs.GroupSendings.{AllUntil, HasSentAll, HasSentOut, IsSendingCut, IsSentOver, IsSilent}
use Rattle.taps_group_exchange.specs.Standing.{AllOf, AreStanding, EachAt, IsStanding, MayTalk, ReadsNone}
use Rattle.taps_group_exchange.proofs.Counting.{count_few, count_standing}
use Rattle.taps_group_exchange.proofs.Zips.{each_and, each_map}

pub until_all : (until needs : ℕ) (places : List Place) → AllNeed until needs places → AllUntil until places
until_all until needs [] h = tt
until_all until needs (p ∷ places) h = (h.0, until_all until needs places h.1.1)

record ReadsNothing (calls : List Call) : Type 0 where
  pieces : pieces_read calls ≡ []
  still_open : has_ended calls ≡ false

-- nothing was read on any socket
reads_none : (s : ℕ) (calls : List Call) → ReadsNone calls → ReadsNothing (calls_on s calls)
reads_none s [] h = record { pieces = refl; still_open = refl }
reads_none s (receives x most u came a ∷ calls) h = absurd h
reads_none s (sends x b u a ∷ calls) h = by (x == s) (reads_none s calls h)
  where
    by : (q : Bool) → ReadsNothing (calls_on s calls) → ReadsNothing (cond q (sends x b u a ∷ calls_on s calls) (calls_on s calls))
    by true k = record { pieces = k.pieces; still_open = k.still_open }
    by false k = k
reads_none s (shuts x ∷ calls) h = by (x == s) (reads_none s calls h)
  where
    by : (q : Bool) → ReadsNothing (calls_on s calls) → ReadsNothing (cond q (shuts x ∷ calls_on s calls) (calls_on s calls))
    by true k = record { pieces = k.pieces; still_open = k.still_open }
    by false k = k
reads_none s (closes x ∷ calls) h = by (x == s) (reads_none s calls h)
  where
    by : (q : Bool) → ReadsNothing (calls_on s calls) → ReadsNothing (cond q (closes x ∷ calls_on s calls) (calls_on s calls))
    by true k = record { pieces = k.pieces; still_open = k.still_open }
    by false k = k
reads_none s (begins at ∷ calls) h = reads_none s calls h
reads_none s (starts l g a ∷ calls) h = reads_none s calls h
reads_none s (waits u a ∷ calls) h = reads_none s calls h
reads_none s (listens g a ∷ calls) h = reads_none s calls h
reads_none s (accepts l u a ∷ calls) h = reads_none s calls h

all_out_of : {M : Type 0} (calls : List Call) (places : List Place) (members : List M) → EachAt (λ (p : Place) (m : M). stand_of calls p ≡ all_out) places members → AllOut calls places
all_out_of calls [] [] z = tt
all_out_of calls [] (m ∷ members) z = absurd z
all_out_of calls (p ∷ places) [] z = absurd z
all_out_of calls (p ∷ places) (m ∷ members) z = (z.0, all_out_of calls places members z.1)

pub sockets_same : {X : Type 0} {F : X → Type 0} (boxed : (x : X) → framer.Ghosts (F x)) (calls : List Call) (places : List Place) (members : List (Member X F)) → AreStanding boxed calls places members → sockets_in places ≡ sockets_of members
sockets_same boxed calls [] [] z = refl
sockets_same boxed calls [] (m ∷ members) z = absurd z
sockets_same boxed calls (p ∷ places) [] z = absurd z
sockets_same boxed calls (p ∷ places) (m ∷ members) z = ap (λ v. v ∷ sockets_in places) (sym z.0.socket) ∙ ap (λ v. m.connection.socket ∷ v) (sockets_same boxed calls places members z.1)

module _ {N : Type 0} {X : Type 0} {F : X → Type 0} (boxed : (x : X) → framer.Ghosts (F x)) (Becomes : N → List Call → N → Type 0) (a b : N) (net net' : Net) (places : List Place) (g : Group X F) (sound : IsSoundGroup boxed g) where
  unread_by : (calls : List Call) → ReadsNone calls → (p : Place) (m : Member X F) → IsSilent boxed calls p m → IsUnread boxed calls p m
  unread_by calls reads p m silent = (let k = reads_none p.member.socket calls reads in record { silent = silent; pieces = k.pieces; still_open = k.still_open })

  sent_all_hears : AllOf (MayTalk boxed net') g.members.items → HasSentAll boxed Becomes a b net net' places g.members.items → HearsOn boxed Becomes a b net net' places [] g.members.items
  sent_all_hears talk s =
      let n = s.sends in
      record {
        calls = n.calls;
        becomes = n.becomes;
        in_turn = n.in_turn;
        go = n.go;
        out = all_out_of n.calls places g.members.items s.out;
        expired = s.expired;
        sockets = sockets_same boxed n.calls places g.members.items n.standing;
        split = each_map (λ p m. IsStanding boxed n.calls p m × (MayTalk boxed net' m × IsSound (is_stream m.connection.stack) (layers_of boxed m.connection.chain) m.connection.sender)) (CanHear boxed n.calls) places g.members.items
            (λ p m h. record {
              unread = unread_by n.calls n.reads_none p m (record { sent = count_standing boxed n.calls p m h.0 h.1.0.framers h.1.1; decoding = h.0.decoding; framers = h.1.0.framers });
              socket = h.0.socket;
              at_once = h.0.unread;
            })
            (each_and (IsStanding boxed n.calls) (λ m. MayTalk boxed net' m × IsSound (is_stream m.connection.stack) (layers_of boxed m.connection.chain) m.connection.sender) places g.members.items (λ i m at. (talk i m at, (sound.each i m at).sending)) n.standing);
        few = (let few = n.items in let most = count_few g.members.items in omega (arith, few, most));
        faults = n.faults;
      }

  sent_over_ends : (o : Outcome) → IsSentOver boxed Becomes a b net net' places o g.members.items → IsOverBy boxed Becomes a b net net' places o [] g.members.items
  sent_over_ends o s = record {
    calls = s.calls;
    becomes = s.becomes;
    exchange = s.exchange;
    split = each_map (IsSilent boxed s.calls) (IsUnread boxed s.calls) places g.members.items (λ p m h. unread_by s.calls s.reads_none p m h) s.silent;
    few = (let few = s.few in omega (arith, few));
    faults = s.faults;
  }

  pub hears_next : (stopped : Option Outcome) → (stopped ≡ None → AllOf (MayTalk boxed net') g.members.items) → HasSentOut boxed Becomes a b net net' places (Ok stopped) g.members.items → HearsOrOver boxed Becomes a b net net' places stopped [] g.members.items
  hears_next None talk h = sent_all_hears (talk refl) h
  hears_next (Some o) talk h = sent_over_ends o h

pub cut_sending : {N : Type 0} (Becomes : N → List Call → N → Type 0) (a b : N) (net net' : Net) (places : List Place) → IsSendingCut Becomes a b net net' places → IsHearingCut Becomes a b net net' places
cut_sending Becomes a b net net' places h = record { calls = h.calls; becomes = h.becomes; in_turn = h.in_turn; few = (let few = h.few in omega (arith, few)); faults = h.faults }
