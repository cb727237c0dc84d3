-- What is kept goes on standing for what is read, where the socket is asked once.
use Rattle.std.proofs.Common.{◌≡◌, ℕ, zero, suc, cond, Bool, true, false, List, [], ◌∷◌, ◌++◌, Option, Some, None, refl, sym, ap, ◌∙◌, subst, eq-eqb}
use Rattle.std.proofs.lemmas.List.{append-nil}
use Rattle.std.specs.List.{concat}
use Rattle.std.specs.Option.{option_map}
use Rattle.taps_framer.specs.Layers.{Layer}
use Rattle.taps_chain.specs.declared.heard.BadAt.{BadAt}
use Rattle.taps_chain.proofs.Spelled.{begun_fed, begun_none}
use Rattle.taps_socket.specs.Calls.{Call}
use Rattle.taps_socket.specs.Net.{Net, with_piece, after_receive}
use Rattle.taps_socket.specs.Sides.{carries_stream}
use Rattle.taps_socket.specs.declared.answers.RecvAnswer.TheVariants as recv
use Rattle.taps_stack.specs.declared.stack.Stack.{Stack}
use Rattle.taps_stack.specs.StackTable.{is_stream}
use Rattle.taps_connection.specs.declared.pulled.Pulled.{Pulled}
use Rattle.taps_connection.specs.declared.pulled.Pulled.TheVariants as pulled
use Rattle.taps_connection.specs.Unread.{Unread, framed, plain, datagrams, first_of_stream, first_unread, is_stream_of, with_bytes, IsWanting}
use Rattle.taps_connection.specs.Inboxes.{Inbox, IsPulled}
use Rattle.taps_connection.specs.Histories.{Given, Represents, RepresentsRead, IsHeardSoFar}

joined : (read : List (List ℕ)) (came : List ℕ) → concat (with_piece true came read) ≡ concat read ++ came
joined read came = append-nil (concat read ++ came)

framed_on : (fs : List Layer) (x came unread : List ℕ) (given : List Given) (k : ℕ) (bad : Option BadAt) → bad ≡ None →
    IsHeardSoFar fs x given unread k bad → IsHeardSoFar fs (x ++ came) given (unread ++ came) k bad
framed_on fs x came unread given k None e h =
    record { messages = h.messages; given_out = h.given_out; begun = begun_fed fs 0 x h.messages unread came h.begun; count = h.count; broken = tt }
framed_on fs x came unread given k (Some b) e h = absurd (cc)

-- bytes that came are unread
pub taken_in : (fs : List Layer) (ended : Bool) (u : Unread) (came : List ℕ) (read : List (List ℕ)) (given : List Given) → IsWanting u → ended ≡ false →
    Represents fs ended u read given → Represents fs ended (with_bytes came u) (with_piece (is_stream_of u) came read) given
taken_in fs ended (framed piece x k bad) came read given w o h =
    subst (λ z. IsHeardSoFar fs z given (x ++ came) k bad) (sym (joined read came)) (framed_on fs (concat read) came x given k bad w.0 h)
taken_in fs ended (plain piece x false) came read given w o h = (h.0, ap (λ v. v ++ came) h.1 ∙ sym (joined read came))
taken_in fs ended (plain piece x true) came read given w o h = absurd (let e = h.0 in cc)
taken_in fs ended (datagrams None k) came read given w o h =
    record { before = h.before; split = ap (λ v. v ++ came ∷ []) (h.split ∙ append-nil h.before); given_out = h.given_out; counted = h.counted }
taken_in fs ended (datagrams (Some y) k) came read given w o h = absurd (cc)

-- the stream may have ended
ended_on : (fs : List Layer) (ended : Bool) (u : Unread) (read : List (List ℕ)) (given : List Given) → Represents fs ended u read given → Represents fs true u read given
ended_on fs ended (framed piece x k bad) read given h = h
ended_on fs ended (plain piece x false) read given h = h
ended_on fs ended (plain piece x true) read given h = (refl, h.1, h.2, h.3)
ended_on fs ended (datagrams held k) read given h = h

-- the same where the pieces are observable
read_taken_in : (fs : List Layer) (ended : Bool) (u : Unread) (came : List ℕ) (read : Option (List (List ℕ))) (given : List Given) → IsWanting u → ended ≡ false →
    RepresentsRead fs ended u read given → RepresentsRead fs ended (with_bytes came u) (option_map (with_piece (is_stream_of u) came) read) given
read_taken_in fs ended u came None given w o h = tt
read_taken_in fs ended u came (Some read) given w o h = taken_in fs ended u came read given w o h

read_ended_on : (fs : List Layer) (ended : Bool) (u : Unread) (read : Option (List (List ℕ))) (given : List Given) → RepresentsRead fs ended u read given → RepresentsRead fs true u read given
read_ended_on fs ended u None given h = tt
read_ended_on fs ended u (Some read) given h = ended_on fs ended u read given h

-- what is read of a socket by a receive on it
got_read : (net : Net) (socket until : ℕ) (came : List ℕ) (count at : ℕ) →
    ((after_receive socket until came (recv.Got count at) net).traffic socket).read ≡ option_map (with_piece (carries_stream net.trace socket) came) (net.traffic socket).read
got_read net socket until came count at = rw (eq-eqb socket socket refl) refl

-- the connection's socket was asked once
pub reads_on : {N : Type 0} (Becomes : N → List Call → N → Type 0) (before after : N) (net net' : Net) (socket until : ℕ) (i : Inbox) (answer : Pulled) (j : Inbox) →
    IsPulled Becomes before after net net' socket until i answer j → IsWanting i.unread → i.ended ≡ false → carries_stream net.trace socket ≡ is_stream_of i.unread →
    (fs : List Layer) (given : List Given) → RepresentsRead fs i.ended i.unread (net.traffic socket).read given → RepresentsRead fs j.ended j.unread (net'.traffic socket).read given
reads_on Becomes before after net net' socket until i pulled.Got j p w o s fs given h =
    let r = p.pulled.2 in
    let now : (net'.traffic socket).read ≡ option_map (with_piece (is_stream_of i.unread) p.came) (net.traffic socket).read =
    ap (λ n. (n.traffic socket).read) r.0.changed ∙ (got_read net socket until p.came p.pulled.0 p.pulled.1 ∙ ap (λ b. option_map (with_piece b p.came) (net.traffic socket).read) s) in
    subst (λ v. RepresentsRead fs v.ended v.unread (net'.traffic socket).read given) (sym r.1)
    (subst (λ v. RepresentsRead fs i.ended (with_bytes p.came i.unread) v given) (sym now) (read_taken_in fs i.ended i.unread p.came (net.traffic socket).read given w o h))
reads_on Becomes before after net net' socket until i pulled.Ended j p w o s fs given h =
    let now : (net'.traffic socket).read ≡ (net.traffic socket).read = ap (λ n. (n.traffic socket).read) p.pulled.0.changed in
    subst (λ v. RepresentsRead fs v.ended v.unread (net'.traffic socket).read given) (sym p.pulled.1)
    (subst (λ v. RepresentsRead fs true i.unread v given) (sym now) (read_ended_on fs i.ended i.unread (net.traffic socket).read given h))
reads_on Becomes before after net net' socket until i (pulled.Timed at) j p w o s fs given h =
    let now : (net'.traffic socket).read ≡ (net.traffic socket).read = ap (λ n. (n.traffic socket).read) p.pulled.0.changed in
    subst (λ v. RepresentsRead fs v.ended v.unread (net'.traffic socket).read given) (sym p.pulled.1) (subst (λ v. RepresentsRead fs i.ended i.unread v given) (sym now) h)
reads_on Becomes before after net net' socket until i (pulled.Failed cause) j p w o s fs given h =
    let now : (net'.traffic socket).read ≡ (net.traffic socket).read = ap (λ n. (n.traffic socket).read) p.pulled.0.changed in
    subst (λ v. RepresentsRead fs v.ended v.unread (net'.traffic socket).read given) (sym p.pulled.1) (subst (λ v. RepresentsRead fs i.ended i.unread v given) (sym now) h)
reads_on Becomes before after net net' socket until i pulled.NoMemory j p w o s fs given h =
    let now : (net'.traffic socket).read ≡ (net.traffic socket).read = ap (λ n. (n.traffic socket).read) p.pulled.0.unchanged in
    subst (λ v. RepresentsRead fs v.ended v.unread (net'.traffic socket).read given) (sym p.pulled.1) (subst (λ v. RepresentsRead fs i.ended i.unread v given) (sym now) h)

-- where nothing came
pub first_represents : (fs : List Layer) (stack : Stack) (piece layers : ℕ) (e : Bool) (u : Unread) → e ≡ false → u ≡ first_unread stack piece layers → Represents fs e u [] []
first_represents fs stack piece layers e u i j = subst (λ v. Represents fs e v [] []) (sym j) (by_kind (is_stream stack) layers)
  where
    by_layers : (n : ℕ) → Represents fs e (first_of_stream piece n) [] []
    by_layers zero = (refl, refl)
    by_layers (suc n) = record { messages = []; given_out = refl; begun = begun_none fs 0 []; count = refl; broken = tt }

    by_kind : (b : Bool) (n : ℕ) → Represents fs e (cond b (first_of_stream piece n) (datagrams None 0)) [] []
    by_kind true n = by_layers n
    by_kind false n = record { before = []; split = refl; given_out = tt; counted = refl }
