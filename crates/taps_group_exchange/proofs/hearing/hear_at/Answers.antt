use Rattle.std.proofs.Common.{ap, refl, sym, subst, [], length, List, ℕ}
use Rattle.std.specs.Prelude.{map}
use Rattle.taps_chain.specs.Layers.{layers_of}
use Rattle.taps_stack.specs.StackTable.{is_stream}
use Rattle.taps_connection.specs.Histories.{message, Represents}
use Rattle.taps_connection.specs.Sources.{unread_of}
use Rattle.taps_exchange.specs.Decodings.{decoding_of}
use Rattle.taps_exchange.specs.Hearings.{HasHeard}
use Rattle.taps_connection.proofs.Reading.{first_represents}
use Rattle.taps_exchange.proofs.Kept.{fits_first}
use Rattle.taps_group.proofs.Places.{holds_at, indexed, is_at}
use Rattle.taps_group_exchange.specs.GroupHearings.{HearsAs}
use Rattle.taps_group_exchange.specs.Standing.{MayTalk}
use Rattle.taps_group_exchange.proofs.hearing.hear_at.Goals as goal

pub returns-clause-changed : goal.returns-clause-changed
returns-clause-changed g c =
    let m = c.index_mut.result.now in
    let e = c.hear_until.ensures in
    record {
      was = m;
      becomes = record m { connection = c.hear_until.new.connection };
      at = indexed _ _ _ c.requires.member c.index_mut.ensures.value;
      changed = refl;
      by = record { changes = e.changes; kept = ap (λ k. record m { connection = k }) e.kept; sender = e.sender };
    }

pub returns-clause-heard : goal.returns-clause-heard
returns-clause-heard g c =
    let m = c.index_mut.result.now in
    let at = indexed c.args.members.now.items c.args.place m c.requires.member c.index_mut.ensures.value in
    let may : MayTalk (λ vtable. (g.dyn-1.0.entry vtable).1) (g.N.Sockets.net c.args.net.now) m = holds_at c.args.members.now.items c.args.place m (MayTalk (λ vtable. (g.dyn-1.0.entry vtable).1) (g.N.Sockets.net c.args.net.now)) at c.requires.talk in
    is_at c.args.members.now.items c.args.place m (HearsAs (λ vtable. (g.dyn-1.0.entry vtable).1) g.N.Sockets.Becomes c.args.net.now c.hear_until.new.net c.args.until c.args.needs c.hear_until.result c.hear_until.new.heard.items) at
    (λ piece e.
    let fits = fits_first m.connection.stack (layers_of (λ vtable. (g.dyn-1.0.entry vtable).1) m.connection.chain) piece (unread_of m.connection.receiver.source) e in
    let first : Represents (layers_of (λ vtable. (g.dyn-1.0.entry vtable).1) m.connection.chain) m.connection.receiver.ended (unread_of m.connection.receiver.source) [] [] = first_represents (layers_of (λ vtable. (g.dyn-1.0.entry vtable).1) m.connection.chain) m.connection.stack piece (length (layers_of (λ vtable. (g.dyn-1.0.entry vtable).1) m.connection.chain)) m.connection.receiver.ended (unread_of m.connection.receiver.source) may.goes_on e in
    let now : Represents (layers_of (λ vtable. (g.dyn-1.0.entry vtable).1) m.connection.chain) m.connection.receiver.ended (unread_of m.connection.receiver.source) [] (map message c.args.heard.now.items) =
    subst (λ (l : List (List ℕ)). Represents (layers_of (λ vtable. (g.dyn-1.0.entry vtable).1) m.connection.chain) m.connection.receiver.ended (unread_of m.connection.receiver.source) [] (map message l)) (sym c.requires.none_heard) first in
    subst (λ b. HasHeard g.N.Sockets.Becomes (decoding_of (is_stream m.connection.stack) (layers_of (λ vtable. (g.dyn-1.0.entry vtable).1) m.connection.chain)) c.args.net.now c.hear_until.new.net m.connection.socket piece c.args.until c.args.needs [] b c.hear_until.result c.hear_until.new.heard.items) may.goes_on (c.hear_until.ensures.heard piece [] [] fits now))
