use Rattle.std.proofs.Common.{◌≡◌, ◌++◌, ◌∷◌, [], length, length-append, refl, sym, ap, subst, ◌∙◌, arith}
use Rattle.std.specs.Prelude.{Ok}
use Rattle.taps_group_exchange.specs.GroupHearings.{HearsOrOver}
use Rattle.taps_group_exchange.proofs.HearingGroup.{cut_told}
use Rattle.taps_group_exchange.proofs.SendLoop.{same_size}
use Rattle.taps_group_exchange.proofs.hearing.hear_all.Goals as goal

pub hearing-init : goal.hearing-init
hearing-init g c =
    record {
      within = omega arith;
      told_size = ap length c.new.ensures.items;
      talk = λ is i m from at. c.requires.talk is i m at;
      close = c.requires.close;
      sockets = refl;
      spare = omega arith;
      hears = λ first net_first places need h. subst (λ l. HearsOrOver (λ vtable. (g.dyn-1.0.entry vtable).1) g.N.Sockets.Becomes first c.args.net.now net_first (g.N.Sockets.net c.args.net.now) places c.args.stopped l c.args.members.now.items) (sym c.new.ensures.items) h;
    }

pub hearing-preserved : goal.hearing-preserved
hearing-preserved g c =
    let i = c.hearing.invariant in
    let e = c.in-Ok.ensures in
    let told : c.push.new.self.items ≡ c.hearing.progress.told.items ++ c.in-Ok.told ∷ [] = c.in-Ok-push.ensures.items in
    let size : length c.push.new.self.items ≡ length (c.hearing.progress.told.items ++ c.in-Ok.told ∷ []) = ap length told in
    let more = length-append c.hearing.progress.told.items (c.in-Ok.told ∷ []) in
    let was = i.told_size in
    record {
      within = (let size = same_size c.hearing.members.items c.hear_next.new.members.items e.sockets in let test = c.hearing-test.true in let len = c.len.ensures in omega (arith, size, test, len));
      told_size = omega (arith, size, more, was);
      talk = λ is. e.talk c.in-Ok.told (ap (λ v. Ok (v, c.in-Ok.told)) is);
      close = e.close;
      sockets = e.sockets ∙ i.sockets;
      spare = (let x = i.spare in let y = e.spare in omega (arith, x, y));
      hears = λ first net_first places need h. subst (λ l. HearsOrOver (λ vtable. (g.dyn-1.0.entry vtable).1) g.N.Sockets.Becomes first c.hear_next.new.net net_first (g.N.Sockets.net c.hear_next.new.net) places c.in-Ok.stopped l c.hear_next.new.members.items) (sym told)
          (e.stepped first net_first places c.hearing.progress.told.items need i.told_size (i.hears first net_first places need h));
    }

pub returns-in-Err-push-clause-heard : goal.returns-in-Err-push-clause-heard
returns-in-Err-push-clause-heard g c = λ first net_first places need h.
    let i = c.hearing.invariant in
    cut_told (λ vtable. (g.dyn-1.0.entry vtable).1) g.N.Sockets.Becomes first c.hear_next.new.net net_first (g.N.Sockets.net c.hear_next.new.net) places (c.hearing.progress.told.items ++ c.in-Ok.told ∷ []) c.hear_next.new.members.items c.in-Ok.stopped
    (c.in-Ok.ensures.stepped first net_first places c.hearing.progress.told.items need i.told_size (i.hears first net_first places need h))

pub returns-in-Err-clause-heard : goal.returns-in-Err-clause-heard
returns-in-Err-clause-heard g c = λ first net_first places need h.
    let i = c.hearing.invariant in
    c.in-Err.ensures.stepped first net_first places c.hearing.progress.told.items need i.told_size (i.hears first net_first places need h)
