use Rattle.std.proofs.Common.{◌≡◌, ◌-◌, reverse, ap, sym, subst, arith}
use Rattle.taps_failing.specs.SameSockets.{TellsSameSockets, IsFailure}
use Rattle.taps_failing.proofs.Same.{newest, failure_on}
use Rattle.taps_failing.proofs.failing.Failing.fail.Goals as goal

pub invariant_of-self : goal.invariant_of-self
invariant_of-self g c =
    let s = c.self.inside in
    let trace = reverse s.items.items in
    let others = (g.N.Sockets.net s.net).trace in
    let old = c.self.invariant.1 in
    let first = c.self.invariant.0 in
    let second = old.spare in
    let is : IsFailure c.args.item trace = subst (λ v. IsFailure c.args.item v.own.trace) (sym c.self.view_is) c.requires.item in
    let newer = newest s.items.items c.add.new.self.items c.args.item (ap (λ v. v.items) c.add.ensures) in
    let room : c.add.new.self.spare ≡ s.items.spare - 1 = ap (λ v. v.spare) c.add.ensures in (
      omega arith,
      record {
        sockets = subst (λ v. TellsSameSockets v others) (sym newer) (failure_on c.args.item trace others is old.sockets);
        told = old.told;
        fits = old.fits;
        spare = omega arith;
      },
    )
