use Rattle.std.proofs.Common.{◌≡◌, ◌≤◌, ◌<◌, ◌+◌, ◌-◌, refl, arith}
use Rattle.taps_cloning.specs.GroupRules.{terms_of}
use Rattle.taps_cloning.proofs.Keeping.{shown_rises}
use Rattle.taps_cloning.proofs.Opened.{opening_on, opening_fails, opening_full, opening_short, opening_ends}
use Rattle.taps_cloning.proofs.opening.open_group.Goals as goal

pub returns-in-Err-LimitReached-clause-cloned : goal.returns-in-Err-LimitReached-clause-cloned
returns-in-Err-LimitReached-clause-cloned g c = λ fs priorities messages first founded.
    let n1 = g.N.Sockets.net c.cloning.net in
    let n2 = g.N.Sockets.net c.clone_connection.new.net in
    let added = c.clone_connection.ensures.becomes in
    let terms = terms_of c.args.terms.now fs priorities messages in
    let from : c.args.terms.now.leaf ≤ c.cloning.leaf = c.cloning.auto.leaf in
    let test : c.cloning.leaf < c.args.terms.now.leaf + c.args.terms.now.clones = c.cloning-test.true in
    let count = c.cloning.leaf - c.args.terms.now.leaf in
    let number : c.cloning.leaf ≡ c.args.terms.now.leaf + (c.cloning.leaf - c.args.terms.now.leaf) = omega (arith, from) in
    let fewer : c.cloning.leaf - c.args.terms.now.leaf < c.args.terms.now.clones = omega (arith, from, test) in
    opening_full _ g.N.Sockets.Becomes c.args.net.now c.cloning.net c.clone_connection.new.net (g.N.Sockets.net c.args.net.now) n1 n2 terms first count c.cloning.leaf c.args.terms.now.timeout_ms c.cloning.group c.clone_connection.new.self
    g.met.N.Sockets.becomes_on refl number fewer (shown_rises n1 n2 added.calls (g.met.N.Sockets.shows c.cloning.net c.clone_connection.new.net added.calls added.becomes)) added (c.cloning.invariant.opening fs priorities messages first founded)
    c.in-Err-LimitReached.limit (rw c.in-Err-LimitReached.field-0-is at c.in-Err-LimitReached.ensures.cloned)

pub returns-in-Err-Failed-clause-cloned : goal.returns-in-Err-Failed-clause-cloned
returns-in-Err-Failed-clause-cloned g c = λ fs priorities messages first founded.
    let n1 = g.N.Sockets.net c.cloning.net in
    let n2 = g.N.Sockets.net c.clone_connection.new.net in
    let added = c.clone_connection.ensures.becomes in
    let terms = terms_of c.args.terms.now fs priorities messages in
    let from : c.args.terms.now.leaf ≤ c.cloning.leaf = c.cloning.auto.leaf in
    let test : c.cloning.leaf < c.args.terms.now.leaf + c.args.terms.now.clones = c.cloning-test.true in
    let count = c.cloning.leaf - c.args.terms.now.leaf in
    let number : c.cloning.leaf ≡ c.args.terms.now.leaf + (c.cloning.leaf - c.args.terms.now.leaf) = omega (arith, from) in
    let fewer : c.cloning.leaf - c.args.terms.now.leaf < c.args.terms.now.clones = omega (arith, from, test) in
    let failed = rw c.in-Err-Failed.field-0-is at c.in-Err-Failed.ensures.cloned in
    opening_fails _ g.N.Sockets.Becomes c.args.net.now c.cloning.net c.clone_connection.new.net (g.N.Sockets.net c.args.net.now) n1 n2 terms first count c.cloning.leaf c.args.terms.now.timeout_ms c.cloning.group c.clone_connection.new.self
    g.met.N.Sockets.becomes_on refl number fewer (shown_rises n1 n2 added.calls (g.met.N.Sockets.shows c.cloning.net c.clone_connection.new.net added.calls added.becomes)) added (c.cloning.invariant.opening fs priorities messages first founded)
    c.in-Err-Failed.answer c.outcome_of.result failed.0 failed.1 c.outcome_of.ensures

pub returns-in-Err-NoMemory-clause-cloned : goal.returns-in-Err-NoMemory-clause-cloned
returns-in-Err-NoMemory-clause-cloned g c = λ fs priorities messages first founded.
    let n1 = g.N.Sockets.net c.cloning.net in
    let n2 = g.N.Sockets.net c.clone_connection.new.net in
    let added = c.clone_connection.ensures.becomes in
    let terms = terms_of c.args.terms.now fs priorities messages in
    let from : c.args.terms.now.leaf ≤ c.cloning.leaf = c.cloning.auto.leaf in
    let test : c.cloning.leaf < c.args.terms.now.leaf + c.args.terms.now.clones = c.cloning-test.true in
    let count = c.cloning.leaf - c.args.terms.now.leaf in
    let number : c.cloning.leaf ≡ c.args.terms.now.leaf + (c.cloning.leaf - c.args.terms.now.leaf) = omega (arith, from) in
    let fewer : c.cloning.leaf - c.args.terms.now.leaf < c.args.terms.now.clones = omega (arith, from, test) in
    let short = rw c.in-Err-NoMemory.field-0-is at c.in-Err-NoMemory.ensures.cloned in
    opening_short _ g.N.Sockets.Becomes c.args.net.now c.cloning.net c.clone_connection.new.net (g.N.Sockets.net c.args.net.now) n1 n2 terms first count c.cloning.leaf c.args.terms.now.timeout_ms c.cloning.group c.clone_connection.new.self
    g.met.N.Sockets.becomes_on refl number fewer (shown_rises n1 n2 added.calls (g.met.N.Sockets.shows c.cloning.net c.clone_connection.new.net added.calls added.becomes)) added (c.cloning.invariant.opening fs priorities messages first founded)
    short.1

pub cloning-preserved : goal.cloning-preserved
cloning-preserved g c =
    let n1 = g.N.Sockets.net c.cloning.net in
    let n2 = g.N.Sockets.net c.clone_connection.new.net in
    let added = c.clone_connection.ensures.becomes in
    let from : c.args.terms.now.leaf ≤ c.cloning.leaf = c.cloning.auto.leaf in
    let test : c.cloning.leaf < c.args.terms.now.leaf + c.args.terms.now.clones = c.cloning-test.true in
    let count = c.cloning.leaf - c.args.terms.now.leaf in
    let number : c.cloning.leaf ≡ c.args.terms.now.leaf + (c.cloning.leaf - c.args.terms.now.leaf) = omega (arith, from) in
    let fewer : c.cloning.leaf - c.args.terms.now.leaf < c.args.terms.now.clones = omega (arith, from, test) in
    let next : c.cloning.leaf - c.args.terms.now.leaf + 1 ≡ c.cloning.leaf + 1 - c.args.terms.now.leaf = omega (arith, from) in
    record {
      sound = c.clone_connection.ensures.sound;
      opened = c.clone_connection.ensures.opened c.cloning.invariant.opened;
      opening = λ fs priorities messages first founded.
          let terms = terms_of c.args.terms.now fs priorities messages in
          opening_on _ g.N.Sockets.Becomes c.args.net.now c.cloning.net c.clone_connection.new.net (g.N.Sockets.net c.args.net.now) n1 n2 terms first count c.cloning.leaf c.args.terms.now.timeout_ms c.cloning.group c.clone_connection.new.self
          g.met.N.Sockets.becomes_on refl number fewer (shown_rises n1 n2 added.calls (g.met.N.Sockets.shows c.cloning.net c.clone_connection.new.net added.calls added.becomes)) added (c.cloning.invariant.opening fs priorities messages first founded)
          c.in-Ok.field-0 (c.cloning.leaf + 1 - c.args.terms.now.leaf) next c.in-Ok.ensures.cloned.0 c.in-Ok.ensures.cloned.1;
    }

pub returns-clause-cloned : goal.returns-clause-cloned
returns-clause-cloned g c = λ fs priorities messages first founded.
    let from : c.args.terms.now.leaf ≤ c.cloning.leaf = c.cloning.auto.leaf in
    let until = c.cloning.auto.leaf-end in
    let test = c.cloning-test.false in
    let terms = terms_of c.args.terms.now fs priorities messages in
    let all : c.cloning.leaf - c.args.terms.now.leaf ≡ c.args.terms.now.clones = omega (arith, from, test, until) in
    opening_ends _ g.N.Sockets.Becomes c.args.net.now c.cloning.net (g.N.Sockets.net c.args.net.now) (g.N.Sockets.net c.cloning.net) terms first (c.cloning.leaf - c.args.terms.now.leaf) c.cloning.group all (c.cloning.invariant.opening fs priorities messages first founded)
