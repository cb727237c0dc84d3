use Rattle.std.proofs.Common.{arith, refl}
use Rattle.taps_chain.specs.Counts.{none}
use Rattle.taps_chain.proofs.Counting.{counted_below}
use Rattle.taps_chain.proofs.Firsts.{first_message, first_fails}
use Rattle.taps_chain.proofs.next.message_in.Goals as goal

pub returns-in-Err-clause-counted : goal.returns-in-Err-clause-counted
returns-in-Err-clause-counted g c = λ _. none refl

pub returns-in-Message-clause-found : goal.returns-in-Message-clause-found
returns-in-Message-clause-found g c = first_message _ _ _ _ _ c.requires.first c.requires.within c.requires.whole _ _ c.in-Ok.ensures c.in-Message.ensures.whole.0 c.in-Message.ensures.whole.1

pub returns-in-Message-clause-counted : goal.returns-in-Message-clause-counted
returns-in-Message-clause-counted g c = counted_below _ _ _ _ _ _ _ _ c.requires.first c.requires.whole c.in-Ok.ensures c.whole_above.ensures.counted

pub returns-in-Bad-clause-found : goal.returns-in-Bad-clause-found
returns-in-Bad-clause-found g c = first_fails _ _ _ _ _ c.requires.first c.requires.within c.requires.whole c.requires.framers (omega arith) _ c.in-Ok.ensures _ _ c.in-Bad.ensures.whole

pub returns-in-Bad-clause-counted : goal.returns-in-Bad-clause-counted
returns-in-Bad-clause-counted g c = counted_below _ _ _ _ _ _ _ _ c.requires.first c.requires.whole c.in-Ok.ensures c.whole_above.ensures.counted

pub returns-in-NoMemory-clause-counted : goal.returns-in-NoMemory-clause-counted
returns-in-NoMemory-clause-counted g c = counted_below _ _ _ _ _ _ _ _ c.requires.first c.requires.whole c.in-Ok.ensures c.whole_above.ensures.counted
