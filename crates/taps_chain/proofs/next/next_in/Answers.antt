use Rattle.std.proofs.Common.{arith}
use Rattle.taps_chain.proofs.Counting.{counts_first, counts_message}
use Rattle.taps_chain.proofs.Firsts.{first_bad}
use Rattle.taps_chain.proofs.next.next_in.Goals as goal

pub returns-in-More-clause-counted : goal.returns-in-More-clause-counted
returns-in-More-clause-counted g c = counts_first _ _ _ _ _ _ _ _ c.look_on.ensures.counted c.look_on.ensures.uncounted

pub returns-in-Whole-clause-counted : goal.returns-in-Whole-clause-counted
returns-in-Whole-clause-counted g c = counts_message _ _ _ _ _ _ _ _ _ c.look_on.ensures.counted c.look_on.ensures.uncounted c.message_in.ensures.uncounted c.message_in.ensures.counted

pub returns-in-Bad-clause-found : goal.returns-in-Bad-clause-found
returns-in-Bad-clause-found g c = first_bad _ _ _ _ _ _ c.requires.first c.requires.framers (omega arith) c.look_on.ensures.looks.looked c.in-Bad.is

pub returns-in-Bad-clause-counted : goal.returns-in-Bad-clause-counted
returns-in-Bad-clause-counted g c = counts_first _ _ _ _ _ _ _ _ c.look_on.ensures.counted c.look_on.ensures.uncounted
