use Rattle.std.proofs.Common.{arith}
use Rattle.std.proofs.lemmas.List.{length-map}
use Rattle.taps_chain.proofs.Exacts.{first_good, few_unread}
use Rattle.taps_chain.proofs.ears.Ears.next_message_counted.Goals as goal

pub returns-clause-first : goal.returns-clause-first
returns-clause-first g c = λ _. first_good _ (rw length-map c.args.self.now.some) c.requires.sound.framers _ (omega arith) _ _ c.hear.ensures.next

pub returns-clause-few : goal.returns-clause-few
returns-clause-few g c = few_unread _ c.requires.sound.framers _ (omega arith) _ _ c.hear.ensures.next
