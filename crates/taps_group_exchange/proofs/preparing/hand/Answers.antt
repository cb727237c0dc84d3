use Rattle.std.proofs.Common.{◌≡◌, sym, ◌∙◌}
use Rattle.taps_message.specs.declared.queued.PushError.TheVariants as error
use Rattle.taps_group_exchange.proofs.HandingOn.{hands_refused, hands_sent, sent_sockets}
use Rattle.taps_group_exchange.proofs.preparing.hand.Goals as goal

pub returns-in-Ok-clause-handed : goal.returns-in-Ok-clause-handed
returns-in-Ok-clause-handed g c = hands_sent c.args.addressed c.args.at c.args.group.now c.send.new.self c.in-Ok.field-0 c.in-Ok.ensures.sent

pub returns-in-Ok-clause-sockets : goal.returns-in-Ok-clause-sockets
returns-in-Ok-clause-sockets g c = sent_sockets c.args.addressed.member c.args.addressed.message c.args.at c.args.group.now c.send.new.self c.send.result c.send.ensures.sent

pub returns-in-Err-NoMemory-default-clause-sockets : goal.returns-in-Err-NoMemory-default-clause-sockets
returns-in-Err-NoMemory-default-clause-sockets g c = sent_sockets c.args.addressed.member c.args.addressed.message c.args.at c.args.group.now c.send.new.self c.send.result c.send.ensures.sent

pub returns-in-Err-AfterFinal-default-clause-handed : goal.returns-in-Err-AfterFinal-default-clause-handed
returns-in-Err-AfterFinal-default-clause-handed g c =
    hands_refused c.args.addressed c.args.at c.args.group.now c.send.new.self (c.in-Err-AfterFinal-default.field-0-0, c.in-Err-AfterFinal-default.field-0-1)
    (λ e. let z : error.AfterFinal ≡ error.NoMemory = sym c.in-Err-AfterFinal-default.field-0-0-is ∙ e in cc) c.in-Err-AfterFinal-default.ensures.sent

pub returns-in-Err-AfterFinal-default-clause-sockets : goal.returns-in-Err-AfterFinal-default-clause-sockets
returns-in-Err-AfterFinal-default-clause-sockets g c = sent_sockets c.args.addressed.member c.args.addressed.message c.args.at c.args.group.now c.send.new.self c.send.result c.send.ensures.sent

pub returns-in-Err-TooMany-default-clause-handed : goal.returns-in-Err-TooMany-default-clause-handed
returns-in-Err-TooMany-default-clause-handed g c =
    hands_refused c.args.addressed c.args.at c.args.group.now c.send.new.self (c.in-Err-TooMany-default.field-0-0, c.in-Err-TooMany-default.field-0-1)
    (λ e. let z : error.TooMany c.in-Err-TooMany-default.field-0-0-0 ≡ error.NoMemory = sym c.in-Err-TooMany-default.field-0-0-is ∙ e in cc) c.in-Err-TooMany-default.ensures.sent

pub returns-in-Err-TooMany-default-clause-sockets : goal.returns-in-Err-TooMany-default-clause-sockets
returns-in-Err-TooMany-default-clause-sockets g c = sent_sockets c.args.addressed.member c.args.addressed.message c.args.at c.args.group.now c.send.new.self c.send.result c.send.ensures.sent

pub returns-clause-handed : goal.returns-clause-handed
returns-clause-handed g c =
    hands_refused c.args.addressed c.args.at c.args.group.now c.send.new.self (c.in-Err-TooMuch-default.field-0-0, c.in-Err-TooMuch-default.field-0-1)
    (λ e. let z : error.TooMuch c.in-Err-TooMuch-default.field-0-0-0 ≡ error.NoMemory = sym c.in-Err-TooMuch-default.field-0-0-is ∙ e in cc) c.in-Err-TooMuch-default.ensures.sent

pub returns-clause-sockets : goal.returns-clause-sockets
returns-clause-sockets g c = sent_sockets c.args.addressed.member c.args.addressed.message c.args.at c.args.group.now c.send.new.self c.send.result c.send.ensures.sent
