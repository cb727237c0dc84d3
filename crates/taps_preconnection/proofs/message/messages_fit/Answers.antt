use Rattle.std.proofs.Common.{◌<◌, length, rules, arith}
use Rattle.std.proofs.lemmas.Result.{err_from_is_err_and}
use Rattle.taps_preconnection.proofs.MessageSteps.{fits_on, fits_no_more, all_fit}
use Rattle.taps_preconnection.proofs.message.messages_fit.Goals as goal

pub returns-in_err-message_fits : goal.returns-in_err-message_fits
returns-in_err-message_fits c =
    let p = err_from_is_err_and c.from_residual.result c.from_residual.ensures.1 in
    let lt : c.loop-index.index < length c.args.messages.now = search (rules, arith) in
    rw (p.1, p.2) (fits_no_more c.args.clones c.loop-index.index c.args.messages.now c.index-messages-index.result _ _ c.in_err-message_fits.field-0.0 lt c.index-messages-index.is c.loop-index.invariant c.in_err-message_fits.ensures)

pub loop-index-preserved : goal.loop-index-preserved
loop-index-preserved c =
    let lt : c.loop-index.index < length c.args.messages.now = search (rules, arith) in
    fits_on c.args.clones c.loop-index.index c.args.messages.now c.index-messages-index.result _ _ lt c.index-messages-index.is c.loop-index.invariant c.in_ok-message_fits.ensures

pub returns : goal.returns
returns c = all_fit c.args.clones c.loop-index.index c.args.messages.now _ (search (rules, arith)) c.loop-index.invariant
