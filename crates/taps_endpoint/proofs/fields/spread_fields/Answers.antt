use Rattle.std.proofs.Common.{sym}
use Rattle.taps_endpoint.specs.Inet6Texts.{spread}
use Rattle.taps_endpoint.proofs.FieldLists.{eight, length-spread}
use Rattle.taps_endpoint.proofs.fields.spread_fields.Goals as goal

pub returns : goal.returns
returns c = rw (c.field_at.ensures, c.field_at-2.ensures, c.field_at-3.ensures, c.field_at-4.ensures, c.field_at-5.ensures, c.field_at-6.ensures, c.field_at-7.ensures, c.field_at-8.ensures)
    (sym (eight (spread c.args.front.now c.args.back.now) (length-spread c.args.front.now c.args.back.now c.requires)))
