use Rattle.std.proofs.Common.{arith}
use Rattle.byte_views.proofs.QuickLaws.{string_quick, with_text}
use Rattle.byte_views.proofs.quick.string.Goals as goal

pub returns : goal.returns
returns c = λ depth at.
    string_quick depth at c.args.from c.little_u32-size.result c.args.rest.now c.args.bare _ (λ j. (c.type_inv.rest j).fits) (omega (arith, c.if-rest-lt5.false)) c.little_u32-size.ensures (omega (arith, c.if-size-lt1.false)) (omega (arith, c.if-size-gt-MAX_LEN.false)) (omega (arith, c.if-size-rest.false)) c.if-rest-size-ne0.false (with_text c.args.bare _ _ c.new-text.ensures)
