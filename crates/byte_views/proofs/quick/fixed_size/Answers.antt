use Rattle.std.proofs.Common.{arith, subst, sym}
use Rattle.byte_views.specs.Quick.{HasSize}
use Rattle.byte_views.proofs.Sizes.{size_at}
use Rattle.byte_views.proofs.quick.fixed_size.Goals as goal

pub returns : goal.returns
returns c = subst (HasSize c.args.byte) (sym c.from.ensures) (size_at c.args.byte c.from-index.result _ c.from-index.ensures (omega (arith, c.if-index-ge20.false)) c.if-size.false)
