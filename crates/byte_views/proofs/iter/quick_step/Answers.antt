use Rattle.std.proofs.Common.{arith}
use Rattle.byte_views.proofs.QuickLaws.{quick_step}
use Rattle.byte_views.proofs.iter.quick_step.Goals as goal

pub returns-in-Some : goal.returns-in-Some
returns-in-Some c =
    let found = c.in-Some.ensures in
    quick_step c.args.bytes.now c.args.iter c.in-Ok.name.now c.in-Ok.rest.now _ c.in-Some.size found.0 c.new-place.result c.bare-bare.result c.in-Some.element (λ j. (c.type_inv.bytes j).fits) c.requires.inside c.requires.some c.in-Ok.ensures.read c.in-Ok.ensures.parts found.1 (omega arith) c.new-place.ensures c.bare-bare.ensures found.2
