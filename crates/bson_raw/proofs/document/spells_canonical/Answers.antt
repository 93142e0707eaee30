use Rattle.std.proofs.Common.{arith}
use Rattle.bson_raw.proofs.Fronts.{named_by, spelled_least, spelled_no_fault}
use Rattle.bson_raw.proofs.document.spells_canonical.Goals as goal

pub overflow_sub-bytes : goal.overflow_sub-bytes
overflow_sub-bytes c = omega (arith, spelled_least c.args.bytes.now c.requires)

pub check-requires-clause-inside : goal.check-requires-clause-inside
check-requires-clause-inside c = omega (arith, spelled_least c.args.bytes.now c.requires)

pub check-requires-clause-whole : goal.check-requires-clause-whole
check-requires-clause-whole c = omega (arith, spelled_least c.args.bytes.now c.requires)

pub unreachable-requires : goal.unreachable-requires
unreachable-requires c = spelled_no_fault c.args.bytes.now c.in-Err.field-0 (λ i. (c.type_inv.bytes i).fits) c.requires c.in-Err.ensures.checked

pub returns : goal.returns
returns c = named_by c.args.bytes.now c.in-Ok.canonical c.in-Ok.ensures.checked
