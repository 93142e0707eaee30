use Rattle.std.proofs.Common.{ap, Err}
use Rattle.bson_raw.specs.RawDocument.{document_bytes}
use Rattle.wire_query.proofs.FaultLaws.{one_query_fault, no_query_fault, query_offset}
use Rattle.wire_query.proofs.PartLaws.{parts_of}
use Rattle.wire_query.proofs.query.RawQuery.parse.Goals as goal

pub invariant_of-result : goal.invariant_of-result
invariant_of-result c =
    let p = c.in-Ok.ensures in
    record { spelled = ∣ (p.query, p.spelled) ∣₁; parts = parts_of c.args.limit c.args.bytes.now c.in-Ok.database.now (document_bytes c.in-Ok.command) p }

pub returns-in-Ok-clause-exact : goal.returns-in-Ok-clause-exact
returns-in-Ok-clause-exact c = λ f fault. absurd (no_query_fault c.args.limit c.in-Ok.ensures.query c.args.bytes.now f (λ i. (c.type_inv.bytes i).fits) c.in-Ok.ensures.spelled c.in-Ok.ensures.within fault)

pub returns-in-Err-clause-only : goal.returns-in-Err-clause-only
returns-in-Err-clause-only c = λ is. absurd (no_query_fault c.args.limit is.1.0 c.args.bytes.now c.in-Err.fault (λ i. (c.type_inv.bytes i).fits) is.1.1 is.0 c.in-Err.ensures)

pub returns-in-Err-clause-exact : goal.returns-in-Err-clause-exact
returns-in-Err-clause-exact c = λ f fault. ap Err (one_query_fault c.args.limit c.args.bytes.now c.in-Err.fault f (λ i. (c.type_inv.bytes i).fits) c.in-Err.ensures fault)

pub returns-in-Err-clause-inside : goal.returns-in-Err-clause-inside
returns-in-Err-clause-inside c = query_offset c.args.limit c.args.bytes.now c.in-Err.fault (λ i. (c.type_inv.bytes i).fits) c.in-Err.ensures
