use Rattle.std.proofs.Common.{length, sym, ap, subst, ◌∙◌, arith, length-drop}
use mathlib.Core.Logic.{∥∥₁_map}
use Rattle.bson_raw.specs.Spelled.{IsSpelled}
use Rattle.bson_elem.specs.Spelling.{Spells}
use Rattle.wire_msg.specs.Checks.{HasDocuments}
use Rattle.wire_msg.proofs.ReadLaws.{known_document, document_parts, document_known, long_document}
use Rattle.wire_msg.proofs.document_iter.split_document.Goals as goal

pub little_u32-requires : goal.little_u32-requires
little_u32-requires c = long_document c.args.bytes.now c.requires.some c.requires.known

pub split_at-requires : goal.split_at-requires
split_at-requires c = let k = known_document c.args.bytes.now c.requires.some c.requires.known in omega (arith, c.little_u32.ensures, k.1)

pub returns-clause-first : goal.returns-clause-first
returns-clause-first c = ∥∥₁_map c.requires.known (λ h. subst IsSpelled (sym c.split_at.ensures.front) (document_known c.args.bytes.now c.little_u32.result c.little_u32.ensures c.requires.some h).0)

pub returns-clause-others : goal.returns-clause-others
returns-clause-others c = ∥∥₁_map c.requires.known (λ h. subst HasDocuments (sym c.split_at.ensures.back) (document_known c.args.bytes.now c.little_u32.result c.little_u32.ensures c.requires.some h).1)

pub returns-clause-shorter : goal.returns-clause-shorter
returns-clause-shorter c =
    let k = known_document c.args.bytes.now c.requires.some c.requires.known in
    omega (arith, k.0, k.1, c.little_u32.ensures, ap length c.split_at.ensures.back, length-drop c.little_u32.result c.args.bytes.now)

pub returns-clause-parts : goal.returns-clause-parts
returns-clause-parts c = λ t ts fits is.
    let p = document_parts c.args.bytes.now c.little_u32.result t ts c.little_u32.ensures fits is in
    (subst (Spells t) (sym c.split_at.ensures.front) p.0, c.split_at.ensures.back ∙ p.1)
