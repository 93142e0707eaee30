use Rattle.std.proofs.Common.{rules, ◌≡◌, [], ◌∷◌, ◌++◌, length, arith}
use Rattle.std.proofs.lemmas.List.{nil_from_length}
use Rattle.bson_raw.proofs.Splits.{none_walked, one_more, walked_all, walked_to_fault, document_takes}
use Rattle.bson_raw.proofs.laws.documents_split.Goals as goal

pub loop-rest-init : goal.loop-rest-init
loop-rest-init c = ([], none_walked c.args.bytes.now)

pub loop-rest-preserved : goal.loop-rest-preserved
loop-rest-preserved c =
    let i = c.loop-rest.invariant in
    let found = c.in-Ok.ensures.found in
    (i.0 ++ found.1.0 ∷ [], one_more c.args.bytes.now i.0 c.loop-rest.rest.now found.1.0 _ c.in-Ok.after.now i.1 found.1.1 found.0)

pub loop-rest-smaller : goal.loop-rest-smaller
loop-rest-smaller c =
    let found = c.in-Ok.ensures.found in
    omega (arith, document_takes found.1.0 _ c.loop-rest.rest.now c.in-Ok.after.now found.1.1 found.0)

pub returns-in-Err : goal.returns-in-Err
returns-in-Err c =
    let i = c.loop-rest.invariant in
    (i.0, walked_to_fault c.args.bytes.now i.0 c.loop-rest.rest.now c.in-Err.field-0 i.1 c.in-Err.ensures.fault)

pub returns : goal.returns
returns c =
    let i = c.loop-rest.invariant in
    let none : length c.loop-rest.rest.now ≡ 0 = search rules in
    (i.0, walked_all c.args.bytes.now i.0 c.loop-rest.rest.now i.1 (nil_from_length c.loop-rest.rest.now none))
