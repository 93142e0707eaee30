use Rattle.std.proofs.lemmas.Result.{err_from_is_err_and}
use Rattle.bson_elem.specs.Faults.{of_length, of_elements}
use Rattle.bson_raw.proofs.Fronts.{spelled_by, named_by, body_slice}
use Rattle.bson_raw.proofs.document.front_parts.Goals as goal

pub returns-in_err-whole-clause-parts : goal.returns-in_err-whole-clause-parts
returns-in_err-whole-clause-parts c =
    let p = err_from_is_err_and c.from_residual.result c.from_residual.ensures.1 in
    rw (p.1, p.2) (of_length c.in_err-whole.ensures.read)

pub returns-in_err-canonical-clause-parts : goal.returns-in_err-canonical-clause-parts
returns-in_err-canonical-clause-parts c =
    let p = err_from_is_err_and c.from_residual-in_err-canonical.result c.from_residual-in_err-canonical.ensures.1 in
    rw (p.1, p.2) (of_elements _ _ c.in_ok-whole.ensures.read (rw (← body_slice c.in_ok-whole.whole.now) at c.in_err-canonical.ensures.checked))

pub returns-clause-parts : goal.returns-clause-parts
returns-clause-parts c =
    let tree = c.in_ok-canonical.ensures.checked in
    let spells = spelled_by c.args.bytes.now c.in_ok-whole.whole.now c.in_ok-whole.rest.now c.in_ok-canonical.canonical (λ i. (c.type_inv.bytes i).fits) c.in_ok-whole.ensures.read c.in_ok-whole.ensures.split c.in_ok-whole.ensures.parts.0 tree in
    (c.in_ok-whole.ensures.read, c.in_ok-whole.ensures.split, (tree.0, spells))

pub returns-clause-canonical : goal.returns-clause-canonical
returns-clause-canonical c = named_by c.in_ok-whole.whole.now c.in_ok-canonical.canonical c.in_ok-canonical.ensures.checked
