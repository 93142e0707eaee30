use Rattle.std.proofs.lemmas.Result.{err_from_is_err_and}
use Rattle.bson_elem.proofs.Lemmas.{cstring_takes}
use Rattle.wire_query.specs.Faults.{of_name, behind_name, fails, holds}
use Rattle.wire_query.proofs.check.check_name.Goals as goal

pub database_of-requires : goal.database_of-requires
database_of-requires c = (cstring_takes c.args.bytes.now (c.in-Ok.name.now, c.in-Ok.rest.now) (λ i. (c.type_inv.bytes i).fits) c.in-Ok.ensures.read).1

pub returns-in_default : goal.returns-in_default
returns-in_default c = of_name c.in_default.field-0 c.in_default.ensures.read c.fault_at.ensures

pub returns-in_default-database_of : goal.returns-in_default-database_of
returns-in_default-database_of c = behind_name c.in-Ok.name.now c.in-Ok.rest.now c.in-Ok.ensures.read (fails c.in_default-database_of.ensures c.fault_at-in_default-database_of.ensures)

pub returns-in_err-command : goal.returns-in_err-command
returns-in_err-command c =
    let p = err_from_is_err_and c.from_residual.result c.from_residual.ensures.1 in
    rw (p.1, p.2) (behind_name c.in-Ok.name.now c.in-Ok.rest.now c.in-Ok.ensures.read (holds (c.in-Some.database.now, c.in-Some.ensures.0, c.in-Some.ensures.1) c.in_err-command.ensures))
