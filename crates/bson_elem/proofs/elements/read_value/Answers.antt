use Rattle.std.proofs.Common.{◌∙◌, Err, ap, sym}
use Rattle.bson_elem.specs.Checks.{told_at}
use Rattle.bson_elem.proofs.ScopeLaws.{leaf_value_at}
use Rattle.bson_elem.proofs.elements.read_value.Goals as goal

pub returns-in-Err-clause-read : goal.returns-in-Err-clause-read
returns-in-Err-clause-read c =
    leaf_value_at c.args.depth c.args.at c.args.from c.args.kind c.args.bytes.now c.in_default.not-Document c.in_default.not-Array c.in_default.not-CodeWithScope
    ∙ ap (told_at c.args.at) (c.in-Err.ensures.read 0) ∙ ap Err (sym c.fault_at-in-Err.ensures)
