use Rattle.std.proofs.Common.{map}
use Rattle.std.proofs.lemmas.Result.{err_from_is_err_and}
use Rattle.bson_raw.specs.{first_named}
use Rattle.bson_doc.specs.Bson.{value_of}
use Rattle.command_parts.specs.Brought.{in_field}
use Rattle.command_parts.proofs.Bringing.{none_inserted}
use Rattle.command_parts.proofs.brought.brought_documents.Goals as goal

pub returns-in_err-push_all-clause-refused : goal.returns-in_err-push_all-clause-refused
returns-in_err-push_all-clause-refused c = λ k carries.
    let told = err_from_is_err_and c.from_residual.result c.from_residual.ensures.1 in
    rw (told.1, told.2)
    (none_inserted (map value_of c.new-documents.result.items) (map value_of c.push_all.new.documents.items) (in_field c.args.name.now k.sequences (first_named c.args.name.now k.body)) c.in_err-push_all.field-0.0
    (c.in_err-push_all.ensures k carries))
