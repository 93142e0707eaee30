use Rattle.std.proofs.Common.{map, ◌∙◌}
use Rattle.bson_doc.specs.Bson.{value_of}
use Rattle.doc_update.proofs.Numbering.{taken_by}
use Rattle.doc_update.proofs.identity.is_number_taken.Goals as goal

pub returns : goal.returns
returns c =
    c.is_taken_in.ensures
    ∙ taken_by (value_of c.made_id.result) c.args.number (map value_of c.args.held.now) (map value_of c.args.added.now) c.made_id.ensures
