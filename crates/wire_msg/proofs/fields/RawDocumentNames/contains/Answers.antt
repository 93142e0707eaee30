use Rattle.std.proofs.Common.{◌∙◌}
use Rattle.bson_raw.specs.Pairs.{first_named}
use Rattle.wire_msg.proofs.NameLaws.{field_found, found_shown}
use Rattle.wire_msg.proofs.fields.RawDocumentNames.contains.Goals as goal

pub returns : goal.returns
returns c = λ t spelled.
    let name = c.args.name.now in
    c.is_some.ensures ∙ found_shown c.get.result (first_named name t) (c.get.ensures t spelled) ∙ field_found name t
