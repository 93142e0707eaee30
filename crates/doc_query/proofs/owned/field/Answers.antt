use Rattle.std.proofs.Common.{sym, ◌∙◌}
use Rattle.doc_query.proofs.Filtering.{first_in_tree}
use Rattle.doc_query.proofs.owned.field.Goals as goal

pub returns : goal.returns
returns c = c.get.ensures ∙ sym (first_in_tree c.args.name.now c.args.document.now)
