use Rattle.std.proofs.Common.{false, sym, ◌∙◌}
use Rattle.bson_doc.proofs.Naming.{plain_where_named, named_where_plain}
use Rattle.bson_doc.proofs.canon.is_canonical.Goals as goal

pub returns-clause-same : goal.returns-clause-same
returns-clause-same c = λ t spelled. (
  λ is. plain_where_named false 0 t (sym (c.is_canonical.ensures t spelled) ∙ is),
  λ same. c.is_canonical.ensures t spelled ∙ named_where_plain false 0 t same,
)
