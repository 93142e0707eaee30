use Rattle.std.proofs.Common.{◌∙◌}
use Rattle.byte_views.specs.Documents.{is_document, has_fault}
use Rattle.byte_views.proofs.Told.{counted_from_0}
use Rattle.byte_views.proofs.documents.check_document.Goals as goal

pub returns-in-Ok : goal.returns-in-Ok
returns-in-Ok c = is_document c.in-Ok.ensures.found.1.0 c.in-Ok.ensures.found.1.1 c.none.ensures

pub returns-in-Err : goal.returns-in-Err
returns-in-Err c = has_fault c.in-Err.found c.in-Err.ensures.fault (c.of_document.ensures ∙ counted_from_0 c.in-Err.found)
