use Rattle.byte_views.specs.Sections.{no_body}
use Rattle.byte_views.proofs.SectionLaws.{body_read}
use Rattle.byte_views.proofs.parts.read_body.Goals as goal

pub returns-in-Ok : goal.returns-in-Ok
returns-in-Ok c = body_read c.args.rest.now c.args.at c.in-Ok.body.now _ c.new-document.result c.new.result c.in-Ok.ensures.read c.in-Ok.ensures.lent c.new-document.ensures c.new.ensures

pub returns-in-Err : goal.returns-in-Err
returns-in-Err c = no_body c.in-Err.field-0 c.in-Err.ensures.read c.wrong.ensures
