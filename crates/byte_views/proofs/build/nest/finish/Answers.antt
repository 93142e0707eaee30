use Rattle.byte_views.proofs.Nesting.{finishes}
use Rattle.byte_views.proofs.build.nest.finish.Goals as goal

pub returns-clause-document : goal.returns-clause-document
returns-clause-document c = λ t s start one none. finishes c.args.room.now c.finish_document.new.room c.args.builder.now t _ c.finish_document.ensures s start one none
