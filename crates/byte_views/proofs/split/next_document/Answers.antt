use Rattle.byte_views.proofs.SplitLaws.{split_gives}
use Rattle.byte_views.proofs.split.next_document.Goals as goal

pub returns-clause-documents : goal.returns-clause-documents
returns-clause-documents c = split_gives c.args.bytes.now c.args.left.now c.split.result.0 c.split.result.1 c.split.ensures
