use Rattle.byte_views.proofs.Sequences.{holds_more}
use Rattle.byte_views.proofs.build.sequence.append_sequence.Goals as goal

pub returns-clause-sequences : goal.returns-clause-sequences
returns-clause-sequences c = λ qs ts holds fit is none.
    holds_more c.args.room.now c.put_sequence.new.room c.args.end.now c.put_sequence.new.end c.args.identifier.now c.args.documents.now qs ts _ c.put_sequence.ensures holds fit is none
