use Rattle.doc_query.specs.{left_len}
use Rattle.doc_update.proofs.paths.+overlap.Given as goal

abbrev pub decreases-overlap : goal.decreases-overlap
decreases-overlap l = left_len l.a
