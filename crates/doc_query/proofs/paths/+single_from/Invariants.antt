use Rattle.doc_query.specs.Paths.{left_len}
use Rattle.doc_query.proofs.paths.+single_from.Given as goal

abbrev pub decreases-single_from : goal.decreases-single_from
decreases-single_from l = left_len l.rest
