use Rattle.std.proofs.Common.{◌+◌, ◌*◌}
use Rattle.doc_query.specs.{left_len}
use Rattle.doc_update.proofs.removing.+leaving.Given as goal

-- each step leaves a path that is shorter
abbrev pub decreases-left_of : goal.decreases-left_of
decreases-left_of l = 2 * left_len l.rest

abbrev pub decreases-leave_field : goal.decreases-leave_field
decreases-leave_field l = 2 * left_len l.rest + 1

abbrev pub decreases-left_by : goal.decreases-left_by
decreases-left_by l = 2 * left_len l.rest + 1
