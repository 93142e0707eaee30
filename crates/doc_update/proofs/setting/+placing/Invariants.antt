use Rattle.std.proofs.Common.{◌+◌, ◌*◌}
use Rattle.doc_query.specs.{left_len}
use Rattle.doc_update.proofs.setting.+placing.Given as goal

-- each step leaves a path that is shorter
abbrev pub decreases-placed : goal.decreases-placed
decreases-placed l = 3 * left_len l.rest

abbrev pub decreases-set_field : goal.decreases-set_field
decreases-set_field l = 3 * left_len l.rest + 1

abbrev pub decreases-with_element : goal.decreases-with_element
decreases-with_element l = 3 * left_len l.rest + 1

abbrev pub decreases-with_inner : goal.decreases-with_inner
decreases-with_inner l = 3 * left_len l.rest + 2
