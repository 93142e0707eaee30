use Rattle.std.proofs.Common.{◌∙◌, sym}
use Rattle.byte_views.proofs.Bytes.{found_one, none_found, not_false, not_true}
use Rattle.byte_views.proofs.build.given.has_no_zero.Goals as goal

pub returns-clause-yes : goal.returns-clause-yes
returns-clause-yes c = λ e. none_found c.args.bytes.now (sym c.contains.ensures.value ∙ not_true _ e)

pub returns-clause-no : goal.returns-clause-no
returns-clause-no c = λ e. found_one _ c.args.bytes.now c.contains.ensures.value (not_false _ e)
