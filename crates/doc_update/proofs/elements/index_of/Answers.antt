use Rattle.std.proofs.Common.{ap, sym, ◌∙◌}
use Rattle.std.specs.Fmt.{decimal}
use Rattle.std.specs.Str.{bytes_eq}
use Rattle.doc_update.proofs.ElementLaws.{if_not, if_true, index_by, index_read}
use Rattle.doc_update.proofs.elements.index_of.Goals as goal

pub returns-in_default : goal.returns-in_default
returns-in_default c = sym (index_read c.args.step.now c.parse.result c.parse.ensures.value.0 ∙ ap (index_by c.args.step.now) c.in_default.is)

pub returns-then-is_index : goal.returns-then-is_index
returns-then-is_index c =
    sym (index_read c.args.step.now c.parse.result c.parse.ensures.value.0 ∙ ap (index_by c.args.step.now) c.in-Ok.is
    ∙ if_true (bytes_eq c.args.step.now (decimal c.in-Ok.number)) c.in-Ok.number (sym c.is_index.ensures ∙ c.if-is_index.true))

pub returns-else-is_index : goal.returns-else-is_index
returns-else-is_index c =
    sym (index_read c.args.step.now c.parse.result c.parse.ensures.value.0 ∙ ap (index_by c.args.step.now) c.in-Ok.is
    ∙ if_not (bytes_eq c.args.step.now (decimal c.in-Ok.number)) c.in-Ok.number (λ e. cc (c.is_index.ensures, c.if-is_index.false, e)))
