use Rattle.std.proofs.Common.{Bool, sym, subst, ◌∙◌}
use Rattle.test_script.specs.Written.{IsDocumentAs}
use Rattle.test_script.proofs.written.read_document.Goals as goal

pub returns-else-begins_object-clause-none : goal.returns-else-begins_object-clause-none
returns-else-begins_object-clause-none c = λ e d is.
    c.hex_document.ensures.none e d (subst (λ (b : Bool). IsDocumentAs b c.args.word.now d) (sym c.begins_object.ensures ∙ c.if-begins_object.false) is)
