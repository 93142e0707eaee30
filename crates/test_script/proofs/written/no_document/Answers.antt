use Rattle.std.proofs.Common.{◌≡◌, ◌∙◌, ap, Bool, sym, subst}
use Rattle.bson_json_read.specs.{document_in}
use Rattle.test_script.specs.Written.{IsDocumentAs}
use Rattle.test_script.proofs.written.no_document.Goals as goal

pub json_cause-requires : goal.json_cause-requires
json_cause-requires c = λ d is.
    let begins = sym c.if-not-begins_object.false ∙ c.begins_object.ensures in
    let text = c.in-Ok.ensures.cases in
    c.requires d (subst (λ (b : Bool). IsDocumentAs b c.args.word.now d) begins (text.1, ap document_in (sym text.0) ∙ is))
