use Rattle.std.proofs.Common.{◌∙◌, ℕ, List, refl, sym, subst, ap}
use Rattle.bson_elem.specs.Spelling.{Spells}
use Rattle.bson_doc.specs.RawDocumentBuf.{buf_bytes}
use Rattle.byte_views.specs.Texts.{IsPut, is_form, no_document, no_text}
use Rattle.byte_views.proofs.TextLaws.{told_refusal}
use Rattle.byte_views.proofs.Told.{counted_from_0}
use Rattle.byte_views.proofs.text.put_canonical.Goals as goal

pub returns-in-Err : goal.returns-in-Err
returns-in-Err c = no_document c.in-Err.fault c.in-Err.ensures.fault (c.none.ensures ∙ ap no_text (c.of_document.ensures ∙ counted_from_0 c.in-Err.fault)) refl

pub returns-in-Ok-to_canonical : goal.returns-in-Ok-to_canonical
returns-in-Ok-to_canonical c =
    let found = c.in-Ok.ensures.found in
    let form = c.in-Ok-to_canonical.form in
    let t = found.1.0 in
    is_form t (buf_bytes form) found.1.1 (c.in-Ok-to_canonical.ensures.canonical t (subst (Spells t) (sym found.0) found.1.1)) (subst (λ (x : List ℕ). IsPut x c.args.room.now c.put.new.room c.put.result) (c.as_bytes.ensures.bytes ∙ c.as_raw.ensures) c.put.ensures)

pub returns-in-Err-to_canonical : goal.returns-in-Err-to_canonical
returns-in-Err-to_canonical c =
    let found = c.in-Ok.ensures.found in
    let t = found.1.0 in
    told_refusal c.args.bytes.now c.args.room.now t c.in-Err-to_canonical.refusal _ found.1.1 (c.in-Err-to_canonical.ensures.refused t (subst (Spells t) (sym found.0) found.1.1)) c.of_refusal.ensures
