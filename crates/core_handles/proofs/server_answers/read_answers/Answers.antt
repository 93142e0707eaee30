use Rattle.std.proofs.Common.{rules, ◌≡◌, ◌-◌, List, [], ◌∷◌, ◌++◌, length, sym, ap, ◌∙◌, arith, append-nil, ℕ}
use Rattle.std.proofs.lemmas.List.{map-append, nil_from_length}
use Rattle.std.proofs.lemmas.Result.{err_from_is_err_and}
use Rattle.bson_raw.specs.{document_bytes, documents_bytes}
use Rattle.bson_raw.proofs.Lemmas.{document_takes, none_walked, one_more}
use Rattle.wire_msg.specs.{Content, body_alone}
use Rattle.core_handles.proofs.Serving.{are_fit, offset_is, refused_here}
use Rattle.core_handles.proofs.server_answers.read_answers.Goals as goal

pub loop-rest-init : goal.loop-rest-init
loop-rest-init c = record { within = omega arith; so_far = ([], none_walked c.args.documents.now, c.new-answers.ensures) }

pub returns-in-Err : goal.returns-in-Err
returns-in-Err c =
    let i = c.loop-rest.invariant.so_far in
    let some : length c.loop-rest.rest.now ≡ 0 → ⊥ = search rules in
    (i.0, c.loop-rest.rest.now, are_fit c.loop-rest.answers c.args.documents.now c.loop-rest.rest.now i.0 i.1 i.2, i.1.parts, (λ e. some (ap length e)), omega (arith, offset_is c.args.documents.now c.loop-rest.rest.now i.0 i.1), c.in-Err.ensures.fault)

pub returns-in_err-push_body : goal.returns-in_err-push_body
returns-in_err-push_body c =
    let i = c.loop-rest.invariant.so_far in
    let found = c.in-Ok.ensures.found in
    let told = err_from_is_err_and c.from_residual.result c.from_residual.ensures.1 in
    rw (told.1, told.2)
    (refused_here c.args.documents.now c.loop-rest.rest.now i.0 (length c.args.documents.now - length c.loop-rest.rest.now) found.1.0 (document_bytes c.in-Ok.front.0) c.in-Ok.front.1.now
    c.in_err-push_body.field-0.0 i.1 (are_fit c.loop-rest.answers c.args.documents.now c.loop-rest.rest.now i.0 i.1 i.2) (omega (arith, offset_is c.args.documents.now c.loop-rest.rest.now i.0 i.1)) found.1.1 found.0
    (c.in_err-push_body.ensures.refused found.1.0 found.1.1))

pub loop-rest-preserved : goal.loop-rest-preserved
loop-rest-preserved c =
    let i = c.loop-rest.invariant.so_far in
    let found = c.in-Ok.ensures.found in
    let t = found.1.0 in
    let b = document_bytes c.in-Ok.front.0 in
    let after = c.in-Ok.front.1.now in
    let takes = document_takes t b c.loop-rest.rest.now after found.1.1 found.0 in
    record {
      within = omega (arith, c.loop-rest.invariant.within, takes.1);
      so_far = (
        i.0 ++ t ∷ [],
        one_more c.args.documents.now i.0 c.loop-rest.rest.now t b after i.1 found.1.1 found.0,
        c.in_ok-push_body.ensures.added t found.1.1 ∙ ap (λ (x : List Content). x ++ body_alone t ∷ []) i.2 ∙ sym (map-append body_alone i.0 (t ∷ [])),
      );
    }

pub returns : goal.returns
returns c =
    let i = c.loop-rest.invariant.so_far in
    let none : length c.loop-rest.rest.now ≡ 0 = search rules in
    (i.0, are_fit c.loop-rest.answers c.args.documents.now c.loop-rest.rest.now i.0 i.1 i.2, i.1.parts ∙ ap (λ (x : List ℕ). documents_bytes i.0 ++ x) (nil_from_length c.loop-rest.rest.now none) ∙ append-nil (documents_bytes i.0), i.2)
