use Rattle.std.proofs.Common.{◌≡◌, ◌≢◌, ◌+◌, ◌-◌, ◌++◌, true, List, [], ◌∷◌, ℕ, length, Option, Some, None, refl, ap, sym, ◌∙◌, arith, length-append}
use Rattle.std.proofs.lemmas.Bool.Decides.{nat_tests}
use Rattle.std.specs.Prelude.{is_some}
use Rattle.bson_elem.specs.Spelling.{document, elements}
use Rattle.bson_raw.proofs.Lemmas.{is_document}
use Rattle.bson_raw.specs.RawDocument.{document_bytes}
use Rattle.wire_query.specs.declared.fault.QueryCause.TheVariants.{TrailingBytes}
use Rattle.wire_query.specs.Causes.{query_fault}
use Rattle.wire_query.specs.Faults.{of_document, behind_document, fails, holds}
use Rattle.wire_query.proofs.check.check_command.Goals as goal

-- a repeated name was found
repeated : (found : Option (List ℕ)) → is_some found ≡ true → found ≡ None → ⊥
repeated None some none = absurd (cc)
repeated (Some name) some none = absurd (cc)

none_left : (bytes : List ℕ) → length bytes ≡ 0 → bytes ≡ []
none_left [] e = refl
none_left (b ∷ bytes) e = absurd (omega (arith, e))

pub returns-in-Err : goal.returns-in-Err
returns-in-Err c = of_document c.in-Err.inner c.in-Err.ensures.fault c.fault_at.ensures

pub returns-in-Ok : goal.returns-in-Ok
returns-in-Ok c =
    let rest : List ℕ = c.in-Ok.rest.now in
    let d : List ℕ = document_bytes c.in-Ok.field-0-0 in
    let t = c.in-Ok.ensures.found.1 in
    let is = c.in-Ok.ensures.found.0 ∙ ap (λ (x : List ℕ). x ++ rest) t.1.parts in
    let some : length rest ≢ 0 = λ e. grind (arith, nat_tests) in
    let at : c.args.at + (length c.args.bytes.now - length rest) ≡ c.args.at + length (document (elements t.0)) = omega (arith, ap length is, length-append (document (elements t.0)) rest) in
    behind_document t.0 rest (is_document t.0 d t.1) is (fails (λ none. some (ap length none)) (c.fault_at-in-Ok.ensures ∙ ap (λ (n : ℕ). query_fault n TrailingBytes) at))

pub returns-then-has_repeated_name : goal.returns-then-has_repeated_name
returns-then-has_repeated_name c =
    let rest : List ℕ = c.in-Ok.rest.now in
    let d : List ℕ = document_bytes c.in-Ok.field-0-0 in
    let t = c.in-Ok.ensures.found.1 in
    let is = c.in-Ok.ensures.found.0 ∙ ap (λ (x : List ℕ). x ++ rest) t.1.parts in
    let empty : length rest ≡ 0 = grind (arith, nat_tests) in
    behind_document t.0 rest (is_document t.0 d t.1) is
    (holds (none_left rest empty) (fails (repeated _ (sym (c.has_repeated_name.ensures t.0 t.1) ∙ c.if-has_repeated_name.true)) c.fault_at-then-has_repeated_name.ensures))
