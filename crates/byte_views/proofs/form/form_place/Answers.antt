use Rattle.std.proofs.Common.{◌≡◌, ◌∙◌, ℕ, Bool, Some, None, true, false, length, refl, sym, subst, ap}
use Rattle.bson_elem.specs.Spelling.{Spells}
use Rattle.byte_views.specs.Forms.{is_document, has_fault, misnamed, told_form}
use Rattle.byte_views.specs.declared.form.FormPlace.{FormPlace}
use Rattle.byte_views.specs.declared.fault.FirstFault.{FirstFault}
use Rattle.byte_views.specs.Fault.{first_fault}
use Rattle.byte_views.proofs.FormLaws.{none_is_plain, plain_is_none}
use Rattle.byte_views.proofs.Told.{counted_from_0}
use Rattle.byte_views.proofs.form.form_place.Goals as goal

abbrev placed : FirstFault → Bool → ℕ → FormPlace
placed f canonical offset = record { fault = f; canonical = canonical; offset = offset }

pub returns-in-Err-clause-place : goal.returns-in-Err-clause-place
returns-in-Err-clause-place c =
    has_fault c.in-Err.fault c.in-Err.ensures.fault (ap (λ (f : FirstFault). placed f false 0) (c.of_document.ensures ∙ counted_from_0 c.in-Err.fault))

pub returns-in-None-clause-place : goal.returns-in-None-clause-place
returns-in-None-clause-place c =
    let found = c.in-Ok.ensures.found in
    let t = found.1.0 in
    let none : None ≡ misnamed false 0 t = c.in-None.ensures t (subst (Spells t) (sym found.0) found.1.1) in
    is_document t found.1.1 (ap (λ (f : FirstFault). placed f true 0) c.none.ensures ∙ ap (told_form (length c.args.bytes.now)) none)

pub returns-in-None-clause-canonical : goal.returns-in-None-clause-canonical
returns-in-None-clause-canonical c =
    let found = c.in-Ok.ensures.found in
    let t = found.1.0 in
    let none : None ≡ misnamed false 0 t = c.in-None.ensures t (subst (Spells t) (sym found.0) found.1.1) in
    (λ says. (t, found.1.1, none_is_plain false 0 t (sym none)), λ is. refl)

pub returns-in-Some-clause-place : goal.returns-in-Some-clause-place
returns-in-Some-clause-place c =
    let found = c.in-Ok.ensures.found in
    let t = found.1.0 in
    let some : Some c.in-Some.left ≡ misnamed false 0 t = c.in-Some.ensures t (subst (Spells t) (sym found.0) found.1.1) in
    is_document t found.1.1
    (ap (λ (f : FirstFault). placed f false c.saturating_sub.result) c.none-in-Some.ensures
    ∙ ap (λ (n : ℕ). placed (first_fault None) false n) c.saturating_sub.ensures
    ∙ ap (told_form (length c.args.bytes.now)) some)

pub returns-in-Some-clause-canonical : goal.returns-in-Some-clause-canonical
returns-in-Some-clause-canonical c =
    let found = c.in-Ok.ensures.found in (
      λ says. absurd (let no : false ≡ true = says in cc),
      λ is.
          let some : Some c.in-Some.left ≡ misnamed false 0 is.0 = c.in-Some.ensures is.0 (subst (Spells is.0) (sym found.0) is.1) in
          absurd (let none : misnamed false 0 is.0 ≡ None = plain_is_none false 0 is.0 is.2 in cc),
    )
