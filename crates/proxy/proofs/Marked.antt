-- The mark of a request, by its index.
use Rattle.std.proofs.Common.{◌≡◌, ◌∙◌, ◌<◌, ℕ, List, None, Option, Some, ap, get_or, length, refl, sym}
use Rattle.std.specs.Prelude.{ℤ, remove}
use Rattle.std.specs.Ordering.{int_eq}
use Rattle.std.proofs.lemmas.List.Quantifiers.{position-Some}
use Rattle.std.proofs.lemmas.Option.{slice_get_read}
use Rattle.script_rules.specs.declared.action.Flow.TheVariants as flows
use Rattle.proxy.specs.declared.marks.Mark.{Mark}
use Rattle.proxy.specs.Marks.{flow_at, flow_by, index_of, without}

pub marked_flow : (id : ℤ) (ms : List Mark) (o : Option ℕ) (i : ℕ) (m : Mark) → o ≡ index_of id ms → o ≡ Some i → m ≡ get_or ms i m → m.flow ≡ flow_at (index_of id ms) ms
marked_flow id ms o i m index found value =
    let at : index_of id ms ≡ Some i = sym index ∙ found in
    let within : i < length ms = (position-Some (λ (x : Mark). int_eq x.id id) ms i m at).0 in
    sym (ap (λ (k : Option ℕ). flow_at k ms) at ∙ ap flow_by (slice_get_read ms (length ms) i m refl within value))

pub marked_left : (id : ℤ) (ms new : List Mark) (o : Option ℕ) (i : ℕ) → o ≡ index_of id ms → o ≡ Some i → new ≡ remove ms i → new ≡ without (index_of id ms) ms
marked_left id ms new o i index found removed = removed ∙ sym (ap (λ (k : Option ℕ). without k ms) (sym index ∙ found))

pub unmarked_flow : (id : ℤ) (ms : List Mark) (o : Option ℕ) → o ≡ index_of id ms → o ≡ None → flows.Whole ≡ flow_at (index_of id ms) ms
unmarked_flow id ms o index none = sym (ap (λ (k : Option ℕ). flow_at k ms) (sym index ∙ none))

pub unmarked_left : (id : ℤ) (ms : List Mark) (o : Option ℕ) → o ≡ index_of id ms → o ≡ None → ms ≡ without (index_of id ms) ms
unmarked_left id ms o index none = sym (ap (λ (k : Option ℕ). without k ms) (sym index ∙ none))
