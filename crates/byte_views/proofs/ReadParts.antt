-- An element that was read from bytes.
use Rattle.std.proofs.Common.{◌≡◌, ℕ, ◌+◌, ◌<◌, ◌≤◌, ◌-◌, List, [], ◌∷◌, length, get_or, drop, Ok, refl, sym, ap, ◌∙◌, arith, length-append}
use Rattle.std.specs.Prelude.{slice_range}
use Rattle.std.proofs.lemmas.List.{get_or-drop, get_or-take}
use Rattle.bson_elem.specs.declared.kinds.Kind.{Kind}
use Rattle.bson_elem.specs.Kinds.{byte_of, form_of}
use Rattle.bson_elem.specs.Spelling.{IsBytes, cstring}
use Rattle.bson_elem.specs.Checks.{ElementRead, Value, element_at}
use Rattle.bson_elem.proofs.Lemmas.{IsBytes-drop, IsBytes-take, element_bytes, element_takes, value_bytes}
use Rattle.byte_views.specs.declared.element.Element.{Element}
use Rattle.byte_views.specs.declared.view.View.{View}
use Rattle.byte_views.specs.Elements.{bare, value_place}
use Rattle.byte_views.specs.Views.{view}
use Rattle.byte_views.proofs.Places.{slice_size}

-- its type byte, and where its value begins
pub read_at : (bytes : List ℕ) (depth start at end : ℕ) (e : ElementRead) → IsBytes bytes → at < end → end < length bytes → element_at depth start at (slice_range bytes at end) ≡ Ok e → (get_or bytes at 0 ≡ byte_of e.kind) × (at + 2 + length e.name ≤ end)
read_at bytes depth start at end e fits lt within read =
    let room : List ℕ = slice_range bytes at end in
    let t = element_takes depth start at room e (IsBytes-take (end - at) (drop at bytes) (IsBytes-drop at bytes fits)) read in
    let tail : List ℕ = value_bytes (form_of e.kind) e.value in
    let size : end - at ≡ length (element_bytes e) + length e.rest = sym (slice_size bytes at end (omega (arith, within))) ∙ ap length t.0.parts ∙ length-append (element_bytes e) e.rest in
    let byte : get_or room 0 0 ≡ byte_of e.kind = ap (λ (x : List ℕ). get_or x 0 0) t.0.parts in
    let there : get_or room 0 0 ≡ get_or bytes at 0 = get_or-take (end - at) (drop at bytes) 0 0 (omega (arith, lt)) ∙ get_or-drop at bytes 0 0 ∙ ap (λ (k : ℕ). get_or bytes k 0) (let k : at + 0 ≡ at = omega arith in k) in
    (sym there ∙ byte, omega (arith, size, lt, length-append (cstring e.name) tail, length-append e.name (0 ∷ [])))

-- the element of the code, with its parts by other names
pub placed : (at next len from byte : ℕ) (k : Kind) (v : Value) (name : View) (e : Element) → e ≡ value_place from next k (bare name byte) v → from ≡ at + len + 2 → name ≡ view (at + 1) len → byte ≡ byte_of k
    → e ≡ value_place (at + len + 2) next k (bare (view (at + 1) len) (byte_of k)) v
placed at next len from byte k v name e is from_is name_is byte_is = is ∙ rw (from_is, name_is, byte_is) refl
