-- A search for a name finds the first pair that has it.
use Rattle.std.proofs.Common.{◌≡◌, ℕ, ◌<◌, ◌≤◌, ◌^◌, false, List, length, Some, refl, sym, ap, subst, ◌∙◌, inl, inr, arith}
use Rattle.std.specs.Str.{bytes_eq}
use Rattle.std.proofs.lemmas.Bool.{cases_Bool}
use Rattle.std.proofs.lemmas.Slice.Eq.{bytes_eq-Decides}
use Rattle.bson_elem.specs.Kinds.{byte_of}
use Rattle.bson_elem.specs.declared.kinds.Kind.{Kind}
use Rattle.bson_elem.specs.declared.kinds.Kind.TheVariants.{Double}
use Rattle.bson_elem.specs.Trees.{Tree, no_pairs}
use Rattle.bson_raw.specs.Pairs.{TreeValue, document_value, first_named, leaf_value, with_first}
use Rattle.byte_views.specs.declared.element.Element.{Element}
use Rattle.byte_views.specs.declared.iter.ElementIter.{ElementIter}
use Rattle.byte_views.specs.declared.view.View.{View}
use Rattle.byte_views.specs.Finding.{Finds, GivesNamed, Passes, no_step, one_more, none_named, named, pairs_behind}
use Rattle.byte_views.specs.Iters.{IsStep, at_end, fails, moved, not_text, outside, reads}
use Rattle.byte_views.specs.Pairs.{PairsFrom, ShowsValue, gives, no_more}
use Rattle.byte_views.specs.Views.{IsView}
use Rattle.byte_views.proofs.Nexts.{step_gives}

-- a view has the bytes of one name
one_name : (bytes : List ℕ) (v : View) (a b : List ℕ) → IsView bytes v a → IsView bytes v b → a ≡ b
one_name bytes v a b x y = sym x.part_is ∙ y.part_is

-- the first pair has the name
here : (n name : List ℕ) (v : TreeValue) (ps : Tree) → n ≡ name → (first_named name (with_first n v ps) ≡ Some v) × (pairs_behind name (with_first n v ps) ≡ ps)
here n name (leaf_value k leaf) ps is = rw ((bytes_eq-Decides n name).1 is) (refl, refl)
here n name (document_value k b inner) ps is = rw ((bytes_eq-Decides n name).1 is) (refl, refl)

-- it has another
unlike : (n name : List ℕ) → (n ≡ name → ⊥) → bytes_eq n name ≡ false
unlike n name other =
    elim (cases_Bool (bytes_eq n name)) [
      | inl same ↦ absurd (other ((bytes_eq-Decides n name).0 same))
      | inr differs ↦ differs
    ]

later : (n name : List ℕ) (v : TreeValue) (ps : Tree) → (n ≡ name → ⊥) → (first_named name (with_first n v ps) ≡ first_named name ps) × (pairs_behind name (with_first n v ps) ≡ pairs_behind name ps)
later n name (leaf_value k leaf) ps other = rw (unlike n name other) (refl, refl)
later n name (document_value k b inner) ps other = rw (unlike n name other) (refl, refl)

low_byte : (k : Kind) → 1 ≤ byte_of k
low_byte Double = omega arith
low_byte _ = omega arith

byte_some : (k : Kind) → byte_of k ≡ 0 → ⊥
byte_some k is = omega (arith, low_byte k, is)

-- an element of a pair is one
kind_some : (bytes : List ℕ) (s : ElementIter) (e : Element) (v : TreeValue) → ShowsValue bytes s e v → e.kind ≡ 0 → ⊥
kind_some bytes s e (leaf_value k leaf) shown none = byte_some k (sym shown.0 ∙ none)
kind_some bytes s e (document_value k b inner) shown none = byte_some k (sym shown.0 ∙ none)

-- the pairs that are left, where others were passed
pub passed_left : (bytes name : List ℕ) (s : ElementIter) (at : ℕ) → length bytes < 2 ^ 64 → Passes bytes name s at → (t : Tree) → PairsFrom bytes s t → (rest : Tree) × PairsFrom bytes (moved s at) rest × (first_named name t ≡ first_named name rest) × (pairs_behind name t ≡ pairs_behind name rest)
passed_left bytes name s at short (no_step is) t from = (t, subst (λ (n : ℕ). PairsFrom bytes (moved s n) t) (sym is) from, refl, refl)
passed_left bytes name s at short (one_more before passed (e, step, some, other)) t from =
    let i = passed_left bytes name s before short passed t from in
    elim (step_gives bytes (moved s before) e at short step i.0 i.1) [
      | no_more none is stays ↦ absurd (some (ap (λ (x : Element). x.kind) is))
      | gives n v others is shown value left ↦
          let l = later n name v others (λ same. other (subst (IsView bytes e.name) same shown)) in
          (others, left, i.2 ∙ ap (first_named name) is ∙ l.0, i.3 ∙ ap (pairs_behind name) is ∙ l.1)
    ]

pub finds_named : (bytes name : List ℕ) (s : ElementIter) (e : Element) (next : ℕ) → length bytes < 2 ^ 64 → Finds bytes name s e next → (t : Tree) → PairsFrom bytes s t → GivesNamed bytes name s e (moved s next) t
finds_named bytes name s e next short f t from =
    let i = passed_left bytes name s f.at short f.passed t from in
    elim (step_gives bytes (moved s f.at) e next short f.step i.0 i.1) [
      | no_more none is stays ↦ none_named (i.2 ∙ ap (first_named name) none) is (subst (λ (x : ElementIter). PairsFrom bytes x no_pairs) (sym stays) (subst (PairsFrom bytes (moved s f.at)) none i.1))
      | gives n v others is shown value left ↦
          elim f.stops [
            | inl none ↦ absurd (kind_some bytes (moved s f.at) e v value none)
            | inr same ↦
                let h = here n name v others (one_name bytes e.name n name shown same) in
                named v (i.2 ∙ ap (first_named name) is ∙ h.0) same value (subst (PairsFrom bytes (moved s next)) (sym (i.3 ∙ ap (pairs_behind name) is ∙ h.1)) left)
          ]
    ]

-- a walk that reads an element goes on
pub goes_on : (bytes : List ℕ) (s : ElementIter) (e : Element) (next : ℕ) → IsStep bytes s e next → (e.kind ≡ 0 → ⊥) → (s.at < next) × (next ≤ s.end)
goes_on bytes s e next (outside out is stays) some = absurd (some (ap (λ (x : Element). x.kind) is))
goes_on bytes s e next (at_end inside last is stays) some = absurd (some (ap (λ (x : Element). x.kind) is))
goes_on bytes s e next (reads read inside lt is rest goes e_is) some = goes
goes_on bytes s e next (fails f inside lt is e_is stays) some = absurd (some (ap (λ (x : Element). x.kind) e_is))
goes_on bytes s e next (not_text name words rest inside lt is string after goes e_is) some = goes
