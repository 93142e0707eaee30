-- Bytes have one list of parts.
use Rattle.std.proofs.Common.{◌≡◌, ◌≢◌, ◌⊎◌, inl, inr, ℕ, ◌+◌, ◌<◌, ◌≤◌, Bool, true, false, ltb, List, [], ◌∷◌, ◌++◌, length, take, drop, refl, sym, ap, subst, ◌∙◌, arith, length-append, length-drop, take-append-drop}
use Rattle.std.proofs.lemmas.Bool.{ltb-false, ltb-true}
use Rattle.std.proofs.lemmas.List.{drop-append-le, nil_from_length, take-append-le, take_at}
use Rattle.std.proofs.lemmas.List.Prefix.{front_rest}
use Rattle.bson_elem.specs.{IsBytes, Spells, Tree}
use Rattle.bson_elem.proofs.Lemmas.{IsBytes-after, one_front, same_front}
use Rattle.bson_stream.specs.declared.gap.Gap.{Gap}
use Rattle.bson_stream.specs.declared.gap.GapFault.{GapFault}
use Rattle.bson_stream.specs.declared.gap.GapFault.TheVariants.{Bson, TooLong}
use Rattle.bson_stream.specs.Salvage.{AreParts, BeginsDocument, IsGapFault, NoneBegins, Part, Salvages, a_document, a_gap, at_document, at_gap, no_more}
use Rattle.bson_stream.specs.Standing.{in_stream}
use Rattle.bson_stream.proofs.Standings.{spelled_length}

-- ---- parts have bytes

document_some : (t : Tree) (b after : List ℕ) → Spells t b → b ++ after ≡ [] → ⊥
document_some t b after s e = omega (arith, (spelled_length t b s).0, ap length e, length-append b after)

gap_some : (skipped after : List ℕ) → skipped ≢ [] → skipped ++ after ≡ [] → ⊥
gap_some [] after some e = some refl
gap_some (x ∷ skipped) after some e = omega (arith, ap length e)

-- ---- where a gap ends

none_behind : (limit : ℕ) (xs ys after : List ℕ) → NoneBegins limit (xs ++ ys) after → NoneBegins limit ys after
none_behind limit [] ys after none = none
none_behind limit (x ∷ xs) ys after none = none_behind limit xs ys after none.1

none_first : (limit : ℕ) (ys after : List ℕ) → ys ≢ [] → NoneBegins limit ys after → BeginsDocument limit (ys ++ after) → ⊥
none_first limit [] after some none = absurd (some refl)
none_first limit (y ∷ ys) after some none = none.0

-- the longer of two fronts of the same bytes begins with the shorter one
longer_front : (xs a ys b : List ℕ) → xs ++ a ≡ ys ++ b → length xs ≤ length ys → (ys ≡ xs ++ drop (length xs) ys) × (a ≡ drop (length xs) ys ++ b)
longer_front xs a ys b is le =
    let front : take (length xs) ys ≡ xs = sym (take-append-le (length xs) ys b le) ∙ ap (take (length xs)) (sym is) ∙ take_at xs a (length xs) refl in
    let rest : drop (length xs) (xs ++ a) ≡ a = front_rest (xs ++ a) xs a refl in (
      sym (take-append-drop (length xs) ys) ∙ ap (λ (x : List ℕ). x ++ drop (length xs) ys) front,
      sym rest ∙ ap (drop (length xs)) is ∙ drop-append-le (length xs) ys b le,
    )

-- no gap goes on past the end of another one
not_past : (limit : ℕ) (xs a ys b : List ℕ) → xs ++ a ≡ ys ++ b → (a ≡ []) ⊎ BeginsDocument limit a → NoneBegins limit ys b → length xs < length ys → ⊥
not_past limit xs a ys b is ends none lt = go ends
  where
    zs : List ℕ
    zs = drop (length xs) ys

    parts : (ys ≡ xs ++ zs) × (a ≡ zs ++ b)
    parts = longer_front xs a ys b is (omega (arith, lt))

    some : zs ≢ []
    some e = omega (arith, lt, ap length e, length-drop (length xs) ys)

    go : (a ≡ []) ⊎ BeginsDocument limit a → ⊥
    go (inl e) = gap_some zs b some (sym parts.1 ∙ e)
    go (inr begins) = none_first limit zs b some (none_behind limit xs zs b (subst (λ (x : List ℕ). NoneBegins limit x b) parts.0 none)) (subst (BeginsDocument limit) parts.1 begins)

-- two gaps in front of the same bytes end at the same place
same_end : (limit : ℕ) (xs a ys b : List ℕ) → xs ++ a ≡ ys ++ b → (a ≡ []) ⊎ BeginsDocument limit a → NoneBegins limit xs a → (b ≡ []) ⊎ BeginsDocument limit b → NoneBegins limit ys b
    → length xs ≡ length ys
same_end limit xs a ys b is ends none ends' none' =
    let less : length xs < length ys → ⊥ = not_past limit xs a ys b is ends none' in
    let more : length ys < length xs → ⊥ = not_past limit ys b xs a (sym is) ends' none in
    by (ltb (length xs) (length ys)) (ltb (length ys) (length xs)) refl refl less more
  where
    by : (c d : Bool) → ltb (length xs) (length ys) ≡ c → ltb (length ys) (length xs) ≡ d → (length xs < length ys → ⊥) → (length ys < length xs → ⊥) → length xs ≡ length ys
    by true d e f less more = absurd (less (ltb-true (length xs) (length ys) e))
    by false true e f less more = absurd (more (ltb-true (length ys) (length xs) f))
    by false false e f less more = omega (arith, ltb-false (length xs) (length ys) e, ltb-false (length ys) (length xs) f)

same_rest : (xs a ys b : List ℕ) → xs ++ a ≡ ys ++ b → length xs ≡ length ys → a ≡ b
same_rest xs a ys b is size =
    let parts = longer_front xs a ys b is (omega (arith, size)) in
    let none : drop (length xs) ys ≡ [] = nil_from_length (drop (length xs) ys) (omega (arith, size, length-drop (length xs) ys)) in
    parts.1 ∙ ap (λ (x : List ℕ). x ++ b) none

-- ---- why it begins

one_fault : (limit start : ℕ) (bytes : List ℕ) (f g : GapFault) → IsBytes bytes → IsGapFault limit start bytes f → IsGapFault limit start bytes g → f ≡ g
one_fault limit start bytes TooLong TooLong fits is is' = refl
one_fault limit start bytes TooLong (Bson g) fits is is' = absurd (is'.0 is)
one_fault limit start bytes (Bson f) TooLong fits is is' = absurd (is.0 is')
one_fault limit start bytes (Bson f) (Bson g) fits (not, (own, first, told)) (not', (own', first', told')) =
    ap Bson (told ∙ ap (in_stream start) (one_front bytes own own' fits first first') ∙ sym told')

-- ---- one list of parts

abbrev made : ℕ → ℕ → GapFault → Gap
made from to f = record { from = from; to = to; fault = f }

-- no gap begins with a document
no_gap : (limit : ℕ) (bytes b after skipped rest : List ℕ) (t : Tree) → Spells t b → length b ≤ limit → bytes ≡ b ++ after → skipped ≢ [] → bytes ≡ skipped ++ rest → NoneBegins limit skipped rest → ⊥
no_gap limit bytes b after skipped rest t s le is some is' none = none_first limit skipped rest some none (t, b, after, s, le, sym is' ∙ is)

pub one : (limit start : ℕ) (bytes rest rest' : List ℕ) (ps qs : List Part) → IsBytes bytes → rest ≡ [] → rest' ≡ [] → Salvages limit start bytes ps rest → Salvages limit start bytes qs rest' → ps ≡ qs
one limit start bytes rest rest' ps qs fits e e' no_more no_more = refl
one limit start bytes rest rest' ps qs fits e e' no_more (at_document t b after s le is more) = absurd (document_some t b after s (sym is ∙ e))
one limit start bytes rest rest' ps qs fits e e' no_more (at_gap f skipped after some is none fault ends more) = absurd (gap_some skipped after some (sym is ∙ e))
one limit start bytes rest rest' ps qs fits e e' (at_document t b after s le is more) no_more = absurd (document_some t b after s (sym is ∙ e'))
one limit start bytes rest rest' ps qs fits e e' (at_document {parts = parts} t b after s le is more) (at_document {parts = parts'} u c after' s' le' is' more') =
    let same = same_front bytes t u b c after after' s s' is is' in
    let size : length c ≡ length b = omega (arith, ap length is, ap length is', length-append b after, length-append c after', ap length same.1) in
    let moved : Salvages limit (start + length b) after parts' rest' =
    subst (λ (x : List ℕ). Salvages limit (start + length b) x parts' rest') (sym same.1) (subst (λ (n : ℕ). Salvages limit (start + n) after' parts' rest') size more') in
    let others = one limit (start + length b) after rest rest' parts parts' (IsBytes-after b after (subst IsBytes is fits)) e e' more moved in
    ap (λ (x : Tree). a_document start x ∷ parts) same.0 ∙ ap (λ (x : List Part). a_document start u ∷ x) others
one limit start bytes rest rest' ps qs fits e e' (at_document t b after s le is more) (at_gap f skipped behind some is' none fault ends more') =
    absurd (no_gap limit bytes b after skipped behind t s le is some is' none)
one limit start bytes rest rest' ps qs fits e e' (at_gap f skipped after some is none fault ends more) no_more = absurd (gap_some skipped after some (sym is ∙ e'))
one limit start bytes rest rest' ps qs fits e e' (at_gap f skipped behind some is' none fault ends more') (at_document t b after s le is more) =
    absurd (no_gap limit bytes b after skipped behind t s le is some is' none)
one limit start bytes rest rest' ps qs fits e e' (at_gap {parts = parts} f xs a some is none fault ends more) (at_gap {parts = parts'} g ys b some' is' none' fault' ends' more') =
    let both : xs ++ a ≡ ys ++ b = sym is ∙ is' in
    let size : length xs ≡ length ys = same_end limit xs a ys b both ends none ends' none' in
    let after : a ≡ b = same_rest xs a ys b both size in
    let moved : Salvages limit (start + length xs) a parts' rest' =
    subst (λ (x : List ℕ). Salvages limit (start + length xs) x parts' rest') (sym after) (subst (λ (n : ℕ). Salvages limit (start + n) b parts' rest') (sym size) more') in
    let others = one limit (start + length xs) a rest rest' parts parts' (IsBytes-after xs a (subst IsBytes is fits)) e e' more moved in
    ap (λ (n : ℕ). a_gap (made start (start + n) f) ∷ parts) size ∙ ap (λ (x : GapFault). a_gap (made start (start + length ys) x) ∷ parts) (one_fault limit start bytes f g fits fault fault')
    ∙ ap (λ (x : List Part). a_gap (made start (start + length ys) g) ∷ x) others

pub one_salvage : (limit : ℕ) (bytes : List ℕ) (ps qs : List Part) → IsBytes bytes → AreParts limit bytes ps → AreParts limit bytes qs → ps ≡ qs
one_salvage limit bytes ps qs fits first second = one limit 0 bytes [] [] ps qs fits refl refl first second
