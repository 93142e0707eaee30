-- The search for the names of a message.
use Rattle.std.proofs.Common.{◌≡◌, ◌≢◌, ℕ, ◌+◌, ◌-◌, ◌≤◌, true, false, List, [], ◌∷◌, ◌++◌, length, Option, Some, None, refl, sym, ap, ◌∙◌, arith, length-append, inl, inr}
use Rattle.std.specs.Option.{option_or}
use Rattle.std.specs.Prelude.{MatchOption, is_some}
use Rattle.std.specs.Str.{bytes_eq}
use Rattle.std.proofs.lemmas.Bool.{cases_Bool}
use Rattle.bson_elem.specs.Trees.{Tree, no_pairs, leaf_pair, inner_pair}
use Rattle.bson_raw.specs.declared.value.RawBson.{RawBson}
use Rattle.bson_raw.specs.Pairs.{TreeValue, first_named, first_repeated}
use Rattle.bson_raw.specs.RawBson.{ShowsFound}
use Rattle.wire_msg.specs.Messages.{Sequence, AreSequences, is_field, AreApart}
use Rattle.wire_msg.specs.Spelling.{body_section, sequence_section, sequences_bytes}
use Rattle.wire_msg.specs.declared.fault.MsgFault.{MsgFault}
use Rattle.wire_msg.specs.declared.fault.MsgCause.TheVariants.{RepeatedField, SequenceInBody}
use Rattle.wire_msg.specs.Causes.{msg_fault}
use Rattle.wire_msg.specs.Faults.{first_in_body, identifier_fault, field_fault, names_fault}
use Rattle.wire_msg.proofs.ReadLaws.{length-sequence}

-- ---- one name

-- a name is a field where a pair of it is found
pub field_found : (name : List ℕ) (t : Tree) → is_some (first_named name t) ≡ is_field name t
field_found name no_pairs = refl
field_found name (leaf_pair n k v ps) =
    elim (cases_Bool (bytes_eq n name)) [
      | inl same ↦ rw same refl
      | inr other ↦ rw other (field_found name ps)
    ]
field_found name (inner_pair n k b inner ps) =
    elim (cases_Bool (bytes_eq n name)) [
      | inl same ↦ rw same refl
      | inr other ↦ rw other (field_found name ps)
    ]

pub found_shown : (r : Option RawBson) (found : Option TreeValue) → MatchOption r (found ≡ None) (λ value. ShowsFound value found) → is_some r ≡ is_some found
found_shown None found m = sym (ap is_some m)
found_shown (Some value) found m = sym (ap is_some m.1)

-- ---- the sequences that are left

pub record IsLeftOf (t : Tree) (start : ℕ) (sequences : List ℕ) (qs : List Sequence) (rest : List ℕ) : Type 0 where
  pub left : List Sequence
  pub fits : AreSequences left
  pub are : rest ≡ sequences_bytes left
  pub same : first_in_body t start qs ≡ first_in_body t (start + (length sequences - length rest)) left

pub all_left : (t : Tree) (start : ℕ) (sequences : List ℕ) (qs : List Sequence) → AreSequences qs → sequences ≡ sequences_bytes qs → IsLeftOf t start sequences qs sequences
all_left t start sequences qs fits are =
    let e : start ≡ start + (length sequences - length sequences) = omega arith in
    record { left = qs; fits = fits; are = are; same = ap (λ (p : ℕ). first_in_body t p qs) e }

-- the first of them
pub record IsFirstLeft (t : Tree) (start : ℕ) (sequences : List ℕ) (qs : List Sequence) (rest : List ℕ) : Type 0 where
  pub sequence : Sequence
  pub others : List Sequence
  pub fits : AreSequences (sequence ∷ others)
  pub are : rest ≡ sequences_bytes (sequence ∷ others)
  pub same : first_in_body t start qs ≡ first_in_body t (start + (length sequences - length rest)) (sequence ∷ others)

first_cases : (t : Tree) (start : ℕ) (sequences : List ℕ) (qs : List Sequence) (rest : List ℕ) (left : List Sequence) → length rest ≢ 0 → AreSequences left → rest ≡ sequences_bytes left → first_in_body t start qs ≡ first_in_body t (start + (length sequences - length rest)) left → IsFirstLeft t start sequences qs rest
first_cases t start sequences qs rest [] some fits are same = absurd (some (ap length are))
first_cases t start sequences qs rest (q ∷ others) some fits are same = record { sequence = q; others = others; fits = fits; are = are; same = same }

pub first_left : (t : Tree) (start : ℕ) (sequences : List ℕ) (qs : List Sequence) (rest : List ℕ) → length rest ≢ 0 → IsLeftOf t start sequences qs rest → IsFirstLeft t start sequences qs rest
first_left t start sequences qs rest some l = first_cases t start sequences qs rest l.left some l.fits l.are l.same

pub here_in_body : (t : Tree) (start : ℕ) (sequences : List ℕ) (qs : List Sequence) (rest name : List ℕ) → (f : IsFirstLeft t start sequences qs rest) → name ≡ f.sequence.identifier → is_field name t ≡ true → Some (start + (length sequences - length rest)) ≡ first_in_body t start qs
here_in_body t start sequences qs rest name f is found =
    let field : is_field f.sequence.identifier t ≡ true = ap (λ (n : List ℕ). is_field n t) (sym is) ∙ found in
    sym (f.same ∙ rw field refl)

pub later_in_body : (t : Tree) (start : ℕ) (sequences : List ℕ) (qs : List Sequence) (rest name next : List ℕ) → (f : IsFirstLeft t start sequences qs rest) → length rest ≤ length sequences → name ≡ f.sequence.identifier → next ≡ sequences_bytes f.others → is_field name t ≡ false → IsLeftOf t start sequences qs next
later_in_body t start sequences qs rest name next f le is are absent =
    let q : Sequence = f.sequence in
    let field : is_field q.identifier t ≡ false = ap (λ (n : List ℕ). is_field n t) (sym is) ∙ absent in
    let size : length rest ≡ length (sequence_section q) + length next = ap length f.are ∙ length-append (sequence_section q) (sequences_bytes f.others) ∙ ap (λ (x : List ℕ). length (sequence_section q) + length x) (sym are) in
    let offset : start + (length sequences - length rest) + length (sequence_section q) ≡ start + (length sequences - length next) = omega (arith, size, le) in
    let passed : first_in_body t (start + (length sequences - length rest)) (q ∷ f.others) ≡ first_in_body t (start + (length sequences - length rest) + length (sequence_section q)) f.others = rw field refl in
    record { left = f.others; fits = f.fits.1; are = are; same = f.same ∙ passed ∙ ap (λ (p : ℕ). first_in_body t p f.others) offset }

none_cases : (t : Tree) (p : ℕ) (rest : List ℕ) (left : List Sequence) → length rest ≡ 0 → rest ≡ sequences_bytes left → first_in_body t p left ≡ None
none_cases t p rest [] none are = refl
none_cases t p rest (q ∷ qs) none are = absurd (omega (arith, none, ap length are, length-append (sequence_section q) (sequences_bytes qs), length-sequence q))

pub none_in_body : (t : Tree) (start : ℕ) (sequences : List ℕ) (qs : List Sequence) (rest : List ℕ) → length rest ≡ 0 → IsLeftOf t start sequences qs rest → None ≡ first_in_body t start qs
none_in_body t start sequences qs rest none l = sym (l.same ∙ none_cases t _ rest l.left none l.are)

-- ---- all names

pub names_repeated : (first : List Sequence) (t : Tree) (last : List Sequence) (name : List ℕ) → first_repeated [] t ≡ Some name → names_fault first t last ≡ Some (msg_fault (20 + length (sequences_bytes first)) RepeatedField)
names_repeated first t last name e = rw e refl

pub names_before : (first : List Sequence) (t : Tree) (last : List Sequence) (p : ℕ) → first_repeated [] t ≡ None → Some p ≡ first_in_body t 20 first → names_fault first t last ≡ Some (msg_fault p SequenceInBody)
names_before first t last p e f = rw (e, ← f) refl

pub names_after : (first : List Sequence) (t : Tree) (last : List Sequence) (next p : ℕ) → first_repeated [] t ≡ None → None ≡ first_in_body t 20 first → next ≡ 20 + length (sequences_bytes first) + length (body_section t) → Some p ≡ first_in_body t next last → names_fault first t last ≡ Some (msg_fault p SequenceInBody)
names_after first t last next p e f n g =
    let offset : first_in_body t (20 + length (sequences_bytes first) + length (body_section t)) last ≡ Some p = ap (λ (k : ℕ). first_in_body t k last) (sym n) ∙ sym g in
    rw (e, ← f, offset) refl

pub names_none : (first : List Sequence) (t : Tree) (last : List Sequence) (next : ℕ) → first_repeated [] t ≡ None → None ≡ first_in_body t 20 first → next ≡ 20 + length (sequences_bytes first) + length (body_section t) → None ≡ first_in_body t next last → names_fault first t last ≡ None
names_none first t last next e f n g =
    let offset : first_in_body t (20 + length (sequences_bytes first) + length (body_section t)) last ≡ None = ap (λ (k : ℕ). first_in_body t k last) (sym n) ∙ sym g in
    rw (e, ← f, offset) refl

pub is_repeated : (found : Option (List ℕ)) → is_some found ≡ true → (name : List ℕ) × (found ≡ Some name)
is_repeated None some = absurd cc
is_repeated (Some name) some = (name, refl)

pub not_repeated : (found : Option (List ℕ)) → is_some found ≡ false → found ≡ None
not_repeated None none = refl
not_repeated (Some name) none = absurd cc

-- where there is no fault, each name stands once
pub apart : (t : Tree) (p : ℕ) (qs : List Sequence) → first_in_body t p qs ≡ None → AreApart t qs
apart t p [] e = tt
apart t p (q ∷ qs) e =
    elim (cases_Bool (is_field q.identifier t)) [
      | inl found ↦ absurd (let f : Some p ≡ None = rw found at e in cc)
      | inr absent ↦ (absent, apart t (p + length (sequence_section q)) qs (rw absent at e))
    ]

pub AreApart-append : (t : Tree) (qs rs : List Sequence) → AreApart t qs → AreApart t rs → AreApart t (qs ++ rs)
AreApart-append t [] rs a b = b
AreApart-append t (q ∷ qs) rs a b = (a.0, AreApart-append t qs rs a.1 b)

fields_cases : (p : ℕ) (found : Option (List ℕ)) (other : Option MsgFault) → field_fault p found other ≡ None → (found ≡ None) × (other ≡ None)
fields_cases p None other e = (refl, e)
fields_cases p (Some name) other e = absurd cc

offsets_cases : (a b : Option ℕ) → identifier_fault (option_or a b) ≡ None → (a ≡ None) × (b ≡ None)
offsets_cases None None e = (refl, refl)
offsets_cases None (Some p) e = absurd cc
offsets_cases (Some p) b e = absurd cc

pub no_names_fault : (first : List Sequence) (t : Tree) (last : List Sequence) → names_fault first t last ≡ None → (first_repeated [] t ≡ None) × AreApart t (first ++ last)
no_names_fault first t last e =
    let p : ℕ = 20 + length (sequences_bytes first) in
    let f = fields_cases p (first_repeated [] t) (identifier_fault (option_or (first_in_body t 20 first) (first_in_body t (p + length (body_section t)) last))) e in
    let g = offsets_cases (first_in_body t 20 first) (first_in_body t (p + length (body_section t)) last) f.1 in
    (f.0, AreApart-append t first last (apart t 20 first g.0) (apart t (p + length (body_section t)) last g.1))

-- ---- where each name stands once, there is no fault

apart_none : (t : Tree) (p : ℕ) (qs : List Sequence) → AreApart t qs → first_in_body t p qs ≡ None
apart_none t p [] a = refl
apart_none t p (q ∷ qs) a = rw (a.0) (apart_none t (p + length (sequence_section q)) qs a.1)

AreApart-split : (t : Tree) (qs rs : List Sequence) → AreApart t (qs ++ rs) → AreApart t qs × AreApart t rs
AreApart-split t [] rs a = (tt, a)
AreApart-split t (q ∷ qs) rs a = let s = AreApart-split t qs rs a.1 in ((a.0, s.0), s.1)

pub apart_names : (first : List Sequence) (t : Tree) (last : List Sequence) → first_repeated [] t ≡ None → AreApart t (first ++ last) → names_fault first t last ≡ None
apart_names first t last e a =
    let s = AreApart-split t first last a in
    names_none first t last (20 + length (sequences_bytes first) + length (body_section t)) e (sym (apart_none t 20 first s.0)) refl (sym (apart_none t (20 + length (sequences_bytes first) + length (body_section t)) last s.1))
