-- The bytes of pairs, one after another, and which of them spell a document.
use Rattle.std.proofs.Common.{◌≡◌, ℕ, ◌+◌, ◌<◌, ◌≤◌, ◌^◌, Bool, true, false, cond, nat_lt, ◌||◌, ◌==◌, List, [], ◌∷◌, ◌++◌, Option, Some, None, length, take, drop, refl, sym, subst, ap, ◌∙◌, arith, append_assoc, length-append}
use Rattle.std.specs.Option.{option_or}
use Rattle.std.specs.Io.{StartsWith}
use Rattle.std.specs.Prelude.{IfNone, IsUtf8, OnSome}
use Rattle.std.proofs.lemmas.Bool.{ltb-true}
use Rattle.std.proofs.lemmas.List.{take-append-drop}
use Rattle.std.proofs.Math.Seq.{take-append_seam}
use Rattle.std.proofs.lemmas.Fmt.{IsAscii-decimal}
use Rattle.std.proofs.lemmas.Str.{IsUtf8-from_ascii}
use Rattle.bson_raw.specs.Naming.{name_at}
use Rattle.std.specs.Fmt.{decimal}
use Rattle.bson_elem.specs.Kinds.{byte_of, Form, raw_form, boolean_form, int32_form, int64_form, timestamp_form, string_form, pointer_form, binary_form, regex_form, form_of}
use Rattle.bson_elem.specs.Spelling.{little, cstring, string, document, leaf_bytes, inner_bytes, elements, HasNoZero, IsOfForm, Fits, Spells}
use Rattle.bson_elem.specs.Trees.{Leaf, raw_value, boolean_value, number_value, timestamp_value, text_value, pointer_value, binary_value, regex_value, Tree, no_pairs, leaf_pair, inner_pair}
use Rattle.bson_elem.proofs.Lemmas.{length-document}
use Rattle.bson_raw.specs.Pairs.{TreeValue, leaf_value, document_value, with_first}
use Rattle.bson_raw.proofs.Lemmas.{inner_len}
use Rattle.bson_doc.specs.declared.refusal.DocRefusal.{DocRefusal}
use Rattle.bson_doc.specs.declared.refusal.DocRefusal.TheVariants.{RepeatedName, OutOfMemory, TooLarge, ZeroInName, Depth}
use Rattle.bson_doc.specs.Formed.{IsFormedLeaf, IsFormed, IsFormedValue}
use Rattle.bson_doc.specs.Refusals.{IsLengthRefusal}
use Rattle.bson_doc.specs.Unwritable.{has_zero, unwritable_leaf, unwritable, IsUnwritable}
use Rattle.bson_doc.specs.Values.{value_bytes, value_kind, element_bytes}

-- ---- where the types and the checks are kept, the tree fits

no_zero : (bytes : List ℕ) → has_zero bytes ≡ false → HasNoZero bytes
no_zero [] e = tt
no_zero (b ∷ bs) e = let s = neither (b == 0) (has_zero bs) e in (λ is. zero_is b is s.0, no_zero bs s.1)
  where
    neither : (p q : Bool) → (p || q) ≡ false → (p ≡ false) × (q ≡ false)
    neither true q e = absurd cc
    neither false q e = (refl, e)

    zero_is : (b : ℕ) → b ≡ 0 → (b == 0) ≡ false → ⊥
    zero_is b is e = let t : (b == 0) ≡ true = ap (λ (n : ℕ). n == 0) is in cc

both_free : (p q : Bool) → cond (p || q) (Some ZeroInName) None ≡ None → (p ≡ false) × (q ≡ false)
both_free true q e = absurd cc
both_free false true e = absurd cc
both_free false false e = (refl, refl)

binary_short : (two : Bool) (n : ℕ) (subtype : ℕ) (bytes : List ℕ) → n ≡ length bytes → length (cond two (little (n + 4) ++ (2 ∷ (little n ++ bytes))) (little n ++ (subtype ∷ bytes))) < 2 ^ 31 → cond two (n + 4) n < 2 ^ 31
binary_short true n subtype bytes e h = omega (arith, h, length-append (little (n + 4)) (2 ∷ (little n ++ bytes)), length-append (little n) bytes)
binary_short false n subtype bytes e h = omega (arith, h, length-append (little n) (subtype ∷ bytes))

leaf_formed : (form : Form) (v : Leaf) → unwritable_leaf v ≡ None → IsFormedLeaf form v → length (leaf_bytes form v) < 2 ^ 31 → IsOfForm form v
leaf_formed (raw_form n) (raw_value bytes) u f s = f
leaf_formed boolean_form (boolean_value b) u f s = tt
leaf_formed int32_form (number_value z) u f s = f
leaf_formed int64_form (number_value z) u f s = f
leaf_formed timestamp_form (timestamp_value increment seconds) u f s = f
leaf_formed string_form (text_value words) u f s = record { is_text = f; short = omega (arith, s, length-append (little (length words + 1)) (cstring words), length-append words (0 ∷ [])) }
leaf_formed pointer_form (pointer_value words id) u f s = (record { is_text = f.0; short = omega (arith, s, length-append (string words) id, length-append (little (length words + 1)) (cstring words), length-append words (0 ∷ [])) }, f.1)
leaf_formed binary_form (binary_value subtype bytes) u f s = record { one_byte = f.0; are_bytes = f.1; short = binary_short (subtype == 2) (length bytes) subtype bytes refl s }
leaf_formed regex_form (regex_value pattern options) u f s =
    let free = both_free (has_zero pattern) (has_zero options) u in
    (record { is_text = f.0; no_zero = no_zero pattern free.0 }, record { is_text = f.1; no_zero = no_zero options free.1 })
leaf_formed _ _ u f s = absurd f

name_free : (zero : Bool) (after : Option DocRefusal) → cond zero (Some ZeroInName) after ≡ None → (zero ≡ false) × (after ≡ None)
name_free true after e = absurd cc
name_free false after e = (refl, e)

neither_there : (one two : Option DocRefusal) → option_or one two ≡ None → (one ≡ None) × (two ≡ None)
neither_there None two e = (refl, e)
neither_there (Some r) two e = absurd cc

shallow : (depth : ℕ) (inner : Option DocRefusal) → cond (nat_lt depth 200) inner (Some Depth) ≡ None → (depth < 200) × (inner ≡ None)
shallow depth inner e = split (nat_lt depth 200) refl e
  where
    split : (b : Bool) → b ≡ nat_lt depth 200 → cond b inner (Some Depth) ≡ None → (depth < 200) × (inner ≡ None)
    split true is e = (ltb-true depth 200 (sym is), e)
    split false is e = absurd cc

pub fits_formed : (depth : ℕ) (t : Tree) → unwritable depth t ≡ None → IsFormed t → length (elements t) < 2 ^ 31 → Fits depth t
fits_formed depth no_pairs u f s = tt
fits_formed depth (leaf_pair n k v ps) u f s =
    let named = name_free (has_zero n) _ u in
    let rest = neither_there (unwritable_leaf v) (unwritable depth ps) named.1 in
    let all = length-append (byte_of k ∷ (cstring n ++ leaf_bytes (form_of k) v)) (elements ps) in
    let parts = length-append (cstring n) (leaf_bytes (form_of k) v) in
    (record { is_text = f.0; no_zero = no_zero n named.0 }, leaf_formed (form_of k) v rest.0 f.1 (omega (arith, s, all, parts)), fits_formed depth ps rest.1 f.2 (omega (arith, s, all)))
fits_formed depth (inner_pair n k b inner ps) u f s =
    let named = name_free (has_zero n) _ u in
    let rest = neither_there _ (unwritable depth ps) named.1 in
    let held = shallow depth (unwritable (depth + 1) inner) rest.0 in
    let all = length-append (byte_of k ∷ (cstring n ++ inner_bytes b (elements inner))) (elements ps) in
    let parts = length-append (cstring n) (inner_bytes b (elements inner)) in
    let short : length (inner_bytes b (elements inner)) < 2 ^ 31 = omega (arith, s, all, parts) in (
      record { is_text = f.0; no_zero = no_zero n named.0 },
      f.1,
      held.0,
      short,
      fits_formed (depth + 1) inner held.1 f.2 (omega (arith, short, inner_len b (elements inner), length-document (elements inner))),
      fits_formed depth ps rest.1 f.3 (omega (arith, s, all)),
    )

pub spells_formed : (t : Tree) (out : List ℕ) → unwritable 1 t ≡ None → IsFormed t → out ≡ document (elements t) → length (document (elements t)) < 2 ^ 31 → Spells t out
spells_formed t out u f is short = record {
  parts = is;
  short = omega (arith, short, ap length is);
  fits = fits_formed 1 t u f (omega (arith, short, length-document (elements t)));
}

-- ---- one pair after another

pub elements-with_first : (n : List ℕ) (v : TreeValue) (ps : Tree) → elements (with_first n v ps) ≡ element_bytes n v ++ elements ps
elements-with_first n (leaf_value k leaf) ps = refl
elements-with_first n (document_value k b inner) ps = refl

pub formed-with_first : (n : List ℕ) (v : TreeValue) (ps : Tree) → IsUtf8 n → IsFormedValue v → IsFormed ps → IsFormed (with_first n v ps)
formed-with_first n (leaf_value k leaf) ps t f g = (t, f, g)
formed-with_first n (document_value k b inner) ps t f g = (t, f.0, f.1, g)

-- The pairs of the tree that are left stand behind bytes that were added. If they are formed, all are.
pub record Written (t left : Tree) (begun out : List ℕ) : Type 0 where
  pub added : List ℕ
  pub is_added : out ≡ begun ++ added
  pub elements_are : elements t ≡ added ++ elements left
  pub formed : IsFormed left → IsFormed t

pub written_more : (t left : Tree) (begun out headed after : List ℕ) (w : Written t left begun out) (n : List ℕ) (v : TreeValue) (others : Tree) (byte : ℕ)
    → left ≡ with_first n v others → byte ≡ byte_of (value_kind v) → headed ≡ out ++ (byte ∷ cstring n) → after ≡ headed ++ value_bytes v → IsUtf8 n → IsFormedValue v → Written t others begun after
written_more t left begun out headed after w n v others byte first kind e f text formed =
    let this : List ℕ = element_bytes n v in record {
      added = w.added ++ this;
      is_added = f ∙ ap (λ (x : List ℕ). x ++ value_bytes v) (e ∙ ap (λ (b : ℕ). out ++ (b ∷ cstring n)) kind) ∙ append_assoc out (byte_of (value_kind v) ∷ cstring n) (value_bytes v) ∙ ap (λ (x : List ℕ). x ++ this) w.is_added ∙ append_assoc begun w.added this;
      elements_are = w.elements_are ∙ ap (λ (x : List ℕ). w.added ++ x) (ap elements first ∙ elements-with_first n v others) ∙ sym (append_assoc w.added this (elements others));
      formed = λ rest. w.formed (rw first (formed-with_first n v others text formed rest));
    }

-- ---- names, and bytes

pub name_text : (in_array : Bool) (index : ℕ) (name : List ℕ) → index < 2 ^ 64 → IsUtf8 name → IsUtf8 (name_at in_array index name)
name_text true index name small f = IsUtf8-from_ascii (decimal index) (IsAscii-decimal index small)
name_text false index name small f = f

-- what holds in any case
pub always : {T : Type 0} (o : Option T) {P : Type 0} → P → OnSome o P
always (Some x) p = p
always None p = tt

pub always_none : {T : Type 0} (o : Option T) {P : Type 0} → P → IfNone o P
always_none (Some x) p = tt
always_none None p = p

-- ---- what stands in front of bytes that are kept is kept

pub kept_front : (before added out after : List ℕ) → out ≡ before ++ added → StartsWith after out → StartsWith after before
kept_front before added out after is kept =
    let all : after ≡ before ++ (added ++ drop (length out) after) = sym (take-append-drop (length out) after) ∙ ap (λ (x : List ℕ). x ++ drop (length out) after) (kept ∙ is) ∙ append_assoc before added (drop (length out) after) in
    ap (take (length before)) all ∙ take-append_seam before (added ++ drop (length out) after)

-- the pairs of a container, written behind what begins it
pub kept_begun : (t left : Tree) (before begin begun out after : List ℕ) → Written t left begun out → begun ≡ before ++ begin → StartsWith after out → StartsWith after before
kept_begun t left before begin begun out after w is kept = kept_front before begin begun after is (kept_front begun w.added out after w.is_added kept)

-- ---- a reason of the check is a 00 or a depth

abbrev IsChecked : Option DocRefusal → Type 0
IsChecked None = Unit {0}
IsChecked (Some ZeroInName) = Unit {0}
IsChecked (Some Depth) = Unit {0}
IsChecked _ = ⊥

zero_checked : (b : Bool) (o : Option DocRefusal) → IsChecked o → IsChecked (cond b (Some ZeroInName) o)
zero_checked true o h = tt
zero_checked false o h = h

or_checked : (a b : Option DocRefusal) → IsChecked a → IsChecked b → IsChecked (option_or a b)
or_checked None b g h = h
or_checked (Some r) b g h = g

depth_checked : (b : Bool) (o : Option DocRefusal) → IsChecked o → IsChecked (cond b o (Some Depth))
depth_checked true o h = h
depth_checked false o h = tt

leaf_checked : (v : Leaf) → IsChecked (unwritable_leaf v)
leaf_checked (regex_value pattern options) = zero_checked (has_zero pattern || has_zero options) None tt
leaf_checked _ = tt

checked : (depth : ℕ) (t : Tree) → IsChecked (unwritable depth t)
checked depth no_pairs = tt
checked depth (leaf_pair n k v ps) = zero_checked (has_zero n) _ (or_checked (unwritable_leaf v) _ (leaf_checked v) (checked depth ps))
checked depth (inner_pair n k b inner ps) =
    zero_checked (has_zero n) _ (or_checked _ _ (depth_checked (nat_lt depth 200) _ (checked (depth + 1) inner)) (checked depth ps))

pub is_reason : (t : Tree) (e : DocRefusal) → unwritable 1 t ≡ Some e → IsUnwritable t e
is_reason t (RepeatedName depth) h = h
is_reason t OutOfMemory h = absurd (subst IsChecked h (checked 1 t))
is_reason t TooLarge h = absurd (subst IsChecked h (checked 1 t))
is_reason t ZeroInName h = h
is_reason t Depth h = h

-- the length is the reason, or memory
pub length_refused : (t : Tree) (limit : ℕ) (e : DocRefusal) → limit + 1 ≡ 2 ^ 31 → unwritable 1 t ≡ None → IsLengthRefusal limit (length (document (elements t))) e → IsUnwritable t e
length_refused t limit (RepeatedName depth) counted free r = absurd r
length_refused t limit OutOfMemory counted free r = (free, omega (arith, counted, r))
length_refused t limit TooLarge counted free r = (free, omega (arith, counted, r))
length_refused t limit ZeroInName counted free r = absurd r
length_refused t limit Depth counted free r = absurd r
