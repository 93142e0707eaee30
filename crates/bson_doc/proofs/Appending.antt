-- A document with one more pair, in place of the 00 that ends it.
use mathlib.Core.List.{is_set}
use Rattle.std.proofs.Common.{◌≡◌, ℕ, ◌+◌, ◌<◌, ◌≤◌, ◌^◌, Bool, true, false, cond, ◌==◌, List, [], ◌∷◌, ◌++◌, Some, None, length, set, take, drop, refl, sym, ap, ◌∙◌, arith, append_assoc, length-append}
use Rattle.std.specs.Prelude.{IsUtf8, Result, Ok, Err, IfErr, MatchResult}
use Rattle.std.specs.Io.{StartsWith}
use Rattle.std.proofs.Math.Logic.{∥∥₁_elim}
use Rattle.std.proofs.Math.Nat.{ℕ_set}
use Rattle.std.proofs.Math.Seq.{drop-append_seam, set-append_seam}
use Rattle.std.proofs.lemmas.Bool.{lt-ltb, or_from}
use Rattle.std.proofs.lemmas.Bool.Decides.{nat_tests}
use Rattle.std.proofs.lemmas.Grind.{not_there}
use Rattle.std.proofs.lemmas.List.{append-nil, length-set, set-set}
use Rattle.bson_elem.specs.Kinds.{byte_of, Form, raw_form, boolean_form, int32_form, int64_form, timestamp_form, string_form, pointer_form, binary_form, regex_form, form_of}
use Rattle.bson_elem.specs.Spelling.{little, cstring, document, elements, leaf_bytes, inner_bytes, HasNoZero, IsOfForm, Fits, Spells}
use Rattle.bson_elem.specs.Trees.{Leaf, raw_value, boolean_value, number_value, timestamp_value, text_value, pointer_value, binary_value, regex_value, Tree, no_pairs, leaf_pair, inner_pair}
use Rattle.bson_elem.proofs.Lemmas.{length-document}
use Rattle.bson_raw.specs.Pairs.{TreeValue, with_first}
use Rattle.bson_raw.specs.Spelled.{IsSpelled}
use Rattle.bson_doc.specs.declared.refusal.DocRefusal.{DocRefusal}
use Rattle.bson_doc.specs.declared.refusal.DocRefusal.TheVariants.{RepeatedName, OutOfMemory, TooLarge, ZeroInName, Depth}
use Rattle.bson_doc.specs.Formed.{IsFormedValue}
use Rattle.bson_doc.specs.Appended.{with_pair_appended}
use Rattle.bson_doc.specs.Refusals.{IsLengthRefusal}
use Rattle.bson_doc.specs.Unwritable.{has_zero, unwritable_leaf, unwritable, unwritable_value, IsUnwritable}
use Rattle.bson_doc.specs.Values.{value_bytes, value_kind, element_bytes}
use Rattle.bson_doc.proofs.Checking.{passes, name_fails, value_fails}
use Rattle.bson_doc.proofs.Writing.{elements-with_first, formed-with_first, fits_formed, is_reason}

-- ---- trees

elements-with_pair_appended : (n : List ℕ) (v : TreeValue) (t : Tree) → elements (with_pair_appended n v t) ≡ elements t ++ element_bytes n v
elements-with_pair_appended n v no_pairs = elements-with_first n v no_pairs ∙ append-nil (element_bytes n v)
elements-with_pair_appended n v (leaf_pair m k leaf ps) =
    ap (λ (x : List ℕ). (byte_of k ∷ (cstring m ++ leaf_bytes (form_of k) leaf)) ++ x) (elements-with_pair_appended n v ps)
    ∙ sym (append_assoc (byte_of k ∷ (cstring m ++ leaf_bytes (form_of k) leaf)) (elements ps) (element_bytes n v))
elements-with_pair_appended n v (inner_pair m k b inner ps) =
    ap (λ (x : List ℕ). (byte_of k ∷ (cstring m ++ inner_bytes b (elements inner))) ++ x) (elements-with_pair_appended n v ps)
    ∙ sym (append_assoc (byte_of k ∷ (cstring m ++ inner_bytes b (elements inner))) (elements ps) (element_bytes n v))

fits-with_pair_appended : (depth : ℕ) (n : List ℕ) (v : TreeValue) (t : Tree) → Fits depth t → Fits depth (with_first n v no_pairs) → Fits depth (with_pair_appended n v t)
fits-with_pair_appended depth n v no_pairs f last = last
fits-with_pair_appended depth n v (leaf_pair m k leaf ps) f last = (f.0, f.1, fits-with_pair_appended depth n v ps f.2 last)
fits-with_pair_appended depth n v (inner_pair m k b inner ps) f last = (f.0, f.1, f.2, f.3, f.4, fits-with_pair_appended depth n v ps f.5 last)

-- ---- what fits is no reason of a refusal

free : (bytes : List ℕ) → HasNoZero bytes → has_zero bytes ≡ false
free [] h = refl
free (b ∷ bs) h = or_from (b == 0) (has_zero bs) (apart b h.0) (free bs h.1)
  where
    apart : (b : ℕ) → (b ≡ 0 → ⊥) → (b == 0) ≡ false
    apart b h = grind (arith, nat_tests)

leaf_writable : (form : Form) (v : Leaf) → IsOfForm form v → unwritable_leaf v ≡ None
leaf_writable (raw_form n) (raw_value bytes) f = refl
leaf_writable boolean_form (boolean_value b) f = refl
leaf_writable int32_form (number_value z) f = refl
leaf_writable int64_form (number_value z) f = refl
leaf_writable timestamp_form (timestamp_value increment seconds) f = refl
leaf_writable string_form (text_value words) f = refl
leaf_writable pointer_form (pointer_value words id) f = refl
leaf_writable binary_form (binary_value subtype bytes) f = refl
leaf_writable regex_form (regex_value pattern options) f =
    ap (λ (b : Bool). cond b (Some ZeroInName) None) (or_from (has_zero pattern) (has_zero options) (free pattern f.0.no_zero) (free options f.1.no_zero))
leaf_writable _ _ f = absurd f

pub writable : (depth : ℕ) (t : Tree) → Fits depth t → unwritable depth t ≡ None
writable depth no_pairs f = refl
writable depth (leaf_pair n k v ps) f =
    let named = free n f.0.no_zero in
    rw (named, leaf_writable (form_of k) v f.1) (writable depth ps f.2)
writable depth (inner_pair n k b inner ps) f =
    let named = free n f.0.no_zero in
    let deep = lt-ltb depth 200 f.2 in
    rw (named, deep, writable (depth + 1) inner f.4) (writable depth ps f.5)

-- so the reason is the last pair
unwritable-with_pair_appended : (depth : ℕ) (n : List ℕ) (v : TreeValue) (t : Tree) → Fits depth t → unwritable depth (with_pair_appended n v t) ≡ unwritable depth (with_first n v no_pairs)
unwritable-with_pair_appended depth n v no_pairs f = refl
unwritable-with_pair_appended depth n v (leaf_pair m k leaf ps) f =
    let named = free m f.0.no_zero in
    rw (named, leaf_writable (form_of k) leaf f.1) (unwritable-with_pair_appended depth n v ps f.2)
unwritable-with_pair_appended depth n v (inner_pair m k b inner ps) f =
    let named = free m f.0.no_zero in
    let deep = lt-ltb depth 200 f.2 in
    rw (named, deep, writable (depth + 1) inner f.4) (unwritable-with_pair_appended depth n v ps f.5)

-- ---- bytes

-- a document has its length and its last 00
pub least : (bytes : List ℕ) → ∥ IsSpelled bytes ∥₁ → 5 ≤ length bytes
least bytes spelled =
    let no : length bytes < 5 → ⊥ = λ lt. not_there spelled (λ s. omega (arith, lt, ap length s.1.parts, length-document (elements s.0))) in
    omega (arith, no)

-- the length and the elements
abbrev front : List ℕ → List ℕ
front es = little (length es + 5) ++ es

-- a byte in place of the last 00
over : (es bytes : List ℕ) (end byte : ℕ) → bytes ≡ document es → end + 1 ≡ length bytes → set bytes end byte ≡ front es ++ byte ∷ []
over es bytes end byte is last =
    let here : end ≡ length (front es) = omega (arith, last, ap length is, length-document es, length-append (little (length es + 5)) es) in
    ap (λ (x : List ℕ). set x end byte) (is ∙ sym (append_assoc (little (length es + 5)) es (0 ∷ [])))
    ∙ ap (λ (i : ℕ). set (front es ++ 0 ∷ []) i byte) here ∙ set-append_seam (front es) 0 [] byte

-- what a cut leaves where the bytes were kept
pub cut_is : (bytes after cut : List ℕ) (end byte : ℕ) → end + 1 ≡ length bytes → cut ≡ take (end + 1) after → StartsWith after (set bytes end byte) → cut ≡ set bytes end byte
cut_is bytes after cut end byte last at kept = at ∙ ap (λ (n : ℕ). take n after) (last ∙ sym (length-set bytes end byte)) ∙ kept

-- and 00 again, in place of that byte
restored_of : (es bytes after cut : List ℕ) (end byte : ℕ) → bytes ≡ document es → end + 1 ≡ length bytes → cut ≡ take (end + 1) after → StartsWith after (set bytes end byte) → set cut end 0 ≡ bytes
restored_of es bytes after cut end byte is last at kept =
    ap (λ (x : List ℕ). set x end 0) (cut_is bytes after cut end byte last at kept) ∙ set-set bytes end byte 0 ∙ over es bytes end 0 is last
    ∙ append_assoc (little (length es + 5)) es (0 ∷ []) ∙ sym is

pub restored : (bytes after cut : List ℕ) (end byte : ℕ) → ∥ IsSpelled bytes ∥₁ → end + 1 ≡ length bytes → cut ≡ take (end + 1) after → StartsWith after (set bytes end byte) → set cut end 0 ≡ bytes
restored bytes after cut end byte spelled last at kept =
    ∥∥₁_elim spelled (is_set ℕ_set _ _) (λ s. restored_of (elements s.0) bytes after cut end byte s.1.parts last at kept)

-- the elements with one more
pub elements_more : (t : Tree) (bytes : List ℕ) (end byte : ℕ) (n : List ℕ) (v : TreeValue) → bytes ≡ document (elements t) → end + 1 ≡ length bytes → byte ≡ byte_of (value_kind v)
    → drop 4 (set bytes end byte) ++ (cstring n ++ value_bytes v) ≡ elements (with_pair_appended n v t)
elements_more t bytes end byte n v is last kind =
    ap (λ (x : List ℕ). drop 4 x ++ (cstring n ++ value_bytes v)) (over (elements t) bytes end byte is last ∙ append_assoc (little (length (elements t) + 5)) (elements t) (byte ∷ []))
    ∙ ap (λ (x : List ℕ). x ++ (cstring n ++ value_bytes v)) (drop-append_seam (little (length (elements t) + 5)) (elements t ++ byte ∷ []))
    ∙ append_assoc (elements t) (byte ∷ []) (cstring n ++ value_bytes v) ∙ ap (λ (b : ℕ). elements t ++ (b ∷ (cstring n ++ value_bytes v))) kind ∙ sym (elements-with_pair_appended n v t)

-- ---- the three ends of the call

pub spells_more : (t : Tree) (bytes after more : List ℕ) (n : List ℕ) (v : TreeValue) → Spells t bytes → IsUtf8 n → has_zero n ≡ false → unwritable_value 1 v ≡ None → IsFormedValue v
    → more ≡ elements (with_pair_appended n v t) → after ≡ document more → length (document more) < 2 ^ 31 → Spells (with_pair_appended n v t) after
spells_more t bytes after more n v s text free writable formed is written short =
    let all = ap length (elements-with_pair_appended n v t) in
    let single : length (elements (with_first n v no_pairs)) < 2 ^ 31 = omega (arith, short, ap length is, all, length-document more, length-append (elements t) (element_bytes n v), ap length (elements-with_first n v no_pairs), length-append (element_bytes n v) []) in
    let last : Fits 1 (with_first n v no_pairs) = fits_formed 1 (with_first n v no_pairs) (passes 1 n v no_pairs free writable) (formed-with_first n v no_pairs text formed tt) single in
    record {
      parts = written ∙ ap document is;
      short = omega (arith, short, ap length written);
      fits = fits-with_pair_appended 1 n v t s.fits last;
    }

pub name_refused : (t : Tree) (bytes : List ℕ) (n : List ℕ) (v : TreeValue) → Spells t bytes → has_zero n ≡ true → IsUnwritable (with_pair_appended n v t) ZeroInName
name_refused t bytes n v s e = unwritable-with_pair_appended 1 n v t s.fits ∙ name_fails 1 n v no_pairs e

pub value_refused : (t : Tree) (bytes : List ℕ) (n : List ℕ) (v : TreeValue) (e : DocRefusal) → Spells t bytes → has_zero n ≡ false → unwritable_value 1 v ≡ Some e → IsUnwritable (with_pair_appended n v t) e
value_refused t bytes n v e s free is = is_reason (with_pair_appended n v t) e (unwritable-with_pair_appended 1 n v t s.fits ∙ value_fails 1 n v no_pairs e free is)

length-with_pair_appended : (t : Tree) (bytes : List ℕ) (n : List ℕ) (v : TreeValue) → Spells t bytes → length (document (elements (with_pair_appended n v t))) ≡ length bytes + length (element_bytes n v)
length-with_pair_appended t bytes n v s =
    omega (arith, ap length s.parts, length-document (elements t), length-document (elements (with_pair_appended n v t)), ap length (elements-with_pair_appended n v t), length-append (elements t) (element_bytes n v))

pub size_refused : (t : Tree) (bytes : List ℕ) (n : List ℕ) (v : TreeValue) (limit : ℕ) (e : DocRefusal) → limit + 1 ≡ 2 ^ 31 → Spells t bytes → has_zero n ≡ false → unwritable_value 1 v ≡ None
    → IsLengthRefusal limit (length bytes + length (element_bytes n v)) e → IsUnwritable (with_pair_appended n v t) e
size_refused t bytes n v limit (RepeatedName depth) counted s free writable r = absurd r
size_refused t bytes n v limit OutOfMemory counted s free writable r =
    (unwritable-with_pair_appended 1 n v t s.fits ∙ passes 1 n v no_pairs free writable, omega (arith, counted, r, length-with_pair_appended t bytes n v s))
size_refused t bytes n v limit TooLarge counted s free writable r =
    (unwritable-with_pair_appended 1 n v t s.fits ∙ passes 1 n v no_pairs free writable, omega (arith, counted, r, length-with_pair_appended t bytes n v s))
size_refused t bytes n v limit ZeroInName counted s free writable r = absurd r
size_refused t bytes n v limit Depth counted s free writable r = absurd r

-- ---- what is spelled can be written, so memory alone is wanting

pub only_memory : {T : Type 0} (r : Result T DocRefusal) (P : T → Type 0) (t : Tree) (bytes : List ℕ) → Spells t bytes → MatchResult r P (λ e. e ≡ OutOfMemory) → IfErr r (λ e. IsUnwritable t e)
only_memory (Ok x) P t bytes s h = tt
only_memory (Err e) P t bytes s h = rw h (writable 1 t s.fits, omega (arith, s.short, ap length s.parts))
