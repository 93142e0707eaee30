-- Documents are read of their canonical JSON: the pairs that a value holds, one after another.
use Rattle.std.proofs.Common.{◌≡◌, ℕ, suc, ◌+◌, ◌-◌, ◌*◌, ◌<◌, ◌≤◌, List, [], ◌∷◌, ◌++◌, length, max, map, Bool, true, false, cond, not, Option, Some, None, Ok, refl, sym, ap, ap₂, ◌∙◌, subst, arith, append_assoc, append-nil, codes, IsUtf8}
use Rattle.std.specs.Bool.{Decides}
use Rattle.std.specs.List.{AllByRecursion}
use Rattle.std.specs.Str.{bytes_eq}
use Rattle.std.proofs.lemmas.Bool.{or_parts}
use Rattle.std.proofs.lemmas.Str.{IsUtf8-append, IsUtf8-nil}
use Rattle.std.proofs.lemmas.Slice.Eq.{bytes_eq-Decides}
use Rattle.json.specs.Json as json
use Rattle.json.specs.Print.{escape_byte, quoted}
use Rattle.json.specs.Tree.{HasNumbers, ItemsHaveNumbers, MembersHaveNumbers, depth, items_depth, members_depth}
use Rattle.json.proofs.Printed.Utf8.{IsUtf8-are_ascii, IsUtf8-key, IsUtf8-quoted, are_ascii}
use Rattle.bson_elem.specs.declared.kinds.Kind.{Kind}
use Rattle.bson_elem.specs.declared.kinds.Kind.TheVariants as kinds
use Rattle.bson_elem.specs.Kinds.{form_of}
use Rattle.bson_elem.specs.Spelling.{Fits, IsName, StandsIn}
use Rattle.bson_elem.specs.Trees.{Beside, Leaf, Tree, inner_pair, leaf_pair, no_code, no_pairs, with_code}
use Rattle.bson_raw.specs.Naming.{is_array_kind, name_at}
use Rattle.bson_raw.specs.Pairs.{TreeValue, document_value, is_among, leaf_value, names_of}
use Rattle.bson_doc.specs.Array.{array_tree}
use Rattle.bson_doc.specs.Document.{pairs_of, tree_of, value_named}
use Rattle.bson_doc.specs.Plain.{plain_from}
use Rattle.bson_doc.specs.Repeats.{first_of, repeat_in}
use Rattle.bson_doc.specs.Unwritable.{has_zero}
use Rattle.bson_json.specs.declared.mode.Mode.TheVariants.{Canonical}
use Rattle.bson_json.specs.Json.{IsPairsJson, closing, comma, label, opening}
use Rattle.bson_json_read.specs.Forms.{first_form, form_in, form_named}
use Rattle.bson_json_read.specs.Lossless.{AreLossless, IsNoForm}
use Rattle.bson_json_read.specs.Reads.{Read, and_then, within}
use Rattle.bson_json_read.specs.Values.{Pair, items_read, name_refused, pair_read, pairs_read, value_read}
use Rattle.bson_json_read.proofs.Leaves.{LeafBack, leaf_told, no_zero}
use Rattle.bson_json_read.proofs.Printing.{items_text, json_text, members_text}
use Rattle.bson_json_read.proofs.Walking.{value_at}

-- ---- the pairs of a tree

abbrev pub values_of : Tree → List TreeValue
values_of no_pairs = []
values_of (leaf_pair name k v ps) = leaf_value k v ∷ values_of ps
values_of (inner_pair name k b inner ps) = document_value k b inner ∷ values_of ps

pub tree_back : (t : Tree) → tree_of (pairs_of t) ≡ t
tree_back no_pairs = refl
tree_back (leaf_pair name k v ps) = ap (leaf_pair name k v) (tree_back ps)
tree_back (inner_pair name k b inner ps) = ap (inner_pair name k b inner) (tree_back ps)

-- what canonical names say of the first pair and of the others
leaf_named : (in_array : Bool) (index : ℕ) (name : List ℕ) (k : Kind) (v : Leaf) (ps : Tree) → plain_from in_array index (leaf_pair name k v ps) ≡ leaf_pair name k v ps
    → (name_at in_array index name ≡ name) × (plain_from in_array (index + 1) ps ≡ ps)
leaf_named in_array index name k v ps e = (cc, cc)

inner_named : (in_array : Bool) (index : ℕ) (name : List ℕ) (k : Kind) (b : Beside) (inner ps : Tree) → plain_from in_array index (inner_pair name k b inner ps) ≡ inner_pair name k b inner ps
    → (name_at in_array index name ≡ name) × (plain_from (is_array_kind k) 0 inner ≡ inner) × (plain_from in_array (index + 1) ps ≡ ps)
inner_named in_array index name k b inner ps e = (cc, cc, cc)

array_back : (index : ℕ) (t : Tree) → plain_from true index t ≡ t → array_tree index (values_of t) ≡ t
array_back index no_pairs e = refl
array_back index (leaf_pair name k v ps) e =
    let n = leaf_named true index name k v ps e in
    ap₂ (λ (m : List ℕ) (qs : Tree). leaf_pair m k v qs) n.0 (array_back (index + 1) ps n.1)
array_back index (inner_pair name k b inner ps) e =
    let n = inner_named true index name k b inner ps e in
    ap₂ (λ (m : List ℕ) (qs : Tree). inner_pair m k b inner qs) n.0 (array_back (index + 1) ps n.2)

-- ---- names that are new

not_repeated : {A : Type 0} (b : Bool) (x : A) (o : Option A) → cond b (Some x) o ≡ None → (b ≡ false) × (o ≡ None)
not_repeated true x o e = cc e
not_repeated false x o e = (refl, e)

neither : (a b : Option ℕ) → first_of a b ≡ None → (a ≡ None) × (b ≡ None)
neither None b e = (refl, e)
neither (Some n) b e = cc e

turned : (a b : List ℕ) → bytes_eq a b ≡ bytes_eq b a
turned a b = same (bytes_eq a b) (bytes_eq b a) (bytes_eq-Decides a b) (bytes_eq-Decides b a)
  where
    same : (p q : Bool) → Decides p (a ≡ b) → Decides q (b ≡ a) → p ≡ q
    same true true d e = refl
    same true false d e = sym (e.1 (sym (d.0 refl)))
    same false true d e = d.1 (sym (e.0 refl))
    same false false d e = refl

abbrev names : List Pair → List (List ℕ)
names before = map (λ p. p.0) before

new_name : (name : List ℕ) (before : List Pair) → is_among name (names before) ≡ false → value_named name before ≡ None
new_name name [] e = refl
new_name name (p ∷ ps) e =
    let q = or_parts (bytes_eq p.0 name) (is_among name (names ps)) e in
    rw (turned name p.0 ∙ q.0) (new_name name ps q.1)

names_more : (before : List Pair) (p : Pair) → names (before ++ p ∷ []) ≡ names before ++ p.0 ∷ []
names_more [] p = refl
names_more (q ∷ before) p = ap (λ l. q.0 ∷ l) (names_more before p)

-- ---- what is printed and read

-- the JSON value whose text is this one, and of which this value is read
pub record ValueBack (room : ℕ) (v : TreeValue) (text : List ℕ) : Type 0 where
  pub value : json.Json
  pub printed : json_text value ≡ text
  pub numbers : HasNumbers value
  pub shallow : depth value ≤ 2 * room + 3
  pub read : value_read room value ≡ Ok v
  pub utf8 : IsUtf8 text

-- no name is that of a form
abbrev AreNoForm : List Pair → Type 0
AreNoForm [] = Unit {0}
AreNoForm (p ∷ ps) = (form_named p.0 ≡ None) × AreNoForm ps

-- the members whose text is this one, of which these pairs are read behind others with these names
pub record MembersBack (room : ℕ) (first : Bool) (seen : List (List ℕ)) (ps : List Pair) (text : List ℕ) : Type 0 where
  pub members : json.Members
  pub printed : members_text (not first) members ≡ text ++ 125 ∷ []
  pub numbers : MembersHaveNumbers members
  pub shallow : members_depth members ≤ 2 * room + 3
  pub read : (before : List Pair) → names before ≡ seen → pairs_read (value_read room) before members ≡ Ok (before ++ ps)
  pub form : AreNoForm ps → form_in members ≡ None
  pub utf8 : IsUtf8 text

-- the items whose text is this one, of which these values are read
pub record ItemsBack (room : ℕ) (first : Bool) (vs : List TreeValue) (text : List ℕ) : Type 0 where
  pub items : json.Items
  pub printed : items_text (not first) items ≡ text ++ 93 ∷ []
  pub numbers : ItemsHaveNumbers items
  pub shallow : items_depth items ≤ 2 * room + 3
  pub read : (before : List TreeValue) → items_read (value_read room) before items ≡ Ok (before ++ vs)
  pub utf8 : IsUtf8 text

-- no pairs
none_of : (room : ℕ) (first : Bool) (seen : List (List ℕ)) → MembersBack room first seen [] []
none_of room first seen = record { members = json.no_members; printed = none_printed first; numbers = tt; shallow = omega arith; read = λ before e. ap Ok (sym (append-nil before)); form = λ h. refl; utf8 = IsUtf8-nil }
  where
    none_printed : (c : Bool) → members_text (not c) json.no_members ≡ 125 ∷ []
    none_printed true = refl
    none_printed false = refl

no_items : (room : ℕ) (first : Bool) → ItemsBack room first [] []
no_items room first = record { items = json.no_items; printed = none_printed first; numbers = tt; shallow = omega arith; read = λ before. ap Ok (sym (append-nil before)); utf8 = IsUtf8-nil }
  where
    none_printed : (c : Bool) → items_text (not c) json.no_items ≡ 93 ∷ []
    none_printed true = refl
    none_printed false = refl

-- ---- a pair, and those after it

-- three parts and an end, which are joined in one way or in another
joined : (a b c e : List ℕ) → (a ++ (b ++ c)) ++ e ≡ a ++ (b ++ (c ++ e))
joined a b c e = append_assoc a (b ++ c) e ∙ ap (λ l. a ++ l) (append_assoc b c e)

-- a member before the others, and an item
member_before : (name : List ℕ) (j : json.Json) (ms : json.Members) (value others : List ℕ) → json_text j ≡ value → members_text true ms ≡ others ++ 125 ∷ []
    → (quoted name ++ codes ":") ++ (json_text j ++ members_text true ms) ≡ ((quoted name ++ codes ":") ++ (value ++ others)) ++ 125 ∷ []
member_before name j ms value others p q =
    ap₂ (λ (u v : List ℕ). (quoted name ++ codes ":") ++ (u ++ v)) p q ∙ sym (joined (quoted name ++ codes ":") value others (125 ∷ []))

member_first : (first : Bool) (name : List ℕ) (j : json.Json) (ms : json.Members) (value others : List ℕ) → json_text j ≡ value → members_text true ms ≡ others ++ 125 ∷ []
    → members_text (not first) (json.member name j ms) ≡ (comma first ++ ((quoted name ++ codes ":") ++ (value ++ others))) ++ 125 ∷ []
member_first true name j ms value others p q = member_before name j ms value others p q
member_first false name j ms value others p q = ap (λ l. 44 ∷ l) (member_before name j ms value others p q)

item_before : (j : json.Json) (js : json.Items) (value others : List ℕ) → json_text j ≡ value → items_text true js ≡ others ++ 93 ∷ [] → json_text j ++ items_text true js ≡ (value ++ others) ++ 93 ∷ []
item_before j js value others p q = ap₂ (λ (u v : List ℕ). u ++ v) p q ∙ sym (append_assoc value others (93 ∷ []))

item_first : (first : Bool) (j : json.Json) (js : json.Items) (value others : List ℕ) → json_text j ≡ value → items_text true js ≡ others ++ 93 ∷ []
    → items_text (not first) (json.item j js) ≡ (comma first ++ (value ++ others)) ++ 93 ∷ []
item_first true j js value others p q = item_before j js value others p q
item_first false j js value others p q = ap (λ l. 44 ∷ l) (item_before j js value others p q)

both_shallow : (a b n : ℕ) → a ≤ n → b ≤ n → max a b ≤ n
both_shallow a b n p q = omega arith

behind : {A : Type 0} (xs ys : List A) (x : A) → (xs ++ x ∷ []) ++ ys ≡ xs ++ x ∷ ys
behind xs ys x = append_assoc xs (x ∷ []) ys

-- a pair of a new name is read, and then the others
pair_then : (room : ℕ) (name : List ℕ) (j : json.Json) (ms : json.Members) (v : TreeValue) (before : List Pair) → name_refused name before ≡ None → value_read room j ≡ Ok v
    → pairs_read (value_read room) before (json.member name j ms) ≡ pairs_read (value_read room) (before ++ (name, v) ∷ []) ms
pair_then room name j ms v before n r =
    ap₂ (λ (o : Option _) (x : Read TreeValue). and_then (within (length before) (pair_read o x)) (λ u. pairs_read (value_read room) (before ++ (name, u) ∷ []) ms)) n r

item_then : (room : ℕ) (j : json.Json) (js : json.Items) (v : TreeValue) (before : List TreeValue) → value_read room j ≡ Ok v
    → items_read (value_read room) before (json.item j js) ≡ items_read (value_read room) (before ++ v ∷ []) js
item_then room j js v before r =
    ap (λ (x : Read TreeValue). and_then (within (length before) x) (λ u. items_read (value_read room) (before ++ u ∷ []) js)) r

accepted : (name : List ℕ) (before : List Pair) → has_zero name ≡ false → is_among name (names before) ≡ false → name_refused name before ≡ None
accepted name before z a = rw (z, new_name name before a) refl

comma_utf8 : (first : Bool) → IsUtf8 (comma first)
comma_utf8 true = IsUtf8-nil
comma_utf8 false = IsUtf8-are_ascii (codes ",") refl

-- what is between two brackets
pub bracketed : (a b : ℕ) (text : List ℕ) → are_ascii (a ∷ []) ≡ true → are_ascii (b ∷ []) ≡ true → IsUtf8 text → IsUtf8 (a ∷ (text ++ b ∷ []))
bracketed a b text e f u = IsUtf8-append (a ∷ []) (text ++ b ∷ []) (IsUtf8-are_ascii (a ∷ []) e) (IsUtf8-append text (b ∷ []) u (IsUtf8-are_ascii (b ∷ []) f))

member_more : (room : ℕ) (first : Bool) (seen : List (List ℕ)) (name : List ℕ) (v : TreeValue) (ps : List Pair) (value others : List ℕ)
    → IsName name → is_among name seen ≡ false → ValueBack room v value → MembersBack room false (seen ++ name ∷ []) ps others
    → MembersBack room first seen ((name, v) ∷ ps) (comma first ++ ((quoted name ++ codes ":") ++ (value ++ others)))
member_more room first seen name v ps value others is_name new x rest = record {
  members = json.member name x.value rest.members;
  printed = member_first first name x.value rest.members value others x.printed rest.printed;
  numbers = (x.numbers, rest.numbers);
  shallow = both_shallow (depth x.value) (members_depth rest.members) (2 * room + 3) x.shallow rest.shallow;
  read = λ before e.
      let ok = accepted name before (no_zero name is_name.no_zero) (ap (is_among name) e ∙ new) in
      pair_then room name x.value rest.members v before ok x.read
      ∙ rest.read (before ++ (name, v) ∷ []) (names_more before (name, v) ∙ ap (λ l. l ++ name ∷ []) e)
      ∙ ap Ok (behind before ps (name, v));
  form = λ h. ap₂ first_form h.0 (rest.form h.1);
  utf8 = IsUtf8-append (comma first) _ (comma_utf8 first) (IsUtf8-append (quoted name ++ codes ":") _ (IsUtf8-key name is_name.is_text) (IsUtf8-append value others x.utf8 rest.utf8));
}

item_more : (room : ℕ) (first : Bool) (v : TreeValue) (vs : List TreeValue) (value others : List ℕ) → ValueBack room v value → ItemsBack room false vs others
    → ItemsBack room first (v ∷ vs) (comma first ++ (value ++ others))
item_more room first v vs value others x rest = record {
  items = json.item x.value rest.items;
  printed = item_first first x.value rest.items value others x.printed rest.printed;
  numbers = (x.numbers, rest.numbers);
  shallow = both_shallow (depth x.value) (items_depth rest.items) (2 * room + 3) x.shallow rest.shallow;
  read = λ before. item_then room x.value rest.items v before x.read ∙ rest.read (before ++ v ∷ []) ∙ ap Ok (behind before vs v);
  utf8 = IsUtf8-append (comma first) _ (comma_utf8 first) (IsUtf8-append value others x.utf8 rest.utf8);
}

-- ---- values

of_leaf : (room : ℕ) (k : Kind) (v : Leaf) (text : List ℕ) → LeafBack k v text → ValueBack room (leaf_value k v) text
of_leaf room k v text x = record { value = x.value; printed = x.printed; numbers = x.numbers; shallow = omega (arith, x.shallow); read = x.read room; utf8 = x.utf8 }

formless : (t : Tree) → AllByRecursion (λ name. form_named name ≡ None) (names_of t) → AreNoForm (pairs_of t)
formless no_pairs h = tt
formless (leaf_pair name k v ps) h = (h.0, formless ps h.1)
formless (inner_pair name k b inner ps) h = (h.0, formless ps h.1)

-- what a document, an array and a scope read of what they hold
document_from : (room : ℕ) (inner : Tree) (inside : List ℕ) → IsNoForm kinds.Document inner → MembersBack room true [] (pairs_of inner) inside
    → ValueBack (suc room) (document_value kinds.Document no_code inner) (123 ∷ (inside ++ 125 ∷ []))
document_from room inner inside h x = record {
  value = json.object x.members;
  printed = ap (λ l. 123 ∷ l) x.printed;
  numbers = x.numbers;
  shallow = omega (arith, x.shallow);
  read = value_at (suc room) (json.object x.members) ∙ rw (x.form (formless inner h), x.read [] refl, tree_back inner) refl;
  utf8 = bracketed 123 125 inside refl refl x.utf8;
}

array_from : (room : ℕ) (inner : Tree) (inside : List ℕ) → plain_from true 0 inner ≡ inner → ItemsBack room true (values_of inner) inside
    → ValueBack (suc room) (document_value kinds.Array no_code inner) (91 ∷ (inside ++ 93 ∷ []))
array_from room inner inside e x = record {
  value = json.array x.items;
  printed = ap (λ l. 91 ∷ l) x.printed;
  numbers = x.numbers;
  shallow = omega (arith, x.shallow);
  read = value_at (suc room) (json.array x.items) ∙ rw (x.read [], array_back 0 inner e) refl;
  utf8 = bracketed 91 93 inside refl refl x.utf8;
}

abbrev scope_json : List ℕ → json.Members → json.Json
scope_json words ms = json.object (json.member (codes "$code") (json.string words) (json.member (codes "$scope") (json.object ms) json.no_members))

scope_from : (room : ℕ) (words : List ℕ) (inner : Tree) (inside : List ℕ) → IsUtf8 words → MembersBack room true [] (pairs_of inner) inside
    → ValueBack (suc room) (document_value kinds.CodeWithScope (with_code words) inner) ((codes "{\"$code\":" ++ (quoted words ++ codes ",\"$scope\":{")) ++ (inside ++ codes "}}"))
unfolding escape_byte
scope_from room words inner inside u x = record {
  value = scope_json words x.members;
  printed =
      ap (λ l. codes "{\"$code\":" ++ (quoted words ++ (codes ",\"$scope\":{" ++ l))) (ap (λ l. l ++ 125 ∷ []) x.printed ∙ append_assoc inside (125 ∷ []) (125 ∷ []))
      ∙ sym (joined (codes "{\"$code\":") (quoted words) (codes ",\"$scope\":{") (inside ++ codes "}}"));
  numbers = (tt, (x.numbers, tt));
  shallow = omega (arith, x.shallow);
  read = value_at (suc room) (scope_json words x.members) ∙ rw (x.read [] refl, tree_back inner) refl;
  utf8 = IsUtf8-append (codes "{\"$code\":" ++ (quoted words ++ codes ",\"$scope\":{")) (inside ++ codes "}}")
      (IsUtf8-append (codes "{\"$code\":") _ (IsUtf8-are_ascii (codes "{\"$code\":") refl) (IsUtf8-append (quoted words) _ (IsUtf8-quoted words u) (IsUtf8-are_ascii (codes ",\"$scope\":{") refl)))
      (IsUtf8-append inside (codes "}}") x.utf8 (IsUtf8-are_ascii (codes "}}") refl));
}

held_from : (room : ℕ) (k : Kind) (b : Beside) (inner : Tree) (inside : List ℕ) → StandsIn (form_of k) b → IsNoForm k inner → plain_from (is_array_kind k) 0 inner ≡ inner
    → (is_array_kind k ≡ false → MembersBack room true [] (pairs_of inner) inside) → (is_array_kind k ≡ true → ItemsBack room true (values_of inner) inside)
    → ValueBack (suc room) (document_value k b inner) (opening k b ++ (inside ++ closing k))
held_from room kinds.Document no_code inner inside h f e m i = document_from room inner inside f (m refl)
held_from room kinds.Array no_code inner inside h f e m i = array_from room inner inside e (i refl)
held_from room kinds.CodeWithScope (with_code words) inner inside h f e m i = scope_from room words inner inside h (m refl)
held_from room k b inner inside h f e m i = absurd h

-- ---- pairs

-- a name is before the value, but in an array
named_label : (holder : Kind) (name : List ℕ) → is_array_kind holder ≡ false → label holder name ≡ quoted name ++ codes ":"
named_label kinds.Array name e = cc e
named_label holder name e = refl

array_label : (holder : Kind) (name : List ℕ) → is_array_kind holder ≡ true → label holder name ≡ []
array_label kinds.Array name e = refl
array_label holder name e = cc e

-- the parts of a value that holds pairs, and those behind it
regrouped : (a b c d : List ℕ) → a ++ (b ++ (c ++ d)) ≡ (a ++ (b ++ c)) ++ d
regrouped a b c d = sym (append_assoc a (b ++ c) d ∙ ap (λ l. a ++ l) (append_assoc b c d))

held_at : (room depth : ℕ) (v : TreeValue) (text : List ℕ) → room + depth ≡ 200 → depth < 200 → ValueBack (suc (room - 1)) v text → ValueBack room v text
held_at room depth v text e lt x = let same : suc (room - 1) ≡ room = omega arith in subst (λ r. ValueBack r v text) same x

mutual
  pub members_back : (holder : Kind) (room depth scope index : ℕ) (seen : List (List ℕ)) (first : Bool) (t : Tree) (text : List ℕ) → is_array_kind holder ≡ false → room + depth ≡ 200 → Fits depth t
      → plain_from false index t ≡ t → repeat_in false scope seen t ≡ None → AreLossless t → IsPairsJson Canonical holder first t text → MembersBack room first seen (pairs_of t) text
  members_back holder room depth scope index seen first no_pairs text a e f p r l h = subst (MembersBack room first seen []) (sym h) (none_of room first seen)
  members_back holder room depth scope index seen first (leaf_pair name k v ps) text a e f p r l (value, others, leaf, rest, is) =
      let n = leaf_named false index name k v ps p in
      let new = not_repeated (is_among name seen) scope (repeat_in false scope (seen ++ name ∷ []) ps) r in
      let more = members_back holder room depth scope (index + 1) (seen ++ name ∷ []) false ps others a e f.2 n.1 new.1 l.1 rest in
      subst (MembersBack room first seen ((name, leaf_value k v) ∷ pairs_of ps)) (sym (is ∙ ap (λ x. comma first ++ (x ++ (value ++ others))) (named_label holder name a)))
      (member_more room first seen name (leaf_value k v) (pairs_of ps) value others f.0 new.0 (of_leaf room k v value (leaf_told k v value f.1 l.0 leaf)) more)
  members_back holder room depth scope index seen first (inner_pair name k b inner ps) text a e f p r l (inside, others, held, rest, is) =
      let n = inner_named false index name k b inner ps p in
      let new = not_repeated (is_among name seen) scope (first_of (repeat_in (is_array_kind k) (scope + 1) [] inner) (repeat_in false scope (seen ++ name ∷ []) ps)) r in
      let apart = neither (repeat_in (is_array_kind k) (scope + 1) [] inner) (repeat_in false scope (seen ++ name ∷ []) ps) new.1 in
      let more = members_back holder room depth scope (index + 1) (seen ++ name ∷ []) false ps others a e f.5 n.2 apart.1 l.2 rest in
      let value = opening k b ++ (inside ++ closing k) in
      let x = held_at room depth (document_value k b inner) value e f.2 (held_from (room - 1) k b inner inside f.1 l.0 n.1
      (λ m. members_back k (room - 1) (depth + 1) (scope + 1) 0 [] true inner inside m (omega (arith, f.2)) f.4 (subst (λ i. plain_from i 0 inner ≡ inner) m n.1) (subst (λ i. repeat_in i (scope + 1) [] inner ≡ None) m apart.0) l.1 held)
      (λ m. items_back k (room - 1) (depth + 1) (scope + 1) 0 true inner inside m (omega (arith, f.2)) f.4 (subst (λ i. plain_from i 0 inner ≡ inner) m n.1) (subst (λ i. repeat_in i (scope + 1) [] inner ≡ None) m apart.0) l.1 held)) in
      subst (MembersBack room first seen ((name, document_value k b inner) ∷ pairs_of ps))
      (sym (is ∙ ap₂ (λ (x y : List ℕ). comma first ++ (x ++ y)) (named_label holder name a) (regrouped (opening k b) inside (closing k) others)))
      (member_more room first seen name (document_value k b inner) (pairs_of ps) value others f.0 new.0 x more)

  items_back : (holder : Kind) (room depth scope index : ℕ) (first : Bool) (t : Tree) (text : List ℕ) → is_array_kind holder ≡ true → room + depth ≡ 200 → Fits depth t
      → plain_from true index t ≡ t → repeat_in true scope [] t ≡ None → AreLossless t → IsPairsJson Canonical holder first t text → ItemsBack room first (values_of t) text
  items_back holder room depth scope index first no_pairs text a e f p r l h = subst (ItemsBack room first []) (sym h) (no_items room first)
  items_back holder room depth scope index first (leaf_pair name k v ps) text a e f p r l (value, others, leaf, rest, is) =
      let n = leaf_named true index name k v ps p in
      let more = items_back holder room depth scope (index + 1) false ps others a e f.2 n.1 r l.1 rest in
      subst (ItemsBack room first (leaf_value k v ∷ values_of ps)) (sym (is ∙ ap (λ x. comma first ++ (x ++ (value ++ others))) (array_label holder name a)))
      (item_more room first (leaf_value k v) (values_of ps) value others (of_leaf room k v value (leaf_told k v value f.1 l.0 leaf)) more)
  items_back holder room depth scope index first (inner_pair name k b inner ps) text a e f p r l (inside, others, held, rest, is) =
      let n = inner_named true index name k b inner ps p in
      let apart = neither (repeat_in (is_array_kind k) (scope + 1) [] inner) (repeat_in true scope [] ps) r in
      let more = items_back holder room depth scope (index + 1) false ps others a e f.5 n.2 apart.1 l.2 rest in
      let value = opening k b ++ (inside ++ closing k) in
      let x = held_at room depth (document_value k b inner) value e f.2 (held_from (room - 1) k b inner inside f.1 l.0 n.1
      (λ m. members_back k (room - 1) (depth + 1) (scope + 1) 0 [] true inner inside m (omega (arith, f.2)) f.4 (subst (λ i. plain_from i 0 inner ≡ inner) m n.1) (subst (λ i. repeat_in i (scope + 1) [] inner ≡ None) m apart.0) l.1 held)
      (λ m. items_back k (room - 1) (depth + 1) (scope + 1) 0 true inner inside m (omega (arith, f.2)) f.4 (subst (λ i. plain_from i 0 inner ≡ inner) m n.1) (subst (λ i. repeat_in i (scope + 1) [] inner ≡ None) m apart.0) l.1 held)) in
      subst (ItemsBack room first (document_value k b inner ∷ values_of ps))
      (sym (is ∙ ap₂ (λ (x y : List ℕ). comma first ++ (x ++ y)) (array_label holder name a) (regrouped (opening k b) inside (closing k) others)))
      (item_more room first (document_value k b inner) (values_of ps) value others x more)
