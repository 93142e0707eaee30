-- A document that is read out of its tree, one pair after another.
use Rattle.std.proofs.Common.{◌≡◌, ℕ, suc, ◌+◌, Bool, true, false, cond, List, [], ◌∷◌, ◌++◌, Option, Some, None, length, refl, sym, ap, ◌∙◌, arith, add-zero, zero-add, length-append}
use Rattle.std.specs.Fmt.{decimal}
use Rattle.bson_elem.specs.Trees.{Tree, no_pairs}
use Rattle.bson_raw.specs.Pairs.{TreeValue, leaf_value, document_value, with_first, is_among}
use Rattle.bson_doc.specs.declared.refusal.DocRefusal.{DocRefusal}
use Rattle.bson_doc.specs.declared.refusal.DocRefusal.TheVariants.{RepeatedName, OutOfMemory, TooLarge, ZeroInName, Depth}
use Rattle.bson_doc.specs.Array.{array_tree}
use Rattle.bson_doc.specs.Document.{tree_of, paired}
use Rattle.bson_raw.specs.Naming.{name_at}
use Rattle.bson_doc.specs.Plain.{plain_from}
use Rattle.bson_doc.specs.Repeats.{first_of, seen_with, repeat_in, repeat_in_value, IsRepeat}
use Rattle.bson_doc.specs.Values.{plain_value}

-- ---- pairs and values before other pairs

abbrev pub tree_then : List (List ℕ × TreeValue) → Tree → Tree
tree_then [] t = t
tree_then (p ∷ ps) t = with_first p.0 p.1 (tree_then ps t)

abbrev pub array_then : ℕ → List TreeValue → Tree → Tree
array_then index [] t = t
array_then index (v ∷ vs) t = with_first (decimal index) v (array_then (index + 1) vs t)

tree_then-none : (ps : List (List ℕ × TreeValue)) → tree_then ps no_pairs ≡ tree_of ps
tree_then-none [] = refl
tree_then-none (p ∷ ps) = ap (with_first p.0 p.1) (tree_then-none ps)

array_then-none : (index : ℕ) (vs : List TreeValue) → array_then index vs no_pairs ≡ array_tree index vs
array_then-none index [] = refl
array_then-none index (v ∷ vs) = ap (with_first (decimal index) v) (array_then-none (index + 1) vs)

pub paired-push : (ns : List (List ℕ)) (vs : List TreeValue) (n : List ℕ) (v : TreeValue) → length ns ≡ length vs → paired (ns ++ n ∷ []) (vs ++ v ∷ []) ≡ paired ns vs ++ (n, v) ∷ []
paired-push [] [] n v e = refl
paired-push [] (w ∷ vs) n v e = absurd (omega arith)
paired-push (m ∷ ns) [] n v e = absurd (omega arith)
paired-push (m ∷ ns) (w ∷ vs) n v e = ap (λ (q : List (List ℕ × TreeValue)). (m, w) ∷ q) (paired-push ns vs n v (omega arith))

tree_then-push : (ps : List (List ℕ × TreeValue)) (n : List ℕ) (v : TreeValue) (t : Tree) → tree_then (ps ++ (n, v) ∷ []) t ≡ tree_then ps (with_first n v t)
tree_then-push [] n v t = refl
tree_then-push (p ∷ ps) n v t = ap (with_first p.0 p.1) (tree_then-push ps n v t)

array_then-push : (index : ℕ) (vs : List TreeValue) (v : TreeValue) (t : Tree) → array_then index (vs ++ v ∷ []) t ≡ array_then index vs (with_first (decimal (index + length vs)) v t)
array_then-push index [] v t = rw add-zero refl
array_then-push index (w ∷ vs) v t =
    let shift : index + 1 + length vs ≡ index + suc (length vs) = omega arith in
    ap (with_first (decimal index) w) (array_then-push (index + 1) vs v t ∙ ap (λ (n : ℕ). array_then (index + 1) vs (with_first (decimal n) v t)) shift)

-- ---- the first pair

pub plain_from-with_first : (in_array : Bool) (index : ℕ) (n : List ℕ) (v : TreeValue) (ps : Tree) → plain_from in_array index (with_first n v ps) ≡ with_first (name_at in_array index n) (plain_value v) (plain_from in_array (index + 1) ps)
plain_from-with_first in_array index n (leaf_value k leaf) ps = refl
plain_from-with_first in_array index n (document_value k b inner) ps = refl

pub repeat_in-with_first : (in_array : Bool) (depth : ℕ) (seen : List (List ℕ)) (n : List ℕ) (v : TreeValue) (ps : Tree) → repeat_in in_array depth seen (with_first n v ps) ≡ cond (is_among n seen) (Some depth) (first_of (repeat_in_value depth v) (repeat_in in_array depth (seen_with in_array n seen) ps))
repeat_in-with_first in_array depth seen n (leaf_value k leaf) ps = refl
repeat_in-with_first in_array depth seen n (document_value k b inner) ps = refl

-- ---- what was read so far

-- The pairs that were read are those of the tree but for the pairs left, and no name was repeated in them.
pub record DocumentRead (depth : ℕ) (t : Tree) (names : List (List ℕ)) (values : List TreeValue) (IsLeft : Tree → Type 0) : Type 0 where
  pub rest : Tree
  pub index : ℕ
  pub left : IsLeft rest
  pub read : plain_from false 0 t ≡ tree_then (paired names values) (plain_from false index rest)
  pub unique : repeat_in false depth [] t ≡ repeat_in false depth names rest

-- The values that were read are those of the array but for the values left, and no name is repeated in them.
pub record ArrayRead (depth : ℕ) (t : Tree) (values : List TreeValue) (IsLeft : Tree → Type 0) : Type 0 where
  pub rest : Tree
  pub left : IsLeft rest
  pub read : plain_from true 0 t ≡ array_then 0 values (plain_from true (length values) rest)
  pub unique : repeat_in true depth [] t ≡ repeat_in true depth [] rest

-- one more pair of a document
pub document_more : (depth : ℕ) (t : Tree) (ns : List (List ℕ)) (vs : List TreeValue) (L M : Tree → Type 0) (d : DocumentRead depth t ns vs L) (n : List ℕ) (v w : TreeValue) (others : Tree)
    → length ns ≡ length vs → d.rest ≡ with_first n v others → M others → is_among n ns ≡ false → repeat_in_value depth v ≡ None → w ≡ plain_value v
    → DocumentRead depth t (ns ++ n ∷ []) (vs ++ w ∷ []) M
document_more depth t ns vs L M d n v w others lengths first left new none is = record {
  rest = others;
  index = d.index + 1;
  left = left;
  read = rw (paired-push ns vs n w lengths, tree_then-push (paired ns vs) n w (plain_from false (d.index + 1) others), is)
      (d.read ∙ ap (λ (q : Tree). tree_then (paired ns vs) (plain_from false d.index q)) first ∙ ap (tree_then (paired ns vs)) (plain_from-with_first false d.index n v others));
  unique = d.unique ∙ ap (repeat_in false depth ns) first ∙ repeat_in-with_first false depth ns n v others ∙ rw (new, none) refl;
}

-- one more value of an array
pub array_more : (depth : ℕ) (t : Tree) (vs : List TreeValue) (L M : Tree → Type 0) (d : ArrayRead depth t vs L) (n : List ℕ) (v w : TreeValue) (others : Tree)
    → d.rest ≡ with_first n v others → M others → repeat_in_value depth v ≡ None → w ≡ plain_value v
    → ArrayRead depth t (vs ++ w ∷ []) M
array_more depth t vs L M d n v w others first left none is = record {
  rest = others;
  left = left;
  read = rw (length-append vs (w ∷ []), array_then-push 0 vs w (plain_from true (length vs + 1) others), is, zero-add (length vs))
      (d.read ∙ ap (λ (q : Tree). array_then 0 vs (plain_from true (length vs) q)) first ∙ ap (array_then 0 vs) (plain_from-with_first true (length vs) n v others));
  unique = d.unique ∙ ap (repeat_in true depth []) first ∙ repeat_in-with_first true depth [] n v others ∙ rw none refl;
}

-- ---- the end

pub document_done : (depth : ℕ) (t : Tree) (ns : List (List ℕ)) (vs : List TreeValue) (L : Tree → Type 0) (d : DocumentRead depth t ns vs L) → d.rest ≡ no_pairs
    → (tree_of (paired ns vs) ≡ plain_from false 0 t) × (repeat_in false depth [] t ≡ None)
document_done depth t ns vs L d e = (
  sym (d.read ∙ ap (λ (q : Tree). tree_then (paired ns vs) (plain_from false d.index q)) e ∙ tree_then-none (paired ns vs)),
  d.unique ∙ ap (repeat_in false depth ns) e,
)

pub array_done : (depth : ℕ) (t : Tree) (vs : List TreeValue) (L : Tree → Type 0) (d : ArrayRead depth t vs L) → d.rest ≡ no_pairs
    → (array_tree 0 vs ≡ plain_from true 0 t) × (repeat_in true depth [] t ≡ None)
array_done depth t vs L d e = (
  sym (d.read ∙ ap (λ (q : Tree). array_then 0 vs (plain_from true (length vs) q)) e ∙ array_then-none 0 vs),
  d.unique ∙ ap (repeat_in true depth []) e,
)

-- a refusal of the first value left is one of the whole
inner_repeat : (all inner after : Option ℕ) (e : DocRefusal) → all ≡ first_of inner after → IsRepeat inner e → IsRepeat all e
inner_repeat all inner after (RepeatedName depth) is r = is ∙ ap (λ (q : Option ℕ). first_of q after) r
inner_repeat all inner after OutOfMemory is r = tt
inner_repeat all inner after TooLarge is r = r
inner_repeat all inner after ZeroInName is r = r
inner_repeat all inner after Depth is r = r

pub document_value_refused : (depth : ℕ) (t : Tree) (ns : List (List ℕ)) (vs : List TreeValue) (L : Tree → Type 0) (d : DocumentRead depth t ns vs L) (n : List ℕ) (v : TreeValue) (others : Tree) (e : DocRefusal)
    → d.rest ≡ with_first n v others → is_among n ns ≡ false → IsRepeat (repeat_in_value depth v) e → IsRepeat (repeat_in false depth [] t) e
document_value_refused depth t ns vs L d n v others e first new r =
    inner_repeat _ (repeat_in_value depth v) (repeat_in false depth (seen_with false n ns) others) e
    (d.unique ∙ ap (repeat_in false depth ns) first ∙ repeat_in-with_first false depth ns n v others ∙ rw new refl) r

pub document_name_refused : (depth : ℕ) (t : Tree) (ns : List (List ℕ)) (vs : List TreeValue) (L : Tree → Type 0) (d : DocumentRead depth t ns vs L) (n : List ℕ) (v : TreeValue) (others : Tree)
    → d.rest ≡ with_first n v others → is_among n ns ≡ true → repeat_in false depth [] t ≡ Some depth
document_name_refused depth t ns vs L d n v others first old =
    d.unique ∙ ap (repeat_in false depth ns) first ∙ repeat_in-with_first false depth ns n v others ∙ rw old refl
