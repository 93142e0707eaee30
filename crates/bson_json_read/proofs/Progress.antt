-- What is read of tokens and written so far: the pairs of a document and the values of an array. Nothing is
-- known of the tokens behind.
use Rattle.std.proofs.Common.{◌≡◌, ◌∙◌, ◌+◌, ◌-◌, ◌<◌, ℕ, suc, List, [], ◌∷◌, ◌++◌, length, take, drop, true, false, cond, Some, None, Ok, refl, sym, ap, subst, arith, append_assoc, append-nil, ◌≤◌, decimal}
use Rattle.std.specs.Bool.{Decides}
use Rattle.std.specs.Fmt.{decimal}
use Rattle.std.specs.Str.{bytes_eq}
use Rattle.std.proofs.Math.Seq.{drop-append-add, take-append_seam}
use Rattle.std.proofs.lemmas.List.{length-append}
use Rattle.std.proofs.lemmas.Slice.Eq.{bytes_eq-Decides}
use Rattle.json.specs.Json.{Json, Items, item, Members, member, no_items, no_members}
use Rattle.json.specs.Token.{Token}
use Rattle.json.specs.Tree.{items_tokens, json_tokens, members_tokens, items_depth, members_depth}
use Rattle.bson_elem.specs.Spelling.{document, elements}
use Rattle.bson_elem.specs.Trees.{Tree, no_pairs}
use Rattle.bson_raw.specs.Pairs.{TreeValue, document_value, leaf_value, with_first}
use Rattle.bson_doc.specs.Array.{array_tree}
use Rattle.bson_doc.specs.Document.{tree_of, value_named}
use Rattle.bson_doc.specs.Unwritable.{has_zero}
use Rattle.bson_doc.specs.Values.{element_bytes}
use Rattle.bson_json_read.specs.Forms.{form_in, form_named}
use Rattle.bson_json_read.specs.Seen.{Has, IsSeen, Keeps, code_of}
use Rattle.bson_json_read.specs.Values.{Pair, items_read, name_refused, pairs_read, value_read}
use Rattle.bson_json_read.proofs.Codes.{some_code}
use Rattle.bson_json_read.proofs.Walking.{array_at, document_at}
use Rattle.bson_json_read.specs.Direct.{ReadsItems, ReadsMembers, ReadsValue}

-- ---- names that were seen

-- the code of the name of each of these pairs stands in the table
abbrev pub AreIn : List ℕ → ℕ → List Pair → Type 0
AreIn places offset [] = Unit {0}
AreIn places offset (p ∷ ps) = Has places (code_of offset p.0) × AreIn places offset ps

stay_in : (offset : ℕ) (old new : List ℕ) (ps : List Pair) → Keeps old new → AreIn old offset ps → AreIn new offset ps
stay_in offset old new [] kept are = tt
stay_in offset old new (p ∷ ps) kept are = (kept (code_of offset p.0) (some_code offset p.0) are.0, stay_in offset old new ps kept are.1)

one_more : (places : List ℕ) (offset : ℕ) (ps : List Pair) (name : List ℕ) (v : TreeValue) → AreIn places offset ps → Has places (code_of offset name) → AreIn places offset (ps ++ (name, v) ∷ [])
one_more places offset [] name v are there = (there, tt)
one_more places offset (p ∷ ps) name v are there = (are.0, one_more places offset ps name v are.1 there)

-- a name whose code isn't there is none of those names
is_new : (places : List ℕ) (offset : ℕ) (ps : List Pair) (name : List ℕ) → AreIn places offset ps → (Has places (code_of offset name) → ⊥) → value_named name ps ≡ None
is_new places offset [] name are absent = refl
is_new places offset (p ∷ ps) name are absent =
    (elim (bytes_eq name p.0) as (λ t. Decides t (name ≡ p.0) → cond t (Some p.1) (value_named name ps) ≡ None) [
      | true ↦ λ d. absurd (absent (subst (λ (n : List ℕ). Has places (code_of offset n)) (sym (d.0 refl)) are.0))
      | false ↦ λ _. is_new places offset ps name are.1 absent
    ]) (bytes_eq-Decides name p.0)

-- ---- one pair and one value more

with_first_elements : (n : List ℕ) (v : TreeValue) (ps : Tree) → elements (with_first n v ps) ≡ element_bytes n v ++ elements ps
with_first_elements n (leaf_value k leaf) ps = refl
with_first_elements n (document_value k b inner) ps = refl

alone : (n : List ℕ) (v : TreeValue) → elements (with_first n v no_pairs) ≡ element_bytes n v
alone n v = with_first_elements n v no_pairs ∙ append-nil (element_bytes n v)

pair_more : (before : List Pair) (n : List ℕ) (v : TreeValue) → elements (tree_of (before ++ (n, v) ∷ [])) ≡ elements (tree_of before) ++ element_bytes n v
pair_more [] n v = alone n v
pair_more (p ∷ ps) n v =
    with_first_elements p.0 p.1 (tree_of (ps ++ (n, v) ∷ [])) ∙ ap (λ (l : List ℕ). element_bytes p.0 p.1 ++ l) (pair_more ps n v)
    ∙ sym (append_assoc (element_bytes p.0 p.1) (elements (tree_of ps)) (element_bytes n v)) ∙ ap (λ (l : List ℕ). l ++ element_bytes n v) (sym (with_first_elements p.0 p.1 (tree_of ps)))

item_more : (i : ℕ) (before : List TreeValue) (v : TreeValue) → elements (array_tree i (before ++ v ∷ [])) ≡ elements (array_tree i before) ++ element_bytes (decimal (i + length before)) v
item_more i [] v = let e : i ≡ i + 0 = omega arith in alone (decimal i) v ∙ ap (λ (k : ℕ). element_bytes (decimal k) v) e
item_more i (w ∷ ws) v =
    let e : i + 1 + length ws ≡ i + suc (length ws) = omega arith in
    with_first_elements (decimal i) w (array_tree (i + 1) (ws ++ v ∷ [])) ∙ ap (λ (l : List ℕ). element_bytes (decimal i) w ++ l) (item_more (i + 1) ws v)
    ∙ sym (append_assoc (element_bytes (decimal i) w) (elements (array_tree (i + 1) ws)) (element_bytes (decimal (i + 1 + length ws)) v))
    ∙ ap (λ (l : List ℕ). l ++ element_bytes (decimal (i + 1 + length ws)) v) (sym (with_first_elements (decimal i) w (array_tree (i + 1) ws)))
    ∙ ap (λ (k : ℕ). elements (array_tree i (w ∷ ws)) ++ element_bytes (decimal k) v) e

-- four bytes for the length, and these elements
abbrev pub begun : List ℕ → List ℕ → List ℕ
begun old parts = old ++ (0 ∷ 0 ∷ 0 ∷ 0 ∷ parts)

begun_more : (old parts part out new : List ℕ) → out ≡ begun old parts → new ≡ out ++ part → new ≡ begun old (parts ++ part)
begun_more old parts part out new is more = more ∙ ap (λ (l : List ℕ). l ++ part) is ∙ append_assoc old (0 ∷ 0 ∷ 0 ∷ 0 ∷ parts) part

-- the length is put into its place
finished : (start : ℕ) (old parts out new : List ℕ) → start ≡ length old → out ≡ begun old parts → new ≡ take start out ++ document (drop (start + 4) out) → new ≡ old ++ document parts
finished start old parts out new at is end =
    let front : take start out ≡ old = ap (λ (n : ℕ). take n out) at ∙ ap (take (length old)) is ∙ take-append_seam old (0 ∷ 0 ∷ 0 ∷ 0 ∷ parts) in
    let back : drop (start + 4) out ≡ parts = ap (λ (n : ℕ). drop (n + 4) out) at ∙ ap (drop (length old + 4)) is ∙ drop-append-add old (0 ∷ 0 ∷ 0 ∷ 0 ∷ parts) 4 in
    end ∙ ap (λ (l : List ℕ). l ++ document (drop (start + 4) out)) front ∙ ap (λ (l : List ℕ). old ++ document l) back

-- ---- the members of a document

name_good : (name : List ℕ) (before : List Pair) → has_zero name ≡ false → value_named name before ≡ None → name_refused name before ≡ None
name_good name before free none = rw (free, none) refl

pair_is_read : (room : ℕ) (name : List ℕ) (j : Json) (rest : Members) (before : List Pair) (v : TreeValue) → name_refused name before ≡ None → value_read room j ≡ Ok v
    → pairs_read (value_read room) before (member name j rest) ≡ pairs_read (value_read room) (before ++ (name, v) ∷ []) rest
pair_is_read room name j rest before v good is = rw (good, is) refl

no_form : (name : List ℕ) (j : Json) (rest : Members) → form_named name ≡ None → form_in (member name j rest) ≡ form_in rest
no_form name j rest none = rw none refl

-- these pairs were read of an object's members, and of the others are read behind them
pub record AllMembers (room : ℕ) (before : List Pair) (rest : Members) (tokens behind : List Token) : Type 0 where
  pub members : Members
  pub begins : tokens ≡ members_tokens members ++ behind
  pub deep : members_depth members ≤ room + 2
  pub read : pairs_read (value_read room) [] members ≡ pairs_read (value_read room) before rest
  pub forms : form_in members ≡ form_in rest

-- these pairs were appended; whatever members are next, all are those of an object
pub record MembersSoFar (room offset : ℕ) (tokens left : List Token) (places old out : List ℕ) : Type 0 where
  pub before : List Pair
  pub are_in : AreIn places offset before
  pub bytes : out ≡ begun old (elements (tree_of before))
  pub all : (rest : Members) (behind : List Token) → left ≡ members_tokens rest ++ behind → members_depth rest ≤ room + 2 → AllMembers room before rest tokens behind

pub members_start : (room offset : ℕ) (tokens : List Token) (places old out : List ℕ) → out ≡ old ++ (0 ∷ 0 ∷ 0 ∷ 0 ∷ []) → MembersSoFar room offset tokens tokens places old out
members_start room offset tokens places old out begins = record {
  before = [];
  are_in = tt;
  bytes = begins;
  all = λ rest behind is deep. record { members = rest; begins = is; deep = deep; read = refl; forms = refl };
}

pub members_grow : (room offset : ℕ) (tokens left inside after : List Token) (was now old out new name : List ℕ) → MembersSoFar room offset tokens left was old out → left ≡ Token.key name ∷ inside
    → has_zero name ≡ false → form_named name ≡ None → ReadsValue room name inside after out new → IsSeen was now (code_of offset name) → MembersSoFar room offset tokens after now old new
members_grow room offset tokens left inside after was now old out new name m is free none v seen = record {
  before = m.before ++ (name, v.put.value) ∷ [];
  are_in = one_more now offset m.before name v.put.value (stay_in offset was now m.before seen.kept m.are_in) seen.there;
  bytes = begun_more old (elements (tree_of m.before)) (element_bytes name v.put.value) out new m.bytes v.put.bytes ∙ ap (begun old) (sym (pair_more m.before name v.put.value));
  all = λ rest behind left_is deep.
      let ms = member name v.json rest in
      let here : left ≡ members_tokens ms ++ behind =
      is ∙ ap (λ (l : List Token). Token.key name ∷ l) (v.begins ∙ ap (λ (l : List Token). json_tokens v.json ++ l) left_is ∙ sym (append_assoc (json_tokens v.json) (members_tokens rest) behind)) in
      let w = m.all ms behind here (omega (arith, v.deep, deep)) in
      record {
        members = w.members;
        begins = w.begins;
        deep = w.deep;
        read = w.read ∙ pair_is_read room name v.json rest m.before v.put.value (name_good name m.before free (is_new was offset m.before name m.are_in seen.absent)) v.put.is_read;
        forms = w.forms ∙ no_form name v.json rest none;
      };
}

pub members_end : (room offset : ℕ) (tokens left behind : List Token) (start : ℕ) (places old out new : List ℕ) → 0 < room → MembersSoFar (room - 1) offset tokens left places old out
    → left ≡ Token.end_object ∷ behind → start ≡ length old → new ≡ take start out ++ document (drop (start + 4) out) → ReadsMembers room tokens behind old new
members_end room offset tokens left behind start places old out new some m is at end =
    let w = m.all no_members behind is (omega arith) in
    record {
      members = w.members;
      begins = w.begins;
      deep = omega (arith, w.deep);
      formless = w.forms;
      put = record {
        pairs = m.before;
        is_read = document_at room w.members some ∙ w.read;
        bytes = finished start old (elements (tree_of m.before)) out new at m.bytes end;
      };
    }

-- ---- the items of an array

item_is_read : (room : ℕ) (j : Json) (rest : Items) (before : List TreeValue) (v : TreeValue) → value_read room j ≡ Ok v
    → items_read (value_read room) before (item j rest) ≡ items_read (value_read room) (before ++ v ∷ []) rest
item_is_read room j rest before v is = rw is refl

pub record AllItems (room : ℕ) (before : List TreeValue) (rest : Items) (tokens behind : List Token) : Type 0 where
  pub items : Items
  pub begins : tokens ≡ items_tokens items ++ behind
  pub deep : items_depth items ≤ room + 2
  pub read : items_read (value_read room) [] items ≡ items_read (value_read room) before rest

pub record ItemsSoFar (room : ℕ) (tokens left : List Token) (index : ℕ) (old out : List ℕ) : Type 0 where
  pub before : List TreeValue
  pub count : length before ≡ index
  pub bytes : out ≡ begun old (elements (array_tree 0 before))
  pub all : (rest : Items) (behind : List Token) → left ≡ items_tokens rest ++ behind → items_depth rest ≤ room + 2 → AllItems room before rest tokens behind

pub items_start : (room : ℕ) (tokens : List Token) (old out : List ℕ) → out ≡ old ++ (0 ∷ 0 ∷ 0 ∷ 0 ∷ []) → ItemsSoFar room tokens tokens 0 old out
items_start room tokens old out begins = record {
  before = [];
  count = refl;
  bytes = begins;
  all = λ rest behind is deep. record { items = rest; begins = is; deep = deep; read = refl };
}

pub items_grow : (room : ℕ) (tokens left after : List Token) (index : ℕ) (old out new : List ℕ) → ItemsSoFar room tokens left index old out → ReadsValue room (decimal index) left after out new
    → ItemsSoFar room tokens after (index + 1) old new
items_grow room tokens left after index old out new m v =
    let value = v.put.value in
    let count : index ≡ 0 + length m.before = omega (arith, m.count) in
    record {
      before = m.before ++ value ∷ [];
      count = omega (arith, m.count, length-append m.before (value ∷ []));
      bytes =
          begun_more old (elements (array_tree 0 m.before)) (element_bytes (decimal index) value) out new m.bytes v.put.bytes
          ∙ ap (λ (k : ℕ). begun old (elements (array_tree 0 m.before) ++ element_bytes (decimal k) value)) count ∙ ap (begun old) (sym (item_more 0 m.before value));
      all = λ rest behind left_is deep.
          let js = item v.json rest in
          let here : left ≡ items_tokens js ++ behind = v.begins ∙ ap (λ (l : List Token). json_tokens v.json ++ l) left_is ∙ sym (append_assoc (json_tokens v.json) (items_tokens rest) behind) in
          let w = m.all js behind here (omega (arith, v.deep, deep)) in
          record { items = w.items; begins = w.begins; deep = w.deep; read = w.read ∙ item_is_read room v.json rest m.before value v.put.is_read };
    }

pub items_end : (room : ℕ) (tokens left behind : List Token) (index start : ℕ) (old out new : List ℕ) → 0 < room → ItemsSoFar (room - 1) tokens left index old out → left ≡ Token.end_array ∷ behind
    → start ≡ length old → new ≡ take start out ++ document (drop (start + 4) out) → ReadsItems room tokens behind old new
items_end room tokens left behind index start old out new some m is at end =
    let w = m.all no_items behind is (omega arith) in
    record {
      items = w.items;
      begins = w.begins;
      deep = omega (arith, w.deep);
      put = record {
        values = m.before;
        is_read = array_at room w.items some ∙ w.read;
        bytes = finished start old (elements (array_tree 0 m.before)) out new at m.bytes end;
      };
    }
