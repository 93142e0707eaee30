-- The fields that a projection keeps, one field after another.
use Rattle.std.proofs.Common.{◌≡◌, ℕ, Bool, true, false, List, [], ◌∷◌, ◌++◌, Option, Some, None, length, map, refl, sym, ap, ◌∙◌, arith}
use Rattle.std.specs.Prelude.{⊤, if◌then◌else◌}
use Rattle.std.specs.List.{AllByRecursion, IsDistinct}
use Rattle.std.specs.Option.{option_or}
use Rattle.std.specs.Str.{bytes_eq}
use Rattle.std.proofs.lemmas.List.{append-nil, append_assoc}
use Rattle.std.proofs.lemmas.Map.Keys.{IsDistinct-head, IsDistinct-tail}
use Rattle.bson_elem.specs.declared.kinds.Kind.TheVariants as kinds
use Rattle.bson_elem.specs.{Tree, inner_pair, leaf_pair, no_pairs}
use Rattle.bson_raw.specs.{TreeValue, document_value, leaf_value, with_first}
use Rattle.bson_doc.specs.Document.{put, tree_of, value_named}
use Rattle.doc_stages.specs.Projection.{includes, includes_from, is_id, keeps, kept, named_fault, projected, projection_fault}
use Rattle.doc_query.proofs.Lemmas.{turned}

pub includes_from-with_first : (by_id : Bool) (name : List ℕ) (v : TreeValue) (others : Tree) → includes_from by_id (with_first name v others) ≡ (if is_id name then includes_from (includes v) others else includes v)
includes_from-with_first by_id name (leaf_value k v) others = refl
includes_from-with_first by_id name (document_value k b t) others = refl

pub projection_fault-with_first : (inclusion : Bool) (name : List ℕ) (v : TreeValue) (others : Tree) → projection_fault inclusion (with_first name v others) ≡ option_or (named_fault inclusion name v) (projection_fault inclusion others)
projection_fault-with_first inclusion name (leaf_value k v) others = refl
projection_fault-with_first inclusion name (document_value k b t) others = refl

abbrev pub Fields : Type 0
Fields = List (List ℕ × TreeValue)

-- those that are kept, and these put after others
abbrev pub kept_fields : Tree → Fields → Fields
kept_fields p [] = []
kept_fields p (f ∷ fs) = if keeps p f.0 then f ∷ kept_fields p fs else kept_fields p fs

abbrev pub put_kept : Tree → Fields → Fields → Fields
put_kept p [] qs = qs
put_kept p (f ∷ fs) qs = put_kept p fs (if keeps p f.0 then put f.0 f.1 qs else qs)

kept_first : (p : Tree) (name : List ℕ) (v : TreeValue) (others : Tree) → kept p (with_first name v others) ≡ (if keeps p name then with_first name v (kept p others) else kept p others)
kept_first p name (leaf_value k v) others = refl
kept_first p name (document_value k b t) others = refl

tree_if : (b : Bool) (f : List ℕ × TreeValue) (t : Tree) (fs : Fields) → t ≡ tree_of fs → (if b then with_first f.0 f.1 t else t) ≡ tree_of (if b then f ∷ fs else fs)
tree_if true f t fs e = ap (with_first f.0 f.1) e
tree_if false f t fs e = e

pub kept_is : (p : Tree) (fs : Fields) → kept p (tree_of fs) ≡ tree_of (kept_fields p fs)
kept_is p [] = refl
kept_is p (f ∷ fs) = kept_first p f.0 f.1 (tree_of fs) ∙ tree_if (keeps p f.0) f (kept p (tree_of fs)) (kept_fields p fs) (kept_is p fs)

-- none of the first names stands among the second ones
abbrev pub Apart : Fields → Fields → Type 0
Apart [] qs = ⊤
Apart (f ∷ fs) qs = (value_named f.0 qs ≡ None) × Apart fs qs

pub apart_from_none : (fs : Fields) → Apart fs []
apart_from_none [] = tt
apart_from_none (f ∷ fs) = (refl, apart_from_none fs)

none_after : (b : Bool) (v : TreeValue) (o : Option TreeValue) → (if b then Some v else o) ≡ None → (b ≡ false) × (o ≡ None)
none_after true v o e = absurd cc
none_after false v o e = (refl, e)

-- a new name goes last
put_new : (name : List ℕ) (v : TreeValue) (qs : Fields) → value_named name qs ≡ None → put name v qs ≡ qs ++ (name, v) ∷ []
put_new name v [] e = refl
put_new name v (q ∷ qs) e =
    let no = none_after (bytes_eq name q.0) q.1 (value_named name qs) e in
    ap (λ (b : Bool). if b then (q.0, v) ∷ qs else q ∷ put name v qs) no.0 ∙ ap (λ (l : Fields). q ∷ l) (put_new name v qs no.1)

-- a name that isn't among some fields, and not that of one more, isn't among both
still_none : (name : List ℕ) (qs : Fields) (f : List ℕ × TreeValue) → value_named name qs ≡ None → bytes_eq name f.0 ≡ false → value_named name (qs ++ f ∷ []) ≡ None
still_none name [] f e differs = ap (λ (b : Bool). if b then Some f.1 else None) differs
still_none name (q ∷ qs) f e differs =
    let no = none_after (bytes_eq name q.0) q.1 (value_named name qs) e in
    ap (λ (b : Bool). if b then Some q.1 else value_named name (qs ++ f ∷ [])) no.0 ∙ still_none name qs f no.1 differs

still_apart : (fs qs : Fields) (f : List ℕ × TreeValue) → AllByRecursion (λ n. bytes_eq f.0 n ≡ false) (map (λ g. g.0) fs) → Apart fs qs → Apart fs (qs ++ f ∷ [])
still_apart [] qs f differs apart = tt
still_apart (g ∷ gs) qs f differs apart = (still_none g.0 qs f apart.0 (turned g.0 f.0 ∙ differs.0), still_apart gs qs f differs.1 apart.1)

put_if : (rest : Fields → Fields) (b : Bool) (more qs left : Fields) (f : List ℕ × TreeValue) → rest more ≡ qs ++ (f ∷ left) → rest qs ≡ qs ++ left → rest (if b then more else qs) ≡ qs ++ (if b then f ∷ left else left)
put_if rest true more qs left f where_kept where_not = where_kept
put_if rest false more qs left f where_kept where_not = where_not

-- fields with names of their own are put after others that have none of them
pub put_kept_is : (p : Tree) (fs qs : Fields) → IsDistinct bytes_eq (map (λ f. f.0) fs) → Apart fs qs → put_kept p fs qs ≡ qs ++ kept_fields p fs
put_kept_is p [] qs distinct apart = sym (append-nil qs)
put_kept_is p (f ∷ fs) qs distinct apart =
    let names = map (λ (g : List ℕ × TreeValue). g.0) fs in
    let others = IsDistinct-tail bytes_eq f.0 names distinct in
    put_if (put_kept p fs) (keeps p f.0) (put f.0 f.1 qs) qs (kept_fields p fs) f
    (ap (put_kept p fs) (put_new f.0 f.1 qs apart.0) ∙ put_kept_is p fs (qs ++ f ∷ []) others (still_apart fs qs f (IsDistinct-head bytes_eq f.0 names distinct) apart.1) ∙ append_assoc qs (f ∷ []) (kept_fields p fs))
    (put_kept_is p fs qs others apart.1)

-- the empty projection keeps all
keeps_all : (t : Tree) → kept no_pairs t ≡ t
keeps_all no_pairs = refl
keeps_all (leaf_pair n k v ps) = ap (leaf_pair n k v) (keeps_all ps)
keeps_all (inner_pair n k b t ps) = ap (inner_pair n k b t) (keeps_all ps)

kept_whole : (v : TreeValue) → projected no_pairs v ≡ v
kept_whole (leaf_value k x) = refl
kept_whole (document_value kinds.Document b t) = ap (document_value kinds.Document b) (keeps_all t)
kept_whole (document_value k b t) = refl

all_kept : (vs : List TreeValue) → map (projected no_pairs) vs ≡ vs
all_kept [] = refl
all_kept (v ∷ vs) = λ i. kept_whole v i ∷ all_kept vs i

pub all_kept_by : (ps : Fields) (vs : List TreeValue) → length ps ≡ 0 → vs ≡ map (projected (tree_of ps)) vs
all_kept_by [] vs e = sym (all_kept vs)
all_kept_by (p ∷ ps) vs e = absurd (omega arith)
