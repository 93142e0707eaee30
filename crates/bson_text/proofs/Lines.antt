-- The lines of a tree's pairs, one pair after another.
use Rattle.std.proofs.Common.{◌≡◌, ◌≤◌, ◌++◌, ◌∷◌, ◌+◌, ◌-◌, ℕ, List, [], Option, Some, None, length, refl, sym, ap, ◌∙◌, append_assoc, arith, length-append, subst}
use Rattle.std.specs.Io.KnownBytes.{Appends}
use Rattle.std.specs.Prelude.{IfSome}
use Rattle.bson_elem.specs.Kinds.{byte_of, form_of}
use Rattle.bson_elem.specs.Spelling.{cstring, elements, inner_bytes, leaf_bytes}
use Rattle.bson_elem.specs.Trees.{Tree, inner_pair, leaf_pair}
use Rattle.bson_raw.specs.Pairs.{TreeValue, leaf_value, document_value, with_first}
use Rattle.bson_text.specs.Dump.{document_size, element_line, element_lines, element_lines_at, inner_text, leaf_text, offset_text, pairs_start}
use Rattle.bson_text.specs.DumpValues.{held_tree, inner_end, lines_to, offset_before, offset_front, value_text}

-- a smaller number is as far from the end
pub within : (end : Option ℕ) (a b : ℕ) → a ≤ b → IfSome end (λ e. b ≤ e) → IfSome end (λ e. a ≤ e)
within None a b less room = tt
within (Some e) a b less room = omega arith

-- what stands behind the first of the last bytes begins where that ends
behind_first : (e left : ℕ) (first rest : List ℕ) → left ≡ length (first ++ rest) + 1 → left ≤ e
    → (e - (length (first ++ rest) + 1)) + length (first ++ []) ≡ e - (length rest + 1)
behind_first e left first rest size room = omega (arith, length-append first rest, length-append first [])

-- the start of the line of a first pair
abbrev pub first_line : Option ℕ → ℕ → ℕ → List ℕ → TreeValue → List ℕ
first_line end left deep name v = offset_front (offset_before end left) ++ element_line deep name (value_text v)

-- the lines of a first pair whose value holds no pairs, and of the others
pub lines-leaf : (end : Option ℕ) (left deep : ℕ) (name : List ℕ) (v : TreeValue) (ps : Tree) → held_tree v ≡ None
    → left ≡ length (elements (with_first name v ps)) + 1 → IfSome end (λ e. left ≤ e)
    → lines_to end deep (with_first name v ps) ≡ first_line end left deep name v ++ lines_to end deep ps
lines-leaf None left deep name (leaf_value k leaf) ps none size room = refl
lines-leaf None left deep name (document_value k b inner) ps none size room = cc
lines-leaf (Some e) left deep name (document_value k b inner) ps none size room = cc
lines-leaf (Some e) left deep name (leaf_value k leaf) ps none size room =
    let first : List ℕ = byte_of k ∷ (cstring name ++ leaf_bytes (form_of k) leaf) in
    let line : List ℕ = element_line deep name (leaf_text k leaf) in
    let rest : List ℕ = element_lines_at (pairs_start e ps) deep ps in
    ap (λ (n : ℕ). offset_text (pairs_start e (leaf_pair name k leaf ps)) ++ (line ++ element_lines_at n deep ps)) (behind_first e left first (elements ps) size room)
    ∙ ap (λ (n : ℕ). offset_text (e - n) ++ (line ++ rest)) (sym size) ∙ sym (append_assoc (offset_text (e - left)) line rest)

-- the lines of a first pair, of the pairs that its value holds, and of the others
pub lines-held : (end : Option ℕ) (left deep : ℕ) (name : List ℕ) (v : TreeValue) (inner ps : Tree) → held_tree v ≡ Some inner
    → left ≡ length (elements (with_first name v ps)) + 1 → IfSome end (λ e. left ≤ e)
    → lines_to end deep (with_first name v ps) ≡ first_line end left deep name v ++ (lines_to (inner_end end ps) (deep + 1) inner ++ lines_to end deep ps)
lines-held end left deep name (leaf_value k leaf) inner ps held size room = cc
lines-held None left deep name (document_value k b i) inner ps held size room =
    let same : i ≡ inner = cc in
    ap (λ (x : Tree). element_line deep name (value_text (document_value k b i)) ++ (element_lines (deep + 1) x ++ element_lines deep ps)) same
lines-held (Some e) left deep name (document_value k b i) inner ps held size room =
    let same : i ≡ inner = cc in
    let first : List ℕ = byte_of k ∷ (cstring name ++ inner_bytes b (elements i)) in
    let line : List ℕ = element_line deep name (inner_text k b (document_size i)) in
    let behind : ℕ = pairs_start e ps in
    let rest : List ℕ = element_lines_at (pairs_start behind inner) (deep + 1) inner ++ element_lines_at behind deep ps in
    ap (λ (n : ℕ). offset_text (pairs_start e (inner_pair name k b i ps)) ++ (line ++ (element_lines_at (pairs_start n i) (deep + 1) i ++ element_lines_at n deep ps)))
    (behind_first e left first (elements ps) size room)
    ∙ ap (λ (x : Tree). offset_text (pairs_start e (inner_pair name k b i ps)) ++ (line ++ (element_lines_at (pairs_start behind x) (deep + 1) x ++ element_lines_at behind deep ps))) same
    ∙ ap (λ (n : ℕ). offset_text (e - n) ++ (line ++ rest)) (sym size) ∙ sym (append_assoc (offset_text (e - left)) line rest)

-- the lines of a held document were written, which ends where the other pairs begin
pub held_written : (a b : Option (List ℕ)) (held_end end : Option ℕ) (left deep : ℕ) (inner others : Tree) → held_end ≡ offset_before end left → left ≡ length (elements others) + 1
    → Appends a b (lines_to held_end deep inner) → Appends a b (lines_to (inner_end end others) deep inner)
held_written a b held_end end left deep inner others is size written =
    subst (λ (o : Option ℕ). Appends a b (lines_to o deep inner)) (is ∙ ap (offset_before end) size) written

-- lines up to a held document and those in it, and what is left
pub lines_grouped : (all text inner rest : List ℕ) → all ≡ text ++ (inner ++ rest) → all ≡ (text ++ inner) ++ rest
lines_grouped all text inner rest e = e ∙ sym (append_assoc text inner rest)

-- what was written before, what was written now, and what is left
pub lines_so_far : (all text now rest first : List ℕ) → all ≡ text ++ first → first ≡ now ++ rest → all ≡ (text ++ now) ++ rest
lines_so_far all text now rest first e f = e ∙ ap (λ (x : List ℕ). text ++ x) f ∙ sym (append_assoc text now rest)
