-- The bytes of a tree are read as that tree, and bytes with a fault as that fault: so no bytes have both, and none
-- have two of either.
use Rattle.std.proofs.Common.{◌≡◌, ℕ, zero, suc, ◌+◌, ◌<◌, ◌≤◌, List, [], ◌∷◌, ◌++◌, length, Result, Ok, Err, refl, sym, ap, subst, ◌∙◌, append_assoc, arith, inl, inr, add-zero}
use Rattle.std.proofs.lemmas.Bool.{cases_lt}
use Rattle.std.proofs.lemmas.List.{length-append, append-nil, get_or-append-add, get_or_append_left, get_or_past}
use Rattle.bson_elem.specs.declared.kinds.Kind.{Kind}
use Rattle.bson_elem.specs.declared.fault.BsonFault.{BsonFault}
use Rattle.bson_elem.specs.Kinds.{byte_of, form_of}
use Rattle.bson_elem.specs.Trees.{Beside, no_code, with_code, Tree, no_pairs, leaf_pair, inner_pair}
use Rattle.bson_elem.specs.Spelling.{IsBytes, leaf_bytes, little, string, cstring, elements, document, inner_bytes, Fits}
use Rattle.bson_elem.specs.Checks.{◌>>=◌, Value, a_leaf, opens, ElementRead, element_at}
use Rattle.bson_elem.specs.Faults.{FaultIn, at_element, in_document}
use Rattle.bson_elem.proofs.ContainerLaws.{value_bytes, element_bytes, IsElement, made, offset_beside, element_takes, element_again}

-- ---- pairs joined

-- one list of pairs after another
abbrev pub joined : Tree → Tree → Tree
joined no_pairs qs = qs
joined (leaf_pair name k v ps) qs = leaf_pair name k v (joined ps qs)
joined (inner_pair name k b inner ps) qs = inner_pair name k b inner (joined ps qs)

pub elements-joined : (ps qs : Tree) → elements (joined ps qs) ≡ elements ps ++ elements qs
elements-joined no_pairs qs = refl
elements-joined (leaf_pair name k v ps) qs = ap (λ (t : List ℕ). (byte_of k ∷ (cstring name ++ leaf_bytes (form_of k) v)) ++ t) (elements-joined ps qs) ∙ sym (append_assoc (byte_of k ∷ (cstring name ++ leaf_bytes (form_of k) v)) (elements ps) (elements qs))
elements-joined (inner_pair name k b inner ps) qs = ap (λ (t : List ℕ). (byte_of k ∷ (cstring name ++ inner_bytes b (elements inner))) ++ t) (elements-joined ps qs) ∙ sym (append_assoc (byte_of k ∷ (cstring name ++ inner_bytes b (elements inner))) (elements ps) (elements qs))

pub Fits-joined : (depth : ℕ) (ps qs : Tree) → Fits depth ps → Fits depth qs → Fits depth (joined ps qs)
Fits-joined depth no_pairs qs f g = g
Fits-joined depth (leaf_pair name k v ps) qs f g = (f.0, f.1, Fits-joined depth ps qs f.2 g)
Fits-joined depth (inner_pair name k b inner ps) qs f g = (f.0, f.1, f.2, f.3, f.4, Fits-joined depth ps qs f.5 g)

joined-empty : (ps : Tree) → joined ps no_pairs ≡ ps
joined-empty no_pairs = refl
joined-empty (leaf_pair name k v ps) = ap (leaf_pair name k v) (joined-empty ps)
joined-empty (inner_pair name k b inner ps) = ap (inner_pair name k b inner) (joined-empty ps)

-- ---- reading the whole, by recursion on a number that falls

entered : (ℕ → List ℕ → Result Tree BsonFault) → Value → Result Tree BsonFault
entered read (a_leaf v) = Ok no_pairs
entered read (opens q b body) = read q body

add : List ℕ → Kind → Value → Tree → Tree → Tree
add name k (a_leaf v) inner ps = leaf_pair name k v ps
add name k (opens q b body) inner ps = inner_pair name k b inner ps

walk : ℕ → ℕ → ℕ → ℕ → List ℕ → Result Tree BsonFault
walk fuel depth s p [] = Ok no_pairs
walk zero depth s p (b ∷ bytes) = Ok no_pairs
walk (suc fuel) depth s p (b ∷ bytes) = do
  e ← element_at depth s p (b ∷ bytes)
  inner ← entered (λ q body. walk fuel (depth + 1) q (q + 4) body) e.value
  ps ← walk fuel depth s (p + length (element_bytes e)) e.rest
  Ok (add e.name e.kind e.value inner ps)

abbrev ok_pairs : Tree → Result Tree BsonFault
ok_pairs ps = Ok ps

bind_same : (r : Result Tree BsonFault) → r ≡ (r >>= ok_pairs)
bind_same (Ok x) = refl
bind_same (Err e) = refl

bind_twice : (r : Result Tree BsonFault) (f g : Tree → Tree) → ((r >>= λ x. ok_pairs (f x)) >>= λ x. ok_pairs (g x)) ≡ (r >>= λ x. ok_pairs (g (f x)))
bind_twice (Ok x) f g = refl
bind_twice (Err e) f g = refl

walk_end : (fuel depth s p : ℕ) → walk fuel depth s p [] ≡ Ok no_pairs
unfolding walk
walk_end zero depth s p = refl
walk_end (suc fuel) depth s p = refl

length_inside : (b : Beside) (body : List ℕ) → length body ≤ length (inner_bytes b body)
length_inside no_code body = omega (arith, length-append (little (length body + 5)) (body ++ 0 ∷ []), length-append body (0 ∷ []))
length_inside (with_code words) body = omega (arith, length-append (little (length body + length words + 14)) (string words ++ document body), length-append (string words) (document body), length-append (little (length body + 5)) (body ++ 0 ∷ []), length-append body (0 ∷ []))

-- one step
step : (fuel depth s p b : ℕ) (bytes : List ℕ) (e : ElementRead) (within : Tree) → element_at depth s p (b ∷ bytes) ≡ Ok e → entered (λ q body. walk fuel (depth + 1) q (q + 4) body) e.value ≡ Ok within → walk (suc fuel) depth s p (b ∷ bytes) ≡ (walk fuel depth s (p + length (element_bytes e)) e.rest >>= λ ps. Ok (add e.name e.kind e.value within ps))
unfolding walk
step fuel depth s p b bytes e within h i = rw (h, i) refl

offset_more : (fuel depth s a b c : ℕ) (rest : List ℕ) → a + b ≡ c → walk fuel depth s (a + b) rest ≡ walk fuel depth s c rest
offset_more fuel depth s a b c rest e = ap (λ (k : ℕ). walk fuel depth s k rest) e

-- one pair of a tree, and then the others
pair_then : (depth s p fuel : ℕ) (e : ElementRead) (within ps : Tree) (rest : List ℕ) → IsElement depth p e → entered (λ q body. walk fuel (depth + 1) q (q + 4) body) e.value ≡ Ok within → e.rest ≡ elements ps ++ rest
    → (less : ℕ) × (length rest ≤ less) × (walk fuel depth s (p + length (element_bytes e)) (elements ps ++ rest) ≡ (walk less depth s (p + length (element_bytes e) + length (elements ps)) rest >>= λ qs. ok_pairs (joined ps qs)))
    → (less : ℕ) × (length rest ≤ less) × (walk (suc fuel) depth s p ((element_bytes e ++ elements ps) ++ rest) ≡ (walk less depth s (p + length (element_bytes e ++ elements ps)) rest >>= λ qs. ok_pairs (add e.name e.kind e.value within (joined ps qs))))
pair_then depth s p fuel e within ps rest is i r ih =
    let regrouped : (element_bytes e ++ elements ps) ++ rest ≡ element_bytes e ++ e.rest = append_assoc (element_bytes e) (elements ps) rest ∙ ap (λ (t : List ℕ). element_bytes e ++ t) (sym r) in
    let one = step fuel depth s p (byte_of e.kind) _ e within (element_again depth s p e is) i in
    let offset : p + length (element_bytes e) + length (elements ps) ≡ p + length (element_bytes e ++ elements ps) = omega (arith, length-append (element_bytes e) (elements ps)) in (
      ih.0,
      ih.1,
      ap (walk (suc fuel) depth s p) regrouped ∙ one
          ∙ ap (λ (t : List ℕ). walk fuel depth s (p + length (element_bytes e)) t >>= λ qs. ok_pairs (add e.name e.kind e.value within qs)) r
          ∙ ap (λ (x : Result Tree BsonFault). x >>= λ qs. ok_pairs (add e.name e.kind e.value within qs)) ih.2
          ∙ bind_twice (walk ih.0 depth s (p + length (element_bytes e) + length (elements ps)) rest) (joined ps) (add e.name e.kind e.value within)
          ∙ ap (λ (k : ℕ). walk ih.0 depth s k rest >>= λ qs. ok_pairs (add e.name e.kind e.value within (joined ps qs))) offset,
    )

walk_prefix : (pairs : Tree) (depth s p : ℕ) (rest : List ℕ) (fuel : ℕ) → Fits depth pairs → length (elements pairs ++ rest) ≤ fuel → (less : ℕ) × (length rest ≤ less) × (walk fuel depth s p (elements pairs ++ rest) ≡ (walk less depth s (p + length (elements pairs)) rest >>= λ ps. ok_pairs (joined pairs ps)))
unfolding walk add entered
walk_prefix no_pairs depth s p rest fuel fits long = (fuel, long, ap (λ (k : ℕ). walk fuel depth s k rest) (sym (add-zero p)) ∙ bind_same (walk fuel depth s (p + 0) rest))
walk_prefix (leaf_pair name k v ps) depth s p rest zero fits long = absurd (omega (arith, long))
walk_prefix (leaf_pair name k v ps) depth s p rest (suc fuel) fits long =
    let e : ElementRead = made name k (a_leaf v) (elements ps ++ rest) in
    let is : IsElement depth p e = record { name = fits.0; part = fits.1; offset = tt } in
    let shorter : length (elements ps ++ rest) ≤ fuel = omega (arith, long, length-append (element_bytes e ++ elements ps) rest, length-append (element_bytes e) (elements ps), length-append (elements ps) rest) in
    pair_then depth s p fuel e no_pairs ps rest is refl refl (walk_prefix ps depth s (p + length (element_bytes e)) rest fuel fits.2 shorter)
walk_prefix (inner_pair name k b inner ps) depth s p rest zero fits long = absurd (omega (arith, long))
walk_prefix (inner_pair name k b inner ps) depth s p rest (suc fuel) fits long =
    let q : ℕ = offset_beside (p + length name + 2) b in
    let e : ElementRead = made name k (opens q b (elements inner)) (elements ps ++ rest) in
    let is : IsElement depth p e = record { name = fits.0; part = (fits.1, fits.2, fits.3); offset = refl } in
    let shorter : length (elements ps ++ rest) ≤ fuel = omega (arith, long, length-append (element_bytes e ++ elements ps) rest, length-append (element_bytes e) (elements ps), length-append (elements ps) rest) in
    let below : length (elements inner ++ []) ≤ fuel = omega (arith, long, length-append (element_bytes e ++ elements ps) rest, length-append (element_bytes e) (elements ps), length-append (cstring name) (inner_bytes b (elements inner)), length-append (elements inner) [], length_inside b (elements inner)) in
    let ih = walk_prefix inner (depth + 1) q (q + 4) [] fuel fits.4 below in
    let read : walk fuel (depth + 1) q (q + 4) (elements inner) ≡ Ok inner = ap (walk fuel (depth + 1) q (q + 4)) (sym (append-nil (elements inner))) ∙ ih.2 ∙ ap (λ (x : Result Tree BsonFault). x >>= λ ps. ok_pairs (joined inner ps)) (walk_end ih.0 (depth + 1) q (q + 4 + length (elements inner))) ∙ ap ok_pairs (joined-empty inner) in
    pair_then depth s p fuel e inner ps rest is read refl (walk_prefix ps depth s (p + length (element_bytes e)) rest fuel fits.5 shorter)

read_tree : (t : Tree) (depth s p fuel : ℕ) → Fits depth t → length (elements t) ≤ fuel → walk fuel depth s p (elements t) ≡ Ok t
read_tree t depth s p fuel fits long =
    let ih = walk_prefix t depth s p [] fuel fits (omega (arith, long, length-append (elements t) [])) in
    ap (walk fuel depth s p) (sym (append-nil (elements t))) ∙ ih.2 ∙ ap (λ (x : Result Tree BsonFault). x >>= λ ps. ok_pairs (joined t ps)) (walk_end ih.0 depth s (p + length (elements t))) ∙ ap ok_pairs (joined-empty t)

-- ---- faults

pub IsBytes-middle : (a b c : List ℕ) → IsBytes (a ++ (b ++ c)) → IsBytes b
IsBytes-middle a b c h i =
    elim (cases_lt i (length b)) [
      | inl lt ↦ rw (← get_or_append_left b c 0 i lt, ← get_or-append-add a (b ++ c) i 0) (h (length a + i))
      | inr le ↦ rw (get_or_past b i 0 le) (omega arith)
    ]

pub IsBytes-after : (a b : List ℕ) → IsBytes (a ++ b) → IsBytes b
IsBytes-after a b h i = rw (← get_or-append-add a b i 0) (h (length a + i))

-- a document's elements are inside the value that holds it
inside_of : (b : Beside) (body : List ℕ) → (front : List ℕ) × (inner_bytes b body ≡ front ++ (body ++ 0 ∷ []))
inside_of no_code body = (little (length body + 5), refl)
inside_of (with_code words) body = (
  little (length body + length words + 14) ++ (string words ++ little (length body + 5)),
  ap (λ (t : List ℕ). little (length body + length words + 14) ++ t) (sym (append_assoc (string words) (little (length body + 5)) (body ++ 0 ∷ [])))
      ∙ sym (append_assoc (little (length body + length words + 14)) (string words ++ little (length body + 5)) (body ++ 0 ∷ [])),
)

pub body_fits : (e : ElementRead) (q : ℕ) (b : Beside) (body rest : List ℕ) → e.value ≡ opens q b body → rest ≡ element_bytes e ++ e.rest → IsBytes rest → IsBytes body × (length body < length rest)
body_fits e q b body rest part_is parts fits =
    let f = inside_of b body in
    let text_is : element_bytes e ≡ byte_of e.kind ∷ (cstring e.name ++ (f.0 ++ (body ++ 0 ∷ []))) = ap (λ (t : Value). byte_of e.kind ∷ (cstring e.name ++ value_bytes (form_of e.kind) t)) part_is ∙ ap (λ (t : List ℕ). byte_of e.kind ∷ (cstring e.name ++ t)) f.1 in
    let front : List ℕ = byte_of e.kind ∷ (cstring e.name ++ f.0) in
    let regrouped : rest ≡ front ++ (body ++ (0 ∷ e.rest)) =
    parts ∙ ap (λ (t : List ℕ). t ++ e.rest) text_is ∙ ap (λ (t : List ℕ). (byte_of e.kind ∷ t) ++ e.rest) (sym (append_assoc (cstring e.name) f.0 (body ++ 0 ∷ [])))
    ∙ append_assoc front (body ++ 0 ∷ []) e.rest ∙ ap (λ (t : List ℕ). front ++ t) (append_assoc body (0 ∷ []) e.rest) in
    (IsBytes-middle front body (0 ∷ e.rest) (subst IsBytes regrouped fits), omega (arith, ap length regrouped, length-append front (body ++ (0 ∷ e.rest)), length-append body (0 ∷ e.rest)))

abbrev err_pairs : BsonFault → Result Tree BsonFault
err_pairs f = Err f

at_err : (fuel depth s p b : ℕ) (rest : List ℕ) (f : BsonFault) → length (b ∷ rest) ≤ fuel → element_at depth s p (b ∷ rest) ≡ Err f → walk fuel depth s p (b ∷ rest) ≡ Err f
unfolding walk
at_err zero depth s p b rest f le e = absurd (omega (arith, le))
at_err (suc fuel) depth s p b rest f le e = rw e refl

into : (fuel depth s p : ℕ) (rest : List ℕ) (e : ElementRead) (q : ℕ) (b : Beside) (body : List ℕ) (f : BsonFault) → IsBytes rest → length rest ≤ fuel → element_at depth s p rest ≡ Ok e → e.value ≡ opens q b body → ((less : ℕ) → length body ≤ less → walk less (depth + 1) q (q + 4) body ≡ Err f) → walk fuel depth s p rest ≡ Err f
unfolding walk entered element_at
into fuel depth s p [] e q b body f fits le h part_is ih = absurd cc
into zero depth s p (c ∷ rest) e q b body f fits le h part_is ih = absurd (omega (arith, le))
into (suc fuel) depth s p (c ∷ rest) e q b body f fits le h part_is ih =
    let t = element_takes depth s p (c ∷ rest) e fits h in
    let short = body_fits e q b body (c ∷ rest) part_is t.0.parts fits in
    let read : entered (λ q body. walk fuel (depth + 1) q (q + 4) body) e.value ≡ Err f = ap (entered (λ q body. walk fuel (depth + 1) q (q + 4) body)) part_is ∙ ih fuel (omega (arith, short.1, le)) in
    rw (h, read) refl

fault_walk : {depth s p : ℕ} {bytes : List ℕ} {f : BsonFault} (chain : FaultIn depth s p bytes f) (fuel : ℕ) → IsBytes bytes → length bytes ≤ fuel → walk fuel depth s p bytes ≡ Err f
fault_walk {depth} {s} {p} {bytes} {f} (at_element pairs b rest before e) fuel fits long =
    let w = walk_prefix pairs depth s p (b ∷ rest) fuel before.fits (omega (arith, long, ap length before.parts)) in
    ap (walk fuel depth s p) before.parts ∙ w.2 ∙ ap (λ (x : Result Tree BsonFault). x >>= λ ps. ok_pairs (joined pairs ps)) (at_err w.0 depth s (p + length (elements pairs)) b rest f w.1 e)
fault_walk {depth} {s} {p} {bytes} {f} (in_document pairs rest e q b body before h part_is chain) fuel fits long =
    let w = walk_prefix pairs depth s p rest fuel before.fits (omega (arith, long, ap length before.parts)) in
    let fits' : IsBytes rest = IsBytes-after (elements pairs) rest (subst IsBytes before.parts fits) in
    let t = element_takes depth s (p + length (elements pairs)) rest e fits' h in
    let inner = body_fits e q b body rest part_is t.0.parts fits' in
    ap (walk fuel depth s p) before.parts ∙ w.2 ∙ ap (λ (x : Result Tree BsonFault). x >>= λ ps. ok_pairs (joined pairs ps)) (into w.0 depth s (p + length (elements pairs)) rest e q b body f fits' w.1 h part_is (λ less le. fault_walk chain less inner.0 le))

-- ---- what follows

pub no_both : {depth s p : ℕ} {bytes : List ℕ} {f : BsonFault} (t : Tree) → IsBytes bytes → Fits depth t → bytes ≡ elements t → FaultIn depth s p bytes f → ⊥
no_both {depth} {s} {p} {bytes} {f} t fits tree is chain =
    let read = read_tree t depth s p (length bytes) tree (omega (arith, ap length is)) in
    let failed = fault_walk chain (length bytes) fits (omega arith) in
    let same : ok_pairs t ≡ err_pairs f = sym (ap (walk (length bytes) depth s p) is ∙ read) ∙ failed in
    absurd cc

pub one_fault : {depth s p : ℕ} {bytes : List ℕ} {f g : BsonFault} → IsBytes bytes → FaultIn depth s p bytes f → FaultIn depth s p bytes g → f ≡ g
one_fault {depth} {s} {p} {bytes} {f} {g} fits a b =
    let x = fault_walk a (length bytes) fits (omega arith) in
    let y = fault_walk b (length bytes) fits (omega arith) in
    let same : err_pairs f ≡ err_pairs g = sym x ∙ y in
    cc

pub one_tree : (t u : Tree) (depth : ℕ) → Fits depth t → Fits depth u → elements t ≡ elements u → t ≡ u
one_tree t u depth f g e =
    let x = read_tree t depth 0 0 (length (elements t)) f (omega arith) in
    let y = read_tree u depth 0 0 (length (elements t)) g (omega (arith, ap length e)) in
    let same : ok_pairs t ≡ ok_pairs u = sym x ∙ ap (walk (length (elements t)) depth 0 0) e ∙ y in
    cc
