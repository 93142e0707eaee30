-- The next pair of a tree, as its bytes are read.
use Rattle.std.proofs.Common.{◌≡◌, ℕ, ◌+◌, ◌<◌, ◌≤◌, ◌^◌, ◌-◌, List, [], ◌∷◌, ◌++◌, length, take, drop, Ok, refl, sym, ap, subst, ◌∙◌, arith, length-append, length-take, length-drop}
use Rattle.std.proofs.Math.Bool.{Bool-set}
use Rattle.std.proofs.Math.Logic.{∥∥₁_elim}
use Rattle.std.specs.Prelude.{slice_range, is_ok, IsOk}
use Rattle.std.proofs.lemmas.List.{take_at}
use Rattle.bson_elem.specs.declared.kinds.Kind.{Kind}
use Rattle.bson_elem.specs.declared.fault.BsonFault.{BsonFault}
use Rattle.bson_elem.specs.Trees.{Beside, no_code, with_code, Tree, no_pairs, leaf_pair, inner_pair}
use Rattle.bson_elem.specs.Spelling.{little, string, document, inner_bytes, elements, Fits, Spells}
use Rattle.bson_elem.specs.Checks.{Value, a_leaf, opens, ElementRead, element_at}
use Rattle.bson_elem.proofs.Lemmas.{element_again, length-document, made, ok_is, offset_beside}
use Rattle.bson_raw.specs.Left.{LeftIs, HasLeft}
use Rattle.bson_raw.specs.Pairs.{TreeValue, leaf_value, document_value, with_first}

-- the kind and the part are those of the value
abbrev pub IsPartOf : Kind → Value → TreeValue → Type 0
IsPartOf kind part (leaf_value k v) = (kind ≡ k) × (part ≡ a_leaf v)
IsPartOf kind part (document_value k b inner) = (kind ≡ k) × ((q : ℕ) × (part ≡ opens q b (elements inner))) × Fits 2 inner × (length (document (elements inner)) < 2 ^ 31)

-- The element is the first pair of the tree, its value is v, and the pairs ps follow it.
pub record IsNext (t : Tree) (e : ElementRead) (v : TreeValue) (ps : Tree) : Type 0 where
  pub fits : Fits 1 ps
  pub rest : e.rest ≡ elements ps
  pub is_first : t ≡ with_first e.name v ps
  pub part : IsPartOf e.kind e.value v

-- a document is no longer than it is with its code
pub inner_len : (b : Beside) (body : List ℕ) → length (document body) ≤ length (inner_bytes b body)
inner_len no_code body = omega arith
inner_len (with_code words) body = omega (arith, length-append (little (length body + length words + 14)) (string words ++ document body), length-append (string words) (document body))

next_pair : (t : Tree) (at : ℕ) → Fits 1 t → 0 < length (elements t) → (e : ElementRead) × (element_at 1 0 at (elements t) ≡ Ok e) × ((v : TreeValue) × (ps : Tree) × IsNext t e v ps)
next_pair no_pairs at fits lt = absurd (omega (arith, lt))
next_pair (leaf_pair name k v ps) at fits lt =
    let e : ElementRead = made name k (a_leaf v) (elements ps) in
    (e, element_again 1 0 at e (record { name = fits.0; part = fits.1; offset = tt }), (leaf_value k v, ps, record { fits = fits.2; rest = refl; is_first = refl; part = (refl, refl) }))
next_pair (inner_pair name k b inner ps) at fits lt =
    let q : ℕ = offset_beside (at + length name + 2) b in
    let e : ElementRead = made name k (opens q b (elements inner)) (elements ps) in
    (e, element_again 1 0 at e (record { name = fits.0; part = (fits.1, fits.2, fits.3); offset = refl }), (document_value k b inner, ps, record { fits = fits.5; rest = refl; is_first = refl; part = (refl, (q, refl), fits.4, omega (arith, inner_len b (elements inner), fits.3)) }))

-- what was read is the next pair
pub next_is : (t : Tree) (at : ℕ) (room : List ℕ) (f : ElementRead) → Fits 1 t → room ≡ elements t → 0 < length room → element_at 1 0 at room ≡ Ok f → (v : TreeValue) × (ps : Tree) × IsNext t f v ps
next_is t at room f fits is lt read =
    let n = next_pair t at fits (omega (arith, lt, ap length is)) in
    let same : n.0 ≡ f = ok_is {E = BsonFault} n.0 f (sym (ap (element_at 1 0 at) is ∙ n.1) ∙ read) in
    subst (λ (e : ElementRead). (v : TreeValue) × (ps : Tree) × IsNext t e v ps) same n.2

-- and there is one
is_read : (t : Tree) (at : ℕ) (room : List ℕ) → Fits 1 t → room ≡ elements t → 0 < length room → IsOk (element_at 1 0 at room)
is_read t at room fits is lt =
    let n = next_pair t at fits (omega (arith, lt, ap length is)) in
    ap is_ok (ap (element_at 1 0 at) is ∙ n.1)

pub none_is_no_pairs : (t : Tree) → length (elements t) ≡ 0 → t ≡ no_pairs
none_is_no_pairs no_pairs e = refl
none_is_no_pairs (leaf_pair n k v ps) e = absurd (omega (arith, e))
none_is_no_pairs (inner_pair n k b inner ps) e = absurd (omega (arith, e))

-- how many bytes are between two offsets
pub room_size : (bytes : List ℕ) (at end : ℕ) → end ≤ length bytes → length (slice_range bytes at end) ≡ end - at
room_size bytes at end le = omega (arith, length-take (end - at) (drop at bytes), length-drop at bytes, le)

-- all pairs are left at first
pub all_left : (bytes : List ℕ) (t : Tree) → Spells t bytes → LeftIs bytes 4 t
all_left bytes t s =
    let size : length bytes ≡ length (elements t) + 5 = ap length s.parts ∙ length-document (elements t) in
    let n : (length bytes - 1) - 4 ≡ length (elements t) = omega (arith, size) in
    (s.fits, ap (λ (k : ℕ). take k (drop 4 bytes)) n ∙ ap (λ (x : List ℕ). take (length (elements t)) (drop 4 x)) s.parts ∙ take_at (elements t) (0 ∷ []) (length (elements t)) refl)

pub has_left : (bytes : List ℕ) (t : Tree) → Spells t bytes → HasLeft bytes 4
has_left bytes t s =
    let size : length bytes ≡ length (elements t) + 5 = ap length s.parts ∙ length-document (elements t) in
    (omega (arith, size), s.short, (t, all_left bytes t s))

-- the pairs from an offset on, the element that was read there, and the offset of the next one
pub record IsRead (bytes : List ℕ) (at : ℕ) (e : ElementRead) (next : ℕ) : Type 0 where
  pub before : at < length bytes - 1
  pub read : element_at 1 0 at (slice_range bytes at (length bytes - 1)) ≡ Ok e
  pub rest : e.rest ≡ slice_range bytes next (length bytes - 1)

room_left : (bytes : List ℕ) (at : ℕ) → at < length bytes - 1 → 0 < length (slice_range bytes at (length bytes - 1))
room_left bytes at lt = omega (arith, room_size bytes at (length bytes - 1) (omega arith), lt)

-- what was read is the first pair of every tree that is left
pub step : (bytes : List ℕ) (at : ℕ) (e : ElementRead) (next : ℕ) → IsRead bytes at e next → (t : Tree) → LeftIs bytes at t → (v : TreeValue) × (ps : Tree) × (t ≡ with_first e.name v ps) × IsPartOf e.kind e.value v × LeftIs bytes next ps
step bytes at e next is t left =
    let n = next_is t at (slice_range bytes at (length bytes - 1)) e left.0 left.1 (room_left bytes at is.before) is.read in
    (n.0, n.1, n.2.is_first, n.2.part, (n.2.fits, sym is.rest ∙ n.2.rest))

-- an element can be read where pairs are left
pub can_read : (bytes : List ℕ) (at : ℕ) → ∥ HasLeft bytes at ∥₁ → at < length bytes - 1 → IsOk (element_at 1 0 at (slice_range bytes at (length bytes - 1)))
can_read bytes at has lt = ∥∥₁_elim has (Bool-set _ _) (λ h. is_read h.2.0 at (slice_range bytes at (length bytes - 1)) h.2.1.0 h.2.1.1 (room_left bytes at lt))

-- nothing is left at the last byte
pub none_left : (bytes : List ℕ) (at : ℕ) (t : Tree) → length bytes - 1 ≤ at → LeftIs bytes at t → t ≡ no_pairs
none_left bytes at t le left = none_is_no_pairs t (omega (arith, ap length left.1, room_size bytes at (length bytes - 1) (omega arith), le))
