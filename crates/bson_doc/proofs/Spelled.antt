-- What spells the canonical form of a tree.
use Rattle.std.proofs.Common.{◌≡◌, ℕ, ◌+◌, ◌<◌, ◌≤◌, ◌^◌, Bool, true, false, List, ◌∷◌, ◌++◌, length, ap, arith, length-append}
use Rattle.bson_elem.specs.Kinds.{byte_of, form_of}
use Rattle.bson_elem.specs.Trees.{Tree, no_pairs, leaf_pair, inner_pair}
use Rattle.bson_elem.specs.Spelling.{cstring, leaf_bytes, inner_bytes, document, elements, IsName, Fits, Spells}
use Rattle.bson_elem.proofs.Lemmas.{length-document}
use Rattle.bson_raw.proofs.Lemmas.{decimal_is_name, inner_len}
use Rattle.bson_raw.specs.Naming.{is_array_kind, name_at}
use Rattle.bson_doc.specs.Plain.{plain_from, plain}

is_name : (in_array : Bool) (index : ℕ) (name : List ℕ) → index < 2 ^ 64 → IsName name → IsName (name_at in_array index name)
is_name true index name small f = decimal_is_name index small
is_name false index name small f = f

-- where the canonical form is short enough it has a spelling
pub fits_plain : (in_array : Bool) (index depth : ℕ) (t : Tree) → index + length (elements t) < 2 ^ 64 → length (elements (plain_from in_array index t)) < 2 ^ 31 → Fits depth t → Fits depth (plain_from in_array index t)
fits_plain in_array index depth no_pairs small short f = tt
fits_plain in_array index depth (leaf_pair name k v ps) small short f =
    let old = length-append (byte_of k ∷ (cstring name ++ leaf_bytes (form_of k) v)) (elements ps) in
    let new = length-append (byte_of k ∷ (cstring (name_at in_array index name) ++ leaf_bytes (form_of k) v)) (elements (plain_from in_array (index + 1) ps)) in
    (is_name in_array index name (omega (arith, small)) f.0, f.1, fits_plain in_array (index + 1) depth ps (omega (arith, small, old)) (omega (arith, short, new)) f.2)
fits_plain in_array index depth (inner_pair name k b inner ps) small short f =
    let held : Tree = plain_from (is_array_kind k) 0 inner in
    let n : List ℕ = name_at in_array index name in
    let old = length-append (byte_of k ∷ (cstring name ++ inner_bytes b (elements inner))) (elements ps) in
    let new = length-append (byte_of k ∷ (cstring n ++ inner_bytes b (elements held))) (elements (plain_from in_array (index + 1) ps)) in
    let parts = length-append (cstring n) (inner_bytes b (elements held)) in
    let small' : 0 + length (elements inner) < 2 ^ 64 = omega (arith, f.3, inner_len b (elements inner), length-document (elements inner)) in
    let short' : length (inner_bytes b (elements held)) < 2 ^ 31 = omega (arith, short, new, parts) in (
      is_name in_array index name (omega (arith, small)) f.0,
      f.1,
      f.2,
      short',
      fits_plain (is_array_kind k) 0 (depth + 1) inner small' (omega (arith, short', inner_len b (elements held), length-document (elements held))) f.4,
      fits_plain in_array (index + 1) depth ps (omega (arith, small, old)) (omega (arith, short, new)) f.5,
    )

-- the bytes of the canonical form spell it
pub spells_plain : (t : Tree) (bytes out : List ℕ) (limit : ℕ) → limit < 2 ^ 31 → Spells t bytes → out ≡ document (elements (plain t)) → length (document (elements (plain t))) ≤ limit → Spells (plain t) out × (length out ≤ limit)
spells_plain t bytes out limit counted s is within =
    let small : 0 + length (elements t) < 2 ^ 64 = omega (arith, s.short, ap length s.parts, length-document (elements t)) in
    let short : length (elements (plain t)) < 2 ^ 31 = omega (arith, counted, within, length-document (elements (plain t))) in
    (record { parts = is; short = omega (arith, counted, within, ap length is); fits = fits_plain false 0 1 t small short s.fits }, omega (arith, within, ap length is))
