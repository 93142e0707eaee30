-- A command with its database: its bytes, and that it is a command.
use Rattle.std.proofs.Common.{◌≡◌, ℕ, ◌+◌, ◌-◌, ◌^◌, ◌<◌, ◌≤◌, true, false, List, [], ◌∷◌, ◌++◌, length, take, drop, Option, Some, None, inl, inr, refl, sym, ap, subst, ◌∙◌, append_assoc, arith, length-append}
use Rattle.std.specs.Prelude.{IsUtf8, MatchOption, is_some, codes}
use Rattle.std.specs.Str.{bytes_eq}
use Rattle.std.proofs.lemmas.Bool.{cases_Bool}
use Rattle.std.proofs.lemmas.Grind.{not_there}
use Rattle.std.proofs.lemmas.List.{append-nil, take_at, drop_at}
use Rattle.std.proofs.lemmas.Str.{IsUtf8-take, IsCharBoundary-at_seam}
use Rattle.bson_elem.specs.Kinds.{byte_of, form_of}
use Rattle.bson_elem.specs.Trees.{Tree, no_pairs, leaf_pair, inner_pair}
use Rattle.bson_elem.specs.Spelling.{little, cstring, string, document, elements, leaf_bytes, inner_bytes, IsName, Fits}
use Rattle.bson_elem.proofs.Lemmas.{length-document}
use Rattle.bson_raw.specs.declared.value.RawBson.{RawBson}
use Rattle.bson_raw.specs.Pairs.{first_named, first_repeated, is_among, names_of}
use Rattle.bson_raw.specs.RawBson.{ShowsFound}
use Rattle.bson_raw.specs.Spelled.{IsSpelled}
use Rattle.wire_msg.proofs.Lemmas.{then_more}
use Rattle.wire_query.specs.Database.{names_database, with_db_appended, with_database, db_element}
use Rattle.wire_query.specs.Queries.{command_name, IsDatabase, IsCommand}

-- ---- a name that is looked for

-- a name is one of the pairs' where a pair of it is found
found_among : (name : List ℕ) (t : Tree) → is_some (first_named name t) ≡ is_among name (names_of t)
found_among name no_pairs = refl
found_among name (leaf_pair n k v ps) =
    elim (cases_Bool (bytes_eq n name)) [
      | inl same ↦ rw same refl
      | inr other ↦ rw other (found_among name ps)
    ]
found_among name (inner_pair n k b inner ps) =
    elim (cases_Bool (bytes_eq n name)) [
      | inl same ↦ rw same refl
      | inr other ↦ rw other (found_among name ps)
    ]

pub db_found : (t : Tree) (r : Option RawBson) → MatchOption r (first_named (codes "$db") t ≡ None) (λ value. ShowsFound value (first_named (codes "$db") t)) → is_some r ≡ names_database t
db_found t None m = sym (ap is_some m) ∙ found_among (codes "$db") t
db_found t (Some value) m = sym (ap is_some m.1) ∙ found_among (codes "$db") t

named_behind : (database : List ℕ) (t : Tree) → names_database (with_db_appended database t) ≡ true
named_behind database no_pairs = refl
named_behind database (leaf_pair n k v ps) =
    elim (cases_Bool (bytes_eq n (codes "$db"))) [
      | inl same ↦ rw same refl
      | inr other ↦ rw other (named_behind database ps)
    ]
named_behind database (inner_pair n k b inner ps) =
    elim (cases_Bool (bytes_eq n (codes "$db"))) [
      | inl same ↦ rw same refl
      | inr other ↦ rw other (named_behind database ps)
    ]

-- a command with its database names one
pub named : (database : List ℕ) (t : Tree) → names_database (with_database database t) ≡ true
named database t =
    elim (cases_Bool (names_database t)) [
      | inl own ↦ rw own own
      | inr none ↦ rw none (named_behind database t)
    ]

-- ---- bytes

pub elements-with_db_appended : (database : List ℕ) (t : Tree) → elements (with_db_appended database t) ≡ elements t ++ db_element database
elements-with_db_appended database no_pairs = append-nil (db_element database)
elements-with_db_appended database (leaf_pair n k v ps) =
    ap (λ (x : List ℕ). (byte_of k ∷ (cstring n ++ leaf_bytes (form_of k) v)) ++ x) (elements-with_db_appended database ps)
    ∙ sym (append_assoc (byte_of k ∷ (cstring n ++ leaf_bytes (form_of k) v)) (elements ps) (db_element database))
elements-with_db_appended database (inner_pair n k b inner ps) =
    ap (λ (x : List ℕ). (byte_of k ∷ (cstring n ++ inner_bytes b (elements inner))) ++ x) (elements-with_db_appended database ps)
    ∙ sym (append_assoc (byte_of k ∷ (cstring n ++ inner_bytes b (elements inner))) (elements ps) (db_element database))

length-db_element : (database : List ℕ) → length (db_element database) ≡ 10 + length database
length-db_element database = omega (arith, length-append (cstring (codes "$db")) (string database), length-append (little (length database + 1)) (cstring database), length-append database (0 ∷ []))

pub length-with_db_appended : (database : List ℕ) (t : Tree) → length (document (elements (with_db_appended database t))) ≡ length (document (elements t)) + 10 + length database
length-with_db_appended database t = omega (arith, length-document (elements (with_db_appended database t)), length-document (elements t), ap length (elements-with_db_appended database t), length-append (elements t) (db_element database), length-db_element database)

-- a command with its database is longer by the element at most
pub length-with_database : (database : List ℕ) (t : Tree) → length (document (elements (with_database database t))) ≤ length (document (elements t)) + 10 + length database
length-with_database database t =
    elim (cases_Bool (names_database t)) [
      | inl named ↦ rw named (omega arith)
      | inr unnamed ↦ rw unnamed (omega (arith, length-with_db_appended database t))
    ]

-- a document has at least its length and its last 00
pub document_least : (bytes found : List ℕ) → ∥ IsSpelled bytes ∥₁ → found ≡ bytes → 5 ≤ length found
document_least bytes found spelled is =
    let no : length found < 5 → ⊥ = λ lt. not_there spelled (λ s. omega (arith, lt, ap length is, ap length s.1.parts, length-document (elements s.0))) in
    omega (arith, no)

-- what stands between the length of a document and its last 00
pub between : (t : Tree) (bytes : List ℕ) → bytes ≡ document (elements t) → take (length bytes - 1 - 4) (drop 4 bytes) ≡ elements t
between t bytes is =
    let size : length (elements t) ≡ length bytes - 1 - 4 = omega (arith, ap length is, length-document (elements t)) in
    let behind : drop 4 bytes ≡ elements t ++ 0 ∷ [] = ap (drop 4) is ∙ drop_at (little (length (elements t) + 5)) (elements t ++ 0 ∷ []) 4 refl in
    ap (take (length bytes - 1 - 4)) behind ∙ take_at (elements t) (0 ∷ []) (length bytes - 1 - 4) size

pub db_appended : (database : List ℕ) (t : Tree) (len : ℕ) (bytes inside old one two three new : List ℕ) → bytes ≡ document (elements t) → len ≡ length bytes + 10 + length database → inside ≡ elements t
    → one ≡ old ++ little len → two ≡ one ++ inside → three ≡ two ++ db_element database → new ≡ three ++ 0 ∷ [] → new ≡ old ++ document (elements (with_db_appended database t))
db_appended database t len bytes inside old one two three new is size inside_is a b d e =
    let all : List ℕ = elements (with_db_appended database t) in
    let joined : inside ++ (db_element database ++ 0 ∷ []) ≡ all ++ 0 ∷ [] =
    ap (λ (x : List ℕ). x ++ (db_element database ++ 0 ∷ [])) inside_is ∙ sym (append_assoc (elements t) (db_element database) (0 ∷ [])) ∙ ap (λ (x : List ℕ). x ++ 0 ∷ []) (sym (elements-with_db_appended database t)) in
    let n : len ≡ length all + 5 = omega (arith, size, ap length is, length-with_db_appended database t, length-document all) in
    then_more old (little len) (inside ++ (db_element database ++ 0 ∷ [])) one new a (then_more one inside (db_element database ++ 0 ∷ []) two new b (then_more two (db_element database) (0 ∷ []) three new d e))
    ∙ ap (λ (x : List ℕ). old ++ (little len ++ x)) joined
    ∙ ap (λ (k : ℕ). old ++ (little k ++ (all ++ 0 ∷ []))) n

-- ---- names

among_front : (name : List ℕ) (seen rest : List (List ℕ)) → is_among name (seen ++ rest) ≡ false → is_among name seen ≡ false
among_front name [] rest none = refl
among_front name (n ∷ ns) rest none =
    elim (cases_Bool (bytes_eq n name)) [
      | inl same ↦ let no : true ≡ false = (rw same at none) in absurd cc
      | inr other ↦ rw other (among_front name ns rest (rw other at none))
    ]

passed : (seen : List (List ℕ)) (n : List ℕ) (ps : Tree) → is_among (codes "$db") (seen ++ n ∷ names_of ps) ≡ false → is_among (codes "$db") ((seen ++ n ∷ []) ++ names_of ps) ≡ false
passed seen n ps none = ap (is_among (codes "$db")) (append_assoc seen (n ∷ []) (names_of ps)) ∙ none

once_more : (database : List ℕ) (seen : List (List ℕ)) (t : Tree) → first_repeated seen t ≡ None → is_among (codes "$db") (seen ++ names_of t) ≡ false → first_repeated seen (with_db_appended database t) ≡ None
once_more database seen no_pairs once none = rw (among_front (codes "$db") seen [] none) refl
once_more database seen (leaf_pair n k v ps) once none =
    elim (cases_Bool (is_among n seen)) [
      | inl twice ↦ let no : Some n ≡ None = (rw twice at once) in absurd cc
      | inr new ↦ rw new (once_more database (seen ++ n ∷ []) ps (rw new at once) (passed seen n ps none))
    ]
once_more database seen (inner_pair n k b inner ps) once none =
    elim (cases_Bool (is_among n seen)) [
      | inl twice ↦ let no : Some n ≡ None = (rw twice at once) in absurd cc
      | inr new ↦ rw new (once_more database (seen ++ n ∷ []) ps (rw new at once) (passed seen n ps none))
    ]

-- ---- the pairs are those of a document

-- a database's name is text, since what follows it in the collection's full name is
database_text : (database : List ℕ) → IsDatabase database → IsUtf8 database
unfolding lib.Utf8.encode
database_text database is =
    let all : List ℕ = command_name database in
    let seam = IsCharBoundary-at_seam all database (codes ".$cmd") refl ((codes ".$cmd", (refl, refl))) in
    subst IsUtf8 (take_at database (codes ".$cmd") (length database) refl) (IsUtf8-take all (length database) is.full_name.is_text seam)

db_name : IsName (codes "$db")
unfolding lib.Utf8.encode
db_name = record { is_text = (codes "$db", (refl, refl)); no_zero = (λ e. absurd cc, (λ e. absurd cc, (λ e. absurd cc, tt))) }

Fits-with_db_appended : (depth : ℕ) (database : List ℕ) (t : Tree) → IsUtf8 database → length database + 1 < 2 ^ 31 → Fits depth t → Fits depth (with_db_appended database t)
Fits-with_db_appended depth database no_pairs text short f = (db_name, record { is_text = text; short = short }, tt)
Fits-with_db_appended depth database (leaf_pair n k v ps) text short f = (f.0, f.1, Fits-with_db_appended depth database ps text short f.2)
Fits-with_db_appended depth database (inner_pair n k b inner ps) text short f = (f.0, f.1, f.2, f.3, f.4, Fits-with_db_appended depth database ps text short f.5)

pub is_command : (database : List ℕ) (t : Tree) → IsDatabase database → length (document (elements t)) + 10 + length database < 2 ^ 31 → IsCommand t → IsCommand (with_database database t)
is_command database t is short command =
    elim (cases_Bool (names_database t)) [
      | inl named ↦ rw named command
      | inr unnamed ↦ rw unnamed (record {
        document = record {
          parts = refl;
          short = omega (arith, short, length-with_db_appended database t);
          fits = Fits-with_db_appended 1 database t (database_text database is) (omega (arith, short)) command.document.fits;
        };
        unique = once_more database [] t command.unique unnamed;
      })
    ]
