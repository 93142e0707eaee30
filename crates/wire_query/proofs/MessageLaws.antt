-- The message of a query.
use Rattle.std.proofs.Common.{◌≡◌, ℕ, ◌+◌, ◌^◌, ◌<◌, ◌≤◌, true, false, List, [], ◌∷◌, ◌++◌, length, refl, sym, ap, ◌∙◌, append_assoc, subst, arith, length-append, ℤ, FitsSigned, to_z, of_z}
use Rattle.std.specs.Int.{w32, cast_unsigned}
use Rattle.std.proofs.lemmas.Grind.{not_there}
use Rattle.std.proofs.lemmas.Int.{to_z-of_z}
use Rattle.std.proofs.lemmas.List.{append-nil}
use Rattle.bson_elem.specs.Trees.{Tree}
use Rattle.bson_elem.specs.Spelling.{document, elements, Spells}
use Rattle.wire_msg.specs.Messages.{Message, IsContent}
use Rattle.wire_msg.specs.Spelling as messages
use Rattle.wire_msg.specs.Spelling.{body_section, message_bytes, canonical, message_len, SpellsMsg}
use Rattle.wire_msg.specs.Buf.{body_alone}
use Rattle.wire_msg.proofs.Lemmas.{msg_read, length-canonical, canonical_spelled, then_more}
use Rattle.wire_query.specs.Database.{names_database, with_database, with_db_appended}
use Rattle.wire_query.specs.Queries.{Query, message_of}
use Rattle.wire_query.specs.Spelling.{header_bytes, IsSpelledQuery, message_front, SpellsQuery}
use Rattle.wire_query.specs.Checks.{ArePartsOf}
use Rattle.wire_query.proofs.ReadLaws.{query_read}
use Rattle.wire_query.proofs.DatabaseLaws.{is_command, length-with_database}

pub no_message : (q : Query) (m : Message) (bytes : List ℕ) → SpellsQuery q bytes → SpellsMsg m bytes → ⊥
no_message q m bytes s u = omega (arith, ap (cast_unsigned w32) (sym (query_read q bytes s).opcode ∙ (msg_read m bytes u).opcode))

-- ---- lengths

pub length-alone : (t : Tree) → message_len (body_alone t) ≡ 21 + length (document (elements t))
unfolding body_section
length-alone t = omega (arith, length-append (document (elements t)) [])

-- the message's body is longer than the command by the element at most, and the query by more
body_short : (q : Query) (bytes : List ℕ) → SpellsQuery q bytes → length (document (elements (with_database q.database q.body))) + 21 < length bytes
body_short q bytes s = omega (arith, length-with_database q.database q.body, (query_read q bytes s).size)

pub message_spelled : (q : Query) (bytes : List ℕ) → SpellsQuery q bytes → SpellsMsg (message_of q) (canonical (message_of q)) × (length (canonical (message_of q)) < length bytes)
message_spelled q bytes s =
    let body : Tree = with_database q.database q.body in
    let whole = (query_read q bytes s).size in
    let command = is_command q.database q.body s.database (omega (arith, whole, s.short)) s.command in
    let is : IsContent (body_alone body) = record { body = command.document; sequences = tt; unique = command.unique; apart = tt } in
    let size = length-alone body in
    let less = body_short q bytes s in
    let short : message_len (body_alone body) < 2 ^ 31 = omega (arith, size, less, s.short) in
    (canonical_spelled (message_of q) s.id s.response_to is short, omega (arith, length-canonical (message_of q), size, less))

-- ---- the message, written

-- no flag, and the kind byte of a body
abbrev zeros : List ℕ
zeros = 0 ∷ 0 ∷ 0 ∷ 0 ∷ 0 ∷ []

pub front_added : (id response_to : ℤ) (len : ℕ) (old one new : List ℕ) → one ≡ old ++ header_bytes (21 + len) id response_to 2013 → new ≡ one ++ zeros → new ≡ old ++ message_front id response_to len
unfolding message_front
front_added id response_to len old one new a e = then_more old (header_bytes (21 + len) id response_to 2013) zeros one new a e

-- the ids, as numbers of four bytes and back
pub same_front : (q : Query) (i r : ℤ) (len : ℕ) → FitsSigned w32 q.id → FitsSigned w32 q.response_to → i ≡ q.id → r ≡ q.response_to → message_front (to_z w32 (of_z w32 i)) (to_z w32 (of_z w32 r)) len ≡ message_front q.id q.response_to len
same_front q i r len f g a b =
    ap (λ (z : ℤ). message_front (to_z w32 (of_z w32 z)) (to_z w32 (of_z w32 r)) len) a
    ∙ ap (λ (z : ℤ). message_front (to_z w32 (of_z w32 q.id)) (to_z w32 (of_z w32 z)) len) b
    ∙ ap (λ (z : ℤ). message_front z (to_z w32 (of_z w32 q.response_to)) len) (to_z-of_z w32 q.id f)
    ∙ ap (λ (z : ℤ). message_front q.id z len) (to_z-of_z w32 q.response_to g)

-- the body behind it
pub message_added : (q : Query) (t : Tree) (len : ℕ) (d old one new : List ℕ) → t ≡ with_database q.database q.body → d ≡ document (elements t) → len ≡ length d → one ≡ old ++ message_front q.id q.response_to len → new ≡ one ++ d → new ≡ old ++ canonical (message_of q)
unfolding message_front header_bytes message_bytes messages.header_bytes body_section
message_added q t len d old one new body is size a e =
    let u : List ℕ = document (elements (with_database q.database q.body)) in
    let same : d ≡ u = is ∙ ap (λ (x : Tree). document (elements x)) body in
    let sum : 21 + len ≡ length (0 ∷ (u ++ [])) + 20 = omega (arith, size, ap length same, length-append u []) in
    let header : header_bytes (21 + len) q.id q.response_to 2013 ≡ header_bytes (length (0 ∷ (u ++ [])) + 20) q.id q.response_to 2013 = ap (λ (k : ℕ). header_bytes k q.id q.response_to 2013) sum in
    then_more old (message_front q.id q.response_to len) d one new a e
    ∙ ap (λ (x : List ℕ). old ++ ((x ++ zeros) ++ d)) header
    ∙ ap (λ (x : List ℕ). old ++ x) (append_assoc (header_bytes (length (0 ∷ (u ++ [])) + 20) q.id q.response_to 2013) zeros d)
    ∙ ap (λ (x : List ℕ). old ++ (header_bytes (length (0 ∷ (u ++ [])) + 20) q.id q.response_to 2013 ++ (zeros ++ x))) (same ∙ sym (append-nil u))

-- ---- the two bodies

-- the parts of a query are within its bytes
pub parts_short : (bytes database command : List ℕ) → ∥ IsSpelledQuery bytes ∥₁ → ArePartsOf bytes database command → length command + 33 + length database < 2 ^ 31
parts_short bytes database command spelled parts =
    let no : 2 ^ 31 ≤ length command + 33 + length database → ⊥ = λ le. not_there spelled (λ s.
    let p = parts s.0 s.1 in
    let r = query_read s.0 bytes s.1 in
    omega (arith, le, ap length p.0, ap length p.1, r.size, s.1.short)) in
    omega (arith, no)

-- the command of a query is spelled by its part
pub command_spelled : (q : Query) (bytes database command : List ℕ) → SpellsQuery q bytes → ArePartsOf bytes database command → Spells q.body command
command_spelled q bytes database command s parts = subst (Spells q.body) (parts q s).1 s.command.document

pub command_alone : (q : Query) → names_database q.body ≡ true → q.body ≡ with_database q.database q.body
command_alone q named = rw named refl

pub command_and_db : (q : Query) → names_database q.body ≡ false → with_db_appended q.database q.body ≡ with_database q.database q.body
command_and_db q unnamed = rw unnamed refl
