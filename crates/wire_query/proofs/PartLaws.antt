-- Checked parts, put together: they spell a query.
use Rattle.std.proofs.Common.{◌≡◌, ℕ, pos, ◌+◌, ◌≤◌, List, ◌++◌, length, take, drop, Result, Ok, Err, refl, sym, ap, subst, ◌∙◌, append_assoc, arith, length-drop, Fits}
use Rattle.std.specs.Prelude.{MatchResult}
use Rattle.std.specs.Borrow.{Bor}
use Rattle.std.specs.Int.{w32, cast_signed}
use Rattle.std.proofs.Math.Facts.{sfits_to_z}
use Rattle.bson_elem.specs.Spelling.{IsBytes, little, cstring, document, elements}
use Rattle.bson_elem.proofs.Lemmas.{IsBytes-drop, cstring_takes}
use Rattle.bson_raw.specs.declared.document.RawDocument.{RawDocument}
use Rattle.bson_raw.specs.RawDocument.{document_bytes}
use Rattle.wire_msg.specs.Header.{number_at}
use Rattle.wire_msg.proofs.Lemmas.{number_fits, four_bytes, signed_bytes, split_at}
use Rattle.wire_query.specs.Queries.{Query, command_name}
use Rattle.wire_query.specs.Spelling.{signed, header_bytes, framed_bytes, command_bytes, flag_word, IsOneDocument, SpellsQuery}
use Rattle.wire_query.specs.declared.fault.QueryFault.{QueryFault}
use Rattle.wire_query.specs.Faults.{holds, CommandFault, NumbersFault, NameFault, opcode_of, IsFlagWord, FaultQuery}
use Rattle.wire_query.specs.Checks.{HasHeader, HasCommand, HasNumbers, HasName, HasParts, ArePartsOf}
use Rattle.wire_query.proofs.ReadLaws.{one_query}
use Rattle.wire_msg.specs.declared.header.TheConstants.{MAX_MESSAGE_LEN}

five : (a a' b b' d d' e e' f f' x : List ℕ) → a ≡ a' → b ≡ b' → d ≡ d' → e ≡ e' → f ≡ f' → a ++ (b ++ (d ++ (e ++ (f ++ x)))) ≡ (a' ++ (b' ++ (d' ++ e'))) ++ (f' ++ x)
five a a' b b' d d' e e' f f' x p q r s t =
    rw (p, q, r, s, t)
    (sym (append_assoc a' (b' ++ (d' ++ e')) (f' ++ x) ∙ ap (λ (y : List ℕ). a' ++ y) (append_assoc b' (d' ++ e') (f' ++ x) ∙ ap (λ (y : List ℕ). b' ++ y) (append_assoc d' e' (f' ++ x)))))

-- a header with the opcode of a query, the flags, and what follows them
framed : (bytes : List ℕ) → IsBytes bytes → 20 ≤ length bytes → number_at bytes 0 ≡ length bytes → opcode_of bytes ≡ pos 2004
    → bytes ≡ framed_bytes (cast_signed w32 (number_at bytes 4)) (cast_signed w32 (number_at bytes 8)) (number_at bytes 16) (drop 20 bytes)
unfolding header_bytes framed_bytes
framed bytes fits room whole opcode =
    let size : length (drop 20 bytes) + 20 ≡ number_at bytes 0 = omega (arith, whole, length-drop 20 bytes, room) in
    let a : take 4 bytes ≡ little (length (drop 20 bytes) + 20) = sym (ap little size ∙ four_bytes bytes 0 fits (omega (arith, room))) in
    let e : take 4 (drop 12 bytes) ≡ little 2004 = sym (ap signed (sym opcode) ∙ signed_bytes bytes 12 fits (omega (arith, room))) in
    let cut : bytes ≡ take 4 bytes ++ (take 4 (drop 4 bytes) ++ (take 4 (drop 8 bytes) ++ (take 4 (drop 12 bytes) ++ (take 4 (drop 16 bytes) ++ drop 20 bytes)))) =
    split_at bytes 0 ∙ ap (λ (x : List ℕ). take 4 bytes ++ x) (split_at bytes 4 ∙ ap (λ (x : List ℕ). take 4 (drop 4 bytes) ++ x) (split_at bytes 8 ∙ ap (λ (x : List ℕ). take 4 (drop 8 bytes) ++ x) (split_at bytes 12 ∙ ap (λ (x : List ℕ). take 4 (drop 12 bytes) ++ x) (split_at bytes 16)))) in
    cut ∙ five (take 4 bytes) _ (take 4 (drop 4 bytes)) _ (take 4 (drop 8 bytes)) _ (take 4 (drop 12 bytes)) _ (take 4 (drop 16 bytes)) _ (drop 20 bytes)
    a (sym (signed_bytes bytes 4 fits (omega (arith, room)))) (sym (signed_bytes bytes 8 fits (omega (arith, room)))) e (sym (four_bytes bytes 16 fits (omega (arith, room))))

-- the two numbers, and what follows them
numbered : (bytes : List ℕ) → IsBytes bytes → 8 ≤ length bytes → number_at bytes 0 ≡ 0 → bytes ≡ little 0 ++ (little (number_at bytes 4) ++ drop 8 bytes)
numbered bytes fits eight skip =
    let a : take 4 bytes ≡ little 0 = sym (ap little (sym skip) ∙ four_bytes bytes 0 fits (omega (arith, eight))) in
    let b : take 4 (drop 4 bytes) ≡ little (number_at bytes 4) = sym (four_bytes bytes 4 fits (omega (arith, eight))) in
    split_at bytes 0 ∙ ap (λ (x : List ℕ). take 4 bytes ++ x) (split_at bytes 4 ∙ ap (λ (x : List ℕ). x ++ drop 8 bytes) b) ∙ ap (λ (x : List ℕ). x ++ (little (number_at bytes 4) ++ drop 8 bytes)) a

-- what follows the flags
commanded : (bytes database command : List ℕ) → IsBytes bytes → (h : HasName bytes database command) → bytes ≡ command_bytes database (number_at h.rest 4) h.inner.inner.body
unfolding command_bytes
commanded bytes database command fits h =
    let t = cstring_takes bytes (command_name database, h.rest) fits h.read in
    let body : drop 8 h.rest ≡ document (elements h.inner.inner.body) = sym h.inner.behind ∙ h.inner.inner.parts in
    t.0.parts ∙ ap (λ (x : List ℕ). cstring (command_name database) ++ x) (numbered h.rest t.0.rest_fits h.inner.eight h.inner.none_skipped ∙ ap (λ (x : List ℕ). little 0 ++ (little (number_at h.rest 4) ++ x)) body)

-- the parts spell a query
pub has_parts : (limit : ℕ) (bytes database command : List ℕ) → limit ≤ MAX_MESSAGE_LEN → IsBytes bytes → HasHeader limit bytes → 20 ≤ length bytes → IsFlagWord (number_at bytes 16) → HasName (drop 20 bytes) database command → HasParts limit bytes database command
has_parts limit bytes database command least fits header room flags name =
    let q : Query = record { id = cast_signed w32 (number_at bytes 4); response_to = cast_signed w32 (number_at bytes 8); secondary_ok = flags.0; database = database; body = name.inner.inner.body } in
    let id_fits : Fits w32 (number_at bytes 4) = record { fits = number_fits bytes 4 fits } in
    let to_fits : Fits w32 (number_at bytes 8) = record { fits = number_fits bytes 8 fits } in
    let spelled : SpellsQuery q bytes = record {
      count = number_at name.rest 4;
      parts = framed bytes fits room header.0.whole header.1
          ∙ ap (λ (n : ℕ). framed_bytes q.id q.response_to n (drop 20 bytes)) flags.1
          ∙ ap (framed_bytes q.id q.response_to (flag_word flags.0)) (commanded (drop 20 bytes) database command (IsBytes-drop 20 bytes fits) name);
      short = omega (arith, header.0.most, least);
      id = sfits_to_z id_fits;
      response_to = sfits_to_z to_fits;
      database = name.is;
      one = name.inner.one;
      command = name.inner.inner.is;
    } in
    record { query = q; spelled = spelled; within = header.0.most; database_is = refl; command_is = sym name.inner.inner.parts }

-- they are the parts of whatever query the bytes spell
pub parts_of : (limit : ℕ) (bytes database command : List ℕ) → HasParts limit bytes database command → ArePartsOf bytes database command
parts_of limit bytes database command h q s =
    let same = one_query q h.query bytes s h.spelled in
    (ap (λ (x : Query). x.database) same ∙ h.database_is, ap (λ (x : Query). document (elements x.body)) same ∙ h.command_is)

-- ---- the result of each check, from that of the checks after it

pub numbers_told : (at : ℕ) (bytes behind : List ℕ) (r : Result RawDocument QueryFault) → behind ≡ drop 8 bytes → 8 ≤ length bytes → number_at bytes 0 ≡ 0 → IsOneDocument (number_at bytes 4)
    → MatchResult r (λ d. (document_bytes d ≡ behind) × HasCommand behind) (λ f. CommandFault (at + 8) behind f)
    → MatchResult r (λ d. HasNumbers bytes (document_bytes d)) (λ f. NumbersFault at bytes f)
numbers_told at bytes behind (Ok d) is eight skip one m = record { eight = eight; none_skipped = skip; one = one; behind = m.0 ∙ is; inner = subst HasCommand (sym m.0) m.1 }
numbers_told at bytes behind (Err f) is eight skip one m = holds eight (holds skip (holds one (subst (λ (x : List ℕ). CommandFault (at + 8) x f) is m)))

pub parts_told : (limit : ℕ) (bytes behind : List ℕ) (r : Result (Bor (List ℕ) × RawDocument) QueryFault) → limit ≤ MAX_MESSAGE_LEN → IsBytes bytes → behind ≡ drop 20 bytes → HasHeader limit bytes → 20 ≤ length bytes → IsFlagWord (number_at bytes 16)
    → MatchResult r (λ x. HasName behind x.0.now (document_bytes x.1)) (λ f. NameFault behind f)
    → MatchResult r (λ x. HasParts limit bytes x.0.now (document_bytes x.1)) (λ f. FaultQuery bytes limit f)
parts_told limit bytes behind (Ok x) least fits is header room flags m = has_parts limit bytes x.0.now (document_bytes x.1) least fits header room flags (subst (λ (y : List ℕ). HasName y x.0.now (document_bytes x.1)) is m)
parts_told limit bytes behind (Err f) least fits is header room flags m = holds header.0 (holds header.1 (holds room (holds flags (subst (λ (y : List ℕ). NameFault y f) is m))))
