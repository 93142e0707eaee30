-- The first fault: there is at most one, a query has none, and its offset is within the bytes.
use Rattle.std.proofs.Common.{◌≡◌, ℕ, ◌+◌, ◌≤◌, List, [], ◌∷◌, length, drop, Result, Ok, Err, None, sym, ap, subst, ◌∙◌, arith, length-append, length-drop}
use Rattle.std.proofs.lemmas.List.{append-nil}
use Rattle.bson_elem.specs.declared.fault.BsonCause.{BsonCause}
use Rattle.bson_elem.specs.declared.fault.BsonFault.{BsonFault}
use Rattle.bson_elem.specs.Trees.{Tree}
use Rattle.bson_elem.specs.Spelling.{IsBytes, cstring, document, elements}
use Rattle.bson_elem.specs.Checks.{cstring_at}
use Rattle.bson_elem.proofs.Lemmas.{IsBytes-drop, cstring_takes, no_front, ok_is, one_front, same_front}
use Rattle.bson_raw.specs.Pairs.{first_repeated}
use Rattle.wire_msg.specs.Header.{number_at}
use Rattle.wire_query.specs.declared.fault.QueryFault.{QueryFault}
use Rattle.wire_query.specs.declared.fault.QueryCause.{QueryCause}
use Rattle.wire_query.specs.declared.fault.QueryCause.TheVariants as causes
use Rattle.wire_query.specs.Causes.{query_fault}
use Rattle.wire_query.specs.Queries.{Query, command_name}
use Rattle.wire_query.specs.Spelling.{IsOneDocument, SpellsQuery}
use Rattle.wire_query.specs.Faults.{Check, fails, holds, CommandFault, of_document, behind_document, NumbersFault, IsOfCommands, NameFault, of_name, behind_name, IsWholeLength, opcode_of, FaultQuery}
use Rattle.wire_query.specs.Checks.{HasCommand}
use Rattle.wire_query.proofs.ReadLaws.{numbers, query_read, numbers_read}

-- ---- one check

one_of : {P A B : Type 0} {own f g : QueryFault} → (P → A → B → f ≡ g) → Check P own f A → Check P own g B → f ≡ g
one_of later (fails failed e) (fails failed' e') = e ∙ sym e'
one_of later (fails failed e) (holds p b) = absurd (failed p)
one_of later (holds p a) (fails failed e) = absurd (failed p)
one_of later (holds p a) (holds p' b) = later p a b

none_of : {P A : Type 0} {own f : QueryFault} → P → (A → ⊥) → Check P own f A → ⊥
none_of p later (fails failed e) = failed p
none_of p later (holds p' a) = later a

within : {P A : Type 0} {f : QueryFault} (at : ℕ) (c : QueryCause) (last : ℕ) → at ≤ last → (P → A → f.at ≤ last) → Check P (query_fault at c) f A → f.at ≤ last
within at c last low later (fails failed e) = omega (arith, ap (λ (g : QueryFault). g.at) e, low)
within at c last low later (holds p a) = later p a

-- ---- the command

-- the checks after a document
abbrev Behind : ℕ → Tree → List ℕ → QueryFault → Type 0
Behind p body rest f = Check (rest ≡ []) (query_fault (p + length (document (elements body))) causes.TrailingBytes) f (Check (first_repeated [] body ≡ None) (query_fault p causes.RepeatedField) f ⊥)

one_command_fault : (p : ℕ) (bytes : List ℕ) (f g : QueryFault) → IsBytes bytes → CommandFault p bytes f → CommandFault p bytes g → f ≡ g
one_command_fault p bytes f g fits (of_document inner front e) (of_document inner' front' e') = e ∙ ap (λ (i : BsonFault). query_fault p (causes.Document i)) (one_front bytes inner inner' fits front front') ∙ sym e'
one_command_fault p bytes f g fits (of_document inner front e) (behind_document body rest d is check) = absurd (no_front bytes body (document (elements body)) rest inner fits d is front)
one_command_fault p bytes f g fits (behind_document body rest d is check) (of_document inner front e) = absurd (no_front bytes body (document (elements body)) rest inner fits d is front)
one_command_fault p bytes f g fits (behind_document body rest d is check) (behind_document body' rest' d' is' check') =
    let same = same_front bytes body body' (document (elements body)) (document (elements body')) rest rest' d d' is is' in
    let other : Behind p body rest g = subst (λ (x : List ℕ). Behind p body x g) (sym same.1) (subst (λ (t : Tree). Behind p t rest' g) (sym same.0) check') in
    one_of (λ none a b. one_of (λ unique x y. absurd x) a b) check other

no_command_fault : (p : ℕ) (bytes : List ℕ) (f : QueryFault) → IsBytes bytes → HasCommand bytes → CommandFault p bytes f → ⊥
no_command_fault p bytes f fits h (of_document inner front e) = no_front bytes h.body (document (elements h.body)) [] inner fits h.is.document (h.parts ∙ sym (append-nil (document (elements h.body)))) front
no_command_fault p bytes f fits h (behind_document body rest d is check) =
    let same = same_front bytes h.body body (document (elements h.body)) (document (elements body)) [] rest h.is.document d (h.parts ∙ sym (append-nil (document (elements h.body)))) is in
    none_of (sym same.1) (none_of (subst (λ (t : Tree). first_repeated [] t ≡ None) same.0 h.is.unique) (λ x. x)) check

command_offset : (p : ℕ) (bytes : List ℕ) (f : QueryFault) → CommandFault p bytes f → f.at ≤ p + length bytes
command_offset p bytes f (of_document inner front e) = omega (arith, ap (λ (g : QueryFault). g.at) e)
command_offset p bytes f (behind_document body rest d is check) =
    within _ causes.TrailingBytes (p + length bytes) (omega (arith, ap length is, length-append (document (elements body)) rest))
    (λ none a. within p causes.RepeatedField (p + length bytes) (omega arith) (λ unique x. absurd x) a) check

-- ---- the numbers

one_numbers_fault : (p : ℕ) (bytes : List ℕ) (f g : QueryFault) → IsBytes bytes → NumbersFault p bytes f → NumbersFault p bytes g → f ≡ g
one_numbers_fault p bytes f g fits a b =
    one_of (λ _ a b. one_of (λ _ a b. one_of (λ _ a b. one_command_fault (p + 8) (drop 8 bytes) f g (IsBytes-drop 8 bytes fits) a b) a b) a b) a b

no_numbers_fault : (p : ℕ) (bytes : List ℕ) (f : QueryFault) → IsBytes bytes → 8 ≤ length bytes → number_at bytes 0 ≡ 0 → IsOneDocument (number_at bytes 4) → HasCommand (drop 8 bytes) → NumbersFault p bytes f → ⊥
no_numbers_fault p bytes f fits eight skip one command =
    none_of eight (none_of skip (none_of one (no_command_fault (p + 8) (drop 8 bytes) f (IsBytes-drop 8 bytes fits) command)))

numbers_offset : (p : ℕ) (bytes : List ℕ) (f : QueryFault) → NumbersFault p bytes f → f.at ≤ p + length bytes
numbers_offset p bytes f =
    within p causes.Truncated (p + length bytes) (omega arith)
    (λ eight. within p causes.Skip (p + length bytes) (omega arith)
    (λ skip. within (p + 4) causes.Count (p + length bytes) (omega (arith, eight))
    (λ one a. omega (arith, eight, command_offset (p + 8) (drop 8 bytes) f a, length-drop 8 bytes))))

-- ---- the name

abbrev read_ok : List ℕ → List ℕ → Result (List ℕ × List ℕ) BsonCause
read_ok name rest = Ok (name, rest)

abbrev read_err : BsonCause → Result (List ℕ × List ℕ) BsonCause
read_err c = Err c

-- the checks after a name
abbrev Named : List ℕ → List ℕ → QueryFault → Type 0
Named name rest f = Check (IsOfCommands name) (query_fault 20 causes.Collection) f (NumbersFault (21 + length name) rest f)

rest_fits : (bytes name rest : List ℕ) → IsBytes bytes → cstring_at bytes ≡ Ok (name, rest) → IsBytes rest
rest_fits bytes name rest fits read = (cstring_takes bytes (name, rest) fits read).0.rest_fits

one_name_fault : (bytes : List ℕ) (f g : QueryFault) → IsBytes bytes → NameFault bytes f → NameFault bytes g → f ≡ g
one_name_fault bytes f g fits (of_name c read e) (of_name c' read' e') = e ∙ sym e'
one_name_fault bytes f g fits (of_name c read e) (behind_name name rest read' check) = let same : read_err c ≡ read_ok name rest = sym read ∙ read' in absurd cc
one_name_fault bytes f g fits (behind_name name rest read check) (of_name c read' e) = let same : read_ok name rest ≡ read_err c = sym read ∙ read' in absurd cc
one_name_fault bytes f g fits (behind_name name rest read check) (behind_name name' rest' read' check') =
    let same = ok_is {E = BsonCause} (name, rest) (name', rest') (sym read ∙ read') in
    let other : Named name rest g = subst (λ (x : List ℕ × List ℕ). Named x.0 x.1 g) (sym same) check' in
    one_of (λ _ a b. one_numbers_fault (21 + length name) rest f g (rest_fits bytes name rest fits read) a b) check other

name_offset : (bytes : List ℕ) (f : QueryFault) → IsBytes bytes → NameFault bytes f → f.at ≤ 20 + length bytes
name_offset bytes f fits (of_name c read e) = omega (arith, ap (λ (g : QueryFault). g.at) e)
name_offset bytes f fits (behind_name name rest read check) =
    let parts = (cstring_takes bytes (name, rest) fits read).0.parts in
    let size : length bytes ≡ length name + 1 + length rest = omega (arith, ap length parts, length-append (cstring name) rest, length-append name (0 ∷ [])) in
    within 20 causes.Collection (20 + length bytes) (omega arith) (λ _ a. omega (arith, size, numbers_offset (21 + length name) rest f a)) check

-- ---- queries

pub one_query_fault : (limit : ℕ) (bytes : List ℕ) (f g : QueryFault) → IsBytes bytes → FaultQuery bytes limit f → FaultQuery bytes limit g → f ≡ g
one_query_fault limit bytes f g fits a b =
    one_of (λ _ a b. one_of (λ _ a b. one_of (λ _ a b. one_of (λ _ a b. one_name_fault (drop 20 bytes) f g (IsBytes-drop 20 bytes fits) a b) a b) a b) a b) a b

pub no_query_fault : (limit : ℕ) (q : Query) (bytes : List ℕ) (f : QueryFault) → IsBytes bytes → SpellsQuery q bytes → length bytes ≤ limit → FaultQuery bytes limit f → ⊥
no_query_fault limit q bytes f fits s le =
    let r = query_read q bytes s in
    let sized : IsWholeLength limit bytes = record { header = omega (arith, r.long); whole = r.len; most = le } in
    none_of sized (none_of r.opcode (none_of r.long (none_of (q.secondary_ok, r.word) (no_name_fault q bytes s f fits))))
  where
    no_name_fault : (q : Query) (bytes : List ℕ) (s : SpellsQuery q bytes) (f : QueryFault) → IsBytes bytes → NameFault (drop 20 bytes) f → ⊥
    no_name_fault q bytes s f fits (of_name c read e) = let same : read_err c ≡ read_ok (command_name q.database) (numbers s.count q.body) = sym read ∙ (query_read q bytes s).name in absurd cc
    no_name_fault q bytes s f fits (behind_name name rest read check) =
        let same = ok_is {E = BsonCause} (name, rest) (command_name q.database, numbers s.count q.body) (sym read ∙ (query_read q bytes s).name) in
        let n = numbers_read rest s.count q.body s.one (ap (λ (x : List ℕ × List ℕ). x.1) same) in
        let command : HasCommand (drop 8 rest) = record { body = q.body; is = s.command; parts = n.behind } in
        none_of (q.database, s.database, ap (λ (x : List ℕ × List ℕ). x.0) same)
        (no_numbers_fault (21 + length name) rest f (rest_fits (drop 20 bytes) name rest (IsBytes-drop 20 bytes fits) read) n.eight n.skip (subst IsOneDocument (sym n.count_is) s.one) command) check

pub query_offset : (limit : ℕ) (bytes : List ℕ) (f : QueryFault) → IsBytes bytes → FaultQuery bytes limit f → f.at ≤ length bytes
query_offset limit bytes f fits =
    within 0 causes.Length (length bytes) (omega arith)
    (λ sized. within 12 (causes.Opcode (opcode_of bytes)) (length bytes) (omega (arith, sized.header))
    (λ _. within 16 causes.Truncated (length bytes) (omega (arith, sized.header))
    (λ long. within 16 causes.Flags (length bytes) (omega (arith, long))
    (λ _ a. omega (arith, long, length-drop 20 bytes, name_offset (drop 20 bytes) f (IsBytes-drop 20 bytes fits) a)))))
