-- A query as its bytes are read; a byte list spells at most one query.
use Rattle.std.proofs.Common.{◌≡◌, ℕ, ℤ, pos, ◌+◌, ◌^◌, ◌<◌, ◌≤◌, inl, inr, Bool, true, false, List, [], ◌∷◌, ◌++◌, length, take, drop, Ok, refl, sym, ap, ◌∙◌, arith, length-append}
use Rattle.std.specs.Prelude.{codes}
use Rattle.std.specs.Int.{w32, cast_signed}
use Rattle.std.proofs.lemmas.List.{take_at, append-nil}
use Rattle.bson_elem.specs.declared.fault.BsonCause.{BsonCause}
use Rattle.bson_elem.specs.Trees.{Tree}
use Rattle.bson_elem.specs.Spelling.{little, cstring, document, elements}
use Rattle.bson_elem.specs.Checks.{cstring_at}
use Rattle.bson_elem.proofs.Lemmas.{cstring_again, ok_is, same_front}
use Rattle.wire_msg.specs.Header.{number_at}
use Rattle.wire_msg.proofs.Lemmas.{five_parts, here, past, number_is, signed_is}
use Rattle.wire_query.specs.Queries.{Query, command_name}
use Rattle.wire_query.specs.Spelling.{signed, header_bytes, framed_bytes, command_bytes, flag_word, IsOneDocument, SpellsQuery}

-- numberToSkip, numberToReturn and a command
abbrev pub numbers : ℕ → Tree → List ℕ
numbers count body = little 0 ++ (little count ++ document (elements body))

pub record QueryRead (q : Query) (bytes : List ℕ) (s : SpellsQuery q bytes) : Type 0 where
  pub long : 20 ≤ length bytes
  pub size : 34 + length q.database + length (document (elements q.body)) ≡ length bytes
  pub len : number_at bytes 0 ≡ length bytes
  pub id : cast_signed w32 (number_at bytes 4) ≡ q.id
  pub response_to : cast_signed w32 (number_at bytes 8) ≡ q.response_to
  pub opcode : cast_signed w32 (number_at bytes 12) ≡ pos 2004
  pub word : number_at bytes 16 ≡ flag_word q.secondary_ok
  pub name : cstring_at (drop 20 bytes) ≡ Ok (command_name q.database, numbers s.count q.body)

word_fits : (b : Bool) → flag_word b < 2 ^ 32
word_fits true = omega arith
word_fits false = omega arith

pub query_read : (q : Query) (bytes : List ℕ) (s : SpellsQuery q bytes) → QueryRead q bytes s
unfolding header_bytes framed_bytes command_bytes
query_read q bytes s =
    let x : List ℕ = cstring (command_name q.database) ++ numbers s.count q.body in
    let d : List ℕ = document (elements q.body) in
    let p = five_parts bytes (little (length x + 20)) (signed q.id) (signed q.response_to) (little 2004) (little (flag_word q.secondary_ok)) x s.parts refl refl refl refl refl in
    record {
      long = omega (arith, p.size);
      size = omega (arith, p.size, length-append (cstring (command_name q.database)) (numbers s.count q.body), length-append (command_name q.database) (0 ∷ []), length-append q.database (codes ".$cmd"), length-append (little 0) (little s.count ++ d), length-append (little s.count) d);
      len = number_is bytes 0 (length x + 20) (omega (arith, p.size, s.short)) p.first ∙ (let e : length x + 20 ≡ length bytes = omega (arith, p.size) in e);
      id = signed_is bytes 4 q.id s.id p.second;
      response_to = signed_is bytes 8 q.response_to s.response_to p.third;
      opcode = ap (cast_signed w32) (number_is bytes 12 2004 (omega arith) p.fourth);
      word = number_is bytes 16 (flag_word q.secondary_ok) (word_fits q.secondary_ok) p.fifth;
      name = ap cstring_at p.after ∙ cstring_again (command_name q.database) (numbers s.count q.body) s.database.full_name;
    }

-- ---- the numbers in front of a command

pub record NumbersRead (bytes : List ℕ) (count : ℕ) (body : Tree) : Type 0 where
  pub eight : 8 ≤ length bytes
  pub skip : number_at bytes 0 ≡ 0
  pub count_is : number_at bytes 4 ≡ count
  pub behind : drop 8 bytes ≡ document (elements body)

one_fits : (count : ℕ) → IsOneDocument count → count < 2 ^ 32
one_fits count (inl e) = omega (arith, e)
one_fits count (inr e) = omega (arith, e)

pub numbers_read : (bytes : List ℕ) (count : ℕ) (body : Tree) → IsOneDocument count → bytes ≡ numbers count body → NumbersRead bytes count body
numbers_read bytes count body one is =
    let d : List ℕ = document (elements body) in
    let four : drop 4 bytes ≡ little count ++ d = past bytes (little 0) (little count ++ d) 0 refl is in
    record {
      eight = omega (arith, ap length is, length-append (little 0) (little count ++ d), length-append (little count) d);
      skip = number_is bytes 0 0 (omega arith) (here bytes (little 0) (little count ++ d) 0 refl is);
      count_is = number_is bytes 4 count (one_fits count one) (here bytes (little count) d 4 refl four);
      behind = past bytes (little count) d 4 refl four;
    }

-- ---- one query

same_flag : (a b : Bool) → flag_word a ≡ flag_word b → a ≡ b
same_flag true true e = refl
same_flag false false e = refl
same_flag true false e = absurd (omega (arith, e))
same_flag false true e = absurd (omega (arith, e))

pub same_database : (a b : List ℕ) → command_name a ≡ command_name b → a ≡ b
same_database a b e =
    let size : length b ≡ length a = omega (arith, ap length e, length-append a (codes ".$cmd"), length-append b (codes ".$cmd")) in
    sym (take_at a (codes ".$cmd") (length a) refl) ∙ ap (take (length a)) e ∙ take_at b (codes ".$cmd") (length a) size

abbrev query : ℤ → ℤ → Bool → List ℕ → Tree → Query
query id response_to secondary_ok database body = record { id = id; response_to = response_to; secondary_ok = secondary_ok; database = database; body = body }

same_parts : (i i' r r' : ℤ) (s s' : Bool) (d d' : List ℕ) (t t' : Tree) → i ≡ i' → r ≡ r' → s ≡ s' → d ≡ d' → t ≡ t' → query i r s d t ≡ query i' r' s' d' t'
same_parts i i' r r' s s' d d' t t' a b c e f = rw (a, b, c, e, f) refl

pub one_query : (q r : Query) (bytes : List ℕ) → SpellsQuery q bytes → SpellsQuery r bytes → q ≡ r
one_query q r bytes s u =
    let a = query_read q bytes s in
    let b = query_read r bytes u in
    let same = ok_is {E = BsonCause} (command_name q.database, numbers s.count q.body) (command_name r.database, numbers u.count r.body) (sym a.name ∙ b.name) in
    let rest = ap (λ (x : List ℕ × List ℕ). x.1) same in
    let da : List ℕ = document (elements q.body) in
    let db : List ℕ = document (elements r.body) in
    let na = numbers_read (numbers s.count q.body) s.count q.body s.one refl in
    let nb = numbers_read (numbers s.count q.body) u.count r.body u.one rest in
    let body = same_front da q.body r.body da db _ _ s.command.document u.command.document (sym (append-nil da)) (sym na.behind ∙ nb.behind ∙ sym (append-nil db)) in
    same_parts q.id r.id q.response_to r.response_to q.secondary_ok r.secondary_ok q.database r.database q.body r.body
    (sym a.id ∙ b.id) (sym a.response_to ∙ b.response_to) (same_flag q.secondary_ok r.secondary_ok (sym a.word ∙ b.word))
    (same_database q.database r.database (ap (λ (x : List ℕ × List ℕ). x.0) same)) body.0
