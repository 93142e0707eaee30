-- The numbers and the parts of a message, added one after another; a byte list is at most one reply.
use Rattle.std.proofs.Common.{◌≡◌, ℕ, ℤ, List, [], ◌++◌, length, take, drop, refl, sym, ap, ◌∙◌, arith, FitsSigned}
use Rattle.std.specs.Int.{w32, w64, from_le_bytes, cast_signed, cast_unsigned}
use Rattle.std.proofs.Math.Facts.{Fits-of_z}
use Rattle.std.proofs.lemmas.Int.{to_z-of_z}
use Rattle.std.proofs.lemmas.List.{take_at, drop_at, append-nil}
use Rattle.std.proofs.lemmas.Nat.{from_le_bytes-to_le_bytes_8}
use Rattle.bson_elem.specs.Trees.{Tree}
use Rattle.bson_elem.specs.Spelling.{little, document, elements}
use Rattle.bson_elem.proofs.Lemmas.{same_front}
use Rattle.wire_msg.proofs.Lemmas.{five_parts, here, past, number_is, signed_is, then_more}
use Rattle.wire_query.specs.declared.reply.ReplyHead.{ReplyHead}
use Rattle.wire_query.specs.Spelling.{signed, header_bytes}
use Rattle.wire_query.specs.Replies.{long, numbers_bytes, reply_bytes, reply_len, IsReply}

-- ---- bytes added

pub header_added : (len : ℕ) (id response_to : ℤ) (opcode : ℕ) (old one two three new : List ℕ) → one ≡ old ++ little len → two ≡ one ++ signed id → three ≡ two ++ signed response_to → new ≡ three ++ little opcode → new ≡ old ++ header_bytes len id response_to opcode
unfolding header_bytes
header_added len id response_to opcode old one two three new a b d e =
    then_more old (little len) (signed id ++ (signed response_to ++ little opcode)) one new a (then_more one (signed id) (signed response_to ++ little opcode) two new b (then_more two (signed response_to) (little opcode) three new d e))

pub numbers_added : (h : ReplyHead) (old one two three new : List ℕ) → one ≡ old ++ little h.flags → two ≡ one ++ long h.cursor_id → three ≡ two ++ signed h.starting_from → new ≡ three ++ little 1 → new ≡ old ++ numbers_bytes h
unfolding numbers_bytes
numbers_added h old one two three new a b d e =
    then_more old (little h.flags) (long h.cursor_id ++ (signed h.starting_from ++ little 1)) one new a (then_more one (long h.cursor_id) (signed h.starting_from ++ little 1) two new b (then_more two (signed h.starting_from) (little 1) three new d e))

pub same_header : (len : ℕ) (i id r response_to : ℤ) (opcode : ℕ) → i ≡ id → r ≡ response_to → header_bytes len i r opcode ≡ header_bytes len id response_to opcode
same_header len i id r response_to opcode e f = ap (λ (z : ℤ). header_bytes len z r opcode) e ∙ ap (λ (z : ℤ). header_bytes len id z opcode) f

pub reply_added : (h : ReplyHead) (t : Tree) (len : ℕ) (d old one two new : List ℕ) → d ≡ document (elements t) → len ≡ reply_len t → one ≡ old ++ header_bytes len h.id h.response_to 1 → two ≡ one ++ numbers_bytes h → new ≡ two ++ d → new ≡ old ++ reply_bytes h t
unfolding reply_bytes
reply_added h t len d old one two new is size a b e =
    then_more old (header_bytes len h.id h.response_to 1) (numbers_bytes h ++ d) one new a (then_more one (numbers_bytes h) d two new b e)
    ∙ ap (λ (n : ℕ). old ++ (header_bytes n h.id h.response_to 1 ++ (numbers_bytes h ++ d))) size
    ∙ ap (λ (x : List ℕ). old ++ (header_bytes (reply_len t) h.id h.response_to 1 ++ (numbers_bytes h ++ x))) is

-- ---- a reply as its bytes are read

pub length-reply : (h : ReplyHead) (t : Tree) → length (reply_bytes h t) ≡ reply_len t
unfolding header_bytes numbers_bytes reply_bytes
length-reply h t = omega arith

long_is : (bytes rest : List ℕ) (z : ℤ) → FitsSigned w64 z → bytes ≡ long z ++ rest → cast_signed w64 (from_le_bytes w64 (take 8 bytes)) ≡ z
long_is bytes rest z f is =
    ap (λ (x : List ℕ). cast_signed w64 (from_le_bytes w64 x)) (ap (take 8) is ∙ take_at (long z) rest 8 refl)
    ∙ ap (cast_signed w64) (from_le_bytes-to_le_bytes_8 (cast_unsigned w64 z) (Fits-of_z {w = w64} {z = z} f).fits) ∙ to_z-of_z w64 z f

-- what follows the flags
abbrev tail : ReplyHead → Tree → List ℕ
tail h t = long h.cursor_id ++ (signed h.starting_from ++ (little 1 ++ document (elements t)))

record ReplyRead (bytes : List ℕ) (h : ReplyHead) (t : Tree) : Type 0 where
  id : cast_signed w32 (from_le_bytes w32 (take 4 (drop 4 bytes))) ≡ h.id
  response_to : cast_signed w32 (from_le_bytes w32 (take 4 (drop 8 bytes))) ≡ h.response_to
  flags : from_le_bytes w32 (take 4 (drop 16 bytes)) ≡ h.flags
  cursor_id : cast_signed w64 (from_le_bytes w64 (take 8 (drop 20 bytes))) ≡ h.cursor_id
  starting_from : cast_signed w32 (from_le_bytes w32 (take 4 (drop 0 (drop 8 (drop 20 bytes))))) ≡ h.starting_from
  behind : drop 8 (drop 8 (drop 20 bytes)) ≡ document (elements t)

reply_read : (bytes : List ℕ) (h : ReplyHead) (t : Tree) → IsReply h t → bytes ≡ reply_bytes h t → ReplyRead bytes h t
unfolding header_bytes numbers_bytes reply_bytes
reply_read bytes h t r is =
    let d : List ℕ = document (elements t) in
    let p = five_parts bytes (little (reply_len t)) (signed h.id) (signed h.response_to) (little 1) (little h.flags) (tail h t) is refl refl refl refl refl in
    let after : drop 8 (drop 20 bytes) ≡ signed h.starting_from ++ (little 1 ++ d) = ap (drop 8) p.after ∙ drop_at (long h.cursor_id) (signed h.starting_from ++ (little 1 ++ d)) 8 refl in
    let last = past (drop 8 (drop 20 bytes)) (signed h.starting_from) (little 1 ++ d) 0 refl after in
    record {
      id = signed_is bytes 4 h.id r.id p.second;
      response_to = signed_is bytes 8 h.response_to r.response_to p.third;
      flags = number_is bytes 16 h.flags r.flags p.fifth;
      cursor_id = long_is (drop 20 bytes) (signed h.starting_from ++ (little 1 ++ d)) h.cursor_id r.cursor_id p.after;
      starting_from = signed_is (drop 8 (drop 20 bytes)) 0 h.starting_from r.starting_from (here (drop 8 (drop 20 bytes)) (signed h.starting_from) (little 1 ++ d) 0 refl after);
      behind = past (drop 8 (drop 20 bytes)) (little 1) d 4 refl last;
    }

abbrev head : ℤ → ℤ → ℕ → ℤ → ℤ → ReplyHead
head id response_to flags cursor_id starting_from = record { id = id; response_to = response_to; flags = flags; cursor_id = cursor_id; starting_from = starting_from }

same_head : (i i' r r' : ℤ) (f f' : ℕ) (k k' s s' : ℤ) → i ≡ i' → r ≡ r' → f ≡ f' → k ≡ k' → s ≡ s' → head i r f k s ≡ head i' r' f' k' s'
same_head i i' r r' f f' k k' s s' a b c d e = rw (a, b, c, d, e) refl

pub one_reply : (h k : ReplyHead) (t u : Tree) → IsReply h t → IsReply k u → reply_bytes h t ≡ reply_bytes k u → (h ≡ k) × (t ≡ u)
one_reply h k t u r s same =
    let bytes : List ℕ = reply_bytes h t in
    let a = reply_read bytes h t r refl in
    let b = reply_read bytes k u s same in
    let x : List ℕ = document (elements t) in
    let y : List ℕ = document (elements u) in
    let documents = same_front x t u x y [] [] r.document s.document (sym (append-nil x)) (sym a.behind ∙ b.behind ∙ sym (append-nil y)) in (
      same_head h.id k.id h.response_to k.response_to h.flags k.flags h.cursor_id k.cursor_id h.starting_from k.starting_from
          (sym a.id ∙ b.id) (sym a.response_to ∙ b.response_to) (sym a.flags ∙ b.flags) (sym a.cursor_id ∙ b.cursor_id) (sym a.starting_from ∙ b.starting_from),
      documents.0,
    )
