-- The text of a message, piece by piece.
use Rattle.std.proofs.Common.{◌≡◌, ◌++◌, ℕ, ℤ, List, Option, Result, Ok, Err, OnOk, length, refl, sym, ap, subst, ◌∙◌, append_assoc, codes}
use Rattle.std.specs.Fmt.{decimal, signed_decimal}
use Rattle.std.specs.Io.KnownBytes.{Appends}
use Rattle.std.proofs.KnownBytes.{Appends-trans}
use Rattle.bson_elem.specs.Trees.{Tree}
use Rattle.bson_elem.specs.Spelling.{Spells}
use Rattle.bson_text.specs.Dump.{document_size, element_lines}
use Rattle.wire_msg.specs.Messages.{Message}
use Rattle.wire_msg.specs.Spelling.{message_len}
use Rattle.wire_text.specs.MessageText.{flags_text, member_text, message_line}

-- a piece is written, and then another
pub two_written : {E : Type 0} (r : Result (Unit {0}) E) (a b c : Option (List ℕ)) (first second : List ℕ)
    → Appends a b first → OnOk r (Appends b c second) → OnOk r (Appends a c (first ++ second))
two_written (Err e) a b c first second p q = tt
two_written (Ok x) a b c first second p q = Appends-trans a b c first second p q

-- the first line of a message, by its numbers and the word of its flags
abbrev first_line : ℕ → ℤ → ℤ → List ℕ → List ℕ
first_line size id to flags =
    codes "message " ++ (decimal size ++ (codes " id " ++ (signed_decimal id ++ (codes " to " ++ (signed_decimal to ++ (codes " flags " ++ (flags ++ codes "\n")))))))

line_is : (size n : ℕ) (id i to t : ℤ) (flags f : List ℕ) → size ≡ n → id ≡ i → to ≡ t → flags ≡ f → first_line size id to flags ≡ first_line n i t f
line_is size n id i to t flags f a b d e = rw (a, b, d, e) refl

-- the first line of a message
pub line_written : {E : Type 0} (r : Result (Unit {0}) E) (a b : Option (List ℕ)) (size : ℕ) (id to : ℤ) (flags : List ℕ) (n : ℕ) (m : Message)
    → size ≡ n → n ≡ message_len m.content → id ≡ m.id → to ≡ m.response_to → flags ≡ flags_text m.flags
    → OnOk r (Appends a b (first_line size id to flags)) → OnOk r (Appends a b (message_line m))
line_written r a b size id to flags n m e len f g h p =
    subst (λ (x : List ℕ). OnOk r (Appends a b x)) (line_is size (message_len m.content) id m.id to m.response_to flags (flags_text m.flags) (e ∙ len) f g h) p

-- the line of a document's size, and those of its elements
pub member_written : {E : Type 0} (r : Result (Unit {0}) E) (a b c : Option (List ℕ)) (t : Tree) (bytes : List ℕ) → Spells t bytes
    → Appends a b (codes "  document " ++ (decimal (length bytes) ++ codes "\n")) → OnOk r (Appends b c (element_lines 2 t)) → OnOk r (Appends a c (member_text t))
member_written r a b c t bytes s p q =
    let size : length bytes ≡ document_size t = ap length s.parts in
    subst (λ (x : List ℕ). OnOk r (Appends a c (codes "  document " ++ x)))
    (append_assoc (decimal (length bytes)) (codes "\n") (element_lines 2 t) ∙ ap (λ (n : ℕ). decimal n ++ (codes "\n" ++ element_lines 2 t)) size)
    (two_written r a b c (codes "  document " ++ (decimal (length bytes) ++ codes "\n")) (element_lines 2 t) p q)

-- what was written before, what was written now, and what is left
pub text_so_far : (all text now rest first : List ℕ) → all ≡ text ++ first → first ≡ now ++ rest → all ≡ (text ++ now) ++ rest
text_so_far all text now rest first e f = e ∙ ap (λ (x : List ℕ). text ++ x) f ∙ sym (append_assoc text now rest)
