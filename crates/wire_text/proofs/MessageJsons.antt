-- A message as JSON, piece by piece.
use Rattle.std.proofs.Common.{◌≡◌, ◌++◌, [], ◌∷◌, ℕ, ℤ, List, Option, Result, OnOk, refl, sym, subst, ◌∙◌, append_assoc, append-nil, codes}
use Rattle.std.specs.Fmt.{decimal, signed_decimal}
use Rattle.std.specs.Io.KnownBytes.{Appends}
use Rattle.wire_msg.specs.Messages.{Message}
use Rattle.wire_msg.specs.Spelling.{message_len}
use Rattle.wire_text.specs.MessageJson.{AreItems, header_json}

-- the numbers of a header
abbrev header_text : ℕ → ℤ → ℤ → List ℕ
header_text size id to =
    codes "\"messageLength\":" ++ (decimal size ++ (codes ",\"requestID\":" ++ (signed_decimal id ++ (codes ",\"responseTo\":" ++ signed_decimal to))))

header_is : (size n : ℕ) (id i to t : ℤ) → size ≡ n → id ≡ i → to ≡ t → header_text size id to ≡ header_text n i t
header_is size n id i to t a b d = rw (a, b, d) refl

pub header_written : {E : Type 0} (r : Result (Unit {0}) E) (a b : Option (List ℕ)) (size : ℕ) (id to : ℤ) (n : ℕ) (m : Message)
    → size ≡ n → n ≡ message_len m.content → id ≡ m.id → to ≡ m.response_to
    → OnOk r (Appends a b (header_text size id to)) → OnOk r (Appends a b (header_json m))
header_written r a b size id to n m e len f g p =
    subst (λ (x : List ℕ). OnOk r (Appends a b x)) (header_is size (message_len m.content) id m.id to m.response_to (e ∙ len) f g) p

-- What was written, of which any text of the items that are left makes a text of all.
abbrev pub Leads : {A : Type 0} → (A → List ℕ → Type 0) → List ℕ → List A → List A → List ℕ → Type 0
Leads IsText before all left text =
    (rest : List ℕ) → AreItems IsText before left rest → AreItems IsText [] all (text ++ rest)

-- an item more
pub item_more : {A : Type 0} (IsText : A → List ℕ → Type 0) (before : List ℕ) (all left others : List A) (x : A) (text front first : List ℕ)
    → left ≡ x ∷ others → front ≡ before → IsText x first → Leads IsText before all left text
    → Leads IsText (codes ",") all others (text ++ (front ++ first))
item_more {A} IsText before all left others x text front first is same p leads rest q =
    let more : AreItems IsText before left (before ++ (first ++ rest)) =
    subst (λ (xs : List A). AreItems IsText before xs (before ++ (first ++ rest))) (sym is) (first, rest, p, q, refl) in
    subst (AreItems IsText [] all) (rw same (sym (append_assoc text (before ++ first) rest ∙ rw (append_assoc before first rest) refl))) (leads (before ++ (first ++ rest)) more)

-- no item is left
pub none_left : {A : Type 0} (IsText : A → List ℕ → Type 0) (before : List ℕ) (all left : List A) (text : List ℕ)
    → left ≡ [] → Leads IsText before all left text → AreItems IsText [] all text
none_left {A} IsText before all left text none leads =
    let end : AreItems IsText before left [] = subst (λ (xs : List A). AreItems IsText before xs []) (sym none) refl in
    subst (AreItems IsText [] all) (append-nil text) (leads [] end)
