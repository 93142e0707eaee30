-- Messages that stand in front of bytes are the first of their split.
use Rattle.std.proofs.Common.{◌≡◌, ℕ, List, [], ◌∷◌, ◌++◌, refl, sym, ap, subst, ◌∙◌, append_assoc}
use Rattle.wire_msg.specs.Messages.{Message}
use Rattle.wire_msg.specs.Splits.{AreSpelled, BeginsNone, Split}
use Rattle.wire_msg.proofs.Lemmas.{one_front, msg_are_bytes}

-- what a split has besides these messages
abbrev pub Others : ℕ → List Message → List Message → List ℕ → List ℕ → Type 0
Others limit ms all rest left = (others : List Message) × (all ≡ ms ++ others) × Split limit rest others left

one_more : (limit : ℕ) (m : Message) (ms all : List Message) (rest left : List ℕ) → Others limit ms all rest left → Others limit (m ∷ ms) (m ∷ all) rest left
one_more limit m ms all rest left o = (o.0, ap (λ (x : List Message). m ∷ x) o.1, o.2)

in_front : (limit : ℕ) (ms ns : List Message) (j k rest left : List ℕ) → AreSpelled limit ms j → AreSpelled limit ns k → j ++ rest ≡ k ++ left → BeginsNone limit left → Others limit ms ns rest left
in_front limit [] ns j k rest left a b is none =
    (ns, refl, record { joined = k; spelled = b; parts = sym (ap (λ (x : List ℕ). x ++ rest) a) ∙ is; ends = none })
in_front limit (m ∷ ms) [] j k rest left a b is none =
    let whole : left ≡ a.0 ++ (a.1 ++ rest) = sym (is ∙ ap (λ (x : List ℕ). x ++ left) b) ∙ ap (λ (x : List ℕ). x ++ rest) a.4 ∙ append_assoc a.0 a.1 rest in
    absurd (none m (a.1 ++ rest) (record { front = a.0; parts = whole; spelled = a.2.0; within = a.2.1 }))
in_front limit (m ∷ ms) (n ∷ ns) j k rest left a b is none =
    let whole : a.0 ++ (a.1 ++ rest) ≡ b.0 ++ (b.1 ++ left) = sym (append_assoc a.0 a.1 rest) ∙ ap (λ (x : List ℕ). x ++ rest) (sym a.4) ∙ is ∙ ap (λ (x : List ℕ). x ++ left) b.4 ∙ append_assoc b.0 b.1 left in
    let same = one_front m n a.0 b.0 (a.1 ++ rest) (b.1 ++ left) (msg_are_bytes m a.0 a.2.0) a.2.0 b.2.0 whole in
    let o = in_front limit ms ns a.1 b.1 rest left a.3 b.3 same.2 none in
    subst (λ (x : Message). Others limit (m ∷ ms) (x ∷ ns) rest left) same.0 (one_more limit m ms ns rest left o)

-- messages in front of bytes are the first of each split of them, and the others split what is behind
pub first_of_split : (limit : ℕ) (ms all : List Message) (j rest left : List ℕ) → AreSpelled limit ms j → Split limit (j ++ rest) all left → Others limit ms all rest left
first_of_split limit ms all j rest left a s = in_front limit ms all j s.joined rest left a s.spelled s.parts s.ends
