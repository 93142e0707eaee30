-- What was read is held, and nothing of it is lost.
use Rattle.std.proofs.Common.{◌≡◌, ◌++◌, ◌∙◌, ℕ, List, ap, append_assoc, drop, sym, take, take-append-drop}

-- more came behind what was read
pub pulled : (a more h p more' p' : List ℕ) → a ++ more ≡ h ++ p → p' ≡ p ++ more' → a ++ (more ++ more') ≡ h ++ p'
pulled a more h p more' p' e f =
    sym (append_assoc a more more') ∙ ap (λ (l : List ℕ). l ++ more') e ∙ append_assoc h p more' ∙ ap (λ (l : List ℕ). h ++ l) (sym f)

-- and the first bytes of it went on
pub fed : (a more h p more' p' h' p'' : List ℕ) (n : ℕ) → a ++ more ≡ h ++ p → p' ≡ p ++ more' → h' ≡ h ++ take n p' → p'' ≡ drop n p' → a ++ (more ++ more') ≡ h' ++ p''
fed a more h p more' p' h' p'' n e f k d =
    pulled a more h p more' p' e f ∙ ap (λ (l : List ℕ). h ++ l) (sym (take-append-drop n p')) ∙ sym (append_assoc h (take n p') (drop n p'))
    ∙ ap (λ (l : List ℕ). l ++ drop n p') (sym k) ∙ ap (λ (l : List ℕ). h' ++ l) (sym d)
