-- The bytes of a document that ends.
use Rattle.std.proofs.Common.{◌≡◌, ◌∙◌, ℕ, ◌+◌, ◌-◌, ◌≤◌, List, [], ◌∷◌, ◌++◌, ap, arith, drop, length, take}
use Rattle.std.proofs.lemmas.List.{drop-append-le, length-append, length-drop, take-append-le}
use Rattle.bson_elem.specs.Spelling.{document, little}

pub finished : (start : ℕ) (old mid new : List ℕ) → start + 4 ≤ length old → mid ≡ old ++ 0 ∷ [] → new ≡ take start mid ++ (little (length mid - start) ++ drop (start + 4) mid) → new ≡ take start old ++ document (drop (start + 4) old)
finished start old mid new within is bytes =
    let front : take start mid ≡ take start old = ap (take start) is ∙ take-append-le start old (0 ∷ []) (omega (arith, within)) in
    let rest : drop (start + 4) mid ≡ drop (start + 4) old ++ 0 ∷ [] = ap (drop (start + 4)) is ∙ drop-append-le (start + 4) old (0 ∷ []) within in
    let count : length mid - start ≡ length (drop (start + 4) old) + 5 = omega (arith, within, ap length is, length-append old (0 ∷ []), length-drop (start + 4) old) in
    bytes ∙ ap (λ (l : List ℕ). l ++ (little (length mid - start) ++ drop (start + 4) mid)) front ∙ ap (λ (n : ℕ). take start old ++ (little n ++ drop (start + 4) mid)) count
    ∙ ap (λ (l : List ℕ). take start old ++ (little (length (drop (start + 4) old) + 5) ++ l)) rest
