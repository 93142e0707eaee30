-- What is held in a piece from one place to another.
use Rattle.std.proofs.Common.{◌≡◌, ℕ, ◌+◌, ◌-◌, ◌≤◌, ◌<◌, List, [], ◌∷◌, ◌++◌, zero, suc, ◌≢◌, length, take, drop, refl, sym, ap, ◌∙◌, arith, length-drop, length-take, take-append-drop}
use Rattle.std.proofs.lemmas.List.{drop-take, drop-drop}

-- The first n of the bytes that are held, and those that are held then.
pub sent_part : (piece : List ℕ) (start end n : ℕ) → n ≤ length (take (end - start) (drop start piece))
    → take (end - start) (drop start piece) ≡ take n (take (end - start) (drop start piece)) ++ take (end - (start + n)) (drop (start + n) piece)
sent_part piece start end n le =
    let held : List ℕ = take (end - start) (drop start piece) in
    let within : n ≤ end - start = omega (arith, length-take (end - start) (drop start piece)) in
    let left : ℕ = end - (start + n) in
    let all : end - start ≡ n + left = omega arith in
    let rest : drop n (take (n + left) (drop start piece)) ≡ take left (drop (start + n) piece) = drop-take n left (drop start piece) ∙ ap (take left) (drop-drop n start piece) in
    sym (take-append-drop n held) ∙ ap (λ (x : List ℕ). take n held ++ x) (ap (λ (k : ℕ). drop n (take k (drop start piece))) all ∙ rest)

-- Nothing is held from a place to one that isn't behind it.
pub none_held : (piece : List ℕ) (start end : ℕ) → end ≤ start → take (end - start) (drop start piece) ≡ []
none_held piece start end le =
    let none : end - start ≡ 0 = omega arith in
    ap (λ (k : ℕ). take k (drop start piece)) none

-- Some are held from a place to one behind it.
pub some_held : (piece : List ℕ) (start end : ℕ) → start < end → end ≤ length piece → take (end - start) (drop start piece) ≢ []
some_held piece start end lt le = λ none. omega (arith, length-take (end - start) (drop start piece), length-drop start piece, ap length none)

-- The first of some bytes are some.
pub some_first : (n : ℕ) (bytes : List ℕ) → n ≤ length bytes → (0 < length bytes → n ≡ 0 → ⊥) → bytes ≢ [] → take n bytes ≢ []
some_first zero [] le some is = λ _. is refl
some_first zero (byte ∷ bytes) le some is = λ _. some (omega arith) refl
some_first (suc n) [] le some is = λ _. is refl
some_first (suc n) (byte ∷ bytes) le some is = λ none. absurd cc
