-- What is left of a piece.
use Rattle.std.proofs.Common.{◌≡◌, ℕ, ◌+◌, ◌-◌, ◌≤◌, List, length, take, drop, sym, ap, ◌∙◌, arith, length-take}
use Rattle.std.proofs.lemmas.List.{drop-drop, drop-take}

-- the bytes between two places, without the first n of them
pub window : (p : List ℕ) (from to n : ℕ) → n ≤ length (take (to - from) (drop from p)) → take (to - (from + n)) (drop (from + n) p) ≡ drop n (take (to - from) (drop from p))
window p from to n le =
    let within : n ≤ to - from = omega (arith, length-take (to - from) (drop from p)) in
    let m : ℕ = to - (from + n) in
    let e : to - from ≡ n + m = omega arith in
    let d : drop n (take (n + m) (drop from p)) ≡ take m (drop (from + n) p) = drop-take n m (drop from p) ∙ ap (take m) (drop-drop n from p) in
    sym (ap (λ k. drop n (take k (drop from p))) e ∙ d)
