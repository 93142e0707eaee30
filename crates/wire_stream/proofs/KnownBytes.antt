-- What several calls did to known bytes, taken together.
use Rattle.std.proofs.Common.{◌≡◌, ℕ, ◌+◌, ◌-◌, ◌≤◌, List, ◌++◌, length, take, drop, Option, sym, ap, ◌∙◌, arith, append_assoc, take-add, take-append-drop, length-take}
use Rattle.std.proofs.lemmas.List.{drop-take, drop-drop}
use Rattle.std.proofs.Math.Seq.{take-append_seam}
use Rattle.std.proofs.KnownBytes.{Appends-trans}
use Rattle.std.specs.Io.KnownBytes.{Appends}

-- a copy of n bytes to the front of a buffer
pub copied : (input buf new : List ℕ) (at n : ℕ) → new ≡ take n (drop at input) → length new ≡ n → take (at + n) input ≡ take at input ++ take n (new ++ drop n buf)
copied input buf new at n e l =
    take-add at n input ∙ ap (λ q. take at input ++ q) (sym e ∙ sym (take-append_seam new (drop n buf)) ∙ ap (λ k. take k (new ++ drop n buf)) l)

-- what was sent, with one more send
pub sent_on : (a b c : Option (List ℕ)) (all gone rest out rest' : List ℕ) (n : ℕ) → Appends a b gone → all ≡ gone ++ rest → out ≡ rest → Appends b c (take n out) → rest' ≡ drop n rest
    → (more : List ℕ) × Appends a c more × (all ≡ more ++ rest')
sent_on a b c all gone rest out rest' n k e o l f = (
  gone ++ take n out,
  Appends-trans a b c gone (take n out) k l,
  rw (o, f) (e ∙ ap (λ q. gone ++ q) (sym (take-append-drop n rest)) ∙ sym (append_assoc gone (take n rest) (drop n rest))),
)

pub window : (p : List ℕ) (from to n : ℕ) → n ≤ length (take (to - from) (drop from p)) → take (to - (from + n)) (drop (from + n) p) ≡ drop n (take (to - from) (drop from p))
window p from to n le =
    let within : n ≤ to - from = omega (arith, length-take (to - from) (drop from p)) in
    let m : ℕ = to - (from + n) in
    let e : to - from ≡ n + m = omega arith in
    let d : drop n (take (n + m) (drop from p)) ≡ take m (drop (from + n) p) = drop-take n m (drop from p) ∙ ap (take m) (drop-drop n from p) in
    sym (ap (λ k. drop n (take k (drop from p))) e ∙ d)
