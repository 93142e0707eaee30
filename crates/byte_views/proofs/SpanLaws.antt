-- The innermost element that has a byte, and the first 00.
use Rattle.std.proofs.Common.{◌≡◌, ◌≢◌, ℕ, ◌<◌, List, true, false, ltb, Option, Some, None, length, refl, ap, arith}
use Rattle.std.specs.Prelude.{position}
use Rattle.std.specs.List.{position_or_len}
use Rattle.std.proofs.lemmas.Bool.{false_from_ne_true, le-ltb, lt-ltb}
use Rattle.std.proofs.lemmas.List.Sums.{position_or_len_is}
use Rattle.memchr.specs.Find.{IsFirstByte, is_byte}
use Rattle.bson_elem.specs.Checks.{is_zero}
use Rattle.byte_views.specs.declared.element.Element.{Element}
use Rattle.byte_views.specs.declared.iter.ElementIter.{ElementIter}
use Rattle.byte_views.specs.Iters.{IsStep, outside, at_end, reads, fails, not_text}

-- a step to an element goes on
pub step_goes : (bytes : List ℕ) (s : ElementIter) (e : Element) (next : ℕ) → IsStep bytes s e next → e.kind ≢ 0 → s.at < next
step_goes bytes s e next (outside out is stays) some = absurd (some (ap (λ (x : Element). x.kind) is))
step_goes bytes s e next (at_end inside last is stays) some = absurd (some (ap (λ (x : Element). x.kind) is))
step_goes bytes s e next (reads read inside lt is rest goes e_is) some = goes.0
step_goes bytes s e next (fails f inside lt is e_is stays) some = absurd (some (ap (λ (x : Element). x.kind) e_is))
step_goes bytes s e next (not_text name words rest inside lt is string after goes e_is) some = goes.0

-- a search for the first 00 gives its offset
pub first_zero : (bytes : List ℕ) (r : Option ℕ) → IsFirstByte (is_byte 0) bytes r → r ≡ position is_zero bytes
first_zero bytes None nowhere =
    let all : position_or_len is_zero bytes ≡ length bytes = position_or_len_is is_zero bytes (length bytes) 0 (omega arith) (λ k lt. false_from_ne_true _ (nowhere k (omega arith) lt)) (λ lt. absurd (omega (arith, lt))) in
    let past : ltb (length bytes) (length bytes) ≡ false = le-ltb _ _ (omega arith) in
    rw (all, past) refl
first_zero bytes (Some n) first =
    let here : position_or_len is_zero bytes ≡ n = position_or_len_is is_zero bytes n 0 (omega (arith, first.0.high)) (λ k lt. false_from_ne_true _ (first.0.before k (omega arith) lt)) (λ lt. first.1) in
    let below : ltb n (length bytes) ≡ true = lt-ltb _ _ first.0.high in
    rw (here, below) refl
