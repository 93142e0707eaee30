-- How many documents fit is no more than there are, and a batch is of those that come first.
use Rattle.std.proofs.Common.{◌≡◌, ◌≤◌, ◌+◌, ◌-◌, ℕ, Bool, true, false, List, [], ◌∷◌, Result, Ok, Err, length, take, drop, map, min, sym, ap, ◌∙◌}
use Rattle.std.proofs.Common.{arith}
use Rattle.std.specs.Prelude.{IfOk, OnOk, nat_le, if◌then◌else◌}
use Rattle.std.specs.declared.alloc.Global.{Global}
use Rattle.std.specs.declared.vec.Vec.{Vec}
use Rattle.std.proofs.lemmas.List.{drop-map, take-map, take_min}
use Rattle.bson_doc.specs.{value_len, value_of}
use Rattle.bson_doc.specs.declared.bson_values.Bson.{Bson}
use Rattle.bson_raw.specs.{TreeValue}
use Rattle.doc_stages.specs.Batches.{after_batch, batch_len, fitting, next_batch}

one_more : (fits : Bool) (m : ℕ) (v : TreeValue) (vs : List TreeValue) → m ≤ length vs
    → (if fits then 1 + m else 0) ≤ length (v ∷ vs)
one_more true m v vs h = omega (arith, h)
one_more false m v vs h = omega arith

pub fitting_within : (room : ℕ) (vs : List TreeValue) → fitting room vs ≤ length vs
fitting_within room [] = omega arith
fitting_within room (v ∷ vs) =
    one_more (nat_le (value_len v) room) (fitting (room - value_len v) vs) v vs
    (fitting_within (room - value_len v) vs)

-- the slice that a batch is counted in has the first values, at most this many
batch_of_first : (count k : ℕ) (vs : List Bson)
    → k ≡ batch_len (map value_of (take (min count (length vs)) vs))
    → k ≡ batch_len (take count (map value_of vs))
batch_of_first count k vs e =
    e ∙ ap (λ (l : List Bson). batch_len (map value_of l)) (take_min count vs)
    ∙ ap batch_len (sym (take-map value_of count vs))

pub batch_taken : {E : Type 0} (r : Result (Vec Bson Global) E) (count k : ℕ) (vs : List Bson)
    → k ≡ batch_len (map value_of (take (min count (length vs)) vs))
    → IfOk r (λ b. b.items ≡ take k vs)
    → IfOk r (λ b. map value_of b.items ≡ next_batch count (map value_of vs))
batch_taken (Err e) count k vs is taken = tt
batch_taken (Ok b) count k vs is taken =
    ap (map value_of) taken ∙ sym (take-map value_of k vs)
    ∙ ap (λ (n : ℕ). take n (map value_of vs)) (batch_of_first count k vs is)

pub batch_left : {A E : Type 0} (r : Result A E) (count k : ℕ) (vs new : List Bson)
    → k ≡ batch_len (map value_of (take (min count (length vs)) vs))
    → OnOk r (new ≡ drop k vs) → OnOk r (map value_of new ≡ after_batch count (map value_of vs))
batch_left (Err e) count k vs new is left = tt
batch_left (Ok a) count k vs new is left =
    ap (map value_of) left ∙ sym (drop-map value_of k vs)
    ∙ ap (λ (n : ℕ). drop n (map value_of vs)) (batch_of_first count k vs is)
