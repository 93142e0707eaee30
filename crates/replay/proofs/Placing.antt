-- The connection at an index, and what its call came to.
use Rattle.std.proofs.Common.{◌≡◌, ℕ, zero, suc, List, [], ◌∷◌, Option, None, Some, Result, Ok, Err, OnOk}
use Rattle.std.specs.Prelude.{IsOk, slice_get}
use Rattle.std.specs.List.{slice_index_or}

-- what is at an index is what is found there
pub found_at : {A : Type 0} (xs : List A) (i : ℕ) (x c : A) → x ≡ slice_index_or xs i x → slice_get xs i ≡ Some c → x ≡ c
found_at [] i x c e g = absurd cc
found_at (y ∷ ys) zero x c e g = cc
found_at (y ∷ ys) (suc i) x c e g = found_at ys i x c e g

-- a call that went well did what it says
pub went_well : {A E : Type 0} (r : Result A E) (P : Type 0) → IsOk r → OnOk r P → P
went_well (Ok a) P k p = p
went_well (Err e) P k p = absurd cc

-- what holds where a call goes well follows from what it says of that
pub also_well : {A E : Type 0} (r : Result A E) (P Q : Type 0) → (P → Q) → OnOk r P → OnOk r Q
also_well (Ok a) P Q f p = f p
also_well (Err e) P Q f p = tt
