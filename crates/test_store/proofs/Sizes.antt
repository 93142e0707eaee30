-- The size of a batch, and what a call gave or refused.
use Rattle.std.proofs.Common.{◌≡◌, ◌<◌, ◌≤◌, ℕ, true, false, Option, Some, None, Result, Ok, Err, refl, arith}
use Rattle.std.specs.Prelude.{OnErr, OnOk, is_ok, nat_le}
use Rattle.std.proofs.lemmas.Bool.Decides.{nat_tests}
use Rattle.bson_raw.specs.{TreeValue}
use Rattle.doc_query.specs.declared.failure.CommandError.{CommandError}
use Rattle.doc_query.specs.{count_of}
use Rattle.test_store.specs.Fields.{asked_size}

le_test : (m n : ℕ) → m ≤ n → nat_le m n ≡ true
le_test m n h = grind (arith, nat_tests)

lt_test : (m n : ℕ) → n < m → nat_le m n ≡ false
lt_test m n h = grind (arith, nat_tests)

pub sized : (otherwise least count : ℕ) (e : CommandError) (found : Option TreeValue) (v : TreeValue) → found ≡ Some v → count_of v ≡ Some count → least ≤ count → Ok count ≡ asked_size otherwise least e found
sized otherwise least count e found v is has enough = rw (is, has, le_test least count enough) refl

pub too_small : (otherwise least count : ℕ) (e : CommandError) (found : Option TreeValue) (v : TreeValue) → found ≡ Some v → count_of v ≡ Some count → count < least → Err e ≡ asked_size otherwise least e found
too_small otherwise least count e found v is has few = rw (is, has, lt_test least count few) refl

pub no_size : (otherwise least : ℕ) (e : CommandError) (found : Option TreeValue) (v : TreeValue) → found ≡ Some v → count_of v ≡ None → Err e ≡ asked_size otherwise least e found
no_size otherwise least e found v is has = rw (is, has) refl

pub on_ok : {A E P : Type 0} (r : Result A E) → (is_ok r ≡ true → P) → OnOk r P
on_ok (Ok a) f = f refl
on_ok (Err e) f = tt

pub on_err : {A E P : Type 0} (r : Result A E) → (is_ok r ≡ false → P) → OnErr r P
on_err (Ok a) f = tt
on_err (Err e) f = f refl

pub on_ok_then : {A E P Q : Type 0} (r : Result A E) → (P → Q) → OnOk r P → OnOk r Q
on_ok_then (Ok a) f p = f p
on_ok_then (Err e) f p = tt
