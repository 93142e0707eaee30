-- A part goes into the record of its call.
use Rattle.std.proofs.Common.{◌≡◌, ℕ, zero, suc, ◌+◌, ◌<◌, ◌≤◌, List, [], ◌∷◌, ◌++◌, length, get_or, map, take, drop, Option, Some, ap, refl, sym, ◌∙◌}
use Rattle.std.specs.Prelude.{Bool, Result, Ok, Err, OnErr, OnOk, option_map, slice_get, slice_set}
use Rattle.std.proofs.lemmas.List.{length-map, map-set}
use Rattle.std.proofs.lemmas.List.Edits.{map_over_more}
use Rattle.std.proofs.Math.ListN as math
use Rattle.std.proofs.lemmas.Option.{same_Some, slice_get-map, slice_get_past, slice_get_read}
use Rattle.wire_msg.specs.{Content}
use Rattle.wire_model.specs.{Record, given_record, lost_record, put_at}
use Rattle.wire_model.specs.Moves.{put_part}
use Rattle.wire_end.specs.declared.call_record.CallRecord.{CallRecord}
use Rattle.wire_end.specs.Records.{record_of, records_of}

set_own : {A : Type 0} (xs : List A) (i : ℕ) (x : A) → slice_get xs i ≡ Some x → slice_set xs i x ≡ xs
set_own [] i x e = refl
set_own (y ∷ ys) zero x e = ap (λ z. z ∷ ys) (sym (same_Some y x e))
set_own (y ∷ ys) (suc i) x e = ap (λ zs. y ∷ zs) (set_own ys i x e)

record_at : (c : ℕ) (rs : List CallRecord) (i : ℕ) (x : CallRecord) → i < length rs → x ≡ get_or rs i x
    → slice_get (records_of c rs) i ≡ Some (record_of c x)
record_at c rs i x lt at =
    slice_get-map (record_of c) rs i
    ∙ ap (option_map (record_of c)) (slice_get_read rs (length rs) i x refl lt at)

pub given_each : {T E : Type 0} (r : Result T E) (rs : List CallRecord) (i : ℕ) (old new : CallRecord)
    (part : Content) (last : Bool) → i < length rs → old ≡ get_or rs i old
    → OnOk r ((c : ℕ) → record_of c new ≡ given_record (record_of c (get_or rs i old)) part last)
    → OnOk r ((c : ℕ) → records_of c (slice_set rs i new) ≡ put_at (Some i) part last (records_of c rs))
given_each (Err e) rs i old new part last lt at is = tt
given_each (Ok t) rs i old new part last lt at is = λ c.
    map-set (record_of c) rs i new
    ∙ ap (slice_set (records_of c rs) i)
    (is c ∙ ap (λ (x : CallRecord). given_record (record_of c x) part last) (sym at))
    ∙ sym (ap (λ (o : Option Record). put_part o i part last (records_of c rs)) (record_at c rs i old lt at))

pub ungiven_each : {T E : Type 0} (r : Result T E) (rs : List CallRecord) (i : ℕ) (old new : CallRecord)
    → i < length rs → old ≡ get_or rs i old
    → OnErr r ((c : ℕ) → record_of c new ≡ record_of c (get_or rs i old))
    → OnErr r ((c : ℕ) → records_of c (slice_set rs i new) ≡ records_of c rs)
ungiven_each (Ok t) rs i old new lt at same = tt
ungiven_each (Err e) rs i old new lt at same = λ c.
    map-set (record_of c) rs i new
    ∙ ap (slice_set (records_of c rs) i) (same c ∙ ap (record_of c) (sym at))
    ∙ set_own (records_of c rs) i (record_of c old) (record_at c rs i old lt at)

pub given_past : (c : ℕ) (rs : List CallRecord) (i : ℕ) (part : Content) (last : Bool) → length rs ≤ i
    → records_of c rs ≡ put_at (Some i) part last (records_of c rs)
given_past c rs i part last le =
    let long : length (records_of c rs) ≤ i = rw (length-map rs (record_of c)) le in
    sym (ap (λ (o : Option Record). put_part o i part last (records_of c rs)) (slice_get_past (records_of c rs) i long))

-- each record up to this one is lost
pub lost_more : (c : ℕ) (xs rs : List CallRecord) (i : ℕ) (x new : CallRecord) → i < length xs → x ≡ get_or rs i x
    → records_of c rs ≡ map lost_record (take i (records_of c xs)) ++ drop i (records_of c xs)
    → record_of c new ≡ lost_record (record_of c x)
    → records_of c (slice_set rs i new)
    ≡ map lost_record (take (i + 1) (records_of c xs)) ++ drop (i + 1) (records_of c xs)
lost_more c xs rs i x new lt at so is =
    let within : i < length (records_of c xs) = rw (length-map xs (record_of c)) lt in
    map-set (record_of c) rs i new
    ∙ ap (λ (y : Record). slice_set (records_of c rs) i y) is
    ∙ map_over_more lost_record (records_of c xs) (records_of c rs) i (record_of c x) within so
    (ap (record_of c) at ∙ sym (math.get_or-map (record_of c) rs i x))
