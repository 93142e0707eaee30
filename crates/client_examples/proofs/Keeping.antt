-- How the records of the calls stand after each step.
use Rattle.std.proofs.Common.{◌≡◌, ℕ, zero, suc, ◌+◌, ◌<◌, ◌≤◌, Bool, List, [], ◌∷◌, ◌++◌, length, drop, get_or, map, take, Option, Some, None, refl, sym, ◌∙◌, ap, arith, length-append, ◌⊎◌, inl, inr}
use Rattle.std.specs.Prelude.{Result, Ok, Err, OnOk, option_map, slice_get, slice_set}
use Rattle.std.proofs.lemmas.List.{length-map, map-set, map_push}
use Rattle.std.proofs.lemmas.List.Edits.{map_over_more}
use Rattle.std.proofs.Math.ListN as math
use Rattle.std.proofs.lemmas.Option.{slice_get-map, slice_get_past, slice_get_read}
use Rattle.wire_msg.specs.{Content}
use Rattle.wire_peer.specs.declared.calls.CallKind.{CallKind}
use Rattle.wire_model.specs.{Record, asked_as, given_record, lost_record, new_record, put_at, put_part}
use Rattle.wire_model.proofs.Lemmas.{get-push_new, get-push_old, length-slice_set}
use Rattle.wire_model.specs.Channels.{lost_at}
use Rattle.wire_end.specs.{record_of, records_of}
use Rattle.wire_end.specs.declared.call_record.CallRecord.{CallRecord}
use Rattle.client_examples.specs.Pairs.{AreNumbered}

split : (k n : ℕ) → (k < n) ⊎ (n ≤ k)
split k zero = inr (omega arith)
split zero (suc n) = inl (omega arith)
split (suc k) (suc n) = elim (split k n) [ inl h ↦ inl (omega (arith, h)) | inr h ↦ inr (omega (arith, h)) ]

-- ---- a call

pub numbered_on : (records : List Record) (calls : List ℕ) (x : Record) → AreNumbered (length records) calls
    → AreNumbered (length (records ++ x ∷ [])) (calls ++ length records ∷ [])
numbered_on records calls x old = record {
  as_many = omega (arith, length-append calls (length records ∷ []), length-append records (x ∷ []), many);
  at = λ k lt. elim (split k (length records)) [
    | inl h ↦ get-push_old calls k k (length records) (old.at k h)
    | inr h ↦
        let is : k ≡ length records = omega (arith, lt, h, length-append records (x ∷ [])) in
        rw is (ap (slice_get (calls ++ length records ∷ [])) (sym many) ∙ get-push_new calls (length records))
  ];
}
  where
    many : length calls ≡ length records
    many = old.as_many

pub called_as : (records : List Record) (rs : List CallRecord) (kind : CallKind) (c : Content) (r : CallRecord)
    → records ≡ records_of 1 rs → record_of 1 r ≡ new_record 1 (asked_as kind c)
    → records ++ new_record 1 (asked_as kind c) ∷ [] ≡ records_of 1 (rs ++ r ∷ [])
called_as records rs kind c r old is =
    ap (λ (xs : List Record). xs ++ new_record 1 (asked_as kind c) ∷ []) old
    ∙ ap (λ (x : Record). records_of 1 rs ++ x ∷ []) (sym is)
    ∙ sym (map_push (record_of 1) rs r)

-- ---- a reply

length_part : (o : Option Record) (records : List Record) (i : ℕ) (part : Content) (last : Bool)
    → length (put_part o i part last records) ≡ length records
length_part None records i part last = refl
length_part (Some x) records i part last = length-slice_set records i (given_record x part last)

pub length_put : (records : List Record) (o : Option ℕ) (part : Content) (last : Bool)
    → length (put_at o part last records) ≡ length records
length_put records None part last = refl
length_put records (Some i) part last = length_part (slice_get records i) records i part last

-- the reply to a call goes into the record that has the call's number as its index
pub put_as_numbered : (records : List Record) (calls : List ℕ) (k : ℕ) (part : Content) (last : Bool)
    → AreNumbered (length records) calls
    → put_at (slice_get calls k) part last records ≡ put_at (Some k) part last records
put_as_numbered records calls k part last numbered = elim (split k (length records)) [
  | inl lt ↦ ap (λ (o : Option ℕ). put_at o part last records) (numbered.at k lt)
  | inr le ↦
      let many = numbered.as_many in
      ap (λ (o : Option ℕ). put_at o part last records) (slice_get_past calls k (omega (arith, le, many)))
      ∙ sym (ap (λ (o : Option Record). put_part o k part last records) (slice_get_past records k le))
]

record_at : (rs : List CallRecord) (i : ℕ) (x : CallRecord) → i < length rs → x ≡ get_or rs i x
    → slice_get (records_of 1 rs) i ≡ Some (record_of 1 x)
record_at rs i x lt at =
    slice_get-map (record_of 1) rs i
    ∙ ap (option_map (record_of 1)) (slice_get_read rs (length rs) i x refl lt at)

pub given_each : {T E : Type 0} (r : Result T E) (rs : List CallRecord) (i : ℕ) (old new : CallRecord)
    (part : Content) (last : Bool) → i < length rs → old ≡ get_or rs i old
    → OnOk r (record_of 1 new ≡ given_record (record_of 1 (get_or rs i old)) part last)
    → OnOk r (records_of 1 (slice_set rs i new) ≡ put_at (Some i) part last (records_of 1 rs))
given_each (Err e) rs i old new part last lt at is = tt
given_each (Ok t) rs i old new part last lt at is =
    map-set (record_of 1) rs i new
    ∙ ap (slice_set (records_of 1 rs) i)
    (is ∙ ap (λ (x : CallRecord). given_record (record_of 1 x) part last) (sym at))
    ∙ sym (ap (λ (o : Option Record). put_part o i part last (records_of 1 rs)) (record_at rs i old lt at))

pub given_past : (rs : List CallRecord) (i : ℕ) (part : Content) (last : Bool) → length rs ≤ i
    → records_of 1 rs ≡ put_at (Some i) part last (records_of 1 rs)
given_past rs i part last le =
    let long : length (records_of 1 rs) ≤ i = rw (length-map rs (record_of 1)) le in
    sym (ap (λ (o : Option Record). put_part o i part last (records_of 1 rs)) (slice_get_past (records_of 1 rs) i long))

-- ---- no more replies

-- all calls are of connection 1, so those of that connection are lost
pub lost_as : (rs : List CallRecord) → map (lost_at 1) (records_of 1 rs) ≡ map lost_record (records_of 1 rs)
lost_as [] = refl
lost_as (r ∷ rs) = ap (λ (xs : List Record). lost_record (record_of 1 r) ∷ xs) (lost_as rs)

-- each record up to this one is lost
pub lost_more : (xs rs : List CallRecord) (i : ℕ) (x new : CallRecord) → i < length xs → x ≡ get_or rs i x
    → records_of 1 rs ≡ map lost_record (take i (records_of 1 xs)) ++ drop i (records_of 1 xs)
    → record_of 1 new ≡ lost_record (record_of 1 x)
    → records_of 1 (slice_set rs i new)
    ≡ map lost_record (take (i + 1) (records_of 1 xs)) ++ drop (i + 1) (records_of 1 xs)
lost_more xs rs i x new lt at so is =
    let within : i < length (records_of 1 xs) = rw (length-map xs (record_of 1)) lt in
    map-set (record_of 1) rs i new
    ∙ ap (λ (y : Record). slice_set (records_of 1 rs) i y) is
    ∙ map_over_more lost_record (records_of 1 xs) (records_of 1 rs) i (record_of 1 x) within so
    (ap (record_of 1) at ∙ sym (math.get_or-map (record_of 1) rs i x))
