-- The parts of a world belong together after each event.
use Rattle.std.proofs.Common.{◌≡◌, ℕ, zero, suc, ◌+◌, ◌-◌, ◌^◌, ◌<◌, ◌≤◌, ◌==◌, All, Bool, true, false, if◌then◌else◌, List, [], ◌∷◌, ◌++◌, length, map, take, drop, Option, None, Some, ap, refl, sym, subst, ◌∙◌, arith}
use Rattle.std.specs.Prelude.{slice_get}
use Rattle.std.proofs.Math.Seq.{take-append_seam}
use Rattle.std.proofs.lemmas.List.{length_push}
use Rattle.std.proofs.lemmas.List.Elements.{All-head, All-map, All-tail, All-weaker}
use Rattle.std.proofs.lemmas.Option.{none-some, same_Some}
use Rattle.wire_pool.specs.{PoolSeen, id_after}
use Rattle.wire_model.specs.{Conn, Done, Foreign, Lost, Pending, Record, Sent, State, all_cut, change, conn_at, cut_at, cut_both, has_closed_client, lost_record, lost_state, settled_record}
use Rattle.wire_model.specs.declared.limits.WorldLimits.{WorldLimits}
use Rattle.wire_world.specs.declared.records.CallRecord.{CallRecord}
use Rattle.wire_world.specs.Records.{record_of}
use Rattle.wire_world.specs.Worlds.{AreParts}
use Rattle.wire_world.proofs.StayParts.{length-conn_set}

-- the pool has given as many ids as before, and is open or closed as before
abbrev pub SamePool : PoolSeen → PoolSeen → Type 0
SamePool p p' = (p'.next ≡ p.next) × (p'.closed ≡ p.closed)

-- ---- as many connections as before

pub length-cut_at : (c : ℕ) (ks : List Conn) → length (cut_at c ks) ≡ length ks
length-cut_at c ks = by (conn_at ks c)
  where
    by : (o : Option Conn) → length (change cut_both o c ks) ≡ length ks
    by None = refl
    by (Some k) = length-conn_set ks c (cut_both k)

pub length-all_cut : (cs : List ℕ) (ks : List Conn) → length (all_cut cs ks) ≡ length ks
length-all_cut [] ks = refl
length-all_cut (c ∷ cs) ks = length-all_cut cs (cut_at c ks) ∙ length-cut_at c ks

-- ---- records are settled

lost_twice : (s : State) → lost_state (lost_state s) ≡ lost_state s
lost_twice Pending = refl
lost_twice Done = refl
lost_twice Sent = refl
lost_twice Lost = refl
lost_twice Foreign = refl

with_state : Record → State → Record
with_state x s = record { connection = x.connection; asked = x.asked; parts = x.parts; state = s }

-- a settled record stays as it is
settled_twice : (ks : List Conn) (x : Record) → settled_record ks (settled_record ks x) ≡ settled_record ks x
settled_twice ks x = by (has_closed_client (conn_at ks x.connection)) refl
  where
    by : (b : Bool) → has_closed_client (conn_at ks x.connection) ≡ b → settled_record ks (if b then lost_record x else x) ≡ (if b then lost_record x else x)
    by true e = rw e (ap (λ (s : State). let y : Record = record { connection = x.connection; asked = x.asked; parts = x.parts; state = s } in y) (lost_twice x.state))
    by false e = rw e refl

settled_connection : (ks : List Conn) (x : Record) → (settled_record ks x).connection ≡ x.connection
settled_connection ks x = by (has_closed_client (conn_at ks x.connection))
  where
    by : (b : Bool) → (if b then lost_record x else x).connection ≡ x.connection
    by true = refl
    by false = refl

all_settled : (ks : List Conn) (xs : List Record) → map (settled_record ks) (map (settled_record ks) xs) ≡ map (settled_record ks) xs
all_settled ks [] = refl
all_settled ks (x ∷ xs) = ap (λ (y : Record). y ∷ map (settled_record ks) (map (settled_record ks) xs)) (settled_twice ks x) ∙ ap (λ (ys : List Record). settled_record ks x ∷ ys) (all_settled ks xs)

abbrev IsMade : ℕ → Record → Type 0
IsMade many x = x.connection ≤ many

-- the records are settled, however the connections and the pool's lists have changed
pub settled_parts : (l : WorldLimits) (p p' : PoolSeen) (ks ks' : List Conn) (calls : List Record) → AreParts l p ks calls → SamePool p p' → length ks' ≡ length ks
    → AreParts l p' ks' (map (settled_record ks') calls)
settled_parts l p p' ks ks' calls parts next same = record {
  limits_are = parts.limits_are;
  is_open = next.1 ∙ parts.is_open;
  next_is = next.0 ∙ parts.next_is ∙ ap id_after (sym same);
  made = All-map (IsMade (length ks')) (settled_record ks') calls (All-weaker (IsMade (length ks)) (λ (x : Record). IsMade (length ks') (settled_record ks' x)) still calls parts.made);
  settled_are = all_settled ks' calls;
}
  where
    still : (x : Record) → IsMade (length ks) x → IsMade (length ks') (settled_record ks' x)
    still x le = let e = settled_connection ks' x in omega (arith, e, same, le)

-- what was written over a whole list
pub written : {A : Type 0} (n : ℕ) (new ys : List A) → length new ≡ n → take n (new ++ drop (length new) ys) ≡ new
written n new ys e = ap (λ (m : ℕ). take m (new ++ drop (length new) ys)) (sym e) ∙ take-append_seam new (drop (length new) ys)

pub length-written : {A : Type 0} (n : ℕ) (old mid new ys : List A) → mid ≡ old → length mid ≡ n → length new ≡ length mid → length (take n (new ++ drop (length new) ys)) ≡ length old
length-written n old mid new ys is many same = ap length (written n new ys (same ∙ many)) ∙ same ∙ ap length is

-- what the code has written over the records that it holds
pub settled_calls : (ks' seen : List Conn) (n : ℕ) (calls mid new ys : List CallRecord) → seen ≡ ks' → mid ≡ calls → length mid ≡ n → length new ≡ length mid
    → map record_of new ≡ map (settled_record seen) (map record_of mid) → map record_of (take n (new ++ drop (length new) ys)) ≡ map (settled_record ks') (map record_of calls)
settled_calls ks' seen n calls mid new ys seen_is mid_is many kept settles =
    ap (map record_of) (written n new ys (kept ∙ many)) ∙ settles ∙ ap (λ (cs : List CallRecord). map (settled_record seen) (map record_of cs)) mid_is
    ∙ ap (λ (js : List Conn). map (settled_record js) (map record_of calls)) seen_is

-- the same, of the records that the code holds
pub settling_parts : (l : WorldLimits) (p p' : PoolSeen) (ks ks' seen : List Conn) (n : ℕ) (calls mid new ys : List CallRecord) → AreParts l p ks (map record_of calls) → SamePool p p'
    → length ks' ≡ length ks → seen ≡ ks' → mid ≡ calls → length mid ≡ n → length new ≡ length mid → map record_of new ≡ map (settled_record seen) (map record_of mid)
    → AreParts l p' ks' (map record_of (take n (new ++ drop (length new) ys)))
settling_parts l p p' ks ks' seen n calls mid new ys parts next same seen_is mid_is many kept settles =
    let after : map (settled_record ks') (map record_of calls) ≡ map record_of (take n (new ++ drop (length new) ys)) =
    ap (λ (js : List Conn). map (settled_record js) (map record_of calls)) (sym seen_is) ∙ ap (λ (cs : List CallRecord). map (settled_record seen) (map record_of cs)) (sym mid_is)
    ∙ sym settles ∙ ap (map record_of) (sym (written n new ys (kept ∙ many))) in
    subst (λ (xs : List Record). AreParts l p' ks' xs) after (settled_parts l p p' ks ks' (map record_of calls) parts next same)

-- ---- the pool alone is changed

pub pool_parts : (l : WorldLimits) (p p' : PoolSeen) (ks : List Conn) (calls : List Record) → AreParts l p ks calls → SamePool p p' → AreParts l p' ks calls
pool_parts l p p' ks calls parts next = record {
  limits_are = parts.limits_are;
  is_open = next.1 ∙ parts.is_open;
  next_is = next.0 ∙ parts.next_is;
  made = parts.made;
  settled_are = parts.settled_are;
}

-- ---- a connection is made

-- the number of a new connection is one more than there are
pub next_number : (n c : ℕ) → id_after n ≡ Some c → c ≡ n + 1
next_number n c e = by (n == 2 ^ 64 - 1) e
  where
    by : (b : Bool) → (if b then None else Some (n + 1)) ≡ Some c → c ≡ n + 1
    by true e = absurd (none-some c e)
    by false e = sym (same_Some (n + 1) c e)

at_push : (ks : List Conn) (j : Conn) (i : ℕ) → i < length ks → slice_get (ks ++ j ∷ []) i ≡ slice_get ks i
at_push [] j i lt = absurd (omega arith)
at_push (k ∷ ks) j zero lt = refl
at_push (k ∷ ks) j (suc i) lt = at_push ks j i (omega arith)

conn_at_push : (ks : List Conn) (j : Conn) (c : ℕ) → c ≤ length ks → conn_at (ks ++ j ∷ []) c ≡ conn_at ks c
conn_at_push ks j zero le = refl
conn_at_push ks j (suc i) le = at_push ks j i (omega arith)

settled_push : (ks : List Conn) (j : Conn) (xs : List Record) → All (IsMade (length ks)) xs → map (settled_record (ks ++ j ∷ [])) xs ≡ map (settled_record ks) xs
settled_push ks j [] made = refl
settled_push ks j (x ∷ xs) made =
    ap (λ (o : Option Conn). (if has_closed_client o then lost_record x else x) ∷ map (settled_record (ks ++ j ∷ [])) xs) (conn_at_push ks j x.connection (All-head (IsMade (length ks)) x xs made))
    ∙ ap (λ (ys : List Record). settled_record ks x ∷ ys) (settled_push ks j xs (All-tail (IsMade (length ks)) x xs made))

pub opened_parts : (l : WorldLimits) (p p' : PoolSeen) (ks : List Conn) (calls : List Record) (c : ℕ) (k : Conn) → AreParts l p ks calls → p.next ≡ Some c → p'.next ≡ id_after c → p'.closed ≡ p.closed
    → AreParts l p' (ks ++ k ∷ []) calls
opened_parts l p p' ks calls c k parts was next same =
    let number : c ≡ length ks + 1 = next_number (length ks) c (sym parts.next_is ∙ was) in
    let more : length (ks ++ k ∷ []) ≡ length ks + 1 = length_push ks k in
    record {
      limits_are = parts.limits_are;
      is_open = same ∙ parts.is_open;
      next_is = next ∙ ap id_after (number ∙ sym more);
      made = All-weaker (IsMade (length ks)) (IsMade (length (ks ++ k ∷ []))) (λ x le. omega (arith, more, le)) calls parts.made;
      settled_are = settled_push ks k calls parts.made ∙ parts.settled_are;
    }
