-- What is told of an input by its first bytes, and what is gone over then.
use Rattle.std.proofs.Common.{◌≡◌, ◌≢◌, ◌⊎◌, inl, inr, ◌+◌, ◌-◌, ◌<◌, ◌≤◌, ◌++◌, [], ℕ, List, Option, None, Some, true, false, true≢false, length, take, drop, refl, sym, ap, subst, ◌∙◌, append_assoc, append-nil, arith, length-append, length-drop, length-take, take-append-drop}
use Rattle.std.specs.Bool.{Decides}
use Rattle.std.specs.Str.{bytes_eq}
use Rattle.std.proofs.lemmas.Bool.{cases_Bool, cases_lt}
use Rattle.std.proofs.lemmas.Slice.Eq.{bytes_eq-Decides}
use Rattle.std.proofs.Math.Seq.{take-append-add, take-append_seam, take-length}
use Rattle.std.proofs.lemmas.List.{append_cancel_left, nil_from_length, take-append-le}
use Rattle.wire_frames.specs.{signature}
use Rattle.file_commands.specs.declared.or_records.OrRecordsReader.{OrRecordsReader}
use Rattle.file_commands.specs.declared.or_records.Sort.{Sort}
use Rattle.file_commands.specs.declared.or_records.Sort.TheVariants.{Undecided, Records, Others}
use Rattle.file_commands.specs.declared.walk.Stop.{Stop}
use Rattle.file_commands.specs.declared.walk.Stop.TheVariants as stop
use Rattle.file_commands.specs.InputFault.{input_fault_line}
use Rattle.file_commands.specs.OrRecords.{RecordsOr}
use Rattle.file_commands.specs.OrRecordsWalk.{EndSorted, GetsNoSignature, HasNoSignature, IsSorted, StandSorted, Waits, or_records_tells}
use Rattle.file_commands.specs.Walk.{IsAtFault, IsBetween, Tells, Walks}

-- ---- whether bytes begin with the signature

abbrev Begins : List ℕ → List ℕ → Type 0
Begins front bytes = ((behind : List ℕ) × (bytes ≡ front ++ behind)) ⊎ ((behind : List ℕ) → bytes ≡ front ++ behind → ⊥)

-- bytes begin with the signature or not
pub begun_or_not : (bytes : List ℕ) → Begins signature bytes
begun_or_not bytes = so (cases_Bool (bytes_eq (take 8 bytes) signature))
  where
    decides : Decides (bytes_eq (take 8 bytes) signature) (take 8 bytes ≡ signature)
    decides = bytes_eq-Decides (take 8 bytes) signature

    so : (bytes_eq (take 8 bytes) signature ≡ true) ⊎ (bytes_eq (take 8 bytes) signature ≡ false) → Begins signature bytes
    so (inl same) = inl (drop 8 bytes, sym (take-append-drop 8 bytes) ∙ ap (λ (x : List ℕ). x ++ drop 8 bytes) (decides.0 same))
    so (inr other) = inr (λ behind is. true≢false (sym (decides.1 (ap (take 8) is ∙ take-append_seam signature behind)) ∙ other))

-- fewer bytes than the signature has don't begin with it
few_have_none : (n : ℕ) (bytes : List ℕ) → n < 8 → bytes ≡ take n signature → HasNoSignature bytes
few_have_none n bytes few is behind at =
    let long : length signature ≡ 8 = refl in
    omega (arith, few, ap length is, ap length at, length-take n signature, length-append signature behind, long)

-- bytes that get no signature have none
has_none : (bytes : List ℕ) → GetsNoSignature bytes → HasNoSignature bytes
has_none bytes none behind is = none [] behind (append-nil bytes ∙ is)

longer_none : (bytes more : List ℕ) → GetsNoSignature bytes → GetsNoSignature (bytes ++ more)
longer_none bytes more none = λ later behind is. none (more ++ later) behind (sym (append_assoc bytes more later) ∙ is)

longer_behind : (bytes behind more : List ℕ) → bytes ≡ signature ++ behind → bytes ++ more ≡ signature ++ (behind ++ more)
longer_behind bytes behind more is = ap (λ (x : List ℕ). x ++ more) is ∙ append_assoc signature behind more

-- ---- what a piece tells

-- the first of two bytes that begin the same is the front of the longer one
front_of_longer : (a b c d : List ℕ) → a ++ b ≡ c ++ d → length a ≤ length c → c ≡ a ++ drop (length a) c
front_of_longer a b c d is short =
    let front : take (length a) c ≡ a = sym (take-append-le (length a) c d short) ∙ ap (take (length a)) (sym is) ∙ take-append_seam a b in
    sym (take-append-drop (length a) c) ∙ ap (λ (x : List ℕ). x ++ drop (length a) c) front

-- what is wanted of the signature behind its first bytes
pub wanted_is : (n : ℕ) → take (8 - n) (drop n signature) ≡ drop n signature
wanted_is n =
    let long : length signature ≡ 8 = refl in
    ap (λ (k : ℕ). take k (drop n signature)) (ap (λ (k : ℕ). k - n) (sym long) ∙ sym (length-drop n signature)) ∙ take-length (drop n signature)

pub sorted_records : (n : ℕ) (wanted piece behind : List ℕ) → wanted ≡ drop n signature → piece ≡ wanted ++ behind → IsSorted (take n signature ++ piece) Records behind
sorted_records n wanted piece behind at is =
    ap (λ (x : List ℕ). take n signature ++ x) (is ∙ ap (λ (x : List ℕ). x ++ behind) at) ∙ sym (append_assoc (take n signature) (drop n signature) behind)
    ∙ ap (λ (x : List ℕ). x ++ behind) (take-append-drop n signature)

-- how long the two parts of the signature are
front_long : (n : ℕ) → n < 8 → length (take n signature) ≡ n
front_long n few = let long : length signature ≡ 8 = refl in omega (arith, few, long, length-take n signature)

pub sorted_undecided : (n : ℕ) (wanted piece behind : List ℕ) → n < 8 → wanted ≡ drop n signature → ((rest : List ℕ) → piece ≡ wanted ++ rest → ⊥)
    → wanted ≡ piece ++ drop (length piece) wanted → IsSorted (take n signature ++ piece) (Undecided (n + length piece)) behind
sorted_undecided n wanted piece behind few at none is =
    let long : length signature ≡ 8 = refl in
    let rest = drop (length piece) wanted in
    let size : length wanted ≡ 8 - n = ap length at ∙ length-drop n signature ∙ ap (λ (k : ℕ). k - n) long in
    let sum : length wanted ≡ length piece + length rest = ap length is ∙ length-append piece rest in
    let some : length rest ≡ 0 → ⊥ = λ zero. none [] (sym (append-nil piece) ∙ ap (λ (x : List ℕ). piece ++ x) (sym (nil_from_length rest zero)) ∙ sym is ∙ sym (append-nil wanted)) in
    let parts : signature ≡ take n signature ++ wanted = sym (take-append-drop n signature) ∙ ap (λ (x : List ℕ). take n signature ++ x) (sym at) in
    let front : take (length piece) wanted ≡ piece = ap (take (length piece)) is ∙ take-append_seam piece rest in
    let whole : take (n + length piece) signature ≡ take n signature ++ piece =
    ap (λ (k : ℕ). take (k + length piece) signature) (sym (front_long n few)) ∙ ap (take (length (take n signature) + length piece)) parts
    ∙ take-append-add (take n signature) wanted (length piece) ∙ ap (λ (x : List ℕ). take n signature ++ x) front in
    (omega (arith, few, size, sum, some), sym whole)

pub sorted_others : (n : ℕ) (wanted piece behind : List ℕ) → wanted ≡ drop n signature → ((rest : List ℕ) → piece ≡ wanted ++ rest → ⊥) → ((rest : List ℕ) → wanted ≡ piece ++ rest → ⊥)
    → IsSorted (take n signature ++ piece) Others behind
sorted_others n wanted piece behind at none short = λ more after is.
    let same : piece ++ more ≡ wanted ++ after = append_cancel_left (take n signature) (piece ++ more) (wanted ++ after)
    (sym (append_assoc (take n signature) piece more) ∙ is ∙ ap (λ (x : List ℕ). x ++ after) (sym (take-append-drop n signature))
    ∙ append_assoc (take n signature) (drop n signature) after ∙ ap (λ (x : List ℕ). take n signature ++ (x ++ after)) (sym at)) in
    so more after same (cases_lt (length piece) (length wanted))
  where
    so : (more after : List ℕ) → piece ++ more ≡ wanted ++ after → (length piece < length wanted) ⊎ (length wanted ≤ length piece) → ⊥
    so more after same (inl less) = short _ (front_of_longer piece more wanted after same (omega (arith, less)))
    so more after same (inr most) = none _ (front_of_longer wanted after piece more (sym same) most)

-- ---- between two pieces

module _ {A B : Type 0} (t : Tells A) (u : Tells B) where
  abbrev Reader : Sort → A → B → OrRecordsReader A B
  Reader sort a b = record { sort = sort; others = a; records = b }

  first_undecided : (bytes texts : List ℕ) → texts ≡ [] → ((later : List ℕ) → t.first (bytes ++ later) texts) → ((later : List ℕ) → u.first later []) → (more : List ℕ)
      → RecordsOr (λ behind. u.first behind texts) (λ other. t.first other texts) (bytes ++ more)
  first_undecided bytes texts none others records more = so (begun_or_not (bytes ++ more))
    where
      so : Begins signature (bytes ++ more) → RecordsOr (λ behind. u.first behind texts) (λ other. t.first other texts) (bytes ++ more)
      so (inl (behind, is)) = inl (behind, is, subst (u.first behind) (sym none) (records behind))
      so (inr lacks) = inr (lacks, others more)

  between_undecided : (n : ℕ) (a : A) (b : B) (bytes texts : List ℕ) → n < 8 → bytes ≡ take n signature → texts ≡ [] → IsBetween t a bytes texts → IsBetween u b [] []
      → IsBetween (or_records_tells t u) (Reader (Undecided n) a b) bytes texts
  between_undecided n a b bytes texts few is none x y =
      let lacks = few_have_none n bytes few is in
      record {
        stands = (few, is, x, y);
        all = inr (lacks, x.all);
        first = first_undecided bytes texts none x.first y.first;
      }

  between_others : (a : A) (b : B) (bytes texts : List ℕ) → GetsNoSignature bytes → IsBetween t a bytes texts → IsBetween (or_records_tells t u) (Reader Others a b) bytes texts
  between_others a b bytes texts lacks x =
      let has = has_none bytes lacks in
      record {
        stands = (lacks, x);
        all = inr (has, x.all);
        first = λ more. inr (lacks more, x.first more);
      }

  between_records : (a : A) (b : B) (bytes behind texts : List ℕ) → bytes ≡ signature ++ behind → IsBetween u b behind texts → IsBetween (or_records_tells t u) (Reader Records a b) bytes texts
  between_records a b bytes behind texts is y = record {
    stands = (behind, is, y);
    all = inl (behind, is, y.all);
    first = λ more. inl (behind ++ more, longer_behind bytes behind more is, y.first more);
  }

  pub between_first : (a : A) (b : B) → IsBetween t a [] [] → IsBetween u b [] [] → IsBetween (or_records_tells t u) (Reader (Undecided 0) a b) [] []
  between_first a b x y = between_undecided 0 a b [] [] (omega arith) refl refl x y

  -- ---- a piece was gone over

  walks_others : (a : A) (b : B) (bytes texts : List ℕ) (s : Option Stop) (from to : Option (List ℕ)) → GetsNoSignature bytes → Walks t a bytes texts s from to
      → Walks (or_records_tells t u) (Reader Others a b) bytes texts s from to
  walks_others a b bytes texts None from to lacks (more, app, x) = (more, app, between_others a b bytes (texts ++ more) lacks x)
  walks_others a b bytes texts (Some (stop.Fault f)) from to lacks (more, app, x) = (
    more,
    app,
    (λ later. record {
      ends = (lacks later, (x later).ends);
      is_bad = (lacks later, (x later).is_bad);
      all = inr (lacks later, (x later).all);
      first = λ after. inr (longer_none bytes later lacks after, (x later).first after);
    }),
  )
  walks_others a b bytes texts (Some stop.OutOfMemory) from to lacks (more, app, x) = (more, app, (λ later. inr (lacks later, x later)))

  walks_records : (a : A) (b : B) (bytes behind texts : List ℕ) (s : Option Stop) (from to : Option (List ℕ)) → bytes ≡ signature ++ behind → Walks u b behind texts s from to
      → Walks (or_records_tells t u) (Reader Records a b) bytes texts s from to
  walks_records a b bytes behind texts None from to is (more, app, y) = (more, app, between_records a b bytes behind (texts ++ more) is y)
  walks_records a b bytes behind texts (Some (stop.Fault f)) from to is (more, app, y) = (
    more,
    app,
    (λ later.
        let at = longer_behind bytes behind later is in
        record {
          ends = (behind ++ later, at, (y later).ends);
          is_bad = (behind ++ later, at, (y later).is_bad);
          all = inl (behind ++ later, at, (y later).all);
          first = λ after. inl ((behind ++ later) ++ after, longer_behind (bytes ++ later) (behind ++ later) after at, (y later).first after);
        }),
  )
  walks_records a b bytes behind texts (Some stop.OutOfMemory) from to is (more, app, y) = (more, app, (λ later. inl (behind ++ later, longer_behind bytes behind later is, y later)))

  -- of the first bytes of the signature there are no texts, and no fault
  silent_at : Waits t → (n : ℕ) (bytes texts : List ℕ) → n < 8 → bytes ≡ take n signature → t.first (bytes ++ []) texts → texts ≡ []
  silent_at w n bytes texts few is first = w.silent n texts few (subst (λ (x : List ℕ). t.first x texts) (append-nil bytes ∙ is) first)

  no_fault_at : Waits t → (n : ℕ) (a : A) (bytes texts line : List ℕ) → n < 8 → bytes ≡ take n signature → IsAtFault t a (bytes ++ []) texts line → ⊥
  no_fault_at w n a bytes texts line few is x = w.sound n a texts line few (subst (λ (y : List ℕ). t.is_bad a y texts line) (append-nil bytes ∙ is) x.is_bad)

  walks_undecided : Waits t → (n : ℕ) (a : A) (b : B) (bytes texts : List ℕ) (s : Option Stop) (from to : Option (List ℕ)) → n < 8 → bytes ≡ take n signature → IsBetween u b [] []
      → Walks t a bytes texts s from to → Walks (or_records_tells t u) (Reader (Undecided n) a b) bytes texts s from to
  walks_undecided w n a b bytes texts None from to few is y (more, app, x) =
      (more, app, between_undecided n a b bytes (texts ++ more) few is (silent_at w n bytes (texts ++ more) few is (x.first [])) x y)
  walks_undecided w n a b bytes texts (Some (stop.Fault f)) from to few is y (more, app, x) = absurd (no_fault_at w n a bytes (texts ++ more) (input_fault_line f) few is (x []))
  walks_undecided w n a b bytes texts (Some stop.OutOfMemory) from to few is y (more, app, x) =
      (more, app, first_undecided bytes (texts ++ more) (silent_at w n bytes (texts ++ more) few is (x [])) x y.first)

  -- ---- a piece behind others

  -- the sort was decided before
  pub others_go_on : (sort : Sort) (new : A) (b : B) (read piece texts : List ℕ) (s : Option Stop) (from to : Option (List ℕ)) → sort ≡ Others → GetsNoSignature read
      → Walks t new (read ++ piece) texts s from to → Walks (or_records_tells t u) (Reader sort new b) (read ++ piece) texts s from to
  others_go_on sort new b read piece texts s from to is lacks w =
      subst (λ (x : Sort). Walks (or_records_tells t u) (Reader x new b) (read ++ piece) texts s from to) (sym is)
      (walks_others new b (read ++ piece) texts s from to (longer_none read piece lacks) w)

  pub records_go_on : (sort : Sort) (a : A) (new : B) (read behind piece texts : List ℕ) (s : Option Stop) (from to : Option (List ℕ)) → sort ≡ Records → read ≡ signature ++ behind
      → Walks u new (behind ++ piece) texts s from to → Walks (or_records_tells t u) (Reader sort a new) (read ++ piece) texts s from to
  records_go_on sort a new read behind piece texts s from to is at w =
      subst (λ (x : Sort). Walks (or_records_tells t u) (Reader x a new) (read ++ piece) texts s from to) (sym is)
      (walks_records a new (read ++ piece) (behind ++ piece) texts s from to (longer_behind read behind piece at) w)

  -- the signature became whole
  pub records_begin : (sort : Sort) (n : ℕ) (a : A) (new : B) (read piece behind texts : List ℕ) (s : Option Stop) (from to : Option (List ℕ)) → sort ≡ Records → read ≡ take n signature
      → texts ≡ [] → IsSorted (take n signature ++ piece) sort behind → Walks u new behind [] s from to → Walks (or_records_tells t u) (Reader sort a new) (read ++ piece) texts s from to
  records_begin sort n a new read piece behind texts s from to is front none sorted walks =
      let at : read ++ piece ≡ signature ++ behind = ap (λ (x : List ℕ). x ++ piece) front ∙ subst (λ (x : Sort). IsSorted (take n signature ++ piece) x behind) is sorted in
      subst (λ (x : Sort). Walks (or_records_tells t u) (Reader x a new) (read ++ piece) texts s from to) (sym is)
      (subst (λ (x : List ℕ). Walks (or_records_tells t u) (Reader Records a new) (read ++ piece) x s from to) (sym none)
      (walks_records a new (read ++ piece) behind [] s from to at walks))

  -- the texts of the first bytes of the signature
  pub none_yet : Waits t → (n : ℕ) (a : A) (read texts : List ℕ) → n < 8 → read ≡ take n signature → IsBetween t a read texts → texts ≡ []
  none_yet w n a read texts few is x = silent_at w n read texts few is (x.first [])

  -- no more was decided, or that there is no signature
  pub others_begin : (sort : Sort) (n : ℕ) (new : A) (b : B) (read piece behind texts : List ℕ) (s : Option Stop) (from to : Option (List ℕ)) → Waits t → sort ≢ Records → read ≡ take n signature
      → IsBetween u b [] [] → IsSorted (take n signature ++ piece) sort behind → Walks t new (read ++ piece) texts s from to
      → Walks (or_records_tells t u) (Reader sort new b) (read ++ piece) texts s from to
  others_begin (Undecided m) n new b read piece behind texts s from to w lacks is y (few, at) walks =
      walks_undecided w m new b (read ++ piece) texts s from to few (ap (λ (x : List ℕ). x ++ piece) is ∙ at) y walks
  others_begin Others n new b read piece behind texts s from to w lacks is y none walks =
      walks_others new b (read ++ piece) texts s from to (subst (λ (x : List ℕ). GetsNoSignature (x ++ piece)) (sym is) none) walks
  others_begin Records n new b read piece behind texts s from to w lacks is y sorted walks = absurd (lacks refl)

  -- the end of an input without the signature
  pub ends_others : (sort : Sort) (a : A) (b : B) (read texts : List ℕ) (last : Option (List ℕ)) → (sort ≡ Records → ⊥) → StandSorted t u sort a b read texts
      → (IsBetween t a read texts → t.ends a read texts last) → EndSorted t u sort a b read texts last
  ends_others (Undecided n) a b read texts last other (few, is, x, y) ends = (few_have_none n read few is, ends x)
  ends_others Others a b read texts last other (lacks, x) ends = (has_none read lacks, ends x)
  ends_others Records a b read texts last other s ends = absurd (other refl)
