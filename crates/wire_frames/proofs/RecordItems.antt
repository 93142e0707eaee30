-- Records are the items of their rule.
use Rattle.std.proofs.Common.{◌≡◌, ◌⊎◌, inl, inr, ℕ, ◌+◌, ◌-◌, ◌<◌, ◌≤◌, ◌^◌, List, Ok, Err, length, take, drop, refl, sym, ap, subst, ◌∙◌, arith, length-drop, take_all}
use Rattle.std.specs.Int.{w32, from_le_bytes}
use Rattle.std.proofs.lemmas.Bool.{cases_lt}
use Rattle.std.proofs.lemmas.Bool.Decides.{nat_tests}
use Rattle.std.proofs.lemmas.List.{drop-take, take-take}
use Rattle.framing.specs.Items as items
use Rattle.framing.specs.{BeginsNone, HasLead, IsEnd, IsItem, IsItself, IsRefused, IsWholeItem, ItemSplit, bounded}
use Rattle.framing.proofs.Lemmas.{is_within, outside, outside_is, splits_along, within_is}
use Rattle.wire_msg.specs.{number_at}
use Rattle.wire_frames.specs.declared.fault.RecordFault.{RecordFault}
use Rattle.wire_frames.specs.declared.fault.RecordCause.TheVariants as causes
use Rattle.wire_frames.specs.Causes.{record_fault}
use Rattle.wire_frames.specs.Frames as frames
use Rattle.wire_frames.specs.Heads as heads
use Rattle.wire_frames.specs.Heads.{HeadFault, IsGoodHead, connection_at, direction_at}
use Rattle.wire_frames.specs.RecordRule.{checked_numbers, record_rule}
use Rattle.wire_frames.specs.Records.{BeginsNoRecord, IsAtFault, IsRecord, IsWholeRecord, RecordSplit, WantsMore, head_of, message_of, of_head, of_message}

abbrev length_fault : RecordFault
length_fault = record_fault 20 causes.Length

-- ---- the checks of a head

passes : (c d : ℕ) → 1 ≤ c → c < 2 ^ 63 → d < 2 → checked_numbers c d ≡ Ok tt
passes c d some fits low = grind (arith, nat_tests, some, fits, low)

no_connection : (c d : ℕ) → (c < 1) ⊎ (2 ^ 63 ≤ c) → checked_numbers c d ≡ Err (record_fault 8 causes.Connection)
no_connection c d (inl low) = grind (arith, nat_tests, low)
no_connection c d (inr high) = grind (arith, nat_tests, high)

no_direction : (c d : ℕ) → 1 ≤ c → c < 2 ^ 63 → 2 ≤ d → checked_numbers c d ≡ Err (record_fault 16 causes.Direction)
no_direction c d some fits high = grind (arith, nat_tests, some, fits, high)

-- the numbers are good, or those of one fault
pub data Told (bytes : List ℕ) : Type 0 where
  good_head : IsGoodHead bytes → checked_numbers (connection_at bytes) (direction_at bytes) ≡ Ok tt → Told bytes
  bad_head : (f : RecordFault) → HeadFault bytes f → checked_numbers (connection_at bytes) (direction_at bytes) ≡ Err f → Told bytes

told_direction : (bytes : List ℕ) → 1 ≤ connection_at bytes → connection_at bytes < 2 ^ 63 → Told bytes
told_direction bytes some fits = elim (cases_lt (direction_at bytes) 2) [
  | inl low ↦ good_head (record { connection = record { first = some; fits = fits }; direction = low }) (passes (connection_at bytes) (direction_at bytes) some fits low)
  | inr high ↦ bad_head (record_fault 16 causes.Direction) (heads.of_direction (record { first = some; fits = fits }) high refl) (no_direction (connection_at bytes) (direction_at bytes) some fits high)
]

told_high : (bytes : List ℕ) → 1 ≤ connection_at bytes → Told bytes
told_high bytes some = elim (cases_lt (connection_at bytes) (2 ^ 63)) [
  | inl fits ↦ told_direction bytes some fits
  | inr high ↦ bad_head (record_fault 8 causes.Connection) (heads.of_connection (inr high) refl) (no_connection (connection_at bytes) (direction_at bytes) (inr high))
]

told_head : (bytes : List ℕ) → Told bytes
told_head bytes = elim (cases_lt (connection_at bytes) 1) [
  | inl low ↦ bad_head (record_fault 8 causes.Connection) (heads.of_connection (inl low) refl) (no_connection (connection_at bytes) (direction_at bytes) (inl low))
  | inr some ↦ told_high bytes some
]

good_from : (bytes : List ℕ) → Told bytes → checked_numbers (connection_at bytes) (direction_at bytes) ≡ Ok tt → IsGoodHead bytes
good_from bytes (good_head g at) is = g
good_from bytes (bad_head f h at) is = let e = sym is ∙ at in absurd cc

pub is_good : (bytes : List ℕ) → checked_numbers (connection_at bytes) (direction_at bytes) ≡ Ok tt → IsGoodHead bytes
is_good bytes is = good_from bytes (told_head bytes) is

bad_from : (bytes : List ℕ) (f : RecordFault) → Told bytes → checked_numbers (connection_at bytes) (direction_at bytes) ≡ Err f → HeadFault bytes f
bad_from bytes f (good_head g at) is = let e = sym is ∙ at in absurd cc
bad_from bytes f (bad_head k h at) is = let e : k ≡ f = (let e = sym at ∙ is in cc) in subst (HeadFault bytes) e h

pub is_bad : (bytes : List ℕ) (f : RecordFault) → checked_numbers (connection_at bytes) (direction_at bytes) ≡ Err f → HeadFault bytes f
is_bad bytes f is = bad_from bytes f (told_head bytes) is

pub good_passes : (bytes : List ℕ) → IsGoodHead bytes → checked_numbers (connection_at bytes) (direction_at bytes) ≡ Ok tt
good_passes bytes g = passes (connection_at bytes) (direction_at bytes) g.connection.first g.connection.fits g.direction

pub bad_fails : (bytes : List ℕ) (f : RecordFault) → HeadFault bytes f → checked_numbers (connection_at bytes) (direction_at bytes) ≡ Err f
bad_fails bytes f (heads.of_connection x is) = no_connection (connection_at bytes) (direction_at bytes) x ∙ ap Err (sym is)
bad_fails bytes f (heads.of_direction c high is) = no_direction (connection_at bytes) (direction_at bytes) c.first c.fits high ∙ ap Err (sym is)

leads : (limit : ℕ) (bytes : List ℕ) → 20 ≤ length bytes → IsGoodHead (head_of bytes) → HasLead (record_rule limit) bytes
leads limit bytes long good = record { long = long; passes = good_passes (head_of bytes) good }

-- so are those of a lead, whose 20 bytes are all of it
lead_is : (lead head : List ℕ) → head ≡ take 20 lead → length lead ≡ 20 → head ≡ lead
lead_is lead head is size = is ∙ take_all 20 lead (omega (arith, size))

pub lead_passes : (lead head : List ℕ) → head ≡ take 20 lead → length lead ≡ 20 → IsGoodHead head → Ok tt ≡ checked_numbers (connection_at lead) (direction_at lead)
lead_passes lead head is size good = sym (good_passes lead (subst IsGoodHead (lead_is lead head is size) good))

pub lead_fails : (lead head : List ℕ) (f : RecordFault) → head ≡ take 20 lead → length lead ≡ 20 → HeadFault head f → Err f ≡ checked_numbers (connection_at lead) (direction_at lead)
lead_fails lead head f is size fault = sym (bad_fails lead f (subst (λ (x : List ℕ). HeadFault x f) (lead_is lead head is size) fault))

-- ---- the length

-- that of the message stands in the 16 bytes behind the head
in_header : (bytes : List ℕ) → number_at (take 36 bytes) 20 ≡ number_at (message_of bytes) 0
in_header bytes = ap (λ (x : List ℕ). from_le_bytes w32 (take 4 x)) (drop-take 20 16 bytes) ∙ ap (from_le_bytes w32) (take-take 4 16 (drop 20 bytes) (omega arith))

record Lengths (limit : ℕ) (bytes : List ℕ) (n : ℕ) : Type 0 where
  same : n ≡ 20 + number_at (message_of bytes) 0
  low : 16 ≤ number_at (message_of bytes) 0
  high : number_at (message_of bytes) 0 ≤ limit

lengths : (limit : ℕ) (bytes : List ℕ) (n : ℕ) → bounded 36 (20 + limit) length_fault (20 + number_at (take 36 bytes) 20) ≡ Ok n → Lengths limit bytes n
lengths limit bytes n is =
    let w = is_within 36 (20 + limit) length_fault (20 + number_at (take 36 bytes) 20) n is in
    let e = in_header bytes in
    record { same = omega (arith, w.same, e); low = omega (arith, w.low, e); high = omega (arith, w.high, e) }

bounds : (limit : ℕ) (bytes : List ℕ) (n : ℕ) → n ≡ 20 + number_at (message_of bytes) 0 → 36 ≤ n → n ≤ 20 + limit → bounded 36 (20 + limit) length_fault (20 + number_at (take 36 bytes) 20) ≡ Ok n
bounds limit bytes n is low high =
    let e : 20 + number_at (take 36 bytes) 20 ≡ n = omega (arith, is, in_header bytes) in
    ap (bounded 36 (20 + limit) length_fault) e ∙ within_is 36 (20 + limit) length_fault n low high

-- ---- one record

pub to_record : (limit : ℕ) (bytes : List ℕ) → IsItem (record_rule limit) bytes → IsRecord limit bytes
to_record limit bytes i =
    let w = lengths limit bytes (length bytes) i.announced in
    let size = length-drop 20 bytes in
    record {
      head = i.leads.long;
      good = is_good (head_of bytes) i.leads.passes;
      message = record {
        framed = record { header = omega (arith, size, i.header); announced = omega (arith, size, w.same, i.header) };
        within = omega (arith, size, w.same, w.high);
      };
    }

pub of_record : (limit : ℕ) (bytes : List ℕ) → IsRecord limit bytes → IsItem (record_rule limit) bytes
of_record limit bytes r =
    let size = length-drop 20 bytes in
    let long : 36 ≤ length bytes = omega (arith, size, r.head, r.message.framed.header) in
    record {
      leads = leads limit bytes r.head r.good;
      header = long;
      announced = bounds limit bytes (length bytes) (omega (arith, size, r.head, r.message.framed.announced)) long (omega (arith, size, r.message.within));
    }

pub to_whole : (limit : ℕ) (bytes one rest : List ℕ) → IsWholeItem (record_rule limit) bytes one rest → IsWholeRecord limit bytes one rest
to_whole limit bytes one rest w = record { parts = w.parts; is = to_record limit one w.is }

pub of_whole : (limit : ℕ) (bytes one rest : List ℕ) → IsWholeRecord limit bytes one rest → IsWholeItem (record_rule limit) bytes one rest
of_whole limit bytes one rest w = record { parts = w.parts; is = of_record limit one w.is }

-- ---- too few bytes

pub to_wants : (limit : ℕ) (bytes : List ℕ) (n : ℕ) → items.WantsMore (record_rule limit) bytes n → WantsMore limit bytes n
to_wants limit bytes n (items.of_lead some is) = of_head some is
to_wants limit bytes n (items.of_header some l is) = of_message l.long (is_good (head_of bytes) l.passes) (frames.of_header some (omega (arith, is, l.long, length-drop 20 bytes)))
to_wants limit bytes n (items.of_item some a) =
    let w = lengths limit bytes (length bytes + n) a.announced in
    let size = length-drop 20 bytes in
    of_message a.leads.long (is_good (head_of bytes) a.leads.passes) (frames.of_frame some (omega (arith, size, a.header)) (record { least = w.low; most = w.high }) (omega (arith, size, a.header, w.same)))

pub of_wants : (limit : ℕ) (bytes : List ℕ) (n : ℕ) → WantsMore limit bytes n → items.WantsMore (record_rule limit) bytes n
of_wants limit bytes n (of_head some is) = items.of_lead some is
of_wants limit bytes n (of_message long good (frames.of_header some is)) = items.of_header some (leads limit bytes long good) (omega (arith, is, long, length-drop 20 bytes))
of_wants limit bytes n (of_message long good (frames.of_frame some far fine is)) =
    let size = length-drop 20 bytes in
    let same : length bytes + n ≡ 20 + number_at (message_of bytes) 0 = omega (arith, size, long, is) in
    items.of_item some (record {
      leads = leads limit bytes long good;
      header = omega (arith, size, long, far);
      announced = bounds limit bytes (length bytes + n) same (omega (arith, same, fine.least)) (omega (arith, same, fine.most));
    })

-- ---- no record

outside_low : (limit n : ℕ) → (20 + n < 36) ⊎ (20 + limit < 20 + n) → (n < 16) ⊎ (limit < n)
outside_low limit n (inl low) = inl (omega (arith, low))
outside_low limit n (inr high) = inr (omega (arith, high))

outside_high : (limit n : ℕ) → (n < 16) ⊎ (limit < n) → (20 + n < 36) ⊎ (20 + limit < 20 + n)
outside_high limit n (inl low) = inl (omega (arith, low))
outside_high limit n (inr high) = inr (omega (arith, high))

pub to_fault : (limit : ℕ) (bytes : List ℕ) (f : RecordFault) → IsRefused (record_rule limit) bytes f → IsAtFault limit bytes f
to_fault limit bytes f (items.by_lead l) = of_head l.long (is_bad (head_of bytes) f l.fails)
to_fault limit bytes f (items.by_header r) =
    let o = outside 36 (20 + limit) length_fault f (20 + number_at (take 36 bytes) 20) r.announced in
    let wrong = subst (λ (n : ℕ). (n < 16) ⊎ (limit < n)) (in_header bytes) (outside_low limit (number_at (take 36 bytes) 20) o.0) in
    of_message r.leads.long (is_good (head_of bytes) r.leads.passes) (record { header = omega (arith, r.header, length-drop 20 bytes); wrong = wrong }) o.1

pub of_fault : (limit : ℕ) (bytes : List ℕ) (f : RecordFault) → IsAtFault limit bytes f → IsRefused (record_rule limit) bytes f
of_fault limit bytes f (of_head long fault) = items.by_lead (record { long = long; fails = bad_fails (head_of bytes) f fault })
of_fault limit bytes f (of_message long good lacks is) =
    let n = number_at (message_of bytes) 0 in
    items.by_header (record {
      leads = leads limit bytes long good;
      header = omega (arith, long, lacks.header, length-drop 20 bytes);
      announced = ap (λ (k : ℕ). bounded 36 (20 + limit) length_fault (20 + k)) (in_header bytes) ∙ outside_is 36 (20 + limit) length_fault (20 + n) (outside_high limit n lacks.wrong) ∙ ap Err (sym is);
    })

pub to_end : (limit : ℕ) (rest : List ℕ) → IsEnd (record_rule limit) rest → ((n : ℕ) × WantsMore limit rest n) ⊎ ((f : RecordFault) × IsAtFault limit rest f)
to_end limit rest (items.at_open n o) = inl (n, to_wants limit rest n o)
to_end limit rest (items.at_refused f r) = inr (f, to_fault limit rest f r)

-- ---- records, one after another

pub to_split : (limit : ℕ) (bytes : List ℕ) (records : List (List ℕ)) (rest : List ℕ) → ItemSplit (record_rule limit) bytes records rest → RecordSplit limit bytes records rest
to_split limit bytes records rest =
    splits_along (IsItself (IsItem (record_rule limit))) (IsItself (IsRecord limit)) (BeginsNone (record_rule limit)) (BeginsNoRecord limit) bytes records rest (λ x b i. (to_record limit x i.0, i.1))
    (λ none one after w. none one after (of_whole limit rest one after w))

pub of_split : (limit : ℕ) (bytes : List ℕ) (records : List (List ℕ)) (rest : List ℕ) → RecordSplit limit bytes records rest → ItemSplit (record_rule limit) bytes records rest
of_split limit bytes records rest =
    splits_along (IsItself (IsRecord limit)) (IsItself (IsItem (record_rule limit))) (BeginsNoRecord limit) (BeginsNone (record_rule limit)) bytes records rest (λ x b i. (of_record limit x i.0, i.1))
    (λ none one after w. none one after (to_whole limit rest one after w))
