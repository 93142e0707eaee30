-- What stands in front of bytes is told in one way.
use Rattle.std.proofs.Common.{◌≡◌, ℕ, ◌+◌, ◌≤◌, List, ◌++◌, length, take, drop, sym, ap, subst, ◌∙◌, arith, length-append, length-drop}
use Rattle.std.proofs.lemmas.List.{drop-append-le, take-append-le}
use Rattle.framing.proofs.Lemmas as laws
use Rattle.wire_frames.specs.declared.fault.RecordFault.{RecordFault}
use Rattle.wire_frames.specs.declared.record_front.RecordFront.{RecordFront}
use Rattle.wire_frames.specs.declared.record_front.RecordFront.TheVariants.{Whole, Open, Bad}
use Rattle.wire_frames.specs.Frames as frames
use Rattle.wire_frames.specs.Heads.{IsGoodHead}
use Rattle.wire_frames.specs.RecordFronts.{IsFrontRecord, IsRecordAnd}
use Rattle.wire_frames.specs.RecordRule.{record_rule}
use Rattle.wire_frames.specs.Records.{IsAtFault, IsWholeRecord, RecordSplit, StandsAs, WantsMore, bad_record, head_of, message_of, open_bytes, whole_record}
use Rattle.wire_frames.proofs.RecordItems.{of_fault, of_split, of_wants, of_whole, to_fault}

-- the first bytes of what is longer
pub take_front : (n : ℕ) (a b : List ℕ) → n ≤ length a → take n (a ++ b) ≡ take n a
take_front n a b long = take-append-le n a b long

pub drop_front : (n : ℕ) (a b : List ℕ) → n ≤ length a → drop n (a ++ b) ≡ drop n a ++ b
drop_front n a b long = drop-append-le n a b long

-- ---- a record in front

-- what is known of a record and a rest
pub record WholeParts (limit : ℕ) (bytes one rest : List ℕ) : Type 0 where
  pub long : 20 ≤ length bytes
  pub head : head_of bytes ≡ head_of one
  pub good : IsGoodHead (head_of bytes)
  pub message : frames.IsWholeFrame limit (message_of bytes) (message_of one) rest
  pub least : 36 ≤ length one
  pub sum : length bytes ≡ length one + length rest

pub whole_parts : (limit : ℕ) (bytes one rest : List ℕ) → IsWholeRecord limit bytes one rest → WholeParts limit bytes one rest
whole_parts limit bytes one rest w =
    let head : head_of bytes ≡ head_of one = ap head_of w.parts ∙ take_front 20 one rest w.is.head in
    let sum : length bytes ≡ length one + length rest = ap length w.parts ∙ length-append one rest in
    record {
      long = omega (arith, sum, w.is.head);
      head = head;
      good = subst IsGoodHead (sym head) w.is.good;
      message = record { parts = ap message_of w.parts ∙ drop_front 20 one rest w.is.head; is = w.is.message };
      least = omega (arith, w.is.message.framed.header, w.is.head, length-drop 20 one);
      sum = sum;
    }

-- ---- no two of the three

pub wants_no_record : (limit : ℕ) (bytes one rest : List ℕ) (n : ℕ) → WantsMore limit bytes n → IsWholeRecord limit bytes one rest → ⊥
wants_no_record limit bytes one rest n o w = laws.wants_not_whole (record_rule limit) bytes one rest n (of_wants limit bytes n o) (of_whole limit bytes one rest w)

pub wants_not_faulty : (limit : ℕ) (bytes : List ℕ) (n : ℕ) (f : RecordFault) → WantsMore limit bytes n → IsAtFault limit bytes f → ⊥
wants_not_faulty limit bytes n f o b = laws.wants_not_refused (record_rule limit) bytes n f (of_wants limit bytes n o) (of_fault limit bytes f b)

pub faulty_not_whole : (limit : ℕ) (bytes one rest : List ℕ) (f : RecordFault) → IsAtFault limit bytes f → IsWholeRecord limit bytes one rest → ⊥
faulty_not_whole limit bytes one rest f b w = laws.refused_not_whole (record_rule limit) bytes one rest f (of_fault limit bytes f b) (of_whole limit bytes one rest w)

-- ---- each of them in one way

pub record_wants_once : (limit : ℕ) (bytes : List ℕ) (n m : ℕ) → WantsMore limit bytes n → WantsMore limit bytes m → n ≡ m
record_wants_once limit bytes n m o p = laws.wants_once (record_rule limit) bytes n m (of_wants limit bytes n o) (of_wants limit bytes m p)

pub fault_once : (limit : ℕ) (bytes : List ℕ) (f g : RecordFault) → IsAtFault limit bytes f → IsAtFault limit bytes g → f ≡ g
fault_once limit bytes f g a b = laws.refused_once (record_rule limit) bytes f g (of_fault limit bytes f a) (of_fault limit bytes g b)

pub one_record : (limit : ℕ) (bytes one other rest after : List ℕ) → IsWholeRecord limit bytes one rest → IsWholeRecord limit bytes other after → (one ≡ other) × (rest ≡ after)
one_record limit bytes one other rest after w v = laws.one_item (record_rule limit) bytes one other rest after (of_whole limit bytes one rest w) (of_whole limit bytes other after v)

-- a fault stays, whatever follows
pub faulty_longer : (limit : ℕ) (bytes more : List ℕ) (f : RecordFault) → IsAtFault limit bytes f → IsAtFault limit (bytes ++ more) f
faulty_longer limit bytes more f b = to_fault limit (bytes ++ more) f (laws.refused_longer (record_rule limit) bytes more f (of_fault limit bytes f b))

-- ---- records, one after another

-- bytes are split in one way at most
pub one_record_split : (limit : ℕ) (bytes : List ℕ) (records others : List (List ℕ)) (rest after : List ℕ) → RecordSplit limit bytes records rest → RecordSplit limit bytes others after → (records ≡ others) × (rest ≡ after)
one_record_split limit bytes records others rest after s t = laws.one_split (record_rule limit) bytes records others rest after (of_split limit bytes records rest s) (of_split limit bytes others after t)

-- ---- what is told

told_whole : (limit : ℕ) (bytes : List ℕ) (told : RecordFront) → IsFrontRecord limit bytes told → (one rest : List ℕ) → IsWholeRecord limit bytes one rest → IsRecordAnd one rest told
told_whole limit bytes (Whole r after) is one rest w = one_record limit bytes _ one after.now rest is w
told_whole limit bytes (Open n) is one rest w = wants_no_record limit bytes one rest n is w
told_whole limit bytes (Bad f) is one rest w = faulty_not_whole limit bytes one rest f is w

told_open : (limit : ℕ) (bytes : List ℕ) (told : RecordFront) → IsFrontRecord limit bytes told → (n : ℕ) → WantsMore limit bytes n → told ≡ Open n
told_open limit bytes (Whole r after) is n o = absurd (wants_no_record limit bytes _ after.now n o is)
told_open limit bytes (Open m) is n o = ap Open (record_wants_once limit bytes m n is o)
told_open limit bytes (Bad f) is n o = absurd (wants_not_faulty limit bytes n f o is)

told_bad : (limit : ℕ) (bytes : List ℕ) (told : RecordFront) → IsFrontRecord limit bytes told → (f : RecordFault) → IsAtFault limit bytes f → told ≡ Bad f
told_bad limit bytes (Whole r after) is f b = absurd (faulty_not_whole limit bytes _ after.now f b is)
told_bad limit bytes (Open n) is f b = absurd (wants_not_faulty limit bytes n f is b)
told_bad limit bytes (Bad g) is f b = ap Bad (fault_once limit bytes g f is b)

pub record Told (limit : ℕ) (bytes : List ℕ) (told : RecordFront) : Type 0 where
  pub front : IsFrontRecord limit bytes told
  pub whole : (one rest : List ℕ) → IsWholeRecord limit bytes one rest → IsRecordAnd one rest told
  pub too_few : (n : ℕ) → WantsMore limit bytes n → told ≡ Open n
  pub bad : (f : RecordFault) → IsAtFault limit bytes f → told ≡ Bad f

-- what is told is all that holds
pub told_all : (limit : ℕ) (bytes : List ℕ) (told : RecordFront) → IsFrontRecord limit bytes told → Told limit bytes told
told_all limit bytes told is = record { front = is; whole = told_whole limit bytes told is; too_few = told_open limit bytes told is; bad = told_bad limit bytes told is }

-- what is told holds
pub stands : (limit : ℕ) (bytes : List ℕ) (told : RecordFront) → IsFrontRecord limit bytes told → StandsAs limit bytes
stands limit bytes (Whole r after) is = whole_record _ after.now is
stands limit bytes (Open n) is = open_bytes n is
stands limit bytes (Bad f) is = bad_record f is
