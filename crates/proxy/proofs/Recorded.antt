-- What a log has after a message.
use Rattle.std.proofs.Common.{◌≡◌, ◌∙◌, ◌++◌, ℕ, List, [], Bool, true, false, Option, Some, None, append_assoc, append-nil, ap, refl, subst, sym}
use Rattle.std.specs.Prelude.{MatchBool, is_none, not}
use Rattle.std.specs.Io.KnownBytes.{Appends, Keeps}
use Rattle.std.proofs.KnownBytes.{Appends-kept, Keeps-refl}
use Rattle.wire_frames.specs.{record_of}
use Rattle.wire_frames.specs.declared.head.RecordHead.{RecordHead}
use Rattle.proxy.specs.declared.direction.Direction.{Direction}
use Rattle.proxy.specs.Recording.{IsHeadOf, IsRecorded, log_of}

-- what waited was written
pub written_log : (a b : Option (List ℕ)) (waiting : List ℕ) → Appends a b waiting → Keeps (log_of a waiting) (log_of b [])
written_log None b waiting wrote = tt
written_log (Some x) None waiting wrote = absurd wrote
written_log (Some x) (Some y) waiting wrote = append-nil y ∙ wrote

-- a record is behind what waited
longer : (a : Option (List ℕ)) (old new more : List ℕ) → new ≡ old ++ more → Appends (log_of a old) (log_of a new) more
longer None old new more is = tt
longer (Some x) old new more is = ap (λ (l : List ℕ). x ++ l) is ∙ sym (append_assoc x old more)

same : (a after : Option (List ℕ)) (old new : List ℕ) → new ≡ old → Keeps (log_of a new) after → Keeps (log_of a old) after
same a after old new is kept = subst (λ (l : List ℕ). Keeps (log_of a l) after) is kept

pub is_recorded : (a after : Option (List ℕ)) (old new : List ℕ) (room left left' : Option ℕ) (number : ℕ) (direction : Direction) (h : RecordHead) (message : List ℕ) (fits : Bool)
    → left' ≡ left → is_none room ≡ false → MatchBool fits (new ≡ old ++ record_of h message) ((new ≡ old) × (left ≡ None)) → Keeps (log_of a new) after → IsHeadOf number direction h
    → IsRecorded (log_of a old) after room left' number direction message (not fits)
is_recorded a after old new None left left' number direction h message fits stays has_room put kept is = absurd (let no : true ≡ false = has_room in cc)
is_recorded a after old new (Some r) left left' number direction h message true stays has_room put kept is =
    (h, is, Appends-kept (log_of a old) (log_of a new) after (record_of h message) (longer a old new (record_of h message) put) kept)
is_recorded a after old new (Some r) left left' number direction h message false stays has_room put kept is = (same a after old new put.0 kept, stays ∙ put.1)

-- it has ended before
pub is_ended : (a : Option (List ℕ)) (room : Option ℕ) (number : ℕ) (direction : Direction) (message : List ℕ) → is_none room ≡ true
    → IsRecorded a a room room number direction message false
is_ended a None number direction message full = (Keeps-refl a, refl, refl)
is_ended a (Some r) number direction message full = absurd (let no : false ≡ true = full in cc)
