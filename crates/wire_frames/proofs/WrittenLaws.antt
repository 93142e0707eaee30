-- The records that were written one after another are those that are read.
use Rattle.std.proofs.Common.{◌≡◌, ℕ, ◌==◌, ◌&&◌, if◌then◌else◌, List, [], ◌∷◌, ◌++◌, map, refl, sym, ap, ◌∙◌, append-nil, arith}
use Rattle.std.specs.List.{concat}
use Rattle.framing.proofs.Lemmas.{all_joined}
use Rattle.wire_msg.specs.{number_at}
use Rattle.wire_frames.specs.Frames.{IsFrame}
use Rattle.wire_frames.specs.declared.head.Direction.{Direction}
use Rattle.wire_frames.specs.Heads.{direction_at, direction_number, signature}
use Rattle.wire_frames.specs.Records.{AreRecords, IsRecord, IsWholeRecord, RecordSplit, head_of, message_of}
use Rattle.wire_frames.specs.Written.{AreEntries, Entry, entry_bytes, messages_on, written_on}
use Rattle.wire_frames.proofs.RecordLaws.{whole_parts}
use Rattle.wire_frames.proofs.Heads.{reads_back, written_is}
use Rattle.wire_frames.proofs.RecordLaws.{one_record_split}
use Rattle.wire_msg.specs.declared.header.TheConstants.{MAX_MESSAGE_LEN}

all_records : (limit : ℕ) (es : List Entry) → AreEntries limit es → AreRecords limit (map entry_bytes es)
all_records limit [] are = tt
all_records limit (e ∷ es) are = (written_is limit e.head e.message are.0.0 are.0.1, all_records limit es are.1)

none_in_nothing : (limit : ℕ) (one after : List ℕ) → IsWholeRecord limit [] one after → ⊥
none_in_nothing limit one after w = let p = whole_parts limit [] one after w in omega (arith, p.least, p.sum)

pub written_split : (limit : ℕ) (es : List Entry) → AreEntries limit es → RecordSplit limit (concat (map entry_bytes es)) (map entry_bytes es) []
written_split limit es are = record {
  joined = concat (map entry_bytes es);
  spelled = all_joined (IsRecord limit) (map entry_bytes es) (all_records limit es are);
  parts = sym (append-nil (concat (map entry_bytes es)));
  ends = none_in_nothing limit;
}

-- a message in front of others, if it is of the connection and the direction
abbrev pick : ℕ → ℕ → ℕ → ℕ → List ℕ → List (List ℕ) → List (List ℕ)
pick n k c d m ms = if (n == c) && (k == d) then m ∷ ms else ms

on_written : (limit : ℕ) (es : List Entry) (c : ℕ) (d : Direction) → AreEntries limit es → messages_on c d (map entry_bytes es) ≡ written_on c d es
on_written limit [] c d are = refl
on_written limit (e ∷ es) c d are =
    let r = entry_bytes e in
    let n = direction_number d in
    let rs = messages_on c d (map entry_bytes es) in
    let back = reads_back limit e.head e.message are.0.0 are.0.1 in
    ap (λ (x : ℕ). pick x (direction_at (head_of r)) c n (message_of r) rs) (sym back.1.connection)
    ∙ ap (λ (x : ℕ). pick e.head.connection x c n (message_of r) rs) (sym back.1.direction)
    ∙ ap (λ (x : List ℕ). pick e.head.connection (direction_number e.head.direction) c n x rs) back.2
    ∙ ap (λ (x : List (List ℕ)). pick e.head.connection (direction_number e.head.direction) c n e.message x) (on_written limit es c d are.1)

pub messages_back : (limit : ℕ) (es : List Entry) (records : List (List ℕ)) (rest : List ℕ) (c : ℕ) (d : Direction) → AreEntries limit es
    → RecordSplit limit (concat (map entry_bytes es)) records rest → messages_on c d records ≡ written_on c d es
messages_back limit es records rest c d are split =
    let same = one_record_split limit (concat (map entry_bytes es)) records (map entry_bytes es) rest [] split (written_split limit es are) in
    ap (messages_on c d) same.0 ∙ on_written limit es c d are

-- ---- the beginning of a file

pub no_message_begins_so : (more frame : List ℕ) → signature ++ more ≡ frame → IsFrame MAX_MESSAGE_LEN frame → ⊥
no_message_begins_so more frame is f =
    let n : number_at (signature ++ more) 0 ≡ 1212634444 = refl in
    omega (arith, n, ap (λ (x : List ℕ). number_at x 0) is, f.framed.announced, f.within)
