-- Records, as items of one kind, and how a reader of them is fed.
use Rattle.std.proofs.Common.{◌≡◌, ◌≢◌, ◌≤◌, ◌++◌, ℕ, List, length, take, min, refl, ap, ◌∙◌, arith, length-append, length-drop, length-take}
use Rattle.wire_frames.specs.Frames as frames
use Rattle.wire_frames.specs.Records.{of_head, of_message}
use Rattle.wire_frames.specs.Records.{IsWholeRecord, WantsMore, message_of}
use Rattle.wire_frames.proofs.Lemmas.{drop_front, faulty_longer, wants_not_faulty, wants_no_record as wants_not_whole, whole_parts}
use Rattle.file_commands.specs.declared.record_text.RecordForm.{RecordForm}
use Rattle.file_commands.specs.Records.{IsOpenRecord, records_of}
use Rattle.file_commands.proofs.FrameReadings.{within_frame}
use Rattle.file_commands.proofs.ItemReadings.{IsKind, item_alone}

pub records_kind : (form : RecordForm) (limit : ℕ) → IsKind (records_of form limit)
records_kind form limit = record {
  nothing_open = (20, of_head (omega arith) refl);
  open_not_bad = λ start bytes line o bad. wants_not_faulty limit bytes o.0 bad.0 o.1 bad.1;
  open_not_item = λ one rest o is. wants_not_whole limit (one ++ rest) one rest o.0 o.1 (record { parts = refl; is = is });
  bad_longer = λ start bytes more line bad. (bad.0, faulty_longer limit bytes more bad.0 bad.1, bad.2);
}

-- some more bytes are wanted
wants_some : (limit : ℕ) (held : List ℕ) (more : ℕ) → WantsMore limit held more → 1 ≤ more
wants_some limit held more (of_head some is) = some
wants_some limit held more (of_message long good (frames.of_header some is)) = some
wants_some limit held more (of_message long good (frames.of_frame some far fine is)) = some

-- a reader that wants more takes some of what there is
pub takes_some : (limit n : ℕ) (held rest : List ℕ) (o : IsOpenRecord limit held) → n ≡ min o.0 (length rest) → length rest ≢ 0 → 1 ≤ n
takes_some limit n held rest o count there = omega (arith, wants_some limit held o.0 o.1, count, there)

-- a reader that wants more takes no byte behind the end of a record
within_record : (limit n : ℕ) (held new rest one after : List ℕ) (more : ℕ) → WantsMore limit held more → n ≤ more → n ≤ length rest → new ≡ held ++ take n rest → IsWholeRecord limit new one after → length new ≤ length one
within_record limit n held new rest one after more (of_head some sum) most there is w =
    let p = whole_parts limit new one after w in
    omega (arith, sum, most, there, p.least, ap length is, length-append held (take n rest), length-take n rest)
within_record limit n held new rest one after more (of_message long good wants) most there is w =
    let p = whole_parts limit new one after w in
    let same : message_of new ≡ message_of held ++ take n rest = ap message_of is ∙ drop_front 20 held (take n rest) long in
    let within = within_frame limit n (message_of held) (message_of new) rest (message_of one) after more wants most there same p.message in
    omega (arith, within, p.long, p.least, length-drop 20 new, length-drop 20 one)

-- what a reader holds is the record that became whole, and nothing behind it
pub record_alone : (limit n : ℕ) (held new rest one after : List ℕ) (o : IsOpenRecord limit held) → n ≡ min o.0 (length rest) → new ≡ held ++ take n rest → IsWholeRecord limit new one after → one ≡ new
record_alone limit n held new rest one after o count is w =
    item_alone new one after w.parts (within_record limit n held new rest one after o.0 o.1 (omega (arith, count)) (omega (arith, count)) is w)
