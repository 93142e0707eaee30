-- Bytes have one text at most as records, each with its head and its message; and as an input that its first bytes tell.
use Rattle.std.proofs.Common.{◌≡◌, inl, inr, ◌+◌, ◌++◌, ℕ, List, Bool, refl, sym, ap, subst, ◌∙◌}
use Rattle.bson_elem.specs.Spelling.{IsBytes}
use Rattle.bson_elem.proofs.Lemmas.{IsBytes-after, IsBytes-drop}
use Rattle.wire_frames.specs.declared.fault.RecordFault.{RecordFault}
use Rattle.wire_frames.specs.declared.head.Direction.{Direction}
use Rattle.wire_frames.specs.declared.head.Direction.TheVariants.{FromServer, ToServer}
use Rattle.wire_frames.specs.declared.head.RecordHead.{RecordHead}
use Rattle.wire_frames.specs.{HasHead, IsRecord, direction_number, message_of, signature}
use Rattle.wire_frames.proofs.Lemmas.{fault_once, faulty_not_whole, one_record as one_front}
use Rattle.wire_text.proofs.Lemmas.{one_of_frame}
use Rattle.file_commands.specs.declared.record_text.RecordForm.TheVariants as form
use Rattle.file_commands.specs.InputFault.{record_line}
use Rattle.file_commands.specs.OrRecords.{TextOrRecords}
use Rattle.file_commands.specs.Output.{TextOf}
use Rattle.file_commands.specs.RecordText.{IsRecordText, direction_sign, head_line, record_closing}
use Rattle.file_commands.specs.Records.{RecordsText, records_of}
use Rattle.file_commands.proofs.ItemLaws.{IsTold, one_items_text}
use Rattle.file_commands.proofs.RecordReadings.{records_kind}
use Rattle.std.proofs.lemmas.List.{append_cancel_left}
use Rattle.wire_msg.specs.declared.header.TheConstants.{MAX_MESSAGE_LEN}

one_sign : (d e : Direction) → direction_number d ≡ direction_number e → direction_sign d ≡ direction_sign e
one_sign ToServer ToServer same = refl
one_sign ToServer FromServer same = absurd cc
one_sign FromServer ToServer same = absurd cc
one_sign FromServer FromServer same = refl

-- a head has one line
one_line : (bytes : List ℕ) (h k : RecordHead) → HasHead bytes h → HasHead bytes k → head_line h ≡ head_line k
one_line bytes h k x y = rw (x.micros ∙ sym y.micros, x.connection ∙ sym y.connection, one_sign h.direction k.direction (x.direction ∙ sym y.direction)) refl

-- a record has one text
one_of_record : (start : ℕ) (bytes a b : List ℕ) → IsBytes bytes → IsRecord MAX_MESSAGE_LEN bytes → IsRecordText form.Text start bytes a → IsRecordText form.Text start bytes b → a ≡ b
one_of_record start bytes a b fits is x y =
    let line = one_line _ x.0 y.0 x.2 y.2 in
    let message : x.1 ≡ y.1 = one_of_frame (start + 20) (message_of bytes) x.1 y.1 (IsBytes-drop 20 bytes fits) is.message.within x.3 y.3 in
    x.4 ∙ ap (λ (t : List ℕ). t ++ x.1) line ∙ ap (λ (t : List ℕ). head_line y.0 ++ t) message ∙ sym y.4

records_told : IsTold (records_of form.Text MAX_MESSAGE_LEN)
records_told = record {
  one_item = λ a b after behind x y same. (one_front MAX_MESSAGE_LEN (a ++ after) a b after behind (record { parts = refl; is = x }) (record { parts = same; is = y })).0;
  one_text = one_of_record;
  one_line = λ start bytes a b fits x y. x.2 ∙ ap (λ (f : RecordFault). record_line (start + f.at) f.cause) (fault_once MAX_MESSAGE_LEN bytes x.0 y.0 x.1 y.1) ∙ sym y.2;
  bad_not_text = λ start one rest line text fits bad is t. faulty_not_whole MAX_MESSAGE_LEN (one ++ rest) one rest bad.0 bad.1 (record { parts = refl; is = is });
}

one_records_text : (bytes text text' : List ℕ) (fault fault' : Bool) → IsBytes bytes
    → RecordsText form.Text bytes text fault → RecordsText form.Text bytes text' fault' → (text ≡ text') × (fault ≡ fault')
one_records_text = one_items_text (records_of form.Text MAX_MESSAGE_LEN) (records_kind form.Text MAX_MESSAGE_LEN) records_told 8 (record_closing form.Text)

-- a text, and whether it ends with a fault line, are told by the bytes
abbrev pub IsOnly : TextOf → List ℕ → Type 0
IsOnly Text bytes = (text text' : List ℕ) (fault fault' : Bool) → Text bytes text fault → Text bytes text' fault' → (text ≡ text') × (fault ≡ fault')

-- so they are where the first bytes tell the sort of an input
pub one_text_or_records : (Others : TextOf) (bytes : List ℕ) → IsBytes bytes → IsOnly Others bytes → IsOnly (TextOrRecords form.Text Others) bytes
one_text_or_records Others bytes fits only text text' fault fault' (inl (behind, is, x)) (inl (behind', at, y)) =
    let same : behind ≡ behind' = append_cancel_left signature behind behind' (sym is ∙ at) in
    one_records_text behind text text' fault fault' (IsBytes-after signature behind (subst IsBytes is fits)) x (subst (λ (b : List ℕ). RecordsText form.Text b text' fault') (sym same) y)
one_text_or_records Others bytes fits only text text' fault fault' (inl (behind, is, x)) (inr y) = absurd (y.0 behind is)
one_text_or_records Others bytes fits only text text' fault fault' (inr x) (inl (behind, is, y)) = absurd (x.0 behind is)
one_text_or_records Others bytes fits only text text' fault fault' (inr x) (inr y) = only text text' fault fault' x.1 y.1
