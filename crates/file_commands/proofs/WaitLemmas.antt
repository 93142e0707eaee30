-- Nothing is told of the first few bytes of the signature of a file of records, whatever an input is.
use Rattle.std.proofs.Common.{◌≡◌, ◌-◌, ◌<◌, ◌++◌, [], ◌∷◌, ℕ, List, Bool, length, take, drop, sym, subst, ◌∙◌, append_assoc, arith, length-take, take-append-drop}
use Rattle.std.specs.List.{concat}
use Rattle.bson_stream.specs.Standing.{in_document}
use Rattle.bson_stream.specs as stream
use Rattle.bson_stream.proofs.Lemmas.{open_front}
use Rattle.wire_frames.specs.Frames.{of_header}
use Rattle.wire_msg.specs.Standing.{IsOpen, in_header}
use Rattle.wire_frames.specs.{signature}
use Rattle.file_commands.specs.declared.msg.MessageForm.{MessageForm}
use Rattle.file_commands.specs.Any.{IsOpenFrame}
use Rattle.file_commands.specs.Documents.{TextRule}
use Rattle.file_commands.specs.DocumentWalk.{document_tells, document_walk}
use Rattle.file_commands.specs.FrameWalk.{any_tells, any_walk}
use Rattle.file_commands.specs.MessageWalk.{message_tells, message_walk}
use Rattle.file_commands.specs.OrRecordsWalk.{Waits}
use Rattle.file_commands.specs.ItemWalk.{ItemWalk, item_tells}
use Rattle.framing.specs.{AreAll}
use Rattle.file_commands.specs.Items.{AreTextsOf}
use Rattle.file_commands.proofs.DocumentReadings.{documents_kind}
use Rattle.file_commands.proofs.FrameReadings.{frames_kind}
use Rattle.file_commands.proofs.MessageReadings.{messages_kind}
use Rattle.file_commands.proofs.ItemReadings.{IsKind}
use Rattle.wire_msg.specs.declared.header.TheConstants.{MAX_MESSAGE_LEN}

-- ---- items of a kind of which the first bytes of the signature are open

module _ {R : Type 0} (walk : ItemWalk R) (is_kind : IsKind (walk.kind walk.limit)) (few_open : (n : ℕ) → n < 8 → (walk.kind walk.limit).is_open (take n signature)) where
  no_items : (bytes texts rest : List ℕ) (ps : List (List ℕ)) → (walk.kind walk.limit).is_open bytes → AreAll (walk.kind walk.limit).is_item ps → bytes ≡ concat ps ++ rest → AreTextsOf (walk.kind walk.limit) walk.base ps texts
      → (texts ≡ []) × (rest ≡ bytes)
  no_items bytes texts rest [] o are joined none = (none, sym joined)
  no_items bytes texts rest (p ∷ ps) o are joined some = absurd (is_kind.open_not_item p (concat ps ++ rest) (subst (walk.kind walk.limit).is_open (joined ∙ append_assoc p (concat ps) rest) o) are.0)

  items_wait : Waits (item_tells walk)
  items_wait = record {
    silent = λ n texts few first.
        let h = first.1 in (no_items (take n signature) texts first.0 h.items (few_open n few) h.items_are h.joined h.texts_are).0;
    sound = λ n r texts line few bad.
        let h = bad.1.have in
        let none = no_items (take n signature) texts bad.0 h.items (few_open n few) h.items_are h.joined h.texts_are in
        is_kind.open_not_bad (walk.reading r).start (take n signature) line (few_open n few) (subst (λ (x : List ℕ). (walk.kind walk.limit).is_bad (walk.reading r).start x line) none.1 bad.2);
  }

few_long : (n : ℕ) → n < 8 → length (take n signature) < 8
few_long n few = omega (arith, few, length-take n signature)

open_frame : (bytes : List ℕ) → length bytes < 8 → IsOpenFrame MAX_MESSAGE_LEN bytes
open_frame bytes few = (16 - length bytes, of_header (omega (arith, few)) (omega (arith, few)))

pub frames_wait : Waits any_tells
frames_wait = items_wait any_walk (frames_kind MAX_MESSAGE_LEN) (λ n few. open_frame (take n signature) (few_long n few))

open_message : (bytes : List ℕ) → length bytes < 8 → IsOpen MAX_MESSAGE_LEN bytes
open_message bytes few = in_header (omega (arith, few))

pub messages_wait : (form : MessageForm) → Waits (message_tells form)
messages_wait form = items_wait (message_walk form) (messages_kind form MAX_MESSAGE_LEN) (λ n few. open_message (take n signature) (few_long n few))

-- a document that begins as the signature would have 1,212,634,444 bytes
signature_open : stream.IsOpen signature
signature_open = in_document (omega arith) (omega arith, omega arith) (omega arith)

pub documents_wait : (rule : TextRule) (closing : Bool → List ℕ) → Waits (document_tells rule closing)
documents_wait rule closing =
    items_wait (document_walk rule closing) (documents_kind rule) (λ n few. open_front (take n signature) (drop n signature) (subst stream.IsOpen (sym (take-append-drop n signature)) signature_open))
