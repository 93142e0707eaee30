-- Bytes have one text at most as messages of any opCode.
use Rattle.std.proofs.Common.{◌≡◌, ◌++◌, ℕ, List, Bool, refl, sym, ◌∙◌}
use Rattle.bson_elem.specs.Spelling.{IsBytes}
use Rattle.wire_text.proofs.Lemmas.{one_of_frame}
use Rattle.wire_frames.proofs.Lemmas.{lacking_not_whole, one_front}
use Rattle.file_commands.specs.Any.{AnyText, frames_of}
use Rattle.file_commands.specs.Output.{nothing}
use Rattle.file_commands.proofs.FrameReadings.{frames_kind}
use Rattle.file_commands.proofs.ItemLaws.{IsTold, one_items_text}
use Rattle.wire_msg.specs.declared.header.TheConstants.{MAX_MESSAGE_LEN}

frames_told : IsTold (frames_of MAX_MESSAGE_LEN)
frames_told = record {
  one_item = λ a b after behind x y same. (one_front MAX_MESSAGE_LEN (a ++ after) a b after behind (record { parts = refl; is = x }) (record { parts = same; is = y })).0;
  one_text = λ start item a b fits is x y. one_of_frame start item a b fits is.within x y;
  one_line = λ start bytes a b fits x y. x.1 ∙ sym y.1;
  bad_not_text = λ start frame rest line text fits bad is t. lacking_not_whole MAX_MESSAGE_LEN (frame ++ rest) frame rest bad.0 (record { parts = refl; is = is });
}

pub one_any_text : (bytes text text' : List ℕ) (fault fault' : Bool) → IsBytes bytes
    → AnyText bytes text fault → AnyText bytes text' fault' → (text ≡ text') × (fault ≡ fault')
one_any_text = one_items_text (frames_of MAX_MESSAGE_LEN) (frames_kind MAX_MESSAGE_LEN) frames_told 0 nothing
