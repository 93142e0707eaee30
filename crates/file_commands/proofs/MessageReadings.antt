-- Messages, as items of one kind.
use Rattle.std.proofs.Common.{◌++◌, ℕ, List, refl, arith}
use Rattle.wire_msg.specs.Standing.{IsWhole, in_header}
use Rattle.wire_msg.specs.{IsMessage}
use Rattle.wire_msg.proofs.Lemmas.{bad_longer, open_not_bad, open_not_whole}
use Rattle.file_commands.specs.declared.msg.MessageForm.{MessageForm}
use Rattle.file_commands.specs.Msg.{messages_of}
use Rattle.file_commands.proofs.ItemReadings.{IsKind}

-- a message is in front of what follows it
abbrev pub whole_front : (limit : ℕ) (front rest : List ℕ) (is : IsMessage limit front) → IsWhole limit (front ++ rest) is.1.0 rest
whole_front limit front rest is = record { front = front; parts = refl; spelled = is.1.1; within = is.0 }

pub messages_kind : (form : MessageForm) (limit : ℕ) → IsKind (messages_of form limit)
messages_kind form limit = record {
  nothing_open = in_header (omega arith);
  open_not_bad = λ start bytes line o bad. open_not_bad limit bytes bad.0 o bad.1;
  open_not_item = λ front rest o is. open_not_whole limit (front ++ rest) rest is.1.0 o (whole_front limit front rest is);
  bad_longer = λ start bytes more line bad. (bad.0, bad_longer limit bytes more bad.0 bad.1, bad.2);
}
