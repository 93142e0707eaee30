use Rattle.file_commands.specs.Any.{AnyText}
use Rattle.file_commands.specs.Msg.{MsgText}
use Rattle.file_commands.specs.declared.msg.MessageForm.TheVariants.{Text}
use Rattle.file_commands.proofs.FrameLaws.{one_any_text}
use Rattle.file_commands.proofs.MessageLaws.{one_msg_text}
use Rattle.file_commands.proofs.RecordLaws.{one_text_or_records}
use Rattle.file_commands.proofs.laws.one_text_of_records.Goals as goal

pub returns : goal.returns
returns c = record {
  messages = λ bytes text other fault other_fault fits.
      one_text_or_records (MsgText Text) bytes fits (λ a b f g x y. one_msg_text bytes a b f g fits x y) text other fault other_fault;
  frames = λ bytes text other fault other_fault fits.
      one_text_or_records AnyText bytes fits (λ a b f g x y. one_any_text bytes a b f g fits x y) text other fault other_fault;
}
