-- What most faults display as.
use Rattle.std.proofs.Common.{◌≡◌, ℕ, ℤ, ◌++◌, refl}
use Rattle.std.specs.Prelude.{codes}
use Rattle.std.specs.Fmt.{decimal}
use Rattle.bson_elem.specs.declared.fault.BsonFault.{BsonFault}
use Rattle.wire_msg.specs.declared.fault.MsgCause.{MsgCause}
use Rattle.wire_msg.specs.declared.fault.MsgCause.TheVariants as causes
use Rattle.wire_msg.specs.Causes.{cause_number, cause_name}
use Rattle.wire_msg.specs.FaultText.{cause_text, fault_text}

pub plain_text : (at : ℕ) (c : MsgCause) → ((n : ℤ) → c ≡ causes.Opcode n → ⊥) → ((f : BsonFault) → c ≡ causes.Document f → ⊥)
    → fault_text at c ≡ codes "fault " ++ (decimal (cause_number c) ++ (codes " " ++ (cause_name c ++ (codes " at " ++ decimal at))))
plain_text at causes.Length o d = refl
plain_text at (causes.Opcode n) o d = absurd (o n refl)
plain_text at causes.Flags o d = refl
plain_text at causes.Checksum o d = refl
plain_text at causes.SectionKind o d = refl
plain_text at causes.SectionSize o d = refl
plain_text at (causes.Document f) o d = absurd (d f refl)
plain_text at causes.NoBody o d = refl
plain_text at causes.TwoBodies o d = refl
plain_text at causes.RepeatedField o d = refl
plain_text at causes.SequenceName o d = refl
plain_text at causes.SequenceInBody o d = refl
plain_text at causes.Truncated o d = refl

pub plain_cause : (c : MsgCause) → ((n : ℤ) → c ≡ causes.Opcode n → ⊥) → cause_text c ≡ cause_name c
plain_cause causes.Length o = refl
plain_cause (causes.Opcode n) o = absurd (o n refl)
plain_cause causes.Flags o = refl
plain_cause causes.Checksum o = refl
plain_cause causes.SectionKind o = refl
plain_cause causes.SectionSize o = refl
plain_cause (causes.Document f) o = refl
plain_cause causes.NoBody o = refl
plain_cause causes.TwoBodies o = refl
plain_cause causes.RepeatedField o = refl
plain_cause causes.SequenceName o = refl
plain_cause causes.SequenceInBody o = refl
plain_cause causes.Truncated o = refl
