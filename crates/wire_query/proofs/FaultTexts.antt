-- The text of most faults.
use Rattle.std.proofs.Common.{◌≡◌, ℕ, ℤ, ◌++◌, refl}
use Rattle.std.specs.Prelude.{codes}
use Rattle.std.specs.Fmt.{decimal}
use Rattle.bson_elem.specs.declared.fault.BsonFault.{BsonFault}
use Rattle.wire_query.specs.declared.fault.QueryCause.{QueryCause}
use Rattle.wire_query.specs.declared.fault.QueryCause.TheVariants as causes
use Rattle.wire_query.specs.Causes.{cause_number, cause_name}
use Rattle.wire_query.specs.FaultText.{query_fault_text}

pub plain_text : (at : ℕ) (c : QueryCause) → ((n : ℤ) → c ≡ causes.Opcode n → ⊥) → ((f : BsonFault) → c ≡ causes.Document f → ⊥)
    → query_fault_text at c ≡ codes "fault " ++ (decimal (cause_number c) ++ (codes " " ++ (cause_name c ++ (codes " at " ++ decimal at))))
plain_text at causes.Length o d = refl
plain_text at (causes.Opcode n) o d = absurd (o n refl)
plain_text at causes.Truncated o d = refl
plain_text at causes.Flags o d = refl
plain_text at causes.Name o d = refl
plain_text at causes.Collection o d = refl
plain_text at causes.Skip o d = refl
plain_text at causes.Count o d = refl
plain_text at (causes.Document f) o d = absurd (d f refl)
plain_text at causes.TrailingBytes o d = refl
plain_text at causes.RepeatedField o d = refl
