use Rattle.std.proofs.Common.{◌≡◌, ℤ, inl, inr, refl, ap, arith, rules, w32, to_z, of_z}
use Rattle.wire_msg.specs.Header.{of_length, of_opcode}
use Rattle.wire_msg.specs.declared.fault.MsgCause.TheVariants.{Opcode}
use Rattle.wire_msg.specs.Causes.{msg_fault}
use Rattle.wire_msg.proofs.header.MsgHeader.check.Goals as goal
use Rattle.wire_msg.proofs.header.MsgHeader.check.Goals.{then-self-lt-HEADER_LEN-via-then-self-lt-HEADER_LEN, then-self-lt-HEADER_LEN-via-else-self-lt-HEADER_LEN+then-self-limit}

pub returns-then-self-lt-HEADER_LEN : goal.returns-then-self-lt-HEADER_LEN
returns-then-self-lt-HEADER_LEN c =
    elim c.then-self-lt-HEADER_LEN.branch [
      | then-self-lt-HEADER_LEN-via-then-self-lt-HEADER_LEN w ↦ of_length (inl (omega arith)) refl
      | then-self-lt-HEADER_LEN-via-else-self-lt-HEADER_LEN+then-self-limit w ↦ of_length (inr (omega arith)) refl
    ]

pub returns-then-opcode-ne-OP_MSG : goal.returns-then-opcode-ne-OP_MSG
returns-then-opcode-ne-OP_MSG c =
    let same : to_z w32 (of_z w32 c.args.self.now.opcode) ≡ c.args.self.now.opcode = search rules in
    of_opcode (omega arith) (omega arith) (λ e. c.if-opcode-ne-OP_MSG.true (ap (of_z w32) e)) (ap (λ (z : ℤ). msg_fault 12 (Opcode z)) same)
