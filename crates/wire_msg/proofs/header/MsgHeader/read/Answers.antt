use Rattle.std.proofs.Common.{◌≡◌, ◌∙◌, ℕ, ℤ, List, refl, rules, w32, to_z, of_z, arith}
use Rattle.std.proofs.lemmas.Grind.{common_steps}
use Rattle.wire_msg.specs.declared.header.MsgHeader.{MsgHeader}
use Rattle.wire_msg.specs.Header.{number_at, header_of}
use Rattle.wire_msg.proofs.header.MsgHeader.read.Goals as goal

abbrev header : ℕ → ℤ → ℤ → ℤ → MsgHeader
header n id to opcode = record { length = n; id = id; response_to = to; opcode = opcode }

same_header : (bytes : List ℕ) (n : ℕ) (id to opcode : ℤ) → n ≡ number_at bytes 0 → id ≡ to_z w32 (number_at bytes 4) → to ≡ to_z w32 (number_at bytes 8) → opcode ≡ to_z w32 (number_at bytes 12) → header n id to opcode ≡ header_of bytes
same_header bytes n id to opcode a b d e = rw (a, b, d, e) refl

pub returns : goal.returns
returns c =
    let id : to_z w32 (of_z w32 c.read_i32.result) ≡ c.read_i32.result = search rules in
    let to : to_z w32 (of_z w32 c.read_i32-2.result) ≡ c.read_i32-2.result = search rules in
    let opcode : to_z w32 (of_z w32 c.read_i32-3.result) ≡ c.read_i32-3.result = search rules in
    let a : c.read_u32.result ≡ number_at c.args.bytes 0 = grind (arith, common_steps, c.read_u32.ensures) in
    let b : c.read_i32.result ≡ to_z w32 (number_at c.args.bytes 4) = grind (arith, common_steps, c.read_i32.ensures) in
    let d : c.read_i32-2.result ≡ to_z w32 (number_at c.args.bytes 8) = grind (arith, common_steps, c.read_i32-2.ensures) in
    let e : c.read_i32-3.result ≡ to_z w32 (number_at c.args.bytes 12) = grind (arith, common_steps, c.read_i32-3.ensures) in
    same_header c.args.bytes c.read_u32.result _ _ _ a (id ∙ b) (to ∙ d) (opcode ∙ e)
