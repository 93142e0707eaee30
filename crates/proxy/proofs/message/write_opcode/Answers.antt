use Rattle.std.proofs.Common.{FitsSigned, rules}
use Rattle.std.specs.Int.{w32}
use Rattle.std.proofs.lemmas.Int.{to_z-of_z}
use Rattle.proxy.proofs.Showing.{opcode_written}
use Rattle.proxy.proofs.message.write_opcode.Goals as goal

pub returns : goal.returns
returns g c =
    let to : FitsSigned w32 c.args.header.response_to = search rules in
    let opcode : FitsSigned w32 c.args.header.opcode = search rules in
    opcode_written c.write.result _ _ _ _ c.args.header (to_z-of_z w32 c.args.header.response_to to) (to_z-of_z w32 c.args.header.opcode opcode) c.write.ensures.bytes
