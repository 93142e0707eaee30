use Rattle.std.proofs.Common.{rules}
use Rattle.std.specs.Int.{w32}
use Rattle.std.proofs.lemmas.Int.{to_z-of_z}
use Rattle.file_commands.proofs.RecordTexts.{header_written, two_written}
use Rattle.file_commands.proofs.record_text.write_header_front.Goals as goal

pub returns : goal.returns
returns g c =
    let h = c.args.header in
    let two = two_written c.write_named-3.result _ _ _ _ _ c.in_ok-write_named-2.ensures c.write_named-3.ensures in
    header_written c.write_named-3.result _ _ h.length _ h.id _ h.response_to _ h.opcode (to_z-of_z w32 h.id (search rules)) (to_z-of_z w32 h.response_to (search rules)) (to_z-of_z w32 h.opcode (search rules))
    (two_written c.write_named-3.result _ _ _ _ _ c.in_ok-write.ensures.bytes (two_written c.write_named-3.result _ _ _ _ _ c.in_ok-write_named.ensures two))
