use Rattle.std.proofs.Common.{◌+◌, ◌-◌, length, arith}
use Rattle.text_writer.proofs.Lanes.{last_look}
use Rattle.text_writer.proofs.escapes.escaped_in_few.Goals as goal

pub returns : goal.returns
returns c =
    let d = c.args.bytes.now in
    last_look _ d (length d - 4 + 4) (omega arith) c.escaped_in_4-2.ensures
