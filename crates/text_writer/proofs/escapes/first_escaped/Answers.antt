use Rattle.std.proofs.Common.{◌+◌, ◌-◌, length, arith}
use Rattle.text_writer.proofs.Lanes.{last_look}
use Rattle.text_writer.proofs.escapes.first_escaped.Goals as goal

pub returns : goal.returns
returns c =
    let d = c.args.bytes.now in
    last_look _ d (length d - 16 + 16) (omega arith) c.escaped_in_16-2.ensures
