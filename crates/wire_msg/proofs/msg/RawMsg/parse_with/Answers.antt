use Rattle.wire_msg.proofs.ParseLaws.{parsed}
use Rattle.wire_msg.proofs.msg.RawMsg.parse_with.Goals as goal

pub returns : goal.returns
returns c =
    let p = parsed c.args.limit c.args.bytes.now c.read.result (λ i. (c.type_inv.bytes i).fits) c.read.ensures in
    record { found = p.found; only = p.only; fault = p.fault; exact = p.exact; inside = p.inside }
