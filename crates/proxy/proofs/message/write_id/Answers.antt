use Rattle.std.proofs.Common.{FitsSigned, refl, rules}
use Rattle.std.specs.Int.{w32}
use Rattle.std.proofs.lemmas.Int.{to_z-of_z}
use Rattle.proxy.proofs.Showing.{id_written}
use Rattle.proxy.proofs.message.write_id.Goals as goal

pub returns : goal.returns
returns g c =
    let fits : FitsSigned w32 c.args.header.id = search rules in
    id_written c.write.result _ _ _ _ c.args.header refl (to_z-of_z w32 c.args.header.id fits) c.write.ensures.bytes
