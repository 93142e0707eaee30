use Rattle.std.proofs.Common.{◌+◌, arith, refl}
use Rattle.bson_json_read.proofs.HeldLemmas.{moved_to}
use Rattle.bson_json_read.proofs.text_reader.TextReader.pass.Goals as goal

pub returns-clause-moved : goal.returns-clause-moved
returns-clause-moved c =
    let i = c.self.inside in
    let within = rw (← c.self.view_is) at c.requires in
    rw (← c.self.view_is) (moved_to _ _ i.place.line i.place.column i.at (i.at + c.args.begun.passed + c.args.len) (c.args.begun.passed + c.args.len) i.bytes.items (omega arith) within refl refl refl refl)
