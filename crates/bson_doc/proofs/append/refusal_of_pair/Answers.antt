use Rattle.std.proofs.Common.{◌+◌, length}
use Rattle.bson_doc.specs.Bson.{value_of}
use Rattle.bson_doc.specs.Values.{element_bytes}
use Rattle.bson_elem.specs.declared.number.TheConstants.{MAX_LEN}
use Rattle.bson_doc.proofs.Rooms.{room_behind}
use Rattle.bson_doc.proofs.append.refusal_of_pair.Goals as goal

pub returns : goal.returns
returns c =
    let count = length (element_bytes c.args.name.now (value_of c.args.value.now)) in
    c.refusal_of.ensures MAX_LEN (c.args.len + count) (room_behind MAX_LEN c.in-Some.room c.args.len count c.room_after_pair.result c.in-Some.ensures c.room_after_pair.ensures)
