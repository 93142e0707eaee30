use Rattle.std.proofs.Common.{◌≡◌, ◌+◌, ◌-◌, ◌*◌, drop, map}
use Rattle.json.specs.Value.{items_view, members_view}
use Rattle.bson_doc.specs.Bson.{value_of}
use Rattle.bson_json_read.specs.Values.{array_read, document_read, items_read, pairs_read, value_read}
use Rattle.bson_json_read.proofs.value.+read.Given as goal

abbrev pub decreases-read_document : goal.decreases-read_document
decreases-read_document l = 5 * l.room

abbrev pub decreases-read_array : goal.decreases-read_array
decreases-read_array l = 5 * l.room

abbrev pub decreases-read_items : goal.decreases-read_items
decreases-read_items l = 5 * l.room + 1

abbrev pub decreases-read_code : goal.decreases-read_code
decreases-read_code l = 5 * l.room + 1

abbrev pub decreases-read_object : goal.decreases-read_object
decreases-read_object l = 5 * l.room + 2

abbrev pub decreases-read_value : goal.decreases-read_value
decreases-read_value l = 5 * l.room + 3

abbrev pub decreases-read_pair : goal.decreases-read_pair
decreases-read_pair l = 5 * l.room + 4

abbrev pub decreases-read_item : goal.decreases-read_item
decreases-read_item l = 5 * l.room + 4

abbrev pub invariant-read_document-loop-member : goal.invariant-read_document-loop-member
invariant-read_document-loop-member l =
    document_read l.room (members_view l.members) ≡ pairs_read (value_read (l.room - 1)) l.document (members_view (drop l.member-index l.members))

abbrev pub invariant-read_array-loop-item : goal.invariant-read_array-loop-item
invariant-read_array-loop-item l =
    array_read l.room (items_view l.items) ≡ items_read (value_read (l.room - 1)) (map value_of l.values.items) (items_view (drop l.item-index l.items))
