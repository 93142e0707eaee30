use Rattle.std.proofs.Common.{◌∷◌, ◌+◌, ◌-◌, ◌*◌}
use Rattle.std.specs.Str.{IsUtf8}
use Rattle.json.specs.Token.{Token}
use Rattle.bson_json_read.specs.Sources.{left_of}
use Rattle.bson_json_read.specs.Seen.{Keeps}
use Rattle.bson_json_read.proofs.Progress.{ItemsSoFar, MembersSoFar}
use Rattle.bson_json_read.proofs.direct.+write.Given as goal

abbrev pub decreases-write_members : goal.decreases-write_members
decreases-write_members l = 5 * l.room

abbrev pub decreases-write_items : goal.decreases-write_items
decreases-write_items l = 5 * l.room

abbrev pub decreases-write_object : goal.decreases-write_object
decreases-write_object l = 5 * l.room + 1

abbrev pub decreases-write_array : goal.decreases-write_array
decreases-write_array l = 5 * l.room + 1

abbrev pub decreases-write_value : goal.decreases-write_value
decreases-write_value l = 5 * l.room + 2

abbrev pub decreases-write_member : goal.decreases-write_member
decreases-write_member l = 5 * l.room + 3

abbrev pub decreases-write_item : goal.decreases-write_item
decreases-write_item l = 5 * l.room + 3

abbrev pub invariant-write_members-loop : goal.invariant-write_members-loop
invariant-write_members-loop l =
    MembersSoFar (l.room - 1) l.offset (Token.key l.fn.first ∷ left_of l.fn.left) (Token.key l.name ∷ left_of l.left) l.seen l.fn.out.items l.out.items × IsUtf8 l.name × Keeps l.fn.seen l.seen

abbrev pub invariant-write_items-loop-index : goal.invariant-write_items-loop-index
invariant-write_items-loop-index l = ItemsSoFar (l.room - 1) (left_of l.fn.left) (left_of l.left) l.index l.fn.out.items l.out.items × Keeps l.fn.seen l.seen
