use Rattle.std.proofs.Common.{◌≡◌, ◌-◌, map}
use Rattle.bson_doc.specs.Bson.{value_of}
use Rattle.doc_update.specs.Identity.{free_from, free_number}
use Rattle.doc_update.proofs.identity.free_number.Given as goal

abbrev pub invariant-loop-turn : goal.invariant-loop-turn
invariant-loop-turn l =
    free_from (l.count - l.turn) l.number (map value_of l.held) (map value_of l.added)
    ≡ free_number (map value_of l.held) (map value_of l.added)
