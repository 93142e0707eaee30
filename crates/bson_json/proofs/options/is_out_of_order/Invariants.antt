use Rattle.std.proofs.Common.{take}
use Rattle.bson_json.proofs.Ordered.{IsInOrder}
use Rattle.bson_json.proofs.Rising.{IsLast}
use Rattle.bson_json.proofs.options.is_out_of_order.Given as goal

abbrev pub invariant-loop-c : goal.invariant-loop-c
invariant-loop-c l = IsInOrder (take l.c-index l.options) l.last × IsLast l.options l.c-index l.last
