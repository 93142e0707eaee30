use Rattle.std.proofs.Common.{◌≡◌, ℕ, List}
use Rattle.bson_stream.specs.SalvagedParts.{ToldParts}
use Rattle.bson_stream.specs.Salvagers.{left_of}
use Rattle.bson_stream.proofs.salvage.take_parts.Given as goal

-- the parts that were told were put behind those of before
abbrev pub invariant-loop-gap : goal.invariant-loop-gap
invariant-loop-gap l = record {
  told : (fed : List ℕ) → ToldParts l.ended fed l.fn.salvager l.fn.found.items → ToldParts l.ended fed l.salvager l.found.items;
  limit : l.salvager.limit ≡ l.fn.salvager.limit;
}

abbrev pub decreases-loop-gap : goal.decreases-loop-gap
decreases-loop-gap l = left_of l.salvager
