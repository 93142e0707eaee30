-- What the calls of the program ask.
use Rattle.std.specs.Prelude.{ℕ, pos, codes}
use Rattle.bson_elem.specs.{Tree, leaf_pair, no_pairs, number_value}
use Rattle.bson_elem.specs.declared.kinds.Kind.TheVariants.{Int32}

-- the body of a call that asks for so many replies: {"s": number}, an int32
abbrev pub call_body : ℕ → Tree
call_body number = leaf_pair (codes "s") Int32 (number_value (pos number)) no_pairs
