use Rattle.bson_json_read.specs.Leaf.{leaf_of}
use Rattle.bson_json_read.proofs.Written.{long_date}
use Rattle.bson_json_read.proofs.direct.write_long_date.Goals as goal

pub returns-in-Some-date_of : goal.returns-in-Some-date_of
returns-in-Some-date_of c =
    λ is.
    long_date c.args.name.now _ _ _ _ c.in-Some.text.now (leaf_of c.in-Some-date_of.date) (cc (c.if-not-take.ensures, c.in-Some.ensures, c.if-not-take-2.ensures, c.if-not-take-3.ensures)) c.in-Some-date_of.ensures (c.put_leaf.ensures is)
