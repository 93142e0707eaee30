use Rattle.std.proofs.Common.{◌∙◌, [], ap}
use Rattle.json.specs.Json.{boolean, null, number}
use Rattle.json.specs.Reads.{token_of}
use Rattle.json.specs.declared.token.Token.{Token}
use Rattle.bson_elem.specs.declared.kinds.Kind.TheVariants as kinds
use Rattle.bson_elem.specs.Trees.{boolean_value, raw_value}
use Rattle.bson_raw.specs.Pairs.{leaf_value}
use Rattle.bson_json_read.specs.Direct.{leaf_json}
use Rattle.bson_json_read.proofs.Walking.{value_at}
use Rattle.bson_json_read.proofs.Written.{leaf_put}
use Rattle.bson_json_read.proofs.direct.write_word.Goals as goal

pub returns-in-Some : goal.returns-in-Some
returns-in-Some c =
    let s = c.in-Number.text.now in
    λ is. leaf_put (token_of c.args.token) (number s) _ _ _ _ (ap (λ (n : Token). leaf_json (token_of n)) c.in-Number.is) (λ room. value_at room (number s) ∙ c.in-Some.ensures) (c.put_leaf.ensures is)

pub returns-in-Bool : goal.returns-in-Bool
returns-in-Bool c =
    let b = c.in-Bool.truth in
    λ is. leaf_put (token_of c.args.token) (boolean b) (leaf_value kinds.Boolean (boolean_value b)) _ _ _ (ap (λ (n : Token). leaf_json (token_of n)) c.in-Bool.is) (λ room. value_at room (boolean b)) (c.put_leaf-in-Bool.ensures is)

pub returns-in-Null : goal.returns-in-Null
returns-in-Null c =
    λ is. leaf_put (token_of c.args.token) null (leaf_value kinds.Null (raw_value [])) _ _ _ (ap (λ (n : Token). leaf_json (token_of n)) c.in-Null.is) (λ room. value_at room null) (c.put_leaf-in-Null.ensures is)
