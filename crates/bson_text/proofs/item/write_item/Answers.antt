use Rattle.bson_elem.specs.Items.{item_kind}
use Rattle.bson_raw.specs.Pairs.{leaf_value}
use Rattle.bson_text.proofs.Items.{leaf_item}
use Rattle.bson_text.proofs.item.write_item.Goals as goal

pub returns-in_default : goal.returns-in_default
returns-in_default g c = λ next.
    let l = leaf_item next c.args.item c.in_default.not-Document c.in_default.not-Array c.in_default.not-CodeWithScope in
    rw l.1 (c.write_value.ensures (leaf_value (item_kind c.args.item) l.0) (c.of_item.ensures (leaf_value (item_kind c.args.item) l.0) l.2))
