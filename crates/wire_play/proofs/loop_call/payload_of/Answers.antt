use Rattle.std.proofs.Common.{◌≡◌, codes, rules, subst}
use Rattle.std.specs.Prelude.{ℤ, pos}
use mir.Syntax.{w32}
use mir.Val.{of_z, to_z}
use Rattle.bson_elem.specs.{Spells, leaf_pair, no_pairs, number_value}
use Rattle.bson_elem.specs.declared.kinds.Kind.TheVariants.{Int32}
use Rattle.bson_raw.specs.{document_bytes}
use Rattle.wire_play.specs.Calling.{call_body}
use Rattle.wire_play.proofs.loop_call.payload_of.Goals as goal

pub returns-in-Ok-new-clause-body : goal.returns-in-Ok-new-clause-body
returns-in-Ok-new-clause-body c =
    let is : to_z w32 (of_z w32 c.from.result) ≡ pos c.args.number = search rules in
    let bytes = document_bytes c.as_raw.result in
    let spelled : Spells (leaf_pair (codes "n") Int32 (number_value (to_z w32 (of_z w32 c.from.result))) no_pairs) bytes = rw c.as_raw.ensures (c.in-Ok-append.ensures.added no_pairs c.in-Ok.ensures) in
    c.in-Ok-new.ensures.made (call_body c.args.number) (subst (λ (z : ℤ). Spells (leaf_pair (codes "n") Int32 (number_value z) no_pairs) bytes) is spelled)
