use Rattle.std.proofs.Common.{◌≡◌}
use base.Stored.{Coded-set}
use Rattle.bson_elem.specs.{coded_text}
use Rattle.wire_peer.proofs.Lemmas.{of_content}
use Rattle.command_parts.specs.{first_name}
use Rattle.script_rules.proofs.asked.asked_name.Goals as goal

pub returns : goal.returns
returns c =
    of_content c.args.payload {P = λ k. c.name_of.result.now ≡ first_name k.body} (Coded-set coded_text _ _)
    (λ k carries. c.name_of.ensures k.body (c.body.ensures k carries))
