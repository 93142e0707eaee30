use Rattle.std.proofs.Common.{◌≡◌, drop}
use Rattle.json.specs.Value.{members_view}
use Rattle.bson_json_read.specs.Forms.{form_in}
use Rattle.bson_json_read.proofs.members.form_among.Given as goal

abbrev pub invariant-loop-member : goal.invariant-loop-member
invariant-loop-member l = form_in (members_view (drop l.member-index l.members)) ≡ form_in (members_view l.members)
