use Rattle.byte_views.proofs.PlainBytes.{plain_name}
use Rattle.byte_views.proofs.build.given.is_name.Goals as goal

pub returns-then-is_plain-clause-yes : goal.returns-then-is_plain-clause-yes
returns-then-is_plain-clause-yes c = λ e. plain_name c.args.bytes.now (c.is_plain.ensures e)
