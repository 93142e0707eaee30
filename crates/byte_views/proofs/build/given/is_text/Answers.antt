use Rattle.std.proofs.Common.{arith}
use Rattle.byte_views.proofs.PlainBytes.{plain_utf8}
use Rattle.byte_views.proofs.build.given.is_text.Goals as goal

pub returns-then-is_plain-clause-yes : goal.returns-then-is_plain-clause-yes
returns-then-is_plain-clause-yes c = λ e. record { is_text = plain_utf8 c.args.bytes.now (c.is_plain.ensures e); short = omega (arith, c.if-bytes-ge-MAX_LEN.false) }
