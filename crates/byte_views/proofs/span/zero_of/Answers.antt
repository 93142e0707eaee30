use Rattle.byte_views.proofs.SpanLaws.{first_zero}
use Rattle.byte_views.proofs.span.zero_of.Goals as goal

pub returns : goal.returns
returns c = first_zero c.args.bytes.now c.memchr.result c.memchr.ensures
