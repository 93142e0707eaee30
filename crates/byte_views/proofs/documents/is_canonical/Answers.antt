use Rattle.std.proofs.Common.{[], sym, append-nil}
use Rattle.byte_views.proofs.documents.is_canonical.Goals as goal

pub returns-in-Err : goal.returns-in-Err
returns-in-Err c = (λ no. absurd cc, λ is. absurd (c.in-Err.ensures.only is.0 c.args.bytes.now [] is.1 (sym (append-nil c.args.bytes.now))))
