use mathlib.Core.Logic.{∥∥₁_map}
use Rattle.bson_doc.specs.Plain.{plain}
use Rattle.bson_doc.proofs.canon.renumbered.Goals as goal

pub from_spelled-requires : goal.from_spelled-requires
from_spelled-requires c = ∥∥₁_map c.args.document.spelled (λ s. (plain s.0, (c.in_ok-bytes.ensures.written s.0 s.1).0))
