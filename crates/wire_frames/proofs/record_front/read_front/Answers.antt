use Rattle.std.proofs.Common.{List, ℕ, subst, sym}
use Rattle.wire_frames.specs.Records.{IsWholeRecord}
use Rattle.wire_frames.proofs.RecordItems.{to_fault, to_record, to_wants, to_whole}
use Rattle.wire_frames.proofs.record_front.read_front.Goals as goal

pub from_good-requires : goal.from_good-requires
from_good-requires c =
    let r = to_record _ _ c.in-Whole.ensures.first.is in
    record { long = r.head; good = r.good; framed = r.message.framed }

pub returns-in-Whole : goal.returns-in-Whole
returns-in-Whole c = subst (λ (x : List ℕ). IsWholeRecord c.args.limit c.args.bytes.now x c.in-Whole.rest.now) (sym c.from_good.ensures) (to_whole _ _ _ _ c.in-Whole.ensures.first)

pub returns-in-Open : goal.returns-in-Open
returns-in-Open c = to_wants _ _ _ c.in-Open.ensures.first

pub returns-in-Bad : goal.returns-in-Bad
returns-in-Bad c = to_fault _ _ _ c.in-Bad.ensures.first
