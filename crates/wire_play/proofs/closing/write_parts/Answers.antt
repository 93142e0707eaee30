use Rattle.std.proofs.lemmas.List.{at_drop_all}
use Rattle.std.proofs.Common.{List, map}
use Rattle.std.specs.Prelude.{flat_map}
use Rattle.wire_msg.specs.declared.payload_buf.PayloadBuf.{PayloadBuf}
use Rattle.wire_peer.specs.{buf_content}
use Rattle.wire_play.specs.Closing.{part_line}
use Rattle.wire_play.proofs.Listings.{flat_more, listed_all, listed_more, none_listed}
use Rattle.wire_play.proofs.closing.write_parts.Goals as goal

pub loop-part-init : goal.loop-part-init
loop-part-init g c = none_listed _ _

pub loop-part-preserved : goal.loop-part-preserved
loop-part-preserved g c =
    listed_more _ _ _ _ _ (part_line (buf_content c.part-item.result)) _ c.loop-part.invariant (c.in_ok-write_part.ensures)
    (flat_more buf_content part_line c.args.parts.now c.loop-part.part-index c.part-item.result c.loop-part-test.true c.part-item.is)

pub returns : goal.returns
returns g c =
    listed_all _ _ _ _ c.loop-part.invariant
    (at_drop_all (λ (ps : List PayloadBuf). flat_map part_line (map buf_content ps)) c.args.parts.now c.loop-part.part-index c.loop-part-test.false)
