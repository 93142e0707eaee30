use Rattle.std.proofs.Common.{drop, map}
use Rattle.std.specs.Prelude.{flat_map}
use Rattle.wire_peer.specs.{buf_content}
use Rattle.wire_play.specs.Closing.{part_line}
use Rattle.wire_play.proofs.Listings.{Listed}
use Rattle.wire_play.proofs.closing.write_parts.Given as goal

-- what was written, and the lines of the parts that are left, are all lines
abbrev pub invariant-loop-part : goal.invariant-loop-part
invariant-loop-part g l =
    Listed (g.W.Write.contents l.initial.out) (g.W.Write.contents l.out)
    (flat_map part_line (map buf_content l.parts)) (flat_map part_line (map buf_content (drop l.part-index l.parts)))
