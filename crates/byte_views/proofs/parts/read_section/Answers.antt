use Rattle.std.proofs.Common.{arith}
use Rattle.byte_views.specs.Sections.{ends, of_body, of_kind, of_sequence, past_end}
use Rattle.byte_views.proofs.SectionLaws.{cell_is, is_cell}
use Rattle.byte_views.proofs.parts.read_section.Goals as goal

pub returns-then-at-bytes : goal.returns-then-at-bytes
returns-then-at-bytes c = past_end c.if-at-bytes.true c.wrong.ensures

pub returns-then-at-bytes-2 : goal.returns-then-at-bytes-2
returns-then-at-bytes-2 c = ends c.if-at-bytes-2.true c.new.ensures

pub returns-then-kind-eq0 : goal.returns-then-kind-eq0
returns-then-kind-eq0 c = of_body _ (cell_is c.args.bytes.now c.args.at 0 (omega (arith, c.if-at-bytes.false, c.if-at-bytes-2.false)) c.if-kind-eq0.true) c.read_body.ensures

pub returns-then-kind-eq1 : goal.returns-then-kind-eq1
returns-then-kind-eq1 c = of_sequence _ (cell_is c.args.bytes.now c.args.at 1 (omega (arith, c.if-at-bytes.false, c.if-at-bytes-2.false)) c.if-kind-eq1.true) c.read_sequence.ensures

pub returns : goal.returns
returns c = of_kind _ _ (is_cell c.args.bytes.now c.args.at (omega (arith, c.if-at-bytes.false, c.if-at-bytes-2.false))) c.if-kind-eq0.false c.if-kind-eq1.false c.wrong-2.ensures
