use Rattle.std.proofs.Common.{◌+◌, ◌++◌, ◌∙◌, List, ℕ}
use Rattle.std.proofs.KnownBytes.{Appends-trans}
use Rattle.bson_text.specs.DumpValues.{inner_end, lines_to}
use Rattle.bson_text.proofs.Lines.{held_written, lines_grouped, lines_so_far}
use Rattle.bson_text.proofs.dump.+write_lines.Goals as goal

pub loop-held-preserved : goal.loop-held-preserved
loop-held-preserved g t c = (
  c.write_to_held.ensures.same ∙ c.loop-held.invariant.0,
  λ whole spelled.
      let left = c.loop-held.invariant.1 whole spelled in
      let stop = rw c.in-Some.is at (c.in_ok-held.ensures.lines left.0 left.2) in
      let inner : List ℕ = lines_to (inner_end c.args.end stop.others) (c.args.deep + 1) stop.inner in
      let others : List ℕ = lines_to c.args.end c.args.deep stop.others in (
        stop.others,
        left.1 ++ (stop.text ++ inner),
        stop.left,
        Appends-trans _ _ _ left.1 (stop.text ++ inner) left.3
            (Appends-trans _ _ _ stop.text inner stop.written (held_written _ _ c.before_end-held_end.result c.args.end c.bytes_left.result (c.args.deep + 1) stop.inner stop.others c.before_end-held_end.ensures (c.bytes_left.ensures.pairs stop.others stop.left) (c.in_ok-write_lines.ensures stop.inner stop.spelled))),
        lines_so_far (lines_to c.args.end c.args.deep whole) left.1 (stop.text ++ inner) others (lines_to c.args.end c.args.deep left.0) left.4
            (lines_grouped (lines_to c.args.end c.args.deep left.0) stop.text inner others stop.lines),
      ),
)
