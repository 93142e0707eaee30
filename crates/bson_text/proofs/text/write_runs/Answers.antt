use Rattle.std.proofs.Common.{sym}
use Rattle.bson_text.specs.Text.{escaped}
use Rattle.text_writer.proofs.Lemmas.{run_written, runs_end}
use Rattle.bson_text.proofs.Quoted.{plain_kept}
use Rattle.bson_text.proofs.text.write_runs.Goals as goal

pub loop-at-preserved : goal.loop-at-preserved
loop-at-preserved g c =
    run_written escaped plain_kept _ _ _ _ _ _ _ _ c.in-Some.at (sym c.in-Some.ensures)
    c.split_at.ensures.front c.split_at.ensures.by_index.0 c.split_at.ensures.back_len
    c.loop-at.invariant c.in_ok-write_all.ensures.bytes c.in_ok-write_escaped.ensures

pub returns : goal.returns
returns g c =
    runs_end escaped plain_kept _ _ _ _ c.args.bytes.now c.loop-at.rest.now (sym c.in_default.ensures) c.loop-at.invariant c.write_all-2.ensures.bytes
