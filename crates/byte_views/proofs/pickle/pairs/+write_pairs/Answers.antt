use Rattle.std.proofs.Common.{◌+◌, ◌++◌, ◌∙◌, arith}
use Rattle.std.proofs.KnownBytes.{Appends-trans}
use Rattle.bson_raw.proofs.Lemmas.{count_fits}
use Rattle.byte_views.specs.Pickles.{closing, pairs_pickle}
use Rattle.byte_views.proofs.PickleLaws.{closed_written, names_le}
use Rattle.byte_views.proofs.pickle.pairs.+write_pairs.Goals as goal

pub overflow_add-names : goal.overflow_add-names
overflow_add-names g t c =
    count_fits (c.loop-passed.names + c.in_ok-passed.passed) c.args.document.bytes.now c.args.document.spelled (λ whole spelled.
    let left = c.loop-passed.invariant.so_far whole spelled in
    omega (arith, left.5, c.in_ok-passed.ensures.fewer left.0 left.2, names_le c.args.holder whole))

pub overflow_add-names-in-loop-passed : goal.overflow_add-names-in-loop-passed
overflow_add-names-in-loop-passed g t c =
    count_fits (c.loop-passed.names + c.in_ok-passed.passed + c.in_ok-names.field-0) c.args.document.bytes.now c.args.document.spelled (λ whole spelled.
    let left = c.loop-passed.invariant.so_far whole spelled in
    let stop = rw c.in-Some.is at (c.in_ok-passed.ensures.pairs left.0 left.2) in
    let inside = c.in_ok-names.ensures stop.inner stop.spelled in
    omega (arith, left.5, stop.counted, inside.0, names_le c.args.holder whole))

pub loop-passed-preserved : goal.loop-passed-preserved
loop-passed-preserved g t c = record {
  walked = c.write_to_held.ensures.same ∙ c.loop-passed.invariant.walked;
  so_far = λ whole spelled.
      let left = c.loop-passed.invariant.so_far whole spelled in
      let stop = rw c.in-Some.is at (c.in_ok-passed.ensures.pairs left.0 left.2) in
      let inside = c.in_ok-names.ensures stop.inner stop.spelled in
      let pairs = pairs_pickle c.in-Some.held.kind stop.inner in
      let closed = closing c.in-Some.held.kind in (
        stop.others,
        left.1 ++ (stop.text ++ (pairs ++ closed)),
        stop.left,
        Appends-trans _ _ _ left.1 (stop.text ++ (pairs ++ closed)) left.3
            (Appends-trans _ _ _ stop.text (pairs ++ closed) stop.written
            (Appends-trans _ _ _ pairs closed inside.1 c.in_ok-write_closing.ensures)),
        closed_written (pairs_pickle c.args.holder whole) stop.text pairs closed (pairs_pickle c.args.holder stop.others) left.1 (pairs_pickle c.args.holder left.0) left.4 stop.whole,
        omega (arith, left.5, stop.counted, inside.0),
      );
}
