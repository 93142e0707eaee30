use Rattle.std.proofs.Common.{◌≡◌, ◌≢◌, ◌++◌, length, refl, arith}
use Rattle.std.proofs.lemmas.Bool.Decides.{nat_tests}
use Rattle.wire_msg.proofs.RunLaws.{no_runs, used_up, first_of_runs}
use Rattle.wire_msg.proofs.sequence_iter.SequencesIterIterator.next.Goals as goal

pub returns-then-is_empty-clause-steps : goal.returns-then-is_empty-clause-steps
returns-then-is_empty-clause-steps c = λ qs left.
    let none : length c.next_run.result.0.now ≡ 0 = grind (arith, nat_tests) in
    let then_none = c.next_run.ensures.used none in
    let old = c.args.self.now in
    (no_runs c.next_run.result.0.now c.next_run.result.1.now qs none then_none (c.next_run.ensures.runs qs left), used_up old.bytes.now old.then.now (omega (arith, c.next_run.ensures.same, none, then_none)))

pub returns-clause-steps : goal.returns-clause-steps
returns-clause-steps c = λ qs left.
    let some : length c.next_run.result.0.now ≢ 0 = λ e. grind (arith, nat_tests) in
    let r = first_of_runs c.next_run.result.0.now c.next_run.result.1.now qs some (c.next_run.ensures.runs qs left) in
    let p = c.split_sequence.ensures.parts r.sequence r.rest r.fits r.first_are in
    record {
      sequence = r.sequence;
      others = r.rest ++ r.last;
      is_first = r.all;
      identifier_is = p.0;
      documents_are = c.of_known.ensures r.sequence.documents r.fits.0.documents p.1;
      left = record { first = r.rest; last = r.last; first_fit = r.fits.1; last_fit = r.last_fit; first_are = p.2; last_are = r.last_are; all = refl };
    }
