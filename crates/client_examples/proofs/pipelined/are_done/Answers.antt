use Rattle.std.proofs.Common.{◌≡◌, Some, slice_get, subst, arith, inl, inr}
use Rattle.std.proofs.lemmas.Bool.{cases_lt}
use Rattle.wire_model.specs.{Record}
use Rattle.wire_end.specs.{record_of}
use Rattle.client_examples.proofs.pipelined.are_done.Goals as goal

pub loop-number-preserved : goal.loop-number-preserved
loop-number-preserved g c n lt =
    elim (cases_lt n c.loop-number.number) [
      | inl below ↦ c.loop-number.invariant n below
      | inr from ↦
          let r : Record = record_of c.args.end.now.connection c.in-Some.record.now in
          let found : slice_get c.args.end.now.own.records c.loop-number.number ≡ Some r = grind (arith) in
          let same : c.loop-number.number ≡ n = omega arith in
          (r, subst (λ k. slice_get c.args.end.now.own.records k ≡ Some r) same found, grind (arith))
    ]
