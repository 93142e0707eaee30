use Rattle.std.proofs.Common.{◌≡◌, length, arith, sym, subst}
use Rattle.std.proofs.lemmas.Bool.Decides.{nat_tests}
use Rattle.wire_msg.specs.declared.fault.MsgFault.{MsgFault}
use Rattle.wire_msg.specs.Faults.{DocumentsFault}
use Rattle.wire_msg.proofs.DocumentLaws.{one_more, fault_after}
use Rattle.wire_msg.proofs.sequence.check_documents.Goals as goal

pub loop-rest-preserved : goal.loop-rest-preserved
loop-rest-preserved c = one_more c.args.bytes.now c.loop-rest.rest.now _ c.in-Ok.after.now c.loop-rest.invariant c.in-Ok.ensures.found.1 c.in-Ok.ensures.found.0

pub returns-in-Err : goal.returns-in-Err
returns-in-Err c =
    let some : length c.loop-rest.rest.now ≡ 0 → ⊥ = λ e. grind (arith, nat_tests) in
    subst (λ (f : MsgFault). DocumentsFault c.args.start c.args.bytes.now f) (sym c.fault_at.ensures)
    (fault_after c.args.start c.args.bytes.now c.loop-rest.rest.now c.in-Err.inner c.loop-rest.invariant some c.in-Err.ensures.fault)
