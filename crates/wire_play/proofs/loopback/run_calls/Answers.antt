use Rattle.wire_play.specs.Loopback.{loop_text}
use Rattle.wire_play.proofs.LoopLemmas.{none_yet, nothing_told, run_if, told_of}
use Rattle.wire_play.proofs.loopback.run_calls.Goals as goal

pub returns-in-Err-clause-written : goal.returns-in-Err-clause-written
returns-in-Err-clause-written g c = (loop_text c.args.calls, none_yet (loop_text c.args.calls) _, tt)

pub returns-in_default-clause-written : goal.returns-in_default-clause-written
returns-in_default-clause-written g c = (loop_text c.args.calls, none_yet (loop_text c.args.calls) _, tt)

pub returns-clause-ran : goal.returns-clause-ran
returns-clause-ran g c =
    run_if _ _ c.make_calls.result _ _ _ _ _ _ _ _ c.args.calls c.in-Ok-new.ensures c.make_calls.ensures.made c.make_calls.ensures.client c.make_calls.ensures.server

pub returns-in-Err-clause-told : goal.returns-in-Err-clause-told
returns-in-Err-clause-told g c = nothing_told c.args.calls _

pub returns-in_default-clause-told : goal.returns-in_default-clause-told
returns-in_default-clause-told g c = nothing_told c.args.calls _

pub returns-clause-told : goal.returns-clause-told
returns-clause-told g c =
    told_of _ _ _ _ _ _ _ c.args.calls _ _ c.in-Ok-new.ensures c.make_calls.ensures.told
