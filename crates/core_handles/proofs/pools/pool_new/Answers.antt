use Rattle.std.proofs.Common.{refl, sym, ◌∙◌}
use Rattle.core_handles.specs.Pooling.{in_use, is_put, is_refused}
use Rattle.core_handles.proofs.Answering.{there_is_none, there_is_one}
use Rattle.core_handles.proofs.pools.pool_new.Goals as goal

pub returns-then-core : goal.returns-then-core
returns-then-core c = in_use (there_is_one c.args.core.now.handle.core (sym c.args.core.now.known ∙ c.if-core.true)) refl refl

pub returns-in-Ok : goal.returns-in-Ok
returns-in-Ok c =
    is_put c.in-Ok.pool (there_is_none c.args.core.now.handle.core (sym c.args.core.now.known ∙ c.if-core.false)) c.in-Ok.ensures c.put_new.ensures

pub returns-in-Err : goal.returns-in-Err
returns-in-Err c =
    let none = there_is_none c.args.core.now.handle.core (sym c.args.core.now.known ∙ c.if-core.false) in
    is_refused c.in-Err.refusal none c.in-Err.ensures none c.pool_number.ensures
