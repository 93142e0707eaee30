use Rattle.std.proofs.Common.{refl, sym, ◌∙◌}
use Rattle.core_handles.specs.Making as making
use Rattle.core_handles.proofs.Answering.{there_is_none, there_is_one}
use Rattle.core_handles.proofs.servers.server_new.Goals as goal

pub returns-then-core : goal.returns-then-core
returns-then-core c = making.server_in_use (there_is_one c.args.core.now.handle.core (sym c.args.core.now.known ∙ c.if-core.true)) refl refl

pub returns-in-Ok : goal.returns-in-Ok
returns-in-Ok c =
    making.server_put c.in-Ok.server (there_is_none c.args.core.now.handle.core (sym c.args.core.now.known ∙ c.if-core.false)) c.in-Ok.ensures c.put_new.ensures

pub returns-in-Err : goal.returns-in-Err
returns-in-Err c =
    let none = there_is_none c.args.core.now.handle.core (sym c.args.core.now.known ∙ c.if-core.false) in
    making.server_refused c.in-Err.refusal none c.in-Err.ensures none c.server_setup_number.ensures
