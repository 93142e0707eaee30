use Rattle.std.proofs.Common.{refl, sym, w32, ◌∙◌}
use Rattle.std.proofs.lemmas.Int.{to_z-of_z}
use Rattle.core_handles.specs.Making.{in_use}
use Rattle.core_handles.proofs.Answering.{client_is_put, client_is_refused, there_is_none, there_is_one}
use Rattle.core_handles.proofs.clients.client_new.Goals as goal

pub returns-then-core : goal.returns-then-core
returns-then-core c = in_use (there_is_one c.args.core.now.handle.core (sym c.args.core.now.known ∙ c.if-core.true)) refl refl

pub returns-in-Ok : goal.returns-in-Ok
returns-in-Ok c =
    client_is_put _ c.args.first_id c.args.window c.args.limit c.args.core.now.handle.core c.put_new.new.self.handle.core c.in-Ok.client c.put_new.result
    (to_z-of_z w32 c.args.first_id c.ranges.first_id)
    (there_is_none c.args.core.now.handle.core (sym c.args.core.now.known ∙ c.if-core.false)) c.in-Ok.ensures.0 c.in-Ok.ensures.1 c.put_new.ensures

pub returns-in-Err : goal.returns-in-Err
returns-in-Err c =
    client_is_refused _ c.args.first_id c.args.window c.args.limit c.args.core.now.handle.core c.in-Err.refusal c.setup_number.result
    (to_z-of_z w32 c.args.first_id c.ranges.first_id)
    (there_is_none c.args.core.now.handle.core (sym c.args.core.now.known ∙ c.if-core.false)) c.in-Err.ensures c.setup_number.ensures
