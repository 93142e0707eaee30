use Rattle.std.proofs.Common.{◌∙◌, ap, refl, inr}
use Rattle.wire_model.specs.{dropped}
use Rattle.wire_world.specs.Worlds.{WorldSeen}
use Rattle.wire_world.proofs.worlds.World.call.Goals as goal

pub returns-in-Err-OutOfMemory-clause-state : goal.returns-in-Err-OutOfMemory-clause-state
returns-in-Err-OutOfMemory-clause-state g c = (
  c.requires.passes,
  inr (record {
    c = c.args.number;
    is = refl;
    done = c.args.self.now.state;
    part = refl;
    after = ap (λ (v : WorldSeen _). v.state) c.drop_connection.ensures ∙ ap (λ (v : WorldSeen _). dropped v.state c.args.number) c.in-Err-OutOfMemory.ensures.unchanged;
  }),
)
