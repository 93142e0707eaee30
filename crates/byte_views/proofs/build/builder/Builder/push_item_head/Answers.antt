use Rattle.std.proofs.Common.{List, ℕ, subst}
use Rattle.byte_views.specs.Appends.{IsPushed}
use Rattle.byte_views.specs.Builders.{pair_bytes}
use Rattle.byte_views.specs.BuildFilling.{filled}
use Rattle.byte_views.proofs.build.builder.Builder.push_item_head.Goals as goal

pub returns-clause-pushed : goal.returns-clause-pushed
returns-clause-pushed c = λ value is.
    let b = c.args.self.now in let w = c.push_head.result in let after = c.push_head.new.self in
    subst (λ (n : List ℕ). IsPushed c.args.room.now b (pair_bytes c.args.kind n value) (filled w after value c.push_head.new.room) after w) c.index_name-index.ensures.text (c.push_head.ensures.pushed value is)
