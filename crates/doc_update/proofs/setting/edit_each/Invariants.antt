use Rattle.std.proofs.Common.{◌≡◌}
use Rattle.doc_update.specs.Setting.{edit_each}
use Rattle.doc_update.proofs.setting.edit_each.Given as goal

abbrev pub invariant-loop-path : goal.invariant-loop-path
invariant-loop-path l = edit_each l.edit l.fn.fields l.fn.document ≡ edit_each l.edit l.path-iterator l.document
