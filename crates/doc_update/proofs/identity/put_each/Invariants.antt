use Rattle.std.proofs.Common.{◌≡◌}
use Rattle.doc_update.specs.Identity.{put_each}
use Rattle.doc_update.proofs.identity.put_each.Given as goal

abbrev pub invariant-loop-name : goal.invariant-loop-name
invariant-loop-name l = put_each l.fn.fields l.fn.document ≡ put_each l.name-iterator l.document
