use Rattle.std.proofs.Common.{◌≡◌, []}
use Rattle.bson_doc.specs.Document.{tree_of}
use Rattle.doc_stages.proofs.Keeping.{put_kept}
use Rattle.doc_stages.proofs.projection.kept.Given as goal

abbrev pub invariant-loop-name : goal.invariant-loop-name
invariant-loop-name l = put_kept (tree_of l.projection) l.document [] ≡ put_kept (tree_of l.projection) l.name-iterator l.fields
